-- The results of an answer, one after the other.
use Rattle.std.specs.Prelude.{ℕ, zero, suc, ◌+◌, List, [], ◌∷◌, Some, None}
use Rattle.octets.specs.Bytes.{part}
use Rattle.answers.specs.declared.results.Piece.TheVariants.{Result, BadFormat}
use Rattle.answers.specs.Results.{result_at}

-- a result: a word with its data, or the code of a Bad format TLV
pub data Reply : Type 0 where
  replied : ℕ → List ℕ → Reply
  bad_format : ℕ → Reply

-- the results from a place on, `n` of them at most: the next place is behind data and word
unfoldable pub told_from : ℕ → ℕ → List ℕ → ℕ → ℕ → List Reply
told_from zero format answer at end = []
told_from (suc n) format answer at end =
    elim (result_at format answer at end) [
      | Some (Result word from count) ↦ replied word (part answer from count) ∷ told_from n format answer (from + count + 2) end
      | Some (BadFormat code place) ↦ bad_format code ∷ []
      | None ↦ []
    ]
