-- Good replies that stand one behind the other up to the results' end are told one by one: each as it was, and behind the last none. By induction
-- on the replies, for as many tellings as there are replies or more. Assumes nothing.
use Prim.Native.Nat.{ℕ, zero, suc, ◌+◌, ◌≤◌}
use mathlib.Core.Path.{◌≡◌, refl, sym, ap, ◌∙◌}
use mathlib.Core.Bool.{true, false≢true}
use mathlib.Core.List.{List, [], ◌∷◌, ◌++◌}
use native.Mathlib.Nat.{not-suc-le-zero}
use native.Mathlib.Omega.{arith}
use lib.ListN.{length, length-append}
use borrow.Author.Tests.{le-leb}
use Rattle.std.specs.Prelude.{Option, Some, None}
use Rattle.std.specs.Result.{result_ok}
use Rattle.octets.specs.Choice.{pick}
use Rattle.octets.specs.Bytes.{part}
use Rattle.octets.proofs.Picks.{yes, lt_no}
use Rattle.answers.specs.declared.results.Piece.{Piece}
use Rattle.answers.specs.declared.results.Piece.TheVariants.{Result, BadFormat}
use Rattle.answers.specs.Results.{piece_at, result_at}
use Rattle.exchange.specs.ReadBack.{Reply, replied, bad_format, told_from}
use Rattle.exchange.proofs.Replies.{encoded, all_encoded, GoodReply, AllGood}
use Rattle.exchange.proofs.Places.{Stands, stands-first, stands_second, stands-inside}
use Rattle.exchange.proofs.ReadResult.{piece_of, data_read_lem, behind-rapdu, piece_read}
use Rattle.exchange.proofs.ReadResults.{first_good, others-good}

module _ (answer : List ℕ) (end : ℕ) where
  -- a result of an expanded answer is a piece before the end
  piece_told_lem : (at : ℕ) → end ≤ length answer → result_at 1 answer at end ≡ result_ok (piece_at answer true end at)
  unfolding result_at pick
  piece_told_lem at inside = sym (lt_no (length answer) end _ inside refl)

  none_told : end ≤ length answer → result_at 1 answer end end ≡ None
  unfolding piece_at
  none_told inside = piece_told_lem end inside ∙ ap result_ok (sym (yes _ _ (rw (le-leb end (end + 1) (omega arith))) refl))

  -- one telling by what is told
  abbrev told_by : ℕ → Option Piece → List Reply
  told_by n t =
      elim t [
        | Some (Result w from count) ↦ replied w (part answer from count) ∷ told_from n 1 answer (from + count + 2) end
        | Some (BadFormat code place) ↦ bad_format code ∷ []
        | None ↦ []
      ]

  told-by : (n at : ℕ) (t : Option Piece) → result_at 1 answer at end ≡ t → told_from (suc n) 1 answer at end ≡ told_by n t
  unfolding told_from
  told-by n at t e = ap (told_by n) e

  -- a first reply and the others
  reply_told : (n at : ℕ) (r : Reply) (rs : List Reply) → AllGood (r ∷ rs) → Stands (encoded r) answer at → result_at 1 answer at end ≡ Some (piece_of at r)
      → told_from n 1 answer (at + length (encoded r)) end ≡ rs → told_from (suc n) 1 answer at end ≡ r ∷ rs
  unfolding piece_of AllGood GoodReply
  reply_told n at (replied w d) rs good here told others =
      told-by n at _ told ∙ rw (behind-rapdu at d w, others, data_read_lem answer at w d (unfold encoded in here))
  reply_told n at (bad_format code) [] good here told others = told-by n at _ told
  reply_told n at (bad_format code) (next ∷ rs) good here told others = absurd (false≢true good.0.last)

  pub told-read : (n : ℕ) (rs : List Reply) (at : ℕ) → AllGood rs → Stands (all_encoded rs) answer at → at + length (all_encoded rs) ≡ end → length rs ≤ n
      → told_from n 1 answer at end ≡ rs
  unfolding all_encoded told_from
  told-read zero [] at good s e more = refl
  told-read zero (r ∷ rs) at good s e more = absurd (not-suc-le-zero more)
  told-read (suc n) [] at good s e more =
      let here : at ≡ end = omega arith in
      rw here (told-by n end None (none_told (omega (arith, stands-inside answer at [] s))))
  told-read (suc n) (r ∷ rs) at good s e more =
      let size = length-append (encoded r) (all_encoded rs) in
      let first = first_good r rs good in
      let here = stands-first answer at (encoded r) (all_encoded rs) s in
      let piece = piece_read answer true end at r first.0 first.1 here (λ _. omega arith) in
      let told = piece_told_lem at (omega (arith, stands-inside answer at (encoded r ++ all_encoded rs) s)) ∙ ap result_ok piece in
      reply_told n at r rs good here told
      (told-read n rs (at + length (encoded r)) (others-good r rs good) (stands_second answer at (encoded r) (all_encoded rs) s) (omega arith) (omega arith))
