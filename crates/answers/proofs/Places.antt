-- Where a reading lies, from the definitions alone: words, lengths, results and turns, in an answer whose numbers are bytes. A reading
-- that stops does so in the answer, and not before the place where it began. Assumes nothing.
use mathlib.Core.Path.{◌≡◌, refl}
use mathlib.Core.Bool.{Bool, true, false, not, ◌&&◌, ◌||◌}
use mathlib.Core.List.{List}
use mathlib.Core.Logic.{⊎_elim}
use Prim.Native.Nat.{ℕ, zero, suc, ◌+◌, ◌-◌, ◌≤◌, ◌<◌}
use native.Mathlib.Omega.{arith}
use lib.Dec.{leb, ltb, eqb}
use lib.ListN.{length, get_or-eq_default}
use borrow.Author.Tests.{leb-true, leb-false, ltb-true, ltb-false, eqb-true}
use Rattle.std.specs.Prelude.{Option, Some, None, Result, Ok, Err}
use Rattle.octets.specs.Choice.{pick}
use Rattle.octets.specs.Bytes.{byte, AllBytes, num_at}
use Rattle.octets.proofs.Picks.{pick_true, pick-false, and_right, on_pick, either}
use Rattle.octets.proofs.Numbers.{num_small}
use Rattle.tlv.specs.Lengths.{wrong_length, length_missing, short_length, long_length, length_at}
use Rattle.tlv.specs.declared.lengths.Length.{Length}
use Rattle.tlv.specs.declared.lengths.Length.TheVariants as lengths
use Rattle.answers.specs.declared.words.Words.{Words}
use Rattle.answers.specs.declared.results.Piece.{Piece}
use Rattle.answers.specs.declared.results.Piece.TheVariants as pieces
use Rattle.answers.specs.declared.turns.Turn.{Turn}
use Rattle.answers.specs.Words.{begins_word, is_word, word_at}
use Rattle.answers.specs.Results.{form_bytes, length_stop, sized_by, sized_at}
use Rattle.answers.specs.Results.{rapdu_ends, words_behind, rapdu_of, bad_format_of, is_tag, value_of, piece_at}
use Rattle.answers.specs.Answers.{went_on, turned_by, definite_end, indefinite_end, turned, turns_from}
use Rattle.answers.specs.Promised.{SizedFits, TurnFits}

-- past the end of a run no byte stands, and one that is not 0 is one of the run
pub no_byte : (bs : List ℕ) (at : ℕ) → length bs ≤ at → byte bs at ≡ 0
no_byte bs at past = get_or-eq_default bs 0 {n = at} past

pub there : (bs : List ℕ) (at : ℕ) → 0 < byte bs at → at < length bs
there bs at some =
    ⊎_elim
    (λ e. ltb-true at (length bs) e)
    (λ e. absurd (omega (arith, no_byte bs at (ltb-false at (length bs) e))))
    (either (ltb at (length bs)))

-- tests joined by or: the second decides, and where neither holds the first does not
or_second : (a b : Bool) → b ≡ true → (a || b) ≡ true
or_second true b e = refl
or_second false b e = e

pub or_first : (a b : Bool) → (a || b) ≡ false → a ≡ false
or_first true b e = e
or_first false b e = refl

-- ---- words

-- a word that was read at a place; or where its reading stops, not before the place `low`
unfoldable pub WordedFits : ℕ → ℕ → ℕ → Result ℕ ℕ → Type 0
WordedFits size low at (Ok word) = (at + 2 ≤ size) × (word < 65536)
WordedFits size low at (Err place) = (low ≤ place) × (place ≤ size)

module _ (answer : List ℕ) (bytes : AllBytes answer) where
  pub word_fits :
      (low at : ℕ) (words : Words) → low ≤ at → low ≤ length answer → WordedFits (length answer) low at (word_at words answer at)
  unfolding WordedFits word_at
  word_fits low at words h g =
      on_pick (WordedFits (length answer) low at) (leb (length answer) at) _ _ (λ past. (g, omega arith))
      (λ more.
      let inside = leb-false (length answer) at more in
      on_pick (WordedFits (length answer) low at) (not (begins_word words (byte answer at))) _ _ (λ other. (h, omega arith))
      (λ begins.
      on_pick (WordedFits (length answer) low at) (leb (length answer) (at + 1)) _ _ (λ short. (g, omega arith))
      (λ both.
      let second = leb-false (length answer) (at + 1) both in
      on_pick (WordedFits (length answer) low at) (is_word words (num_at answer at)) _ _
      (λ is. (omega arith, num_small answer at (bytes at) (bytes (at + 1))))
      (λ other. (omega arith, omega arith)))))

-- ---- lengths

-- a length that was read at a place; or where its reading stops
unfoldable pub LengthLies : List ℕ → ℕ → Length → Type 0
LengthLies answer at (lengths.Found n from) = (at < from) × (from ≤ length answer) × (n < 65536)
LengthLies answer at (lengths.Bad code) = (at ≤ length_stop answer at code) × (length_stop answer at code ≤ length answer)

module _ (answer : List ℕ) (at : ℕ) (inside : at ≤ length answer) where
  -- a byte is missing: the reading stops at the answer's end
  missing : LengthLies answer at (lengths.Bad length_missing)
  unfolding LengthLies length_stop pick
  missing = (inside, omega arith)

  -- a wrong length: the reading stops k bytes on, which are there
  stops : (k : ℕ) → form_bytes (byte answer at) ≡ k → at + k ≤ length answer → LengthLies answer at (lengths.Bad wrong_length)
  unfolding LengthLies length_stop pick
  stops k form here = rw form (omega arith, here)

  -- a length n of the form that has k bytes behind its first
  behind : (k least n : ℕ) → form_bytes (byte answer at) ≡ k → n < 65536
      → LengthLies answer at
      (pick (leb (at + 1 + k) (length answer))
      (pick (leb least n) (lengths.Found n (at + 1 + k)) (lengths.Bad wrong_length))
      (lengths.Bad length_missing))
  unfolding LengthLies
  behind k least n form small =
      on_pick (LengthLies answer at) (leb (at + 1 + k) (length answer)) _ _
      (λ here.
      let h = leb-true (at + 1 + k) (length answer) here in
      on_pick (LengthLies answer at) (leb least n) _ _ (λ right. (omega arith, h, small)) (λ wrong. stops k form (omega arith)))
      (λ short. missing)

  pub length_lies : AllBytes answer → LengthLies answer at (length_at answer at (length answer))
  unfolding LengthLies length_at short_length long_length form_bytes
  length_lies bytes =
      on_pick (LengthLies answer at) (leb (at + 1) (length answer)) _ _
      (λ here.
      let h = leb-true (at + 1) (length answer) here in
      let b = bytes at in
      on_pick (LengthLies answer at) (leb (byte answer at) 0x7F) _ _ (λ small. (omega arith, h, omega arith))
      (λ large. on_pick (LengthLies answer at) (eqb (byte answer at) 0x81) _ _
      (λ short. behind 1 0x80 (byte answer (at + 1)) (pick_true _ _ _ short) (omega (arith, bytes (at + 1))))
      (λ other. on_pick (LengthLies answer at) (eqb (byte answer at) 0x82) _ _
      (λ long.
      behind 2 0x0100 (num_at answer (at + 1)) (rw (pick-false _ _ _ other) (pick_true _ _ _ long))
      (num_small answer (at + 1) (bytes (at + 1)) (bytes (at + 1 + 1))))
      (λ wrong. stops 0 (rw (pick-false _ _ _ other) (pick-false _ _ _ wrong)) (omega arith)))))
      (λ none. missing)

  sized_of :
      (definite : Bool) (end : ℕ) (l : Length) → LengthLies answer at l
      → SizedFits (length answer) at (sized_by answer definite end at l)
  unfolding LengthLies SizedFits sized_by
  sized_of definite end (lengths.Found n from) lies =
      on_pick (SizedFits (length answer) at) (not definite || leb (from + n) end) _ _ (λ whole. lies) (λ past. (omega arith, omega arith))
  sized_of definite end (lengths.Bad code) lies = lies

  pub sized-fits : AllBytes answer → (definite : Bool) (end : ℕ) → SizedFits (length answer) at (sized_at answer definite end at)
  unfolding sized_at
  sized-fits bytes definite end = sized_of definite end (length_at answer at (length answer)) (length_lies bytes)

  pub sized_told :
      AllBytes answer → (definite : Bool) (end : ℕ) {s : Result (ℕ × ℕ) ℕ} → s ≡ sized_at answer definite end at
      → (s ≡ sized_at answer definite end at) × SizedFits (length answer) at s
  sized_told bytes definite end e = (e, rw e (sized-fits bytes definite end))

-- ---- results

-- an R-APDU that was read at a place: data and word lie further on in the answer
pub record ResultFits (size at word from count : ℕ) : Type 0 where
  pub further : at + 2 ≤ from
  pub inside : from + count + 2 ≤ size
  pub small : word < 65536
  pub few : count < 65536

unfoldable pub PieceFits : ℕ → ℕ → Result Piece ℕ → Type 0
PieceFits size at (Ok (pieces.Result word from count)) = ResultFits size at word from count
PieceFits size at (Ok (pieces.BadFormat code place)) = (at < place) × (place < size) × (code ≤ 3)
PieceFits size at (Err place) = (at ≤ place) × (place ≤ size)

-- no tag stands past the end
pub past_bad : (answer : List ℕ) (at : ℕ) (definite : Bool) (end : ℕ) → length answer ≤ at → piece_at answer definite end at ≡ Err at
unfolding piece_at
past_bad answer at definite end past =
    pick_true _ _ _ (or_second (definite && leb end (at + 1)) _ (rw (no_byte answer at past)))

ends_fit :
    (size at from count : ℕ) (w : Result ℕ ℕ) → at + 2 ≤ from → count < 65536 → WordedFits size from (from + count) w
    → PieceFits size at (rapdu_ends from count w)
unfolding WordedFits PieceFits rapdu_ends
ends_fit size at from count (Ok word) further few fits =
    record { further = further; inside = fits.0; small = fits.1; few = few }
ends_fit size at from count (Err place) further few fits = (omega arith, fits.1)

module _ (answer : List ℕ) (bytes : AllBytes answer) (at : ℕ) where
  rapdu-fits : (s : Result (ℕ × ℕ) ℕ) → SizedFits (length answer) (at + 1) s → PieceFits (length answer) at (rapdu_of answer s)
  unfolding SizedFits PieceFits rapdu_of
  rapdu-fits (Ok (n, from)) fits =
      on_pick (PieceFits (length answer) at) (ltb n 2) _ _ (λ none. (omega arith, omega arith))
      (λ some.
      ends_fit (length answer) at from (n - 2) _ (omega arith) (omega arith)
      (word_fits answer bytes from (from + (n - 2)) (words_behind (n - 2)) (omega arith) (omega arith)))
  rapdu-fits (Err place) fits = (omega arith, fits.1)

  bad_format-fits : (s : Result (ℕ × ℕ) ℕ) → SizedFits (length answer) (at + 1) s → PieceFits (length answer) at (bad_format_of answer s)
  unfolding SizedFits PieceFits bad_format_of
  bad_format-fits (Ok (n, from)) fits =
      on_pick (PieceFits (length answer) at) (not (eqb n 1)) _ _ (λ other. (omega arith, omega arith))
      (λ one.
      on_pick (PieceFits (length answer) at) (leb (length answer) from) _ _ (λ none. (omega arith, omega arith))
      (λ here.
      let h = leb-false (length answer) from here in
      on_pick (PieceFits (length answer) at) (leb 1 (byte answer from) && leb (byte answer from) 3) _ _
      (λ code. (omega arith, h, leb-true (byte answer from) 3 (and_right (leb 1 (byte answer from)) (leb (byte answer from) 3) code)))
      (λ other. (omega arith, omega arith))))
  bad_format-fits (Err place) fits = (omega arith, fits.1)

  pub piece_fits : (definite : Bool) (end : ℕ) → at < length answer → PieceFits (length answer) at (piece_at answer definite end at)
  unfolding PieceFits piece_at value_of
  piece_fits definite end inside =
      let fits = sized-fits answer (at + 1) (omega arith) bytes definite end in
      on_pick (PieceFits (length answer) at) ((definite && leb end (at + 1)) || not (is_tag (byte answer at))) _ _
      (λ other. (omega arith, omega arith))
      (λ tag. on_pick (PieceFits (length answer) at) (eqb (byte answer at) 0x23) _ _
      (λ rapdu. rapdu-fits _ fits)
      (λ bad. bad_format-fits _ fits))

-- ---- turns

-- after a turn: where it goes on, it is further on, and no bad byte stands before its place
unfoldable pub TurnedFits : ℕ → Turn → Result (Option Turn) ℕ → Type 0
TurnedFits size t (Ok (Some next)) = TurnFits size next × (t.at < next.at)
TurnedFits size t (Ok None) = Unit
TurnedFits size t (Err place) = (t.at ≤ place) × (place ≤ size)

module _ (size : ℕ) (t : Turn) (fits : TurnFits size t) where
  went_on-fits : (place left : ℕ) → t.at < place → place ≤ size → TurnedFits size t (Ok (Some (went_on t place left)))
  unfolding TurnedFits went_on
  went_on-fits place left further inside = (record { inside = inside; seen = omega (arith, fits.seen) }, further)

  turned_by-fits : (definite : Bool) (piece : Result Piece ℕ) → PieceFits size t.at piece → TurnedFits size t (turned_by definite t piece)
  unfolding PieceFits TurnedFits turned_by
  turned_by-fits definite (Ok (pieces.Result word from count)) p = went_on-fits (from + count + 2) _ (omega (arith, p.further)) p.inside
  turned_by-fits definite (Ok (pieces.BadFormat code place)) p = went_on-fits (place + 1) 0 (omega arith) (omega arith)
  turned_by-fits definite (Err place) p = p

-- the turn at the end of a reading from a turn on, or the place of a bad byte; neither stands before the turn's place
unfoldable pub ReadFits : ℕ → Turn → Result Turn ℕ → Type 0
ReadFits size t (Ok last) = TurnFits size last × (t.at ≤ last.at)
ReadFits size t (Err place) = (t.at ≤ place) × (place ≤ size)

further : (size : ℕ) (t next : Turn) (r : Result Turn ℕ) → t.at ≤ next.at → ReadFits size next r → ReadFits size t r
unfolding ReadFits
further size t next (Ok last) h fits = (fits.0, omega (arith, fits.1))
further size t next (Err place) h fits = (omega (arith, fits.0), fits.1)

module _ (answer : List ℕ) (bytes : AllBytes answer) (definite : Bool) (end : ℕ) where
  module _ (t : Turn) (fits : TurnFits (length answer) t) where
    -- 00 in a tag's place
    indefinite_end-fits : t.at < length answer → TurnedFits (length answer) t (indefinite_end answer t)
    unfolding TurnedFits indefinite_end
    indefinite_end-fits inside =
        on_pick (TurnedFits (length answer) t) (ltb (t.at + 1) (length answer) && eqb (byte answer (t.at + 1)) 0) _ _
        (λ both.
        on_pick (TurnedFits (length answer) t) (ltb (t.at + 2) (length answer)) _ _
        (λ more. let h = ltb-true (t.at + 2) (length answer) more in (omega arith, omega arith))
        (λ none. tt))
        (λ other. (omega arith, omega arith))

    pub turned_fits : TurnedFits (length answer) t (turned answer definite end t)
    unfolding TurnedFits turned definite_end
    turned_fits =
        let here = fits.inside in
        on_pick (TurnedFits (length answer) t) (definite && eqb t.at end) _ _
        (λ ends.
        let e = eqb-true t.at end (and_right definite (eqb t.at end) ends) in
        on_pick (TurnedFits (length answer) t) ((eqb t.seen 0 && ltb 0 t.left) || ltb end (length answer)) _ _
        (λ bad. (omega arith, omega arith))
        (λ good. tt))
        (λ on. on_pick (TurnedFits (length answer) t) (leb (length answer) t.at) _ _
        (λ past. (here, omega arith))
        (λ more.
        let inside = leb-false (length answer) t.at more in
        on_pick (TurnedFits (length answer) t) (not definite && eqb (byte answer t.at) 0) _ _
        (λ zeros. indefinite_end-fits inside)
        (λ tag. on_pick (TurnedFits (length answer) t) (eqb t.left 0) _ _
        (λ none. (omega arith, here))
        (λ some. turned_by-fits (length answer) t fits definite _ (piece_fits answer bytes t.at definite end inside)))))

  -- the reading from a turn on: its places lie in the answer, and not before the turn's
  pub turns_fit : (n : ℕ) (t : Turn) → TurnFits (length answer) t → ReadFits (length answer) t (turns_from n answer definite end t)
  unfolding ReadFits TurnedFits turns_from
  turns_fit zero t fits = (omega arith, fits.inside)
  turns_fit (suc n) t fits = go (turned answer definite end t) (turned_fits t fits) (λ next fits. turns_fit n next fits)
    where
      go : (r : Result (Option Turn) ℕ) → TurnedFits (length answer) t r
          → ((next : Turn) → TurnFits (length answer) next → ReadFits (length answer) next (turns_from n answer definite end next))
          → ReadFits (length answer) t (elim r [
            | Ok (Some next) ↦ turns_from n answer definite end next
            | Ok None ↦ Ok t
            | Err place ↦ Err place
          ])
      go (Ok (Some next)) after others = further (length answer) t next _ (omega (arith, after.1)) (others next after.0)
      go (Ok None) after others = (fits, omega arith)
      go (Err place) after others = after
