-- Good replies that stand one behind the other are read one by one, up to their end: in AB and in AF, from any turn of the reading on.
-- By induction on the replies: each turn reads one (`turn_read`), as many may still come as there are left (`Enough`: in AB as many as the
-- count says, in AF any number while the words go on), and the turn at the end is given (`Ends`), since there AB and AF differ. Assumes nothing.
use Prim.Native.Nat.{ℕ, zero, suc, ◌+◌, ◌≤◌, ◌<◌}
use mathlib.Core.Path.{◌≡◌, refl, sym, ap, ◌∙◌}
use mathlib.Core.Bool.{Bool, true, false, not, ◌&&◌, false≢true}
use mathlib.Core.List.{List, [], ◌∷◌}
use native.Mathlib.Nat.{not-suc-le-zero}
use native.Mathlib.Omega.{arith}
use lib.Dec.{ltb, eqb}
use lib.ListN.{length, length-append}
use borrow.Author.Tests.{ne_eqb}
use Rattle.std.specs.Prelude.{Some, None, Result, Ok}
use Rattle.octets.specs.Choice.{pick}
use Rattle.octets.specs.Bytes.{byte}
use Rattle.octets.proofs.Picks.{no, le_no, eq_no}
use Rattle.expanded.specs.Expanded as expanded
use Rattle.answers.specs.declared.turns.Turn.{Turn}
use Rattle.answers.specs.Answers.{went_on, left_behind, turned_by, turned, turns_from}
use Rattle.exchange.specs.ReadBack.{Reply, replied, bad_format}
use Rattle.exchange.proofs.Replies.{encoded, all_encoded, GoodReply, AllGood}
use Rattle.exchange.proofs.Places.{Stands, stands-first, stands_second, stands-inside}
use Rattle.exchange.proofs.ReadResult.{piece_of, behind-rapdu, reply_begins, reply_some, made_in, piece_read}

-- the first of good replies, and the others
module _ (r : Reply) where
  pub first_good : (rs : List Reply) → AllGood (r ∷ rs) → (last : Bool) × GoodReply last r
  unfolding AllGood
  first_good [] good = (true, good)
  first_good (next ∷ rs) good = (false, good.0)

  pub others-good : (rs : List Reply) → AllGood (r ∷ rs) → AllGood rs
  unfolding AllGood
  others-good [] good = tt
  others-good (next ∷ rs) good = good.1

-- a turn before which `seen` results were read and `left` may still come
abbrev pub turn_at : ℕ → ℕ → ℕ → Turn
turn_at at seen left = record { at = at; seen = seen; left = left }

-- how many may come behind a reply
unfoldable left_after : Bool → Reply → ℕ → ℕ
left_after definite (replied w d) left = left_behind definite w left
left_after definite (bad_format code) left = 0

-- that `k` more may come: AF names no number
unfoldable pub Enough : Bool → ℕ → ℕ → Type 0
Enough true k left = k ≤ left
Enough false k left = 1 ≤ k → 1 ≤ left

enough-one : (definite : Bool) (k left : ℕ) → Enough definite (suc k) left → 1 ≤ left
unfolding Enough
enough-one true k left h = omega arith
enough-one false k left h = h (omega arith)

enough-next : (definite : Bool) (r : Reply) (rs : List Reply) (left : ℕ) → AllGood (r ∷ rs) → Enough definite (suc (length rs)) left → Enough definite (length rs) (left_after definite r left)
unfolding Enough left_after left_behind AllGood GoodReply pick
enough-next true r [] left good h = omega arith
enough-next false r [] left good h = λ none. absurd (not-suc-le-zero none)
enough-next true (replied w d) (next ∷ rs) left good h = rw (good.0.goes refl) (omega arith)
enough-next false (replied w d) (next ∷ rs) left good h = rw (good.0.goes refl) (λ _. h (omega arith))
enough-next true (bad_format code) (next ∷ rs) left good h = absurd (false≢true good.0.last)
enough-next false (bad_format code) (next ∷ rs) left good h = absurd (false≢true good.0.last)

-- in AB a count above 0 has a result
abbrev pub HasResult : Bool → ℕ → ℕ → Type 0
HasResult definite seen left = definite ≡ true → (eqb seen 0 && ltb 0 left) ≡ false

-- a reading that is good up to a place
abbrev pub ReadTo : ℕ → ℕ → Result Turn ℕ → Type 0
ReadTo place count r = (left : ℕ) × (r ≡ Ok (turn_at place count left))

-- what one reply makes of a turn
piece_turns : (definite : Bool) (at seen left : ℕ) (r : Reply)
    → turned_by definite (turn_at at seen left) (Ok (piece_of at r)) ≡ Ok (Some (turn_at (at + length (encoded r)) (seen + 1) (left_after definite r left)))
unfolding turned_by piece_of went_on left_after encoded expanded.bad_format
piece_turns definite at seen left (replied w d) = ap (λ (place : ℕ). Ok (Some (turn_at place (seen + 1) (left_behind definite w left)))) (behind-rapdu at d w)
piece_turns definite at seen left (bad_format code) = ap (λ (place : ℕ). Ok (Some (turn_at place (seen + 1) 0))) (omega arith)

module _ (answer : List ℕ) (definite : Bool) (end : ℕ) where
  turn_read : (at seen left : ℕ) (r : Reply) (last : Bool) → GoodReply last r → Stands (encoded r) answer at → (definite ≡ true → at + length (encoded r) ≤ end) → 1 ≤ left
      → turned answer definite end (turn_at at seen left) ≡ Ok (Some (turn_at (at + length (encoded r)) (seen + 1) (left_after definite r left)))
  unfolding turned
  turn_read at seen left r last good s fits some =
      let size = reply_some r in
      sym
      (no (definite && eqb at end) _ (made_in definite _ (λ h. ne_eqb at end (λ e. omega (arith, fits h))))
      (le_no (length answer) at _ (omega (arith, stands-inside answer at (encoded r) s))
      (no (not definite && eqb (byte answer at) 0) _ (made_in (not definite) _ (λ _. reply_begins at answer r s))
      (eq_no left 0 _ (λ none. omega arith)
      (sym (ap (turned_by definite (turn_at at seen left)) (piece_read answer definite end at r last good s fits) ∙ piece_turns definite at seen left r))))))

  -- the turn at the place where the replies end
  abbrev pub Ends : ℕ → Type 0
  Ends place = (seen left : ℕ) → HasResult definite seen left → turned answer definite end (turn_at place seen left) ≡ Ok None

  module _ (place : ℕ) (fits : definite ≡ true → place ≤ end) (ends : Ends place) where
    pub turns_read : (n : ℕ) (rs : List Reply) (at seen left : ℕ) → AllGood rs → Stands (all_encoded rs) answer at → at + length (all_encoded rs) ≡ place
        → Enough definite (length rs) left → (length rs ≡ 0 → HasResult definite seen left) → length rs < n
        → ReadTo place (seen + length rs) (turns_from n answer definite end (turn_at at seen left))
    unfolding all_encoded turns_from
    turns_read zero rs at seen left good s e enough one more = absurd (not-suc-le-zero more)
    turns_read (suc n) [] at seen left good s e enough one more =
        let here : at ≡ place = omega arith in
        let all : seen ≡ seen + 0 = omega arith in
        rw (here, ends seen left (one refl), turns_from) (left, λ i. Ok (turn_at (here i) (all i) left))
    turns_read (suc n) (r ∷ rs) at seen left good s e enough one more =
        let size = length-append (encoded r) (all_encoded rs) in
        let first = first_good r rs good in
        let turn =
        turn_read at seen left r first.0 first.1 (stands-first answer at (encoded r) (all_encoded rs) s) (λ h. omega (arith, fits h))
        (enough-one definite (length rs) left enough)
        in
        let others =
        turns_read n rs (at + length (encoded r)) (seen + 1) (left_after definite r left) (others-good r rs good) (stands_second answer at (encoded r) (all_encoded rs) s)
        (omega arith)
        (enough-next definite r rs left good enough)
        (λ _ _. ap (λ (b : Bool). b && ltb 0 (left_after definite r left)) (ne_eqb (seen + 1) 0 (λ h. omega arith)))
        (omega arith)
        in
        let all : seen + 1 + length rs ≡ seen + suc (length rs) = omega arith in
        rw (turn, turns_from) (others.0, others.1 ∙ ap (λ (n : ℕ). Ok (turn_at place n others.0)) all)
