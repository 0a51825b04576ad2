-- What the comparisons of runs of bytes tell, and how each goes on by one byte.
-- The loops that compare keep one equation: the whole test is what was found so far, and the test of what is left. A step takes the
-- first byte off what is left (`zero_more`, `part_more`), and at the end nothing is left (`zero_ends`, `starts_ends`). A comparison
-- in pieces goes on while the pieces are the same; the last piece may begin before the bytes that are left, since those it shares
-- with earlier pieces were found the same already (`piece_last`). A search goes on by one place while the run does not begin there
-- (`contains-goes_on`). Assumes nothing.
use mathlib.Core.Path.{◌≡◌, refl, sym, ap, ◌∙◌}
use mathlib.Core.Bool.{Bool, true, false, ◌&&◌, and-false, false≢true, and_assoc, and-true}
use mathlib.Core.List.{List, [], ◌∷◌, ◌++◌}
use Prim.Native.Nat.{ℕ, zero, suc, ◌+◌, ◌-◌, ◌≤◌, ◌<◌}
use native.Mathlib.Nat.{add_assoc, add-zero, zero-add, add-sub_of_le, le_of_suc-le-suc, not-suc-le-zero}
use native.Mathlib.Numerals.{add-one}
use native.Mathlib.Omega.{arith}
use lib.Dec.{eqb}
use lib.ListN.{length, take, drop, drop_of_length-le, length-drop, take-append-drop}
use lib.Seq.{drop-cons, drop-drop, take_all}
use borrow.Author.Tests.{eqb-true, eq-eqb}
use Rattle.octets.specs.Bytes.{byte, part, zeros, all_zero, same, starts_with, contains}
use Rattle.octets.proofs.Picks.{and_left, and_right, and_both, refuted}
use Rattle.octets.proofs.Writes.{part_length}
use Rattle.octets.proofs.Numbers.{byte-part}

pub same_true : (a b : List ℕ) → same a b ≡ true → a ≡ b
unfolding same
same_true [] [] h = refl
same_true [] (y ∷ b) h = absurd (false≢true h)
same_true (x ∷ a) [] h = absurd (false≢true h)
same_true (x ∷ a) (y ∷ b) h = λ i. eqb-true x y (and_left (eqb x y) (same a b) h) i ∷ same_true a b (and_right (eqb x y) (same a b) h) i

pub same_refl : (a : List ℕ) → same a a ≡ true
unfolding same
same_refl [] = refl
same_refl (x ∷ a) = and_both (eqb x x) (same a a) (eq-eqb x x refl) (same_refl a)

pub zero-true : (m : List ℕ) → all_zero m ≡ true → m ≡ zeros (length m)
unfolding all_zero
zero-true [] h = refl
zero-true (x ∷ m) h = λ i. eqb-true x 0 (and_left (eqb x 0) (all_zero m) h) i ∷ zero-true m (and_right (eqb x 0) (all_zero m) h) i

pub zero-zeros : (n : ℕ) → all_zero (zeros n) ≡ true
unfolding all_zero
zero-zeros zero = refl
zero-zeros (suc n) = zero-zeros n

-- gathered byte by byte: what was found before place i, and what is left from there on
pub zero_more : (found : Bool) (m : List ℕ) (i : ℕ) → i < length m → (found && all_zero (drop i m)) ≡ ((found && eqb (byte m i) 0) && all_zero (drop (i + 1) m))
unfolding all_zero
zero_more found m i h = rw (add-one, drop-cons m i 0) (sym (and_assoc found (eqb (byte m i) 0) (all_zero (drop (suc i) m))))

pub zero_ends : (found : Bool) (m : List ℕ) (i : ℕ) → length m ≤ i → (found && all_zero (drop i m)) ≡ found
unfolding all_zero
zero_ends found m i h = rw (drop_of_length-le m h) (and-true found)

-- a comparison, gathered the same way, with the n bytes of a run from one of its places on
module _ {t : Bool} (found : Bool) (m d : List ℕ) (j i : ℕ) (left : t ≡ (found && starts_with (drop j m) (drop i d))) where
  starts_more : j < length m → i < length d → t ≡ ((found && eqb (byte m j) (byte d i)) && starts_with (drop (j + 1) m) (drop (i + 1) d))
  unfolding starts_with
  starts_more h g =
      left
      ∙ (rw (add-one j, add-one i, drop-cons m j 0 h, drop-cons d i 0 g) (sym (and_assoc found (eqb (byte m j) (byte d i)) (starts_with (drop (suc j) m) (drop (suc i) d)))))

  pub starts_ends : length d ≤ i → found ≡ t
  unfolding starts_with
  starts_ends h = sym (left ∙ (rw (drop_of_length-le d h) (and-true found)))

pub part_more : {t : Bool} (found : Bool) (m d : List ℕ) (at from n i : ℕ) → t ≡ (found && starts_with (drop (at + i) m) (drop i (part d from n))) → at + i < length m → i < n → from + n ≤ length d
    → t ≡ ((found && eqb (byte m (at + i)) (byte d (from + i))) && starts_with (drop (at + (i + 1)) m) (drop (i + 1) (part d from n)))
part_more found m d at from n i left h g fits =
    starts_more found m (part d from n) (at + i) i left h (omega (arith, part_length d from n fits)) ∙ rw (byte-part d from n i g, add_assoc at i 1)

-- a run in two pieces stands where each of them does
starts-split : (m a b : List ℕ) → starts_with m (a ++ b) ≡ (starts_with m a && starts_with (drop (length a) m) b)
unfolding starts_with
starts-split m [] b = refl
starts-split [] (y ∷ a) b = refl
starts-split (x ∷ m) (y ∷ a) b = ap (λ (t : Bool). eqb x y && t) (starts-split m a b) ∙ sym (and_assoc (eqb x y) (starts_with m a) (starts_with (drop (length a) m) b))

starts_piece : (m d : List ℕ) (at i n : ℕ) → i + n ≤ length d → starts_with (drop (at + i) m) (drop i d) ≡ (starts_with (drop (at + i) m) (part d i n) && starts_with (drop (at + (i + n)) m) (drop (i + n) d))
starts_piece m d at i n h =
    ap (starts_with (drop (at + i) m)) (sym (take-append-drop n (drop i d)))
    ∙ starts-split (drop (at + i) m) (part d i n) (drop n (drop i d))
    ∙ rw (part_length d i n h, drop-drop n (at + i) m, drop-drop n i d, add_assoc at i n)

-- a comparison piece by piece: the n bytes of the run from place i on, and at last those that end it
module _ (m d : List ℕ) (at i n : ℕ) (left : starts_with (drop at m) d ≡ starts_with (drop (at + i) m) (drop i d)) where
  pub piece_differs : i + n ≤ length d → starts_with (drop (at + i) m) (part d i n) ≡ false → false ≡ starts_with (drop at m) d
  piece_differs h e = sym (left ∙ starts_piece m d at i n h ∙ rw e)

  pub piece_same : i + n ≤ length d → starts_with (drop (at + i) m) (part d i n) ≡ true → starts_with (drop at m) d ≡ starts_with (drop (at + (i + n)) m) (drop (i + n) d)
  piece_same h e = left ∙ starts_piece m d at i n h ∙ rw e

  pub piece_last : (last : ℕ) → last + n ≡ length d → last ≤ i → i ≤ length d → starts_with (drop (at + last) m) (part d last n) ≡ starts_with (drop at m) d
  piece_last last e h g =
      between
      (starts_with (drop at m) d)
      (starts_with (drop at m) (take last d))
      (starts_with (drop (at + last) m) (part d last n))
      (starts_with (drop (at + last) m) (part d last (i - last)))
      (ap (λ (k : ℕ). starts_with (drop k m) d) (sym (add-zero at)) ∙ starts_piece m d at 0 last (omega arith) ∙ rw (zero-add last, add-zero at, ends))
      (rw ends (starts_piece m d at last (i - last) (omega arith) ∙ rw (add-sub_of_le h, ← left)))
    where
      ends : part d last n ≡ drop last d
      ends = take_all n (drop last d) (simp length-drop (omega arith))

      between : (t x b y : Bool) → t ≡ (x && b) → b ≡ (y && t) → b ≡ t
      between t x false y p q = sym (p ∙ and-false x)
      between t x true y p q = sym (and_right y t (sym q))

-- a run that begins with another has its bytes first
pub starts-true : (m d : List ℕ) → starts_with m d ≡ true → take (length d) m ≡ d
unfolding starts_with
starts-true m [] h = refl
starts-true [] (y ∷ d) h = absurd (false≢true h)
starts-true (x ∷ m) (y ∷ d) h = λ i. eqb-true x y (and_left (eqb x y) (starts_with m d) h) i ∷ starts-true m d (and_right (eqb x y) (starts_with m d) h) i

-- so another first byte tells that it does not
pub starts_differs : (m d : List ℕ) (at : ℕ) → 0 < length d → (byte m at ≡ byte d 0 → ⊥) → false ≡ starts_with (drop at m) d
starts_differs m d at h e =
    sym (refuted (starts_with (drop at m) d) (λ q. e (ap (byte m) (sym (add-zero at)) ∙ sym (byte-part m at (length d) 0 h) ∙ ap (λ (l : List ℕ). byte l 0) (starts-true (drop at m) d q))))

-- where the first bytes agree, those behind them tell
pub starts_behind : (m d : List ℕ) (at : ℕ) → at < length m → 0 < length d → byte m at ≡ byte d 0 → starts_with (drop at m) d ≡ starts_with (drop (at + 1) m) (drop 1 d)
starts_behind m d at h g e = starts_more true m d at 0 refl h g ∙ rw (eq-eqb (byte m at) (byte d 0) e)

-- every run begins with the empty one, and none with a longer one
pub starts_empty : (m d : List ℕ) → length d ≡ 0 → true ≡ starts_with m d
unfolding starts_with
starts_empty m [] h = refl
starts_empty m (y ∷ d) h = absurd (omega arith)

pub starts-not : (m d : List ℕ) → starts_with m d ≡ false → 0 < length d
unfolding starts_with
starts-not m [] h = absurd (false≢true (sym h))
starts-not m (y ∷ d) h = omega arith

starts-short : (m d : List ℕ) → length m < length d → starts_with m d ≡ false
unfolding starts_with
starts-short m [] h = absurd (not-suc-le-zero h)
starts-short [] (y ∷ d) h = refl
starts-short (x ∷ m) (y ∷ d) h = ap (λ (b : Bool). eqb x y && b) (starts-short m d (le_of_suc-le-suc h)) ∙ and-false (eqb x y)

-- a run stands in no shorter one; else it begins here or stands behind
pub contains-short : (m d : List ℕ) → length m < length d → contains m d ≡ false
unfolding contains
contains-short [] d h = starts-short [] d h
contains-short (x ∷ m) d h = rw (starts-short (x ∷ m) d h) (contains-short m d (omega arith))

contains-here : (m d : List ℕ) → starts_with m d ≡ true → contains m d ≡ true
unfolding contains
contains-here [] d h = h
contains-here (x ∷ m) d h = rw h

contains-tail : (m d : List ℕ) → starts_with m d ≡ false → contains m d ≡ contains (drop 1 m) d
unfolding contains
contains-tail [] d h = refl
contains-tail (x ∷ m) d h = rw h

-- a search place by place
module _ {t : Bool} (m d : List ℕ) (i : ℕ) (left : t ≡ contains (drop i m) d) where
  pub contains-found : starts_with (drop i m) d ≡ true → true ≡ t
  contains-found h = sym (left ∙ contains-here (drop i m) d h)

  pub contains-goes_on : starts_with (drop i m) d ≡ false → t ≡ contains (drop (i + 1) m) d
  contains-goes_on h = left ∙ rw (← (drop-drop 1 i m)) (contains-tail (drop i m) d h)

  pub contains_ends : length (drop i m) < length d → false ≡ t
  contains_ends h = sym (left ∙ contains-short (drop i m) d h)
