-- What a write of a run of bytes at a place does: to the memory's length, its parts and its bytes, and beside another write.
-- A write is three runs joined: the bytes in front of it, the new bytes, and those after them. So each fact is one about taking and
-- dropping at a seam: what lies in front or after is as it was, and what lies at the place is the new run. From these come the laws
-- of two writes: at one place the last counts, so old bytes can be given back (`undo`); two that follow each other are one
-- (`write_two`); and two that do not overlap can be swapped (`write_swap`). A run that replaces a lent part is a write (`write_lent`).
-- The last laws make a write out of single stored bytes, one more at a time. Assumes nothing.
use mathlib.Core.Path.{◌≡◌, sym, ap, ◌∙◌}
use mathlib.Core.List.{List, [], ◌∷◌, ◌++◌, append_assoc}
use Prim.Native.Nat.{ℕ, zero, suc, ◌+◌, ◌-◌, ◌≤◌, ◌<◌}
use native.Mathlib.Nat.{add_assoc, add-zero, zero-add, suc-add, add-sub_of_le, add-sub_cancel_left, le_refl}
use native.Mathlib.Numerals.{add-one}
use native.Mathlib.Omega.{arith}
use lib.ListN.{length, set, take, drop, length-append, length-take, length-drop, take-append-drop, get_or-append}
use borrow.Rule.Slice.PartMut.{put_mid}
use lib.Seq.{length-take-le, take-append-le, take-append-add, take-append_seam, drop-append-le, drop-append-add, drop_at, drop-drop, take-take, take-nil, take-add, take-suc, set_split, get_or-take, get_or-drop}
use Rattle.octets.specs.Bytes.{byte, part, overwrite}

-- parts of a memory: one that is lent by where it starts and where it ends
pub part-lent : (m : List ℕ) (p n : ℕ) → part m p (p + n - p) ≡ part m p n
part-lent m p n = ap (part m p) (add-sub_cancel_left p n)

pub part_cut : (a n : ℕ) (m : List ℕ) → part m a n ≡ drop a (take (a + n) m)
part_cut zero n m = rw zero-add
part_cut (suc a) n [] = rw suc-add (take-nil n)
part_cut (suc a) n (x ∷ m) = rw suc-add (part_cut a n m)

pub part_length : (m : List ℕ) (p n : ℕ) → p + n ≤ length m → length (part m p n) ≡ n
part_length m p n fits = simp (length-take, length-drop) (omega arith)

pub part-part : (m : List ℕ) (p n i k : ℕ) → i + k ≤ n → part (part m p n) i k ≡ part m (p + i) k
part-part m p n i k h =
    part_cut i k (part m p n) ∙ ap (drop i) (take-take (i + k) n (drop p m) h) ∙ sym (part_cut i k (drop p m)) ∙ ap (take k) (drop-drop i p m)

-- and a part of a part, lent from the whole
pub lent-part : (m : List ℕ) (p n i k : ℕ) → i + k ≤ n → part m (p + i) (p + i + k - (p + i)) ≡ part (part m p n) i k
lent-part m p n i k h = part-lent m (p + i) k ∙ sym (part-part m p n i k h)

pub write-none : (m : List ℕ) (p : ℕ) → overwrite m p [] ≡ m
unfolding overwrite
write-none m p = rw (add-zero, take-append-drop)

-- its own bytes back
pub write_own : (m : List ℕ) (p n : ℕ) → p + n ≤ length m → overwrite m p (part m p n) ≡ m
unfolding overwrite
write_own m p n fits = rw (part_length m p n fits, ← (drop-drop n p m), take-append-drop, take-append-drop)

-- a write behind a seam, and one in front of it
pub write-behind : (x y : List ℕ) (n : ℕ) (d : List ℕ) → overwrite (x ++ y) (length x + n) d ≡ x ++ overwrite y n d
unfolding overwrite
write-behind x y n d = rw (take-append-add, add_assoc, drop-append-add, append_assoc)

pub write_front : (x y : List ℕ) (n : ℕ) (d : List ℕ) → n + length d ≤ length x → overwrite (x ++ y) n d ≡ overwrite x n d ++ y
unfolding overwrite
write_front x y n d h =
    let k : n ≤ length x = omega arith in
    rw (take-append-le, drop-append-le, append_assoc, append_assoc)

-- one write that fits: what is in front of it, behind it and at its place
module _ (m : List ℕ) (p : ℕ) (d : List ℕ) (fits : p + length d ≤ length m) where
  pub write-length : length (overwrite m p d) ≡ length m
  unfolding overwrite
  write-length = simp (length-append, length-take, length-drop) (omega arith)

  pub take-before : (n : ℕ) → n ≤ p → take n (overwrite m p d) ≡ take n m
  unfolding overwrite
  take-before n h =
      let k : n ≤ length (take p m) = simp length-take (omega arith) in
      rw (take-append-le, take-take)

  drop_here : drop p (overwrite m p d) ≡ d ++ drop (p + length d) m
  unfolding overwrite
  drop_here = drop_at (take p m) (d ++ drop (p + length d) m) p (length-take-le p m (omega arith))

  drop_past : (n : ℕ) → drop (p + length d + n) (overwrite m p d) ≡ drop (p + length d + n) m
  drop_past n =
      ap (λ (k : ℕ). drop k (overwrite m p d)) (add_assoc p (length d) n) ∙ sym (drop-drop (length d + n) p (overwrite m p d))
      ∙ ap (drop (length d + n)) drop_here ∙ drop-append-add d (drop (p + length d) m) n ∙ drop-drop n (p + length d) m

  pub drop-after : (n : ℕ) → p + length d ≤ n → drop n (overwrite m p d) ≡ drop n m
  drop-after n h = rw (add-sub_of_le h) at (drop_past (n - (p + length d)))

  pub take_through : take (p + length d) (overwrite m p d) ≡ take p m ++ d
  take_through =
      take-add p (length d) (overwrite m p d)
      ∙ (λ i. take-before p (le_refl p) i ++ take (length d) (drop_here i)) ∙ ap (λ (r : List ℕ). take p m ++ r) (take-append_seam d (drop (p + length d) m))

  pub part-before : (a n : ℕ) → a + n ≤ p → part (overwrite m p d) a n ≡ part m a n
  part-before a n h = part_cut a n (overwrite m p d) ∙ ap (drop a) (take-before (a + n) h) ∙ sym (part_cut a n m)

  pub part-after : (a n : ℕ) → p + length d ≤ a → part (overwrite m p d) a n ≡ part m a n
  part-after a n h = ap (take n) (drop-after a h)

  pub part-here : (n : ℕ) → length d ≡ n → part (overwrite m p d) p n ≡ d
  part-here n e = ap (take n) drop_here ∙ rw (← e) (take-append_seam d (drop (p + length d) m))

  pub byte-before : (i : ℕ) → i < p → byte (overwrite m p d) i ≡ byte m i
  byte-before i h = sym (get_or-take p (overwrite m p d) i 0 h) ∙ ap (λ (l : List ℕ). byte l i) (take-before p (le_refl p)) ∙ get_or-take p m i 0 h

  pub byte-after : (i : ℕ) → p + length d ≤ i → byte (overwrite m p d) i ≡ byte m i
  byte-after i h = simp (get_or-drop, add-zero) at (ap (λ (l : List ℕ). byte l 0) (drop-after i h))

  pub byte_inside : (i : ℕ) → i < length d → byte (overwrite m p d) (p + i) ≡ byte d i
  byte_inside i h =
      sym (get_or-drop p (overwrite m p d) i 0) ∙ ap (λ (l : List ℕ). byte l i) drop_here ∙ get_or-append d (drop (p + length d) m) 0 i h

  -- of two writes as long at one place the last counts
  pub write_twice : (e : List ℕ) → length e ≡ length d → overwrite (overwrite m p d) p e ≡ overwrite m p e
  unfolding overwrite
  write_twice e l = λ i. take-before p (le_refl p) i ++ (e ++ drop-after (p + length e) (omega arith) i)

  pub undo : overwrite (overwrite m p d) p (part m p (length d)) ≡ m
  undo = write_twice (part m p (length d)) (part_length m p (length d) fits) ∙ write_own m p (length d) fits

-- in two pieces
pub write_two : (m : List ℕ) (p : ℕ) (a b : List ℕ) → p + length a + length b ≤ length m → overwrite m p (a ++ b) ≡ overwrite (overwrite m p a) (p + length a) b
unfolding overwrite
write_two m p a b fits =
    let f : p + length a ≤ length m = omega arith in
    (simp (append_assoc, length-append, add_assoc)) ∙ sym (λ i. take_through m p a f i ++ (b ++ drop-after m p a f (p + length a + length b) (omega arith) i))

-- writes that do not overlap
swap_at : (x y : List ℕ) (p n : ℕ) (d e : List ℕ) → p + length d ≤ length x → overwrite (overwrite (x ++ y) p d) (length x + n) e ≡ overwrite (overwrite (x ++ y) (length x + n) e) p d
swap_at x y p n d e h =
    ap (λ (l : List ℕ). overwrite l (length x + n) e) (write_front x y p d h)
    ∙ ap (λ (k : ℕ). overwrite (overwrite x p d ++ y) (k + n) e) (sym (write-length x p d h)) ∙ write-behind (overwrite x p d) y n e
    ∙ sym (write_front x (overwrite y n e) p d h) ∙ ap (λ (l : List ℕ). overwrite l p d) (sym (write-behind x y n e))

pub write_swap : (m : List ℕ) (p q : ℕ) (d e : List ℕ) → p + length d ≤ q → q ≤ length m → overwrite (overwrite m p d) q e ≡ overwrite (overwrite m q e) p d
write_swap m p q d e h fits =
    let l : length (take q m) ≡ q = length-take-le q m fits in
    rw (take-append-drop, l, add-zero) at (swap_at (take q m) (drop q m) p 0 d e (rw l h))

-- a write in all that lies behind a place, and in a lent part
write_in-rest : (m : List ℕ) (a n : ℕ) (d : List ℕ) → a ≤ length m → take a m ++ overwrite (drop a m) n d ≡ overwrite m (a + n) d
write_in-rest m a n d h = rw (take-append-drop, length-take-le a m h) at (sym (write-behind (take a m) (drop a m) n d))

pub write_in-part : (m : List ℕ) (a k n : ℕ) {ys : List ℕ} (d : List ℕ) → ys ≡ overwrite (part m a k) n d → a + k ≤ length m → n + length d ≤ k → take a m ++ (ys ++ drop k (drop a m)) ≡ overwrite m (a + n) d
write_in-part m a k n d e h g =
    let f : n + length d ≤ length (part m a k) = rw (part_length m a k h) g in
    rw (e, ← write_front, take-append-drop k (drop a m)) (write_in-rest m a n d (omega arith))

-- a run put in the place of a part that was lent, as long as the run
pub write_lent : (m : List ℕ) (p n : ℕ) {ys d : List ℕ} → ys ≡ d → length d ≡ n → put_mid p (p + n - p) m ys ≡ overwrite m p d
unfolding overwrite
write_lent m p n e l = rw (add-sub_cancel_left p n, e, drop-drop, l)

-- one stored byte, and one more at the end of a write
pub set-write : (m : List ℕ) (i b : ℕ) → i < length m → set m i b ≡ overwrite m i (b ∷ [])
unfolding overwrite
set-write m i b h = rw (add-one, set_split)

pub write_more : (m : List ℕ) (p : ℕ) (a : List ℕ) (n b : ℕ) → length a ≡ n → p + n < length m → set (overwrite m p a) (p + n) b ≡ overwrite m p (a ++ (b ∷ []))
write_more m p a n b l h =
    let f : p + length a ≤ length m = omega arith in
    let g : p + n < length (overwrite m p a) = rw (write-length m p a f) h in
    set-write (overwrite m p a) (p + n) b g ∙ rw (← l) (sym (write_two m p a (b ∷ []) (omega arith)))

-- a run of which the first i bytes are written, and one more
pub write-next : (m m₀ d : List ℕ) (at i : ℕ) → at + length d ≤ length m₀ → i < length d → m ≡ overwrite m₀ at (take i d) → set m (at + i) (byte d i) ≡ overwrite m₀ at (take (i + 1) d)
write-next m m₀ d at i fits h e =
    rw (e, add-one, take-suc d i 0) (write_more m₀ at (take i d) i (byte d i) (length-take-le i d (omega arith)) (omega arith))
