-- The places of a cyclic file's records, for any number of records: each place has one number, a new record shifts every number by one, and records do not overlap. Assumes nothing.
use mathlib.Core.Path.{◌≡◌, ap, ◌∙◌}
use mathlib.Core.Logic.{◌⊎◌, inl, inr, ⊎_elim}
use Prim.Native.Nat.{ℕ, ◌+◌, ◌-◌, ◌*◌, ◌%◌, ◌≤◌, ◌<◌}
use native.Mathlib.Nat.{mul_comm, mul-suc, mul-le-mul_left, le_trans, mod-lt, mod-eq_of_lt, mod-eq-sub-mod, mod-add-mod, add-mod_right, add-sub_cancel, div-mul-le_self}
use native.Mathlib.Decide.{dec_le, dec_lt}
use native.Mathlib.Omega.{arith}
use Rattle.card.specs.declared.Row.{Row}
use Rattle.card.specs.Sound.{record_count}
use Rattle.card.specs.Records.{cyclic_place, record_place, record_offset}

pub place_below : (m k r : ℕ) → 1 ≤ m → cyclic_place m k r < m
unfolding cyclic_place
place_below m k r h = mod-lt (k + r - 1) h

-- the newest record is at place k; the others follow it up to the end of the file, and go on from its start
module _ (m k : ℕ) (newest : k < m) where
  follows : (r : ℕ) → 1 ≤ r → k + r ≤ m → cyclic_place m k r ≡ k + r - 1
  unfolding cyclic_place
  follows r h g = mod-eq_of_lt (omega arith)

  goes_on_lem : (r : ℕ) → r ≤ m → m < k + r → cyclic_place m k r + m ≡ k + r - 1
  unfolding cyclic_place
  goes_on_lem r h g =
      let e = mod-eq-sub-mod {n = k + r - 1} {m = m} (omega arith) in
      let f = mod-eq_of_lt {n = k + r - 1 - m} {m = m} (omega arith) in
      omega arith

  pub newest-first : cyclic_place m k 1 ≡ k
  newest-first = follows 1 (omega arith) (omega arith) ∙ add-sub_cancel k 1

  either : (r : ℕ) → 1 ≤ r → r ≤ m → (cyclic_place m k r ≡ k + r - 1) ⊎ (cyclic_place m k r + m ≡ k + r - 1)
  either r h g = elim (dec_le (k + r) m) [ yes l ↦ inl (follows r h l) | no n ↦ inr (goes_on_lem r g (omega arith)) ]

  -- records of different numbers have different places
  pub one_number_lem : (r s : ℕ) → 1 ≤ r → r ≤ m → 1 ≤ s → s ≤ m → cyclic_place m k r ≡ cyclic_place m k s → r ≡ s
  one_number_lem r s h g i j e =
      let below-r = place_below m k r (omega arith) in
      let below-s = place_below m k s (omega arith) in
      ⊎_elim
      (λ a. ⊎_elim (λ b. omega arith) (λ b. omega arith) (either s i j))
      (λ a. ⊎_elim (λ b. omega arith) (λ b. omega arith) (either s i j))
      (either r h g)

  -- every place has a record
  pub some_number_lem : (p : ℕ) → p < m → (r : ℕ) × (1 ≤ r) × (r ≤ m) × (cyclic_place m k r ≡ p)
  some_number_lem p h =
      elim (dec_le k p) [
        | yes l ↦ (p + 1 - k, omega arith, omega arith, follows (p + 1 - k) (omega arith) (omega arith) ∙ omega arith)
        | no n ↦ (p + 1 + m - k, omega arith, omega arith, let g = goes_on_lem (p + 1 + m - k) (omega arith) (omega arith) in omega arith)
      ]

-- a new record takes the oldest place and number 1, and every other number grows by one
module _ (m k : ℕ) (newest : k < m) where
  pub new-first : cyclic_place m (cyclic_place m k m) 1 ≡ cyclic_place m k m
  new-first = newest-first m (cyclic_place m k m) (place_below m k m (omega arith))

  pub new_shifts : (r : ℕ) → 1 ≤ r → cyclic_place m (cyclic_place m k m) (r + 1) ≡ cyclic_place m k r
  unfolding cyclic_place
  new_shifts r h =
      let a : (k + m - 1) % m + (r + 1) - 1 ≡ (k + m - 1) % m + r = omega arith in
      let b : k + m - 1 + r ≡ k + r - 1 + m = omega arith in
      ap (λ (x : ℕ). x % m) a ∙ mod-add-mod (k + m - 1) m r ∙ ap (λ (x : ℕ). x % m) b ∙ add-mod_right (k + r - 1) m

-- a record at a place ends where a later place begins, or before
pub ends_before : (size p q : ℕ) → p < q → size * p + size ≤ size * q
ends_before size p q h = rw mul-suc at (mul-le-mul_left size h)

-- a record at a place below the count ends inside the file
pub ends_inside : (size p m total : ℕ) → p < m → m * size ≤ total → size * p + size ≤ total
ends_inside size p m total h fits = le_trans (ends_before size p m h) (rw mul_comm at fits)

pub places_apart : (size p q : ℕ) → (p ≡ q → ⊥) → (size * p + size ≤ size * q) ⊎ (size * q + size ≤ size * p)
places_apart size p q z = elim (dec_lt p q) [ yes l ↦ inl (ends_before size p q l) | no n ↦ inr (ends_before size q p (omega arith)) ]

-- a place among the records lies inside the file, and so does every record
pub place_inside : (f : Row) (p : ℕ) → p < record_count f → f.record_length * p + f.record_length ≤ f.size
place_inside f p l = ends_inside f.record_length p (record_count f) f.size l (div-mul-le_self f.size f.record_length)

pub offset_inside : (f : Row) → 1 ≤ record_count f → (r : ℕ) → record_offset f r + f.record_length ≤ f.size
unfolding record_offset record_place
offset_inside f h r = place_inside f _ (place_below (record_count f) f.newest r h)

-- records of different numbers do not overlap
pub records_apart : (f : Row) (r s : ℕ) → f.newest < record_count f → 1 ≤ r → r ≤ record_count f → 1 ≤ s → s ≤ record_count f → (r ≡ s → ⊥) → (record_offset f r + f.record_length ≤ record_offset f s) ⊎ (record_offset f s + f.record_length ≤ record_offset f r)
unfolding record_offset record_place
records_apart f r s k h g i j z =
    places_apart f.record_length _ _ (λ e. z (one_number_lem (record_count f) f.newest k r s h g i j e))
