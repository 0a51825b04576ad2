-- Reading a journal's entries back: step by step, and from no other bytes than theirs.
-- `entries_back` counts its steps; `Reading` says the same without a count: no bytes are left, or what ends there is no entry, or an
-- entry ends there and the bytes before it are a reading. Each entry takes at least its tail, so any count that is no smaller than
-- the number of bytes is enough (`read`, `read_only`), and a step back needs no count (`back_stuck`, `back_next`). A reading looks
-- at no other bytes than those u, so a journal that has the same ones there has the same entries (`same_reading`). Assumes nothing.
use mathlib.Core.Path.{◌≡◌, refl, sym, ap, ◌∙◌}
use mathlib.Core.Bool.{true, false, false≢true}
use mathlib.Core.List.{List, [], ◌∷◌}
use mathlib.Core.Logic.{⊎_elim}
use Prim.Native.Nat.{ℕ, zero, suc, ◌+◌, ◌-◌, ◌≤◌, ◌<◌}
use native.Mathlib.Nat.{eq-or-lt_of_le, le_refl}
use native.Mathlib.Omega.{arith}
use borrow.Author.Tests.{leb-true, ne_eqb}
use Rattle.octets.specs.Bytes.{part}
use Rattle.octets.proofs.Picks.{either, and_left, refuted}
use Rattle.octets.proofs.Writes.{part-part}
use Rattle.journal.specs.declared.Tail.{Tail}
use Rattle.journal.specs.Entries.{Entry, head_size, used_bytes, tail_size, entry_bytes, tail_bytes, tail_in, tail_at, formed, old_place, entry_at, readable, no_entry, entries_back, entries_of}

-- where the entry begins that ends where the first u bytes of entries end
abbrev pub before : List ℕ → ℕ → ℕ
before j u = u - entry_bytes (tail_at j u).size

-- the entries that the first u bytes of entries of a journal hold, newest first
pub data Reading (j : List ℕ) : ℕ → List Entry → Type 0 where
  none : Reading j 0 []
  stop : {u : ℕ} → 0 < u → readable j u ≡ false → Reading j u (no_entry ∷ [])
  more : {u : ℕ} {es : List Entry} → readable j u ≡ true → Reading j (before j u) es → Reading j u (entry_at j u ∷ es)

-- one step back
back_none : (n : ℕ) (j : List ℕ) → entries_back n j 0 ≡ []
unfolding entries_back
back_none zero j = refl
back_none (suc n) j = refl

module _ (n : ℕ) (j : List ℕ) (u : ℕ) (some : 0 < u) where
  back_more : readable j u ≡ true → entries_back (suc n) j u ≡ entry_at j u ∷ entries_back n j (before j u)
  unfolding entries_back
  back_more h = rw (entries_back, ne_eqb u 0 (λ e. omega arith), h)

  back_stop : readable j u ≡ false → entries_back (suc n) j u ≡ no_entry ∷ []
  unfolding entries_back
  back_stop h = rw (entries_back, ne_eqb u 0 (λ e. omega arith), h)

-- a whole entry is no longer than the bytes
pub size_fits : (j : List ℕ) (u : ℕ) → readable j u ≡ true → entry_bytes (tail_at j u).size ≤ u
unfolding readable
size_fits j u h = leb-true _ _ (and_left _ (formed (tail_bytes j u)) h)

pub readable-fits : (j : List ℕ) (u : ℕ) {l : Tail} → l ≡ tail_at j u → readable j u ≡ true → entry_bytes l.size ≤ u
readable-fits j u e h = rw e (size_fits j u h)

-- what is read back is what the bytes hold, and nothing else is
pub read : (n : ℕ) (j : List ℕ) (u : ℕ) → u ≤ n → Reading j u (entries_back n j u)
read zero j u h = let e : u ≡ 0 = omega arith in rw (e, back_none 0 j) none
read (suc n) j u h =
    let z : 0 ≤ u = omega arith in
    ⊎_elim
    (λ e. rw (← e, back_none (suc n) j) none)
    (λ p. ⊎_elim
    (λ r. rw (back_more n j u p r) (more r (read n j (before j u) (omega arith))))
    (λ r. rw (back_stop n j u p r) (stop p r))
    (either (readable j u)))
    (eq-or-lt_of_le z)

pub read_only : {j : List ℕ} {u : ℕ} {es : List Entry} (n : ℕ) → u ≤ n → Reading j u es → entries_back n j u ≡ es
read_only {j} n h none = back_none n j
read_only zero h (stop p r) = absurd (omega arith)
read_only {j} (suc n) h (stop {u} p r) = back_stop n j u p r
read_only {j} zero h (more {u} r rest) = absurd (omega (arith, size_fits j u r))
read_only {j} (suc n) h (more {u} r rest) =
    let c = size_fits j u r in
    back_more n j u (omega arith) r ∙ ap (λ (es : List Entry). entry_at j u ∷ es) (read_only n (omega arith) rest)

pub read_all : (j : List ℕ) → Reading j (used_bytes j) (entries_of j)
unfolding entries_of
read_all j = read (used_bytes j) j (used_bytes j) (le_refl (used_bytes j))

-- the entries of the first u bytes: the newest and those before it
pub back_stuck : (j : List ℕ) (u : ℕ) → 0 < u → readable j u ≡ false → entries_back u j u ≡ no_entry ∷ []
back_stuck j u some h = read_only u (le_refl u) (stop some h)

pub back_next : (j : List ℕ) (u : ℕ) → readable j u ≡ true → entries_back u j u ≡ entry_at j u ∷ entries_back (before j u) j (before j u)
back_next j u h = read_only u (le_refl u) (more h (read (before j u) j (before j u) (le_refl (before j u))))

-- the entries depend on no other bytes
module _ (j k : List ℕ) (u : ℕ) (alike : part j head_size u ≡ part k head_size u) where
  pub part_same : (p n : ℕ) → p + n ≤ u → part j (head_size + p) n ≡ part k (head_size + p) n
  part_same p n h = sym (part-part j head_size u p n h) ∙ ap (λ (m : List ℕ). part m p n) alike ∙ part-part k head_size u p n h

  module _ (r : readable j u ≡ true) where
    tail-same : tail_bytes j u ≡ tail_bytes k u
    unfolding tail_bytes
    tail-same =
        let c = size_fits j u r in
        let q : head_size + u - tail_size ≡ head_size + (u - tail_size) = omega arith in
        rw q (part_same (u - tail_size) tail_size (omega arith))

    same-tail : tail_at j u ≡ tail_at k u
    unfolding tail_at
    same-tail = ap tail_in tail-same

    same-readable : readable k u ≡ true
    unfolding readable tail_at
    same-readable = rw tail-same at r

    same-entry : entry_at j u ≡ entry_at k u
    unfolding entry_at old_place
    same-entry =
        let c = size_fits j u r in
        let n = (tail_at j u).size in
        let q : head_size + u - entry_bytes n ≡ head_size + (u - entry_bytes n) = omega arith in
        let o : part j (head_size + u - entry_bytes n) n ≡ part k (head_size + u - entry_bytes n) n = rw q (part_same (u - entry_bytes n) n (omega arith)) in
        rw (o, same-tail)

    part-before-same : part j head_size (before j u) ≡ part k head_size (before j u)
    part-before-same = part_same 0 (before j u) (omega arith)

pub same_reading : (j k : List ℕ) {u : ℕ} {es : List Entry} → part j head_size u ≡ part k head_size u → Reading j u es → Reading k u es
same_reading j k e none = none
same_reading j k e (stop {u} p r) = stop p (refuted (readable k u) (λ t. false≢true (sym r ∙ same-readable k j u (sym e) t)))
same_reading j k e (more {u} {es} r rest) =
    rw (same-entry j k u e r)
    (more {es = es} (same-readable j k u e r) (rw (same-tail j k u e r) at (same_reading j k (part-before-same j k u e r) rest)))
