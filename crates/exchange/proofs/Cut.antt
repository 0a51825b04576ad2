-- What a reading gives of a beginning of an answer, beside what it gives of the whole answer. Let the beginning have `k` bytes. A reading
-- looks at one byte after the other, so there are three ways (`Cut`): it saw nothing but the beginning, and both give the same; or a byte of
-- the beginning was missing, at `k`, and if the whole answer is bad, then at `k` or later; or the whole answer is bad at `k` itself, where in
-- the beginning nothing stands. The law is shown of each way to make up a reading: a choice by a test that is the same in both (`alike`), a
-- byte that has to be there (`needed`), a place where nothing more may stand (`closed`), and a reading that goes by what another one gave
-- (`follows`). From it, a bad byte is the first bad one (`bad-inside`, `bad-begun`, `bad-whole`). Assumes nothing.
use mathlib.Core.Path.{◌≡◌, refl, sym, ap, ◌∙◌}
use mathlib.Core.Bool.{Bool, true, false}
use mathlib.Core.List.{List}
use mathlib.Core.Logic.{⊎_elim}
use Prim.Native.Nat.{ℕ, ◌+◌, ◌≤◌, ◌<◌}
use native.Mathlib.Omega.{arith}
use lib.Dec.{leb, ltb}
use lib.ListN.{length, take, length-take}
use lib.Seq.{get_or-take}
use borrow.Author.Tests.{ltb-true, ltb-false, le-leb, lt-leb, lt-ltb, le-ltb}
use Rattle.octets.specs.Choice.{pick}
use Rattle.octets.specs.Bytes.{byte, num_at}
use Rattle.octets.proofs.Picks.{either, on_pick, pick_true, pick-false}

-- the first run of bytes is a beginning of the second
pub record Begins (x a : List ℕ) : Type 0 where
  pub inside : length x ≤ length a
  pub bytes : (i : ℕ) → i < length x → byte x i ≡ byte a i

pub begins_take : (n : ℕ) (a : List ℕ) → Begins (take n a) a
begins_take n a =
    record {
      inside = omega (arith, length-take n a);
      bytes = λ i h. get_or-take n a i 0 (omega (arith, length-take n a));
    }

pub num_begins : (x a : List ℕ) → Begins x a → (at : ℕ) → at + 2 ≤ length x → num_at x at ≡ num_at a at
unfolding num_at
num_begins x a b at h = rw (b.bytes at (omega arith), b.bytes (at + 1) (omega arith))

-- what is so whether a byte stands at a place or not
pub by_place : {P : Type 0} (i k : ℕ) → (k ≤ i → P) → (i < k → P) → P
by_place i k none there = ⊎_elim (λ y. there (ltb-true i k y)) (λ n. none (ltb-false i k n)) (either (ltb i k))

-- a kind of results: the bad ones, those for which nothing from `k` on was looked at, and those that are not bad before `k`
pub record Kind (R : Type 0) : Type 1 where
  pub bad : ℕ → R
  pub Before : ℕ → R → Type 0
  pub Later : ℕ → R → Type 0
  pub bad-before : (k p : ℕ) → p ≤ k → Before k (bad p)
  pub bad-later : (k p : ℕ) → k ≤ p → Later k (bad p)

pub data Cut {R : Type 0} (K : Kind R) (k : ℕ) (x a : R) : Type 0 where
  same : x ≡ a → K.Before k a → Cut K k x a
  missing : x ≡ K.bad k → K.Later k a → Cut K k x a
  behind : a ≡ K.bad k → Cut K k x a

-- a bad byte that both have
pub refused : {R : Type 0} (K : Kind R) {k : ℕ} (p : ℕ) → p ≤ k → Cut K k (K.bad p) (K.bad p)
refused K {k} p h = same refl (K.bad-before k p h)

-- a choice by one test, in what is read on
pub alike_in : {R S : Type 0} {K : Kind R} {k : ℕ} (f g : S → R) (b : Bool) {x y x' y' : S}
    → (b ≡ true → Cut K k (f x) (g x')) → (b ≡ false → Cut K k (f y) (g y')) → Cut K k (f (pick b x y)) (g (pick b x' y'))
unfolding pick
alike_in f g true h l = h refl
alike_in f g false h l = l refl

pub alike : {R : Type 0} {K : Kind R} {k : ℕ} (b : Bool) {x y x' y' : R}
    → (b ≡ true → Cut K k x x') → (b ≡ false → Cut K k y y') → Cut K k (pick b x y) (pick b x' y')
alike = alike_in (λ r. r) (λ r. r)

-- a byte that has to be there
module _ {R : Type 0} (K : Kind R) (k size : ℕ) (inside : k ≤ size) (i : ℕ) where
  pub needed_later : {v : R} → K.Later k v → K.Later k (pick (leb size i) (K.bad size) v)
  needed_later {v} later = on_pick (K.Later k) (leb size i) _ v (λ _. K.bad-later k size inside) (λ _. later)

  pub needed : {u v : R} → (k ≤ i → K.Later k (pick (leb size i) (K.bad size) v)) → (i < k → Cut K k u v)
      → Cut K k (pick (leb k i) (K.bad k) u) (pick (leb size i) (K.bad size) v)
  needed {u} {v} later on =
      by_place i k (λ l. missing (pick_true (leb k i) _ u (le-leb k i l)) (later l))
      (λ h. rw (pick-false (leb k i) (K.bad k) u (lt-leb k i h), pick-false (leb size i) (K.bad size) v (lt-leb size i (omega arith))) (on h))

-- a place at which nothing more may stand
pub closed : {R : Type 0} (K : Kind R) (k size : ℕ) → k ≤ size → (e : ℕ) {v : R} → e ≤ k → (size ≤ k → K.Before k v)
    → Cut K k (pick (ltb e k) (K.bad e) v) (pick (ltb e size) (K.bad e) v)
closed K k size inside e {v} h before =
    by_place e size
    (λ l. rw (pick-false (ltb e k) (K.bad e) v (le-ltb e k (omega arith)), pick-false (ltb e size) (K.bad e) v (le-ltb e size l)) (same refl (before (omega arith))))
    (λ more.
    by_place e k
    (λ l. let is : e ≡ k = omega arith in behind (pick_true (ltb e size) (K.bad e) v (lt-ltb e size more) ∙ ap K.bad is))
    (λ g. rw (pick_true (ltb e k) (K.bad e) v (lt-ltb e k g), pick_true (ltb e size) (K.bad e) v (lt-ltb e size more)) (refused K e h)))

-- a reading that goes by what another gave
pub follows : {R S : Type 0} (K : Kind R) {M : Kind S} {k : ℕ} (f g : R → S) {x a : R} → f (K.bad k) ≡ M.bad k → g (K.bad k) ≡ M.bad k
    → Cut K k x a → (K.Before k a → Cut M k (f a) (g a)) → (K.Later k a → M.Later k (g a)) → Cut M k (f x) (g a)
follows K f g e e' (same p b) on later = rw p (on b)
follows K f g e e' (missing p l) on later = missing (ap f p ∙ e) (later l)
follows K f g e e' (behind p) on later = behind (ap g p ∙ e')

-- what the law says of a bad reading
module _ {R : Type 0} (K : Kind R) (one : (p q : ℕ) → K.bad p ≡ K.bad q → p ≡ q) (k p : ℕ) where
  -- its place is inside: a run of bytes is a beginning of itself
  pub bad-inside : {r : R} → (K.Before k (K.bad p) → p ≤ k) → Cut K k r r → r ≡ K.bad p → p ≤ k
  bad-inside before (same e b) is = before (rw is at b)
  bad-inside before (missing e l) is = omega (arith, one k p (sym e ∙ is))
  bad-inside before (behind e) is = omega (arith, one k p (sym e ∙ is))

  -- whatever begins with the bytes up to the bad one is bad: those bytes alone are, and so all that begins with them
  pub bad-begun : {y r : R} → p < k → (K.Later k (K.bad p) → k ≤ p) → Cut K k y r → r ≡ K.bad p → y ≡ K.bad p
  bad-begun h later (same e b) is = e ∙ is
  bad-begun h later (missing e l) is = absurd (let g = later (rw is at l) in omega arith)
  bad-begun h later (behind e) is = absurd (omega (arith, one k p (sym e ∙ is)))

  pub bad-whole : {y r : R} → p < k → Cut K k y r → y ≡ K.bad p → (q : ℕ) × (r ≡ K.bad q)
  bad-whole h (same e b) is = (p, sym e ∙ is)
  bad-whole h (missing e l) is = absurd (omega (arith, one k p (sym e ∙ is)))
  bad-whole h (behind e) is = (k, e)
