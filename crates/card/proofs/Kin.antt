-- A search for the first entry, entry by entry, and the way up to the root, step by step.
-- A search stops at the first entry that passes its test (`first_told`). The way up ends because a parent's number is smaller than its child's: from entry e it takes at most e
-- steps, so every bound that is large enough gives the same root (`same-root`), an entry has its parent's root (`root_of-parent`),
-- and what is reached is a root (`root-facts`). Assumes nothing.
use mathlib.Core.Path.{◌≡◌, refl, sym, ap, ◌∙◌}
use mathlib.Core.Bool.{Bool, true, false, false≢true, ◌&&◌}
use mathlib.Core.List.{List}
use mathlib.Core.Logic.{⊎_elim}
use Prim.Native.Nat.{ℕ, zero, suc, ◌+◌, ◌≤◌, ◌<◌}
use native.Mathlib.Nat.{le_refl, eq-or-lt_of_le}
use native.Mathlib.Omega.{arith}
use lib.Dec.{eqb}
use borrow.Author.Tests.{eq-eqb, ne_eqb}
use Rattle.octets.proofs.Picks.{either, and_left, on_test}
use Rattle.card.specs.declared.Row.{Row}
use Rattle.std.specs.Prelude.{Option, Some, None}
use Rattle.card.specs.Row.{entries, row_of}
use Rattle.card.specs.Tree.{first_from, is_child_of, child_with, is_root, root_in, root_of}
use Rattle.card.specs.Promised.{ParentsSmaller}

-- a search: the entry that it stops at passes the test, and no entry before it
first_is : (n b e : ℕ) (test : ℕ → Bool) → b ≤ e → e < b + n → test e ≡ true → ((k : ℕ) → b ≤ k → k < e → test k ≡ false) → first_from n b test ≡ Some e
unfolding first_from
first_is zero b e test low high y before = absurd (omega arith)
first_is (suc n) b e test low high y before =
    ⊎_elim
    (λ (same : b ≡ e). rw (first_from, ap test same ∙ y) (ap Some same))
    (λ (less : b < e). rw (first_from, before b (le_refl b) less) (first_is n (b + 1) e test (omega arith) (omega arith) y (λ k l. before k (omega arith))))
    (eq-or-lt_of_le low)

first_none : (n b : ℕ) (test : ℕ → Bool) → ((k : ℕ) → b ≤ k → k < b + n → test k ≡ false) → first_from n b test ≡ None
unfolding first_from
first_none zero b test none = refl
first_none (suc n) b test none = rw (first_from, none b (le_refl b) (omega arith)) (first_none n (b + 1) test (λ k l h. none k (omega arith) (omega arith)))

pub first_told : (n : ℕ) (test : ℕ → Bool) (found : Option ℕ) → ((e : ℕ) → found ≡ Some e → (e < n) × (test e ≡ true))
    → ((e : ℕ) → found ≡ Some e → (k : ℕ) → k < e → test k ≡ false) → (found ≡ None → (k : ℕ) → k < n → test k ≡ false) → found ≡ first_from n 0 test
first_told n test (Some e) here before none =
    let h = here e refl in
    sym (first_is n 0 e test (omega arith) (omega (arith, h.0)) h.1 (λ k low less. before e refl k less))
first_told n test None here before none = sym (first_none n 0 test (λ k low less. none refl k (omega (arith, less))))

-- the way up: from a root, and from any other entry
pub root-here : (n : ℕ) (t : List ℕ) (e : ℕ) → is_root (row_of t e) ≡ true → e ≡ root_in n t e
unfolding root_in
root-here zero t e h = refl
root-here (suc n) t e h = rw (root_in, h)

pub root-above : (n : ℕ) (t : List ℕ) (e r : ℕ) → is_root (row_of t e) ≡ false → (row_of t e).parent < e → e ≤ n → ((k : ℕ) → (row_of t e).parent ≤ k → r ≡ root_in k t (row_of t e).parent) → r ≡ root_in n t e
unfolding root_in
root-above zero t e r h less l up = absurd (omega arith)
root-above (suc n) t e r h less l up = rw (root_in, h) (up n (omega arith))

-- a search that finds an entry: it is one of those looked through, and passes the test
pub first_tells : (n b : ℕ) (test : ℕ → Bool) (e : ℕ) → first_from n b test ≡ Some e → (e < b + n) × (test e ≡ true)
unfolding first_from
first_tells zero b test e h = absurd (let z : ◌≡◌ {A = ℕ} 0 1 = cc in omega arith)
first_tells (suc n) b test e h = go (first_tells n (b + 1) test e) (test b) refl
  where
    go : (first_from n (b + 1) test ≡ Some e → (e < b + 1 + n) × (test e ≡ true)) → (v : Bool) → test b ≡ v → (e < b + suc n) × (test e ≡ true)
    go later true y =
        let f : Some b ≡ Some e = rw (first_from, y) at h in
        let q : b ≡ e = cc in
        (omega arith, rw q at y)
    go later false y = let l = later (rw (first_from, y) at h) in (omega arith, l.1)

-- a child that is found: an entry of the table, and a child of the directory
module _ (t : List ℕ) (directory : ℕ) (test : Row → Bool) (e : ℕ) (found : child_with t directory test ≡ Some e) where
  tells : (e < entries t) × ((is_child_of directory (row_of t e) && test (row_of t e)) ≡ true)
  unfolding child_with
  tells = let f = first_tells (entries t) 0 _ e found in (omega arith, f.1)

  pub child-inside : e < entries t
  child-inside = tells.0

  pub child-child : is_child_of directory (row_of t e) ≡ true
  child-child = and_left _ _ tells.1

-- the way up in a table whose parents have smaller numbers, as those of a sound table have
module _ (t : List ℕ) (small : ParentsSmaller t) where
  same-root : (n e k : ℕ) → e < entries t → e ≤ n → e ≤ k → root_in n t e ≡ root_in k t e
  unfolding root_in
  same-root zero e k here l m =
      ⊎_elim (root-here k t e) (λ f. let p = small e here f in absurd (omega arith)) (either (is_root (row_of t e)))
  same-root (suc n) e k here l m =
      ⊎_elim
      (λ y. sym (root-here (suc n) t e y) ∙ root-here k t e y)
      (λ f. let p = small e here f in rw (root_in, f) (root-above k t e _ f p m (λ j q. same-root n (row_of t e).parent j (omega arith) (omega arith) q)))
      (either (is_root (row_of t e)))

  root-facts : (n e : ℕ) → e < entries t → e ≤ n → (root_in n t e ≤ e) × (is_root (row_of t (root_in n t e)) ≡ true)
  unfolding root_in
  root-facts zero e here l =
      (omega arith, ⊎_elim (λ y. y) (λ f. let p = small e here f in absurd (omega arith)) (either (is_root (row_of t e))))
  root-facts (suc n) e here l =
      on_test (λ (r : ℕ). (r ≤ e) × (is_root (row_of t r) ≡ true)) (is_root (row_of t e)) e (root_in n t (row_of t e).parent)
      (λ y. (omega arith, y))
      (λ f. let p = small e here f in let up = root-facts n (row_of t e).parent (omega arith) (omega arith) in (omega arith, up.1))

  pub root_itself : (e : ℕ) → is_root (row_of t e) ≡ true → root_of t e ≡ e
  unfolding root_of
  root_itself e y = sym (root-here e t e y)

  pub root_of-parent : (e : ℕ) → e < entries t → is_root (row_of t e) ≡ false → root_of t e ≡ root_of t (row_of t e).parent
  unfolding root_of
  root_of-parent e here f =
      let p = small e here f in
      sym (root-above e t e _ f p (le_refl e) (λ j q. same-root (row_of t e).parent (row_of t e).parent j (omega arith) (omega arith) q))

  pub root-is_root : (e : ℕ) → e < entries t → is_root (row_of t (root_of t e)) ≡ true
  unfolding root_of
  root-is_root e here = (root-facts e e here (le_refl e)).1

  -- the roots are the entries that belong to themselves
  pub own_root : (e : ℕ) → e < entries t → eqb (root_of t e) e ≡ is_root (row_of t e)
  own_root e here =
      ⊎_elim
      (λ (y : is_root (row_of t e) ≡ true). eq-eqb (root_of t e) e (root_itself e y) ∙ sym y)
      (λ (f : is_root (row_of t e) ≡ false). ne_eqb (root_of t e) e (λ same. false≢true (sym f ∙ ap (λ k. is_root (row_of t k)) (sym same) ∙ root-is_root e here)) ∙ sym f)
      (either (is_root (row_of t e)))
