-- What a path finds, identifier by identifier. Assumes nothing.
use mathlib.Core.Path.{◌≡◌, refl, sym, ap, ◌∙◌}
use mathlib.Core.List.{List, [], ◌∷◌, ◌++◌}
use Prim.Native.Nat.{ℕ, ◌+◌, ◌*◌, ◌%◌, ◌<◌}
use native.Mathlib.Omega.{arith}
use lib.ListN.{length, length-append}
use Rattle.std.specs.Prelude.{Option, Some, None}
use Rattle.octets.specs.Bytes.{num_at}
use Rattle.card.specs.Tree.{child}
use Rattle.session.specs.Select.{by_path}

-- the rest of a path, from the child that its next identifier finds
abbrev pub onward : List ℕ → List ℕ → Option ℕ → Option ℕ
onward t rest found = elim found [ Some c ↦ by_path t c rest | None ↦ None ]

onward_none : (t rest : List ℕ) (found : Option ℕ) → ((c : ℕ) → by_path t c rest ≡ None) → onward t rest found ≡ None
onward_none t rest (Some c) h = h c
onward_none t rest None h = refl

-- a path of an odd number of bytes finds nothing
pub path_odd : (t : List ℕ) (e : ℕ) (path : List ℕ) → (length path % 2 ≡ 0 → ⊥) → by_path t e path ≡ None
unfolding by_path
path_odd t e [] h = absurd (h refl)
path_odd t e (a ∷ []) h = refl
path_odd t e (a ∷ b ∷ path) h = onward_none t path (child t e (a * 256 + b)) (λ c. path_odd t c path (λ k. h (omega (arith, k))))

next : (t : List ℕ) (e : ℕ) (two left : List ℕ) → length two ≡ 2 → by_path t e (two ++ left) ≡ onward t left (child t e (num_at two 0))
unfolding by_path num_at
next t e [] left l = absurd (omega (arith, l))
next t e (a ∷ []) left l = absurd (omega (arith, l))
next t e (a ∷ b ∷ []) left l = refl
next t e (a ∷ b ∷ c ∷ two) left l = absurd (omega (arith, l))

-- a path from an entry on, two bytes of it and what is left: the whole finds what the child with that identifier leads to
module _ (t : List ℕ) (e : ℕ) (two left : List ℕ) {rest : List ℕ} {f : Option ℕ} (whole : by_path t e rest ≡ f) (cut : rest ≡ two ++ left) (size : length two ≡ 2) where
  onto : onward t left (child t e (num_at two 0)) ≡ f
  onto = sym (next t e two left size) ∙ ap (by_path t e) (sym cut) ∙ whole

  pub path_fails : child t e (num_at two 0) ≡ None → None ≡ f
  path_fails y = rw y at onto

  pub path_goes_on : (c : ℕ) → child t e (num_at two 0) ≡ Some c → by_path t c left ≡ f
  path_goes_on c y = rw y at onto

pub path_even : (two left : List ℕ) {rest : List ℕ} → rest ≡ two ++ left → length two ≡ 2 → length rest % 2 ≡ 0 → length left % 2 ≡ 0
path_even two left cut size h = omega (arith, simp length-append at (ap length cut))

pub path_ends : (t : List ℕ) (e : ℕ) (rest : List ℕ) {f : Option ℕ} → length rest < 2 → length rest % 2 ≡ 0 → by_path t e rest ≡ f → Some e ≡ f
unfolding by_path
path_ends t e [] l h whole = whole
path_ends t e (a ∷ []) l h whole = absurd (omega (arith, h))
path_ends t e (a ∷ b ∷ rest) l h whole = absurd (omega (arith, l))
