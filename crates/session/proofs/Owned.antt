-- What SELECT finds on a sound table belongs to the root that it starts from, so nothing of another application is ever found.
-- An entry belongs to the root where its way up ends. One that is no root has its parent's root, so with a directory its children
-- belong (`child-belongs`), and with an entry that is no root its parent does (`parent-belongs`). Every way of SELECT is made of
-- such steps: the root itself, a child, the parent and its DF children where the directory is not the root, and a path of children,
-- by induction over its identifiers. `Only` says that a finding, if there is one, belongs: of each way, and so of the first that
-- finds. Assumes nothing.
use mathlib.Core.Path.{◌≡◌, refl, sym, ap, ◌∙◌}
use mathlib.Core.Bool.{Bool, true, false}
use mathlib.Core.List.{List, [], ◌∷◌}
use Prim.Native.Nat.{ℕ, ◌+◌, ◌*◌, ◌<◌}
use native.Mathlib.Omega.{arith}
use lib.Dec.{eqb}
use borrow.Author.Tests.{eqb-true, eqb-false, not-true}
use Rattle.octets.proofs.Picks.{on_pick, refuted, and_left, and_right, or_none}
use Rattle.card.specs.declared.Row.{Row}
use Rattle.std.specs.Option.{option_or}
use Rattle.std.specs.Prelude.{Option, Some, None}
use Rattle.card.specs.Row.{entries, row_of, can_be_child}
use Rattle.card.specs.Sound.{sound_table}
use Rattle.card.specs.Tree.{child_with, child, child_df, is_root, root_of}
use Rattle.card.specs.Promised.{ParentsSmaller, ParentsInside}
use Rattle.card.proofs.Kin.{child-inside, child-child, root_itself, root_of-parent}
use Rattle.card.proofs.Promises.{parent-inside, parents_smaller}
use Rattle.session.specs.Select.{if_named, above, by_identifier, by_path, find}
use Rattle.session.specs.Good.{Belongs}
use Rattle.session.proofs.Finds.{onward}

-- what holds of both findings is so of the first
on_or : (P : Option ℕ → Type 0) (f g : Option ℕ) → P f → P g → P (option_or f g)
on_or P (Some e) g h k = h
on_or P None g h k = k

-- a child is no root
child_no_root : (r : Row) → can_be_child r ≡ true → is_root r ≡ false
child_no_root r h = or_none (eqb r.kind 0) (is_root r) (not-true _ h)

-- a finding that belongs to a root, if there is one
abbrev pub Only : List ℕ → ℕ → Option ℕ → Type 0
Only t root f = (e : ℕ) → f ≡ Some e → Belongs t root e

module _ (t : List ℕ) (root : ℕ) where
  only_none : Only t root None
  only_none e f = absurd (let z : ◌≡◌ {A = ℕ} 0 1 = cc in omega arith)

  only_one : (d : ℕ) → Belongs t root d → Only t root (Some d)
  only_one d b e f = let q : d ≡ e = cc in rw q at b

  only_onward : (rest : List ℕ) (found : Option ℕ) → ((c : ℕ) → found ≡ Some c → Only t root (by_path t c rest)) → Only t root (onward t rest found)
  only_onward rest (Some c) h = h c refl
  only_onward rest None h = only_none

module _ (t files : List ℕ) (sound : sound_table t files ≡ true) where
  small : ParentsSmaller t
  small = parents_smaller t files sound

  pub parents_inside_lem : ParentsInside t
  parents_inside_lem e here = parent-inside t files sound e here

  -- roots, parents and children
  pub root-belongs : (a : ℕ) → a < entries t → is_root (row_of t a) ≡ true → Belongs t a a
  root-belongs a here y = record { inside = here; owner = root_itself t small a y }

  pub parent-belongs : (root e : ℕ) → Belongs t root e → is_root (row_of t e) ≡ false → Belongs t root (row_of t e).parent
  parent-belongs root e b z =
      record { inside = parents_inside_lem e b.inside; owner = sym (root_of-parent t small e b.inside z) ∙ b.owner }

  below_root : (root e : ℕ) → Belongs t root e → (e ≡ root → ⊥) → is_root (row_of t e) ≡ false
  below_root root e b z = refuted (is_root (row_of t e)) (λ y. z (sym (root_itself t small e y) ∙ b.owner))

  child-belongs : (root d : ℕ) (test : Row → Bool) → Belongs t root d → Only t root (child_with t d test)
  child-belongs root d test b e f =
      let here = child-inside t d test e f in
      let c = child-child t d test e f in
      let p : (row_of t e).parent ≡ d = eqb-true _ _ (and_right (can_be_child (row_of t e)) _ c) in
      record { inside = here; owner = root_of-parent t small e here (child_no_root (row_of t e) (and_left _ _ c)) ∙ ap (root_of t) p ∙ b.owner }

  -- what SELECT finds
  named-belongs : (root e i : ℕ) → Belongs t root e → Only t root (if_named t e i)
  unfolding if_named
  named-belongs root e i b = on_pick (Only t root) (eqb (row_of t e).identifier i) (Some e) None (λ y. only_one t root e b) (λ y. only_none t root)

  above-belongs : (root e i : ℕ) → Belongs t root e → Only t root (above t e i)
  unfolding above child_df
  above-belongs root e i b = on_or (Only t root) (if_named t e i) _ (named-belongs root e i b) (child-belongs root e _ b)

  path_belongs : (root : ℕ) (path : List ℕ) (e : ℕ) → Belongs t root e → Only t root (by_path t e path)
  unfolding by_path child
  path_belongs root [] e b = only_one t root e b
  path_belongs root (x ∷ []) e b = only_none t root
  path_belongs root (x ∷ y ∷ path) e b =
      only_onward t root path (child t e (x * 256 + y)) (λ c f. path_belongs root path c (child-belongs root e _ b c f))

  identifier-belongs : (root d i : ℕ) → Belongs t root root → Belongs t root d → Only t root (by_identifier t root d i)
  unfolding by_identifier child
  identifier-belongs root d i r b =
      on_or (Only t root) (if_named t root i) _ (named-belongs root root i r)
      (on_or (Only t root) (child t d i) _ (child-belongs root d _ b)
      (on_pick (Only t root) (eqb d root) None (above t (row_of t d).parent i) (λ y. only_none t root)
      (λ z. above-belongs root (row_of t d).parent i (parent-belongs root d b (below_root root d b (eqb-false d root z))))))

  pub find-owned : (root d : ℕ) → root < entries t → is_root (row_of t root) ≡ true → Belongs t root d → (p1 : ℕ) («data» : List ℕ) → Only t root (find t root d p1 «data»)
  unfolding find
  find-owned root d here y b p1 «data» =
      let r = root-belongs root here y in
      on_pick (Only t root) (eqb p1 0) _ _
      (λ z. identifier-belongs root d _ r b)
      (λ z. path_belongs root «data» _ (on_pick (Belongs t root) (eqb p1 8) root d (λ w. r) (λ w. b)))
