-- Children, and the way up to the root.
use Rattle.std.specs.Prelude.{ℕ, zero, suc, ◌+◌, Bool, true, false, ◌&&◌, ◌||◌, List, eqb, Option, Some, None}
use Rattle.card.specs.declared.Row.{Row}
use Rattle.card.specs.Row.{entries, row_of, is_mf, is_df, is_adf, can_be_child}

-- the first of n entries from e on of which the test holds
unfoldable pub first_from : ℕ → ℕ → (ℕ → Bool) → Option ℕ
first_from zero e test = None
first_from (suc n) e test = elim (test e) [ true ↦ Some e | false ↦ first_from n (e + 1) test ]

-- whether a row is a child of a directory
abbrev pub is_child_of : ℕ → Row → Bool
is_child_of directory r = can_be_child r && eqb r.parent directory

-- the first child of a directory of which the test holds
unfoldable pub child_with : List ℕ → ℕ → (Row → Bool) → Option ℕ
child_with t directory test =
    first_from (entries t) 0 (λ e. is_child_of directory (row_of t e) && test (row_of t e))

-- "a child of the directory": the one with an identifier
unfoldable pub child : List ℕ → ℕ → ℕ → Option ℕ
child t directory identifier = child_with t directory (λ r. eqb r.identifier identifier)

-- "a DF child of that parent": the one with an identifier
unfoldable pub child_df : List ℕ → ℕ → ℕ → Option ℕ
child_df t directory identifier = child_with t directory (λ r. is_df r && eqb r.identifier identifier)

-- whether a row is the root of an application
abbrev pub is_root : Row → Bool
is_root r = is_mf r || is_adf r

-- the walk up, of at most n steps: to the MF or the ADF that an entry belongs to
unfoldable pub root_in : ℕ → List ℕ → ℕ → ℕ
root_in zero t e = e
root_in (suc n) t e = elim (is_root (row_of t e)) [ true ↦ e | false ↦ root_in n t (row_of t e).parent ]

-- the walk up from an entry takes no more steps than its number: "a parent's number is smaller than its child's"
unfoldable pub root_of : List ℕ → ℕ → ℕ
root_of t e = root_in e t e
