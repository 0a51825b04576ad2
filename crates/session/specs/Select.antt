-- How SELECT finds an entry.
use Rattle.std.specs.Prelude.{ℕ, ◌+◌, ◌*◌, List, [], ◌∷◌, eqb, Option, Some, None}
use Rattle.octets.specs.Choice.{pick}
use Rattle.octets.specs.Bytes.{num_at}
use Rattle.card.specs.declared.Row.{Row}
use Rattle.std.specs.Option.{option_or}
use Rattle.card.specs.Row.{row_of}
use Rattle.card.specs.Tree.{child, child_df}

-- an entry, if it has the identifier
unfoldable pub if_named : List ℕ → ℕ → ℕ → Option ℕ
if_named t e identifier = pick (eqb (row_of t e).identifier identifier) (Some e) None

-- "the directory's parent, a DF child of that parent"
unfoldable pub above : List ℕ → ℕ → ℕ → Option ℕ
above t parent identifier = option_or (if_named t parent identifier) (child_df t parent identifier)

-- "P1 00: two bytes; the first match of: the root's own identifier (3F00 shared, 7FFF ADF), a child of the directory, the
-- directory's parent, a DF child of that parent. The last two only if the directory is not the root."
unfoldable pub by_identifier : List ℕ → ℕ → ℕ → ℕ → Option ℕ
by_identifier t root directory identifier =
    option_or (if_named t root identifier)
    (option_or (child t directory identifier)
    (pick (eqb directory root) None (above t (row_of t directory).parent identifier)))

-- identifiers, two bytes each, "each a child of the one before"
unfoldable pub by_path : List ℕ → ℕ → List ℕ → Option ℕ
by_path t e [] = Some e
by_path t e (a ∷ []) = None
by_path t e (a ∷ b ∷ path) =
    elim (child t e (a * 256 + b)) [ Some c ↦ by_path t c path | None ↦ None ]

-- "P1 08 from the root, 09 from the directory: 1 to 8 identifiers"
unfoldable pub find : List ℕ → ℕ → ℕ → ℕ → List ℕ → Option ℕ
find t root directory p1 «data» =
    pick (eqb p1 0)
    (by_identifier t root directory (num_at «data» 0))
    (by_path t (pick (eqb p1 8) root directory) «data»)

-- the row of what was found; where nothing was, that of the MF, which no command looks at
unfoldable pub row_found : List ℕ → Option ℕ → Row
row_found t (Some e) = row_of t e
row_found t None = row_of t 0
