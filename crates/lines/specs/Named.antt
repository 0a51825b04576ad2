-- Values under their names, as the programs print them.
use Rattle.std.specs.Prelude.{ℕ, List, [], ◌∷◌, ◌++◌}

-- what stands after a value: a line feed, or a space in a line
abbrev pub line_feed : ℕ
line_feed = 0x0A

abbrev pub space : ℕ
space = 0x20

-- a name, a value and the byte after it
unfoldable pub named : List ℕ → List ℕ → ℕ → List ℕ
named name value last = name ++ (value ++ (last ∷ []))
