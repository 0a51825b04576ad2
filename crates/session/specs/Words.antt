-- The words that end a command well, and those of them that a session keeps.
use Rattle.std.specs.Prelude.{ℕ, ◌+◌, ◌⊎◌, ◌≡◌}

-- "9000, 6282, 6283 and 61xx go on"
abbrev pub normal : ℕ
normal = 0x9000

abbrev pub end_of_data : ℕ
end_of_data = 0x6282

abbrev pub selected_deactivated : ℕ
selected_deactivated = 0x6283

abbrev pub bytes_wait : ℕ → ℕ
bytes_wait n = 0x6100 + n

-- the words of the commands that leave waiting bytes "with their own word kept"
abbrev pub CanBeKept : ℕ → Type 0
CanBeKept word = (word ≡ normal) ⊎ (word ≡ selected_deactivated)
