-- "FCP: 62, length, then 82 02 (78 directory, 41 transparent) 21, or 82 05 (42 linear, 46 cyclic) 21, record length in 2
-- bytes, record count; 83 02 identifier; 8A 01 state; for files 80 02 length."
use Rattle.std.specs.Prelude.{ℕ, List, [], ◌∷◌, ◌++◌, length}
use Rattle.octets.specs.Choice.{pick}
use Rattle.octets.specs.Bytes.{bytes2}
use Rattle.card.specs.declared.Row.{Row}
use Rattle.card.specs.Row.{is_directory, is_transparent, is_linear, has_records}
use Rattle.card.specs.Sound.{record_count}

-- the file descriptor byte: "(78 directory, 41 transparent)", "(42 linear, 46 cyclic)"
unfoldable pub descriptor : Row → ℕ
descriptor r = pick (is_directory r) 0x78 (pick (is_transparent r) 0x41 (pick (is_linear r) 0x42 0x46))

-- "82 02 .. 21, or 82 05 .. 21, record length in 2 bytes, record count"
unfoldable pub fcp82 : Row → List ℕ
fcp82 r =
    pick (has_records r)
    (0x82 ∷ 5 ∷ descriptor r ∷ 0x21 ∷ (bytes2 r.record_length ++ (record_count r ∷ [])))
    (0x82 ∷ 2 ∷ descriptor r ∷ 0x21 ∷ [])

-- "83 02 identifier"
unfoldable pub fcp83 : Row → List ℕ
fcp83 r = 0x83 ∷ 2 ∷ bytes2 r.identifier

-- "8A 01 state"
unfoldable pub fcp8a : Row → List ℕ
fcp8a r = 0x8A ∷ 1 ∷ r.state ∷ []

-- "for files 80 02 length"
unfoldable pub fcp80 : Row → List ℕ
fcp80 r = pick (is_directory r) [] (0x80 ∷ 2 ∷ bytes2 r.size)

unfoldable pub fcp_body : Row → List ℕ
fcp_body r = fcp82 r ++ (fcp83 r ++ (fcp8a r ++ fcp80 r))

unfoldable pub fcp : Row → List ℕ
fcp r = 0x62 ∷ length (fcp_body r) ∷ fcp_body r
