-- "Lengths: 00-7F, 81 80-FF, 82 0100-FFFF, shortest form only." One reader for the template and for C-APDUs, and one writer.
use Rattle.std.specs.Prelude.{ℕ, ◌+◌, List, [], ◌∷◌, leb, ltb, eqb}
use Rattle.octets.specs.Choice.{pick}
use Rattle.octets.specs.Bytes.{byte, num_at, bytes2}
use Rattle.tlv.specs.declared.lengths.Length.{Length}
use Rattle.tlv.specs.declared.lengths.Length.TheVariants.{Found, Bad}

-- "Bad format TLV 90 01: 01 other tag; 03 no length byte, or too few after 81 or 82; 02 other length form, past the end, or below 4."
abbrev pub other_tag : ℕ
other_tag = 1

abbrev pub wrong_length : ℕ
wrong_length = 2

abbrev pub length_missing : ℕ
length_missing = 3

-- "81 80-FF, 82 0100-FFFF": a length in the form 81 or 82 whose byte or two bytes stand at a place, in bytes that end at `end`
unfoldable pub short_length : List ℕ → ℕ → ℕ → Length
short_length bs at end =
    pick (leb (at + 1) end)
    (pick (leb 0x80 (byte bs at)) (Found (byte bs at) (at + 1)) (Bad wrong_length))
    (Bad length_missing)

unfoldable pub long_length : List ℕ → ℕ → ℕ → Length
long_length bs at end =
    pick (leb (at + 2) end)
    (pick (leb 0x0100 (num_at bs at)) (Found (num_at bs at) (at + 2)) (Bad wrong_length))
    (Bad length_missing)

-- "Each reading of a length ends in a length, in 02 or in 03."
unfoldable pub length_at : List ℕ → ℕ → ℕ → Length
length_at bs at end =
    pick (leb (at + 1) end)
    (pick (leb (byte bs at) 0x7F)
    (Found (byte bs at) (at + 1))
    (pick (eqb (byte bs at) 0x81)
    (short_length bs (at + 1) end)
    (pick (eqb (byte bs at) 0x82) (long_length bs (at + 1) end) (Bad wrong_length))))
    (Bad length_missing)

-- the code that a length which was not found leaves
unfoldable pub code_of : Length → ℕ
code_of (Found n place) = 0
code_of (Bad code) = code

-- a length in its "shortest form"
unfoldable pub length_bytes : ℕ → List ℕ
length_bytes n = pick (ltb n 0x80) (n ∷ []) (pick (ltb n 0x0100) (0x81 ∷ n ∷ []) (0x82 ∷ bytes2 n))
