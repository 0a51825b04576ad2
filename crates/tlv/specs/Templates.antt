-- "AA, length, value to the script's end; or AE 80, value, 00 00 as the last two bytes."
use Rattle.std.specs.Prelude.{ℕ, Option, Some, None, ◌+◌, ◌-◌, Bool, ◌&&◌, ◌||◌, List, length, leb, ltb, eqb}
use Rattle.octets.specs.Choice.{pick}
use Rattle.octets.specs.Bytes.{byte}
use Rattle.tlv.specs.declared.lengths.Length.{Length}
use Rattle.tlv.specs.declared.lengths.Length.TheVariants as length-answers
use Rattle.tlv.specs.declared.template.Template.{Template}
use Rattle.tlv.specs.declared.template.Template.TheVariants.{Definite, Indefinite}
use Rattle.tlv.specs.declared.template.Item.{Item}
use Rattle.tlv.specs.declared.template.Item.TheVariants.{Capdu, Bad, End}
use Rattle.tlv.specs.Lengths.{length_at, other_tag, wrong_length}

-- "AA, length, value to the script's end": a length that runs exactly to the end
unfoldable pub definite : Length → ℕ → Option Template
definite (length-answers.Found n at) end = pick (eqb (at + n) end) (Some (Definite at end)) None
definite (length-answers.Bad code) end = None

-- "AE 80, value, 00 00 as the last two bytes"
unfoldable pub indefinite : List ℕ → ℕ → Option Template
indefinite script end =
    pick (leb 4 end && (eqb (byte script 1) 0x80 && (eqb (byte script (end - 2)) 0 && eqb (byte script (end - 1)) 0)))
    (Some (Indefinite 2 (end - 2)))
    None

-- the template of a script
unfoldable pub template_of : List ℕ → Option Template
template_of script =
    pick (eqb (byte script 0) 0xAA)
    (definite (length_at script 1 (length script)) (length script))
    (pick (eqb (byte script 0) 0xAE) (indefinite script (length script)) None)

-- "Inside, tag 22 or A2 is a C-APDU, and the value of a TLV is a part of the script."
unfoldable pub is_capdu_tag : ℕ → Bool
is_capdu_tag tag = eqb tag 0x22 || eqb tag 0xA2

-- a C-APDU has at least four bytes: "or below 4"
abbrev pub least_capdu : ℕ
least_capdu = 4

-- "the value of a TLV is a part of the script": what comes of a length; "02 .. past the end, or below 4"
unfoldable pub value_at : Length → ℕ → Item
value_at (length-answers.Found n at) end = pick (leb (at + n) end && leb least_capdu n) (Capdu at n) (Bad wrong_length)
value_at (length-answers.Bad code) end = Bad code

-- what stands at a place of a value that ends at `end`
unfoldable pub item_at : List ℕ → ℕ → ℕ → Item
item_at script at end =
    pick (ltb at end)
    (pick (is_capdu_tag (byte script at)) (value_at (length_at script (at + 1) end) end) (Bad other_tag))
    End
