-- The instructions by their byte, and what the paper asks of each.
use Rattle.std.specs.Prelude.{ℕ, Bool, ◌&&◌, ◌||◌, eqb}
use Rattle.octets.specs.Choice.{pick}

-- "A4 SELECT."
abbrev pub select : ℕ
select = 0xA4

-- "B0 READ BINARY"; "D6 UPDATE BINARY"
abbrev pub read_binary : ℕ
read_binary = 0xB0

abbrev pub update_binary : ℕ
update_binary = 0xD6

-- "B2, DC records."
abbrev pub read_record : ℕ
read_record = 0xB2

abbrev pub update_record : ℕ
update_record = 0xDC

-- "A2 SEARCH"
abbrev pub search : ℕ
search = 0xA2

-- "32 INCREASE"
abbrev pub increase : ℕ
increase = 0x32

-- "04, 44 .. deactivate, activate the current file"
abbrev pub deactivate : ℕ
deactivate = 0x04

abbrev pub activate : ℕ
activate = 0x44

-- "C0 GET RESPONSE (compact)"
abbrev pub get_response : ℕ
get_response = 0xC0

-- "A4, D6, DC, A2 and 32 carry P3 data bytes"
abbrev pub carries_data : ℕ → Bool
carries_data i =
    eqb i select || (eqb i update_binary || (eqb i update_record || (eqb i search || eqb i increase)))

-- "B0, B2, C0": the outgoing commands
abbrev pub is_outgoing : ℕ → Bool
is_outgoing i = eqb i read_binary || (eqb i read_record || eqb i get_response)

-- "04, 44": deactivate and activate
abbrev pub is_switch : ℕ → Bool
is_switch i = eqb i deactivate || eqb i activate

-- the instructions that there are
abbrev pub is_known : ℕ → Bool
is_known i = carries_data i || (is_outgoing i || is_switch i)

-- B0 and D6 work on transparent files, B2, DC and A2 on record files
abbrev pub is_binary : ℕ → Bool
is_binary i = eqb i read_binary || eqb i update_binary

abbrev pub is_record : ℕ → Bool
is_record i = eqb i read_record || (eqb i update_record || eqb i search)

-- "Class 00, INCREASE 80."
unfoldable pub class_of : ℕ → ℕ
class_of i = pick (eqb i increase) 0x80 0x00

-- "P2 0C no data, 04 FCP."
abbrev pub no_data : ℕ
no_data = 0x0C

abbrev pub with_fcp : ℕ
with_fcp = 0x04

-- "04, 44 need 1; B0, B2, C0 2; SELECT 0C, D6, DC 3; the rest 4"; a SELECT's P2 tells
unfoldable pub case_of : ℕ → ℕ → ℕ
case_of i p2 =
    pick (is_switch i) 1
    (pick (is_outgoing i) 2
    (pick (eqb i update_binary || (eqb i update_record || (eqb i select && eqb p2 no_data))) 3 4))

-- "NEVER bits: 1 read and search, 2 update, 4 increase, 8 deactivate, 16 activate"
unfoldable pub never_bit : ℕ → ℕ
never_bit i =
    pick (eqb i read_binary || (eqb i read_record || eqb i search)) 1
    (pick (eqb i update_binary || eqb i update_record) 2
    (pick (eqb i increase) 4 (pick (eqb i deactivate) 8 16)))
