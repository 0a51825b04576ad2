-- "The worked card", and the cases that the paper marks with *.
use Rattle.std.specs.Prelude.{ℕ, ◌≡◌, List, ◌++◌, take, replicate}
use Prim.Native.String.{String}
use Rattle.octets.specs.Bytes.{zeros}
use Rattle.card.specs.Row.{Card, row_of}
use Rattle.journal.specs.Entries.{used_bytes}
use Rattle.journal.specs.Sound.{journal_length}
use Rattle.engine.specs.Hex.{hex}
use Rattle.engine.specs.Calls.{Result, run, take_back}

-- "Entries: 0 MF; 1 DF 7F10 in 0; 2 transparent 6F46 in 1, start 0, length 17; 3 linear 6F3A in 1, start 17, 3 records of 4; 4
-- cyclic 6F39 in 1, start 29, 3 records of 3; 5 ADF; 6 transparent 6F46 in 5, start 38, length 17, NEVER 2."
unfoldable pub worked_table : List ℕ
worked_table =
    hex "3F000001000000000000050000000000"
    ++ (hex "7F100002000000000000050000000000"
    ++ (hex "6F460104000000110000050000000000"
    ++ (hex "6F3A01050011000C0400050000000000"
    ++ (hex "6F390106001D00090300050000000000"
    ++ (hex "7FFF0003000000000000050000000000"
    ++ hex "6F460504002600110000050002000000")))))

-- "File memory is 55 bytes, all FF, cyclic 00 with newest 0; activated, journal zero."
unfoldable pub worked : Card
worked =
    record {
      table = worked_table;
      files = replicate 29 0xFF ++ (zeros 9 ++ replicate 17 0xFF);
      journal = zeros journal_length;
    }

-- how many bytes of response memory a run on the worked card is lent, here and by the programs
abbrev pub lent_response : ℕ
lent_response = 1024

-- a run of a script on the worked card, in access domain 00
unfoldable pub run_on : ℕ → ℕ → String → Result
run_on application format script =
    run (record { application = application; domain = 0x00; format = format; script = hex script; response = zeros lent_response }) worked

-- the answer's bytes
unfoldable pub answer_of : Result → List ℕ
answer_of r = take r.answer.length r.response

unfoldable pub compact_answer : ℕ → String → List ℕ
compact_answer application script = answer_of (run_on application 0 script)

unfoldable pub expanded_answer : String → List ℕ
expanded_answer script = answer_of (run_on 0 1 script)

-- "Marked * are proved, together in a single statement"
pub record Marked : Type 0 where
  -- "*00A4000C027F10: 019000. *00A4000C026F46: 016A82. *00B0000001: 016986. *00A400: 016700."
  pub select : compact_answer 0 "00A4000C027F10" ≡ hex "019000"
  pub select_missing : compact_answer 0 "00A4000C026F46" ≡ hex "016A82"
  pub read_no_file : compact_answer 0 "00B0000001" ≡ hex "016986"
  pub too_few : compact_answer 0 "00A400" ≡ hex "016700"
  -- "S = 00A4000C027F10 00A4000C026F46."; "*S 00D60000020141: 039000, U 18; taken back, all as before."; "*S 00B0000003: 039000FFFFFF."
  pub update : compact_answer 0 "00A4000C027F1000A4000C026F4600D60000020141" ≡ hex "039000"
  pub update_used : used_bytes (run_on 0 0 "00A4000C027F1000A4000C026F4600D60000020141").card.journal ≡ 18
  pub update_taken_back : (take_back (run_on 0 0 "00A4000C027F1000A4000C026F4600D60000020141").card).card ≡ worked
  pub read : compact_answer 0 "00A4000C027F1000A4000C026F4600B0000003" ≡ hex "039000FFFFFF"
  -- "*00A4080C047F106F39 8032000003000005 00C0000000: 039000000005000005, newest 2, U 28; without C0: 026106."
  pub increase : compact_answer 0 "00A4080C047F106F39803200000300000500C0000000" ≡ hex "039000000005000005"
  pub increase_newest : (row_of (run_on 0 0 "00A4080C047F106F39803200000300000500C0000000").card.table 4).newest ≡ 2
  pub increase_used : used_bytes (run_on 0 0 "00A4080C047F106F39803200000300000500C0000000").card.journal ≡ 28
  pub increase_waits : compact_answer 0 "00A4080C047F106F398032000003000005" ≡ hex "026106"
  -- "*00A40004027F10 00C0000000: 029000620B8202782183027F108A0105."
  pub fcp : compact_answer 0 "00A40004027F1000C0000000" ≡ hex "029000620B8202782183027F108A0105"
  -- "Application 5: *00A4000C026F46 00D600000101: 026982."
  pub other_application : compact_answer 5 "00A4000C026F4600D600000101" ≡ hex "026982"
  -- "*AA00: AB03800100. *AA0255 00: AB06800101900101. *AE8022 0300A400 0000: AF809001020000."
  pub empty_template : expanded_answer "AA00" ≡ hex "AB03800100"
  pub bad_tag : expanded_answer "AA025500" ≡ hex "AB06800101900101"
  pub bad_length : expanded_answer "AE80220300A4000000" ≡ hex "AF809001020000"
