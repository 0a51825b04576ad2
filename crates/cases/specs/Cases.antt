-- What the program prints of a line: `LABEL: application=A domain=D format=F journal=J script=S` asks for a run on the worked card, with
-- the journal's first bytes and the script in hex digits. What stands behind the script and a blank is for a reader.
use Rattle.std.specs.Prelude.{ℕ, ◌+◌, ◌-◌, ◌*◌, ◌≤◌, Bool, ◌&&◌, List, [], ◌∷◌, ◌++◌, leb, ltb, length, take, Option, Some, None, IfSome, option_and_then}
use Rattle.octets.specs.Choice.{pick}
use Rattle.octets.specs.Bytes.{part, overwrite, zeros}
use Rattle.journal.specs.Entries.{used_bytes}
use Rattle.journal.specs.Sound.{journal_length}
use Rattle.step.specs.Limits.{longest_script}
use Rattle.engine.specs.Calls.{Result}
use Rattle.engine.specs.Worked.{lent_response, answer_of}
use Rattle.lines.specs.Digits.{ascii, few_hex, decoded, hex_of, decimal}
use Rattle.lines.specs.Named.{line_feed, space, named}
use Rattle.lines.specs.Values.{value_end, hex_at, HexLies, then}
use Rattle.lines.specs.Calls.{call_at, run_on_worked}
use Rattle.engine.specs.declared.Call.{Call}
use Rattle.cases.specs.declared.input.Case.{Case}

-- the most that a label has, and the byte behind it
abbrev pub longest_label : ℕ
longest_label = 64

abbrev pub colon : ℕ
colon = 0x3A

-- the case of a line whose label ends at a place
unfoldable pub case_behind : List ℕ → ℕ → Option Case
case_behind line label =
    option_and_then (λ (call, fourth).
    then None (hex_at line fourth (ascii "journal=") space (2 * journal_length)) λ journal journal_end.
    then None (hex_at line journal_end (ascii " script=") space (2 * longest_script)) λ script script_end.
    Some
    (record {
      label = label;
      call = call;
      journal = journal;
      journal_end = journal_end;
      script = script;
      script_end = script_end;
    }))
    (call_at line label (ascii ": application=") space)

-- the case of a line
unfoldable pub case_of : List ℕ → Option Case
case_of line =
    let label : ℕ = value_end colon line 0 in
    pick (ltb longest_label label) None (case_behind line label)

-- label, journal and script of a case, the last two in hex digits
abbrev pub label_of : List ℕ → Case → List ℕ
label_of line c = take c.label line

abbrev pub journal_of : List ℕ → Case → List ℕ
journal_of line c = part line c.journal (c.journal_end - c.journal)

abbrev pub script_of : List ℕ → Case → List ℕ
script_of line c = part line c.script (c.script_end - c.script)

-- what a case promises: its label is short and lies in the line, and so do its digits
pub record CaseFits (line : List ℕ) (c : Case) : Type 0 where
  pub label : c.label ≤ longest_label
  pub labelled : c.label ≤ length line
  pub journal : HexLies line (2 * journal_length) c.journal c.journal_end
  pub script : HexLies line (2 * longest_script) c.script c.script_end

abbrev pub AskedFits : List ℕ → Option Case → Type 0
AskedFits line asked = IfSome asked (λ c. CaseFits line c)

-- whether label, journal and script are short enough, and the last two of hex digits
unfoldable pub is_case : List ℕ → List ℕ → List ℕ → Bool
is_case label journal script = leb (length label) longest_label && (few_hex (2 * journal_length) journal && few_hex (2 * longest_script) script)

-- a run of a script on the worked card with another journal
abbrev pub ran_on : Call → List ℕ → List ℕ → Result
ran_on call journal script = run_on_worked call script (zeros lent_response) journal

-- the journal's head and used bytes, and all of it where they would be more
unfoldable pub head_and_used : List ℕ → List ℕ
head_and_used journal = take (4 + used_bytes journal) journal

-- a label with four values after it
unfoldable pub labelled : List ℕ → ℕ → ℕ → List ℕ → List ℕ → List ℕ
labelled label refusal executed response journal =
    label
    ++ (named (ascii ": refusal=") (decimal refusal) space
    ++ (named (ascii "executed=") (decimal executed) space
    ++ (named (ascii "response=") (hex_of response) space ++ named (ascii "journal=") (hex_of journal) line_feed)))

-- the most that a line has: 64 bytes of label, 36 of names, 4 after the values, 20 digits of each number, and two for each byte of
-- answer and journal
abbrev pub most_in_line : ℕ
most_in_line = 144 + 2 * (lent_response + journal_length)

-- what such a line asks: room for it, and parts that are no longer than they can be
pub record PutLabelledAsks (out label response journal : List ℕ) : Type 0 where
  pub room : most_in_line ≤ length out
  pub label_short : length label ≤ longest_label
  pub response_short : length response ≤ lent_response
  pub journal_short : length journal ≤ journal_length

-- the line of a run
unfoldable pub run_line : List ℕ → Result → List ℕ
run_line label r =
    labelled label r.answer.number r.answer.count (answer_of r) (head_and_used r.card.journal)

-- the line of a case; the journal is zero after the bytes that are given
unfoldable pub case_line : List ℕ → Call → List ℕ → List ℕ → List ℕ
case_line label call journal script =
    run_line label (ran_on call (overwrite (zeros journal_length) 0 (decoded journal)) (decoded script))

-- what is printed of a line
unfoldable pub printed_of : List ℕ → Option Case → List ℕ
printed_of line (Some c) = case_line (label_of line c) c.call (journal_of line c) (script_of line c)
printed_of line None = ascii "case=bad" ++ (line_feed ∷ [])

unfoldable pub printed : List ℕ → List ℕ
printed line = printed_of line (case_of line)
