-- "Expanded": R-APDUs, running a script under the 1,000-byte rule, and the answer.
use Rattle.std.specs.Prelude.{ℕ, zero, suc, ◌+◌, Bool, true, false, not, ◌||◌, List, [], ◌∷◌, ◌++◌, length, take, ltb, eqb, Option, Some, None}
use Rattle.octets.specs.Choice.{pick}
use Rattle.octets.specs.Bytes.{bytes2, part}
use Rattle.card.specs.Row.{Card}
use Rattle.tlv.specs.declared.template.Template.{Template}
use Rattle.tlv.specs.declared.template.Template.TheVariants.{Definite, Indefinite}
use Rattle.tlv.specs.declared.template.Item.TheVariants.{Capdu, Bad, End}
use Rattle.tlv.specs.Lengths.{length_bytes}
use Rattle.tlv.specs.Templates.{item_at}
use Rattle.command.specs.declared.Format.TheVariants.{Expanded}
use Rattle.command.specs.declared.Reading.{Reading}
use Rattle.command.specs.declared.Step.{Step}
use Rattle.command.specs.Outcomes.{word_of, data_of, goes_on}
use Rattle.step.specs.Steps.{State, state_of, started, stepped, commanded}
use Rattle.step.specs.Limits.{most_kept}
use Rattle.expanded.specs.declared.run.Gathered.{Gathered}
use Rattle.expanded.specs.declared.run.Rapdus.{Rapdus}
use Rattle.expanded.specs.Capdu.{capdu_command}

-- "R-APDU: 23, length, data, status."
unfoldable pub rapdu : List ℕ → ℕ → List ℕ
rapdu d word = 0x23 ∷ (length_bytes (length d + 2) ++ (d ++ bytes2 word))

-- "Bad format TLV 90 01"
unfoldable pub bad_format : ℕ → List ℕ
bad_format code = 0x90 ∷ 1 ∷ code ∷ []

-- "R-APDUs of case 2 and 4 commands (by size)" under AA, "all R-APDUs" under AE
abbrev pub keeps : Bool → ℕ → Bool
keeps definite case = not definite || (eqb case 2 || eqb case 4)

-- an expanded script after some commands: the state, the R-APDUs kept so far, and what else stands in the answer should no command
-- follow: the R-APDU of the last command where it is not kept, or the Bad format TLV
pub record Progress : Type 0 where
  pub state : State
  pub kept : List ℕ
  pub last : List ℕ

-- 1,000 bytes and the R-APDU of a last command without data
abbrev pub room_to_gather : ℕ
room_to_gather = most_kept + 4

-- every answer finds room in as many bytes of response memory as number 4 asks for
abbrev pub room_to_answer : ℕ
room_to_answer = 1024

-- the progress whose R-APDUs are gathered in a buffer
unfoldable pub progress_of : Gathered → Card → List ℕ → Progress
progress_of g card out =
    record { state = state_of g.step card; kept = take g.rapdus.kept out; last = part out g.rapdus.kept g.rapdus.last }

-- a command's R-APDU goes to those kept, or stands last for now
unfoldable pub answered : Bool → State → List ℕ → List ℕ → Progress
answered counts st kept r =
    pick counts
    (record { state = st; kept = kept ++ r; last = [] })
    (record { state = st; kept = kept; last = r })

-- the same in a buffer, where the R-APDU's `n` bytes stand after the `kept` bytes
unfoldable pub gathered_in : Bool → ℕ → ℕ → Rapdus
gathered_in counts kept n =
    pick counts (record { kept = kept + n; last = 0 }) (record { kept = kept; last = n })

-- a script with what is gathered of it
abbrev pub gathered_of : Step → Rapdus → Gathered
gathered_of step r = record { step = step; rapdus = r }

-- the R-APDU of the last command, with the file memory after it
unfoldable pub last_rapdu : Step → List ℕ → List ℕ
last_rapdu step files = rapdu (data_of step.outcome files step.session.waiting) (word_of step.outcome)

-- the progress after a C-APDU is run
unfoldable pub step_capdu : Bool → ℕ → List ℕ → Progress → Progress
step_capdu definite domain capdu p =
    let r : Reading = capdu_command capdu in
    let counts : Bool = keeps definite r.command.case in
    let st : State =
    stepped p.state
    (commanded Expanded domain r.command (part capdu r.from r.size) p.state.step.session (length p.kept) counts p.state.card)
    in
    answered counts st p.kept (last_rapdu st.step st.card.files)

-- the progress after a Bad format TLV: "It counts and stops."
unfoldable pub step_bad : ℕ → Progress → Progress
step_bad code p =
    let step : Step = p.state.step in
    record {
      state =
          record {
            step = record { session = step.session; outcome = step.outcome; count = step.count + 1 };
            card = p.state.card;
          };
      kept = p.kept;
      last = bad_format code;
    }

-- "A script is read from front to back, once."; the progress after the items from the place `at` on, `n` of them at most, in a value that ends at `end`
unfoldable pub run_from : ℕ → List ℕ → ℕ → Bool → ℕ → ℕ → Progress → Progress
run_from zero script domain definite at end p = p
run_from (suc n) script domain definite at end p =
    elim (item_at script at end) [
      | Capdu from size ↦
          let next : Progress = step_capdu definite domain (part script from size) p in
          elim (goes_on (word_of next.state.step.outcome)) [
            | true ↦ run_from n script domain definite (from + size) end next
            | false ↦ next
          ]
      | Bad code ↦ step_bad code p
      | End ↦ p
    ]

-- the progress before the first command
unfoldable pub begun : ℕ → Card → Progress
begun application card = record { state = started application card; kept = []; last = [] }

-- a whole script; each item takes a byte or more
unfoldable pub run : Option Template → List ℕ → ℕ → ℕ → Card → Progress
run (Some (Definite at end)) script application domain card =
    run_from (length script) script domain true at end (begun application card)
run (Some (Indefinite at end)) script application domain card =
    run_from (length script) script domain false at end (begun application card)
run None script application domain card = begun application card

-- "count as shortest signed integer (128 is 00 80)"; a script has less than 32,768 commands
unfoldable pub count_bytes : ℕ → List ℕ
count_bytes n = pick (ltb n 0x80) (n ∷ []) (bytes2 n)

-- "AA answers AB, length, 80, length, count .., R-APDUs": what stands after the first length, and the whole
unfoldable pub definite_body : ℕ → List ℕ → List ℕ
definite_body count rapdus = 0x80 ∷ (length_bytes (length (count_bytes count)) ++ (count_bytes count ++ rapdus))

unfoldable pub definite_answer : ℕ → List ℕ → List ℕ
definite_answer count rapdus =
    0xAB ∷ (length_bytes (length (definite_body count rapdus)) ++ definite_body count rapdus)

-- "AE answers AF 80, all R-APDUs, 00 00."
unfoldable pub indefinite_answer : List ℕ → List ℕ
indefinite_answer rapdus = 0xAF ∷ 0x80 ∷ (rapdus ++ (0 ∷ 0 ∷ []))

-- the answer from a count of commands and the R-APDUs that stand in it
unfoldable pub answer_bytes : Bool → ℕ → List ℕ → List ℕ
answer_bytes definite count rapdus = pick definite (definite_answer count rapdus) (indefinite_answer rapdus)

-- "R-APDUs of case 2 and 4 commands (by size) and of the last command, once (a Bad format TLV counts as the last command)"
unfoldable pub answer : Option Template → Progress → List ℕ
answer (Some (Definite at end)) p = answer_bytes true p.state.step.count (p.kept ++ p.last)
answer (Some (Indefinite at end)) p = answer_bytes false p.state.step.count (p.kept ++ p.last)
answer None p = []
