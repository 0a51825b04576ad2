-- When each check fails, and the first of a list that does.
use Rattle.std.specs.Prelude.{ℕ, ◌+◌, ◌/◌, ◌%◌, Bool, true, false, not, ◌&&◌, ◌||◌, List, [], ◌∷◌, length, leb, ltb, eqb, Result, Ok, Err}
use Rattle.octets.specs.Choice.{pick}
use Rattle.card.specs.declared.Row.{Row}
use Rattle.std.specs.Prelude.{Option, Some, None}
use Rattle.card.specs.Row.{is_transparent, is_cyclic, has_records, is_deactivated}
use Rattle.journal.specs.Changes.{cost}
use Rattle.session.specs.Session.{none}
use Rattle.command.specs.declared.Command.{Command}
use Rattle.command.specs.declared.checks.Check.{Check}
use Rattle.command.specs.declared.checks.Check.TheVariants.{BrokenForm, UnknownInstruction, WrongClass, BytesAfter, WrongCase, WrongParameters, WrongDomain, WrongPathLength, NotFound, NothingWaits, MoreThanWaits, NoFile, WrongKind, WrongMode, Deactivated, Never, OffsetOutside, NoRecord, WrongLength, SumTooLong, JournalFull, AnswerTooLong}
use Rattle.command.specs.Instructions as ins
use Rattle.command.specs.Instructions.{carries_data, is_outgoing, is_switch, is_known, is_binary, is_record, class_of, case_of, no_data, with_fcp, never_bit}
use Rattle.plan.specs.Files.{mode_next, mode_previous, mode_absolute, search_forward, search_backward, has_record, longest_increase, sum_too_long}
use Rattle.plan.specs.Plans.{Situation, offset_of, named_by, done_by}

-- "compact B0, B2, C0 with bytes after it"
abbrev pub bytes_after : Command → Bool
bytes_after c = is_outgoing c.instruction && c.after

-- "wrong case, Lc 0"
unfoldable pub wrong_case : Command → ℕ → Bool
wrong_case c lc =
    not (eqb c.case (case_of c.instruction c.p2))
    || (carries_data c.instruction && eqb lc 0)

-- the P1 and P2 that an instruction takes; "P1P2 6A86 (B0, D6: P1 above 7F)"; "INCREASE, P1P2 0000"; "04, 44 (P1P2 0000, as C0)"
unfoldable pub parameters_fit : ℕ → ℕ → ℕ → Bool
parameters_fit i p1 p2 =
    pick (eqb i ins.select)
    ((eqb p1 0x00 || (eqb p1 0x08 || eqb p1 0x09)) && (eqb p2 no_data || eqb p2 with_fcp))
    (pick (is_binary i)
    (leb p1 0x7F)
    (pick (eqb i ins.search)
    (eqb p2 search_forward || eqb p2 search_backward)
    (pick (is_record i)
    (eqb p2 mode_absolute || ((eqb p2 mode_next || eqb p2 mode_previous) && eqb p1 0x00))
    (eqb p1 0x00 && eqb p2 0x00))))

-- "domain FF 6982 (C0 exempt)"
abbrev pub wrong_domain : ℕ → ℕ → Bool
wrong_domain i domain = eqb domain 0xFF && not (eqb i ins.get_response)

-- the data lengths that SELECT takes: "P1 00: two bytes", else "1 to 8 identifiers"
unfoldable pub path_length_fits : ℕ → ℕ → Bool
path_length_fits p1 n = pick (eqb p1 0) (eqb n 2) (eqb (n % 2) 0 && (leb 2 n && leb n 16))

-- whether SELECT found an entry
unfoldable pub is_found : Option ℕ → Bool
is_found (Some e) = true
is_found None = false

-- the kinds of file that an instruction works on; "INCREASE, .. cyclic"; "kind (INCREASE: or record above 127) 6981"
unfoldable pub kind_fits : ℕ → Row → Bool
kind_fits i r =
    pick (is_binary i)
    (is_transparent r)
    (pick (is_record i)
    (has_records r)
    (pick (eqb i ins.increase) (is_cyclic r && leb r.record_length longest_increase) true))

-- DC on a cyclic file writes the oldest place, whatever the record number
abbrev pub renews : ℕ → Row → Bool
renews i r = eqb i ins.update_record && is_cyclic r

-- "DC on cyclic: mode 03 only"; "DC on cyclic outside mode 03 6A86"
abbrev pub wrong_mode : ℕ → ℕ → Row → Bool
wrong_mode i p2 r = renews i r && not (eqb p2 mode_previous)

-- "deactivated 6984 (04, 44 exempt)"
abbrev pub is_shut : ℕ → Row → Bool
is_shut i r = is_deactivated r && not (is_switch i)

-- whether a NEVER byte has a bit
abbrev pub has_bit : ℕ → ℕ → Bool
has_bit never bit = eqb (never / bit % 2) 1

-- "NEVER bit 6982"
abbrev pub is_never : ℕ → Row → Bool
is_never i r = has_bit r.never (never_bit i)

-- "offset not below length 6B00"
abbrev pub offset_outside : ℕ → ℕ → Row → Bool
offset_outside i offset r = is_binary i && leb r.size offset

-- "record 6A83"
unfoldable pub no_record : Command → ℕ → Row → Bool
no_record c number r =
    (is_record c.instruction && not (renews c.instruction r)) && not (has_record r (named_by c number r))

-- the lengths that an instruction takes: "P3 of B2 is 00 or the record length; Lc of DC is the record length"; "lengths against file or
-- record 6700 (INCREASE, SEARCH: Lc above record length)"
unfoldable pub length_fits : ℕ → ℕ → ℕ → ℕ → Row → Bool
length_fits i offset p3 lc r =
    pick (eqb i ins.update_binary)
    (leb (offset + lc) r.size)
    (pick (eqb i ins.read_record)
    (eqb p3 0 || eqb p3 r.record_length)
    (pick (eqb i ins.update_record)
    (eqb lc r.record_length)
    (pick (eqb i ins.search || eqb i ins.increase) (leb lc r.record_length) true)))

-- "6581 exactly when U would pass 2,044"
unfoldable pub journal_full : Situation → Bool
journal_full w = ltb w.file.room (w.file.used + cost (done_by w.command.instruction w).writes)

-- whether a check fails in a situation; the last is about an answer, and no situation of a command says it
unfoldable pub fails : Situation → Check → Bool
fails w BrokenForm = not w.command.whole
fails w UnknownInstruction = not (is_known w.command.instruction)
fails w WrongClass = not (eqb w.command.class (class_of w.command.instruction))
fails w BytesAfter = bytes_after w.command
fails w WrongCase = wrong_case w.command (length w.«data»)
fails w WrongParameters = not (parameters_fit w.command.instruction w.command.p1 w.command.p2)
fails w WrongDomain = wrong_domain w.command.instruction w.domain
fails w WrongPathLength = not (path_length_fits w.command.p1 (length w.«data»))
fails w NotFound = not (is_found w.found)
fails w NothingWaits = eqb w.session.valid 0
fails w MoreThanWaits = ltb w.session.valid w.command.p3
fails w NoFile = eqb w.session.file none
fails w WrongKind = not (kind_fits w.command.instruction w.file.row)
fails w WrongMode = wrong_mode w.command.instruction w.command.p2 w.file.row
fails w Deactivated = is_shut w.command.instruction w.file.row
fails w Never = is_never w.command.instruction w.file.row
fails w OffsetOutside = offset_outside w.command.instruction (offset_of w.command) w.file.row
fails w NoRecord = no_record w.command w.session.record_number w.file.row
fails w WrongLength =
    not (length_fits w.command.instruction (offset_of w.command) w.command.p3 (length w.«data») w.file.row)
fails w SumTooLong = sum_too_long w.command.instruction w.file w.«data»
fails w JournalFull = journal_full w
fails w AnswerTooLong = false

-- the check that a command with an unknown instruction fails
unfoldable pub unknown_check : Command → Check
unknown_check c = pick c.whole UnknownInstruction BrokenForm

-- the first check of a list that fails is the error; where none does, all are passed
unfoldable pub first_failing : Situation → List Check → Result (Unit {0}) Check
first_failing w [] = Ok tt
first_failing w (k ∷ ks) = pick (fails w k) (Err k) (first_failing w ks)
