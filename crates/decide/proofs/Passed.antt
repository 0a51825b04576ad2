-- What is known of a file command after its checks, what a sound table and a good session give it, and what a command comes to.
-- What came of the checks holds of every situation with this command, session and row (`Formed`, `Told`). The command's own situation
-- is one of these (`own_formal`, `own_bound`), so a check that failed is the plan's (`form_failed`, `check_failed`), and where all are
-- passed each gives a fact about the row (`Known`), which are the bounds that the instruction's function asks for. What comes of it is
-- decided but for the journal's room, for any journal (`Unroomed`); the room is the last check, and with it this is what is planned
-- (`room-decided`). A command that writes nothing is decided where its plan is (`nothing`). Assumes nothing.
use mathlib.Core.Path.{◌≡◌, refl, sym, ap, ◌∙◌}
use mathlib.Core.Bool.{true, false}
use mathlib.Core.List.{List, []}
use mathlib.Core.Logic.{⊎_elim}
use Prim.Native.Nat.{ℕ, ◌+◌, ◌≤◌, ◌<◌}
use native.Mathlib.Nat.{eq-zero-or-pos}
use native.Mathlib.Omega.{arith}
use lib.ListN.{length}
use lib.Dec.{eqb}
use borrow.Author.Tests.{eqb-false, not-false}
use Rattle.std.specs.Prelude.{Result, Ok, Err}
use Rattle.octets.specs.Choice.{pick}
use Rattle.octets.proofs.Picks.{on_pick}
use Rattle.card.specs.declared.Row.{Row}
use Rattle.card.specs.Row.{Card, lent, HasEntry, entries, row_of, is_cyclic, has_records, activated, deactivated, place_of_newest, place_of_state}
use Rattle.card.specs.Promised.{RowFits, RecordOffsetAsks}
use Rattle.card.specs.Sound.{own_sound}
use Rattle.card.proofs.Promises.{some-entries, few-entries, cyclic-records, file-inside, record_some, records-some, records-few, entry_own}
use Rattle.journal.specs.Entries.{used_bytes, room}
use Rattle.journal.specs.Promised.{HasRoom}
use Rattle.journal.proofs.Parts.{Parts, card-table, card_parts, used-inside, room-left}
use Rattle.session.specs.declared.Standing.{Standing}
use Rattle.session.specs.Session.{most_waiting}
use Rattle.command.specs.declared.Format.{Format}
use Rattle.command.specs.declared.Format.TheVariants.{Compact}
use Rattle.command.specs.declared.Command.{Command}
use Rattle.command.specs.declared.checks.Check.{Check}
use Rattle.command.specs.Instructions as ins
use Rattle.command.specs.Instructions.{is_known, is_record}
use Rattle.plan.specs.Ends.{failed}
use Rattle.plan.specs.Files.{File, file_at}
use Rattle.plan.specs.Promised.{Recorded, plan_of, Fits, newest_of, update_change, summed}
use Rattle.plan.specs.Plans.{Situation, offset_of, named_by, switch, done_by}
use Rattle.decide.specs.Fails.{fails, first_failing, unknown_check, kind_fits, renews, offset_outside, no_record, length_fits}
use Rattle.decide.specs.Order.{formal_checks, select_checks, bound_checks}
use Rattle.decide.specs.Promised.{FirstOf, FileCheckAsks, Bound, Formal, is_of_file, OfSelect, roomed, responded, FileCommandAsks, DecideAsks, Unroomed, Decided}
use Rattle.decide.specs.Decisions.{situation, decided, planned}
use Rattle.decide.proofs.Order.{record_kind}
use Rattle.decide.proofs.Instructed.{no_select, no_response}
use Rattle.card.proofs.Places.{offset_inside}
use Rattle.decide.proofs.Passing.{AllPass, all_pass, kind_increased, offset_read, length_binary, length_record, length_increased, named_there}
use Rattle.plan.specs.declared.Change.TheVariants.{Nothing, TableByte}
use Rattle.plan.specs.declared.Decision.{Decision}
use Rattle.plan.proofs.Inside.{none-fits, newest-fits}
use Rattle.decide.proofs.Plans.{form_fails, form-roomless, unknown_fails, behind, behind-select, behind-response, check_fails, roomless-done, room-behind, Fails, roomed-inside, nothing-decided, plain-sum}

-- what is known of a file command and its file's row once the checks up to the lengths are passed
pub record Known (files : ℕ) (c : Command) (lc : ℕ) (s : Standing) (r : Row) : Type 0 where
  pub inside : r.start + r.size ≤ files
  pub recorded : has_records r ≡ true → Recorded files r
  pub kind : kind_fits c.instruction r ≡ true
  pub offset : offset_outside c.instruction (offset_of c) r ≡ false
  pub «record» : no_record c s.record_number r ≡ false
  pub length : length_fits c.instruction (offset_of c) c.p3 lc r ≡ true

-- what that gives to the instructions
module _ {files lc : ℕ} {c : Command} {s : Standing} {r : Row} (p : Known files c lc s r) where
  pub to_read : c.instruction ≡ ins.read_binary → offset_of c < r.size
  to_read e = offset_read c.instruction r (offset_of c) e p.offset

  pub to_update : c.instruction ≡ ins.update_binary → offset_of c + lc ≤ r.size
  to_update e = length_binary c.instruction r (offset_of c) c.p3 lc p.length e

  pub of_records : is_record c.instruction ≡ true → Recorded files r
  of_records h = p.recorded (record_kind c.instruction r h p.kind)

  pub has_named : is_record c.instruction ≡ true → renews c.instruction r ≡ false → RecordOffsetAsks r (named_by c s.record_number r)
  has_named h g =
      let has = of_records h in
      let n = named_there c s.record_number r h g p.«record» in
      record { row = has.row; least = has.least; first = n.0; last = n.1 }

  pub to_sum : c.instruction ≡ ins.increase → Recorded files r × (r.record_length ≤ 127) × (lc ≤ r.record_length)
  to_sum e =
      let k = kind_increased c.instruction r e p.kind in
      (p.recorded (cyclic-records r k.0), k.1, length_increased c.instruction r (offset_of c) c.p3 lc p.length e)

  -- DC: the change fits
  pub update-fits : c.instruction ≡ ins.update_record → (t : ℕ) → place_of_newest s.file < t → Fits t files lc (update_change c s r)
  unfolding update_change Fits newest_of
  update-fits e t h =
      let has = of_records (rw e) in
      let l = length_record c.instruction r (offset_of c) c.p3 lc p.length e in
      let i = offset_inside r has.counted (named_by c s.record_number r) in
      on_pick (Fits t files lc) (is_cyclic r) _ _ (λ y. (newest-fits t files s.file r has h, l)) (λ n. (p.inside, omega arith))

-- what a card that is ready has
module _ {card : Card} {s : Standing} {c : Command} {lc : ℕ} (ready : DecideAsks card s c lc) where
  pub able : FileCommandAsks card.table card.files s c lc
  able = record { table = card-table card ready.sound; good = ready.good; bytes = ready.bytes }

  pub journal_parts : Parts card.table card.files card.journal
  journal_parts = card_parts card ready.sound

  pub journal-inside : HasRoom card.journal 0
  journal-inside = omega (arith, used-inside card.table card.files card.journal journal_parts)

-- what a sound table and a good session give
module _ {t files : List ℕ} {s : Standing} {c : Command} {lc : ℕ} (can : FileCommandAsks t files s c lc) where
  file-here : s.file < entries t
  file-here = ⊎_elim (λ z. let h = some-entries t files can.table in omega arith) (λ p. (can.good.file p).belongs.inside) (eq-zero-or-pos s.file)

  pub file-small : s.file < 64
  file-small = let h = few-entries t files can.table in let g = file-here in omega arith

  pub entry-inside : HasEntry t s.file
  entry-inside = let h = file-here in omega arith

  pub newest-inside : place_of_newest s.file < length t
  newest-inside = let h = file-here in omega arith

  state-inside : place_of_state s.file < length t
  state-inside = let h = file-here in omega arith

  module _ {r : Row} (same : r ≡ row_of t s.file) where
    own : own_sound (length files) r ≡ true
    own = rw same (entry_own t files can.table s.file file-here)

    records_long : has_records r ≡ true → 1 ≤ r.record_length
    records_long has = record_some (length files) r own has

    -- what `file_check` asks
    pub to_check : {i : ℕ} → c.instruction ≡ i → FileCheckAsks i c lc r
    to_check e = (e, records_long, can.bytes)

    passed : RowFits r → (w : Situation) → Bound c lc s r w → AllPass w bound_checks → Known (length files) c lc s r
    unfolding bound_checks fails
    passed fits w so h =
        let of = so.0 in
        let on = so.1 in
        let some : 1 ≤ s.file = let z = eqb-false s.file 0 (rw on.session at h.0) in omega arith in
        let inside = file-inside (length files) r own (rw same (can.good.file some).is_file) in
        record {
          inside = inside;
          recorded = λ has.
              let m = records-few (length files) r own has in
              record {
                row = fits;
                least = records_long has;
                counted = records-some (length files) r own has;
                most = omega arith;
                inside = inside;
              };
          kind = not-false _ (rw (of.command, on.row) at h.1.0);
          offset = rw (of.command, on.row) at h.1.1.1.1.1.0;
          «record» = rw (of.command, on.session, on.row) at h.1.1.1.1.1.1.0;
          length = not-false _ (rw (of.command, of.size, on.row) at h.1.1.1.1.1.1.1.0);
        }

-- an instruction that sets the current file's state
pub record Switches (i state : ℕ) : Type 0 where
  pub done : (w : Situation) → done_by i w ≡ switch state w.session w.file
  pub plain : eqb i ins.increase ≡ false
  pub byte : state < 256

pub deactivates : Switches ins.deactivate deactivated
unfolding done_by pick
deactivates = record { done = λ w. refl; plain = refl; byte = omega arith }

pub activates : Switches ins.activate activated
unfolding done_by pick
activates = record { done = λ w. refl; plain = refl; byte = omega arith }

-- what `target_row` says of the file's row, `formal_check` of the formal checks, and `file_check` of those up to the lengths
abbrev pub Read : List ℕ → Standing → Row → Type 0
Read t s r = (r ≡ row_of t s.file) × RowFits r

abbrev pub Formed : Command → ℕ → ℕ → Result (Unit {0}) Check → Type 0
Formed c lc domain came = FirstOf formal_checks (Formal c lc domain) came

abbrev pub Told : Command → ℕ → Standing → Row → Result (Unit {0}) Check → Type 0
Told c lc s r came = FirstOf bound_checks (Bound c lc s r) came

-- a command's own situation is one of these
own_formal : (format : Format) (domain : ℕ) (c : Command) («data» : List ℕ) (s : Standing) (card : Card) → Formal c (length «data») domain (situation format domain c «data» s card)
unfolding situation
own_formal format domain c «data» s card = (record { command = refl; size = refl }, refl)

own_bound : (format : Format) (domain : ℕ) (c : Command) («data» : List ℕ) (s : Standing) (t files journal : List ℕ) {r : Row} → Read t s r → Bound c (length «data») s r (situation format domain c «data» s (lent t files journal))
unfolding situation file_at
own_bound format domain c «data» s t files journal row =
    (record { command = refl; size = refl }, record { session = refl; row = sym row.0 })

-- what is known where all are passed
pub check_passed : {c : Command} («data» : List ℕ) {s : Standing} {t files : List ℕ} {r : Row} {came : Result (Unit {0}) Check} → Read t s r → Told c (length «data») s r came → came ≡ Ok tt → FileCommandAsks t files s c (length «data») → Known (length files) c (length «data») s r
check_passed {c} «data» {s} {t} {files} row told all can =
    let w = situation Compact 0 c «data» s (lent t files []) in
    let so = own_bound Compact 0 c «data» s t files [] row in
    passed can row.0 row.1 w so (all_pass w bound_checks (sym (told w so) ∙ all))

module _ {domain : ℕ} {c : Command} {«data» : List ℕ} {s : Standing} {t files : List ℕ} {formal : Result (Unit {0}) Check} (formed : Formed c (length «data») domain formal) where
  -- what comes of a formal check that fails
  pub form_failed : {k : Check} → formal ≡ Err k → {d : Decision} → Fails s k d → {format : Format} {bytes : List ℕ} → Unroomed format domain c «data» s t files bytes d
  unfolding situation
  form_failed {k} z f {format} {bytes} =
      record {
        same = λ journal.
            let card = lent t files journal in
            let w = situation format domain c «data» s card in
            f.0 «data» bytes ∙ form-roomless w k (sym z ∙ formed w (own_formal format domain c «data» s card));
        fits = none-fits _ _ _ f.1;
      }

  module _ (form : formal ≡ Ok tt) {r : Row} {came : Result (Unit {0}) Check} (row : Read t s r) (told : Told c (length «data») s r came) where
    -- of a later one
    pub check_failed : {k : Check} → came ≡ Err k → {d : Decision} → Fails s k d → {format : Format} {bytes : List ℕ} → Unroomed format domain c «data» s t files bytes d
    unfolding situation file_at
    check_failed {k} z f {format} {bytes} =
        record {
          same = λ journal.
              let card = lent t files journal in
              let w = situation format domain c «data» s card in
              f.0 «data» bytes
              ∙ check_fails w (sym form ∙ formed w (own_formal format domain c «data» s card)) k (sym z ∙ told w (own_bound format domain c «data» s t files journal row));
          fits = none-fits _ _ _ f.1;
        }

    -- and of none: the plan of the instruction, with INCREASE's check of the sum, plainly of another, and of those that set the state
    module _ (all : came ≡ Ok tt) {i : ℕ} (e : c.instruction ≡ i) where
      pub check_done : {format : Format} {bytes : List ℕ} {d : Decision} → ((journal : List ℕ) → plan_of d «data» bytes ≡ summed i (file_at (lent t files journal) s.file) «data» s (done_by i (situation format domain c «data» s (lent t files journal)))) → Fits (length t) (length files) (length «data») d.change → Unroomed format domain c «data» s t files bytes d
      unfolding situation file_at
      check_done {format} so h =
          record {
            same = λ journal.
                let card = lent t files journal in
                let w = situation format domain c «data» s card in
                so journal
                ∙ (λ k. summed (sym e k) w.file «data» s (done_by (sym e k) w))
                ∙ roomless-done w (sym form ∙ formed w (own_formal format domain c «data» s card)) (sym all ∙ told w (own_bound format domain c «data» s t files journal row));
            fits = h;
          }

      pub check_plainly : eqb i ins.increase ≡ false → {format : Format} {bytes : List ℕ} {d : Decision} → ((journal : List ℕ) → plan_of d «data» bytes ≡ done_by i (situation format domain c «data» s (lent t files journal))) → Fits (length t) (length files) (length «data») d.change → Unroomed format domain c «data» s t files bytes d
      check_plainly n so = check_done (λ journal. so journal ∙ sym (plain-sum i (file_at (lent t files journal) s.file) «data» s _ n))

      pub check_switched : {state : ℕ} → Switches i state → FileCommandAsks t files s c (length «data») → {d : Decision} → ((«data» bytes : List ℕ) (f : File) → f.entry ≡ s.file → plan_of d «data» bytes ≡ switch state s f) × (d.change ≡ TableByte (place_of_state s.file) state) → {format : Format} {bytes : List ℕ} → Unroomed format domain c «data» s t files bytes d
      unfolding situation file_at Fits
      check_switched this can does {bytes = bytes} =
          check_plainly this.plain (λ journal. does.0 «data» bytes _ refl ∙ sym (this.done _)) (rw does.1 (state-inside can, this.byte))

-- with the journal's room: what `with_room` gives, and what it comes to
abbrev pub WithRoom : Decision → Standing → ℕ → ℕ → ℕ → Decision → Type 0
WithRoom d s lc used left e = (((«data» bytes : List ℕ) → length «data» ≡ lc → length bytes ≡ most_waiting → plan_of e «data» bytes ≡ roomed used left s (plan_of d «data» bytes)) × ((t f : ℕ) → Fits t f lc d.change → Fits t f lc e.change))

pub room-decided : (format : Format) (domain : ℕ) (c : Command) («data» : List ℕ) (s : Standing) (t files journal bytes : List ℕ) {d e : Decision} {used left i : ℕ} → DecideAsks (lent t files journal) s c (length «data») → c.instruction ≡ i → is_of_file i ≡ true → used ≡ used_bytes journal → left ≡ room journal → length bytes ≡ most_waiting → Unroomed format domain c «data» s t files bytes d → WithRoom d s (length «data») used left e → Decided (lent t files journal) «data» bytes (planned (situation format domain c «data» s (lent t files journal))) e
unfolding situation file_at
room-decided format domain c «data» s t files journal bytes {i = i} ready is on u l long unroomed told =
    let inside = (journal_parts ready).used in
    let known = room-behind (situation format domain c «data» s (lent t files journal)) inside (rw is (no_select i on)) (rw is (no_response i on)) in
    record {
      same = told.0 «data» bytes refl long ∙ (λ i. roomed (u i) (l i) s (unroomed.same journal i)) ∙ known;
      fits = told.1 (length t) (length files) unroomed.fits;
      journal = room-left t files journal _ (journal_parts ready) (roomed-inside _ _ _ _ known inside);
    }

-- what `decide_select` and `get_response` give
abbrev pub OfFound : Format → Command → List ℕ → Standing → List ℕ → List ℕ → Decision → Type 0
OfFound format c «data» s t bytes d = ((w : Situation) → OfSelect format c «data» s t w → plan_of d «data» bytes ≡ decided w (first_failing w select_checks)) × (d.change ≡ Nothing)

abbrev pub OfResponse : Command → Standing → Decision → Type 0
OfResponse c s d = ((«data» bytes : List ℕ) → plan_of d «data» bytes ≡ responded c s) × (d.change ≡ Nothing)

-- a command that writes nothing
module _ (format : Format) (domain : ℕ) (c : Command) («data» : List ℕ) (s : Standing) (t files journal : List ℕ) (ready : DecideAsks (lent t files journal) s c (length «data»)) where
  abbrev card : Card
  card = lent t files journal

  abbrev whole : Situation
  whole = situation format domain c «data» s card

  nothing : {bytes : List ℕ} {d : Decision} → plan_of d «data» bytes ≡ planned whole → d.change ≡ Nothing → Decided card «data» bytes (planned whole) d
  nothing {bytes} {d} = nothing-decided card «data» bytes (planned whole) d (journal-inside ready)

  -- its instruction is unknown
  pub unknown-decided : is_known c.instruction ≡ false → {k : Check} → k ≡ unknown_check c → {bytes : List ℕ} {d : Decision} → Fails s k d → Decided card «data» bytes (planned whole) d
  unfolding situation
  unknown-decided h is {bytes} f = nothing (f.0 «data» bytes ∙ ap (failed s) is ∙ unknown_fails whole h) f.1

  -- a formal check fails, or it is SELECT or GET RESPONSE
  module _ {formal : Result (Unit {0}) Check} (formed : Formed c (length «data») domain formal) where
    formal-own : formal ≡ first_failing whole formal_checks
    formal-own = formed whole (own_formal format domain c «data» s card)

    pub form-decided : {k : Check} → formal ≡ Err k → {bytes : List ℕ} {d : Decision} → Fails s k d → Decided card «data» bytes (planned whole) d
    unfolding situation
    form-decided {k} e {bytes} f = nothing (f.0 «data» bytes ∙ form_fails whole k (sym e ∙ formal-own)) f.1

    module _ (form : formal ≡ Ok tt) where
      pub select-decided : c.instruction ≡ ins.select → {bytes : List ℕ} {d : Decision} → OfFound format c «data» s t bytes d → Decided card «data» bytes (planned whole) d
      unfolding situation
      select-decided e found =
          nothing
          (found.0 whole (record { same_format = refl; command = refl; same_data = refl; session = refl; found = refl; row = refl }) ∙ behind-select whole e ∙ behind whole (sym form ∙ formal-own))
          found.1

      pub response-decided : c.instruction ≡ ins.get_response → {bytes : List ℕ} {d : Decision} → OfResponse c s d → Decided card «data» bytes (planned whole) d
      unfolding situation
      response-decided e {bytes} waits =
          nothing (waits.0 «data» bytes ∙ behind-response whole e ∙ behind whole (sym form ∙ formal-own)) waits.1
