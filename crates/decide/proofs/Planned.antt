-- What a command plans on a sound card, by its instruction, fits: its writes are of a sound form and go into its root's own entries, its
-- session is good, its data lie where they may, and its word stops the script just where it is an error.
-- A plan is that of a check that failed, which writes nothing (`fit_failed`), or that of the instruction where every check is
-- passed (`of_planned`). The second goes by the instruction (`by-instruction`): the checks of a file command that are passed put
-- its offset, its record or its length inside the file, and with that the law of `Fit` for the instruction holds (`by_read` and the
-- others); GET RESPONSE rests on bytes that wait, and SELECT on no check. Assumes nothing.
use mathlib.Core.Path.{◌≡◌, refl}
use mathlib.Core.Bool.{true, false}
use mathlib.Core.List.{List, ◌++◌}
use Prim.Native.Nat.{ℕ, ◌≤◌}
use lib.Dec.{eqb}
use lib.ListN.{length}
use native.Mathlib.Omega.{arith}
use borrow.Author.Tests.{eqb-false, not-false}
use Rattle.std.specs.Prelude.{Ok}
use Rattle.card.specs.declared.Row.{Row}
use Rattle.card.specs.Row.{Card, row_of, has_records, activated, deactivated}
use Rattle.card.specs.Sound.{record_count, sound_table}
use Rattle.card.proofs.Promises.{cyclic-records}
use Rattle.session.specs.declared.Standing.{Standing}
use Rattle.session.specs.Good.{Good}
use Rattle.command.specs.declared.Format.{Format}
use Rattle.command.specs.declared.Command.{Command}
use Rattle.command.specs.Instructions as ins
use Rattle.command.specs.Instructions.{is_known, is_record}
use Rattle.plan.specs.Files.{file_at}
use Rattle.plan.specs.Plans.{Situation, offset_of, read_binary, update_binary, named_by, read_record, update_record, search, increase, done_by}
use Rattle.decide.specs.Order.{formal_checks, response_checks, order}
use Rattle.decide.specs.Fails.{fails, first_failing, renews}
use Rattle.decide.specs.Decisions.{situation, planned}
use Rattle.decide.proofs.Order.{later-response, record_kind}
use Rattle.decide.proofs.Instructed.{of_planned, by-instruction}
use Rattle.decide.proofs.Passing.{AllPass, all_pass, never_too_long, Passes, passed, data_some, kind_increased, offset_read, length_binary, length_record, length_increased, named_there}
use Rattle.plan.proofs.Fit.{Fit, fit_failed, fit_response, fit_read, fit_select, fit_update, fit_switch, fit_record, fit_rewrite, fit_search, fit_increase}

-- GET RESPONSE, the last of the instructions that there are: where its checks are passed, bytes wait
waits_passed : (w : Situation) → AllPass w (formal_checks ++ response_checks) → eqb w.session.valid 0 ≡ false
unfolding formal_checks response_checks fails
waits_passed w (_, (_, (_, (_, (_, (_, (_, (waits, _)))))))) = waits

response-waits : (w : Situation) → (is_known w.command.instruction ≡ true → w.command.instruction ≡ ins.get_response) → first_failing w (order w.command.instruction) ≡ Ok tt → 1 ≤ w.session.valid
unfolding order formal_checks fails
response-waits w last h =
    let i = w.command.instruction in
    let known = (all_pass w (order i) h).1.0 in
    let all = all_pass w (formal_checks ++ response_checks) (rw (later-response i (last (not-false _ known))) at h) in
    let z = eqb-false w.session.valid 0 (waits_passed w all) in
    omega arith

module _ (format : Format) (domain : ℕ) (c : Command) («data» : List ℕ) (s : Standing) (card : Card) (sound : sound_table card.table card.files ≡ true) (good : Good card.table s) where
  -- a command on a file, all of whose checks are passed
  module _ (p : Passes (situation format domain c «data» s card)) where
    abbrev r : Row
    r = row_of card.table s.file

    some-file : 1 ≤ s.file
    unfolding fails situation
    some-file = let z = eqb-false s.file 0 p.file in omega arith

    has_records_lem : is_record c.instruction ≡ true → has_records r ≡ true
    unfolding fails situation file_at
    has_records_lem y = record_kind c.instruction r y (not-false _ p.kind)

    named : is_record c.instruction ≡ true → renews c.instruction r ≡ false → (1 ≤ named_by c s.record_number r) × (named_by c s.record_number r ≤ record_count r)
    unfolding fails situation file_at
    named y z = named_there c s.record_number r y z p.«record»

    by_read : c.instruction ≡ ins.read_binary → Fit format card s.root c (read_binary format c s (file_at card s.file))
    unfolding fails situation file_at
    by_read e = fit_read format card sound c s good some-file (offset_read c.instruction r (offset_of c) e p.offset)

    by-update : c.instruction ≡ ins.update_binary → length «data» ≤ 255 → Fit format card s.root c (update_binary c «data» s (file_at card s.file))
    unfolding fails situation file_at
    by-update e brief =
        fit_update format card sound c s good some-file «data» (data_some c (length «data») (rw e) p.case) brief
        (length_binary c.instruction r (offset_of c) c.p3 (length «data») (not-false _ p.length) e)

    by_record : c.instruction ≡ ins.read_record → Fit format card s.root c (read_record c s (file_at card s.file))
    by_record e = fit_record format card sound c s good some-file (has_records_lem (rw e)) (named (rw e) (rw e)).1

    by-rewrite : c.instruction ≡ ins.update_record → Fit format card s.root c (update_record c «data» s (file_at card s.file))
    unfolding fails situation file_at
    by-rewrite e =
        fit_rewrite format card sound c s good some-file (has_records_lem (rw e)) «data»
        (length_record c.instruction r (offset_of c) c.p3 (length «data») (not-false _ p.length) e)
        (λ n. (named (rw e) (rw (e, n))).1)

    by-search : c.instruction ≡ ins.search → Fit format card s.root c (search format c «data» s (file_at card s.file))
    by-search e =
        let n = named (rw e) (rw e) in
        fit_search format card sound c s good some-file (has_records_lem (rw e)) «data» n.0 n.1

    by-increase : c.instruction ≡ ins.increase → Fit format card s.root c (increase format «data» s (file_at card s.file))
    unfolding fails situation file_at
    by-increase e =
        let k = kind_increased c.instruction r e (not-false _ p.kind) in
        fit_increase format card sound c s good some-file (cyclic-records r k.0) «data» k.0 k.1
        (length_increased c.instruction r (offset_of c) c.p3 (length «data») (not-false _ p.length) e)

  abbrev w : Situation
  w = situation format domain c «data» s card

  -- by its instruction
  module _ (brief : length «data» ≤ 255) (h : first_failing w (order c.instruction) ≡ Ok tt) where
    checked : {x : ℕ} → c.instruction ≡ x → eqb x ins.select ≡ false → eqb x ins.get_response ≡ false → Passes w
    checked e a b = passed w c.instruction (rw e a) (rw e b) h

    fit_done : Fit format card s.root c (done_by c.instruction w)
    unfolding situation
    fit_done =
        by-instruction (Fit format card s.root c) w c.instruction
        (λ e. fit_select format card sound c s good c.p1 c.p2 «data» _ refl)
        (λ e. by_read (checked e refl refl) e)
        (λ e. by-update (checked e refl refl) e brief)
        (λ e. by_record (checked e refl refl) e)
        (λ e. by-rewrite (checked e refl refl) e)
        (λ e. by-search (checked e refl refl) e)
        (λ e. by-increase (checked e refl refl) e)
        (λ e. fit_switch format card sound c s good (some-file (checked e refl refl)) deactivated refl)
        (λ e. fit_switch format card sound c s good (some-file (checked e refl refl)) activated refl)
        (λ last. fit_response card c s good format (response-waits w last h))

  pub planned_fit : length «data» ≤ 255 → Fit format card s.root c (planned w)
  unfolding situation
  planned_fit brief = of_planned (Fit format card s.root c) w (λ k h. fit_failed card c s good format k (never_too_long w (order c.instruction) k h)) (fit_done brief)
