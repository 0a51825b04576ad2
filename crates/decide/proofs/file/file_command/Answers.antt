-- `decide::file::file_command` meets its contract: the first check that fails, or what the instruction does.
-- Where all checks are passed, much is known of the row (`Known`), and with the instruction this is what its function asks for.
-- Assumes nothing.
use mathlib.Core.Path.{refl, sym, ◌∙◌}
use native.Mathlib.Omega.{arith}
use Rattle.octets.specs.Choice.{pick}
use Rattle.plan.specs.Files.{file_at}
use Rattle.plan.specs.Plans.{done_by}
use Rattle.plan.specs.Promised.{Fits}
use Rattle.plan.proofs.Inside.{none-fits}
use Rattle.decide.specs.Decisions.{situation}
use Rattle.decide.proofs.Passed.{to_read, to_update, of_records, has_named, to_sum, update-fits, file-small, entry-inside, newest-inside, to_check, form_failed, check_failed, check_passed, check_done, check_plainly, check_switched, activates, deactivates}
use Rattle.decide.proofs.Instructed.{last-of-file}
use Rattle.decide.proofs.file.file_command.Goals as goal

pub target_row-r-requires : goal.target_row-r-requires
target_row-r-requires g c = entry-inside c.requires.0

pub file_check-requires : goal.file_check-requires
file_check-requires g c = to_check c.requires.0 c.target_row-r.ensures.0 c.requires.1

pub returns-in-Err : goal.returns-in-Err
returns-in-Err g c = form_failed c.formal_check.ensures c.in-Err.is c.failed.ensures

pub returns-in-Err-file_check : goal.returns-in-Err-file_check
returns-in-Err-file_check g c =
    check_failed c.formal_check.ensures c.in_default.is c.target_row-r.ensures c.file_check.ensures c.in-Err-file_check.is c.failed-in-Err-file_check.ensures

-- READ BINARY
pub read_binary-requires : goal.read_binary-requires
read_binary-requires g c =
    let p = c.requires.0 in
    let known = check_passed c.args.a.asked.«data».now c.target_row-r.ensures c.file_check.ensures c.in_default-file_check.is p in
    record { row = c.target_row-r.ensures.1; p1 = p.bytes.p1; p2 = p.bytes.p2; inside = to_read known (c.requires.1 ∙ c.in-176.is) }

pub returns-in-176 : goal.returns-in-176
unfolding situation file_at done_by pick
returns-in-176 g c =
    check_plainly c.formal_check.ensures c.in_default.is c.target_row-r.ensures c.file_check.ensures c.in_default-file_check.is (c.requires.1 ∙ c.in-176.is) refl
    (λ journal. c.read_binary.ensures.0 _ _ _ (sym c.target_row-r.ensures.0))
    (none-fits _ _ _ c.read_binary.ensures.1)

-- UPDATE BINARY
pub returns-in-214 : goal.returns-in-214
unfolding situation file_at done_by pick Fits
returns-in-214 g c =
    let known = check_passed c.args.a.asked.«data».now c.target_row-r.ensures c.file_check.ensures c.in_default-file_check.is c.requires.0 in
    check_plainly c.formal_check.ensures c.in_default.is c.target_row-r.ensures c.file_check.ensures c.in_default-file_check.is (c.requires.1 ∙ c.in-214.is) refl
    (λ journal. c.update_binary.ensures.0 _ _ _ (sym c.target_row-r.ensures.0))
    (rw c.update_binary.ensures.1 (known.inside, to_update known (c.requires.1 ∙ c.in-214.is)))

-- READ RECORD
pub read_record-requires : goal.read_record-requires
read_record-requires g c =
    let i = c.requires.1 ∙ c.in-178.is in
    let known = check_passed c.args.a.asked.«data».now c.target_row-r.ensures c.file_check.ensures c.in_default-file_check.is c.requires.0 in
    let has = of_records known (rw i) in
    (has_named known (rw i) (rw i), omega (arith, has.most))

pub returns-in-178 : goal.returns-in-178
unfolding situation file_at done_by pick
returns-in-178 g c =
    check_plainly c.formal_check.ensures c.in_default.is c.target_row-r.ensures c.file_check.ensures c.in_default-file_check.is (c.requires.1 ∙ c.in-178.is) refl
    (λ journal. c.read_record.ensures.0 _ _ _ (sym c.target_row-r.ensures.0))
    (none-fits _ _ _ c.read_record.ensures.1)

-- UPDATE RECORD
pub update_record-requires : goal.update_record-requires
update_record-requires g c =
    let i = c.requires.1 ∙ c.in-220.is in
    let known = check_passed c.args.a.asked.«data».now c.target_row-r.ensures c.file_check.ensures c.in_default-file_check.is c.requires.0 in
    let has = of_records known (rw i) in
    record { row = has.row; least = has.least; counted = has.counted; most = omega (arith, has.most); named = λ z. has_named known (rw i) (rw i z) }

pub returns-in-220 : goal.returns-in-220
unfolding situation file_at done_by pick
returns-in-220 g c =
    let known = check_passed c.args.a.asked.«data».now c.target_row-r.ensures c.file_check.ensures c.in_default-file_check.is c.requires.0 in
    check_plainly c.formal_check.ensures c.in_default.is c.target_row-r.ensures c.file_check.ensures c.in_default-file_check.is (c.requires.1 ∙ c.in-220.is) refl
    (λ journal. c.update_record.ensures.0 _ _ _ (sym c.target_row-r.ensures.0) refl)
    (rw c.update_record.ensures.1 (update-fits known (c.requires.1 ∙ c.in-220.is) _ (newest-inside c.requires.0)))

-- SEARCH
pub search_records-requires : goal.search_records-requires
search_records-requires g c =
    let i = c.requires.1 ∙ c.in-162.is in
    let known = check_passed c.args.a.asked.«data».now c.target_row-r.ensures c.file_check.ensures c.in_default-file_check.is c.requires.0 in
    let n = has_named known (rw i) (rw i) in
    (i, record { file = of_records known (rw i); first = n.first; last = n.last })

pub returns-in-162 : goal.returns-in-162
unfolding situation file_at done_by pick
returns-in-162 g c =
    check_plainly c.formal_check.ensures c.in_default.is c.target_row-r.ensures c.file_check.ensures c.in_default-file_check.is (c.requires.1 ∙ c.in-162.is) refl
    (λ journal. c.search_records.ensures.0 _ (sym c.target_row-r.ensures.0) (rw (sym c.target_row-r.ensures.0)))
    (none-fits _ _ _ c.search_records.ensures.1)

-- INCREASE
pub increase-requires : goal.increase-requires
increase-requires g c =
    let known = check_passed c.args.a.asked.«data».now c.target_row-r.ensures c.file_check.ensures c.in_default-file_check.is c.requires.0 in
    let n = to_sum known (c.requires.1 ∙ c.in-50.is) in
    record { file = n.0; short = n.1; fits = n.2 }

pub returns-in-50 : goal.returns-in-50
unfolding situation file_at done_by pick
returns-in-50 g c =
    check_done c.formal_check.ensures c.in_default.is c.target_row-r.ensures c.file_check.ensures c.in_default-file_check.is (c.requires.1 ∙ c.in-50.is)
    (λ journal. c.increase.ensures.0 _ (sym c.target_row-r.ensures.0) refl (rw (sym c.target_row-r.ensures.0)))
    (c.increase.ensures.1 _ (newest-inside c.requires.0))

-- DEACTIVATE and ACTIVATE
pub switch-requires : goal.switch-requires
switch-requires g c = file-small c.requires.0

pub switch-requires-in_default-I : goal.switch-requires-in_default-I
switch-requires-in_default-I g c = file-small c.requires.0

pub returns-in-4 : goal.returns-in-4
returns-in-4 g c =
    check_switched c.formal_check.ensures c.in_default.is c.target_row-r.ensures c.file_check.ensures c.in_default-file_check.is (c.requires.1 ∙ c.in-4.is) deactivates c.requires.0 c.switch.ensures

pub returns-in_default-I : goal.returns-in_default-I
returns-in_default-I g c =
    let last = last-of-file g.row.I c.requires.2 (λ e. omega arith) (λ e. omega arith) (λ e. omega arith) (λ e. omega arith) (λ e. omega arith) (λ e. omega arith) (λ e. omega arith) in
    check_switched c.formal_check.ensures c.in_default.is c.target_row-r.ensures c.file_check.ensures c.in_default-file_check.is (c.requires.1 ∙ last) activates c.requires.0 c.switch-in_default-I.ensures
