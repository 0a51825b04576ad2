-- `decide::decide` meets its contract: by its instruction a command is SELECT, GET RESPONSE, one on a file, or unknown.
-- Assumes nothing.
use native.Mathlib.Omega.{arith}
use Rattle.card.proofs.Promises.{few-entries}
use Rattle.session.proofs.Template.{fcp-fits}
use Rattle.session.proofs.Owned.{parents_inside_lem}
use Rattle.session.proofs.Good.{find-belongs}
use Rattle.decide.proofs.Plans.{none_known}
use Rattle.decide.proofs.Passed.{able, unknown-decided, form-decided, select-decided, response-decided}
use Rattle.decide.proofs.decide.Goals as goal

-- SELECT
pub decide_select-requires : goal.decide_select-requires
decide_select-requires c =
    let t = c.args.table.now in
    let files = c.args.files.now in
    let sound = (able c.requires).table in
    let g = c.requires.good in
    record {
      instruction = c.in-164.is;
      stands = record { root_inside = g.root_inside; directory_inside = g.directory.inside; parents_inside = parents_inside_lem t files sound };
      found = λ e h.
          let b = find-belongs t files sound c.args.s g c.args.asked.command.p1 c.args.asked.«data».now e h in
          let few = few-entries t files sound in
          record { inside = b.inside; byte = omega (arith, b.inside); fcp = fcp-fits t files sound e b.inside };
    }

pub returns-in-Ok : goal.returns-in-Ok
returns-in-Ok c =
    let a = c.args in
    select-decided a.asked.format a.asked.domain a.asked.command a.asked.«data».now a.s a.table.now a.files.now a.journal.now c.requires c.formal_check.ensures c.in-Ok.is c.in-164.is c.decide_select.ensures

pub returns-in-Err : goal.returns-in-Err
returns-in-Err c =
    let a = c.args in
    form-decided a.asked.format a.asked.domain a.asked.command a.asked.«data».now a.s a.table.now a.files.now a.journal.now c.requires c.formal_check.ensures c.in-Err.is c.failed.ensures

-- GET RESPONSE
pub returns-in-Ok-formal_check : goal.returns-in-Ok-formal_check
returns-in-Ok-formal_check c =
    let a = c.args in
    response-decided a.asked.format a.asked.domain a.asked.command a.asked.«data».now a.s a.table.now a.files.now a.journal.now c.requires c.formal_check-in-192.ensures c.in-Ok-formal_check.is c.in-192.is c.get_response.ensures

pub returns-in-Err-formal_check : goal.returns-in-Err-formal_check
returns-in-Err-formal_check c =
    let a = c.args in
    form-decided a.asked.format a.asked.domain a.asked.command a.asked.«data».now a.s a.table.now a.files.now a.journal.now c.requires c.formal_check-in-192.ensures c.in-Err-formal_check.is c.failed-in-Err-formal_check.ensures

-- an instruction that there is not
pub returns-in_default : goal.returns-in_default
returns-in_default c =
    let a = c.args in
    let unknown =
    none_known a.asked.command.instruction (λ e. omega arith) (λ e. omega arith) (λ e. omega arith) (λ e. omega arith) (λ e. omega arith) (λ e. omega arith) (λ e. omega arith) (λ e. omega arith) (λ e. omega arith) (λ e. omega arith)
    in
    unknown-decided a.asked.format a.asked.domain a.asked.command a.asked.«data».now a.s a.table.now a.files.now a.journal.now c.requires unknown c.unknown_check.ensures c.failed-in_default.ensures
