-- `expanded::run::run_capdus` meets its contract. The law `goes_on_lem` of `Turns` makes the next turn of what `step` and `gather` say,
-- whether the command goes on or stops the script: then the place is the value's end, and the loop has one way out, the law `reaches`.
-- Assumes nothing.
use Rattle.std.proofs.Common.{◌≡◌, ◌≤◌, ℕ, ◌+◌, List, length, refl, sym, subst, ◌∙◌, arith}
use Rattle.octets.specs.Bytes.{part}
use Rattle.octets.proofs.Writes.{part_length}
use Rattle.card.specs.Lent.{held}
use Rattle.card.proofs.Stays.{stays, stays_on}
use Rattle.step.specs.Steps.{started}
use Rattle.step.proofs.Keeps.{starts-small}
use Rattle.step.proofs.Moved.{step_of, fewer}
use Rattle.expanded.specs.declared.run.Rapdus.{Rapdus}
use Rattle.expanded.specs.Expanded.{gathered_of}
use Rattle.expanded.proofs.Going.{Going, begins, capdu_lies}
use Rattle.expanded.proofs.Turns.{asks, gather_asks, goes_on_lem, further}
use Rattle.expanded.proofs.run.run_capdus.Goals as goal

-- a C-APDU of the value is no shorter than it says
whole : (script : List ℕ) (start size : ℕ) → start + size ≤ length script → {capdu : List ℕ} → capdu ≡ part script start size → length capdu ≡ size
whole script start size inside there = rw there (part_length script start size inside)

pub start-session-requires : goal.start-session-requires
start-session-requires c = omega (arith, starts-small _ _ c.requires.starts)

pub loop-from-init : goal.loop-from-init
unfolding started
loop-from-init c =
    let asked = c.requires in
    let card = held c.args.card.now in
    let step = step_of c.start-session.result c.not_begun-ended.result in
    record {
      going =
          subst (λ (r : Rapdus). Going c.args.script.now c.args.definite c.args.at c.args.end c.args.application c.args.domain card card c.args.out.now (gathered_of step r) c.args.at) (sym c.none_gathered-rapdus.ensures)
          (begins asked.ahead asked.inside asked.starts (λ i. record { session = c.start-session.ensures i; outcome = (c.not_begun-ended.ensures i).outcome; count = (c.not_begun-ended.ensures i).count }));
      long = refl;
      stays = stays _;
    }

pub capdu-capdu-requires : goal.capdu-capdu-requires
capdu-capdu-requires c = omega (arith, (capdu_lies c.next_item.ensures.1 c.in-Capdu.is).1, c.requires.inside)

pub next_item-requires : goal.next_item-requires
next_item-requires c = (c.loop-from.invariant.going.inside, c.requires.inside)

pub command_of-reading-requires : goal.command_of-reading-requires
command_of-reading-requires c =
    let lies = capdu_lies c.next_item.ensures.1 c.in-Capdu.is in
    omega (arith, lies.2, whole c.args.script.now c.in-Capdu.from c.in-Capdu.size (omega (arith, lies.1, c.requires.inside)) c.capdu-capdu.ensures)

pub step-ended-requires : goal.step-ended-requires
step-ended-requires c =
    let t = c.loop-from.invariant in
    let read = c.command_of-reading.ensures in
    asks t.going (sym c.next_item.ensures.0 ∙ c.in-Capdu.is) (capdu_lies c.next_item.ensures.1 c.in-Capdu.is) c.capdu-capdu.ensures read.0 read.1 c.data_of.ensures c.requires.inside c.requires.short

pub gather-rapdus-requires : goal.gather-rapdus-requires
gather-rapdus-requires c =
    let t = c.loop-from.invariant in
    let read = c.command_of-reading.ensures in
    let did = c.step-ended.ensures.ran in
    gather_asks t.going (sym c.next_item.ensures.0 ∙ c.in-Capdu.is) (capdu_lies c.next_item.ensures.1 c.in-Capdu.is) c.capdu-capdu.ensures read.0 read.1 c.data_of.ensures (t.long ∙ c.requires.room) c.keeps-counts.ensures did.0 did.1

pub overflow_add-from : goal.overflow_add-from
overflow_add-from c = omega (arith, (capdu_lies c.next_item.ensures.1 c.in-Capdu.is).1)

pub loop-from-smaller : goal.loop-from-smaller
loop-from-smaller c =
    let t = c.loop-from.invariant in
    let lies = capdu_lies c.next_item.ensures.1 c.in-Capdu.is in
    let read = c.command_of-reading.ensures in
    fewer c.loop-from.place c.next_place-place.result c.args.end
    (rw c.next_place-place.ensures (further t.going (sym c.next_item.ensures.0 ∙ c.in-Capdu.is) lies c.capdu-capdu.ensures read.0 read.1 c.data_of.ensures c.step-ended.result.outcome))
    (omega (arith, lies.0, lies.1))

pub loop-from-preserved : goal.loop-from-preserved
loop-from-preserved c =
    let t = c.loop-from.invariant in
    let read = c.command_of-reading.ensures in
    let did = c.step-ended.ensures.ran in
    let g = c.gather-rapdus.ensures in
    record {
      going =
          rw c.next_place-place.ensures
          (goes_on_lem t.going (sym c.next_item.ensures.0 ∙ c.in-Capdu.is) (capdu_lies c.next_item.ensures.1 c.in-Capdu.is) c.capdu-capdu.ensures read.0 read.1 c.data_of.ensures (t.long ∙ c.requires.room) c.keeps-counts.ensures did.0 did.1 g.0 g.1 g.2);
      long = c.gather-rapdus.auto.out ∙ t.long;
      stays = stays_on t.stays c.step-ended.ensures.stays;
    }
