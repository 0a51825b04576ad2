-- `compact::run::run_lent` meets its contract. The law `moves` makes the next turn of what `step` says, whether the command goes on or
-- stops the script: then the next place is the script's end, and the loop has one way out, the law `ends`. Assumes nothing.
use Rattle.std.proofs.Common.{◌≡◌, ◌<◌, ℕ, ◌+◌, ◌-◌, List, false, length, sym, subst, ◌∙◌, arith}
use Rattle.octets.specs.Bytes.{part}
use Rattle.octets.specs.Choice.{pick as choose}
use Rattle.octets.proofs.Writes.{part-lent}
use Rattle.card.specs.Lent.{held}
use Rattle.card.specs.Row.{Card}
use Rattle.card.proofs.Stays.{stays, stays_on}
use Rattle.command.specs.declared.Command.{Command}
use Rattle.command.specs.declared.Format.TheVariants.{Compact}
use Rattle.command.specs.declared.Reading.{Reading}
use Rattle.command.specs.declared.Step.{Step}
use Rattle.command.specs.Promised.{OfBytes}
use Rattle.command.proofs.Lent.{lent-bytes}
use Rattle.decide.specs.Decisions.{situation, planned}
use Rattle.step.specs.Limits.{limited}
use Rattle.step.specs.Steps.{State, state_of, started, carried_out, stepped, commanded}
use Rattle.step.proofs.Keeps.{starts-small}
use Rattle.step.proofs.Moved.{one_more, step_of, fewer}
use Rattle.compact.specs.Compact.{place_after, step_read}
use Rattle.compact.proofs.Going.{begins, ends, moves, further}
use Rattle.compact.proofs.run.run_lent.Goals as goal

-- the data of a command that was read are as few as it says
few_data : (m : List ℕ) (c : Command) (from size : ℕ) {xs : List ℕ} → xs ≡ part m from size → OfBytes c size → OfBytes c (length xs)
few_data m c from size e b =
    let few : OfBytes c (length (part m from (from + size - from))) = lent-bytes m from b in
    subst (λ (xs : List ℕ). OfBytes c (length xs)) (part-lent m from size ∙ sym e) few

-- what `step` says of a command that was read is the script's state after it
told : (script : List ℕ) (domain : ℕ) (reading : Reading) (before : Step) (card : Card) {«data» : List ℕ} {st : State} → «data» ≡ part script reading.from reading.size
    → st ≡ stepped (state_of before card) (commanded Compact domain reading.command «data» before.session 0 false card)
    → st ≡ step_read script domain reading (state_of before card)
unfolding step_read limited choose
told script domain reading before card {«data»} {st} hd e =
    subst (λ (d : List ℕ). st ≡ stepped (state_of before card) (carried_out (planned (situation Compact domain reading.command d before.session.standing card)) before.session.waiting card)) hd e

pub start-session-requires : goal.start-session-requires
start-session-requires c = omega (arith, starts-small _ _ c.requires.0)

pub loop-at-init : goal.loop-at-init
unfolding started
loop-at-init c =
    record {
      going = begins c.requires.0 (λ i. record { session = c.start-session.ensures i; outcome = (c.not_begun-ended.ensures i).outcome; count = (c.not_begun-ended.ensures i).count });
      stays = stays _;
    }

pub step-ended-requires : goal.step-ended-requires
step-ended-requires c =
    let g = c.loop-at.invariant.going in
    let few = g.counted in (
      record {
        ready = record {
          sound = g.holds.sound;
          good = g.holds.good;
          bytes = few_data c.args.script.now c.next_reading-reading.result.command c.next_reading-reading.result.from c.next_reading-reading.result.size c.data_of.ensures c.next_reading-reading.ensures.1.bytes;
        };
        kept = omega arith;
      },
      omega arith,
    )

-- the script's state after the command of this turn
did : (c : goal.After-next_place-at)
    → state_of (step_of c.step-ended.new.session c.step-ended.result) (held c.step-ended.new.card)
    ≡ step_read c.args.script.now c.args.domain c.next_reading-reading.result (state_of (step_of c.loop-at.session c.loop-at.ended) (held c.loop-at.card))
did c =
    let card = held c.loop-at.card in
    let before = step_of c.loop-at.session c.loop-at.ended in
    told c.args.script.now c.args.domain c.next_reading-reading.result before card c.data_of.ensures
    (one_more before (step_of c.step-ended.new.session c.step-ended.result) card _ _ c.step-ended.ensures.ran.0 c.step-ended.ensures.ran.1)

pub data_of-requires : goal.data_of-requires
unfolding place_after
data_of-requires c = let inside = c.next_reading-reading.ensures.1.inside in omega arith

pub overflow_add-reading : goal.overflow_add-reading
unfolding place_after
overflow_add-reading c = let inside = c.next_reading-reading.ensures.1.inside in omega arith

pub loop-at-smaller : goal.loop-at-smaller
unfolding place_after
loop-at-smaller c =
    let read = c.next_reading-reading.ensures in
    let on = further c.loop-at.invariant.going c.loop-at-test.true (did c) read.0 read.1 in
    fewer c.loop-at.at c.next_place-at.result (length c.args.script.now) (subst (λ (k : ℕ). c.loop-at.at < k) (sym c.next_place-at.ensures) on) c.loop-at-test.true

pub loop-at-preserved : goal.loop-at-preserved
unfolding place_after
loop-at-preserved c =
    let read = c.next_reading-reading.ensures in
    record {
      going = rw c.next_place-at.ensures (moves c.loop-at.invariant.going c.loop-at-test.true (did c) read.0 read.1);
      stays = stays_on c.loop-at.invariant.stays c.step-ended.ensures.stays;
    }

pub returns-clause-ran : goal.returns-clause-ran
returns-clause-ran c = ends c.loop-at.invariant.going (omega arith)
