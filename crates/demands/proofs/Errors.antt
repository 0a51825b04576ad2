-- A command that ends with an error word leaves card and session, in any state: its plan is that of a failed check. Assumes nothing.
use Prim.Native.Nat.{ℕ}
use mathlib.Core.Path.{◌≡◌, refl, sym, ap, ◌∙◌}
use mathlib.Core.Bool.{Bool, true, false}
use mathlib.Core.List.{List}
use lib.ListN.{length}
use Rattle.octets.specs.Bytes.{part}
use Rattle.octets.specs.Choice.{pick}
use Rattle.octets.proofs.Writes.{write-none}
use Rattle.journal.specs.Changes.{perform}
use Rattle.session.specs.Session.{session_of}
use Rattle.command.specs.declared.checks.Check.{Check}
use Rattle.command.specs.declared.Format.TheVariants.{Compact, Expanded}
use Rattle.command.specs.declared.Outcome.TheVariants.{Error}
use Rattle.command.specs.declared.Reading.{Reading}
use Rattle.plan.specs.Ends.{Plan, failed}
use Rattle.plan.specs.Plans.{Situation}
use Rattle.decide.specs.Decisions.{situation, planned}
use Rattle.step.specs.Limits.{limited}
use Rattle.step.specs.Steps.{State, stepped, carried_out}
use Rattle.step.proofs.Errors.{Still, error_still, limited_still}
use Rattle.expanded.specs.Capdu.{capdu_command}
use Rattle.expanded.specs.Expanded.{Progress, keeps, answered, last_rapdu, step_capdu, step_bad}
use Rattle.demands.specs.Commands.{Read, command_done, Piece, capdu, bad_format, piece_done}
use Rattle.demands.specs.Demand2.{NothingChanged, ErrorsChangeNothing}

-- a plan that is carried out in a state
module _ (st : State) where
  abbrev after : Plan → State
  after p = stepped st (carried_out p st.step.session.waiting st.card)

  failed_changes : (k : Check) → NothingChanged st (after (failed st.step.session.standing k))
  unfolding stepped carried_out failed perform
  failed_changes k =
      record {
        card = refl;
        session = ap (λ (l : List ℕ). session_of st.step.session.standing l) (write-none st.step.session.waiting 0);
      }

  still_changes : (p : Plan) → Still st.step.session.standing p → (k : Check) → (after p).step.outcome ≡ Error k → NothingChanged st (after p)
  unfolding stepped carried_out
  still_changes p still k e = rw (still k e) (failed_changes k)

compact-errors : (domain : ℕ) (st : State) (r : Read) (k : Check) → (command_done domain st r).step.outcome ≡ Error k → NothingChanged st (command_done domain st r)
unfolding command_done situation
compact-errors domain st r k e = still_changes st _ (error_still (situation Compact domain r.command r.«data» st.step.session.standing st.card)) k e

-- whether an R-APDU is kept or stands last, the state is that of the command
pub answered-state : (counts : Bool) (st : State) (kept r : List ℕ) → (answered counts st kept r).state ≡ st
unfolding answered pick
answered-state true st kept r = refl
answered-state false st kept r = refl

expanded-errors : (definite : Bool) (domain : ℕ) (p : Progress) (piece : Piece) (k : Check) → (piece_done definite domain p piece).state.step.outcome ≡ Error k
    → NothingChanged p.state (piece_done definite domain p piece).state
unfolding piece_done step_capdu step_bad situation
expanded-errors definite domain p (capdu bytes) k e =
    let r : Reading = capdu_command bytes in
    let counts : Bool = keeps definite r.command.case in
    let s = p.state.step.session.standing in
    let w : Situation = situation Expanded domain r.command (part bytes r.from r.size) s p.state.card in
    let plan : Plan = limited (length p.kept) counts s (planned w) in
    let st : State = after p.state plan in
    let same = answered-state counts st p.kept (last_rapdu st.step st.card.files) in
    rw same (still_changes p.state plan (limited_still w (length p.kept) counts) k (sym (ap (λ (x : State). x.step.outcome) same) ∙ e))
expanded-errors definite domain p (bad_format code) k e = record { card = refl; session = refl }

pub errors : ErrorsChangeNothing
errors = record { compact = compact-errors; expanded = expanded-errors }
