-- `engine::run` meets its contract: it is what its start says, a number alone, or the script of its format.
-- In each arm the start is known, and with it what it says of the run (`said`): the number that is given, or that none is and which format
-- and template the script has. From that follows what the arm's function asks, and that its result is the run's. Assumes nothing.
use mathlib.Core.Path.{◌≡◌, refl, ap, subst, ◌∙◌}
use mathlib.Core.List.{List}
use Prim.Native.Nat.{ℕ}
use native.Mathlib.Omega.{arith}
use lib.ListN.{length}
use Rattle.std.specs.Prelude.{Result, Ok}
use Rattle.std.proofs.lemmas.Result.{err_from_is_err_and}
use Rattle.tlv.specs.Promised.{TemplateFits}
use Rattle.card.specs.Lent.{held}
use Rattle.card.specs.Row.{Card}
use Rattle.engine.specs.declared.Call.{Call}
use Rattle.engine.specs.declared.numbers.Start.{Start}
use Rattle.engine.specs.declared.numbers.Start.TheVariants.{Expanded}
use Rattle.engine.specs.Numbers.{start_of}
use Rattle.engine.specs.Calls.{arguments_of}
use Rattle.engine.specs.Promised.{StartFits}
use Rattle.engine.proofs.RunNumbers.{six-most}
use Rattle.engine.proofs.Starts.{Says, says}
use Rattle.engine.proofs.Answers.{number-fits}
use Rattle.engine.proofs.Accepted.{may_start, compact-run, definite-run, indefinite-run, refused-run}
use Rattle.engine.proofs.run.Goals as goal

-- what is asked of a start, over a response memory of the length that it was asked for
abbrev Starts : Card → Call → List ℕ → List ℕ → Result Start ℕ → Type 0
Starts k call script response s = (other : List ℕ) → length other ≡ length response → s ≡ start_of k (arguments_of call script other)

-- what a start says of the run
said : (k : Card) (call : Call) (script response : List ℕ) {s : Result Start ℕ} → Starts k call script response s → Says k (arguments_of call script response) s
said k call script response is = says _ _ (is response refl)

-- the same of a script's, once that is known
known : (k : Card) (call : Call) (script response : List ℕ) {found start : Start} → Starts k call script response (Ok found) × StartFits (length script) (Ok found) → found ≡ start
    → Says k (arguments_of call script response) (Ok start) × StartFits (length script) (Ok start)
known k call script response given is =
    subst (λ (s : Start). Says k (arguments_of call script response) (Ok s) × StartFits (length script) (Ok s)) is (said k call script response given.0, given.1)

pub returns-in_err-start_of-clause-ran : goal.returns-in_err-start_of-clause-ran
returns-in_err-start_of-clause-ran c =
    let p = err_from_is_err_and c.from_residual.result c.from_residual.ensures.1 in
    let k = held c.args.card.now in
    let a = arguments_of c.args.call c.args.script.now c.args.response.now in
    let s = said k c.args.call c.args.script.now c.args.response.now c.in_err-start_of.ensures.0 in
    rw (p.1, p.2) (refused-run k a _ s.0 (λ z. omega (arith, s.1)), number-fits _ (omega (arith, s.0, six-most k a)))

pub run_compact-requires : goal.run_compact-requires
run_compact-requires c =
    let s = (known (held c.args.card.now) c.args.call c.args.script.now c.args.response.now c.in_ok-start_of.ensures c.in-Compact.is).0 in
    may_start _ _ s.0 s.1

pub returns-in-Compact-clause-ran : goal.returns-in-Compact-clause-ran
returns-in-Compact-clause-ran c =
    let s = (known (held c.args.card.now) c.args.call c.args.script.now c.args.response.now c.in_ok-start_of.ensures c.in-Compact.is).0 in
    let r = c.run_compact.ensures.ran in
    (r.0 ∙ compact-run _ _ s.0 s.1, r.1)

pub run_value-requires : goal.run_value-requires
unfolding StartFits TemplateFits
run_value-requires c =
    let d = c.in-Expanded-Definite in
    let s = known (held c.args.card.now) c.args.call c.args.script.now c.args.response.now c.in_ok-start_of.ensures (d.is ∙ ap Expanded d.field-0-is) in
    (s.1.0, s.1.1, may_start _ _ s.0.0 s.0.1)

pub run_value-requires-in-Expanded-Indefinite : goal.run_value-requires-in-Expanded-Indefinite
unfolding StartFits TemplateFits
run_value-requires-in-Expanded-Indefinite c =
    let d = c.in-Expanded-Indefinite in
    let s = known (held c.args.card.now) c.args.call c.args.script.now c.args.response.now c.in_ok-start_of.ensures (d.is ∙ ap Expanded d.field-0-is) in
    (s.1.0, s.1.1, may_start _ _ s.0.0 s.0.1)

pub returns-in-Expanded-Definite-clause-ran : goal.returns-in-Expanded-Definite-clause-ran
returns-in-Expanded-Definite-clause-ran c =
    let d = c.in-Expanded-Definite in
    let s = (known (held c.args.card.now) c.args.call c.args.script.now c.args.response.now c.in_ok-start_of.ensures (d.is ∙ ap Expanded d.field-0-is)).0 in
    let r = c.run_value.ensures.ran in
    (r.0 ∙ definite-run _ _ s.0 s.1 s.2, r.1)

pub returns-in-Expanded-Indefinite-clause-ran : goal.returns-in-Expanded-Indefinite-clause-ran
returns-in-Expanded-Indefinite-clause-ran c =
    let d = c.in-Expanded-Indefinite in
    let s = (known (held c.args.card.now) c.args.call c.args.script.now c.args.response.now c.in_ok-start_of.ensures (d.is ∙ ap Expanded d.field-0-is)).0 in
    let r = c.run_value-in-Expanded-Indefinite.ensures.ran in
    (r.0 ∙ indefinite-run _ _ s.0 s.1 s.2, r.1)
