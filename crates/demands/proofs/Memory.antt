-- Of a run's response memory the length alone counts: it decides about number 4, and where the answer is written, the answer's bytes are
-- the first ones, whatever stood there. Assumes nothing.
use Prim.Native.Nat.{ℕ, ◌+◌}
use mathlib.Core.Path.{◌≡◌, refl, sym, ap, ◌∙◌}
use mathlib.Core.Bool.{Bool, true, false}
use mathlib.Core.List.{List}
use lib.Dec.{eqb}
use lib.ListN.{length, drop}
use lib.Seq.{take-append_seam}
use Rattle.octets.specs.Bytes.{overwrite}
use Rattle.card.specs.Row.{Card}
use Rattle.journal.specs.Changes.{with_mark}
use Rattle.command.specs.declared.Format.{Format}
use Rattle.command.specs.declared.Format.TheVariants.{Compact, Expanded}
use Rattle.step.specs.Steps.{State}
use Rattle.engine.specs.Numbers.{Arguments, format_of, arguments_fit, first_given, run_refusals}
use Rattle.engine.specs.Calls.{Result, accepted, unless_refused, run_script, run}
use Rattle.demands.specs.Called.{result_of, seen, Told, told}
use Rattle.demands.specs.Demand3.{with_memory, LengthAlone}

-- what a result tells, and the card
abbrev view : Result → Told × Card
view r = (told (seen r), r.card)

-- the answer's bytes stand first
view_accepted : (st : State) (answer one other : List ℕ) → view (accepted st answer one) ≡ view (accepted st answer other)
unfolding accepted told seen overwrite
view_accepted st answer one other =
    let bytes = take-append_seam answer (drop (0 + length answer) one) ∙ sym (take-append_seam answer (drop (0 + length answer) other)) in
    λ i. (record { answer = record { number = 0; length = length answer; count = st.step.count }; bytes = bytes i }, st.card)

-- two choices by one test look alike where their ways do
both_ways : {A B : Type 0} (f : A → B) (b : Bool) (x y u v : A) → f x ≡ f u → f y ≡ f v → f (elim b [ true ↦ x | false ↦ y ]) ≡ f (elim b [ true ↦ u | false ↦ v ])
both_ways f true x y u v h g = h
both_ways f false x y u v h g = g

module _ (a : Arguments) (m : List ℕ) (c : Card) (same : length m ≡ length a.response) where
  abbrev other : Arguments
  other = record { application = a.application; domain = a.domain; format = a.format; script = a.script; response = m }

  same_number : first_given (run_refusals c other) ≡ first_given (run_refusals c a)
  unfolding run_refusals arguments_fit
  same_number = rw same

  view_script : (f : Format) (k : Card) → view (run_script f other k) ≡ view (run_script f a k)
  unfolding run_script
  view_script Compact k = view_accepted _ _ m a.response
  view_script Expanded k = view_accepted _ _ m a.response

  view_run : view (run other c) ≡ view (run a c)
  unfolding run unless_refused told seen
  view_run =
      let f : Format = format_of a.format a.script in
      ap (λ (n : ℕ). view (unless_refused n c m (run_script f other (with_mark c)))) same_number
      ∙ both_ways view (eqb (first_given (run_refusals c a)) 0) _ _ _ _ (view_script f (with_mark c)) refl

  pub length_alone_lem : LengthAlone a m c
  unfolding result_of with_memory
  length_alone_lem = record { told = ap (λ v. v.0) view_run; card = ap (λ v. v.1) view_run }
