-- A take-back after an accepted run of a script that is bytes gives back the card from before the run. Assumes nothing.
use mathlib.Core.Path.{◌≡◌, sym, ap, ◌∙◌}
use mathlib.Core.List.{[]}
use native.Mathlib.Omega.{arith}
use Rattle.card.specs.Row.{Card}
use Rattle.journal.specs.Changes.{with_mark}
use Rattle.tlv.specs.Templates.{template_of}
use Rattle.journal.proofs.Undone.{back_mark}
use Rattle.session.specs.declared.Session.{Session}
use Rattle.session.specs.Session.{start}
use Rattle.command.specs.declared.Format.{Format}
use Rattle.command.specs.declared.Format.TheVariants.{Compact, Expanded}
use Rattle.step.proofs.Keeps.{Holds, starts_holds}
use Rattle.compact.proofs.Runs as compact
use Rattle.expanded.proofs.Runs as expanded
use Rattle.engine.specs.Numbers.{numbered, Arguments, format_of, first_given, run_refusals}
use Rattle.engine.specs.Calls.{Result, gives, accepted, run_script}
use Rattle.demands.specs.Called.{running, taking_back, result_of, number}
use Rattle.demands.specs.Demand3.{InBytes}
use Rattle.engine.proofs.Answers.{back_done}
use Rattle.engine.proofs.Accepted.{is-sound, mark-room, marked-starts}
use Rattle.demands.proofs.LawsRefused.{run-number, run-done}

module _ (a : Arguments) (c : Card) (small : InBytes (running a)) (ok : number (result_of (running a) c) ≡ 0) where
  free : first_given (run_refusals c a) ≡ 0
  unfolding result_of
  free = sym (run-number a c) ∙ ok

  -- the mark is on the card
  begins : Holds c (start a.application) (with_mark c)
  begins =
      rw (back_mark c (is-sound c a free) (mark-room c a free)) at (starts_holds (with_mark c) a.application (marked-starts c a free))

  -- and what holds at the script's start holds at its end
  ends : (f : Format) → (s : Session) × Holds c s (run_script f a (with_mark c)).card
  unfolding run_script accepted
  ends Compact = (_, compact.run-keeps a.script small c a.application a.domain _ begins)
  ends Expanded = (_, expanded.run-keeps a.script small c (template_of a.script) a.application a.domain _ begins)

pub taken_back : (a : Arguments) (c : Card) → InBytes (running a) → number (result_of (running a) c) ≡ 0 → result_of taking_back (result_of (running a) c).card ≡ gives (numbered 0) c []
unfolding result_of
taken_back a c small ok =
    let d = (run_script (format_of a.format a.script) a (with_mark c)).card in
    let h = (ends a c small ok (format_of a.format a.script)).1 in
    ap (λ (r : Result). result_of taking_back r.card) (run-done a c ok)
    ∙ back_done d h.sound (λ z. let t = h.trial in omega arith)
    ∙ ap (λ (k : Card). gives (numbered 0) k []) h.back
