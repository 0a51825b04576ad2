-- `expanded::run::gather` meets its contract: each arm is the one that the definition picks. Assumes nothing.
use mathlib.Core.Path.{◌≡◌, ap, ◌∙◌}
use mathlib.Core.List.{List}
use Prim.Native.Nat.{ℕ, ◌-◌}
use native.Mathlib.Omega.{arith}
use lib.ListN.{length}
use Rattle.octets.proofs.Picks.{yes, no}
use Rattle.session.specs.Session.{most_waiting}
use Rattle.command.specs.declared.Outcome.{Outcome}
use Rattle.command.specs.Outcomes.{word_of, data_of, data_count}
use Rattle.command.specs.Promised.{OutcomeFits}
use Rattle.command.proofs.Outgoing.{data_length_lem}
use Rattle.step.specs.Limits.{rapdu_size}
use Rattle.expanded.specs.Expanded.{rapdu, gathered_in}
use Rattle.expanded.proofs.Written.{rapdu-length}
use Rattle.expanded.proofs.run.gather.Goals as goal

-- the bytes of the R-APDU
sized : (o : Outcome) (files waiting : List ℕ) → OutcomeFits (length files) o → length waiting ≡ most_waiting → length (rapdu (data_of o files waiting) (word_of o)) ≡ rapdu_size (data_count o)
sized o files waiting fits whole = rapdu-length (data_of o files waiting) _ ∙ ap rapdu_size (data_length_lem o files waiting fits whole)

pub returns-then-counts : goal.returns-then-counts
unfolding gathered_in
returns-then-counts c =
    let put = c.put_rapdu-end in
    let a = c.args in
    (put.ensures.0, sized a.o a.files.now a.waiting.now c.requires.0 (omega arith), yes c.args.counts _ c.if-counts.true (λ i. record { kept = put.ensures.1 i; last = 0 }))

pub returns : goal.returns
unfolding gathered_in
returns c =
    let put = c.put_rapdu-end in
    let a = c.args in
    let n : put.result - a.kept ≡ rapdu_size (data_count a.o) = omega arith in
    (put.ensures.0, sized a.o a.files.now a.waiting.now c.requires.0 (omega arith), no a.counts _ c.if-counts.false (λ i. record { kept = a.kept; last = n i }))
