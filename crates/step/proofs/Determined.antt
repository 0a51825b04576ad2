-- Each contract of a public function of this crate allows one result: whatever the arguments and the first contents of session and card,
-- two results that it allows are the same. Of `step` is seen how the command ended, the count, the session and every byte of the card's
-- memories. The bytes that are lent for what a command makes are no part of it (docs/PROMISES.md has them as an exception).
-- `step` is lent structs: so what its contract says is written out here too (`Said`), and `is_said` shows that it is that. Assumes nothing.
use mathlib.Core.Path.{◌≡◌, refl}
use Prim.Native.Nat.{◌+◌}
use contract.Lifetimes.{Lfts}
use denote.Triple.Clauses.{AtExit}
use denote.Triple.Entry.{Args, Res}
use Rattle.octets.proofs.Determined.{Determined, by_equation, pair, both}
use Rattle.card.specs.Lent.{StaysLent, held}
use Rattle.step.specs.Steps.{moved_to, commanded}
use Rattle.step.specs.contracts.lent.step as said
use Rattle.step.proofs.lent.not_begun.Reads as not-begun
use Rattle.step.proofs.lent.step.Reads as step
use Rattle.step.proofs.read.data_of.Reads as data-of
use Rattle.step.proofs.read.next_place.Reads as next-place

module _ (κs : Lfts 0) where
  pub not_begun_determined : Determined (not-begun.Learnt κs) (λ args a e. a)
  not_begun_determined = by_equation (λ args a e h. h)

  pub next_place_determined : Determined (next-place.Learnt κs) (λ args a e. a)
  next_place_determined = by_equation (λ args a e h. h)

module _ (κs : Lfts 1) where
  pub data_of_determined : Determined (data-of.Learnt κs) (λ args a e. a.now)
  data_of_determined = by_equation (λ args a e h. h)

module _ (κs : Lfts 5) where
  abbrev Said : Args said.signature κs → Res said.signature κs → AtExit said.ended κs → Type 0
  Said args a e =
      let asked = args.1.0 in
      let rest = args.1.1 in
      let card = rest.1.1.1.1.0 in
      let after = e.1.1.1.1.1.1.0.now in
      ((moved_to e.0.now a.outcome (held after)
      ≡ commanded asked.format asked.domain asked.command asked.«data».now args.0.now rest.1.0 rest.1.1.0 (held card.now))
      × (a.count ≡ rest.0 + 1))
      × StaysLent card.now after

  is_said : (args : Args said.signature κs) (a : Res said.signature κs) (e : AtExit said.ended κs) → step.Learnt κs args a e ≡ Said args a e
  is_said args a e = refl

  pub step_determined : Determined (step.Learnt κs) (λ args a e. pair (moved_to e.0.now a.outcome (held e.1.1.1.1.1.1.0.now)) a.count)
  step_determined = by_equation (λ args a e h. both h.0.0 h.0.1)
