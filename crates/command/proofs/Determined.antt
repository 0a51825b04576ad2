-- Each contract of a public function of this crate allows one result: whatever the arguments and the first content of the memory that
-- `put_data` writes, two results that it allows are the same, the answer and every byte of that memory. The contracts of `at_front` and
-- `moved_on` are read here, as the other functions' are read beside their code: what a reading tells is what whoever has the `ensures`
-- learns. Assumes nothing.
use mathlib.Core.Path.{refl}
use base.Logic.{emp}
use contract.Lifetimes.{Lfts}
use denote.Triple.Clauses.{AtExit}
use denote.Triple.Entry.{Args, Res}
use borrow.Fn.Claims.{AllOf}
use borrow.Fn.Read.{reads, all_models, no_know}
use borrow.Fn.World.{World, Pr}
use Rattle.octets.proofs.Determined.{Determined, by_equation, pair, both}
use Rattle.command.proofs.ends.word_of.Reads as word_of
use Rattle.command.proofs.ends.data_count.Reads as data-count
use Rattle.command.proofs.ends.goes_on.Reads as goes_on_lem
use Rattle.command.proofs.ends.put_data.Reads as put-data
use Rattle.command.proofs.instruction.carries_data.Reads as carries-data
use Rattle.command.proofs.instruction.is_outgoing.Reads as is-outgoing
use Rattle.command.proofs.instruction.is_switch.Reads as is-switch
use Rattle.command.proofs.instruction.is_known.Reads as is_Known
use Rattle.command.proofs.instruction.is_binary.Reads as is-binary
use Rattle.command.proofs.instruction.is_record.Reads as is-record
use Rattle.command.proofs.instruction.class_of.Reads as class_of
use Rattle.command.proofs.instruction.case_of.Reads as case-of
use Rattle.command.proofs.instruction.never_bit.Reads as never-bit
use Rattle.command.specs.contracts.reader.Reader.at_front as at_front
use Rattle.command.specs.contracts.reader.Reader.moved_on as moved_on

module _ (κs : Lfts 0) where
  pub word_of_determined : Determined (word_of.Learnt κs) (λ args a e. a)
  word_of_determined = by_equation (λ args a e h. h)

  pub data_count_determined : Determined (data-count.Learnt κs) (λ args a e. a)
  data_count_determined = by_equation (λ args a e h. h)

  pub goes_on_determined : Determined (goes_on_lem.Learnt κs) (λ args a e. a)
  goes_on_determined = by_equation (λ args a e h. h)

  pub carries_data_determined : Determined (carries-data.Learnt κs) (λ args a e. a)
  carries_data_determined = by_equation (λ args a e h. h)

  pub is_outgoing_determined : Determined (is-outgoing.Learnt κs) (λ args a e. a)
  is_outgoing_determined = by_equation (λ args a e h. h)

  pub is_switch_determined : Determined (is-switch.Learnt κs) (λ args a e. a)
  is_switch_determined = by_equation (λ args a e h. h)

  pub is_known_determined : Determined (is_Known.Learnt κs) (λ args a e. a)
  is_known_determined = by_equation (λ args a e h. h)

  pub is_binary_determined : Determined (is-binary.Learnt κs) (λ args a e. a)
  is_binary_determined = by_equation (λ args a e h. h)

  pub is_record_determined : Determined (is-record.Learnt κs) (λ args a e. a)
  is_record_determined = by_equation (λ args a e h. h)

  pub class_of_determined : Determined (class_of.Learnt κs) (λ args a e. a)
  class_of_determined = by_equation (λ args a e h. h)

  pub case_of_determined : Determined (case-of.Learnt κs) (λ args a e. a)
  case_of_determined = by_equation (λ args a e h. h)

  pub never_bit_determined : Determined (never-bit.Learnt κs) (λ args a e. a)
  never_bit_determined = by_equation (λ args a e h. h.0)

module _ (κs : Lfts 3) where
  pub put_data_determined : Determined (put-data.Learnt κs) (λ args a e. pair a e.0.now)
  put_data_determined = by_equation (λ args a e h. both h.1 h.0)

-- the contracts of `at_front` and `moved_on`, in every model
module _ (κs : Lfts 1) where
  abbrev AtFront : (a : Args at_front.signature κs) (r : Res at_front.signature κs) → AtExit at_front.ended κs → (w : World) → Pr w
  AtFront a r e w = (at_front.clauses w.𝓛 w.𝓜.mem w.𝓡.run κs a).ensures tt r e

  abbrev at_front_learnt : Args at_front.signature κs → Res at_front.signature κs → AtExit at_front.ended κs → Type 0
  at_front_learnt a r e =
      AllOf (all_models {Base = λ w. emp w.𝓤} {Know = no_know} (AtFront a r e) (λ w. search reads) (λ w. refl) (λ w. refl) (λ w. refl)).tells

  pub at_front_determined : Determined at_front_learnt (λ args a e. a)
  at_front_determined = by_equation {given = λ args. record { script = args.0; at = 0 }} (λ args a e h i. record { script = h.0 i; at = h.1 i })

  abbrev MovedOn : (a : Args moved_on.signature κs) (r : Res moved_on.signature κs) → AtExit moved_on.ended κs → (w : World) → Pr w
  MovedOn a r e w = (moved_on.clauses w.𝓛 w.𝓜.mem w.𝓡.run κs a).ensures tt r e

  abbrev moved_on_learnt : Args moved_on.signature κs → Res moved_on.signature κs → AtExit moved_on.ended κs → Type 0
  moved_on_learnt a r e =
      AllOf (all_models {Base = λ w. emp w.𝓤} {Know = no_know} (MovedOn a r e) (λ w. search reads) (λ w. refl) (λ w. refl) (λ w. refl)).tells

  pub moved_on_determined : Determined moved_on_learnt (λ args a e. a)
  moved_on_determined = by_equation {given = λ args. record { script = args.0.script; at = args.1.0 }} (λ args a e h i. record { script = h.0 i; at = h.1 i })
