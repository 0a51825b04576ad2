-- What holds of each way in which a command ends holds of its plan: by the first check that fails, and by its instruction. Assumes nothing.
use mathlib.Core.Path.{◌≡◌, refl}
use mathlib.Core.Bool.{true, false, not, or-false}
use Prim.Native.Nat.{ℕ}
use lib.Dec.{eqb}
use borrow.Author.Tests.{eqb-true, ne_eqb, not-true}
use Rattle.std.specs.Prelude.{Result, Ok, Err}
use Rattle.octets.proofs.Picks.{and_left, and_right, on_pick}
use Rattle.command.specs.Instructions as ins
use Rattle.command.specs.Instructions.{is_known}
use Rattle.plan.specs.Ends.{Plan, failed}
use Rattle.plan.specs.Plans.{Situation, select, read_binary, update_binary, read_record, update_record, search, increase, switch, get_response, done_by}
use Rattle.card.specs.Row.{activated, deactivated}
use Rattle.command.specs.declared.checks.Check.{Check}
use Rattle.decide.specs.Order.{order}
use Rattle.decide.specs.Fails.{first_failing}
use Rattle.decide.specs.Promised.{is_of_file}
use Rattle.decide.specs.Decisions.{decided, planned}

module _ (P : Plan → Type 0) (w : Situation) where
  -- a check fails, or none
  pub of_planned : ((k : Check) → first_failing w (order w.command.instruction) ≡ Err k → P (failed w.session k)) → (first_failing w (order w.command.instruction) ≡ Ok tt → P (done_by w.command.instruction w)) → P (planned w)
  unfolding planned
  of_planned failing does = go (first_failing w (order w.command.instruction)) refl
    where
      go : (k : Result (Unit {0}) Check) → first_failing w (order w.command.instruction) ≡ k → P (decided w k)
      go (Ok passed) h = unfold decided in does h
      go (Err k) h = unfold decided in failing k h

  -- what an instruction does; of those that there are, the last is GET RESPONSE
  pub by-instruction : (i : ℕ)
      → (i ≡ ins.select → P (select w.format w.session w.command.p2 w.row w.found))
      → (i ≡ ins.read_binary → P (read_binary w.format w.command w.session w.file))
      → (i ≡ ins.update_binary → P (update_binary w.command w.«data» w.session w.file))
      → (i ≡ ins.read_record → P (read_record w.command w.session w.file))
      → (i ≡ ins.update_record → P (update_record w.command w.«data» w.session w.file))
      → (i ≡ ins.search → P (search w.format w.command w.«data» w.session w.file))
      → (i ≡ ins.increase → P (increase w.format w.«data» w.session w.file))
      → (i ≡ ins.deactivate → P (switch deactivated w.session w.file))
      → (i ≡ ins.activate → P (switch activated w.session w.file))
      → ((is_known i ≡ true → i ≡ ins.get_response) → P (get_response w.command w.session))
      → P (done_by i w)
  unfolding done_by
  by-instruction i a b c d e f g h j k =
      on_pick P (eqb i ins.select) _ _ (λ y. a (eqb-true i _ y))
      (λ a'. on_pick P (eqb i ins.read_binary) _ _ (λ y. b (eqb-true i _ y))
      (λ b'. on_pick P (eqb i ins.update_binary) _ _ (λ y. c (eqb-true i _ y))
      (λ c'. on_pick P (eqb i ins.read_record) _ _ (λ y. d (eqb-true i _ y))
      (λ d'. on_pick P (eqb i ins.update_record) _ _ (λ y. e (eqb-true i _ y))
      (λ e'. on_pick P (eqb i ins.search) _ _ (λ y. f (eqb-true i _ y))
      (λ f'. on_pick P (eqb i ins.increase) _ _ (λ y. g (eqb-true i _ y))
      (λ g'. on_pick P (eqb i ins.deactivate) _ _ (λ y. h (eqb-true i _ y))
      (λ h'. on_pick P (eqb i ins.activate) _ _ (λ y. j (eqb-true i _ y))
      (λ j'. k (λ known. eqb-true i _ (rw (a', b', c', d', e', f', g', h', j', or-false) at known)))))))))))

-- an instruction that works on files is neither SELECT nor GET RESPONSE, and one that is none of the first seven is ACTIVATE
module _ (i : ℕ) (h : is_of_file i ≡ true) where
  known : is_known i ≡ true
  known = and_left (is_known i) _ h

  pub no_select : eqb i ins.select ≡ false
  no_select = not-true _ (and_left _ _ (and_right (is_known i) _ h))

  pub no_response : eqb i ins.get_response ≡ false
  no_response = not-true _ (and_right (not (eqb i ins.select)) _ (and_right (is_known i) _ h))

  pub last-of-file : (i ≡ ins.read_binary → ⊥) → (i ≡ ins.update_binary → ⊥) → (i ≡ ins.read_record → ⊥) → (i ≡ ins.update_record → ⊥) → (i ≡ ins.search → ⊥) → (i ≡ ins.increase → ⊥) → (i ≡ ins.deactivate → ⊥) → i ≡ ins.activate
  last-of-file a b c d e f g =
      eqb-true i ins.activate (rw (no_select, no_response, ne_eqb _ _ a, ne_eqb _ _ b, ne_eqb _ _ c, ne_eqb _ _ d, ne_eqb _ _ e, ne_eqb _ _ f, ne_eqb _ _ g) at known)
