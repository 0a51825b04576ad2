-- Each contract of a public function of this crate allows one result. Of a command that makes no bytes two decisions that its contract
-- allows are the same whole: its plan is the same whatever stands in the lent bytes, so none of them were made. Of a command that makes
-- bytes (`select_entry`, `search_records`, `increase`) two results agree in what is seen of them, and docs/PROMISES.md has the rest as an
-- exception: the plan, with the bytes that were made, and their number, which is no more than were lent; for the first two also the
-- change. Assumes nothing.
use Prim.Native.Nat.{ℕ, zero, suc, ◌≤◌}
use mathlib.Core.Path.{◌≡◌, refl, sym, ◌∙◌, ap}
use mathlib.Core.List.{List, [], ◌∷◌}
use native.Mathlib.Omega.{arith}
use lib.ListN.{length, take}
use lib.Seq.{length-take-le, take-nil}
use contract.Lifetimes.{Lfts}
use Rattle.octets.specs.Bytes.{part}
use Rattle.octets.proofs.Determined.{Determined, by_equation, pair, both}
use Rattle.card.specs.declared.Row.{Row}
use Rattle.card.specs.Row.{row}
use Rattle.plan.specs.declared.Change.{Change}
use Rattle.plan.specs.declared.Decision.{Decision}
use Rattle.plan.specs.Ends.{Plan}
use Rattle.plan.specs.Files.{File}
use Rattle.plan.specs.Promised.{plan_of}
use Rattle.plan.proofs.target.Reads as target
use Rattle.plan.proofs.failed.Reads as failed
use Rattle.plan.proofs.waited.Reads as waited
use Rattle.plan.proofs.records.record_of.Reads as record_of
use Rattle.plan.proofs.records.has_record.Reads as has-record
use Rattle.plan.proofs.does.select_entry.Reads as select-entry
use Rattle.plan.proofs.does.read_binary.Reads as read-binary
use Rattle.plan.proofs.does.update_binary.Reads as update-binary
use Rattle.plan.proofs.does.read_record.Reads as read-record
use Rattle.plan.proofs.does.update_record.Reads as update-record
use Rattle.plan.proofs.does.search_records.Reads as search-records
use Rattle.plan.proofs.does.increase.Reads as increase
use Rattle.plan.proofs.does.switch.Reads as switch

-- a decision that made no bytes, from its plan and its change
abbrev unmade : Plan → Change → Decision
unmade plan change = record { session = plan.session; outcome = plan.outcome; made = 0; change = change }

none_taken : (n : ℕ) → take {A = ℕ} n (0 ∷ []) ≡ [] → n ≡ 0
none_taken zero h = refl
none_taken (suc n) h = absurd (let z : suc (length (take {A = ℕ} n [])) ≡ 0 = ap length h in omega arith)

-- a decision whose plan is the same whatever the bytes has made none of them
by_plan : (d : Decision) («data» : List ℕ) (plan : Plan) {change : Change} → ((bytes : List ℕ) → plan_of d «data» bytes ≡ plan) → d.change ≡ change → d ≡ unmade plan change
unfolding plan_of
by_plan d «data» plan same e =
    let none : d.made ≡ 0 = none_taken d.made (ap (λ p. p.made) (same (0 ∷ [])) ∙ sym (ap (λ p. p.made) (same [])) ∙ take-nil d.made) in
    λ i. record { session = (same [] i).session; outcome = (same [] i).outcome; made = none i; change = e i }

-- as many bytes were made as the plan has
pub by_bytes : (d : Decision) («data» bytes : List ℕ) {plan : Plan} → plan_of d «data» bytes ≡ plan → d.made ≤ length bytes → pair (plan_of d «data» bytes) d.made ≡ pair plan (length plan.made)
unfolding plan_of
by_bytes d «data» bytes same fits = both same (sym (length-take-le d.made bytes fits) ∙ ap (λ p. length p.made) same)

-- what is seen of a file, from its entry number, its row and its content; the journal is not looked at
abbrev seen : ℕ → Row → List ℕ → File
seen entry r content = record { entry = entry; row = r; content = content; used = 0; room = 0 }

module _ (κs : Lfts 0) where
  pub target_determined : Determined (target.Learnt κs) (λ args a e. a)
  target_determined = by_equation (λ args a e h. h)

  pub record_of_determined : Determined (record_of.Learnt κs) (λ args a e. a)
  record_of_determined = by_equation (λ args a e h. h)

  pub has_record_determined : Determined (has-record.Learnt κs) (λ args a e. a)
  has_record_determined = by_equation (λ args a e h. h)

  pub failed_determined : Determined (failed.Learnt κs) (λ args a e. a)
  failed_determined = by_equation (λ args a e h. by_plan a [] _ (h.0 []) h.1)

  pub waited_determined : Determined (waited.Learnt κs) (λ args a e. a)
  waited_determined = by_equation (λ args a e h. by_plan a [] _ (h.0 []) h.1)

  pub read_binary_determined : Determined (read-binary.Learnt κs) (λ args a e. a)
  read_binary_determined = by_equation (λ args a e h. by_plan a [] _ (λ bytes. h.0 [] bytes (seen 0 args.1.1.1.0 []) refl) h.1)

  pub update_binary_determined : Determined (update-binary.Learnt κs) (λ args a e. a)
  update_binary_determined = by_equation (λ args a e h. by_plan a [] _ (λ bytes. h.0 [] bytes (seen 0 args.1.1.0 []) refl) h.1)

  pub read_record_determined : Determined (read-record.Learnt κs) (λ args a e. a)
  read_record_determined = by_equation (λ args a e h. by_plan a [] _ (λ bytes. h.0 [] bytes (seen 0 args.1.1.0 []) refl) h.1)

  pub update_record_determined : Determined (update-record.Learnt κs) (λ args a e. a)
  update_record_determined = by_equation (λ args a e h. by_plan a [] _ (λ bytes. h.0 [] bytes (seen args.1.0.file args.1.1.0 []) refl refl) h.1)

  pub switch_determined : Determined (switch.Learnt κs) (λ args a e. a)
  switch_determined = by_equation (λ args a e h. by_plan a [] _ (λ bytes. h.0 [] bytes (seen args.1.0.file (row []) []) refl) h.1)

-- the three commands that make bytes: what the contract says, and that no more were made than were lent
module _ (κs : Lfts 1) where
  pub select_entry_determined :
      Determined (λ args a e. select-entry.Learnt κs args a e × (a.made ≤ length e.1.1.1.1.1.0.now))
      (λ args a e. pair (pair (plan_of a [] e.1.1.1.1.1.0.now) a.made) a.change)
  select_entry_determined = by_equation (λ args a e h. both (by_bytes a [] e.1.1.1.1.1.0.now (h.0.0 []) h.1) h.0.1)

module _ (κs : Lfts 3) where
  pub search_records_determined :
      Determined (λ args a e. search-records.Learnt κs args a e × (a.made ≤ length e.1.1.1.1.1.1.0.now))
      (λ args a e. pair (pair (plan_of a args.1.1.0.now e.1.1.1.1.1.1.0.now) a.made) a.change)
  search_records_determined =
      by_equation (λ args a e h.
      let r : Row = args.1.1.1.1.0 in
      let content : List ℕ = part args.1.1.1.1.1.0.now r.start r.size in
      both (by_bytes a args.1.1.0.now e.1.1.1.1.1.1.0.now (h.0.0 (seen 0 r content) refl refl) h.1) h.0.1)

  pub increase_determined :
      Determined (λ args a e. increase.Learnt κs args a e × (a.made ≤ length e.1.1.1.1.1.0.now))
      (λ args a e. pair (plan_of a args.1.0.now e.1.1.1.1.1.0.now) a.made)
  increase_determined =
      by_equation (λ args a e h.
      let r : Row = args.1.1.1.0 in
      let content : List ℕ = part args.1.1.1.1.0.now r.start r.size in
      by_bytes a args.1.0.now e.1.1.1.1.1.0.now (h.0.0 (seen args.1.1.0.file r content) refl refl refl) h.1)
