-- A command whose R-APDU is gathered in a buffer, and a Bad format TLV there. Assumes nothing.
use mathlib.Core.Path.{◌≡◌, sym, ap, subst, ◌∙◌}
use mathlib.Core.Bool.{Bool, true, false}
use mathlib.Core.List.{List, []}
use Prim.Native.Nat.{ℕ, ◌+◌, ◌≤◌}
use native.Mathlib.Nat.{le_refl}
use native.Mathlib.Omega.{arith}
use lib.ListN.{length, take}
use lib.Seq.{length-take-le}
use Rattle.octets.proofs.Picks.{on_pick}
use Rattle.octets.specs.Choice.{pick}
use Rattle.octets.specs.Bytes.{part, overwrite}
use Rattle.octets.proofs.Writes.{take-before, take_through, part-here}
use Rattle.card.specs.Row.{Card}
use Rattle.command.specs.declared.Format.TheVariants.{Expanded}
use Rattle.command.specs.declared.Reading.{Reading}
use Rattle.command.specs.declared.Step.{Step}
use Rattle.command.specs.Outcomes.{word_of, goes_on}
use Rattle.step.specs.Steps.{State, state_of, stepped, commanded}
use Rattle.step.specs.Limits.{most_kept}
use Rattle.expanded.specs.declared.run.Gathered.{Gathered}
use Rattle.expanded.specs.declared.run.Rapdus.{Rapdus}
use Rattle.expanded.specs.Capdu.{capdu_command}
use Rattle.expanded.specs.Expanded.{bad_format, keeps, room_to_gather, Progress, progress_of, answered, gathered_in, gathered_of, last_rapdu, step_capdu, step_bad}

-- bytes behind those kept: more of them, or the last
module _ (out : List ℕ) (kept : ℕ) (new : List ℕ) (fits : kept + length new ≤ length out) (step : Step) (card : Card) {now : List ℕ} (is : now ≡ overwrite out kept new) {n : ℕ} (size : n ≡ length new) where
  in_buffer : (counts : Bool) → progress_of (gathered_of step (gathered_in counts kept n)) card now ≡ answered counts (state_of step card) (take kept out) new
  unfolding gathered_in answered progress_of pick
  in_buffer true = λ i. record { state = state_of step card; kept = ((λ j. take (kept + size j) (is j)) ∙ take_through out kept new fits) i; last = [] }
  in_buffer false = λ i. record { state = state_of step card; kept = (ap (take kept) is ∙ take-before out kept new fits kept (le_refl kept)) i; last = (ap (λ (l : List ℕ). part l kept n) is ∙ part-here out kept new fits n (sym size)) i }

-- the bytes that are gathered find their room, and a script that goes on has kept no more than the rule lets it
abbrev pub Within : Gathered → Type 0
Within g = (g.rapdus.kept + g.rapdus.last ≤ room_to_gather) × (goes_on (word_of g.step.outcome) ≡ true → g.rapdus.kept ≤ most_kept)

pub gathered_within : (counts : Bool) (step : Step) (kept n : ℕ) → kept + n ≤ room_to_gather → kept ≤ most_kept → (counts ≡ true → goes_on (word_of step.outcome) ≡ true → kept + n ≤ most_kept)
    → {r : Rapdus} → r ≡ gathered_in counts kept n → Within (gathered_of step r)
unfolding gathered_in
gathered_within counts step kept n room few rule e =
    subst (λ (r : Rapdus). Within (gathered_of step r)) (sym e) (on_pick (λ (r : Rapdus). Within (gathered_of step r)) counts _ _ (λ y. (omega arith, rule y)) (λ no. (room, λ going. few)))

module _ (before : Gathered) (card : Card) (out : List ℕ) (room : before.rapdus.kept ≤ length out) where
  -- the state after a command of a C-APDU, by how many bytes are kept, whether its R-APDU is, and its data
  abbrev after : ℕ → Reading → ℕ → Bool → List ℕ → State
  after domain r kept counts «data» =
      stepped (state_of before.step card)
      (commanded Expanded domain r.command «data» before.step.session kept counts card)

  -- a C-APDU that was run
  module _ (definite : Bool) (domain : ℕ) (capdu : List ℕ) (r : Reading) (is : r ≡ capdu_command capdu) (counts : Bool) (hc : counts ≡ keeps definite r.command.case) («data» : List ℕ) (hd : «data» ≡ part capdu r.from r.size)
      (next : Step) (card' : Card) (e : state_of next card' ≡ after domain r before.rapdus.kept counts «data») where
    abbrev new : List ℕ
    new = last_rapdu next card'.files

    ran : answered counts (state_of next card') (take before.rapdus.kept out) new ≡ step_capdu definite domain capdu (progress_of before card out)
    unfolding step_capdu progress_of
    ran =
        (λ i. answered counts (e i) (take before.rapdus.kept out) (last_rapdu (e i).step (e i).card.files))
        ∙ (λ i. of r (sym (length-take-le before.rapdus.kept out room) i) (hc i) (hd i))
        ∙ (λ i. of (is i) (length (take before.rapdus.kept out)) (keeps definite (is i).command.case) (part capdu (is i).from (is i).size))
      where
        of : Reading → ℕ → Bool → List ℕ → Progress
        of r kept counts «data» =
            let st : State = after domain r kept counts «data» in
            answered counts st (take before.rapdus.kept out) (last_rapdu st.step st.card.files)

    -- and its R-APDU, written behind those kept
    pub stands : (n : ℕ) → n ≡ length new → before.rapdus.kept + n ≤ length out → {now : List ℕ} → now ≡ overwrite out before.rapdus.kept new → {g : Rapdus} → g ≡ gathered_in counts before.rapdus.kept n → progress_of (gathered_of next g) card' now ≡ step_capdu definite domain capdu (progress_of before card out)
    stands n size fits {now} written h =
        ap (λ (k : Rapdus). progress_of (gathered_of next k) card' now) h ∙ in_buffer out before.rapdus.kept new (omega arith) next card' written size counts ∙ ran

  -- a Bad format TLV
  pub bad_last : (code : ℕ) → before.rapdus.kept + 3 ≤ length out → {now : List ℕ} → now ≡ overwrite out before.rapdus.kept (bad_format code) → {n : ℕ} → n ≡ 3
      → progress_of (record { step = record { session = before.step.session; outcome = before.step.outcome; count = before.step.count + 1 }; rapdus = record { kept = before.rapdus.kept; last = n } }) card now ≡ step_bad code (progress_of before card out)
  unfolding step_bad bad_format progress_of gathered_in answered pick
  bad_last code fits written size = in_buffer out before.rapdus.kept (bad_format code) fits _ card written size false
