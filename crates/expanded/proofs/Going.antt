-- An expanded script between two items: what is left from here is the whole run.
-- The definition `run_from` counts its rounds down, and the code loops. `Going` says that for some count which is enough for the bytes
-- that are left, the run from this place and progress is the whole run. The item at the place decides what `run_from` does there, so
-- one unfolding gives each case: `end-left`, `bad-left`, `stop-left`, `on_left`. An item takes at least a byte: so the count stays
-- enough, and there are never more commands than bytes read. A C-APDU that stops the script leaves nothing to run: the script is then
-- going at the end of the value, so the law `moves` is one for both. Where no C-APDU stands, `reaches` says how far the script came,
-- and from there `ends` and `breaks` say what the whole run is. Assumes nothing.
use mathlib.Core.Path.{◌≡◌, refl, sym, ap, subst, ◌∙◌}
use mathlib.Core.Bool.{Bool, true, false}
use mathlib.Core.List.{List}
use Prim.Native.Nat.{ℕ, zero, suc, ◌+◌, ◌≤◌, ◌<◌}
use native.Mathlib.Omega.{arith}
use lib.ListN.{length}
use Rattle.octets.proofs.Picks.{on_pick}
use Rattle.octets.specs.Choice.{pick}
use Rattle.octets.specs.Bytes.{part}
use Rattle.card.specs.Row.{Card}
use Rattle.tlv.specs.declared.template.Item.{Item}
use Rattle.tlv.specs.declared.template.Item.TheVariants.{Capdu, Bad, End}
use Rattle.tlv.specs.Templates.{least_capdu, item_at}
use Rattle.tlv.specs.Promised.{ItemFits}
use Rattle.journal.specs.Promised.{Starts}
use Rattle.journal.specs.Changes.{taken_back}
use Rattle.command.specs.declared.Step.{Step}
use Rattle.command.specs.Outcomes.{word_of, goes_on}
use Rattle.step.specs.Steps.{started, stepped}
use Rattle.step.proofs.Keeps.{Holds, starts_holds}
use Rattle.step.specs.Limits.{most_kept}
use Rattle.expanded.specs.declared.run.Gathered.{Gathered}
use Rattle.expanded.specs.Expanded.{room_to_gather, Progress, progress_of, answered, step_capdu, step_bad, run_from, begun}
use Rattle.expanded.specs.declared.run.Reached.{Reached}
use Rattle.expanded.specs.Promised.{Reaches}

-- an item that is known lies in the value
module _ {at end : ℕ} {item : Item} where
  pub capdu_lies : {from size : ℕ} → ItemFits at end item → item ≡ Capdu from size → (at < from) × (from + size ≤ end) × (least_capdu ≤ size)
  unfolding ItemFits
  capdu_lies fits known = subst (ItemFits at end) known fits

  pub bad_lies : {code : ℕ} → ItemFits at end item → item ≡ Bad code → (at < end) × (code < 256)
  unfolding ItemFits
  bad_lies fits known = subst (ItemFits at end) known fits

-- one command more
pub counts_one : (definite : Bool) (domain : ℕ) (capdu : List ℕ) (p : Progress) → (step_capdu definite domain capdu p).state.step.count ≡ p.state.step.count + 1
unfolding step_capdu answered stepped
counts_one definite domain capdu p = on_pick (λ (q : Progress). q.state.step.count ≡ p.state.step.count + 1) _ _ _ (λ y. refl) (λ n. refl)

-- the place, the number of commands, the bytes kept, what holds of session and card, and what is left to run, with a count that is large
-- enough
pub record Going (script : List ℕ) (definite : Bool) (from end application domain : ℕ) (card₀ card : Card) (out : List ℕ) (g : Gathered) (at : ℕ) : Type 0 where
  pub inside : at ≤ end
  pub counted : g.step.count ≤ at
  pub kept : at < end → g.rapdus.kept ≤ most_kept
  pub room : g.rapdus.kept + g.rapdus.last ≤ room_to_gather
  pub holds : Holds (taken_back card₀) g.step.session card
  pub fuel : ℕ
  pub enough : end ≤ at + fuel
  pub whole : run_from fuel script domain definite at end (progress_of g card out) ≡ run_from (length script) script domain definite from end (begun application card₀)

-- the items from a place on, by the first of them
module _ (script : List ℕ) (definite : Bool) (end domain at : ℕ) (p : Progress) where
  end-left : (n : ℕ) → item_at script at end ≡ End → run_from n script domain definite at end p ≡ p
  unfolding run_from
  end-left zero e = refl
  end-left (suc n) e = rw (run_from, e)

  bad-left : (n code : ℕ) → at < end → end ≤ at + n → item_at script at end ≡ Bad code → run_from n script domain definite at end p ≡ step_bad code p
  unfolding run_from
  bad-left zero code h l e = absurd (omega arith)
  bad-left (suc n) code h l e = rw (run_from, e)

  module _ (start size : ℕ) (further : at < start) (inside : start + size ≤ end) (e : item_at script at end ≡ Capdu start size) where
    abbrev next : Progress
    next = step_capdu definite domain (part script start size) p

    stop-left : (n : ℕ) → end ≤ at + n → goes_on (word_of next.state.step.outcome) ≡ false → run_from n script domain definite at end p ≡ next
    unfolding run_from
    stop-left zero l g = absurd (omega arith)
    stop-left (suc n) l g = rw (run_from, e, g)

    on_left : (n : ℕ) → end ≤ at + n → goes_on (word_of next.state.step.outcome) ≡ true
        → (m : ℕ) × (end ≤ start + size + m) × (run_from m script domain definite (start + size) end next ≡ run_from n script domain definite at end p)
    unfolding run_from
    on_left zero l g = absurd (omega arith)
    on_left (suc n) l g = (n, omega arith, rw (run_from, e, g))

-- a script that is done
abbrev pub Done : List ℕ → Bool → ℕ → ℕ → ℕ → ℕ → Card → Card → List ℕ → Gathered → Type 0
Done script definite from end application domain card₀ card out r =
    (progress_of r card out ≡ run_from (length script) script domain definite from end (begun application card₀))
    × (r.rapdus.kept + r.rapdus.last ≤ room_to_gather)
    × (r.step.count ≤ end)

module _ {script : List ℕ} {definite : Bool} {from end application domain : ℕ} {card₀ : Card} where
  pub begins : from ≤ end → end ≤ length script → Starts card₀ application → {out : List ℕ} {step : Step} → step ≡ (started application card₀).step
      → Going script definite from end application domain card₀ card₀ out (record { step = step; rapdus = record { kept = 0; last = 0 } }) from
  unfolding started begun progress_of
  begins inside short starts is =
      record {
        inside = inside;
        counted = rw is (omega arith);
        kept = λ more. omega arith;
        room = omega arith;
        holds = rw is (starts_holds card₀ application starts);
        fuel = length script;
        enough = omega arith;
        whole = rw is;
      }

  -- a script that is going
  module _ {card : Card} {out : List ℕ} {g : Gathered} {at : ℕ} (going : Going script definite from end application domain card₀ card out g at) where
    pub reaches : ((start size : ℕ) → item_at script at end ≡ Capdu start size → ⊥) → Reaches script definite from end application domain card₀ card out (record { gathered = g; at = at })
    reaches none =
        record {
          inside = going.inside;
          counted = going.counted;
          kept = going.kept;
          room = going.room;
          none = none;
          rounds = going.fuel;
          enough = going.enough;
          whole = going.whole;
        }

    -- the C-APDU at its place was run
    module _ (next : Gathered) {card' : Card} (out' : List ℕ) {start size : ℕ} (known : item_at script at end ≡ Capdu start size) (further : at < start) (inside : start + size ≤ end)
        (did : progress_of next card' out' ≡ step_capdu definite domain (part script start size) (progress_of g card out)) (room : next.rapdus.kept + next.rapdus.last ≤ room_to_gather)
        (few : goes_on (word_of next.step.outcome) ≡ true → next.rapdus.kept ≤ most_kept) (holds : Holds (taken_back card₀) next.step.session card') where
      one_more : next.step.count ≡ g.step.count + 1
      unfolding progress_of
      one_more = ap (λ (p : Progress). p.state.step.count) did ∙ counts_one definite domain (part script start size) (progress_of g card out)

      same_end : {b : Bool} → goes_on (word_of next.step.outcome) ≡ b → goes_on (word_of (step_capdu definite domain (part script start size) (progress_of g card out)).state.step.outcome) ≡ b
      unfolding progress_of
      same_end h = ap (λ (p : Progress). goes_on (word_of p.state.step.outcome)) (sym did) ∙ h

      follows : (b : Bool) → goes_on (word_of next.step.outcome) ≡ b → Going script definite from end application domain card₀ card' out' next (pick b (start + size) end)
      unfolding pick run_from
      follows true on =
          let c = going.counted in
          let n = one_more in
          let k = on_left script definite end domain at (progress_of g card out) start size further inside known going.fuel going.enough (same_end on) in
          record {
            inside = inside;
            counted = omega arith;
            kept = λ more. few on;
            room = room;
            holds = holds;
            fuel = k.0;
            enough = k.1;
            whole = ap (λ (p : Progress). run_from k.0 script domain definite (start + size) end p) did ∙ k.2 ∙ going.whole;
          }
      follows false off =
          let c = going.counted in
          let n = one_more in
          record {
            inside = omega arith;
            counted = omega arith;
            kept = λ more. absurd (omega arith);
            room = room;
            holds = holds;
            fuel = 0;
            enough = omega arith;
            whole = did ∙ sym (stop-left script definite end domain at (progress_of g card out) start size further inside known going.fuel going.enough (same_end off)) ∙ going.whole;
          }

      pub moves : Going script definite from end application domain card₀ card' out' next (pick (goes_on (word_of next.step.outcome)) (start + size) end)
      moves = follows (goes_on (word_of next.step.outcome)) refl

  -- the item at the place that a script reached
  module _ {card : Card} {out : List ℕ} {r : Reached} (reached : Reaches script definite from end application domain card₀ card out r) {item : Item} (is : item ≡ item_at script r.at end) where
    pub ends : item ≡ End → Done script definite from end application domain card₀ card out r.gathered
    ends known =
        let c = reached.counted in
        let i = reached.inside in
        (sym (end-left script definite end domain r.at (progress_of r.gathered card out) reached.rounds (sym is ∙ known)) ∙ reached.whole, reached.room, omega arith)

    pub breaks : ItemFits r.at end item → (next : Gathered) (card' : Card) (out' : List ℕ) → next.rapdus.kept + next.rapdus.last ≤ room_to_gather
        → {code : ℕ} → item ≡ Bad code → progress_of next card' out' ≡ step_bad code (progress_of r.gathered card out) → Done script definite from end application domain card₀ card' out' next
    unfolding step_bad progress_of
    breaks fits next card' out' room {code} known e =
        let f = bad_lies fits known in
        let c = reached.counted in
        let n : next.step.count ≡ r.gathered.step.count + 1 = ap (λ (p : Progress). p.state.step.count) e in
        (e ∙ sym (bad-left script definite end domain r.at (progress_of r.gathered card out) reached.rounds code f.0 reached.enough (sym is ∙ known)) ∙ reached.whole, room, omega arith)
