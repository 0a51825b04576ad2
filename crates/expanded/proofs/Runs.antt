-- An expanded script of bytes keeps its card sound, scripts on trial, its session good, 255 waiting bytes, and what a take-back gives. Assumes nothing.
use Rattle.std.specs.Prelude.{Option, Some, None}
use mathlib.Core.Bool.{Bool, true, false}
use mathlib.Core.List.{List}
use Prim.Native.Nat.{ℕ, zero, suc, ◌+◌, ◌≤◌, ◌<◌}
use native.Mathlib.Decide.{dec_lt}
use native.Mathlib.Omega.{arith}
use lib.ListN.{length, length-take, get_or-eq_default}
use Rattle.octets.proofs.Picks.{on_pick, on_test}
use Rattle.octets.specs.Bytes.{byte, AllBytes, part}
use Rattle.octets.proofs.Numbers.{byte-part}
use Rattle.card.specs.Row.{Card}
use Rattle.tlv.specs.declared.template.Template.{Template}
use Rattle.tlv.specs.declared.template.Template.TheVariants.{Definite, Indefinite}
use Rattle.tlv.specs.declared.template.Item.{Item}
use Rattle.tlv.specs.declared.template.Item.TheVariants.{Capdu, Bad, End}
use Rattle.tlv.specs.Templates.{item_at}
use Rattle.session.specs.declared.Session.{Session}
use Rattle.session.specs.Session.{start}
use Rattle.command.specs.declared.checks.Check.TheVariants.{AnswerTooLong}
use Rattle.command.specs.declared.Format.TheVariants.{Expanded}
use Rattle.command.specs.declared.Command.{Command}
use Rattle.command.specs.Outcomes.{word_of, goes_on}
use Rattle.step.specs.Steps.{Moved, State, started, stepped, commanded}
use Rattle.step.proofs.Keeps.{Holds, Carries, command_holds, failed_holds}
use Rattle.step.specs.Limits.{limited}
use Rattle.expanded.specs.Capdu.{carried, capdu_command}
use Rattle.expanded.specs.Expanded.{Progress, answered, step_capdu, step_bad, run_from, begun, run}
use Rattle.expanded.proofs.Fits.{carried-few}

-- a part of a script of bytes is of bytes
module _ (script : List ℕ) (small : AllBytes script) where
  pub part_small : (p n i : ℕ) → byte (part script p n) i < 256
  part_small p n i =
      elim (dec_lt i n) [
        | yes l ↦ rw (byte-part script p n i l) (small (p + i))
        | no g ↦ rw (get_or-eq_default (part script p n) 0 {n = i} (rw length-take (omega arith))) (omega arith)
      ]

-- a C-APDU of bytes carries at most 255 of them
pub brief : (capdu : List ℕ) (from : ℕ) → byte capdu 4 < 256 → length (part capdu from (carried capdu)) ≤ 255
brief capdu from b = rw length-take (omega (arith, carried-few capdu b))

-- a step
module _ (before : Card) where
  abbrev pub Kept : Progress → Type 0
  Kept p = Holds before p.state.step.session p.state.card

  answered_holds : (counts : Bool) (st : State) (kept r : List ℕ) → Holds before st.step.session st.card → Kept (answered counts st kept r)
  unfolding answered
  answered_holds counts st kept r h = on_pick Kept counts _ _ (λ y. h) (λ n. h)

  -- a command under the 1,000-byte rule
  pub limited_holds : (s : Session) (card : Card) → Holds before s card → (domain : ℕ) (c : Command) («data» : List ℕ) → length «data» ≤ 255 → (kept : ℕ) (counts : Bool)
      → let m : Moved = commanded Expanded domain c «data» s kept counts card in Holds before m.session m.card
  unfolding limited
  limited_holds s card h domain c «data» few kept counts =
      on_pick (Carries before s card h) _ _ _ (λ y. failed_holds before s card h AnswerTooLong) (λ n. command_holds before s card h Expanded domain c «data» few)

  pub capdu_holds : (definite : Bool) (domain : ℕ) (capdu : List ℕ) (p : Progress) → byte capdu 4 < 256 → Kept p → Kept (step_capdu definite domain capdu p)
  unfolding step_capdu stepped capdu_command
  capdu_holds definite domain capdu p b h =
      answered_holds _ _ _ _
      (limited_holds p.state.step.session p.state.card h domain _ _ (brief capdu (capdu_command capdu).from b) _ _)

  bad_holds : (code : ℕ) (p : Progress) → Kept p → Kept (step_bad code p)
  unfolding step_bad
  bad_holds code p h = h

-- a script
pub on_item : {A : Type 0} (P : A → Type 0) (item : Item) (f : ℕ → ℕ → A) (g : ℕ → A) (x : A) → ((from size : ℕ) → P (f from size)) → ((code : ℕ) → P (g code)) → P x → P (elim item [ Capdu from size ↦ f from size | Bad code ↦ g code | End ↦ x ])
on_item P (Capdu from size) f g x h k l = h from size
on_item P (Bad code) f g x h k l = k code
on_item P End f g x h k l = l

module _ (script : List ℕ) (small : AllBytes script) (before : Card) (domain : ℕ) (definite : Bool) where
  pub script-capdu_holds : (from size : ℕ) (p : Progress) → Kept before p → Kept before (step_capdu definite domain (part script from size) p)
  script-capdu_holds from size p h = capdu_holds before definite domain (part script from size) p (part_small script small from size 4) h

  run_holds : (n at end : ℕ) (p : Progress) → Kept before p → Kept before (run_from n script domain definite at end p)
  unfolding run_from
  run_holds zero at end p h = h
  run_holds (suc n) at end p h =
      on_item (Kept before) (item_at script at end) _ _ p
      (λ from size. let next = script-capdu_holds from size p h in
      on_test (Kept before) (goes_on (word_of (step_capdu definite domain (part script from size) p).state.step.outcome)) _ _ (λ g. run_holds n (from + size) end (step_capdu definite domain (part script from size) p) next) (λ g. next))
      (λ code. bad_holds before code p h)
      h

pub run-keeps : (script : List ℕ) → AllBytes script → (before : Card) (template : Option Template) (application domain : ℕ) (card : Card) → Holds before (start application) card
    → Holds before (run template script application domain card).state.step.session (run template script application domain card).state.card
unfolding run begun started
run-keeps script small before (Some (Definite at end)) application domain card h = run_holds script small before domain true (length script) at end (begun application card) h
run-keeps script small before (Some (Indefinite at end)) application domain card h = run_holds script small before domain false (length script) at end (begun application card) h
run-keeps script small before None application domain card h = h
