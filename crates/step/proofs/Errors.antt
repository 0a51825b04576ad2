-- "or with an error word, changing nothing": a plan that ends with an error word is that of a failed check, which writes nothing, makes
-- nothing and leaves the session; and so is one that the 1,000-byte rule stops. Assumes nothing.
use mathlib.Core.Path.{◌≡◌, refl, sym, ap, ◌∙◌}
use mathlib.Core.Bool.{Bool, false, false≢true}
use mathlib.Core.List.{List, [], ◌∷◌}
use Prim.Native.Nat.{ℕ}
use Rattle.octets.proofs.Picks.{on_pick}
use Rattle.card.specs.declared.Row.{Row}
use Rattle.std.specs.Prelude.{Option, Some, None}
use Rattle.journal.specs.Changes.{Write}
use Rattle.session.specs.declared.Standing.{Standing}
use Rattle.command.specs.declared.Format.{Format}
use Rattle.command.specs.declared.Format.TheVariants.{Compact, Expanded}
use Rattle.command.specs.declared.Command.{Command}
use Rattle.command.specs.declared.checks.Check.{Check}
use Rattle.command.specs.declared.checks.Check.TheVariants.{NotFound, AnswerTooLong}
use Rattle.command.specs.declared.Outcome.{Outcome}
use Rattle.command.specs.declared.Outcome.TheVariants.{Error}
use Rattle.command.specs.Outcomes.{is_error}
use Rattle.plan.specs.Ends.{Plan, failed, done, handed, produced}
use Rattle.plan.specs.Files.{File}
use Rattle.plan.specs.Plans.{Situation, select_entry, select, read_binary, update_binary, read_record, update_record, searched, search, increase, switch, get_response, done_by}
use Rattle.decide.specs.Decisions.{planned}
use Rattle.step.specs.Limits.{limited}
use Rattle.decide.proofs.Instructed.{of_planned, by-instruction}

module _ (s : Standing) where
  abbrev pub Still : Plan → Type 0
  Still p = (x : Check) → p.outcome ≡ Error x → p ≡ failed s x

  still_failed : (k : Check) → Still (failed s k)
  unfolding failed
  still_failed k x e = ap (λ (o : Outcome). record { session = s; outcome = o; made = []; writes = [] }) e

  -- what ends well
  still_well : (p : Plan) → is_error p.outcome ≡ false → Still p
  still_well p well x e = absurd (false≢true (sym well ∙ ap is_error e))

  still_done : (s' : Standing) (word : ℕ) (ws : List Write) → Still (done s' word ws)
  unfolding done
  still_done s' word ws = still_well (done s' word ws) refl

  still_handed : (s' : Standing) (word place n : ℕ) → Still (handed s' word place n)
  unfolding handed
  still_handed s' word place n = still_well (handed s' word place n) refl

  still_produced : (format : Format) (s' : Standing) (word : ℕ) (d : List ℕ) (ws : List Write) → Still (produced format s' word d ws)
  unfolding produced
  still_produced Compact s' word d ws = still_well (produced Compact s' word d ws) refl
  still_produced Expanded s' word d ws = still_well (produced Expanded s' word d ws) refl

  still_select : (format : Format) (p2 : ℕ) (r : Row) (found : Option ℕ) → Still (select format s p2 r found)
  unfolding select select_entry
  still_select format p2 r (Some e) = on_pick Still _ _ _ (λ y. still_done _ _ _) (λ y. still_produced format _ _ _ _)
  still_select format p2 r None = still_failed NotFound

  still_read : (format : Format) (c : Command) (f : File) → Still (read_binary format c s f)
  unfolding read_binary
  still_read format c f = on_pick Still _ _ _ (λ y. still_handed _ _ _ _) (λ y. on_pick Still _ _ _ (λ y. still_handed _ _ _ _) (λ y. still_handed _ _ _ _))

  still_searched : (format : Format) (ns : List ℕ) → Still (searched format s ns)
  unfolding searched
  still_searched format [] = still_done s _ _
  still_searched format (n ∷ ns) = still_produced format _ _ _ _

  still_response : (c : Command) → Still (get_response c s)
  unfolding get_response
  still_response c = still_well (get_response c s) refl

module _ (w : Situation) where
  abbrev s : Standing
  s = w.session

  still_by : (i : ℕ) → Still s (done_by i w)
  unfolding update_binary read_record update_record search increase switch
  still_by i =
      by-instruction (Still s) w i
      (λ _. still_select s w.format w.command.p2 w.row w.found)
      (λ _. still_read s w.format w.command w.file)
      (λ _. still_done s _ _ _)
      (λ _. still_handed s _ _ _ _)
      (λ _. on_pick (Still s) _ _ _ (λ _. still_done s _ _ _) (λ _. still_done s _ _ _))
      (λ _. still_searched s w.format _)
      (λ _. still_produced s w.format _ _ _ _)
      (λ _. still_done s _ _ _)
      (λ _. still_done s _ _ _)
      (λ _. still_response s w.command)

  pub error_still : Still s (planned w)
  error_still = of_planned (Still s) w (λ k h. still_failed s k) (λ _. still_by w.command.instruction)

  pub limited_still : (kept : ℕ) (counts : Bool) → Still s (limited kept counts s (planned w))
  unfolding limited
  limited_still kept counts = on_pick (Still s) _ _ _ (λ _. still_failed s AnswerTooLong) (λ _. error_still)
