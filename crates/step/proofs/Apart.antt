-- What one command leaves alone: the bytes of every entry that belongs to another root than the session's, in the table and in the file
-- memory; and where it reads: in the current file. First, what stops a script: the word of a command does just where it is an error.
-- A plan writes into bytes of its own root's entries and keeps the root (`Fit`). Rows keep where a file lies and whose it is, so what
-- is another's on the card before the script is another's on the card before the command, and lies at the same place
-- (`same_bytes`): so it stays (`perform_leaves`), and what stayed under every command so far stays under one more.
-- Assumes nothing.
use mathlib.Core.Path.{◌≡◌, refl, sym, ap, subst, ◌∙◌}
use mathlib.Core.Bool.{Bool, true, not}
use mathlib.Core.List.{List}
use Prim.Native.Nat.{ℕ, ◌+◌, ◌≤◌, ◌<◌}
use lib.ListN.{length}
use Rattle.octets.specs.Bytes.{part}
use Rattle.octets.proofs.Picks.{on_pick}
use Rattle.card.specs.declared.Row.{Row}
use Rattle.card.specs.Row.{Card, entries}
use Rattle.card.specs.Sound.{sound_table}
use Rattle.card.specs.Tree.{root_of}
use Rattle.card.proofs.Kept.{Rows, rows_same, rows_both}
use Rattle.journal.specs.declared.Memory.{Memory}
use Rattle.journal.specs.declared.Memory.TheVariants.{Files, Table}
use Rattle.journal.specs.Changes.{memory_of, perform}
use Rattle.journal.proofs.Kept.{perform_alike}
use Rattle.session.specs.declared.Standing.{Standing}
use Rattle.session.specs.Session.{start_standing}
use Rattle.session.specs.Good.{Good}
use Rattle.session.proofs.Good.{root_kept}
use Rattle.command.specs.declared.Format.{Format}
use Rattle.command.specs.declared.Format.TheVariants.{Expanded}
use Rattle.command.specs.declared.Command.{Command}
use Rattle.command.specs.declared.checks.Check.TheVariants.{AnswerTooLong}
use Rattle.command.specs.declared.Outcome.{Outcome}
use Rattle.command.specs.declared.Outcome.TheVariants.{Well, FromFiles, FromWaiting, Error}
use Rattle.command.specs.Outcomes.{word_of, is_error, goes_on}
use Rattle.command.proofs.Says.{says_stops}
use Rattle.plan.specs.Ends.{Plan}
use Rattle.plan.proofs.Own.{place_in, size_in, ReadsOwn, perform_leaves}
use Rattle.plan.proofs.Fit.{Fit, fit_failed}
use Rattle.decide.specs.Decisions.{situation, planned}
use Rattle.decide.proofs.Planned.{planned_fit}
use Rattle.step.specs.Limits.{limited}
use Rattle.step.specs.Steps.{State, started, carried_out, stepped}

-- the plan of a command, also where it is held to the 1,000 bytes; it stops its script just where it ends with an error
module _ (format : Format) (domain : ℕ) (c : Command) («data» : List ℕ) (s : Standing) (card : Card) (sound : sound_table card.table card.files ≡ true) (good : Good card.table s) (brief : length «data» ≤ 255) where
  abbrev plan : Plan
  plan = planned (situation format domain c «data» s card)

  pub limited_fit : format ≡ Expanded → (kept : ℕ) (counts : Bool) → Fit format card s.root c (limited kept counts s plan)
  unfolding limited
  limited_fit here kept counts =
      on_pick (Fit format card s.root c) _ _ _
      (λ y. fit_failed card c s good format AnswerTooLong (λ e. here))
      (λ n. planned_fit format domain c «data» s card sound good brief)

  pub planned_stops : goes_on (word_of plan.outcome) ≡ not (is_error plan.outcome)
  planned_stops = says_stops format _ (planned_fit format domain c «data» s card sound good brief).says

  pub limited_stops : format ≡ Expanded → (kept : ℕ) (counts : Bool) → goes_on (word_of (limited kept counts s plan).outcome) ≡ not (is_error (limited kept counts s plan).outcome)
  limited_stops here kept counts = says_stops format _ (limited_fit here kept counts).says

-- the bytes of an entry of a table, in a memory of a card
abbrev pub own_bytes : Memory → List ℕ → ℕ → Card → List ℕ
own_bytes m t d card = part (memory_of m card) (place_in m t d) (size_in m t d)

-- rows keep where the bytes of an entry lie, and so what an outcome reads
module _ (t u : List ℕ) (rows : Rows t u) where
  place_same : (m : Memory) (d : ℕ) → place_in m u d ≡ place_in m t d
  place_same Files d = ap (λ (r : Row). r.start) (rows.alike d)
  place_same Table d = refl

  size_same : (m : Memory) (d : ℕ) → size_in m u d ≡ size_in m t d
  size_same Files d = ap (λ (r : Row). r.size) (rows.alike d)
  size_same Table d = refl

  same_bytes : (m : Memory) (d : ℕ) (card : Card) → own_bytes m u d card ≡ own_bytes m t d card
  same_bytes m d card = λ i. part (memory_of m card) (place_same m d i) (size_same m d i)

  reads_kept : (file : ℕ) (o : Outcome) → ReadsOwn t file o → ReadsOwn u file o
  unfolding ReadsOwn
  reads_kept file (Well word) h = tt
  reads_kept file (FromFiles word place n) h =
      subst (λ (r : Row). (1 ≤ file) × (r.start ≤ place) × (place + n ≤ r.start + r.size)) (sym (rows.alike file)) h
  reads_kept file (FromWaiting word n) h = tt
  reads_kept file (Error k) h = tt

-- a script of a root after some commands, beside the card before them
pub record Apart (root : ℕ) (before : Card) (st : State) : Type 0 where
  pub rows : Rows before.table st.card.table
  pub stays : st.step.session.standing.root ≡ root
  pub others : (m : Memory) (d : ℕ) → d < entries before.table → (root_of before.table d ≡ root → ⊥) → own_bytes m before.table d st.card ≡ own_bytes m before.table d before
  pub reads : ReadsOwn st.card.table st.step.session.standing.file st.step.outcome

pub starts_apart : (application : ℕ) (card : Card) → Apart application card (started application card)
unfolding started start_standing ReadsOwn
starts_apart application card = record { rows = rows_same card.table; stays = refl; others = λ m d there other. refl; reads = tt }

-- one command more
module _ (root : ℕ) (before : Card) (st : State) (h : Apart root before st) (sound : sound_table st.card.table st.card.files ≡ true) where
  abbrev card : Card
  card = st.card

  pub plan_apart : {format : Format} {c : Command} (p : Plan) → Fit format card st.step.session.standing.root c p → Apart root before (stepped st (carried_out p st.step.session.waiting card))
  unfolding stepped carried_out
  plan_apart {format} {c} p fits =
      let fit = subst (λ (k : ℕ). Fit format card k c p) h.stays fits in
      let after = (perform_alike p.writes card sound fit.forms).rows in
      let t = before.table in
      record {
        rows = rows_both t card.table (perform p.writes card).table h.rows after;
        stays = fit.stays;
        others = λ m d there other.
            sym (same_bytes t card.table h.rows m d (perform p.writes card))
            ∙ perform_leaves card sound root d (rw h.rows.same_entries there) (λ e. other (sym (root_kept t card.table h.rows d) ∙ e)) p.writes fit.own m
            ∙ same_bytes t card.table h.rows m d card
            ∙ h.others m d there other;
        reads = reads_kept card.table (perform p.writes card).table after p.session.file p.outcome fit.reads;
      }
