-- One C-APDU of a script more: what it comes to is a good reply, its R-APDU has room behind those kept, and where it goes on, the next
-- one starts from what it did itself (`Goes`).
-- The plan under the 1,000-byte rule fits the card (`limited_fit`), which gives the word and where the data lie; the rule gives the room
-- (`step-told`); and session and card hold as before (`limited_holds`). Assumes nothing.
use Prim.Native.Nat.{ℕ, ◌+◌, ◌≤◌, ◌<◌}
use mathlib.Core.Path.{◌≡◌, refl, ap, ◌∙◌}
use mathlib.Core.Bool.{Bool, true, false}
use mathlib.Core.List.{List}
use native.Mathlib.Omega.{arith}
use lib.Dec.{eqb}
use lib.ListN.{length, length-append}
use borrow.Author.Tests.{eqb-false}
use Rattle.octets.specs.Choice.{pick}
use Rattle.octets.specs.Bytes.{byte, part}
use Rattle.octets.proofs.Picks.{on_pick}
use Rattle.card.specs.Row.{Card}
use Rattle.journal.proofs.Parts.{card-table}
use Rattle.session.specs.declared.Standing.{Standing}
use Rattle.command.specs.declared.Format.TheVariants.{Expanded}
use Rattle.command.specs.declared.Reading.{Reading}
use Rattle.command.specs.Outcomes.{word_of, data_of, data_count, goes_on}
use Rattle.command.specs.Promised.{OutcomeFits}
use Rattle.command.proofs.Says.{Says}
use Rattle.command.proofs.Outgoing.{data_length_lem, data_few}
use Rattle.step.specs.Limits.{rapdu_size, most_kept}
use Rattle.step.specs.Steps.{State, carried_out, stepped, commanded}
use Rattle.step.proofs.Keeps.{Holds}
use Rattle.step.proofs.Apart.{limited_fit}
use Rattle.expanded.specs.Capdu.{capdu_command}
use Rattle.expanded.specs.Expanded.{Progress, keeps, room_to_gather, answered, last_rapdu, step_capdu}
use Rattle.expanded.proofs.Limited.{step-told}
use Rattle.expanded.proofs.Runs.{Kept, brief, limited_holds, capdu_holds}
use Rattle.expanded.proofs.Written.{rapdu-length}
use Rattle.answers.specs.declared.words.Words.{Words}
use Rattle.answers.specs.Words.{is_word}
use Rattle.answers.specs.Results.{words_behind}
use Rattle.exchange.specs.ReadBack.{last_reply}
use Rattle.exchange.proofs.Replies.{GoodReply}
use Rattle.exchange.proofs.GoodWords.{words_of, says_known, says_data}

-- what a script is between two of its commands
pub record Goes (before : Card) (p : Progress) : Type 0 where
  pub holds : Kept before p
  pub few : length p.kept ≤ most_kept

-- what a C-APDU came to whose R-APDU, behind `kept` bytes, counts or not
pub record Ran (kept : List ℕ) (counts : Bool) (st : State) : Type 0 where
  pub good : (last : Bool) → (last ≡ false → goes_on (word_of st.step.outcome) ≡ true) → GoodReply last (last_reply st)
  pub room : length kept + length (last_rapdu st.step st.card.files) ≤ room_to_gather
  pub few : counts ≡ true → goes_on (word_of st.step.outcome) ≡ true → length kept + length (last_rapdu st.step st.card.files) ≤ most_kept

-- what it hands out, by the facts of its outcome
module _ (st : State) (says : Says Expanded st.step.outcome) (fits : OutcomeFits (length st.card.files) st.step.outcome) {before : Card} (holds : Holds before st.step.session st.card) where
  abbrev handed : List ℕ
  handed = data_of st.step.outcome st.card.files st.step.session.waiting

  handed-length : length handed ≡ data_count st.step.outcome
  handed-length = data_length_lem st.step.outcome st.card.files st.step.session.waiting fits holds.waiting

  word-behind : is_word (words_behind (length handed)) (word_of st.step.outcome) ≡ true
  unfolding words_behind words_of is_word
  word-behind =
      on_pick (λ (ws : Words). is_word ws (word_of st.step.outcome) ≡ true) (eqb (length handed) 0) _ _
      (λ none. (says_known Expanded st.step.outcome says).word)
      (λ some. says_data Expanded st.step.outcome says (omega (arith, handed-length, eqb-false (length handed) 0 some)))

  handed-good : (last : Bool) → (last ≡ false → goes_on (word_of st.step.outcome) ≡ true) → GoodReply last (last_reply st)
  unfolding last_reply GoodReply
  handed-good last goes =
      record {
        short = omega (arith, handed-length, data_few st.step.outcome (length st.card.files) fits);
        word = word-behind;
        goes = goes;
      }

  rapdu_size_lem : length (last_rapdu st.step st.card.files) ≡ rapdu_size (data_count st.step.outcome)
  unfolding last_rapdu
  rapdu_size_lem = rapdu-length handed (word_of st.step.outcome) ∙ ap rapdu_size handed-length

-- the C-APDU
module _ (definite : Bool) (domain : ℕ) (bytes : List ℕ) (p : Progress) where
  abbrev reading : Reading
  reading = capdu_command bytes

  abbrev counts : Bool
  counts = keeps definite reading.command.case

  -- the state after it
  abbrev pub ran : State
  ran =
      stepped p.state
      (commanded Expanded domain reading.command (part bytes reading.from reading.size) p.state.step.session (length p.kept) counts p.state.card)

  pub same_end : goes_on (word_of (step_capdu definite domain bytes p).state.step.outcome) ≡ goes_on (word_of ran.step.outcome)
  unfolding step_capdu answered
  same_end = on_pick (λ (q : Progress). goes_on (word_of q.state.step.outcome) ≡ goes_on (word_of ran.step.outcome)) counts _ _ (λ y. refl) (λ n. refl)

  module _ (before : Card) (small : byte bytes 4 < 256) (g : Goes before p) where
    abbrev its : Standing
    its = p.state.step.session.standing

    ran_holds : Holds before ran.step.session ran.card
    unfolding stepped capdu_command
    ran_holds = limited_holds before p.state.step.session p.state.card g.holds domain _ _ (brief bytes reading.from small) _ _

    ran_says : Says Expanded ran.step.outcome
    unfolding stepped carried_out capdu_command
    ran_says =
        (limited_fit Expanded domain reading.command _ its p.state.card (card-table p.state.card g.holds.sound) g.holds.good (brief bytes reading.from small) refl (length p.kept) counts).says

    ran_told : OutcomeFits (length ran.card.files) ran.step.outcome
        × (length p.kept + rapdu_size (data_count ran.step.outcome) ≤ room_to_gather)
        × (counts ≡ true → goes_on (word_of ran.step.outcome) ≡ true → length p.kept + rapdu_size (data_count ran.step.outcome) ≤ most_kept)
    unfolding stepped capdu_command
    ran_told =
        step-told (length p.kept) counts its g.few p.state.card g.holds.sound g.holds.good domain reading.command _ (brief bytes reading.from small) small p.state.step.session.waiting refl definite refl

    pub ran_so : Ran p.kept counts ran
    ran_so =
        let e = rapdu_size_lem ran ran_says ran_told.0 ran_holds in
        record {
          good = handed-good ran ran_says ran_told.0 ran_holds;
          room = rw e ran_told.1;
          few = λ y on. rw e (ran_told.2 y on);
        }

    -- where it goes on, the next one starts as it did
    kept-few : (c : Bool) (st : State) (r : List ℕ) → (c ≡ true → length p.kept + length r ≤ most_kept) → length (answered c st p.kept r).kept ≤ most_kept
    unfolding answered pick
    kept-few true st r h = rw length-append (h refl)
    kept-few false st r h = g.few

    pub goes_on_lem : goes_on (word_of ran.step.outcome) ≡ true → Goes before (step_capdu definite domain bytes p)
    unfolding step_capdu
    goes_on_lem on =
        record {
          holds = capdu_holds before definite domain bytes p small g.holds;
          few = kept-few counts ran (last_rapdu ran.step ran.card.files) (λ y. ran_so.few y on);
        }
