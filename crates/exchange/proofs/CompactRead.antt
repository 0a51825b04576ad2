-- A compact answer is read back: its count, and its one word with its data.
-- An answer of a count, a word that the reader takes, and data that can stand behind it is read (`answer-read`): each test of the reader
-- is known. And a compact run ends with such a word and such data: its last command's plan fits the card, as each plan does
-- (`run-says`), and its count is not 0, since a script of a byte or more has a first command. Assumes nothing.
use Prim.Native.Nat.{ℕ, zero, suc, ◌+◌, ◌-◌, ◌*◌, ◌/◌, ◌%◌, ◌≤◌}
use mathlib.Core.Path.{◌≡◌, refl, sym, ap, subst, ◌∙◌}
use mathlib.Core.Bool.{Bool, true, false, not, ◌&&◌, ◌||◌}
use mathlib.Core.List.{List, [], ◌∷◌, ◌++◌}
use mathlib.Core.Logic.{inl}
use native.Mathlib.Omega.{arith}
use lib.Dec.{leb, ltb, eqb}
use lib.ListN.{length}
use lib.Seq.{take-length}
use borrow.Author.Tests.{ltb-true, ltb-false, le-leb, eqb-false}
use Rattle.std.specs.Prelude.{Some, None, Ok}
use Rattle.octets.specs.Bytes.{AllBytes, part, num_at, bytes2}
use Rattle.octets.proofs.Picks.{yes, no, lt_no, le_no, eq_yes, eq_no, on_test, and_both}
use Rattle.card.specs.Row.{Card}
use Rattle.journal.specs.Promised.{Starts}
use Rattle.journal.specs.Changes.{taken_back}
use Rattle.journal.proofs.Parts.{card-table}
use Rattle.command.specs.declared.Format.TheVariants.{Compact}
use Rattle.command.specs.Outcomes.{word_of, data_of}
use Rattle.command.proofs.Says.{Says}
use Rattle.command.proofs.Outgoing.{data_length_lem}
use Rattle.plan.specs.Plans.{most_read}
use Rattle.decide.proofs.Planned.{planned_fit}
use Rattle.step.specs.Steps.{State, started, carried_out, stepped}
use Rattle.step.proofs.Keeps.{starts_holds}
use Rattle.compact.specs.Compact as compact
use Rattle.compact.specs.Compact.{read_at, step_read, step_at}
use Rattle.compact.proofs.Runs.{on_run, brief, Kept, step_holds, run-keeps}
use Rattle.compact.proofs.Fits.{outcome-inside}
use Rattle.demands.specs.Commands.{after, Read, commands_from, commands_of, command_done, word_goes_on, states_after}
use Rattle.demands.proofs.Commands.{compact-runs}
use Rattle.answers.specs.declared.words.Words.TheVariants as words
use Rattle.answers.specs.declared.results.Piece.TheVariants.{Result}
use Rattle.answers.specs.Words.{has_data, is_word, begins_word, word_at}
use Rattle.answers.specs.Results.{data_fit, compact_told, compact_at, result_at}
use Rattle.answers.specs.Answers.{data_read, word_read, compact_read, read_answer}
use Rattle.exchange.specs.ReadBack.{replied, told_from, last_reply, IsRead}
use Rattle.exchange.proofs.GoodWords.{words_of, Known, says_known, says_data}

-- ---- an answer

-- the reader's results one by one: one more, and none
module _ (n format : ℕ) (answer : List ℕ) (at end : ℕ) where
  told_result : (word from count : ℕ) → result_at format answer at end ≡ Some (Result word from count)
      → told_from (suc n) format answer at end ≡ replied word (part answer from count) ∷ told_from n format answer (from + count + 2) end
  unfolding told_from
  told_result word from count e = rw (told_from, e)

  told-end : result_at format answer at end ≡ None → told_from (suc n) format answer at end ≡ []
  unfolding told_from
  told-end e = rw (told_from, e)

module _ (count word : ℕ) (d : List ℕ) (some : 1 ≤ count) (known : Known Compact word) (behind : 1 ≤ length d → has_data word ≡ true) (few : length d ≤ most_read Compact) where
  abbrev answer : List ℕ
  answer = count ∷ (word / 256 % 256) ∷ (word % 256) ∷ d

  word_at_lem : word_at words.Compact answer 1 ≡ Ok word
  unfolding word_at words_of num_at
  word_at_lem =
      let small = known.small in
      let e : (word / 256 % 256) * 256 + word % 256 ≡ word = omega arith in
      sym
      (le_no (length answer) 1 _ (omega arith)
      (no (not (begins_word words.Compact (word / 256 % 256))) _ (rw known.begins)
      (le_no (length answer) 2 _ (omega arith)
      (yes (is_word words.Compact ((word / 256 % 256) * 256 + word % 256)) _ (rw e known.word) (ap Ok (sym e))))))

  not_bare : (b : Bool) → ltb 3 (length answer) ≡ b → (b && not (has_data word)) ≡ false
  not_bare true e = rw (behind (let l = ltb-true 3 (length answer) e in omega arith))
  not_bare false e = refl

  summary : read_answer 0 answer ≡ Ok (record { count = count; first = 1; end = length answer })
  unfolding read_answer compact_read word_read data_read most_read
  summary =
      sym
      (eq_yes 0 0 _ refl
      (eq_no count 0 _ (λ z. omega arith)
      (subst (λ w. Ok (record { count = count; first = 1; end = length answer }) ≡ word_read answer w) (sym word_at_lem)
      (no (ltb 3 (length answer) && not (has_data word)) _ (not_bare (ltb 3 (length answer)) refl)
      (lt_no 259 (length answer) _ (omega arith) refl)))))

  fits : (b : Bool) → eqb (length d) 0 ≡ b → (b || (has_data word && leb (length d) 256)) ≡ true
  unfolding most_read
  fits true e = refl
  fits false e = and_both _ _ (behind (omega (arith, eqb-false (length d) 0 e))) (le-leb (length d) 256 few)

  the_result : result_at 0 answer 1 (length answer) ≡ Some (Result word 3 (length d))
  unfolding result_at compact_at compact_told data_fit most_read
  the_result =
      sym
      (lt_no (length answer) (length answer) _ (omega arith)
      (eq_yes 0 0 _ refl
      (eq_yes 1 1 _ refl
      (subst (λ w. Some (Result word 3 (length d)) ≡ compact_told (length answer) w) (sym word_at_lem)
      (let e : length answer - 3 ≡ length d = omega arith in
      yes (leb 3 (length answer) && data_fit word (length answer - 3)) _ (and_both _ _ (le-leb 3 (length answer) (omega arith)) (rw e (fits (eqb (length d) 0) refl))) (rw e))))))

  nothing_more : (at : ℕ) → 2 ≤ at → result_at 0 answer at (length answer) ≡ None
  unfolding result_at compact_at
  nothing_more at more =
      sym (lt_no (length answer) (length answer) _ (omega arith) (eq_yes 0 0 _ refl (eq_no at 1 _ (λ e. omega arith) refl)))

  pub answer-read : IsRead 0 (count ∷ (bytes2 word ++ d)) count (replied word d ∷ [])
  unfolding bytes2
  answer-read =
      record {
        first = 1;
        end = length answer;
        summary = summary;
        results =
            told_result (suc (suc (length d))) 0 answer 1 (length answer) word 3 (length d) the_result
            ∙ (λ i. replied word (take-length d i) ∷ told-end (suc (length d)) 0 answer (3 + length d + 2) (length answer) (nothing_more (3 + length d + 2) (omega arith)) i);
      }

-- ---- a run

module _ (script : List ℕ) (small : AllBytes script) (before : Card) (domain : ℕ) where
  abbrev Speaks : State → Type 0
  Speaks st = Kept before st × Says Compact st.step.outcome

  step-says : (at : ℕ) (st : State) → Speaks st → Speaks (step_at script domain at st)
  unfolding step_read stepped carried_out
  step-says at st h =
      let s = st.step.session.standing in (
        step_holds script small before domain at st h.0,
        (planned_fit Compact domain (read_at script at).command _ s st.card (card-table st.card h.0.sound) h.0.good (brief script small at)).says,
      )

  run-says : (application : ℕ) (card : Card) → Kept before (started application card) → Says Compact (compact.run script application domain card).step.outcome
  unfolding compact.run started Says
  run-says application card h = (on_run Speaks script domain step-says (length script) 0 (started application card) (h, inl (inl refl))).1

-- a script of a byte or more has a first command, which runs
some-run : (script : List ℕ) (domain n : ℕ) (st : State) → 1 ≤ n → 1 ≤ length script → 1 ≤ length (after (command_done domain) word_goes_on st (commands_from n script 0))
unfolding after commands_from
some-run script domain zero st more some = absurd (omega arith)
some-run script domain (suc n) st more some =
    on_test (λ (l : List Read). 1 ≤ length (after (command_done domain) word_goes_on st l)) (ltb 0 (length script)) _ []
    (λ _. omega arith)
    (λ none. absurd (let l = ltb-false 0 (length script) none in omega arith))

counted : (script : List ℕ) → 1 ≤ length script → (application domain : ℕ) (card : Card) → 1 ≤ (compact.run script application domain card).step.count
unfolding states_after commands_of
counted script some application domain card =
    rw (compact-runs script application domain card).count (some-run script domain (length script) (started application card) some some)

pub run-read : (script : List ℕ) → AllBytes script → 1 ≤ length script → (application domain : ℕ) (card : Card) → Starts card application
    → let st : State = compact.run script application domain card in
    IsRead 0 (compact.answer st.step st.card.files) st.step.count (last_reply st ∷ [])
unfolding compact.answer last_reply
run-read script small some application domain card starts =
    let st : State = compact.run script application domain card in
    let holds = starts_holds card application starts in
    let inside = outcome-inside script small (taken_back card) application domain card holds in
    let says = run-says script small (taken_back card) domain application card (unfold started in holds) in
    let l = data_length_lem st.step.outcome st.card.files st.step.session.waiting inside.fits (run-keeps script small (taken_back card) application domain card holds).waiting in
    answer-read st.step.count (word_of st.step.outcome) (data_of st.step.outcome st.card.files st.step.session.waiting)
    (counted script some application domain card)
    (says_known Compact st.step.outcome says)
    (λ more. says_data Compact st.step.outcome says (omega (arith, l, more)))
    (omega (arith, l, inside.few))
