-- What results and answers promise follows from their definitions alone: in an answer whose numbers are bytes every place is at most the
-- answer's length, and every number finds its room. Assumes nothing.
use mathlib.Core.Path.{◌≡◌}
use mathlib.Core.Bool.{Bool, true, false, not, ◌&&◌, ◌||◌}
use mathlib.Core.List.{List}
use mathlib.Core.Logic.{⊎_elim}
use Prim.Native.Nat.{ℕ, ◌+◌, ◌-◌, ◌≤◌, ◌<◌}
use native.Mathlib.Omega.{arith}
use lib.Dec.{leb, ltb, eqb}
use lib.ListN.{length}
use borrow.Author.Tests.{leb-true, leb-false, ltb-true, ltb-false, eqb-true, not-false}
use Rattle.std.specs.Prelude.{Option, Result, Ok, Err}
use Rattle.std.specs.Result.{result_ok}
use Rattle.octets.specs.Choice.{pick}
use Rattle.octets.specs.Bytes.{byte, AllBytes, num_at}
use Rattle.octets.proofs.Picks.{and_left, and_right, or_either, on_pick, either}
use Rattle.plan.specs.Plans.{most_read}
use Rattle.command.specs.declared.Format.TheVariants as formats
use Rattle.answers.specs.declared.words.Words.TheVariants as words
use Rattle.answers.specs.declared.results.Piece.{Piece}
use Rattle.answers.specs.declared.results.Piece.TheVariants as pieces
use Rattle.answers.specs.declared.turns.Turn.{Turn}
use Rattle.answers.specs.declared.Summary.{Summary}
use Rattle.answers.specs.Words.{has_data}
use Rattle.answers.specs.Results.{piece_at, compact_word, compact_data, data_fit, compact_told, compact_at, result_at}
use Rattle.answers.specs.Answers.{data_read, word_read, compact_read, first_turn, answered_by, results_read}
use Rattle.answers.specs.Answers.{count_read, count_sized, count_at, definite_sized, definite_read, indefinite_read, expanded_read, read_answer}
use Rattle.answers.specs.Promised.{SizedFits, ToldFits, AnsweredFits}
use Rattle.answers.proofs.Places.{there, or_first, WordedFits, word_fits, sized-fits}
use Rattle.answers.proofs.Places.{PieceFits, piece_fits, past_bad, ReadFits, turns_fit}

-- ---- a result on its own

piece_told-fits : (size at : ℕ) (piece : Result Piece ℕ) → PieceFits size at piece → ToldFits size at (result_ok piece)
unfolding PieceFits ToldFits
piece_told-fits size at (Ok (pieces.Result word from count)) fits =
    record { further = fits.further; inside = omega (arith, fits.inside); small = fits.small; few = fits.few }
piece_told-fits size at (Ok (pieces.BadFormat code place)) fits = fits.2
piece_told-fits size at (Err place) fits = tt

-- few data bytes can stand behind a word
data_few : (word count : ℕ) → data_fit word count ≡ true → count < 65536
unfolding data_fit most_read
data_few word count fit =
    ⊎_elim
    (λ e. omega (arith, eqb-true count 0 e))
    (λ e. omega (arith, leb-true count 256 (and_right (has_data word) (leb count 256) e)))
    (or_either (eqb count 0) (has_data word && leb count 256) fit)

compact_told-fits : (size end : ℕ) (w : Result ℕ ℕ) → end ≤ size → WordedFits size 0 compact_word w → ToldFits size compact_word (compact_told end w)
unfolding WordedFits ToldFits compact_told
compact_told-fits size end (Ok word) inside fits =
    on_pick (ToldFits size compact_word) (leb compact_data end && data_fit word (end - compact_data)) _ _
    (λ both.
    let least = leb-true 3 end (and_left (leb compact_data end) (data_fit word (end - compact_data)) both) in
    record {
      further = omega arith;
      inside = omega arith;
      small = fits.1;
      few = data_few word (end - compact_data) (and_right (leb compact_data end) (data_fit word (end - compact_data)) both);
    })
    (λ other. tt)
compact_told-fits size end (Err place) inside fits = tt

module _ (answer : List ℕ) (bytes : AllBytes answer) where
  expanded-told-fits : (end at : ℕ) → ToldFits (length answer) at (result_ok (piece_at answer true end at))
  unfolding ToldFits
  expanded-told-fits end at =
      ⊎_elim
      (λ here. piece_told-fits (length answer) at _ (piece_fits answer bytes at true end (ltb-true at (length answer) here)))
      (λ past. rw (past_bad answer at true end (ltb-false at (length answer) past)) tt)
      (either (ltb at (length answer)))

  pub told-fits : (format at end : ℕ) → ToldFits (length answer) at (result_at format answer at end)
  unfolding ToldFits result_at compact_at
  told-fits format at end =
      on_pick (ToldFits (length answer) at) (ltb (length answer) end) _ _ (λ past. tt)
      (λ inside.
      let h = ltb-false (length answer) end inside in
      on_pick (ToldFits (length answer) at) (eqb format 0) _ _
      (λ compact. on_pick (ToldFits (length answer) at) (eqb at compact_word) _ _
      (λ here. rw (eqb-true at compact_word here) (compact_told-fits (length answer) end _ h (word_fits answer bytes 0 compact_word words.Compact (omega arith) (omega arith))))
      (λ other. tt))
      (λ other. on_pick (ToldFits (length answer) at) (eqb format 1) _ _ (λ expanded. expanded-told-fits end at) (λ none. tt)))

  pub result_told :
      (format at end : ℕ) {r : Option Piece} → r ≡ result_at format answer at end → (r ≡ result_at format answer at end) × ToldFits (length answer) at r
  result_told format at end e = (e, rw e (told-fits format at end))

-- ---- answers

data_read-fits :
    (answer : List ℕ) → AllBytes answer → (word : ℕ) → compact_data ≤ length answer
    → AnsweredFits (length answer) (data_read answer word)
unfolding AnsweredFits data_read most_read
data_read-fits answer bytes word least =
    on_pick (AnsweredFits (length answer)) (ltb compact_data (length answer) && not (has_data word)) _ _ (λ other. least)
    (λ fit. on_pick (AnsweredFits (length answer)) (ltb (compact_data + most_read formats.Compact) (length answer)) _ _
    (λ more. omega (arith, ltb-true (compact_data + 256) (length answer) more))
    (λ whole. record { first = omega arith; end = omega arith; count = λ n signed size. omega (arith, bytes 0) }))

word_read-fits :
    (answer : List ℕ) → AllBytes answer → (w : Result ℕ ℕ) → WordedFits (length answer) 0 compact_word w
    → AnsweredFits (length answer) (word_read answer w)
unfolding WordedFits AnsweredFits word_read
word_read-fits answer bytes (Ok word) fits = data_read-fits answer bytes word fits.0
word_read-fits answer bytes (Err place) fits = fits.1

answered_by-fits :
    (size : ℕ) (definite : Bool) (count : ℕ) (t : Turn) (r : Result Turn ℕ) → ReadFits size t r → count ≤ 0x7FFF
    → AnsweredFits size (answered_by definite count t.at r)
unfolding ReadFits AnsweredFits answered_by
answered_by-fits size definite count t (Ok last) fits signed =
    record {
      first = fits.1;
      end = fits.0.inside;
      count = λ n two all. on_pick (λ (k : ℕ). k ≤ n) definite _ _ (λ ab. omega arith) (λ af. omega (arith, fits.0.inside, fits.0.seen));
    }
answered_by-fits size definite count t (Err place) fits signed = fits.1

module _ (answer : List ℕ) (bytes : AllBytes answer) where
  -- the results, from a place in the answer on
  results_fit :
      (definite : Bool) (end count first : ℕ) → first ≤ length answer → count ≤ 0x7FFF
      → AnsweredFits (length answer) (results_read answer definite end count first)
  unfolding results_read first_turn
  results_fit definite end count first inside signed =
      let start = first_turn first (pick definite count 1) in
      answered_by-fits (length answer) definite count start _
      (turns_fit answer bytes definite end (length answer + 1) start (record { inside = inside; seen = omega arith }))
      signed

  count_read-fits : (end n from : ℕ) → AnsweredFits (length answer) (count_read answer end n from)
  unfolding AnsweredFits count_read num_at
  count_read-fits end n from =
      on_pick (AnsweredFits (length answer)) (leb (length answer) from) _ _ (λ past. omega arith)
      (λ here.
      let h = leb-false (length answer) from here in
      on_pick (AnsweredFits (length answer)) (leb 0x80 (byte answer from)) _ _ (λ negative. omega arith)
      (λ count.
      let high = leb-false 0x80 (byte answer from) count in
      on_pick (AnsweredFits (length answer)) (eqb n 1) _ _
      (λ one. results_fit true end (byte answer from) (from + 1) (omega arith) (omega arith))
      (λ two. on_pick (AnsweredFits (length answer)) (leb (length answer) (from + 1)) _ _ (λ short. omega arith)
      (λ both.
      let g = leb-false (length answer) (from + 1) both in
      on_pick (AnsweredFits (length answer)) (eqb (byte answer from) 0 && ltb (byte answer (from + 1)) 0x80) _ _ (λ long. omega arith)
      (λ shortest. results_fit true end (num_at answer from) (from + 2) (omega arith) (omega (arith, bytes (from + 1))))))))

  count_sized-fits : (end at : ℕ) (s : Result (ℕ × ℕ) ℕ) → SizedFits (length answer) at s → AnsweredFits (length answer) (count_sized answer end s)
  unfolding SizedFits AnsweredFits count_sized
  count_sized-fits end at (Ok (n, from)) fits =
      on_pick (AnsweredFits (length answer)) (leb 1 n && leb n 2) _ _ (λ two. count_read-fits end n from) (λ other. omega arith)
  count_sized-fits end at (Err place) fits = fits.1

  count_fits : (end at : ℕ) → at ≤ length answer → AnsweredFits (length answer) (count_at answer end at)
  unfolding AnsweredFits count_at
  count_fits end at inside =
      on_pick (AnsweredFits (length answer)) (not (eqb (byte answer at) 0x80) || eqb (at + 1) end) _ _ (λ other. inside)
      (λ tag.
      let is = eqb-true (byte answer at) 0x80 (not-false _ (or_first (not (eqb (byte answer at) 0x80)) (eqb (at + 1) end) tag)) in
      let here = there answer at (omega arith) in
      count_sized-fits end (at + 1) _ (sized-fits answer (at + 1) (omega arith) bytes true end))

  definite_sized-fits : (s : Result (ℕ × ℕ) ℕ) → SizedFits (length answer) 1 s → AnsweredFits (length answer) (definite_sized answer s)
  unfolding SizedFits AnsweredFits definite_sized
  definite_sized-fits (Ok (n, from)) fits =
      on_pick (AnsweredFits (length answer)) (eqb n 0) _ _ (λ none. omega arith) (λ some. count_fits (from + n) from fits.1)
  definite_sized-fits (Err place) fits = fits.1

  expanded-fits : AnsweredFits (length answer) (expanded_read answer)
  unfolding AnsweredFits expanded_read definite_read indefinite_read
  expanded-fits =
      on_pick (AnsweredFits (length answer)) (eqb (byte answer 0) 0xAB) _ _
      (λ ab. definite_sized-fits _ (sized-fits answer 1 (there answer 0 (omega (arith, eqb-true (byte answer 0) 0xAB ab))) bytes false 0))
      (λ other. on_pick (AnsweredFits (length answer)) (eqb (byte answer 0) 0xAF) _ _
      (λ af. on_pick (AnsweredFits (length answer)) (eqb (byte answer 1) 0x80) _ _
      (λ indefinite. results_fit false 0 0 2 (there answer 1 (omega (arith, eqb-true (byte answer 1) 0x80 indefinite))) (omega arith))
      (λ none. there answer 0 (omega (arith, eqb-true (byte answer 0) 0xAF af))))
      (λ none. omega arith))

  compact-fits : AnsweredFits (length answer) (compact_read answer)
  unfolding AnsweredFits compact_read
  compact-fits =
      on_pick (AnsweredFits (length answer)) (eqb (byte answer 0) 0) _ _ (λ none. omega arith)
      (λ some. word_read-fits answer bytes _ (word_fits answer bytes 0 compact_word words.Compact (omega arith) (omega arith)))

  pub answered-fits : (format : ℕ) → AnsweredFits (length answer) (read_answer format answer)
  unfolding AnsweredFits read_answer
  answered-fits format =
      on_pick (AnsweredFits (length answer)) (eqb format 0) _ _ (λ compact. compact-fits)
      (λ other. on_pick (AnsweredFits (length answer)) (eqb format 1) _ _ (λ expanded. expanded-fits) (λ none. omega arith))

  pub answer_told :
      (format : ℕ) {r : Result Summary ℕ} → r ≡ read_answer format answer → (r ≡ read_answer format answer) × AnsweredFits (length answer) r
  answer_told format e = (e, rw e (answered-fits format))
