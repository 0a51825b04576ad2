-- A compact answer is written piece by piece: count, status, data. Assumes nothing.
use mathlib.Core.Path.{◌≡◌, sym, ap, ◌∙◌}
use mathlib.Core.List.{List, [], ◌∷◌, ◌++◌}
use Prim.Native.Nat.{ℕ, ◌+◌, ◌≤◌}
use native.Mathlib.Omega.{arith}
use lib.ListN.{length, replicate}
use Rattle.octets.specs.Bytes.{bytes2, overwrite}
use Rattle.octets.proofs.Writes.{write_two, write-length}
use Rattle.session.specs.Session.{most_waiting}
use Rattle.command.specs.declared.Step.{Step}
use Rattle.command.specs.Outcomes.{word_of, data_of, data_count}
use Rattle.command.specs.Promised.{OutcomeFits}
use Rattle.command.proofs.Outgoing.{data_length_lem}
use Rattle.compact.specs.Compact.{answer}

module _ (step : Step) (files : List ℕ) (fits : OutcomeFits (length files) step.outcome) (all : length step.session.waiting ≡ most_waiting) where
  counted : length (data_of step.outcome files step.session.waiting) ≡ data_count step.outcome
  counted = data_length_lem step.outcome files step.session.waiting fits all

  pub answer-length : length (answer step files) ≡ 3 + data_count step.outcome
  unfolding answer bytes2
  answer-length = let l = counted in omega arith

  pub answer_steps : (m m1 m2 m3 : List ℕ) (word : ℕ) → 3 + data_count step.outcome ≤ length m
      → m1 ≡ overwrite m 0 (replicate 1 step.count) → word ≡ word_of step.outcome → m2 ≡ overwrite m1 1 (bytes2 word)
      → m3 ≡ overwrite m2 3 (data_of step.outcome files step.session.waiting) → m3 ≡ overwrite m 0 (answer step files)
  unfolding answer bytes2
  answer_steps m m1 m2 m3 word room e1 w e2 e3 =
      let c = step.count ∷ [] in
      let b = bytes2 (word_of step.outcome) in
      let d = data_of step.outcome files step.session.waiting in
      let l = counted in
      let k : length (overwrite m 0 c) ≡ length m = write-length m 0 c (omega arith) in
      e3
      ∙ ap (λ x. overwrite x 3 d) (e2 ∙ ap (overwrite m1 1) (ap bytes2 w) ∙ ap (λ x. overwrite x 1 b) e1)
      ∙ sym (write_two (overwrite m 0 c) 1 b d (omega (arith, k)))
      ∙ sym (write_two m 0 c (b ++ d) (omega arith))
