-- Each contract of a public function of this crate allows one result: whatever the arguments and the first contents of the lent memories,
-- two results that it allows are the same. Of `run` is seen the script's last step, every byte of table, files and journal, the gathered
-- R-APDUs, and how many bytes are kept and how many stand there for the last command; the buffer behind them is no part of it
-- (docs/PROMISES.md has it as an exception). Its length is that of the lent buffer. Assumes nothing.
use mathlib.Core.Path.{◌≡◌, sym, ◌∙◌, ap}
use mathlib.Core.List.{List}
use Prim.Native.Nat.{ℕ, ◌+◌, ◌≤◌}
use native.Mathlib.Omega.{arith}
use lib.ListN.{length}
use lib.Seq.{length-take-le}
use contract.Lifetimes.{Lfts}
use Rattle.octets.proofs.Determined.{Determined, by_equation, Pair, pair, both}
use Rattle.octets.proofs.Writes.{part_length}
use Rattle.card.specs.Lent.{held}
use Rattle.card.specs.Row.{Card}
use Rattle.expanded.specs.declared.run.Gathered.{Gathered}
use Rattle.expanded.specs.Expanded.{Progress, progress_of, room_to_gather}
use Rattle.expanded.proofs.answer.put_answer.Reads as put-answer
use Rattle.expanded.proofs.run.run.Reads as run

module _ (κs : Lfts 2) where
  pub put_answer_determined : Determined (put-answer.Learnt κs) (λ args a e. pair a e.0.now)
  put_answer_determined = by_equation (λ args a e h. both h.1 h.0)

-- what is seen of a script: its progress, and how many bytes of it are kept and how many are the last
abbrev seen : Gathered → Card → List ℕ → Pair Progress (Pair ℕ ℕ)
seen g card out = pair (progress_of g card out) (pair g.rapdus.kept g.rapdus.last)

abbrev counted : Progress → Pair Progress (Pair ℕ ℕ)
counted p = pair p (pair (length p.kept) (length p.last))

-- the numbers are those of the progress, in a buffer that has them all
by-progress : (g : Gathered) (card : Card) (out : List ℕ) {p : Progress} → progress_of g card out ≡ p → g.rapdus.kept + g.rapdus.last ≤ length out → seen g card out ≡ counted p
unfolding progress_of
by-progress g card out same fits =
    both same
    (both (sym (length-take-le g.rapdus.kept out (omega arith)) ∙ ap (λ p. length p.kept) same)
    (sym (part_length out g.rapdus.kept g.rapdus.last fits) ∙ ap (λ p. length p.last) same))

module _ (κs : Lfts 4) where
  pub run_determined :
      Determined (λ args a e. run.Learnt κs args a e × (length e.1.1.1.1.1.1.0.now ≡ room_to_gather))
      (λ args a e.
      let rest = e.1.1.1.1.1.1 in
      seen a (held rest.1.0.now) rest.0.now)
  run_determined =
      by_equation (λ args a e h.
      let rest = e.1.1.1.1.1.1 in
      let fits = h.0.0.1 in
      let room = h.1 in
      by-progress a (held rest.1.0.now) rest.0.now h.0.0.0 (omega arith))
