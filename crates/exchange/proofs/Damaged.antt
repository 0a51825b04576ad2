-- "a damaged answer is refused with the place of its first bad byte": what is so of every good answer is so of a run's, which is good since it
-- is read back. Assumes that (`Each-read`), and nothing else.
use mathlib.Core.Path.{◌≡◌}
use Rattle.octets.specs.Choice.{pick}
use Rattle.octets.specs.Bytes.{AllBytes}
use Rattle.card.specs.Row.{Card}
use Rattle.engine.specs.Numbers.{Arguments}
use Rattle.engine.specs.Calls.{run}
use Rattle.engine.specs.Worked.{answer_of}
use Rattle.demands.specs.Called.{number}
use Rattle.answers.specs.Answers.{read_answer}
use Rattle.exchange.specs.ReadBack.{ReadBack}
use Rattle.exchange.specs.Damaged.{EachDamaged, CutExpanded, CutCompact}
use Rattle.exchange.proofs.FirstBad.{expanded-begun, compact-begun, first-bad}

pub cut_expanded_lem : CutExpanded
unfolding read_answer pick
cut_expanded_lem answer s n bytes = expanded-begun answer s n

pub cut_compact_lem : CutCompact
unfolding read_answer pick
cut_compact_lem answer s n bytes = compact-begun answer s n

pub each_damaged : ((a : Arguments) (c : Card) → AllBytes a.script → number (run a c) ≡ 0 → ReadBack a c) → EachDamaged
each_damaged Each-read format answer place bytes is =
    let first = first-bad format answer place is in
    record {
      inside = first.inside;
      none = λ l a c script accepted found e. first.none l (answer_of (run a c)) _ (rw found at (Each-read a c script accepted).read.summary) e;
    }
