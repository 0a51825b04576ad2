-- What a desk and a card say to each other, in one statement: scripts are understood, answers are read back, and damage is seen.
use Rattle.std.specs.Prelude.{◌≡◌}
use Rattle.octets.specs.Bytes.{AllBytes}
use Rattle.card.specs.Row.{Card}
use Rattle.engine.specs.Numbers.{Arguments}
use Rattle.engine.specs.Calls.{run}
use Rattle.demands.specs.Called.{number}
use Rattle.exchange.specs.Understood.{EachUnderstood, OneList}
use Rattle.exchange.specs.ReadBack.{ReadBack}
use Rattle.exchange.specs.Damaged.{EachDamaged, CutExpanded, CutCompact}

pub record Exchange : Type 0 where
  -- "What the builder writes must be understood by the engine as exactly that list."
  pub understood : EachUnderstood
  pub one_list : OneList
  -- "What the engine answers must be read back to the same count, status words and data"
  pub read_back : (a : Arguments) (c : Card) → AllBytes a.script → number (run a c) ≡ 0 → ReadBack a c
  -- "and a damaged answer is refused with the place of its first bad byte"
  pub damaged : EachDamaged
  pub cut_expanded : CutExpanded
  pub cut_compact : CutCompact
