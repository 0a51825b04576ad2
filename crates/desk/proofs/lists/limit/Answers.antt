-- `desk::lists::limit` meets its contract: a text that is too long ends in the sign that no line has. Assumes nothing.
use mathlib.Core.Path.{refl, ◌∙◌}
use native.Mathlib.Omega.{arith}
use Rattle.octets.proofs.Picks.{le_yes, le_no}
use Rattle.octets.proofs.Writes.{set-write}
use Rattle.desk.specs.Lists.{most_text, limited_text}
use Rattle.desk.proofs.Printing.{cut}
use Rattle.desk.proofs.lists.limit.Goals as goal

pub returns-then-text-gt-MOST_TEXT : goal.returns-then-text-gt-MOST_TEXT
unfolding limited_text
returns-then-text-gt-MOST_TEXT c =
    le_no _ _ _ c.if-text-gt-MOST_TEXT.true (set-write c.args.text.now most_text 0 (omega arith) ∙ cut c.args.text.now most_text 0 c.requires)

pub returns-else-text-gt-MOST_TEXT : goal.returns-else-text-gt-MOST_TEXT
unfolding limited_text
returns-else-text-gt-MOST_TEXT c = le_yes _ _ _ c.if-text-gt-MOST_TEXT.false refl
