-- `engine::confirm` meets its contract: each `return` is a case of `confirm`. Assumes nothing.
use mathlib.Core.Path.{sym, ap, ◌∙◌}
use mathlib.Core.List.{List, []}
use Prim.Native.Nat.{ℕ}
use native.Mathlib.Omega.{arith}
use Rattle.octets.proofs.Picks.{told}
use Rattle.card.specs.Row.{lent}
use Rattle.journal.specs.Entries.{room}
use Rattle.journal.specs.Changes.{with_journal, confirmed}
use Rattle.journal.proofs.Parts.{card_parts}
use Rattle.engine.specs.Numbers.{numbered}
use Rattle.engine.specs.Calls.{gives}
use Rattle.engine.proofs.Answers.{number-fits, confirm_unsound, confirm-done}
use Rattle.engine.proofs.confirm.Goals as goal

pub returns-then-not-sound_card : goal.returns-then-not-sound_card
returns-then-not-sound_card c =
    (sym (confirm_unsound _ (told c.sound_card.ensures c.if-not-sound_card.true)), number-fits 1 (omega arith))

pub confirm-requires : goal.confirm-requires
unfolding room
confirm-requires c =
    let a = c.args in
    let parts = card_parts (lent a.table.now a.files.now a.journal.now) (told c.sound_card.ensures c.if-not-sound_card.false) in
    (omega arith, parts.rest)

pub returns : goal.returns
unfolding with_journal confirmed
returns c =
    let a = c.args in (
      ap (λ (j : List ℕ). gives (numbered 0) (lent a.table.now a.files.now j) []) c.confirm.ensures
          ∙ sym (confirm-done (lent a.table.now a.files.now a.journal.now) (told c.sound_card.ensures c.if-not-sound_card.false)),
      number-fits 0 (omega arith),
    )
