-- `journal::back::take_back` meets its contract: what the card's soundness tells, and then the steps one after the other. Assumes nothing.
use Prim.Native.Nat.{◌+◌, ◌≤◌}
use mathlib.Core.Bool.{true}
use mathlib.Core.Path.{◌≡◌}
use native.Mathlib.Omega.{arith}
use lib.ListN.{length}
use Rattle.card.specs.Row.{Card}
use Rattle.card.specs.Lent.{held}
use Rattle.journal.specs.Entries.{used_bytes}
use Rattle.journal.specs.Sound.{sound_card}
use Rattle.journal.proofs.Pushed.{own_used, own_scripts}
use Rattle.journal.proofs.Parts.{used-inside, card_parts}
use Rattle.journal.proofs.Steps.{take_back-ready, take_back_steps}
use Rattle.journal.proofs.back.take_back.Goals as goal

inside : (k : Card) → sound_card k ≡ true → 4 + used_bytes k.journal ≤ length k.journal
inside k s = used-inside _ _ _ (card_parts k s)

pub head_of-head-requires : goal.head_of-head-requires
head_of-head-requires c = omega (arith, inside (held c.args.card.now) c.requires.0)

pub restore_to_mark-u-requires : goal.restore_to_mark-u-requires
restore_to_mark-u-requires c =
    take_back-ready (held c.args.card.now) c.requires.0 c.head_of-head.ensures.0 c.requires.1

pub overflow_sub-head : goal.overflow_sub-head
overflow_sub-head c =
    omega (arith, own_scripts _ c.head_of-head.ensures.0, c.requires.1)

pub put_head-requires : goal.put_head-requires
put_head-requires c = omega (arith, inside (held c.args.card.now) c.requires.0)

pub fill-requires : goal.fill-requires
fill-requires c =
    omega (arith, inside (held c.args.card.now) c.requires.0, own_used _ c.head_of-head.ensures.0, c.restore_to_mark-u.ensures.2, c.put_head.auto.m)

pub returns-clause-taken_back : goal.returns-clause-taken_back
returns-clause-taken_back c =
    let r = c.restore_to_mark-u.ensures in
    take_back_steps (held c.args.card.now) c.requires.0 c.head_of-head.ensures.0 r.0 r.1 (omega (arith, r.2)) c.put_head.ensures c.fill.ensures
