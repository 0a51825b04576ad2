-- `engine::take_back` meets its contract: each `return` is a case of `take_back`.
-- The two tests are those of the numbers 1 and 7, in their order. Past the first the card is sound (`sound`), and the head that is
-- read says how many scripts are on trial (`scripts`); past the second there is one. These two facts are what the take-back of the
-- journal asks. The three ends are the three cases of the definition: `back_unsound`, `back_none`, `back_done`. Assumes nothing.
use mathlib.Core.Path.{sym, ap, ◌∙◌}
use mathlib.Core.List.{[]}
use native.Mathlib.Omega.{arith}
use Rattle.octets.proofs.Picks.{told}
use Rattle.card.specs.Lent.{held}
use Rattle.card.specs.Row.{Card}
use Rattle.journal.proofs.Pushed.{own_scripts}
use Rattle.journal.proofs.Parts.{card_parts}
use Rattle.engine.specs.Numbers.{numbered}
use Rattle.engine.specs.Calls.{gives}
use Rattle.engine.proofs.Answers.{number-fits, back_unsound, back_none, back_done}
use Rattle.engine.proofs.take_back.Goals as goal

pub returns-then-not-sound_card-clause-taken_back : goal.returns-then-not-sound_card-clause-taken_back
returns-then-not-sound_card-clause-taken_back c =
    (sym (back_unsound _ (told c.sound_card.ensures c.if-not-sound_card.true)), number-fits 1 (omega arith))

pub head_of-requires : goal.head_of-requires
head_of-requires c =
    omega (arith, (card_parts (held c.args.card.now) (told c.sound_card.ensures c.if-not-sound_card.false)).size)

pub returns-then-head_of-eq0-clause-taken_back : goal.returns-then-head_of-eq0-clause-taken_back
returns-then-head_of-eq0-clause-taken_back c =
    let sound = told c.sound_card.ensures c.if-not-sound_card.false in
    (sym (back_none _ sound (sym (own_scripts _ c.head_of.ensures.0) ∙ c.if-head_of-eq0.true)), number-fits 7 (omega arith))

pub take_back-requires : goal.take_back-requires
take_back-requires c =
    let scripts = own_scripts _ c.head_of.ensures.0 in
    (told c.sound_card.ensures c.if-not-sound_card.false, omega arith)

pub returns-clause-taken_back : goal.returns-clause-taken_back
returns-clause-taken_back c =
    let sound = told c.sound_card.ensures c.if-not-sound_card.false in
    let scripts = own_scripts _ c.head_of.ensures.0 in
    (ap (λ (k : Card). gives (numbered 0) k []) c.take_back.ensures.taken_back ∙ sym (back_done (held c.args.card.now) sound (λ none. omega arith)), number-fits 0 (omega arith))
