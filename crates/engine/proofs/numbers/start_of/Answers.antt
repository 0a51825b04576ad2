-- `engine::numbers::start_of` meets its contract: each `return` is a case of the numbers, and past the tests the script starts.
-- The tests stand in the order of the numbers. A way out gathers what each test before it found (`told`) with the one that failed: that
-- is what the number stands for (`RunMet`). The response memory is a variable throughout, of which its length alone is known. Assumes
-- nothing.
use mathlib.Core.Path.{◌≡◌, sym, ap, ◌∙◌}
use mathlib.Core.Bool.{Bool, true, ◌&&◌, ◌||◌}
use native.Mathlib.Omega.{arith}
use lib.Dec.{ltb, eqb}
use Rattle.octets.proofs.Picks.{told}
use Rattle.card.specs.Lent.{held}
use Rattle.card.specs.Row.{Card, entries, row_of}
use Rattle.card.specs.Tree.{is_root}
use Rattle.card.proofs.Promises.{parents_smaller}
use Rattle.journal.specs.Sound.{sound_card}
use Rattle.journal.proofs.Parts.{card_parts, card-table}
use Rattle.command.specs.declared.Format.{Format}
use Rattle.engine.specs.Numbers.{Arguments, format_known, arguments_fit, least_response, script_start}
use Rattle.engine.specs.Calls.{arguments_of}
use Rattle.engine.specs.Promised.{StartFits}
use Rattle.engine.proofs.Starts.{has_first, refused-start, script_start_lem}
use Rattle.engine.proofs.Refusals.{arguments_root}
use Rattle.engine.proofs.numbers.start_of.Goals as goal

-- what the test of the arguments found, on a sound card
fit : (k : Card) → sound_card k ≡ true → (a : Arguments) {r b : Bool} → r ≡ (format_known a.format && ((ltb a.application (entries k.table) && is_root (row_of k.table a.application)) && (eqb a.domain 0x00 || eqb a.domain 0xFF)))
    → r ≡ b → arguments_fit k.table a ≡ b
fit k sound a e h = arguments_root k.table k.files (card-table k sound) a ∙ sym e ∙ h

pub returns-then-not-sound_card : goal.returns-then-not-sound_card
unfolding StartFits
returns-then-not-sound_card c = (λ response e. refused-start _ _ 1 (omega arith) (told c.sound_card.ensures c.if-not-sound_card.true), tt)

pub arguments_fit-requires : goal.arguments_fit-requires
arguments_fit-requires c =
    let k = held c.args.card.now in
    parents_smaller k.table k.files (card-table k (told c.sound_card.ensures c.if-not-sound_card.false))

pub returns-then-not-arguments_fit : goal.returns-then-not-arguments_fit
unfolding StartFits
returns-then-not-arguments_fit c =
    let k = held c.args.card.now in
    let sound = told c.sound_card.ensures c.if-not-sound_card.false in
    (λ response e. refused-start _ _ 2 (omega arith) (sound, fit k sound (arguments_of c.args.call c.args.script.now response) c.arguments_fit.ensures c.if-not-arguments_fit.true), tt)

pub returns-then-not-script_fits : goal.returns-then-not-script_fits
unfolding StartFits
returns-then-not-script_fits c =
    let k = held c.args.card.now in
    let sound = told c.sound_card.ensures c.if-not-sound_card.false in
    (λ response e. refused-start _ _ 3 (omega arith) (sound, fit k sound (arguments_of c.args.call c.args.script.now response) c.arguments_fit.ensures c.if-not-arguments_fit.false, told c.script_fits.ensures c.if-not-script_fits.true), tt)

pub format_of-form-requires : goal.format_of-form-requires
format_of-form-requires c = has_first _ (told c.script_fits.ensures c.if-not-script_fits.false)

pub returns-then-room-least_response : goal.returns-then-room-least_response
unfolding StartFits
returns-then-room-least_response c =
    let k = held c.args.card.now in
    let sound = told c.sound_card.ensures c.if-not-sound_card.false in
    let least = c.least_response.ensures ∙ ap least_response c.format_of-form.ensures in (
      λ response e.
          refused-start _ _ 4 (omega arith)
          (sound, fit k sound (arguments_of c.args.call c.args.script.now response) c.arguments_fit.ensures c.if-not-arguments_fit.false, told c.script_fits.ensures c.if-not-script_fits.false, omega (arith, least, c.if-room-least_response.true)),
      tt,
    )

pub mark_fits-requires : goal.mark_fits-requires
mark_fits-requires c = omega (arith, (card_parts (held c.args.card.now) (told c.sound_card.ensures c.if-not-sound_card.false)).size)

pub returns-then-not-mark_fits : goal.returns-then-not-mark_fits
unfolding StartFits
returns-then-not-mark_fits c =
    let k = held c.args.card.now in
    let sound = told c.sound_card.ensures c.if-not-sound_card.false in
    let least = c.least_response.ensures ∙ ap least_response c.format_of-form.ensures in (
      λ response e.
          refused-start _ _ 5 (omega arith)
          (sound, fit k sound (arguments_of c.args.call c.args.script.now response) c.arguments_fit.ensures c.if-not-arguments_fit.false, told c.script_fits.ensures c.if-not-script_fits.false, omega (arith, least, c.if-room-least_response.false), told c.mark_fits.ensures c.if-not-mark_fits.true),
      tt,
    )

pub returns : goal.returns
returns c =
    let k = held c.args.card.now in
    let sound = told c.sound_card.ensures c.if-not-sound_card.false in
    let least = c.least_response.ensures ∙ ap least_response c.format_of-form.ensures in
    let r = c.script_start.ensures in (
      λ response e.
          r.0
          ∙ ap (λ (f : Format). script_start f c.args.script.now) c.format_of-form.ensures
          ∙ script_start_lem k (arguments_of c.args.call c.args.script.now response) sound (fit k sound (arguments_of c.args.call c.args.script.now response) c.arguments_fit.ensures c.if-not-arguments_fit.false)
          (told c.script_fits.ensures c.if-not-script_fits.false) (omega (arith, least, c.if-room-least_response.false)) (told c.mark_fits.ensures c.if-not-mark_fits.false),
      r.1,
    )
