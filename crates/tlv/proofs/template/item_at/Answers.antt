-- `tlv::template::item_at` meets its contract: each arm is the one that the definition picks. Assumes nothing.
use mathlib.Core.Path.{◌≡◌, refl, sym, ◌∙◌}
use borrow.Author.Tests.{not-true, not-false}
use Rattle.octets.proofs.Picks.{pick_true, pick-false, lt_yes, lt_no}
use Rattle.tlv.specs.declared.template.Item.{Item}
use Rattle.tlv.specs.Templates.{is_capdu_tag, item_at}
use Rattle.tlv.specs.Promised.{ItemFits}
use Rattle.tlv.proofs.Fits.{item_told}
use Rattle.std.proofs.lemmas.Bool.{not_from_true, not_from_false}
use Rattle.tlv.proofs.template.item_at.Goals as goal
use Rattle.tlv.proofs.template.item_at.Lts as lts
use Rattle.tlv.proofs.template.item_at.Reads as reads
use Rattle.tlv.proofs.template.item_at.Tie as tie

abbrev After-shared_slice_known : Type 0
After-shared_slice_known = lts.After-shared_slice_known tie.the-claims reads.Pre reads.Post

-- what is promised of an item that is the one at the place
told : (k : After-shared_slice_known) {r : Item} → r ≡ item_at k.args.script.now k.args.at k.args.end → (r ≡ item_at k.args.script.now k.args.at k.args.end) × ItemFits k.args.at k.args.end r
told k = item_told k.args.script.now (λ i. (k.shared_slice_known-1.given i).fits) k.args.at k.args.end

pub returns-then-end-at : goal.returns-then-end-at
unfolding item_at
returns-then-end-at c = told c.before.before (lt_no _ _ _ c.if-end-at.true refl)

pub returns-then-not-script-at : goal.returns-then-not-script-at
unfolding item_at is_capdu_tag
returns-then-not-script-at c = told c.before.before.before.before.before (lt_yes _ _ _ c.if-end-at.false (sym (pick-false _ _ _ (not-true _ (not_from_false _ c.if-not-script-at.true)))))

pub returns : goal.returns
unfolding item_at is_capdu_tag
returns c = told c.before.before.before.before.before.before (lt_yes _ _ _ c.if-end-at.false (c.value_at.ensures ∙ sym (pick_true _ _ _ (not-false _ (not_from_true _ c.if-not-script-at.false)))))
