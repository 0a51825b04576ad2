-- `expanded::run::run` meets its contract: the C-APDUs bring the script to a place from where what is left is the whole run. There stands
-- no C-APDU: a Bad format TLV ends the script (`breaks`), or nothing is left (`ends`). Assumes nothing.
use mathlib.Core.Path.{◌≡◌, refl, sym, ◌∙◌}
use Prim.Native.Nat.{ℕ}
use native.Mathlib.Omega.{arith}
use Rattle.tlv.specs.declared.template.Item.{Item}
use Rattle.tlv.specs.declared.template.Item.TheVariants.{Capdu, Bad, End}
use Rattle.expanded.proofs.Going.{bad_lies, ends, breaks}
use Rattle.expanded.proofs.run.run.Goals as goal

-- an item that is no C-APDU and no Bad format TLV
nothing_left : (item : Item) → ((from size : ℕ) → item ≡ Capdu from size → ⊥) → ((code : ℕ) → item ≡ Bad code → ⊥) → item ≡ End
nothing_left (Capdu from size) none e = absurd (none from size refl)
nothing_left (Bad code) none e = absurd (e code refl)
nothing_left End none e = refl

pub returns-in_default-clause-ran : goal.returns-in_default-clause-ran
returns-in_default-clause-ran c =
    let item = c.next_item in
    let reached = c.run_capdus-reached.ensures.reaches in
    let known = nothing_left item.result (λ from size e. reached.none from size (sym item.ensures.0 ∙ e)) c.in_default.not-Bad in
    let d = ends reached item.ensures.0 known in
    (d.0, d.1, omega (arith, d.2, c.requires.inside, c.requires.short))

pub step_bad-requires : goal.step_bad-requires
step_bad-requires c =
    let reached = c.run_capdus-reached.ensures.reaches in
    let lies = bad_lies c.next_item.ensures.1 c.in-Bad.is in
    record {
      byte = lies.1;
      few = omega (arith, reached.counted, reached.inside, c.requires.inside, c.requires.short);
      kept = reached.kept lies.0;
      room = omega (arith, c.requires.room, c.run_capdus-reached.auto.out);
    }

pub returns-clause-ran : goal.returns-clause-ran
returns-clause-ran c =
    let reached = c.run_capdus-reached.ensures.reaches in
    let done = c.step_bad in
    let i = c.next_item.ensures in
    let d = breaks reached i.0 i.1 done.result _ _ done.ensures.1 c.in-Bad.is (done.ensures.0 _) in
    (d.0, d.1, omega (arith, d.2, c.requires.inside, c.requires.short))
