-- `card::sound::pairs_sound` meets its contract: each entry is sound beside those before it, or one is not. Assumes nothing.
use mathlib.Core.Path.{◌≡◌, refl}
use mathlib.Core.Bool.{true, false}
use Prim.Native.Nat.{ℕ, ◌<◌}
use native.Mathlib.Omega.{arith}
use Rattle.std.proofs.iter.runs.Sources.{ranges}
use Rattle.std.proofs.lemmas.Grind.{common_steps}
use Rattle.octets.proofs.Picks.{all_told}
use Rattle.octets.specs.Bytes.{byte}
use Rattle.card.specs.Row.{entries}
use Rattle.card.specs.Promised.{earlier_sound}
use Rattle.card.specs.Sound.{pairs_sound}
use Rattle.card.proofs.sound.pairs_sound.Goals as goal

-- what the search says, of entries whose soundness beside others is not looked into
holds : (c : goal.After-all) → c.all.result ≡ true → (k b : ℕ) → byte c.args.table.now k ≡ b → k < entries c.args.table.now → earlier_sound c.args.table.now k ≡ true
holds c = grind (arith, common_steps, ranges)

fails : (c : goal.After-all) → c.all.result ≡ false → ((k : ℕ) → k < entries c.args.table.now → earlier_sound c.args.table.now k ≡ true) → ⊥
fails c = grind (arith, common_steps, ranges)

pub returns : goal.returns
unfolding pairs_sound earlier_sound
returns c =
    let t = c.args.table.now in
    all_told (entries t) (earlier_sound t) c.all.result (λ e k. holds c e k (byte t k) refl) (fails c)
