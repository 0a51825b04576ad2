-- `card::sound::earlier_sound` meets its contract: the entry is sound beside each entry before it, or beside one it is not. Assumes nothing.
use mathlib.Core.Path.{◌≡◌, refl}
use mathlib.Core.Bool.{Bool, true, false}
use Prim.Native.Nat.{ℕ, ◌<◌}
use native.Mathlib.Omega.{arith}
use Rattle.std.proofs.iter.runs.Sources.{ranges}
use Rattle.std.proofs.lemmas.Grind.{common_steps}
use Rattle.octets.proofs.Picks.{all_told}
use Rattle.octets.specs.Bytes.{byte}
use Rattle.card.specs.Row.{row_of}
use Rattle.card.specs.Promised.{earlier_sound}
use Rattle.card.specs.Sound.{pair_sound}
use Rattle.card.proofs.sound.earlier_sound.Goals as goal

pub returns : goal.returns
unfolding earlier_sound
returns c =
    let a = c.args in
    let t = a.table.now in
    let test : ℕ → Bool = λ d. pair_sound (row_of t d) (row_of t a.e) in
    let holds : c.all.result ≡ true → (k b : ℕ) → byte t k ≡ b → k < a.e → test k ≡ true = grind (arith, common_steps, ranges) in
    let fails : c.all.result ≡ false → ((k : ℕ) → k < a.e → test k ≡ true) → ⊥ = grind (arith, common_steps, ranges) in
    all_told a.e test c.all.result (λ e k. holds e k (byte t k) refl) fails
