-- `card::sound::entries_sound` meets its contract: each entry is sound, or one is not. Assumes nothing.
use mathlib.Core.Path.{◌≡◌, refl}
use mathlib.Core.Bool.{Bool, true, false}
use Prim.Native.Nat.{ℕ, ◌<◌}
use native.Mathlib.Omega.{arith}
use Rattle.std.proofs.iter.runs.Sources.{ranges}
use Rattle.std.proofs.lemmas.Grind.{common_steps}
use Rattle.octets.proofs.Picks.{all_told}
use Rattle.octets.specs.Bytes.{byte}
use Rattle.card.specs.Row.{entries, row_of}
use Rattle.card.specs.Sound.{entry_sound, entries_sound}
use Rattle.card.proofs.sound.entries_sound.Goals as goal

pub returns : goal.returns
unfolding entries_sound
returns c =
    let t = c.args.table.now in
    let test : ℕ → Bool = λ e. entry_sound c.args.files e (row_of t (row_of t e).parent) (row_of t e) in
    let holds : c.all.result ≡ true → (k b : ℕ) → byte t k ≡ b → k < entries t → test k ≡ true = grind (arith, common_steps, ranges) in
    let fails : c.all.result ≡ false → ((k : ℕ) → k < entries t → test k ≡ true) → ⊥ = grind (arith, common_steps, ranges) in
    all_told (entries t) test c.all.result (λ e k. holds e k (byte t k) refl) fails
