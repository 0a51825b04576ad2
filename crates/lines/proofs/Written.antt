-- Runs that are written one behind the other are one run that is written: a byte and the rest, two runs, a value under its name. Assumes nothing.
use mathlib.Core.Path.{◌≡◌, refl, sym, ap, ◌∙◌}
use mathlib.Core.List.{List, [], ◌∷◌, ◌++◌}
use Prim.Native.Nat.{ℕ, ◌+◌, ◌≤◌}
use native.Mathlib.Nat.{zero-add}
use native.Mathlib.Omega.{arith}
use lib.ListN.{length, set, take, length-append}
use Rattle.octets.specs.Bytes.{overwrite}
use Rattle.octets.proofs.Writes.{set-write, write_two, write-length, take_through}
use Rattle.lines.specs.Named.{named}

-- one stored byte, and the rest of a run behind it
pub write-first : (m : List ℕ) (p v : ℕ) (r : List ℕ) → p + 1 + length r ≤ length m → overwrite (set m p v) (p + 1) r ≡ overwrite m p (v ∷ r)
write-first m p v r fits = rw (set-write m p v (omega arith)) (sym (write_two m p (v ∷ []) r fits))

-- the first bytes of a memory in which a run was written from the start on
pub taken : (m d x : List ℕ) (n : ℕ) → x ≡ overwrite m 0 d → n ≡ length d → length d ≤ length m → take n x ≡ d
taken m d x n e f fits = (λ i. take (f i) (e i)) ∙ rw zero-add at (take_through m 0 d (omega arith))

-- a run d was put at the place p of a memory m: the memory is then m', and q the place behind the run
pub record Put (m : List ℕ) (p : ℕ) (d m' : List ℕ) (q : ℕ) : Type 0 where
  pub memory : q ≤ length m → m' ≡ overwrite m p d
  pub place : q ≡ p + length d

pub put : {m d m' : List ℕ} {p q : ℕ} → m' ≡ overwrite m p d → q ≡ p + length d → Put m p d m' q
put e f = record { memory = λ _. e; place = f }

-- two runs, the second at the place where the first ends
pub behind : {m a m₁ b m₂ : List ℕ} {p q r : ℕ} → Put m p a m₁ q → Put m₁ q b m₂ r → Put m p (a ++ b) m₂ r
behind {m} {a} {m₁} {b} {m₂} {p} {q} {r} first second =
    let e = first.place in
    let f = second.place in
    record {
      memory = λ fits.
          let w = first.memory (omega arith) in
          let l = ap length w ∙ write-length m p a (omega arith) in
          second.memory (omega arith) ∙ (λ i. overwrite (w i) (e i) b) ∙ sym (write_two m p a b (omega arith));
      place = omega (arith, length-append a b);
    }

-- a name, a value and the byte behind it
pub named_put : {name m₁ m value m₂ : List ℕ} {p q r : ℕ} (last : ℕ) → Put m p name m₁ q → Put m₁ q value m₂ r → Put m p (named name value last) (set m₂ r last) (r + 1)
unfolding named
named_put {m₂ = m₂} {r = r} last first second =
    behind first (behind second (record { memory = λ fits. set-write m₂ r last (omega arith); place = refl }))
