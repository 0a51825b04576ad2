-- The reading of results between two turns: what is left from here is the whole reading.
-- The definition `turns_from` counts its turns down, and the code loops. `Going` says that for some count which is enough for the bytes
-- that are left, the reading from this turn on is the whole. A turn that goes on is further on, so the count stays enough (`turns`) and the
-- bytes left are fewer (`less`); at the end, and at a bad byte, the whole is known (`ends`, `fails`). Assumes nothing.
use mathlib.Core.Path.{◌≡◌, refl, sym}
use mathlib.Core.Bool.{Bool}
use mathlib.Core.List.{List}
use Prim.Native.Nat.{ℕ, zero, suc, ◌+◌, ◌-◌, ◌≤◌, ◌<◌}
use native.Mathlib.Omega.{arith}
use lib.ListN.{length}
use Rattle.octets.specs.Bytes.{AllBytes}
use Rattle.std.specs.Prelude.{Option, Some, None, Result, Ok, Err}
use Rattle.answers.specs.declared.turns.Turn.{Turn}
use Rattle.answers.specs.Answers.{first_turn, turned, turns_from}
use Rattle.answers.specs.Promised.{TurnFits}
use Rattle.answers.proofs.Places.{TurnedFits, turned_fits}

-- where the reading is, and what is left of it, with a count that is large enough
pub record Going (answer : List ℕ) (definite : Bool) (end : ℕ) (whole : Result Turn ℕ) (t : Turn) : Type 0 where
  pub fits : TurnFits (length answer) t
  pub fuel : ℕ
  pub enough : length answer + 1 ≤ t.at + fuel
  pub same : turns_from fuel answer definite end t ≡ whole

module _ (answer : List ℕ) (definite : Bool) (end : ℕ) where
  pub begins :
      (first count : ℕ) → first ≤ length answer
      → Going answer definite end (turns_from (length answer + 1) answer definite end (first_turn first count)) (first_turn first count)
  unfolding first_turn
  begins first count inside =
      record { fits = record { inside = inside; seen = omega arith }; fuel = length answer + 1; enough = omega arith; same = refl }

  -- the reading from a turn on, by what the turn comes to
  abbrev rest : ℕ → Turn → Result (Option Turn) ℕ → Result Turn ℕ
  rest n t r =
      elim r [
        | Ok (Some next) ↦ turns_from n answer definite end next
        | Ok None ↦ Ok t
        | Err place ↦ Err place
      ]

  module _ {whole : Result Turn ℕ} {t : Turn} (g : Going answer definite end whole t) where
    -- there is a turn left
    more : (fuel : ℕ) {r : Result (Option Turn) ℕ} → r ≡ turned answer definite end t → length answer + 1 ≤ t.at + fuel
        → turns_from fuel answer definite end t ≡ whole → (m : ℕ) × (fuel ≡ m + 1) × (rest m t r ≡ whole)
    unfolding turns_from
    more zero is enough same = absurd (let h = g.fits.inside in omega arith)
    more (suc m) is enough same = (m, omega arith, rw is same)

    left : {r : Result (Option Turn) ℕ} → r ≡ turned answer definite end t → (m : ℕ) × (g.fuel ≡ m + 1) × (rest m t r ≡ whole)
    left is = more g.fuel is g.enough g.same

    module _ (bytes : AllBytes answer) {next : Turn} (is : Ok (Some next) ≡ turned answer definite end t) where
      -- the next turn lies in the answer, further on
      after : TurnFits (length answer) next × (t.at < next.at)
      unfolding TurnedFits
      after = rw (sym is) at (turned_fits answer bytes definite end t g.fits)

      pub turns : Going answer definite end whole next
      turns =
          let k = left is in
          record { fits = after.0; fuel = k.0; enough = omega (arith, g.enough, after.1, k.1); same = k.2 }

      pub less : length answer + 1 - next.at < length answer + 1 - t.at
      less = omega (arith, g.fits.inside, after.1)

    pub ends : Ok None ≡ turned answer definite end t → Ok t ≡ whole
    ends is = (left is).2

    pub fails : {place : ℕ} → Err place ≡ turned answer definite end t → Err place ≡ whole
    fails is = (left is).2
