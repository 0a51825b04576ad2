-- The macros take a packed answer apart into what was packed, so a call's answer in one number, with the lent memories, is what the
-- call's result crosses as. Assumes nothing.
use Prim.Native.Nat.{ℕ}
use mathlib.Core.Path.{◌≡◌, ap, ◌∙◌}
use mathlib.Core.List.{List}
use native.Mathlib.Omega.{arith}
use Rattle.boundary.specs.Packed.{Fits}
use Rattle.boundary.proofs.Apart.{number_back, count_back, length_back}
use Rattle.card.specs.Row.{Card}
use Rattle.engine.specs.declared.Answer.{Answer}
use Rattle.engine.specs.Calls.{Result, gives}
use Rattle.engine.specs.Promised.{AnswerFits}
use Rattle.rfm.specs.Packed.{packed_answer, answer_in, crosses, across}

module _ (a : Answer) (fits : AnswerFits a) where
  pub room : Fits a.number a.count a.length
  room = record { number = omega arith; count = omega arith; length = omega arith }

  pub taken_apart : answer_in (packed_answer a) ≡ a
  taken_apart =
      λ i. record {
        number = number_back a.number a.count a.length room i;
        length = length_back a.number a.count a.length room i;
        count = count_back a.number a.count a.length room i;
      }

pub crossing : (a : Answer) → AnswerFits a → (c : Card) (response : List ℕ) (r : Result) (n : ℕ) → gives a c response ≡ r → n ≡ packed_answer a → crosses n c response ≡ across r
unfolding across
crossing a fits c response r n e p =
    ap (λ (k : ℕ). crosses k c response) p
    ∙ (λ i. record { sum = packed_answer a; answer = taken_apart a fits i; card = c; response = response })
    ∙ ap across e
