-- The macros take from a call's number what was packed into it, so a build crosses as it is, and the number of a reading or of a result has
-- the parts that its definition says (`built-crosses`, `parts_cross`, `shown-crosses`). What is read and told fits, as an answer that is read
-- has at most 16,777,215 bytes (`read_fits`, `told-few`). Assumes nothing.
use Prim.Native.Nat.{ℕ, ◌^◌, ◌≤◌, ◌<◌}
use mathlib.Core.Path.{◌≡◌, refl, ap, ◌∙◌}
use mathlib.Core.List.{List}
use native.Mathlib.Omega.{arith}
use lib.ListN.{length}
use Rattle.std.specs.Prelude.{Option, Some, None, Result, Ok, Err}
use Rattle.octets.proofs.Picks.{lt_yes, lt_no}
use Rattle.boundary.specs.Packed.{packed, Fits}
use Rattle.boundary.proofs.Apart.{number_back, count_back, length_back, low_back, middle_back, high_back}
use Rattle.operations.specs.declared.Numbers.{Numbers}
use Rattle.operations.specs.Builds.{Building, BuiltFits, numbered}
use Rattle.answers.specs.declared.Summary.{Summary}
use Rattle.answers.specs.declared.results.Piece.{Piece}
use Rattle.answers.specs.declared.results.Piece.TheVariants as pieces
use Rattle.answers.specs.Results.{result_at}
use Rattle.answers.specs.Answers.{read_answer}
use Rattle.answers.specs.Promised.{AnsweredFits, ToldFits}
use Rattle.rfm_desk.specs.Packed.{Parts, Shown, crosses, across, most_answer, parts_in, read_parts, answer_parts, packed_parts, word_in, data_length_in, data_in, shown, shown_in, told_parts, result_parts, packed_shown}

-- ---- a build

pub built-room : (b : Numbers) → BuiltFits b → Fits b.refusal b.operations b.length
built-room b fits = record { number = omega (arith, fits.refusal); count = omega (arith, fits.operations); length = omega (arith, fits.length) }

pub built-crosses : (b : Numbers) → BuiltFits b → (memory : List ℕ) (g : Building) (n : ℕ) → numbered b memory ≡ g → n ≡ packed b.refusal b.operations b.length
    → crosses n memory ≡ across g
unfolding across
built-crosses b fits memory g n e p =
    ap (λ (k : ℕ). crosses k memory) p
    ∙ (λ i. record {
      sum = packed b.refusal b.operations b.length;
      answer =
          record {
            refusal = number_back _ _ _ (built-room b fits) i;
            operations = count_back _ _ _ (built-room b fits) i;
            length = length_back _ _ _ (built-room b fits) i;
          };
      memory = memory;
    })
    ∙ ap across e

-- ---- an answer

module _ (format : ℕ) (answer : List ℕ) where
  pub parts_cross : (p : Parts) → Fits p.number p.count p.place → (n : ℕ) → n ≡ packed_parts p → p ≡ answer_parts format answer
      → (n ≡ packed_parts (answer_parts format answer)) × (parts_in n ≡ answer_parts format answer)
  parts_cross p fits n e same = (
    e ∙ ap packed_parts same,
    ap parts_in e ∙ (λ i. record { number = number_back _ _ _ fits i; count = count_back _ _ _ fits i; place = length_back _ _ _ fits i }) ∙ same,
  )

  pub too_long : most_answer < length answer → record { number = 2; count = 0; place = 0 } ≡ answer_parts format answer
  unfolding answer_parts
  too_long long = lt_yes most_answer (length answer) _ long refl

  pub is_read : length answer ≤ most_answer → {r : Result Summary ℕ} → r ≡ read_answer format answer → read_parts r ≡ answer_parts format answer
  unfolding answer_parts
  is_read short e = lt_no most_answer (length answer) _ short (ap read_parts e)

pub read_fits : (size : ℕ) (r : Result Summary ℕ) → size ≤ most_answer → AnsweredFits size r → Fits (read_parts r).number (read_parts r).count (read_parts r).place
unfolding AnsweredFits read_parts
read_fits size (Ok s) short fits =
    record { number = omega arith; count = omega (arith, fits.count most_answer (omega arith) short); length = omega (arith, fits.first, fits.end) }
read_fits size (Err place) short fits = record { number = omega arith; count = omega arith; length = omega arith }

-- ---- a result

-- word, number of data bytes and place find room
pub record Few (s : Shown) : Type 0 where
  pub word : s.word < 2 ^ 16
  pub data_length : s.data_length < 2 ^ 16
  pub place : s.place < 2 ^ 32

shown_back : (s : Shown) → Few s → shown_in (packed_shown s) ≡ s
unfolding packed_shown word_in data_length_in data_in
shown_back s few =
    λ i. record {
      word = low_back (2 ^ 16) (2 ^ 16) s.word s.data_length s.place refl few.word few.data_length i;
      data_length = middle_back (2 ^ 16) (2 ^ 16) s.word s.data_length s.place refl few.word few.data_length i;
      place = high_back (2 ^ 16) s.word s.data_length s.place (omega (arith, few.word, few.data_length)) i;
    }

module _ (format : ℕ) (answer : List ℕ) (place : ℕ) where
  pub shown-crosses : (s : Shown) → Few s → (n : ℕ) → n ≡ packed_shown s → s ≡ result_parts format answer place
      → (n ≡ packed_shown (result_parts format answer place)) × (shown_in n ≡ result_parts format answer place)
  shown-crosses s few n e same = (e ∙ ap packed_shown same, ap shown_in e ∙ shown_back s few ∙ same)

  pub none_told : most_answer < length answer → shown 0 0 0 ≡ result_parts format answer place
  unfolding result_parts
  none_told long = lt_yes most_answer (length answer) _ long refl

  pub is-told : length answer ≤ most_answer → {t : Option Piece} → t ≡ result_at format answer place (length answer) → told_parts t ≡ result_parts format answer place
  unfolding result_parts
  is-told short e = lt_no most_answer (length answer) _ short (ap told_parts e)

pub nothing-few : Few (shown 0 0 0)
nothing-few = record { word = omega arith; data_length = omega arith; place = omega arith }

pub told-few : (size at : ℕ) (t : Option Piece) → size ≤ most_answer → ToldFits size at t → Few (told_parts t)
unfolding ToldFits told_parts
told-few size at (Some (pieces.Result word from count)) short fits =
    record { word = fits.small; data_length = fits.few; place = omega (arith, fits.inside) }
told-few size at (Some (pieces.BadFormat code place)) short fits = record { word = omega arith; data_length = omega arith; place = omega arith }
told-few size at None short fits = nothing-few
