-- What a good compact answer has, and the four ways of a bad one. Both go by the choices of the definition. Assumes nothing.
use mathlib.Core.Path.{◌≡◌, refl, sym, ◌∙◌}
use mathlib.Core.Bool.{true, false, not, ◌&&◌}
use mathlib.Core.List.{List}
use Prim.Native.Nat.{ℕ, ◌+◌, ◌≤◌, ◌<◌}
use native.Mathlib.Omega.{arith}
use lib.Dec.{ltb, eqb}
use lib.ListN.{length}
use borrow.Author.Tests.{ltb-true, ltb-false, lt-ltb, not-true, not-false}
use Rattle.std.specs.Prelude.{Result, Ok, Err}
use Rattle.octets.specs.Bytes.{byte}
use Rattle.octets.proofs.Picks.{on_pick, and_left, and_right}
use Rattle.plan.specs.Plans.{most_read}
use Rattle.command.specs.declared.Format.TheVariants as formats
use Rattle.answers.specs.declared.words.Words.TheVariants as words
use Rattle.answers.specs.declared.Summary.{Summary}
use Rattle.answers.specs.Words.{has_data, word_at}
use Rattle.answers.specs.Results.{compact_word, compact_data}
use Rattle.answers.specs.Answers.{data_read, word_read, compact_read}

-- where the most data end
abbrev pub most_end : ℕ
most_end = compact_data + most_read formats.Compact

pub record Good (a : List ℕ) : Type 0 where
  pub count : eqb (byte a 0) 0 ≡ false
  pub word : ℕ
  pub read : word_at words.Compact a compact_word ≡ Ok word
  pub has : compact_data < length a → has_data word ≡ true
  pub most : length a ≤ most_end

pub data BadAt (a : List ℕ) (place : ℕ) : Type 0 where
  count : place ≡ 0 → eqb (byte a 0) 0 ≡ true → BadAt a place
  word : word_at words.Compact a compact_word ≡ Err place → BadAt a place
  has : place ≡ compact_data → (w : ℕ) → word_at words.Compact a compact_word ≡ Ok w → has_data w ≡ false → compact_data < length a → BadAt a place
  most : place ≡ most_end → most_end < length a → BadAt a place

-- what is read is no bad answer
pub other : {T : Type 0} {r : Result T ℕ} {x : T} {place : ℕ} → r ≡ Err place → r ≡ Ok x → ⊥
other e f = let z : ◌≡◌ {A = ℕ} 0 1 = cc in omega arith

pub places : {T : Type 0} (p q : ℕ) → ◌≡◌ {A = Result T ℕ} (Err p) (Err q) → p ≡ q
places p q e = cc

module _ (a : List ℕ) where
  module _ (s : Summary) where
    data_good : (w : ℕ) → eqb (byte a 0) 0 ≡ false → word_at words.Compact a compact_word ≡ Ok w → data_read a w ≡ Ok s → Good a
    unfolding data_read
    data_good w c is =
        on_pick (λ (r : Result Summary ℕ). r ≡ Ok s → Good a) (ltb compact_data (length a) && not (has_data w)) _ _ (λ _ e. absurd (other refl e))
        (λ n. on_pick (λ (r : Result Summary ℕ). r ≡ Ok s → Good a) (ltb most_end (length a)) _ _ (λ _ e. absurd (other refl e))
        (λ m e.
        record {
          count = c;
          word = w;
          read = is;
          has = λ l. not-false (has_data w) (rw (lt-ltb compact_data (length a) l) at n);
          most = ltb-false most_end (length a) m;
        }))

    word_good : (w : Result ℕ ℕ) → eqb (byte a 0) 0 ≡ false → word_at words.Compact a compact_word ≡ w → word_read a w ≡ Ok s → Good a
    unfolding word_read
    word_good (Ok w) c is e = data_good w c is e
    word_good (Err place) c is e = absurd (other refl e)

    pub good : compact_read a ≡ Ok s → Good a
    unfolding compact_read
    good =
        on_pick (λ (r : Result Summary ℕ). r ≡ Ok s → Good a) (eqb (byte a 0) 0) _ _ (λ _ e. absurd (other refl e))
        (λ c. word_good (word_at words.Compact a compact_word) c refl)

  module _ (place : ℕ) where
    data_bad : (w : ℕ) → word_at words.Compact a compact_word ≡ Ok w → data_read a w ≡ Err place → BadAt a place
    unfolding data_read
    data_bad w is =
        on_pick (λ (r : Result Summary ℕ). r ≡ Err place → BadAt a place) (ltb compact_data (length a) && not (has_data w)) _ _
        (λ y e. has (sym (places compact_data place e)) w is (not-true (has_data w) (and_right (ltb compact_data (length a)) _ y)) (ltb-true compact_data (length a) (and_left (ltb compact_data (length a)) _ y)))
        (λ _. on_pick (λ (r : Result Summary ℕ). r ≡ Err place → BadAt a place) (ltb most_end (length a)) _ _
        (λ y e. most (sym (places most_end place e)) (ltb-true most_end (length a) y))
        (λ _ e. absurd (other e refl)))

    word-bad : (w : Result ℕ ℕ) → word_at words.Compact a compact_word ≡ w → word_read a w ≡ Err place → BadAt a place
    unfolding word_read
    word-bad (Ok w) is e = data_bad w is e
    word-bad (Err p) is e = word (is ∙ (let same : p ≡ place = places p place e in rw same))

    pub bad : compact_read a ≡ Err place → BadAt a place
    unfolding compact_read
    bad =
        on_pick (λ (r : Result Summary ℕ). r ≡ Err place → BadAt a place) (eqb (byte a 0) 0) _ _ (λ y e. count (sym (places 0 place e)) y)
        (λ _. word-bad (word_at words.Compact a compact_word) refl)
