-- A word that data can stand with is one of each list of words, and its first byte begins one: so where it stands, it is the word that is
-- read. Assumes nothing.
use Prim.Native.Nat.{ℕ, ◌+◌, ◌*◌, ◌/◌, ◌<◌}
use mathlib.Core.Path.{◌≡◌, refl, subst}
use mathlib.Core.Bool.{true, not}
use mathlib.Core.List.{List}
use mathlib.Core.Logic.{⊎_elim}
use native.Mathlib.Omega.{arith}
use lib.Dec.{eqb}
use lib.ListN.{length}
use borrow.Author.Tests.{eqb-true}
use Rattle.std.specs.Prelude.{Ok}
use Rattle.octets.specs.Bytes.{byte, AllBytes, num_at}
use Rattle.octets.proofs.Picks.{yes, no, le_no, or_either}
use Rattle.answers.specs.declared.words.Words.{Words}
use Rattle.answers.specs.declared.words.Words.TheVariants.{Compact, Expanded, WithData}
use Rattle.answers.specs.Words.{has_data, is_common, is_word, begins_common, begins_word, word_at}

each_has : (words : Words) (word : ℕ) → has_data word ≡ true → is_word words word ≡ true
unfolding is_word is_common
each_has Compact word h = rw h
each_has Expanded word h = rw h
each_has WithData word h = h

begins_done : (words : Words) → begins_word words 0x90 ≡ true
unfolding begins_word begins_common
begins_done Compact = refl
begins_done Expanded = refl
begins_done WithData = refl

begins_warned : (words : Words) → begins_word words 0x62 ≡ true
unfolding begins_word begins_common
begins_warned Compact = refl
begins_warned Expanded = refl
begins_warned WithData = refl

module _ (words : Words) (answer : List ℕ) (bytes : AllBytes answer) (at : ℕ) («data» : has_data (num_at answer at) ≡ true) where
  -- the word's first byte
  high : (word : ℕ) → eqb (num_at answer at) word ≡ true → word / 256 ≡ byte answer at
  unfolding num_at
  high word e =
      let low = bytes (at + 1) in
      let h : byte answer at * 256 + byte answer (at + 1) ≡ word = eqb-true (num_at answer at) word e in
      omega arith

  begins : begins_word words (byte answer at) ≡ true
  begins =
      ⊎_elim
      (λ e. subst Begins (high 0x9000 e) (begins_done words))
      (λ e. ⊎_elim (λ f. subst Begins (high 0x6282 f) (begins_warned words)) (λ f. subst Begins (high 0x6283 f) (begins_warned words)) (or_either _ _ e))
      (or_either _ _ «data»)
    where
      Begins : ℕ → Type 0
      Begins b = begins_word words b ≡ true

  pub data_word : at + 1 < length answer → Ok (num_at answer at) ≡ word_at words answer at
  unfolding word_at
  data_word inside =
      le_no (length answer) at _ (omega arith)
      (no (not (begins_word words (byte answer at))) _ (rw begins)
      (le_no (length answer) (at + 1) _ inside (yes (is_word words (num_at answer at)) _ (each_has words (num_at answer at) «data») refl)))
