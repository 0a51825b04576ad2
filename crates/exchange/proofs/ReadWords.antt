-- A word that can be given is read where its two bytes stand: its first byte begins a word. The listed words are tried one by one, and a word
-- 61xx begins with 61. Assumes nothing.
use Prim.Native.Nat.{ℕ, ◌+◌, ◌/◌, ◌%◌, ◌<◌}
use mathlib.Core.Path.{◌≡◌, refl, sym, ap, ◌∙◌}
use mathlib.Core.Bool.{Bool, true, not, ◌&&◌, ◌||◌}
use mathlib.Core.List.{List, [], ◌∷◌}
use mathlib.Core.Logic.{⊎_elim}
use native.Mathlib.Omega.{arith}
use lib.Dec.{leb, ltb, eqb}
use lib.ListN.{length}
use borrow.Author.Tests.{ltb-true, lt-ltb, leb-true, eqb-true}
use Rattle.std.specs.Prelude.{Ok}
use Rattle.octets.specs.Bytes.{byte, num_at, bytes2}
use Rattle.octets.proofs.Picks.{yes, no, le_no, and_left, and_right, or_either}
use Rattle.answers.specs.declared.words.Words.{Words}
use Rattle.answers.specs.declared.words.Words.TheVariants.{Compact, Expanded, WithData}
use Rattle.answers.specs.Words.{has_data, is_common, is_word, begins_common, begins_word, word_at}
use Rattle.exchange.proofs.Places.{Stands, stands-byte, stands_num, stands-inside}

-- whether a word has two bytes, of which the first can begin it
abbrev begun : (ℕ → Bool) → ℕ → Bool
begun begins w = ltb w 65536 && begins (w / 256)

-- the first of some listed words, or one of the others
module _ (begins : ℕ → Bool) (w k : ℕ) (here : begun begins k ≡ true) where
  last-listed : eqb w k ≡ true → begun begins w ≡ true
  last-listed e = rw (eqb-true w k e) here

  listed : {others : Bool} → (others ≡ true → begun begins w ≡ true) → (eqb w k || others) ≡ true → begun begins w ≡ true
  listed {others} next e = ⊎_elim last-listed next (or_either (eqb w k) others e)

module _ (w : ℕ) where
  data_begun : (begins : ℕ → Bool) → begins 0x90 ≡ true → begins 0x62 ≡ true → has_data w ≡ true → begun begins w ≡ true
  data_begun begins h g = listed begins w 0x9000 h (listed begins w 0x6282 g (last-listed begins w 0x6283 g))

  common_begun : is_common w ≡ true → begun begins_common w ≡ true
  unfolding is_common begins_common
  common_begun e =
      ⊎_elim
      (data_begun begins_common refl refl)
      (listed begins_common w 0x6581 refl
      (listed begins_common w 0x6700 refl
      (listed begins_common w 0x6981 refl
      (listed begins_common w 0x6982 refl
      (listed begins_common w 0x6984 refl
      (listed begins_common w 0x6985 refl
      (listed begins_common w 0x6986 refl
      (listed begins_common w 0x6A82 refl
      (listed begins_common w 0x6A83 refl
      (listed begins_common w 0x6A86 refl
      (listed begins_common w 0x6B00 refl
      (listed begins_common w 0x6D00 refl (listed begins_common w 0x6E00 refl (last-listed begins_common w 0x9850 refl))))))))))))))
      (or_either (has_data w) _ e)

  -- the common words, where other bytes begin a word too
  also : (begins others : ℕ → Bool) → begun begins w ≡ true → begun (λ b. begins b || others b) w ≡ true
  also begins others e = rw (and_left (ltb w 65536) (begins (w / 256)) e, and_right (ltb w 65536) (begins (w / 256)) e)

  -- "report 61 and the length"
  waiting-begun : (leb 0x6101 w && leb w 0x61FF) ≡ true → begun (begins_word Compact) w ≡ true
  unfolding begins_word begins_common
  waiting-begun e =
      let h = leb-true 0x6101 w (and_left (leb 0x6101 w) (leb w 0x61FF) e) in
      let g = leb-true w 0x61FF (and_right (leb 0x6101 w) (leb w 0x61FF) e) in
      let first : w / 256 ≡ 0x61 = omega arith in
      rw (lt-ltb w 65536 (omega arith), first)

  word-begun : (words : Words) → is_word words w ≡ true → begun (begins_word words) w ≡ true
  unfolding is_word begins_word begins_common
  word-begun Compact e = ⊎_elim (λ h. also begins_common (λ b. eqb b 0x61) (common_begun h)) waiting-begun (or_either (is_common w) _ e)
  word-begun Expanded e =
      ⊎_elim (λ h. also begins_common (λ b. eqb b 0x6F) (common_begun h)) (last-listed (begins_word Expanded) w 0x6F00 refl)
      (or_either (is_common w) (eqb w 0x6F00) e)
  word-begun WithData e = data_begun (λ b. eqb b 0x90 || eqb b 0x62) refl refl e

-- a word of some words is below 65,536, and read where it stands
module _ (words : Words) (w : ℕ) (is : is_word words w ≡ true) where
  pub word_small : w < 65536
  word_small = ltb-true w 65536 (and_left (ltb w 65536) (begins_word words (w / 256)) (word-begun w words is))

  pub word_read : (answer : List ℕ) (at : ℕ) → Stands (bytes2 w) answer at → word_at words answer at ≡ Ok w
  unfolding word_at bytes2
  word_read answer at s =
      let first : byte answer at ≡ w / 256 = stands-byte answer at (w / 256 % 256) (w % 256 ∷ []) s ∙ omega (arith, word_small) in
      let number = stands_num answer at w word_small s in
      let inside = stands-inside answer at (bytes2 w) s in
      let begins = and_right (ltb w 65536) (begins_word words (w / 256)) (word-begun w words is) in
      sym
      (le_no (length answer) at _ (omega arith)
      (no (not (begins_word words (byte answer at))) _ (rw (first, begins))
      (le_no (length answer) (at + 1) _ (omega arith)
      (yes (is_word words (num_at answer at)) _ (rw number is) (ap Ok (sym number))))))
