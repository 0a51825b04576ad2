-- Replies as the bytes of an expanded answer, and what is asked of them so that they are read back: each word is one that can stand with its
-- data, all but the last go on, and a Bad format TLV is the last.
use Prim.Native.Nat.{ℕ, ◌+◌, ◌≤◌, ◌<◌}
use mathlib.Core.Bool.{Bool, true, false}
use mathlib.Core.List.{List, [], ◌∷◌, ◌++◌}
use mathlib.Core.Path.{◌≡◌}
use lib.ListN.{length}
use Rattle.command.specs.Outcomes.{goes_on}
use Rattle.expanded.specs.Expanded as expanded
use Rattle.answers.specs.Words.{is_word}
use Rattle.answers.specs.Results.{words_behind}
use Rattle.exchange.specs.ReadBack.{Reply, replied, bad_format}

unfoldable pub encoded : Reply → List ℕ
encoded (replied word d) = expanded.rapdu d word
encoded (bad_format code) = expanded.bad_format code

unfoldable pub all_encoded : List Reply → List ℕ
all_encoded [] = []
all_encoded (r ∷ rs) = encoded r ++ all_encoded rs

-- a reply with a word and data
pub record GoodResult (last : Bool) (w : ℕ) (d : List ℕ) : Type 0 where
  pub short : length d + 2 < 65536
  pub word : is_word (words_behind (length d)) w ≡ true
  pub goes : last ≡ false → goes_on w ≡ true

-- the code of a Bad format TLV
pub record GoodCode (ends : Bool) (code : ℕ) : Type 0 where
  pub least : 1 ≤ code
  pub most : code ≤ 3
  pub last : ends ≡ true

unfoldable pub GoodReply : Bool → Reply → Type 0
GoodReply last (replied word d) = GoodResult last word d
GoodReply last (bad_format code) = GoodCode last code

unfoldable pub AllGood : List Reply → Type 0
AllGood [] = Unit
AllGood (r ∷ []) = GoodReply true r
AllGood (r ∷ next ∷ rs) = GoodReply false r × AllGood (next ∷ rs)
