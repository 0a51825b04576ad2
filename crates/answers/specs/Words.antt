-- The words that the engine can give, and a word that is read byte by byte.
use Rattle.std.specs.Prelude.{ℕ, ◌+◌, Bool, not, ◌&&◌, ◌||◌, List, length, leb, eqb, Result, Ok, Err}
use Rattle.octets.specs.Choice.{pick}
use Rattle.octets.specs.Bytes.{byte, num_at}
use Rattle.answers.specs.declared.words.Words.{Words}
use Rattle.answers.specs.declared.words.Words.TheVariants.{Compact, Expanded, WithData}

-- the words behind data
abbrev pub has_data : ℕ → Bool
has_data word = eqb word 0x9000 || (eqb word 0x6282 || eqb word 0x6283)

-- the words of both formats
unfoldable pub is_common : ℕ → Bool
is_common word =
    has_data word
    || (eqb word 0x6581
    || (eqb word 0x6700
    || (eqb word 0x6981
    || (eqb word 0x6982
    || (eqb word 0x6984
    || (eqb word 0x6985
    || (eqb word 0x6986
    || (eqb word 0x6A82
    || (eqb word 0x6A83
    || (eqb word 0x6A86
    || (eqb word 0x6B00 || (eqb word 0x6D00 || (eqb word 0x6E00 || eqb word 0x9850)))))))))))))

-- whether a word is one of those: "report 61 and the length" in compact alone, "gets 6F00" in expanded alone
unfoldable pub is_word : Words → ℕ → Bool
is_word Compact word = is_common word || (leb 0x6101 word && leb word 0x61FF)
is_word Expanded word = is_common word || eqb word 0x6F00
is_word WithData word = has_data word

-- whether a byte is the first of one of those
unfoldable pub begins_common : ℕ → Bool
begins_common b =
    eqb b 0x90
    || (eqb b 0x62
    || (eqb b 0x65
    || (eqb b 0x67
    || (eqb b 0x69 || (eqb b 0x6A || (eqb b 0x6B || (eqb b 0x6D || (eqb b 0x6E || eqb b 0x98))))))))

unfoldable pub begins_word : Words → ℕ → Bool
begins_word Compact b = begins_common b || eqb b 0x61
begins_word Expanded b = begins_common b || eqb b 0x6F
begins_word WithData b = eqb b 0x90 || eqb b 0x62

-- the word at a place, or where reading it stops: a byte is missing, or no word goes on so
unfoldable pub word_at : Words → List ℕ → ℕ → Result ℕ ℕ
word_at words answer at =
    pick (leb (length answer) at)
    (Err (length answer))
    (pick (not (begins_word words (byte answer at)))
    (Err at)
    (pick (leb (length answer) (at + 1))
    (Err (length answer))
    (pick (is_word words (num_at answer at)) (Ok (num_at answer at)) (Err (at + 1)))))
