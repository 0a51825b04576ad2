-- "A command ends well, with or without data, or with an error word, changing nothing."
use Rattle.std.specs.Prelude.{ℕ, Bool, true, false, ◌&&◌, ◌||◌, List, [], take, leb, eqb}
use Rattle.octets.specs.Bytes.{part}
pub use Rattle.session.specs.Words.{normal, end_of_data, selected_deactivated, bytes_wait}
use Rattle.command.specs.declared.Outcome.{Outcome}
use Rattle.command.specs.declared.Outcome.TheVariants.{Well, FromFiles, FromWaiting, Error}
use Rattle.command.specs.Checks.{check_word}

-- the word of an outcome: "When an answer is an enum, a definition provides this paper's number and values for each of the enum's cases."
abbrev pub word_of : Outcome → ℕ
word_of (Well word) = word
word_of (FromFiles word place n) = word
word_of (FromWaiting word n) = word
word_of (Error k) = check_word k

-- the data of an outcome: "The data handed out come from the file memory or from the waiting bytes."
unfoldable pub data_of : Outcome → List ℕ → List ℕ → List ℕ
data_of (Well word) files waiting = []
data_of (FromFiles word place n) files waiting = part files place n
data_of (FromWaiting word n) files waiting = take n waiting
data_of (Error k) files waiting = []

-- how many data bytes an outcome has
abbrev pub data_count : Outcome → ℕ
data_count (Well word) = 0
data_count (FromFiles word place n) = n
data_count (FromWaiting word n) = n
data_count (Error k) = 0

-- whether a command ended with an error word
abbrev pub is_error : Outcome → Bool
is_error (Well word) = false
is_error (FromFiles word place n) = false
is_error (FromWaiting word n) = false
is_error (Error k) = true

-- "9000, 6282, 6283 and 61xx go on; every other word stops the script."
abbrev pub goes_on : ℕ → Bool
goes_on word =
    eqb word normal
    || (eqb word end_of_data || (eqb word selected_deactivated || (leb 0x6100 word && leb word 0x61FF)))
