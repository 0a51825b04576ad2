-- "Each script starts afresh."
use Rattle.std.specs.Prelude.{ℕ, List}
use Rattle.octets.specs.Choice.{pick}
use Rattle.octets.specs.Bytes.{zeros}
use Rattle.card.specs.declared.Row.{Row}
use Rattle.card.specs.Row.{is_directory, is_cyclic}
use Rattle.session.specs.declared.Standing.{Standing}
use Rattle.session.specs.declared.Session.{Session}

-- how many bytes can wait: "255 waiting bytes"
abbrev pub most_waiting : ℕ
most_waiting = 255

-- "no file is current, no record number"
abbrev pub none : ℕ
none = 0

-- "The root is the MF (application 0) or the named ADF; the directory is the root, no file is current, no record number,
-- nothing waits."
unfoldable pub start_standing : ℕ → Standing
start_standing application =
    record {
      root = application;
      directory = application;
      file = none;
      record_number = none;
      valid = 0;
      word = 0;
    }

-- "A session starts with 255 waiting bytes of zero, none of them valid."
unfoldable pub start_waiting : List ℕ
start_waiting = zeros most_waiting

-- where a script stands, and the waiting bytes
abbrev pub session_of : Standing → List ℕ → Session
session_of standing waiting = record { standing = standing; waiting = waiting }

-- how a script's session starts
abbrev pub start : ℕ → Session
start application = session_of (start_standing application) start_waiting

-- the first `valid` of the waiting bytes wait, with a word kept
unfoldable pub waits : Standing → ℕ → ℕ → Standing
waits s valid word =
    record {
      root = s.root;
      directory = s.directory;
      file = s.file;
      record_number = s.record_number;
      valid = valid;
      word = word;
    }

-- "the next command drops what waited, C0 apart"
abbrev pub dropped : Standing → Standing
dropped s = waits s 0 0

-- the record number moves
unfoldable pub at_record : Standing → ℕ → Standing
at_record s number =
    record {
      root = s.root;
      directory = s.directory;
      file = s.file;
      record_number = number;
      valid = s.valid;
      word = s.word;
    }

-- directory, file and record number move
unfoldable pub moved : Standing → ℕ → ℕ → ℕ → Standing
moved s directory file number =
    record {
      root = s.root;
      directory = directory;
      file = file;
      record_number = number;
      valid = s.valid;
      word = s.word;
    }

-- "A directory becomes current with no file; a file makes its parent the directory. Record number: 1 for cyclic, else none."
unfoldable pub selected : Standing → ℕ → Row → Standing
selected s e r =
    pick (is_directory r)
    (moved s e none none)
    (moved s r.parent e (pick (is_cyclic r) 1 none))
