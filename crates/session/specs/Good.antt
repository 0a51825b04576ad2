-- A session on a table: its directory and its file belong to its application, the record number is one of its file's, or none, and the
-- word that is kept for waiting bytes is one that a command leaves with them.
use Rattle.std.specs.Prelude.{ℕ, ◌≤◌, ◌<◌, true, ◌≡◌, List}
use Rattle.card.specs.Row.{entries, row_of, is_directory, is_file, has_records}
use Rattle.card.specs.Sound.{record_count}
use Rattle.card.specs.Tree.{is_root, root_of}
use Rattle.session.specs.declared.Standing.{Standing}
use Rattle.session.specs.Session.{none, most_waiting}
use Rattle.session.specs.Words.{CanBeKept}

-- an entry of a table that belongs to a root
pub record Belongs (t : List ℕ) (root e : ℕ) : Type 0 where
  pub inside : e < entries t
  pub owner : root_of t e ≡ root

-- a current file, with a record number
pub record GoodFile (t : List ℕ) (root file number : ℕ) : Type 0 where
  pub belongs : Belongs t root file
  pub is_file : is_file (row_of t file) ≡ true
  pub numbered : 1 ≤ number → has_records (row_of t file) ≡ true
  pub within : 1 ≤ number → number ≤ record_count (row_of t file)

pub record Good (t : List ℕ) (s : Standing) : Type 0 where
  pub root_inside : s.root < entries t
  pub root : is_root (row_of t s.root) ≡ true
  pub directory : Belongs t s.root s.directory
  pub is_directory : is_directory (row_of t s.directory) ≡ true
  pub file : 1 ≤ s.file → GoodFile t s.root s.file s.record_number
  pub unnumbered : s.file ≡ none → s.record_number ≡ none
  pub valid : s.valid ≤ most_waiting
  pub word : 1 ≤ s.valid → CanBeKept s.word
