-- Nothing crosses: what a script selects and reads belongs to its application, and a run leaves every entry and every file byte of
-- another application as it was. On an image that was bought in, the provider name of one fleet was written into a file of another
-- application; no script of this engine can do that.
use Rattle.std.specs.Prelude.{ℕ, ◌+◌, ◌≤◌, ◌<◌, List, [], ◌∷◌, ◌≡◌}
use Rattle.octets.specs.Bytes.{part}
use Rattle.card.specs.Row.{Card, entries, entry, row_of}
use Rattle.card.specs.Tree.{root_of}
use Rattle.tlv.specs.Templates.{template_of}
use Rattle.journal.specs.Changes.{with_mark}
use Rattle.command.specs.declared.Format.TheVariants.{Compact, Expanded}
use Rattle.command.specs.declared.Outcome.TheVariants.{FromFiles}
use Rattle.step.specs.Steps.{State}
use Rattle.expanded.specs.Expanded.{Progress}
use Rattle.engine.specs.Numbers.{Arguments, format_of}
use Rattle.demands.specs.Commands.{states_after, progress_after}

-- what holds of each of a list
abbrev pub Every : {S : Type 0} → (S → Type 0) → List S → Type 0
Every P [] = Unit
Every P (s ∷ rest) = P s × Every P rest

-- an entry that belongs to another application: the way up from it leads to another root
pub record OfAnother (t : List ℕ) (root e : ℕ) : Type 0 where
  pub inside : e < entries t
  pub elsewhere : root_of t e ≡ root → ⊥

-- a card on which every entry and every file byte of the other applications is as before
pub record OthersKept (root : ℕ) (before after : Card) : Type 0 where
  pub table_bytes : (e : ℕ) → OfAnother before.table root e → entry after.table e ≡ entry before.table e
  pub file_bytes :
      (e : ℕ) → OfAnother before.table root e
      → part after.files (row_of before.table e).start (row_of before.table e).size
      ≡ part before.files (row_of before.table e).start (row_of before.table e).size

-- `n` bytes of the file memory from a place on that are bytes of a file
pub record InFile (t : List ℕ) (file place n : ℕ) : Type 0 where
  pub some : 1 ≤ file
  pub least : (row_of t file).start ≤ place
  pub most : place + n ≤ (row_of t file).start + (row_of t file).size

-- a script after a command: its directory belongs to its application, its file does, if it has one, and what the command read from the
-- file memory lies in that file
pub record Within (root : ℕ) (st : State) : Type 0 where
  pub directory : root_of st.card.table st.step.session.standing.directory ≡ root
  pub file :
      1 ≤ st.step.session.standing.file → root_of st.card.table st.step.session.standing.file ≡ root
  pub reads :
      (word place n : ℕ) → st.step.outcome ≡ FromFiles word place n
      → InFile st.card.table st.step.session.standing.file place n

-- a run on a card, and the card after it: its script stays within its application after each command that runs, and the other
-- applications are as they were
pub record Apart (a : Arguments) (c after : Card) : Type 0 where
  pub compact :
      format_of a.format a.script ≡ Compact
      → Every (Within a.application) (states_after a.script a.application a.domain (with_mark c))
  pub expanded :
      format_of a.format a.script ≡ Expanded
      → Every
      (λ (p : Progress). Within a.application p.state)
      (progress_after (template_of a.script) a.script a.application a.domain (with_mark c))
  pub others : OthersKept a.application c after
