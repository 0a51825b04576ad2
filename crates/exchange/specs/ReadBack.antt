-- "What the engine answers must be read back to the same count, status words and data".
use Rattle.std.specs.Prelude.{ℕ, Option, Bool, true, false, List, [], ◌∷◌, ◌≡◌, length, Ok}
use Rattle.card.specs.Row.{Card}
use Rattle.tlv.specs.declared.template.Template.{Template}
use Rattle.tlv.specs.Templates.{template_of}
use Rattle.journal.specs.Changes.{with_mark}
use Rattle.command.specs.declared.Format.{Format}
use Rattle.command.specs.declared.Format.TheVariants.{Compact, Expanded}
use Rattle.command.specs.Outcomes.{word_of, data_of}
use Rattle.step.specs.Steps.{State}
use Rattle.compact.specs.Compact as compact
use Rattle.expanded.specs.Capdu.{capdu_command}
use Rattle.expanded.specs.Expanded.{Progress, keeps}
use Rattle.engine.specs.Numbers.{Arguments, format_of}
use Rattle.engine.specs.Calls.{run}
use Rattle.engine.specs.Worked.{answer_of}
use Rattle.demands.specs.Commands as commands
use Rattle.demands.specs.Commands.{Piece, pieces_of, is_definite, progress_after}
use Rattle.demands.specs.Demand2.{format_number}
pub use Rattle.answers.specs.Told.{Reply, replied, bad_format}
unfoldable pub use Rattle.answers.specs.Told.{told_from}
use Rattle.answers.specs.Answers.{read_answer}

-- ---- what the run did

-- the word and the data of the last command of a state
unfoldable pub last_reply : State → Reply
last_reply st =
    replied (word_of st.step.outcome) (data_of st.step.outcome st.card.files st.step.session.waiting)

-- what a piece of a template came to, by the progress after it
unfoldable pub reply_to : Piece → Progress → Reply
reply_to (commands.capdu bytes) p = last_reply p.state
reply_to (commands.bad_format code) p = bad_format code

-- whether it stands in the answer: "R-APDUs of case 2 and 4 commands (by size) and of the last command, once (a Bad format TLV counts as
-- the last command)" under AA, all under AE
unfoldable pub stands : Bool → Piece → List Progress → Bool
stands definite (commands.capdu bytes) [] = true
stands definite (commands.capdu bytes) (p ∷ ps) = keeps definite (capdu_command bytes).command.case
stands definite (commands.bad_format code) ps = true

-- the replies that stand in the answer, of the pieces that ran
unfoldable pub standing : Bool → List Piece → List Progress → List Reply
standing definite pieces [] = []
standing definite [] (p ∷ ps) = []
standing definite (piece ∷ pieces) (p ∷ ps) =
    elim (stands definite piece ps) [
      | true ↦ reply_to piece p ∷ standing definite pieces ps
      | false ↦ standing definite pieces ps
    ]

-- the replies of a run that is accepted: of a compact one the last command's alone
unfoldable pub replies_of : Format → Arguments → Card → List Reply
replies_of Compact a c = last_reply (compact.run a.script a.application a.domain (with_mark c)) ∷ []
replies_of Expanded a c =
    let template : Option Template = template_of a.script in
    standing (is_definite template) (pieces_of template a.script)
    (progress_after template a.script a.application a.domain (with_mark c))

-- ---- the statement

-- an answer that is read: its count, and its results one by one
pub record IsRead (format : ℕ) (answer : List ℕ) (count : ℕ) (replies : List Reply) : Type 0 where
  pub first : ℕ
  pub end : ℕ
  pub summary : read_answer format answer ≡ Ok (record { count = count; first = first; end = end })
  pub results : told_from (length answer) format answer first end ≡ replies

-- the reader on the answer of an accepted run gives the run's count, and the words and data of the commands whose R-APDU stands in it
pub record ReadBack (a : Arguments) (c : Card) : Type 0 where
  pub read :
      IsRead (format_number (format_of a.format a.script)) (answer_of (run a c)) (run a c).answer.count
      (replies_of (format_of a.format a.script) a c)
