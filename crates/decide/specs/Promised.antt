-- What promises speak of besides the rules: what the checks look at, what deciding a command asks for, what it comes to without and
-- with the journal's room, and what is decided.
use Rattle.std.specs.Prelude.{ℕ, ◌+◌, ◌≤◌, ◌<◌, ◌≡◌, Bool, true, not, ◌&&◌, List, [], ◌∷◌, ◌++◌, length, ltb, eqb, Result}
use Rattle.octets.specs.Choice.{pick}
use Rattle.card.specs.declared.Row.{Row}
use Rattle.std.specs.Prelude.{Some}
use Rattle.card.specs.Row.{has_records, Card, lent, entries, row_of}
use Rattle.card.specs.Sound.{sound_table}
use Rattle.journal.specs.Changes.{cost}
use Rattle.journal.specs.Promised.{HasRoom}
use Rattle.journal.specs.Sound.{sound_card}
use Rattle.session.specs.declared.Standing.{Standing}
use Rattle.session.specs.Session.{most_waiting}
use Rattle.session.specs.Select.{find, row_found}
use Rattle.session.specs.Promised.{FcpFits, StandsIn}
use Rattle.session.specs.Good.{Good}
use Rattle.command.specs.declared.Command.{Command}
use Rattle.command.specs.declared.Format.{Format}
use Rattle.command.specs.declared.checks.Check.{Check}
use Rattle.command.specs.declared.checks.Check.TheVariants.{NothingWaits, MoreThanWaits, SumTooLong, JournalFull}
use Rattle.command.specs.Instructions as ins
use Rattle.command.specs.Instructions.{is_known}
use Rattle.command.specs.Promised.{OfBytes}
use Rattle.plan.specs.declared.Change.{Change}
use Rattle.plan.specs.declared.Decision.{Decision}
use Rattle.plan.specs.Plans.{Situation, get_response}
use Rattle.plan.specs.Ends.{Plan, failed}
use Rattle.plan.specs.Promised.{plan_of, Fits, CostOfAsks}
use Rattle.decide.specs.Order.{formal_checks, bound_checks, later_checks}
use Rattle.decide.specs.Fails.{first_failing}
use Rattle.decide.specs.Decisions.{situation, decided}

-- what came of a list of checks is what comes of it in every situation of which `Known` holds
abbrev pub FirstOf : List Check → (Situation → Type 0) → Result (Unit {0}) Check → Type 0
FirstOf ks Known r = (w : Situation) → Known w → r ≡ first_failing w ks

-- what may be known of a situation: the command and how many data bytes it has; the session, and the row of the file that it works on
pub record OfCommand (c : Command) (lc : ℕ) (w : Situation) : Type 0 where
  pub command : w.command ≡ c
  pub size : length w.«data» ≡ lc

pub record OnFile (s : Standing) (r : Row) (w : Situation) : Type 0 where
  pub session : w.session ≡ s
  pub row : w.file.row ≡ r

-- and of a SELECT's: its format, command, data and session, and what it finds in a table
pub record OfSelect (format : Format) (c : Command) («data» : List ℕ) (s : Standing) (t : List ℕ) (w : Situation) : Type 0 where
  pub same_format : w.format ≡ format
  pub command : w.command ≡ c
  pub same_data : w.«data» ≡ «data»
  pub session : w.session ≡ s
  pub found : w.found ≡ find t s.root s.directory c.p1 «data»
  pub row : w.row ≡ row_found t (find t s.root s.directory c.p1 «data»)

-- what the formal checks look at, and what the checks on a file look at, up to the lengths
abbrev pub Formal : Command → ℕ → ℕ → Situation → Type 0
Formal c lc domain w = OfCommand c lc w × (w.domain ≡ domain)

abbrev pub Bound : Command → ℕ → Standing → Row → Situation → Type 0
Bound c lc s r w = OfCommand c lc w × OnFile s r w

-- what the checks on a file go by: the command's instruction, that the file's records are not empty, and that the command's numbers are bytes
abbrev pub FileCheckAsks : ℕ → Command → ℕ → Row → Type 0
FileCheckAsks i c lc r = (c.instruction ≡ i) × (has_records r ≡ true → 1 ≤ r.record_length) × OfBytes c lc

-- whether an instruction works on a file: each does, but SELECT and GET RESPONSE
abbrev pub is_of_file : ℕ → Bool
is_of_file i = is_known i && (not (eqb i ins.select) && not (eqb i ins.get_response))

-- an entry that SELECT finds is one of the table, its number is a byte, and its row has an FCP
pub record FoundFits (t : List ℕ) (e : ℕ) : Type 0 where
  pub inside : e < entries t
  pub byte : e < 256
  pub fcp : FcpFits (row_of t e)

-- what SELECT goes by: its instruction, a root and a directory of the table, and what it finds
pub record DecideSelectAsks (t «data» : List ℕ) (s : Standing) (c : Command) : Type 0 where
  pub instruction : c.instruction ≡ ins.select
  pub stands : StandsIn t s.root s.directory
  pub found : (e : ℕ) → find t s.root s.directory c.p1 «data» ≡ Some e → FoundFits t e

-- what the check of the journal's room goes by: the data are counted by a byte and the used bytes by two, they are no more than the
-- room, and a sum can wait
pub record WithRoomAsks (change : Change) (lc used room : ℕ) : Type 0 where
  pub brief : lc < 256
  pub short : used < 65536
  pub inside : used ≤ room
  pub cost : CostOfAsks change

-- a plan after the check of the journal's room
unfoldable pub roomed : ℕ → ℕ → Standing → Plan → Plan
roomed used room s plan = pick (ltb room (used + cost plan.writes)) (failed s JournalFull) plan

-- GET RESPONSE after the formal checks
unfoldable pub responded : Command → Standing → Plan
responded c s =
    pick (eqb s.valid 0)
    (failed s NothingWaits)
    (pick (ltb s.valid c.p3) (failed s MoreThanWaits) (get_response c s))

-- what comes of a command whose formal checks hold
unfoldable pub behind_form : Situation → Plan
behind_form w = decided w (first_failing w (later_checks w.command.instruction))

-- what comes of a file command, but for the journal's room
unfoldable pub roomless : Situation → Plan
roomless w = decided w (first_failing w (formal_checks ++ (bound_checks ++ (SumTooLong ∷ []))))

-- what a file command may go by: the table is sound, the session good, and the command's numbers are bytes
pub record FileCommandAsks (t files : List ℕ) (s : Standing) (c : Command) (lc : ℕ) : Type 0 where
  pub table : sound_table t files ≡ true
  pub good : Good t s
  pub bytes : OfBytes c lc

-- what deciding a command may go by: the card is sound, the session good, and the command's numbers are bytes
pub record DecideAsks (card : Card) (s : Standing) (c : Command) (lc : ℕ) : Type 0 where
  pub sound : sound_card card ≡ true
  pub good : Good card.table s
  pub bytes : OfBytes c lc

-- what is decided of a file command but for the journal's room, whatever the journal is: it lies inside the card
pub record Unroomed (format : Format) (domain : ℕ) (c : Command) («data» : List ℕ) (s : Standing) (t files bytes : List ℕ) (d : Decision) : Type 0 where
  pub same : (journal : List ℕ) → plan_of d «data» bytes ≡ roomless (situation format domain c «data» s (lent t files journal))
  pub fits : Fits (length t) (length files) (length «data») d.change

-- what is decided: the plan, which lies inside the card and finds room in the journal
pub record Decided (card : Card) («data» bytes : List ℕ) (plan : Plan) (d : Decision) : Type 0 where
  pub same : plan_of d «data» bytes ≡ plan
  pub fits : Fits (length card.table) (length card.files) (length «data») d.change
  pub journal : HasRoom card.journal (cost plan.writes)
