-- What the functions of a run ask and promise besides the paper's rules.
use Rattle.std.specs.Prelude.{ℕ, Some, Result, Ok, Err, ◌+◌, ◌≤◌, ◌<◌, length}
use Rattle.card.specs.Row.{Card}
use Rattle.journal.specs.Entries.{scripts_on_trial, entry_bytes}
use Rattle.journal.specs.Promised.{HasRoom, Starts}
use Rattle.journal.specs.Changes.{with_mark}
use Rattle.command.specs.declared.Format.{Format}
use Rattle.engine.specs.declared.Refused.{Refused}
use Rattle.engine.specs.declared.numbers.Start.{Start}
use Rattle.engine.specs.declared.numbers.Start.TheVariants.{Compact, Expanded}
use Rattle.step.specs.Limits.{longest_script}
use Rattle.tlv.specs.Promised.{TemplateFits}
use Rattle.engine.specs.declared.Answer.{Answer}
use Rattle.engine.specs.Numbers.{Arguments, least_response}

-- an answer's numbers are small: they find room in one number at the C boundary
abbrev pub AnswerFits : Answer → Type 0
AnswerFits a = (a.number < 256) × (a.count < 65536) × (a.length < 65536)

-- the value of a template that a run starts with lies in the script
unfoldable pub StartFits : ℕ → Result Start Refused → Type 0
StartFits script (Ok Compact) = Unit
StartFits script (Ok (Expanded template)) = TemplateFits script (Some template)
StartFits script (Err e) = Unit

-- a script of a format can be run: its mark finds room, with it the card is one that a script starts from, and script and response
-- memory have the lengths that the numbers ask for
pub record RunScriptAsks (format : Format) (c : Card) (a : Arguments) : Type 0 where
  pub room : HasRoom c.journal (entry_bytes 0)
  pub trials : scripts_on_trial c.journal + 1 < 256
  pub starts : Starts (with_mark c) a.application
  pub script_short : length a.script ≤ longest_script
  pub response_long : least_response format ≤ length a.response
