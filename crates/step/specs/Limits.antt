-- The limits of a script: how long it may be, and how many bytes of R-APDUs it may have.
use Rattle.std.specs.Prelude.{ℕ, ◌+◌, Bool, length, ltb}
use Rattle.octets.specs.Choice.{pick}
use Rattle.tlv.specs.Lengths.{length_bytes}
use Rattle.session.specs.declared.Standing.{Standing}
use Rattle.plan.specs.Ends.{Plan, failed}
use Rattle.command.specs.declared.checks.Check.TheVariants.{AnswerTooLong}
use Rattle.command.specs.Outcomes.{data_count}

-- "script length not 1 to 1,024"
abbrev pub longest_script : ℕ
longest_script = 1024

-- how many bytes an R-APDU takes whose data are n bytes: "23, length, data, status"
unfoldable pub rapdu_size : ℕ → ℕ
rapdu_size n = 1 + (length (length_bytes (n + 2)) + (n + 2))

-- "would pass 1,000 bytes"
abbrev pub most_kept : ℕ
most_kept = 1000

-- "If R-APDUs kept so far and this one (0 for AA and case 1 or 3 or a bad size) would pass 1,000 bytes, the command changes
-- nothing, gets 6F00 and stops.": a plan, where `kept` bytes of R-APDUs are kept and this one counts or not
unfoldable pub limited : ℕ → Bool → Standing → Plan → Plan
limited kept counts s p =
    pick (ltb most_kept (kept + pick counts (rapdu_size (data_count p.outcome)) 0)) (failed s AnswerTooLong) p
