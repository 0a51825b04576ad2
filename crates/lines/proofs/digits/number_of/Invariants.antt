use Rattle.std.proofs.Common.{◌≡◌, ◌^◌, ◌<◌, drop}
use Rattle.lines.specs.Digits.{number_from, number_of}
use Rattle.lines.proofs.digits.number_of.Given as goal

abbrev pub invariant-loop-b : goal.invariant-loop-b
invariant-loop-b l = (l.n < l.base ^ l.b-index) × (number_from l.base l.n (drop l.b-index l.digits) ≡ number_of l.base l.digits)
