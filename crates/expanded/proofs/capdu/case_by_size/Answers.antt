-- `expanded::capdu::case_by_size` meets its contract: each arm is the one that the definition picks. Assumes nothing.
use Rattle.octets.proofs.Picks.{choices}
use Rattle.expanded.specs.Capdu.{case_by_size}
use Rattle.expanded.proofs.Fits.{case-told}
use Rattle.expanded.proofs.capdu.case_by_size.Goals as goal

pub returns-then-size-eq4 : goal.returns-then-size-eq4
unfolding case_by_size
returns-then-size-eq4 c =
    case-told c.args.capdu.now (rw (← c.fifth-lc.ensures.0) (search choices))

pub returns-then-size-eq5 : goal.returns-then-size-eq5
unfolding case_by_size
returns-then-size-eq5 c =
    case-told c.args.capdu.now (rw (← c.fifth-lc.ensures.0) (search choices))

pub returns-then-size-lc : goal.returns-then-size-lc
unfolding case_by_size
returns-then-size-lc c =
    case-told c.args.capdu.now (rw (← c.fifth-lc.ensures.0) (search choices))

pub returns-then-size-lc-2 : goal.returns-then-size-lc-2
unfolding case_by_size
returns-then-size-lc-2 c =
    case-told c.args.capdu.now (rw (← c.fifth-lc.ensures.0) (search choices))

pub returns : goal.returns
unfolding case_by_size
returns c =
    case-told c.args.capdu.now (rw (← c.fifth-lc.ensures.0) (search choices))
