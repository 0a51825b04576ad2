-- Demand 3: every history of calls whose scripts are bytes, with response memories of their own and with one for all, and the plain case,
-- a take-back after an accepted run. Assumes nothing.
use Rattle.demands.specs.Demand3.{Demand3}
use Rattle.demands.proofs.LawsTaken.{taken_back}
use Rattle.demands.proofs.History.{replayed}
use Rattle.demands.proofs.Memory.{length_alone_lem}
use Rattle.demands.proofs.OneMemory.{told-afresh, told-again}

pub demand3 : Demand3
demand3 =
    record {
      history = replayed;
      take_back = taken_back;
      length_alone = length_alone_lem;
      afresh = told-afresh;
      one_memory = told-again;
    }
