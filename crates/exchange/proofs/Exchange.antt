-- What a desk and a card say to each other, proved. Assumes nothing.
use Rattle.exchange.specs.Exchange.{Exchange}
use Rattle.exchange.proofs.Understood.{each_understood, one_list_lem}
use Rattle.exchange.proofs.ReadBack.{each_read}
use Rattle.exchange.proofs.Damaged.{cut_expanded_lem, cut_compact_lem, each_damaged}

pub exchange : Exchange
exchange =
    record {
      understood = each_understood;
      one_list = one_list_lem;
      read_back = each_read;
      damaged = each_damaged each_read;
      cut_expanded = cut_expanded_lem;
      cut_compact = cut_compact_lem;
    }
