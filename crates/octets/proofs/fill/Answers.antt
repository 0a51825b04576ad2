-- `octets::fill` meets its contract: the part that is filled is the run of n equal bytes. Assumes nothing.
use mathlib.Core.Path.{ap, ◌∙◌}
use lib.ListN.{length, length-replicate, replicate}
use Rattle.octets.proofs.Writes.{write_lent, part-lent, part_length}
use Rattle.octets.proofs.fill.Goals as goal

pub returns : goal.returns
returns c =
    let a = c.args in
    write_lent a.m.now a.at a.n (c.fill.ensures.after (λ y e. e) ∙ ap (λ k. replicate k a.b) (ap length (part-lent a.m.now a.at a.n) ∙ part_length a.m.now a.at a.n c.requires)) (length-replicate a.n a.b)
