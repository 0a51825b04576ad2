-- `octets::within` meets its contract: more bytes stand nowhere, and none stand at once. Assumes nothing.
use mathlib.Core.Path.{refl, sym}
use Rattle.octets.proofs.Same.{starts_empty, contains-found, contains-short}
use Rattle.octets.proofs.within.Goals as goal

pub returns-then-m-d : goal.returns-then-m-d
returns-then-m-d c = sym (contains-short _ _ c.if-m-d.true)

pub returns-in-0 : goal.returns-in-0
returns-in-0 c =
    let a = c.args in
    contains-found a.m.now a.d.now 0 refl (sym (starts_empty a.m.now a.d.now c.in-0.is))
