-- `lines::digits::put_decimal` meets its contract, with the number as its measure: the digits but the last are those of a tenth of it. Assumes nothing.
use Prim.Native.Nat.{◌/◌}
use native.Mathlib.Omega.{arith}
use Rattle.lines.proofs.Decimal.{place-most, put_one, put_more}
use Rattle.lines.proofs.digits.+put_decimal.Goals as goal

pub returns-then-n-lt10 : goal.returns-then-n-lt10
returns-then-n-lt10 t c =
    let a = c.args in
    put_one a.out.now a.at a.n _ (omega arith) c.sign.ensures c.if-n-lt10.true

pub bounds-out-end : goal.bounds-out-end
bounds-out-end t c =
    let a = c.args in
    omega (arith, place-most a.out.now a.at (a.n / 10) 18 (omega arith) c.put_decimal-end.ensures)

pub overflow_add-result-2 : goal.overflow_add-result-2
overflow_add-result-2 t c =
    let a = c.args in
    omega (arith, place-most a.out.now a.at (a.n / 10) 18 (omega arith) c.put_decimal-end.ensures)

pub returns : goal.returns
returns t c =
    let a = c.args in
    put_more a.out.now a.at a.n _ (omega arith) c.sign-2.ensures (omega arith) (omega arith) c.put_decimal-end.ensures
