-- A run with format 2 is the run with the number of the format that is found in its script. The two differ in the format number alone,
-- which a run asks twice: whether it is known, and what the format is. Both numbers are known, both make it the format found, and a
-- script that is run asks the number no more. Assumes nothing.
use mathlib.Core.Path.{◌≡◌, refl, ap}
use mathlib.Core.Bool.{true}
use mathlib.Core.List.{List}
use Prim.Native.Nat.{ℕ}
use Rattle.octets.specs.Choice.{pick}
use Rattle.card.specs.Row.{Card}
use Rattle.command.specs.declared.Format.{Format}
use Rattle.command.specs.declared.Format.TheVariants.{Compact, Expanded}
use Rattle.engine.specs.Numbers.{Arguments, detected, format_of, format_known, arguments_fit, run_refusals}
use Rattle.engine.specs.Calls.{run_script, run}
use Rattle.demands.specs.Called.{running, result_of}
use Rattle.demands.specs.Demand2.{format_number, as_found}

-- the arguments with another format number
abbrev with_format : ℕ → Arguments → Arguments
with_format n a = record { application = a.application; domain = a.domain; format = n; script = a.script; response = a.response }

-- two known numbers that make the same format make the same run
same-run : (f : Format) (n : ℕ) (a : Arguments) (c : Card) → format_known a.format ≡ true → format_of a.format a.script ≡ f → format_known n ≡ true → format_of n a.script ≡ f
    → run a c ≡ run (with_format n a) c
unfolding run run_refusals arguments_fit run_script
same-run Compact n a c k e l g = rw (k, e, l, g)
same-run Expanded n a c k e l g = rw (k, e, l, g)

-- the number of a format is known, and makes it that format
own_known : (f : Format) → format_known (format_number f) ≡ true
unfolding format_number
own_known Compact = refl
own_known Expanded = refl

own_format_lem : (f : Format) (script : List ℕ) → format_of (format_number f) script ≡ f
unfolding format_number format_of pick
own_format_lem Compact script = refl
own_format_lem Expanded script = refl

-- 2 makes it the one that is found
found-format : (n : ℕ) (script : List ℕ) → n ≡ 2 → format_of n script ≡ detected script
unfolding format_of pick
found-format n script e = rw e

pub detection : (a : Arguments) (c : Card) → a.format ≡ 2 → result_of (running a) c ≡ result_of (running (as_found a)) c
unfolding result_of as_found
detection a c e =
    let f = detected a.script in
    same-run f (format_number f) a c (ap format_known e) (found-format a.format a.script e) (own_known f) (own_format_lem f a.script)
