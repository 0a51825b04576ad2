-- What a build gives, case by case: each refusal in its order, and the script. Assumes nothing.
use mathlib.Core.Path.{◌≡◌, refl, sym, subst, ◌∙◌}
use mathlib.Core.Bool.{true, false}
use mathlib.Core.List.{List}
use Prim.Native.Nat.{ℕ, ◌≤◌, ◌<◌}
use native.Mathlib.Omega.{arith}
use lib.ListN.{length}
use Rattle.std.specs.Prelude.{Result, Ok, Err}
use Rattle.octets.specs.Bytes.{overwrite}
use Rattle.octets.proofs.Picks.{yes, no, eq_yes, eq_no, lt_yes, lt_no}
use Rattle.step.specs.Limits.{longest_script}
use Rattle.command.specs.declared.Format.{Format}
use Rattle.operations.specs.declared.Built.{Built}
use Rattle.operations.specs.declared.Refusal.{Refusal}
use Rattle.operations.specs.declared.Refusal.TheVariants.{NotAList, NotCarried, TooLong, NoRoom}
use Rattle.operations.specs.Rows.{most_operations, is_list, operations_in, operations_of}
use Rattle.operations.specs.Carried.{number_of, format_of, first_not_carried}
use Rattle.operations.specs.Scripts.{script_of}
use Rattle.operations.specs.Sizes.{all_size, script_size, Measures}
use Rattle.operations.specs.Builds.{BuiltFits, refused, in_numbers, building, placed, built_list, build}
use Rattle.operations.proofs.Left.{few}
use Rattle.operations.proofs.Carrying.{number_back, no_format}
use Rattle.operations.proofs.Scripted.{script-length}

refused_fit : (refusal operation : ℕ) → refusal ≤ 4 → operation ≤ most_operations → BuiltFits (refused refusal operation)
refused_fit refusal operation r o = record { refusal = r; operations = o; length = omega arith }

module _ (format : ℕ) (list d m : List ℕ) where
  -- an answer that a build gives, with what it leaves in the memory
  abbrev pub Given : List ℕ → Result Built Refusal → Type 0
  Given w built = (building built w ≡ build format list d m) × BuiltFits (in_numbers built)

  pub no_list : is_list (length list) ≡ false → Given m (Err NotAList)
  unfolding build
  no_list e = (no (is_list (length list)) _ e refl, refused_fit 1 0 (omega arith) (omega arith))

  module _ (whole : is_list (length list) ≡ true) where
    pub not_carried : {bad : ℕ} → bad ≡ first_not_carried format (length d) 1 (operations_of list)
        → 1 ≤ bad → bad ≤ most_operations → Given m (Err (NotCarried bad))
    unfolding build built_list
    not_carried {bad} e some few = (
      yes (is_list (length list)) _ whole (rw (← e) (eq_no bad 0 _ (λ none. omega arith) refl)),
      refused_fit 2 bad (omega arith) few,
    )

    -- what measuring refuses, and a number that is no format's
    pub measured-bad : (refusal : Refusal) → Measures format (length d) (operations_of list) (Err refusal) → Given m (Err refusal)
    unfolding Measures
    measured-bad (NotCarried bad) h = not_carried h.0 h.1 h.2
    measured-bad NotAList h = absurd h
    measured-bad TooLong h = absurd h
    measured-bad NoRoom h = absurd h

    pub no_format_lem : {refusal : Refusal} → Err refusal ≡ format_of format → Given m (Err refusal)
    no_format_lem e =
        let h = no_format format (length d) list whole e in
        rw h.0 (not_carried h.1 (omega arith) (omega arith))

    module _ (carried : first_not_carried format (length d) 1 (operations_of list) ≡ 0) where
      is-placed : placed (script_of format d (operations_of list)) (operations_in (length list)) m ≡ build format list d m
      unfolding build built_list
      is-placed = yes (is_list (length list)) _ whole (eq_yes (first_not_carried format (length d) 1 (operations_of list)) 0 _ carried refl)

      module _ {size : ℕ} (sized : size ≡ script_size format (all_size format (operations_of list))) where
        is_long : length (script_of format d (operations_of list)) ≡ size
        is_long = script-length format d (operations_of list) carried ∙ sym sized

        pub too_long : longest_script < size → Given m (Err TooLong)
        unfolding placed
        too_long h = (
          rw is_long (lt_yes longest_script size _ h refl) ∙ is-placed,
          refused_fit 3 0 (omega arith) (omega arith),
        )

        pub no_room : size ≤ longest_script → length m < size → Given m (Err NoRoom)
        unfolding placed
        no_room h g = (
          rw is_long (lt_no longest_script size _ h (lt_yes (length m) size _ g refl)) ∙ is-placed,
          refused_fit 4 0 (omega arith) (omega arith),
        )

        pub is-built : size ≤ longest_script → size ≤ length m → {w : List ℕ} {n : ℕ}
            → w ≡ overwrite m 0 (script_of format d (operations_of list)) → n ≡ operations_in (length list)
            → Given w (Ok (record { operations = n; length = size }))
        unfolding placed
        is-built h g {w} {n} e f =
            let most = few (length list) whole in (
              (λ i. building (Ok (record { operations = f i; length = size })) (e i))
                  ∙ rw is_long (lt_no longest_script size _ h (lt_no (length m) size _ g refl)) ∙ is-placed,
              record { refusal = omega arith; operations = omega arith; length = h },
            )

-- the same, where the format is known by its number
module _ (number : ℕ) {format : Format} (is : Ok format ≡ format_of number) (list d m : List ℕ) where
  pub by_number : (built : Result Built Refusal) {w : List ℕ} → Given (number_of format) list d m w built → Given number list d m w built
  by_number built {w} = subst (λ (k : ℕ). Given k list d m w built) (number_back number is)
