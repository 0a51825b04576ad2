-- The records that a search from a record of the file finds are no more than the file has, and the first of them is one of the file's. Assumes nothing.
use mathlib.Core.Bool.{Bool, true, false}
use mathlib.Core.List.{List, [], ◌∷◌, ◌++◌}
use Prim.Native.Nat.{ℕ, zero, suc, ◌+◌, ◌-◌, ◌≤◌}
use native.Mathlib.Omega.{arith}
use lib.Dec.{eqb}
use lib.ListN.{length, length-append}
use Rattle.octets.specs.Choice.{pick}
use Rattle.octets.specs.Bytes.{contains}
use Rattle.card.specs.declared.Row.{Row}
use Rattle.card.specs.Sound.{record_count}
use Rattle.plan.specs.Files.{record_bytes, noted, next_searched, to_search, found_among, found_records, search_forward}
use Rattle.plan.proofs.Found.{few-left, noted-few}

-- n records from a number on, forwards or back, are all among m
abbrev Among : Bool → ℕ → ℕ → ℕ → Type 0
Among true m n number = (1 ≤ number) × (number + n ≤ m + 1)
Among false m n number = (n ≤ number) × (number ≤ m)

among_this : (b : Bool) (m n number : ℕ) → Among b m (suc n) number → (1 ≤ number) × (number ≤ m)
among_this true m n number h = omega arith
among_this false m n number h = omega arith

among_next : (b : Bool) (m n number : ℕ) → Among b m (suc n) number → Among b m n (pick b (number + 1) (number - 1))
unfolding pick
among_next true m n number h = omega arith
among_next false m n number h = omega arith

among_all : (b : Bool) (m number : ℕ) → 1 ≤ number → number ≤ m → Among b m (pick b (m + 1 - number) number) number
unfolding pick
among_all true m number h g = omega arith
among_all false m number h g = omega arith

-- the first of a list, if there is one, is among m
abbrev pub First : ℕ → List ℕ → Type 0
First m [] = Unit {0}
First m (x ∷ xs) = (1 ≤ x) × (x ≤ m)

first-noted : (b : Bool) (m number : ℕ) (rest : List ℕ) → (1 ≤ number) × (number ≤ m) → First m rest → First m (noted b number ++ rest)
unfolding noted pick
first-noted true m number rest h g = h
first-noted false m number rest h g = g

module _ (r : Row) (content : List ℕ) (p2 : ℕ) («data» : List ℕ) where
  among_few : (n number : ℕ) → length (found_among r content p2 «data» n number) ≤ n
  unfolding found_among
  among_few zero number = omega arith
  among_few (suc n) number =
      simp length-append (omega (arith, noted-few (contains (record_bytes r content number) «data») number, among_few n (next_searched p2 number)))

  among_first : (m n number : ℕ) → Among (eqb p2 search_forward) m n number → First m (found_among r content p2 «data» n number)
  unfolding found_among next_searched
  among_first m zero number h = tt
  among_first m (suc n) number h =
      first-noted (contains (record_bytes r content number) «data») m number _ (among_this (eqb p2 search_forward) m n number h)
      (among_first m n (pick (eqb p2 search_forward) (number + 1) (number - 1)) (among_next (eqb p2 search_forward) m n number h))

  module _ (number : ℕ) (here : 1 ≤ number) (there : number ≤ record_count r) where
    pub found-few : length (found_records r content p2 «data» number) ≤ record_count r
    unfolding found_records
    found-few = omega (arith, among_few (to_search r p2 number) number, few-left r p2 number here there)

    pub found_first : First (record_count r) (found_records r content p2 «data» number)
    unfolding found_records to_search
    found_first = among_first (record_count r) (to_search r p2 number) number (among_all (eqb p2 search_forward) (record_count r) number here there)
