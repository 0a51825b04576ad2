-- A search step by step: which record comes next, what is found of those that are left, and where it is noted.
-- The loop of `search` keeps `Going`: `left` records are still to be searched, from `number` on; the numbers noted so far stand at
-- the start of `out`; and they, followed by what is found among the records that are left, are what the whole search finds. A step
-- takes one record off (`found-next`), notes its number or not, and goes on to the next number, up or down as P2 says, which is one
-- of the file's while any is left (`next-inside`). With none left the notes are the whole (`ends`). Assumes nothing.
use mathlib.Core.Path.{◌≡◌, refl, sym, ap, ◌∙◌}
use mathlib.Core.Bool.{Bool, true, false}
use mathlib.Core.List.{List, [], ◌++◌, append_assoc, append-nil}
use Prim.Native.Nat.{ℕ, zero, suc, ◌+◌, ◌-◌, ◌≤◌, ◌<◌}
use native.Mathlib.Nat.{zero-add, not-suc-le-zero}
use native.Mathlib.Omega.{arith}
use lib.ListN.{length, length-append}
use Rattle.octets.specs.Choice.{pick}
use Rattle.octets.specs.Bytes.{overwrite, contains}
use Rattle.octets.proofs.Writes.{write-none, write-length, write_two}
use Rattle.card.specs.declared.Row.{Row}
use Rattle.card.specs.Sound.{record_count}
use Rattle.plan.specs.Files.{record_bytes, noted, next_searched, to_search, found_among, found_records}

-- forwards from a number or back: how many of m records are left, and the next number
few : (forward : Bool) (m number : ℕ) → 1 ≤ number → number ≤ m → pick forward (m + 1 - number) number ≤ m
unfolding pick
few true m number here there = omega arith
few false m number here there = there

next : (forward : Bool) (m number : ℕ) → 1 ≤ number → number ≤ m → pick forward (m + 1 - number) number - 1 ≡ pick forward (m + 1 - pick forward (number + 1) (number - 1)) (pick forward (number + 1) (number - 1))
unfolding pick
next true m number here there = omega arith
next false m number here there = refl

stays : (forward : Bool) (m number : ℕ) → number ≤ m → 0 < pick forward (m + 1 - number) number - 1 → (1 ≤ pick forward (number + 1) (number - 1)) × (pick forward (number + 1) (number - 1) ≤ m)
unfolding pick
stays true m number there h = (omega arith, omega arith)
stays false m number there h = (omega arith, omega arith)

module _ (r : Row) (p2 number : ℕ) (here : 1 ≤ number) (there : number ≤ record_count r) where
  pub few-left : to_search r p2 number ≤ record_count r
  unfolding to_search
  few-left = few _ _ number here there

  left-next : to_search r p2 number - 1 ≡ to_search r p2 (next_searched p2 number)
  unfolding to_search next_searched
  left-next = next _ _ number here there

  next-inside : 0 < to_search r p2 number - 1 → (1 ≤ next_searched p2 number) × (next_searched p2 number ≤ record_count r)
  unfolding to_search next_searched
  next-inside h = stays _ _ number there h

pub noted-few : (b : Bool) (number : ℕ) → length (noted b number) ≤ 1
unfolding noted pick
noted-few true number = omega arith
noted-few false number = omega arith

-- a search under way: the record that comes next is one of the file's, and what is noted, with what is left to search, is what the whole search finds
pub record Going (r : Row) (content : List ℕ) (p2 : ℕ) («data» : List ℕ) (from : ℕ) (out₀ out : List ℕ) (left number n : ℕ) : Type 0 where
  pub ahead : left ≡ to_search r p2 number
  pub inside : 0 < left → (1 ≤ number) × (number ≤ record_count r)
  pub room : n + left < length out₀
  pub same : length out ≡ length out₀
  pub notes : List ℕ
  pub noted : n ≡ length notes
  pub written : out ≡ overwrite out₀ 0 notes
  pub whole : notes ++ found_among r content p2 «data» left number ≡ found_records r content p2 «data» from

module _ (r : Row) (content : List ℕ) (p2 : ℕ) («data» : List ℕ) where
  pub begins : (from left : ℕ) (out₀ : List ℕ) → 1 ≤ from → from ≤ record_count r → record_count r < length out₀ → left ≡ to_search r p2 from → Going r content p2 «data» from out₀ out₀ left from 0
  unfolding found_records
  begins from left out₀ here there fits e =
      record {
        ahead = e;
        inside = λ h. (here, there);
        room = omega (arith, few-left r p2 from here there);
        same = refl;
        notes = [];
        noted = refl;
        written = sym (write-none out₀ 0);
        whole = rw e;
      }

  found-next : (left number : ℕ) → 0 < left → found_among r content p2 «data» left number ≡ noted (contains (record_bytes r content number) «data») number ++ found_among r content p2 «data» (left - 1) (next_searched p2 number)
  unfolding found_among
  found-next zero number h = absurd (not-suc-le-zero h)
  found-next (suc left) number h =
      let e : suc left - 1 ≡ left = omega arith in
      rw e

  found_none : (left number : ℕ) → left ≡ 0 → found_among r content p2 «data» left number ≡ []
  unfolding found_among
  found_none left number z = rw z

  module _ (from : ℕ) (out₀ out : List ℕ) (left number n : ℕ) (g : Going r content p2 «data» from out₀ out left number n) where
    pub goes_on_lem : (found : Bool) (out₁ : List ℕ) (n₁ number₁ : ℕ) → 0 < left → found ≡ contains (record_bytes r content number) «data» → out₁ ≡ overwrite out n (noted found number) → n₁ ≡ n + length (noted found number) → number₁ ≡ next_searched p2 number → Going r content p2 «data» from out₀ out₁ (left - 1) number₁ n₁
    goes_on_lem found out₁ n₁ number₁ some f o m s =
        let short = noted-few found number in
        let i = g.inside some in
        record {
          ahead = ap (λ (k : ℕ). k - 1) g.ahead ∙ left-next r p2 number i.0 i.1 ∙ ap (to_search r p2) (sym s);
          inside = λ h. rw s (next-inside r p2 number i.0 i.1 (rw g.ahead at h));
          room = omega arith;
          same = ap length o ∙ write-length out n (noted found number) (omega arith) ∙ g.same;
          notes = g.notes ++ noted found number;
          noted = m ∙ rw (length-append, g.noted);
          written = o ∙ rw (g.written, g.noted) (sym (rw zero-add at (write_two out₀ 0 g.notes (noted found number) (omega arith))));
          whole = rw (append_assoc, s, f, ← (found-next left number some)) g.whole;
        }

    found_all : left ≡ 0 → g.notes ≡ found_records r content p2 «data» from
    found_all z = sym (append-nil g.notes) ∙ ap (λ (l : List ℕ). g.notes ++ l) (sym (found_none left number z)) ∙ g.whole

    pub ends : left ≡ 0 → (out ≡ overwrite out₀ 0 (found_records r content p2 «data» from)) × (n ≡ length (found_records r content p2 «data» from))
    ends z = (g.written ∙ ap (overwrite out₀ 0) (found_all z), g.noted ∙ ap length (found_all z))
