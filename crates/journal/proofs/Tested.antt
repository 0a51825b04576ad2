-- The steps of the test whether a journal is sound, over plain variables: the form of a tail, an entry, the entries back one by
-- one, the head.
-- The definitions compare bytes with those that they should be, the code looks at single bytes: as all are below 256, a number
-- gives back the two bytes that it was read from, and only the zeros are left to ask for (`formed_eight`, `head-four`). The loop
-- over the entries keeps `sound_from`: the test of the entries in the first u bytes, with n marks counted and the entry read last
-- being a mark or not. It is false where no entry can be read (`sound_stuck`) or the entry is not sound (`sound-fails`), and else
-- goes on with the bytes before the entry (`sound-goes_on`). Assumes nothing.
use mathlib.Core.Path.{◌≡◌, refl, sym, ap, ◌∙◌}
use mathlib.Core.Bool.{Bool, true, false, ◌&&◌, and-true, and_assoc}
use mathlib.Core.List.{List, [], ◌∷◌}
use Prim.Native.Nat.{ℕ, zero, suc, ◌+◌, ◌-◌, ◌*◌, ◌/◌, ◌%◌, ◌≤◌, ◌<◌}
use native.Mathlib.Nat.{le_refl, add_assoc, add-zero, zero-add}
use native.Mathlib.Omega.{arith}
use borrow.Author.Tests.{eq-eqb, ne_eqb, le-leb, lt-leb}
use lib.Dec.{leb, eqb}
use lib.ListN.{length, take, drop, length-drop}
use lib.Seq.{drop-cons, take_all}
use Rattle.octets.specs.Choice.{pick}
use Rattle.octets.specs.Bytes.{byte, AllBytes, part, num_at, bytes2, all_zero, same}
use Rattle.octets.proofs.Numbers.{byte-part}
use Rattle.journal.specs.declared.Tail.{Tail}
use Rattle.journal.specs.Entries.{Entry, head_size, head, head_bytes, tail, entry_bytes, marks_start, tail_bytes, tail_in, tail_at, formed, old_place, entry_at, readable, no_entry, entries_back, entries_of, used_bytes, scripts_on_trial, flag_of, room}
use Rattle.journal.specs.Sound.{journal_length, most_scripts, head_sound, form_sound, entry_sound, all_sound, last_is_mark, oldest_is_mark, marks, entries_sound, sound_journal}
use Rattle.journal.proofs.Entries.{before, back_stuck, back_next}
use Rattle.journal.proofs.Tails.{old-length}

-- a part of a memory, byte by byte
bytes_from : List ℕ → ℕ → ℕ → List ℕ
bytes_from m p zero = []
bytes_from m p (suc n) = byte m p ∷ bytes_from m (suc p) n

byte-by-byte : (m : List ℕ) (p n : ℕ) → p + n ≤ length m → part m p n ≡ bytes_from m p n
unfolding bytes_from
byte-by-byte m p zero h = refl
byte-by-byte m p (suc n) h = ap (take (suc n)) (drop-cons m p 0 (omega arith)) ∙ ap (λ (l : List ℕ). byte m p ∷ l) (byte-by-byte m (suc p) n (omega arith))

-- eight bytes have the form of a tail where bytes 1, 6 and 7 are zero
formed_eight : (k a p q n m b c : ℕ) → p < 256 → q < 256 → n < 256 → m < 256 → formed (k ∷ a ∷ p ∷ q ∷ n ∷ m ∷ b ∷ c ∷ []) ≡ (eqb a 0 && (eqb b 0 && eqb c 0))
unfolding formed same tail tail_in num_at bytes2
formed_eight k a p q n m b c hp hq hn hm =
    rw (eq-eqb k k refl, eq-eqb p ((p * 256 + q) / 256 % 256) (omega arith), eq-eqb q ((p * 256 + q) % 256) (omega arith), eq-eqb n ((n * 256 + m) / 256 % 256) (omega arith), eq-eqb m ((n * 256 + m) % 256) (omega arith), and-true (eqb c 0))

pub formed_test : (bs : List ℕ) → length bs ≡ 8 → AllBytes bs → (eqb (byte bs 1) 0 && (eqb (byte bs 6) 0 && eqb (byte bs 7) 0)) ≡ formed bs
unfolding bytes_from
formed_test bs l small =
    sym (ap formed (sym (take_all 8 bs (omega arith)) ∙ byte-by-byte bs 0 8 (omega arith))
    ∙ formed_eight (byte bs 0) (byte bs 1) (byte bs 2) (byte bs 3) (byte bs 4) (byte bs 5) (byte bs 6) (byte bs 7) (small 2) (small 3) (small 4) (small 5))

-- whether an entry can be read
pub readable-not : (j : List ℕ) (u : ℕ) → u < entry_bytes (tail_at j u).size → false ≡ readable j u
unfolding readable
readable-not j u h = rw (lt-leb (entry_bytes (tail_at j u).size) u h)

pub readable-by_form : (j : List ℕ) (u : ℕ) → entry_bytes (tail_at j u).size ≤ u → formed (tail_bytes j u) ≡ readable j u
unfolding readable
readable-by_form j u h = rw (le-leb (entry_bytes (tail_at j u).size) u h)

-- an entry's soundness, from its tail and its first old byte
module _ {b : Bool} (t : List ℕ) (files : ℕ) (j : List ℕ) (u : ℕ) {l : Tail} (e : l ≡ tail_at j u) where
  pub entry_empty : l.size ≡ 0 → b ≡ form_sound t files l.kind l.place 0 0 → b ≡ entry_sound t files (entry_at j u)
  unfolding entry_sound entry_at
  entry_empty z r = let n : (tail_at j u).size ≡ 0 = rw e at z in r ∙ rw (e, n)

  pub entry_first : head_size + u ≤ length j → readable j u ≡ true → 0 < l.size → {old : ℕ} → old ≡ byte j (head_size + u - entry_bytes l.size) → b ≡ form_sound t files l.kind l.place l.size old → b ≡ entry_sound t files (entry_at j u)
  unfolding entry_sound entry_at old_place
  entry_first fits h some q r =
      let at : ℕ = head_size + u - entry_bytes (tail_at j u).size in
      let n : 0 < (tail_at j u).size = rw e at some in
      let f : byte (part j at (tail_at j u).size) 0 ≡ byte j at = byte-part j at (tail_at j u).size 0 n ∙ rw (add-zero at) in
      r ∙ rw (q, e, old-length j u h fits, f)

-- bytes that are no entry are not sound
pub stuck_unsound : (t : List ℕ) (files : ℕ) (j : List ℕ) (u : ℕ) → 0 < u → readable j u ≡ false → all_sound t files (entries_back u j u) ≡ false
unfolding all_sound entry_sound form_sound no_entry pick
stuck_unsound t files j u some h = rw (back_stuck j u some h)

-- the soundness of the entries: what is left of it behind n marks, the oldest of which is or is no mark
pub sound_from : List ℕ → ℕ → ℕ → List Entry → ℕ → Bool → Bool
sound_from t files scripts es n oldest = all_sound t files es && (last_is_mark oldest es && eqb (n + marks es) scripts)

pub sound-starts : (t : List ℕ) (files scripts : ℕ) (es : List Entry) → entries_sound t files scripts es ≡ sound_from t files scripts es 0 true
unfolding sound_from entries_sound oldest_is_mark
sound-starts t files scripts es = rw (zero-add (marks es))

module _ {b : Bool} (t : List ℕ) (files scripts : ℕ) (j : List ℕ) (u n : ℕ) (oldest : Bool) (left : b ≡ sound_from t files scripts (entries_back u j u) n oldest) where
  pub sound_ends : u ≤ 0 → (oldest && eqb n scripts) ≡ b
  unfolding sound_from entries_back all_sound last_is_mark marks
  sound_ends h = let e : u ≡ 0 = omega arith in sym (rw (e, add-zero n) at left)

  pub sound_stuck : 0 < u → readable j u ≡ false → false ≡ b
  unfolding sound_from
  sound_stuck some h = sym (rw (stuck_unsound t files j u some h) at left)

  pub sound-fails : readable j u ≡ true → entry_sound t files (entry_at j u) ≡ false → false ≡ b
  unfolding sound_from all_sound
  sound-fails h f = sym (rw (back_next j u h, f) at left)

  pub sound-goes_on : readable j u ≡ true → entry_sound t files (entry_at j u) ≡ true → {l : Tail} {p : ℕ} → l ≡ tail_at j u → p ≡ pick (eqb l.kind marks_start) 1 0 → b ≡ sound_from t files scripts (entries_back (u - entry_bytes l.size) j (u - entry_bytes l.size)) (n + p) (eqb l.kind marks_start)
  unfolding sound_from all_sound last_is_mark marks entry_at
  sound-goes_on h f e q =
      rw (q, e, add_assoc n (pick (eqb (tail_at j u).kind marks_start) 1 0) (marks (entries_back (before j u) j (before j u)))) (rw (back_next j u h, f) at left)

-- the journal's soundness, test by test
head-four : (a b c d : ℕ) → a < 256 → b < 256 → same (a ∷ b ∷ c ∷ d ∷ []) (head_bytes (head (a * 256 + b) c 0)) ≡ eqb d 0
unfolding same head_bytes bytes2
head-four a b c d ha hb =
    rw (eq-eqb a ((a * 256 + b) / 256 % 256) (omega arith), eq-eqb b ((a * 256 + b) % 256) (omega arith), eq-eqb c c refl, and-true (eqb d 0))

pub rest_test : (j : List ℕ) {used : ℕ} {b : Bool} → used ≡ used_bytes j → b ≡ all_zero (part j (head_size + used) (length j - (head_size + used))) → b ≡ all_zero (drop (head_size + used_bytes j) j)
rest_test j {used} us r = r ∙ rw (take_all (length j - (head_size + used)) (drop (head_size + used) j) (rw length-drop (le_refl (length j - (head_size + used)))), us)

abbrev pub journal_tests : List ℕ → List ℕ → List ℕ → Bool
journal_tests t f j =
    eqb (flag_of j) 0
    && (leb (used_bytes j) (room j)
    && (leb (scripts_on_trial j) most_scripts
    && (all_zero (drop (head_size + used_bytes j) j) && entries_sound t (length f) (scripts_on_trial j) (entries_of j))))

module _ (t f j : List ℕ) where
  pub journal_short_lem : (length j ≡ journal_length → ⊥) → false ≡ sound_journal t f j
  unfolding sound_journal
  journal_short_lem h = rw (ne_eqb (length j) journal_length h)

  pub journal_test : length j ≡ journal_length → AllBytes j → sound_journal t f j ≡ journal_tests t f j
  unfolding sound_journal head_sound used_bytes scripts_on_trial flag_of num_at bytes_from
  journal_test long small =
      let hd : List ℕ = head_bytes (head (used_bytes j) (scripts_on_trial j) 0) in
      let h : same (part j 0 head_size) hd ≡ eqb (byte j 3) 0 = ap (λ (l : List ℕ). same l hd) (byte-by-byte j 0 4 (omega arith)) ∙ head-four (byte j 0) (byte j 1) (byte j 2) (byte j 3) (small 0) (small 1) in
      rw (eq-eqb (length j) journal_length long, h) (simp and_assoc)

  pub entries_test : {used scripts : ℕ} {b : Bool} → used ≡ used_bytes j → scripts ≡ scripts_on_trial j → b ≡ entries_sound t (length f) scripts (entries_back used j used) → b ≡ entries_sound t (length f) (scripts_on_trial j) (entries_of j)
  unfolding entries_of
  entries_test us ss r = r ∙ rw (us, ss)
