-- The place of a bad answer is that of its first bad byte: it lies in the answer or at its end, and no good answer begins with the bytes up
-- to it. The bytes up to it, alone, are bad at the same place, and so whatever begins with them is bad (`bad-begun`, `bad-whole`); a compact
-- answer goes so up to its word, and its data are looked at one way after the other. A beginning of a good answer is bad at its end.
-- Assumes nothing.
use mathlib.Core.Path.{◌≡◌, refl, sym, ap, ◌∙◌}
use mathlib.Core.Bool.{false≢true}
use mathlib.Core.List.{List}
use mathlib.Core.Logic.{⊎_elim}
use Prim.Native.Nat.{ℕ, ◌+◌, ◌≤◌, ◌<◌}
use native.Mathlib.Omega.{arith}
use lib.Dec.{eqb}
use lib.ListN.{length, take, length-take, get_or-eq_default}
use Rattle.std.specs.Prelude.{Result, Ok, Err}
use Rattle.octets.specs.Bytes.{byte}
use Rattle.octets.proofs.Picks.{either, pick_true, pick-false}
use Rattle.answers.specs.declared.words.Words.TheVariants as words
use Rattle.answers.specs.declared.Summary.{Summary}
use Rattle.answers.specs.Words.{has_data, word_at}
use Rattle.answers.specs.Results.{compact_word, compact_data}
use Rattle.answers.specs.Answers.{word_read, compact_read, expanded_read, read_answer}
use Rattle.exchange.proofs.Cut.{Begins, begins_take, by_place, Cut, same, missing, behind, bad-inside, bad-begun, bad-whole}
use Rattle.exchange.proofs.CutResults.{word_kind, word_cut}
use Rattle.exchange.proofs.CutTurns.{answered_kind}
use Rattle.exchange.proofs.CutAnswers.{expanded_cut}
use Rattle.exchange.proofs.CompactAnswers as compact
use Rattle.exchange.proofs.CompactAnswers.{other, places, Good, BadAt, good, bad}

-- a reading's first bad byte
pub record FirstBad (read : List ℕ → Result Summary ℕ) (x : List ℕ) (place : ℕ) : Type 0 where
  pub inside : place ≤ length x
  pub none : place < length x → (b : List ℕ) (s : Summary) → read b ≡ Ok s → take (place + 1) b ≡ take (place + 1) x → ⊥

-- a run of bytes is a beginning of itself, and the first bytes that two have in common are a beginning of both
self : (a : List ℕ) → Begins a a
self a = record { inside = omega arith; bytes = λ i h. refl }

begins_both : (n : ℕ) (b x : List ℕ) → take n b ≡ take n x → Begins (take n x) b
begins_both n b x e = rw e at (begins_take n b)

long_take : (n : ℕ) (x : List ℕ) → n ≤ length x → length (take n x) ≡ n
long_take n x h = omega (arith, length-take n x)

-- ---- expanded

module _ (x : List ℕ) (place : ℕ) (is : expanded_read x ≡ Err place) where
  expanded-first : FirstBad expanded_read x place
  expanded-first =
      record {
        inside = bad-inside (answered_kind (length x)) places (length x) place (λ h. h) (expanded_cut x x (self x)) is;
        none =
            λ l b s read e.
            let y = take (place + 1) x in
            let h : place < length y = omega (arith, length-take (place + 1) x) in
            let begun = bad-begun (answered_kind (length x)) places (length y) place h (λ g. g) (expanded_cut y x (begins_take (place + 1) x)) is in
            let whole = bad-whole (answered_kind (length b)) places (length y) place h (expanded_cut y b (begins_both (place + 1) b x e)) begun in
            other whole.1 read;
      }

-- every beginning of a good one is bad at its end
pub expanded-begun : (a : List ℕ) (s : Summary) (n : ℕ) → expanded_read a ≡ Ok s → n < length a → expanded_read (take n a) ≡ Err n
expanded-begun a s n read l = go (expanded_cut (take n a) a (begins_take n a))
  where
    size : length (take n a) ≡ n
    size = long_take n a (omega arith)

    go : Cut (answered_kind (length a)) (length (take n a)) (expanded_read (take n a)) (expanded_read a) → expanded_read (take n a) ≡ Err n
    go (same e b) = absurd (let h = rw read at b in omega (arith, size))
    go (missing e f) = e ∙ ap Err size
    go (behind e) = absurd (other e read)

-- ---- compact

-- a word that is read, in what has so many bytes of it
module _ {y r : Result ℕ ℕ} {k w : ℕ} (cut : Cut (word_kind compact_word) k y r) (is : r ≡ Ok w) where
  word-short : k < compact_data → y ≡ Err k
  word-short h = go cut
    where
      go : Cut (word_kind compact_word) k y r → y ≡ Err k
      go (same e b) = absurd (let g = rw is at b in omega arith)
      go (missing e l) = e
      go (behind e) = absurd (other e is)

  word-begun : compact_data < k → y ≡ Ok w
  word-begun h = go cut
    where
      go : Cut (word_kind compact_word) k y r → y ≡ Ok w
      go (same e b) = e ∙ is
      go (missing e l) = absurd (let g = rw is at l in omega arith)
      go (behind e) = absurd (other e is)

word_long : (a : List ℕ) (w : ℕ) → word_at words.Compact a compact_word ≡ Ok w → compact_data ≤ length a
word_long a w is =
    by_place (length a) compact_data (λ l. l)
    (λ h. absurd (other (word-short (word_cut a a (self a) words.Compact compact_word) is h) is))

module _ (x b : List ℕ) (place : ℕ) (l : place < length x) (g : Good b) (e : take (place + 1) b ≡ take (place + 1) x) where
  -- the bytes that they have in common
  abbrev y : List ℕ
  y = take (place + 1) x

  size : length y ≡ place + 1
  size = long_take (place + 1) x (omega arith)

  in_x : Begins y x
  in_x = begins_take (place + 1) x

  in_b : Begins y b
  in_b = begins_both (place + 1) b x e

  compact-none : BadAt x place → ⊥
  compact-none (compact.count is zero) =
      let first : byte b 0 ≡ byte x 0 = sym (in_b.bytes 0 (omega (arith, size))) ∙ in_x.bytes 0 (omega (arith, size)) in
      false≢true (sym g.count ∙ (ap (λ (c : ℕ). eqb c 0) first ∙ zero))
  compact-none (compact.word is) =
      let h : place < length y = omega (arith, size) in
      let begun = bad-begun (word_kind compact_word) places (length y) place h (λ f. f) (word_cut y x in_x words.Compact compact_word) is in
      let whole = bad-whole (word_kind compact_word) places (length y) place h (word_cut y b in_b words.Compact compact_word) begun in
      other whole.1 g.read
  compact-none (compact.has p w is bare long) =
      let h : compact_data < length y = omega (arith, size) in
      let here = word-begun (word_cut y x in_x words.Compact compact_word) is h in
      let there = word-begun (word_cut y b in_b words.Compact compact_word) g.read h in
      let one : w ≡ g.word = cc in
      false≢true (sym bare ∙ (ap has_data one ∙ g.has (omega (arith, in_b.inside))))
  compact-none (compact.most p long) = omega (arith, size, in_b.inside, g.most)

compact-inside : (x : List ℕ) (place : ℕ) → BadAt x place → place ≤ length x
compact-inside x place (compact.count is zero) = omega arith
compact-inside x place (compact.word is) = bad-inside (word_kind compact_word) places (length x) place (λ h. h) (word_cut x x (self x) words.Compact compact_word) is
compact-inside x place (compact.has p w is bare long) = omega arith
compact-inside x place (compact.most p long) = omega arith

compact-first : (x : List ℕ) (place : ℕ) → compact_read x ≡ Err place → FirstBad compact_read x place
compact-first x place is =
    record {
      inside = compact-inside x place (bad x place is);
      none = λ l b s read e. compact-none x b place l (good b s read) e (bad x place is);
    }

-- every beginning of a good one is bad at its end, before its third byte
pub compact-begun : (a : List ℕ) (s : Summary) (n : ℕ) → compact_read a ≡ Ok s → n < compact_data → compact_read (take n a) ≡ Err n
unfolding compact_read word_read
compact-begun a s n read l =
    let g = good a s read in
    let x = take n a in
    let long = word_long a g.word g.read in
    let size : length x ≡ n = long_take n a (omega arith) in
    by_place 0 n
    (λ h.
    let none : n ≡ 0 = omega arith in
    pick_true (eqb (byte x 0) 0) _ _ (rw (get_or-eq_default x 0 {n = 0} (omega arith))) ∙ ap Err (sym none))
    (λ h.
    let first = (begins_take n a).bytes 0 (omega arith) in
    let cut = word-short (word_cut x a (begins_take n a) words.Compact compact_word) g.read (omega arith) in
    pick-false (eqb (byte x 0) 0) _ _ (ap (λ (c : ℕ). eqb c 0) first ∙ g.count) ∙ (ap (word_read x) cut ∙ ap Err size))

-- ---- both forms

-- what holds of one reading holds of another that gives the same
carried : {read other : List ℕ → Result Summary ℕ} → ((a : List ℕ) → read a ≡ other a) → ((x : List ℕ) (place : ℕ) → other x ≡ Err place → FirstBad other x place)
    → (x : List ℕ) (place : ℕ) → read x ≡ Err place → FirstBad read x place
carried agree first x place is =
    let f = first x place (sym (agree x) ∙ is) in
    record { inside = f.inside; none = λ l b s good e. f.none l b s (sym (agree b) ∙ good) e }

nothing-first : (x : List ℕ) (place : ℕ) → ◌≡◌ {A = Result Summary ℕ} (Err 0) (Err place) → FirstBad (λ a. Err 0) x place
nothing-first x place is = record { inside = omega (arith, places 0 place is); none = λ l b s good e. other refl good }

pub first-bad : (format : ℕ) (x : List ℕ) (place : ℕ) → read_answer format x ≡ Err place → FirstBad (read_answer format) x place
unfolding read_answer
first-bad format =
    ⊎_elim
    (λ y. carried (λ a. pick_true (eqb format 0) _ _ y) compact-first)
    (λ n.
    ⊎_elim
    (λ y. carried (λ a. pick-false (eqb format 0) _ _ n ∙ pick_true (eqb format 1) _ _ y) expanded-first)
    (λ m. carried (λ a. pick-false (eqb format 0) _ _ n ∙ pick-false (eqb format 1) _ _ m) nothing-first)
    (either (eqb format 1)))
    (either (eqb format 0))
