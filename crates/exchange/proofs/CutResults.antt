-- A word and a result, read in a beginning of an answer and in the whole. Goes by the choices of the definitions (`Cut`): a word from its two
-- bytes, and a result from its length and its word. Assumes nothing.
use mathlib.Core.Path.{◌≡◌, refl}
use mathlib.Core.Bool.{Bool, not, ◌&&◌, ◌||◌}
use mathlib.Core.List.{List}
use Prim.Native.Nat.{ℕ, ◌+◌, ◌-◌, ◌≤◌, ◌<◌}
use native.Mathlib.Omega.{arith}
use lib.Dec.{leb, ltb, eqb}
use lib.ListN.{length}
use Rattle.std.specs.Prelude.{Result, Ok, Err}
use Rattle.octets.specs.Choice.{pick}
use Rattle.octets.specs.Bytes.{byte, num_at}
use Rattle.octets.proofs.Picks.{on_pick}
use Rattle.answers.specs.declared.words.Words.{Words}
use Rattle.answers.specs.declared.results.Piece.{Piece}
use Rattle.answers.specs.declared.results.Piece.TheVariants as pieces
use Rattle.answers.specs.Words.{begins_word, is_word, word_at}
use Rattle.answers.specs.Results.{sized_at, rapdu_ends, words_behind, rapdu_of, bad_format_of, is_tag, value_of, piece_at}
use Rattle.exchange.proofs.Cut.{Begins, num_begins, Kind, Cut, same, refused, alike, needed_later, needed, follows}
use Rattle.exchange.proofs.CutLengths.{SizedBefore, SizedLater, sized_kind, sized-later, sized_cut}

-- a word that was read at a place
abbrev pub WordBefore : ℕ → ℕ → Result ℕ ℕ → Type 0
WordBefore at k (Ok word) = at + 2 ≤ k
WordBefore at k (Err place) = place ≤ k

abbrev pub WordLater : ℕ → ℕ → Result ℕ ℕ → Type 0
WordLater at k (Ok word) = k ≤ at + 2
WordLater at k (Err place) = k ≤ place

abbrev pub word_kind : ℕ → Kind (Result ℕ ℕ)
word_kind at =
    record {
      bad = Err;
      Before = WordBefore at;
      Later = WordLater at;
      bad-before = λ k p h. h;
      bad-later = λ k p h. h;
    }

-- a result that was read at a place: the next one stands further on
abbrev pub PieceBefore : ℕ → ℕ → Result Piece ℕ → Type 0
PieceBefore at k (Ok (pieces.Result word from count)) = (at < from) × (from + count + 2 ≤ k)
PieceBefore at k (Ok (pieces.BadFormat code place)) = (at < place) × (place + 1 ≤ k)
PieceBefore at k (Err place) = place ≤ k

abbrev pub PieceLater : ℕ → Result Piece ℕ → Type 0
PieceLater k (Ok (pieces.Result word from count)) = k ≤ from + count + 2
PieceLater k (Ok (pieces.BadFormat code place)) = k ≤ place + 1
PieceLater k (Err place) = k ≤ place

abbrev pub piece_kind : ℕ → Kind (Result Piece ℕ)
piece_kind at =
    record {
      bad = Err;
      Before = PieceBefore at;
      Later = PieceLater;
      bad-before = λ k p h. h;
      bad-later = λ k p h. h;
    }

-- a length that is bad is a bad result
bad-value : (a : List ℕ) (tag : ℕ) {place : ℕ} → value_of a tag (Err place) ≡ Err place
unfolding value_of rapdu_of bad_format_of
bad-value a tag {place} = on_pick (λ (p : Result Piece ℕ). p ≡ Err place) (eqb tag 0x23) _ _ (λ _. refl) (λ _. refl)

-- ---- from `k` on

ends_later : (k from count : ℕ) (w : Result ℕ ℕ) → WordLater (from + count) k w → PieceLater k (rapdu_ends from count w)
unfolding rapdu_ends
ends_later k from count (Ok word) h = h
ends_later k from count (Err place) h = h

module _ (a : List ℕ) (k : ℕ) (inside : k ≤ length a) where
  -- a word from its second byte, and from its first
  word_end : (words : Words) (at : ℕ) → k ≤ at + 1 → WordLater at k (pick (is_word words (num_at a at)) (Ok (num_at a at)) (Err (at + 1)))
  word_end words at h = on_pick (WordLater at k) (is_word words (num_at a at)) _ _ (λ _. omega arith) (λ _. h)

  word-later : (words : Words) (at : ℕ) → k ≤ at → WordLater at k (word_at words a at)
  unfolding word_at
  word-later words at h =
      needed_later (word_kind at) k (length a) inside at
      (on_pick (WordLater at k) (not (begins_word words (byte a at))) _ _ (λ _. h)
      (λ _. needed_later (word_kind at) k (length a) inside (at + 1) (word_end words at (omega arith))))

  rapdu-later : (s : Result (ℕ × ℕ) ℕ) → SizedLater k s → PieceLater k (rapdu_of a s)
  unfolding rapdu_of
  rapdu-later (Ok (n, from)) h =
      on_pick (PieceLater k) (ltb n 2) _ _ (λ _. omega arith)
      (λ _. ends_later k from (n - 2) (word_at (words_behind (n - 2)) a (from + (n - 2))) (word-later (words_behind (n - 2)) (from + (n - 2)) (omega arith)))
  rapdu-later (Err place) h = h

  -- a Bad format TLV from its code
  code-later : (from : ℕ) → k ≤ from → PieceLater k (pick (leb 1 (byte a from) && leb (byte a from) 3) (Ok (pieces.BadFormat (byte a from) from)) (Err from))
  code-later from h = on_pick (PieceLater k) (leb 1 (byte a from) && leb (byte a from) 3) _ _ (λ _. omega arith) (λ _. h)

  bad_format-later : (s : Result (ℕ × ℕ) ℕ) → SizedLater k s → PieceLater k (bad_format_of a s)
  unfolding bad_format_of
  bad_format-later (Ok (n, from)) h =
      on_pick (PieceLater k) (not (eqb n 1)) _ _ (λ _. omega arith)
      (λ _. needed_later (piece_kind from) k (length a) inside from (code-later from (omega arith)))
  bad_format-later (Err place) h = h

  value-later : (tag : ℕ) (s : Result (ℕ × ℕ) ℕ) → SizedLater k s → PieceLater k (value_of a tag s)
  unfolding value_of
  value-later tag s h = on_pick (PieceLater k) (eqb tag 0x23) _ _ (λ _. rapdu-later s h) (λ _. bad_format-later s h)

  pub piece_later : (definite : Bool) (end at : ℕ) → k ≤ at → PieceLater k (piece_at a definite end at)
  unfolding piece_at
  piece_later definite end at h =
      on_pick (PieceLater k) ((definite && leb end (at + 1)) || not (is_tag (byte a at))) _ _ (λ _. h)
      (λ _. value-later (byte a at) (sized_at a definite end (at + 1)) (sized-later definite end (at + 1) a k inside (omega arith)))

-- ---- in a beginning and in the whole

module _ (x a : List ℕ) (begins : Begins x a) where
  abbrev k : ℕ
  k = length x

  pub word_cut : (words : Words) (at : ℕ) → Cut (word_kind at) k (word_at words x at) (word_at words a at)
  unfolding word_at
  word_cut words at =
      let inside = begins.inside in
      needed (word_kind at) k (length a) inside at (λ h. word-later a k inside words at h)
      (λ h.
      rw (begins.bytes at h)
      (alike (not (begins_word words (byte a at))) (λ _. refused (word_kind at) at (omega arith))
      (λ _.
      needed (word_kind at) k (length a) inside (at + 1) (λ l. needed_later (word_kind at) k (length a) inside (at + 1) (word_end a k inside words at l))
      (λ l.
      rw (num_begins x a begins at (omega arith))
      (alike (is_word words (num_at a at)) (λ _. same refl (omega arith)) (λ _. refused (word_kind at) (at + 1) (omega arith)))))))

  module _ (at : ℕ) where
    abbrev Both : Result Piece ℕ → Result Piece ℕ → Type 0
    Both = Cut (piece_kind at) k

    ends_cut : (from count : ℕ) (w : Result ℕ ℕ) → at < from → WordBefore (from + count) k w → Both (rapdu_ends from count w) (rapdu_ends from count w)
    unfolding rapdu_ends
    ends_cut from count (Ok word) l h = same refl (l, h)
    ends_cut from count (Err place) l h = refused (piece_kind at) place h

    rapdu_cut : (s : Result (ℕ × ℕ) ℕ) → SizedBefore at k s → Both (rapdu_of x s) (rapdu_of a s)
    unfolding rapdu_of
    rapdu_cut (Ok (n, from)) h =
        alike (ltb n 2) (λ _. refused (piece_kind at) (from - 1) (omega arith))
        (λ _.
        let count = n - 2 in
        follows (word_kind (from + count)) (rapdu_ends from count) (rapdu_ends from count) (unfold rapdu_ends in refl) (unfold rapdu_ends in refl)
        (word_cut (words_behind count) (from + count))
        (λ b. ends_cut from count (word_at (words_behind count) a (from + count)) h.0 b)
        (λ l. ends_later k from count (word_at (words_behind count) a (from + count)) l))
    rapdu_cut (Err place) h = refused (piece_kind at) place h

    bad_format_cut : (s : Result (ℕ × ℕ) ℕ) → SizedBefore at k s → Both (bad_format_of x s) (bad_format_of a s)
    unfolding bad_format_of
    bad_format_cut (Ok (n, from)) h =
        let inside = begins.inside in
        alike (not (eqb n 1)) (λ _. refused (piece_kind at) (from - 1) (omega arith))
        (λ _.
        needed (piece_kind at) k (length a) inside from (λ l. needed_later (piece_kind at) k (length a) inside from (code-later a k inside from l))
        (λ l.
        rw (begins.bytes from l)
        (alike (leb 1 (byte a from) && leb (byte a from) 3) (λ _. same refl (h.0, omega arith)) (λ _. refused (piece_kind at) from (omega arith)))))
    bad_format_cut (Err place) h = refused (piece_kind at) place h

    value_cut : (tag : ℕ) (s : Result (ℕ × ℕ) ℕ) → SizedBefore at k s → Both (value_of x tag s) (value_of a tag s)
    unfolding value_of
    value_cut tag s h = alike (eqb tag 0x23) (λ _. rapdu_cut s h) (λ _. bad_format_cut s h)

  -- what stands at a place begins behind its tag
  pub piece_cut : (definite : Bool) (end at : ℕ) → at < k → Cut (piece_kind (at + 1)) k (piece_at x definite end at) (piece_at a definite end at)
  unfolding piece_at
  piece_cut definite end at h =
      let tag = byte a at in
      rw (begins.bytes at h)
      (alike ((definite && leb end (at + 1)) || not (is_tag tag)) (λ _. refused (piece_kind (at + 1)) at (omega arith))
      (λ _.
      follows (sized_kind (at + 1)) (value_of x tag) (value_of a tag) (bad-value x tag) (bad-value a tag) (sized_cut definite end (at + 1) x a begins)
      (λ b. value_cut (at + 1) tag (sized_at a definite end (at + 1)) b)
      (λ l. value-later a k begins.inside tag (sized_at a definite end (at + 1)) l)))
