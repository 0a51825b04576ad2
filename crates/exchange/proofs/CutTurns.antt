-- The results of an expanded answer one after the other, read in a beginning of it and in the whole. One turn goes by the choices of the
-- definitions (`Cut`); where it goes on, it is further on, so any two numbers of turns that reach the two ends do (`turns_cut`).
-- Assumes nothing.
use mathlib.Core.Path.{◌≡◌, refl, ap, ◌∙◌}
use mathlib.Core.Bool.{Bool, true, false, not, ◌&&◌, ◌||◌}
use mathlib.Core.List.{List}
use Prim.Native.Nat.{ℕ, zero, suc, ◌+◌, ◌≤◌, ◌<◌}
use native.Mathlib.Omega.{arith}
use lib.Dec.{leb, ltb, eqb}
use lib.ListN.{length}
use borrow.Author.Tests.{lt-ltb, le-ltb, eqb-true}
use Rattle.std.specs.Prelude.{Option, Some, None, Result, Ok, Err}
use Rattle.octets.specs.Choice.{pick}
use Rattle.octets.specs.Bytes.{byte}
use Rattle.octets.proofs.Picks.{on_pick, and_right, pick-false}
use Rattle.answers.specs.declared.results.Piece.{Piece}
use Rattle.answers.specs.declared.results.Piece.TheVariants as pieces
use Rattle.answers.specs.declared.turns.Turn.{Turn}
use Rattle.answers.specs.declared.Summary.{Summary}
use Rattle.answers.specs.Results.{piece_at}
use Rattle.answers.specs.Answers.{went_on, turned_by, definite_end, indefinite_end, turned, turns_from, first_turn, answered_by, results_read}
use Rattle.exchange.proofs.Cut.{Begins, by_place, Kind, Cut, same, missing, refused, alike, needed_later, needed, closed, follows}
use Rattle.exchange.proofs.CutResults.{PieceBefore, PieceLater, piece_kind, piece_later, piece_cut}

-- ---- the kinds

-- a whole answer of `size` bytes: a good one was looked at to its end
abbrev pub AnsweredBefore : ℕ → ℕ → Result Summary ℕ → Type 0
AnsweredBefore size k (Ok s) = size ≤ k
AnsweredBefore size k (Err place) = place ≤ k

abbrev pub AnsweredLater : ℕ → Result Summary ℕ → Type 0
AnsweredLater k (Ok s) = Unit
AnsweredLater k (Err place) = k ≤ place

abbrev pub answered_kind : ℕ → Kind (Result Summary ℕ)
answered_kind size =
    record {
      bad = Err;
      Before = AnsweredBefore size;
      Later = AnsweredLater;
      bad-before = λ k p h. h;
      bad-later = λ k p h. h;
    }

-- what a turn comes to: the next turn is further on, and at the end of the results the whole was looked at
abbrev TurnBefore : ℕ → Turn → ℕ → Result (Option Turn) ℕ → Type 0
TurnBefore size t k (Ok (Some next)) = (t.at < next.at) × (next.at ≤ k)
TurnBefore size t k (Ok None) = size ≤ k
TurnBefore size t k (Err place) = place ≤ k

abbrev TurnLater : ℕ → Result (Option Turn) ℕ → Type 0
TurnLater k (Ok (Some next)) = k ≤ next.at
TurnLater k (Ok None) = Unit
TurnLater k (Err place) = k ≤ place

abbrev turn_kind : ℕ → Turn → Kind (Result (Option Turn) ℕ)
turn_kind size t =
    record {
      bad = Err;
      Before = TurnBefore size t;
      Later = TurnLater;
      bad-before = λ k p h. h;
      bad-later = λ k p h. h;
    }

-- ---- one turn

-- the end of AB's value: nothing comes behind
or_is : {A : Type 0} (u b : Bool) (x y : A) → pick (u || b) x y ≡ pick b x (pick u x y)
unfolding pick
or_is true true x y = refl
or_is true false x y = refl
or_is false true x y = refl
or_is false false x y = refl

end_is : (size end : ℕ) (t : Turn) → definite_end size end t ≡ pick (ltb end size) (Err end) (pick (eqb t.seen 0 && ltb 0 t.left) (Err end) (Ok None))
unfolding definite_end
end_is size end t = or_is (eqb t.seen 0 && ltb 0 t.left) (ltb end size) (Err end) (Ok None)

module _ (definite : Bool) (end : ℕ) (t : Turn) where
  -- a turn that is not at the end of AB's value
  abbrev onward : List ℕ → Result (Option Turn) ℕ
  onward a =
      pick (leb (length a) t.at)
      (Err (length a))
      (pick (not definite && eqb (byte a t.at) 0)
      (indefinite_end a t)
      (pick (eqb t.left 0) (Err t.at) (turned_by definite t (piece_at a definite end t.at))))

  bad_turn : (place : ℕ) → turned_by definite t (Err place) ≡ Err place
  unfolding turned_by
  bad_turn place = refl

  by-later : (k : ℕ) (p : Result Piece ℕ) → PieceLater k p → TurnLater k (turned_by definite t p)
  unfolding turned_by went_on
  by-later k (Ok (pieces.Result word from count)) h = h
  by-later k (Ok (pieces.BadFormat code place)) h = h
  by-later k (Err place) h = h

  module _ (a : List ℕ) (k : ℕ) (inside : k ≤ length a) where
    ends_later : k ≤ t.at + 1 → TurnLater k (indefinite_end a t)
    unfolding indefinite_end
    ends_later h =
        on_pick (TurnLater k) (ltb (t.at + 1) (length a) && eqb (byte a (t.at + 1)) 0) _ _
        (λ _. on_pick (TurnLater k) (ltb (t.at + 2) (length a)) _ _ (λ _. omega arith) (λ _. tt))
        (λ _. h)

    onward_later : k ≤ t.at → TurnLater k (onward a)
    onward_later h =
        needed_later (turn_kind (length a) t) k (length a) inside t.at
        (on_pick (TurnLater k) (not definite && eqb (byte a t.at) 0) _ _ (λ _. ends_later (omega arith))
        (λ _. on_pick (TurnLater k) (eqb t.left 0) _ _ (λ _. h) (λ _. by-later k (piece_at a definite end t.at) (piece_later a k inside definite end t.at h))))

    turned-later : k ≤ t.at → TurnLater k (turned a definite end t)
    unfolding turned definite_end
    turned-later h =
        on_pick (TurnLater k) (definite && eqb t.at end) _ _
        (λ y. on_pick (TurnLater k) ((eqb t.seen 0 && ltb 0 t.left) || ltb end (length a)) _ _ (λ _. omega (arith, eqb-true t.at end (and_right definite _ y))) (λ _. tt))
        (λ _. onward_later h)

  module _ (x a : List ℕ) (begins : Begins x a) where
    abbrev k : ℕ
    k = length x

    abbrev K : Kind (Result (Option Turn) ℕ)
    K = turn_kind (length a) t

    end_cut : end ≤ k → Cut K k (definite_end k end t) (definite_end (length a) end t)
    end_cut h =
        rw (end_is k end t, end_is (length a) end t)
        (closed K k (length a) begins.inside end h (λ l. on_pick (TurnBefore (length a) t k) (eqb t.seen 0 && ltb 0 t.left) _ _ (λ _. h) (λ _. l)))

    ends_cut : t.at < k → Cut K k (indefinite_end x t) (indefinite_end a t)
    unfolding indefinite_end
    ends_cut h =
        let inside = begins.inside in
        by_place (t.at + 1) k
        (λ l.
        let is : t.at + 1 ≡ k = omega arith in
        missing (pick-false (ltb (t.at + 1) k && eqb (byte x (t.at + 1)) 0) _ _ (rw (le-ltb (t.at + 1) k l)) ∙ ap Err is) (ends_later a k inside l))
        (λ l.
        rw (lt-ltb (t.at + 1) k l, lt-ltb (t.at + 1) (length a) (omega arith), begins.bytes (t.at + 1) l)
        (alike (eqb (byte a (t.at + 1)) 0)
        (λ _. closed K k (length a) inside (t.at + 2) (omega arith) (λ w. w))
        (λ _. refused K (t.at + 1) (omega arith))))

    by_cut : (p : Result Piece ℕ) → PieceBefore (t.at + 1) k p → Cut K k (turned_by definite t p) (turned_by definite t p)
    unfolding turned_by went_on
    by_cut (Ok (pieces.Result word from count)) h = same refl (omega arith, h.1)
    by_cut (Ok (pieces.BadFormat code place)) h = same refl (omega arith, h.1)
    by_cut (Err place) h = refused K place h

    onward_cut : Cut K k (onward x) (onward a)
    onward_cut =
        needed K k (length a) begins.inside t.at (λ h. onward_later a k begins.inside h)
        (λ h.
        rw (begins.bytes t.at h)
        (alike (not definite && eqb (byte a t.at) 0) (λ _. ends_cut h)
        (λ _. alike (eqb t.left 0) (λ _. refused K t.at (omega arith))
        (λ _.
        follows (piece_kind (t.at + 1)) (turned_by definite t) (turned_by definite t) (bad_turn k) (bad_turn k) (piece_cut x a begins definite end t.at h)
        (λ b. by_cut (piece_at a definite end t.at) b)
        (λ l. by-later k (piece_at a definite end t.at) l)))))

    turned_cut : t.at ≤ k → Cut K k (turned x definite end t) (turned a definite end t)
    unfolding turned
    turned_cut h =
        alike (definite && eqb t.at end) (λ y. end_cut (omega (arith, eqb-true t.at end (and_right definite _ y)))) (λ _. onward_cut)

-- ---- all turns

module _ (definite : Bool) (end count first : ℕ) where
  -- what comes of the reading from a turn on, in so many turns at most, and by what the turn comes to
  abbrev answer : ℕ → List ℕ → Turn → Result Summary ℕ
  answer n a t = answered_by definite count first (turns_from n a definite end t)

  rest : ℕ → List ℕ → Turn → Result (Option Turn) ℕ → Result Summary ℕ
  rest n a t (Ok (Some next)) = answer n a next
  rest n a t (Ok None) = answered_by definite count first (Ok t)
  rest n a t (Err place) = Err place

  answer_on : (n : ℕ) (a : List ℕ) (t : Turn) → answer (suc n) a t ≡ rest n a t (turned a definite end t)
  unfolding turns_from answered_by rest
  answer_on n a t = go (turned a definite end t)
    where
      go : (r : Result (Option Turn) ℕ)
          → answered_by definite count first (elim r [ Ok (Some next) ↦ turns_from n a definite end next | Ok None ↦ Ok t | Err place ↦ Err place ]) ≡ rest n a t r
      go (Ok (Some next)) = refl
      go (Ok None) = refl
      go (Err place) = refl

  module _ (a : List ℕ) (k : ℕ) (inside : k ≤ length a) where
    rest_later : (n : ℕ) (t : Turn) (r : Result (Option Turn) ℕ) → TurnLater k r → ((next : Turn) → k ≤ next.at → AnsweredLater k (answer n a next)) → AnsweredLater k (rest n a t r)
    unfolding answered_by rest
    rest_later n t (Ok (Some next)) h others = others next h
    rest_later n t (Ok None) h others = tt
    rest_later n t (Err place) h others = h

    answer-later : (n : ℕ) (t : Turn) → k ≤ t.at → AnsweredLater k (answer n a t)
    unfolding turns_from answered_by
    answer-later zero t h = h
    answer-later (suc n) t h = rw (answer_on n a t) (rest_later n t _ (turned-later definite end t a k inside h) (λ next l. answer-later n next l))

    pub results-later : k ≤ first → AnsweredLater k (results_read a definite end count first)
    unfolding results_read first_turn
    results-later h = answer-later (length a + 1) (first_turn first (pick definite count 1)) h

  module _ (x a : List ℕ) (begins : Begins x a) where
    abbrev Both : Result Summary ℕ → Result Summary ℕ → Type 0
    Both = Cut (answered_kind (length a)) (length x)

    rest_cut : (n m : ℕ) (t : Turn) (r : Result (Option Turn) ℕ) → TurnBefore (length a) t (length x) r
        → ((next : Turn) → t.at < next.at → next.at ≤ length x → Both (answer n x next) (answer m a next)) → Both (rest n x t r) (rest m a t r)
    unfolding answered_by rest
    rest_cut n m t (Ok (Some next)) b others = others next b.0 b.1
    rest_cut n m t (Ok None) b others = same refl b
    rest_cut n m t (Err place) b others = refused (answered_kind (length a)) place b

    -- any two numbers of turns that reach the two ends
    turns_cut : (n m : ℕ) (t : Turn) → t.at ≤ length x → length x < n + t.at → length a < m + t.at → Both (answer n x t) (answer m a t)
    unfolding rest
    turns_cut zero m t here short long = absurd (omega arith)
    turns_cut (suc n) zero t here short long = absurd (omega (arith, begins.inside))
    turns_cut (suc n) (suc m) t here short long =
        rw (answer_on n x t, answer_on m a t)
        (follows (turn_kind (length a) t) (rest n x t) (rest m a t) refl refl (turned_cut definite end t x a begins here)
        (λ b. rest_cut n m t _ b (λ next further inside. turns_cut n m next inside (omega arith) (omega arith)))
        (λ l. rest_later a (length x) begins.inside m t _ l (λ next h. answer-later a (length x) begins.inside m next h)))

    pub results_cut : first ≤ length x → Both (results_read x definite end count first) (results_read a definite end count first)
    unfolding results_read first_turn
    results_cut h = turns_cut (length x + 1) (length a + 1) (first_turn first (pick definite count 1)) h (omega arith) (omega arith)
