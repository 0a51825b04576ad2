-- An expanded answer, a beginning of it beside the whole: what stands before its results, and then these. Goes by the choices of the
-- definitions (`Cut`). The byte behind a beginning counts as 0, with which no answer begins and no count. Assumes nothing.
use mathlib.Core.Path.{◌≡◌, refl, ap, ◌∙◌}
use mathlib.Core.Bool.{true, false, not, ◌&&◌, ◌||◌}
use mathlib.Core.List.{List}
use Prim.Native.Nat.{ℕ, ◌+◌, ◌-◌, ◌≤◌, ◌<◌}
use native.Mathlib.Omega.{arith}
use lib.Dec.{leb, ltb, eqb}
use lib.ListN.{length, get_or-eq_default}
use Rattle.std.specs.Prelude.{Result, Ok, Err}
use Rattle.octets.specs.Choice.{pick}
use Rattle.octets.specs.Bytes.{byte, num_at}
use Rattle.octets.proofs.Picks.{on_pick, pick_true, pick-false}
use Rattle.answers.specs.declared.Summary.{Summary}
use Rattle.answers.specs.Results.{sized_at}
use Rattle.answers.specs.Answers.{results_read, count_read, count_sized, count_at, definite_sized, definite_read, indefinite_read, expanded_read}
use Rattle.exchange.proofs.Cut.{Begins, num_begins, by_place, Kind, Cut, missing, refused, alike, needed_later, needed, follows}
use Rattle.exchange.proofs.CutLengths.{SizedBefore, SizedLater, sized_kind, sized-later, sized_cut}
use Rattle.exchange.proofs.CutTurns.{AnsweredLater, answered_kind, results-later, results_cut}

-- ---- from `k` on

module _ (a : List ℕ) (k : ℕ) (inside : k ≤ length a) where
  -- a count from its second byte, and from its first
  number-later : (end from : ℕ) → k ≤ from + 1
      → AnsweredLater k (pick (eqb (byte a from) 0 && ltb (byte a (from + 1)) 0x80) (Err (from + 1)) (results_read a true end (num_at a from) (from + 2)))
  number-later end from h =
      on_pick (AnsweredLater k) (eqb (byte a from) 0 && ltb (byte a (from + 1)) 0x80) _ _ (λ _. h)
      (λ _. results-later true end (num_at a from) (from + 2) a k inside (omega arith))

  read-later : (end n from : ℕ) → k ≤ from → AnsweredLater k (count_read a end n from)
  unfolding count_read
  read-later end n from h =
      needed_later (answered_kind (length a)) k (length a) inside from
      (on_pick (AnsweredLater k) (leb 0x80 (byte a from)) _ _ (λ _. h)
      (λ _. on_pick (AnsweredLater k) (eqb n 1) _ _ (λ _. results-later true end (byte a from) (from + 1) a k inside (omega arith))
      (λ _. needed_later (answered_kind (length a)) k (length a) inside (from + 1) (number-later end from (omega arith)))))

  count-later : (end : ℕ) (s : Result (ℕ × ℕ) ℕ) → SizedLater k s → AnsweredLater k (count_sized a end s)
  unfolding count_sized
  count-later end (Ok (n, from)) h =
      on_pick (AnsweredLater k) (leb 1 n && leb n 2) _ _ (λ _. read-later end n from (omega arith)) (λ _. omega arith)
  count-later end (Err place) h = h

  at_later : (end at : ℕ) → k ≤ at → AnsweredLater k (count_at a end at)
  unfolding count_at
  at_later end at h =
      on_pick (AnsweredLater k) (not (eqb (byte a at) 0x80) || eqb (at + 1) end) _ _ (λ _. h)
      (λ _. count-later end (sized_at a true end (at + 1)) (sized-later true end (at + 1) a k inside (omega arith)))

  definite-later : (s : Result (ℕ × ℕ) ℕ) → SizedLater k s → AnsweredLater k (definite_sized a s)
  unfolding definite_sized
  definite-later (Ok (n, from)) h =
      on_pick (AnsweredLater k) (eqb n 0) _ _ (λ _. omega arith) (λ _. at_later (from + n) from (omega arith))
  definite-later (Err place) h = h

  indefinite-later : k ≤ 1 → AnsweredLater k (indefinite_read a)
  unfolding indefinite_read
  indefinite-later h =
      on_pick (AnsweredLater k) (eqb (byte a 1) 0x80) _ _ (λ _. results-later false 0 0 2 a k inside (omega arith)) (λ _. h)

-- a beginning with no byte
none_read : (x : List ℕ) → length x ≤ 0 → expanded_read x ≡ Err 0
unfolding expanded_read pick
none_read x h = rw (get_or-eq_default x 0 {n = 0} h)

none-later : (k : ℕ) → k ≤ 0 → (r : Result Summary ℕ) → AnsweredLater k r
none-later k h (Ok s) = tt
none-later k h (Err place) = omega arith

-- ---- in a beginning and in the whole

module _ (x a : List ℕ) (begins : Begins x a) where
  abbrev k : ℕ
  k = length x

  abbrev K : Kind (Result Summary ℕ)
  K = answered_kind (length a)

  read_cut : (end n from : ℕ) → Cut K k (count_read x end n from) (count_read a end n from)
  unfolding count_read
  read_cut end n from =
      let inside = begins.inside in
      needed K k (length a) inside from (λ h. read-later a k inside end n from h)
      (λ h.
      rw (begins.bytes from h)
      (alike (leb 0x80 (byte a from)) (λ _. refused K from (omega arith))
      (λ _. alike (eqb n 1) (λ _. results_cut true end (byte a from) (from + 1) x a begins (omega arith))
      (λ _.
      needed K k (length a) inside (from + 1) (λ l. needed_later K k (length a) inside (from + 1) (number-later a k inside end from l))
      (λ l.
      rw (begins.bytes (from + 1) l, num_begins x a begins from (omega arith))
      (alike (eqb (byte a from) 0 && ltb (byte a (from + 1)) 0x80) (λ _. refused K (from + 1) (omega arith))
      (λ _. results_cut true end (num_at a from) (from + 2) x a begins (omega arith))))))))

  count_cut : (end at : ℕ) (s : Result (ℕ × ℕ) ℕ) → SizedBefore at k s → Cut K k (count_sized x end s) (count_sized a end s)
  unfolding count_sized
  count_cut end at (Ok (n, from)) h =
      alike (leb 1 n && leb n 2) (λ _. read_cut end n from) (λ _. refused K (from - 1) (omega arith))
  count_cut end at (Err place) h = refused K place h

  -- a byte that is looked at where none stands: it is no 80
  no_80 : (at : ℕ) → k ≤ at → eqb (byte x at) 0x80 ≡ false
  no_80 at h = rw (get_or-eq_default x 0 h)

  at_cut : (end at : ℕ) → at ≤ k → Cut K k (count_at x end at) (count_at a end at)
  unfolding count_at
  at_cut end at h =
      by_place at k
      (λ l.
      let is : at ≡ k = omega arith in
      missing (pick_true (not (eqb (byte x at) 0x80) || eqb (at + 1) end) _ _ (rw (no_80 at l)) ∙ ap Err is) (at_later a k begins.inside end at l))
      (λ l.
      rw (begins.bytes at l)
      (alike (not (eqb (byte a at) 0x80) || eqb (at + 1) end) (λ _. refused K at h)
      (λ _.
      follows (sized_kind (at + 1)) (count_sized x end) (count_sized a end) (unfold count_sized in refl) (unfold count_sized in refl) (sized_cut true end (at + 1) x a begins)
      (λ b. count_cut end (at + 1) (sized_at a true end (at + 1)) b)
      (λ f. count-later a k begins.inside end (sized_at a true end (at + 1)) f))))

  by_cut : (s : Result (ℕ × ℕ) ℕ) → SizedBefore 1 k s → Cut K k (definite_sized x s) (definite_sized a s)
  unfolding definite_sized
  by_cut (Ok (n, from)) h = alike (eqb n 0) (λ _. refused K (from - 1) (omega arith)) (λ _. at_cut (from + n) from h.1)
  by_cut (Err place) h = refused K place h

  definite_cut : Cut K k (definite_read x) (definite_read a)
  unfolding definite_read
  definite_cut =
      follows (sized_kind 1) (definite_sized x) (definite_sized a) (unfold definite_sized in refl) (unfold definite_sized in refl) (sized_cut false 0 1 x a begins)
      (λ b. by_cut (sized_at a false 0 1) b)
      (λ f. definite-later a k begins.inside (sized_at a false 0 1) f)

  indefinite_cut : 0 < k → Cut K k (indefinite_read x) (indefinite_read a)
  unfolding indefinite_read
  indefinite_cut h =
      by_place 1 k
      (λ l.
      let is : 1 ≡ k = omega arith in
      missing (pick-false (eqb (byte x 1) 0x80) _ _ (no_80 1 l) ∙ ap Err is) (indefinite-later a k begins.inside l))
      (λ l.
      rw (begins.bytes 1 l)
      (alike (eqb (byte a 1) 0x80) (λ _. results_cut false 0 0 2 x a begins (omega arith)) (λ _. refused K 1 (omega arith))))

  pub expanded_cut : Cut K k (expanded_read x) (expanded_read a)
  unfolding expanded_read
  expanded_cut =
      by_place 0 k
      (λ l.
      let is : 0 ≡ k = omega arith in
      missing (none_read x l ∙ ap Err is) (none-later k l (expanded_read a)))
      (λ l.
      rw (begins.bytes 0 l)
      (alike (eqb (byte a 0) 0xAB) (λ _. definite_cut)
      (λ _. alike (eqb (byte a 0) 0xAF) (λ _. indefinite_cut l) (λ _. refused K 0 (omega arith)))))
