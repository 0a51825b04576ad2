-- A length, read in a beginning of an answer and in the whole. Goes by the choices of the definitions (`Cut`); the forms 81 and 82 are one law
-- (`form_later`, `form_cut`). Assumes nothing.
use mathlib.Core.Path.{◌≡◌, refl, ap, ◌∙◌}
use mathlib.Core.Bool.{Bool, true, false, not, ◌||◌}
use mathlib.Core.List.{List}
use Prim.Native.Nat.{ℕ, ◌+◌, ◌-◌, ◌≤◌, ◌<◌}
use native.Mathlib.Omega.{arith}
use lib.Dec.{leb, eqb}
use lib.ListN.{length}
use borrow.Author.Tests.{le-leb, lt-leb}
use Rattle.std.specs.Prelude.{Result, Ok, Err}
use Rattle.octets.specs.Choice.{pick}
use Rattle.octets.specs.Bytes.{byte, num_at}
use Rattle.octets.proofs.Picks.{on_pick, pick_true, pick-false}
use Rattle.tlv.specs.declared.lengths.Length.{Length}
use Rattle.tlv.specs.declared.lengths.Length.TheVariants as lengths
use Rattle.tlv.specs.Lengths.{wrong_length, length_missing, short_length, long_length, length_at}
use Rattle.answers.specs.Results.{form_bytes, length_stop, sized_by, sized_at}
use Rattle.exchange.proofs.Cut.{Begins, num_begins, by_place, Kind, Cut, same, missing, refused, alike_in}

-- a length that was read at a place: its value begins further on
abbrev pub SizedBefore : ℕ → ℕ → Result (ℕ × ℕ) ℕ → Type 0
SizedBefore at k (Ok (n, from)) = (at < from) × (from ≤ k)
SizedBefore at k (Err place) = place ≤ k

abbrev pub SizedLater : ℕ → Result (ℕ × ℕ) ℕ → Type 0
SizedLater k (Ok (n, from)) = k < from
SizedLater k (Err place) = k ≤ place

abbrev pub sized_kind : ℕ → Kind (Result (ℕ × ℕ) ℕ)
sized_kind at =
    record {
      bad = Err;
      Before = SizedBefore at;
      Later = SizedLater;
      bad-before = λ k p h. h;
      bad-later = λ k p h. h;
    }

-- a length n in `size` bytes behind its first, which is in shortest form from `least` on
abbrev form : ℕ → ℕ → ℕ → ℕ → ℕ → Length
form at end size least n =
    pick (leb (at + 1 + size) end) (pick (leb least n) (lengths.Found n (at + 1 + size)) (lengths.Bad wrong_length)) (lengths.Bad length_missing)

-- how many those bytes are
short_form : (b : ℕ) → eqb b 0x81 ≡ true → form_bytes b ≡ 1
unfolding form_bytes
short_form b y = pick_true (eqb b 0x81) _ _ y

long_form : (b : ℕ) → eqb b 0x81 ≡ false → eqb b 0x82 ≡ true → form_bytes b ≡ 2
unfolding form_bytes
long_form b n y = pick-false (eqb b 0x81) _ _ n ∙ pick_true (eqb b 0x82) _ _ y

no_form : (b : ℕ) → eqb b 0x81 ≡ false → eqb b 0x82 ≡ false → form_bytes b ≡ 0
unfolding form_bytes
no_form b n m = pick-false (eqb b 0x81) _ _ n ∙ pick-false (eqb b 0x82) _ _ m

module _ (definite : Bool) (end at : ℕ) where
  -- a length by what came of its reading
  abbrev told : List ℕ → Length → Result (ℕ × ℕ) ℕ
  told a = sized_by a definite end at

  is_missing_lem : (a : List ℕ) → told a (lengths.Bad length_missing) ≡ Err (length a)
  unfolding sized_by length_stop pick
  is_missing_lem a = refl

  is_wrong : (a : List ℕ) → told a (lengths.Bad wrong_length) ≡ Err (at + form_bytes (byte a at))
  unfolding sized_by length_stop pick
  is_wrong a = refl

  -- ---- from `k` on

  module _ (a : List ℕ) (k : ℕ) (inside : k ≤ length a) where
    abbrev Later : Length → Type 0
    Later l = SizedLater k (told a l)

    missing_later : Later (lengths.Bad length_missing)
    missing_later = rw (is_missing_lem a) inside

    wrong_later : k ≤ at + form_bytes (byte a at) → Later (lengths.Bad wrong_length)
    wrong_later h = rw (is_wrong a) h

    found-later : (n from : ℕ) → k < from → Later (lengths.Found n from)
    unfolding sized_by
    found-later n from h = on_pick (SizedLater k) (not definite || leb (from + n) end) _ _ (λ _. h) (λ _. omega arith)

    form_later : (size least n : ℕ) → form_bytes (byte a at) ≡ size → k ≤ at + size → Later (form at (length a) size least n)
    form_later size least n e h =
        on_pick Later (leb (at + 1 + size) (length a)) _ _
        (λ _. on_pick Later (leb least n) _ _ (λ _. found-later n (at + 1 + size) (omega arith)) (λ _. wrong_later (omega arith)))
        (λ _. missing_later)

    first-later : k ≤ at → Later (length_at a at (length a))
    unfolding length_at short_length long_length
    first-later h =
        on_pick Later (leb (at + 1) (length a)) _ _
        (λ _. on_pick Later (leb (byte a at) 0x7F) _ _ (λ _. found-later (byte a at) (at + 1) (omega arith))
        (λ _. on_pick Later (eqb (byte a at) 0x81) _ _ (λ y. form_later 1 0x80 (byte a (at + 1)) (short_form (byte a at) y) (omega arith))
        (λ n. on_pick Later (eqb (byte a at) 0x82) _ _ (λ y. form_later 2 0x0100 (num_at a (at + 1)) (long_form (byte a at) n y) (omega arith)) (λ m. wrong_later (omega arith)))))
        (λ _. missing_later)

    pub sized-later : k ≤ at → SizedLater k (sized_at a definite end at)
    unfolding sized_at
    sized-later h = first-later h

  -- ---- in a beginning and in the whole

  module _ (x a : List ℕ) (begins : Begins x a) where
    abbrev k : ℕ
    k = length x

    abbrev Both : Length → Length → Type 0
    Both l m = Cut (sized_kind at) k (told x l) (told a m)

    -- the length's first bytes, up to a place
    upto : (place : ℕ) (l m : Length) → (k < place → Later a k begins.inside (pick (leb place (length a)) m (lengths.Bad length_missing))) → (place ≤ k → Both l m)
        → Both (pick (leb place k) l (lengths.Bad length_missing)) (pick (leb place (length a)) m (lengths.Bad length_missing))
    upto place l m later on =
        by_place k place
        (λ g.
        rw (pick_true (leb place k) l (lengths.Bad length_missing) (le-leb place k g), pick_true (leb place (length a)) m (lengths.Bad length_missing) (le-leb place (length a) (omega (arith, begins.inside)))) (on g))
        (λ h. missing (ap (told x) (pick-false (leb place k) _ _ (lt-leb place k h)) ∙ is_missing_lem x) (later h))

    found : (n from : ℕ) → at < from → from ≤ k → Both (lengths.Found n from) (lengths.Found n from)
    unfolding sized_by
    found n from h l =
        alike_in (λ s. s) (λ s. s) (not definite || leb (from + n) end) (λ _. same refl (h, l)) (λ _. refused (sized_kind at) (from - 1) (omega arith))

    wrong : at + form_bytes (byte a at) ≤ k → at < k → Both (lengths.Bad wrong_length) (lengths.Bad wrong_length)
    wrong h l =
        rw (is_wrong x, is_wrong a, begins.bytes at l) (refused (sized_kind at) (at + form_bytes (byte a at)) h)

    form_cut : (size least n m : ℕ) → form_bytes (byte a at) ≡ size → at < k → (at + 1 + size ≤ k → n ≡ m) → Both (form at k size least n) (form at (length a) size least m)
    form_cut size least n m e l is =
        upto (at + 1 + size) _ _ (λ h. form_later a k begins.inside size least m e (omega arith))
        (λ h. rw (is h) (alike_in (told x) (told a) (leb least m) (λ _. found m (at + 1 + size) (omega arith) h) (λ _. wrong (omega arith) l)))

    first_cut : Both (length_at x at k) (length_at a at (length a))
    unfolding length_at short_length long_length
    first_cut =
        upto (at + 1) _ _ (λ h. first-later a k begins.inside (omega arith))
        (λ h.
        let b = byte a at in
        rw (begins.bytes at (omega arith))
        (alike_in (told x) (told a) (leb b 0x7F) (λ _. found b (at + 1) (omega arith) h)
        (λ _. alike_in (told x) (told a) (eqb b 0x81) (λ y. form_cut 1 0x80 _ _ (short_form b y) (omega arith) (λ l. begins.bytes (at + 1) (omega arith)))
        (λ n. alike_in (told x) (told a) (eqb b 0x82) (λ y. form_cut 2 0x0100 _ _ (long_form b n y) (omega arith) (λ l. num_begins x a begins (at + 1) (omega arith)))
        (λ m. wrong (omega (arith, no_form b n m)) (omega arith))))))

    pub sized_cut : Cut (sized_kind at) k (sized_at x definite end at) (sized_at a definite end at)
    unfolding sized_at
    sized_cut = first_cut
