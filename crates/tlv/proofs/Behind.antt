-- A length that was written is read again, and what is read behind a prefix is what is read without it, so many bytes further on.
-- Both go by the choices of the definitions: a test of places gives the same where all of them are as much larger (`le_shift`, `lt_shift`), a
-- byte is the same (`byte-behind`), and a choice by one test agrees with another where each of its ways does (`over_pick`). Assumes nothing.
use mathlib.Core.Path.{◌≡◌, refl, sym, ap, ◌∙◌}
use mathlib.Core.Bool.{Bool, true, false, ◌&&◌}
use mathlib.Core.List.{List, ◌∷◌, ◌++◌}
use mathlib.Core.Logic.{⊎_elim}
use Prim.Native.Nat.{ℕ, ◌+◌, ◌*◌, ◌/◌, ◌%◌, ◌≤◌, ◌<◌}
use native.Mathlib.Nat.{add_assoc, add-zero}
use native.Mathlib.Omega.{arith}
use lib.Dec.{leb, ltb, eqb}
use lib.ListN.{length}
use lib.Seq.{get_or-append-add}
use borrow.Author.Tests.{leb-true, leb-false, ltb-true, ltb-false, lt-ltb, le-ltb, le-leb, lt-leb}
use Rattle.octets.specs.Choice.{pick}
use Rattle.octets.specs.Bytes.{byte, num_at, bytes2}
use Rattle.octets.proofs.Picks.{either, on_pick, le_yes}
use Rattle.tlv.specs.declared.lengths.Length.{Length}
use Rattle.tlv.specs.declared.lengths.Length.TheVariants as lengths
use Rattle.tlv.specs.declared.template.Item.{Item}
use Rattle.tlv.specs.declared.template.Item.TheVariants as items
use Rattle.tlv.specs.Lengths.{short_length, long_length, length_at, length_bytes}
use Rattle.tlv.specs.Templates.{is_capdu_tag, least_capdu, value_at, item_at}

-- tests of places that are all `k` further on
pub le_shift : (k a b : ℕ) {a' b' : ℕ} → a' ≡ k + a → b' ≡ k + b → leb a' b' ≡ leb a b
le_shift k a b {a'} {b'} ea eb =
    ⊎_elim
    (λ y. le-leb a' b' (let h = leb-true a b y in omega arith) ∙ sym y)
    (λ n. lt-leb a' b' (let h = leb-false a b n in omega arith) ∙ sym n)
    (either (leb a b))

pub lt_shift : (k a b : ℕ) {a' b' : ℕ} → a' ≡ k + a → b' ≡ k + b → ltb a' b' ≡ ltb a b
lt_shift k a b {a'} {b'} ea eb =
    ⊎_elim
    (λ y. lt-ltb a' b' (let h = ltb-true a b y in omega arith) ∙ sym y)
    (λ n. le-ltb a' b' (let h = ltb-false a b n in omega arith) ∙ sym n)
    (either (ltb a b))

-- two choices by one test
pub over_pick : {A B : Type 0} (f : A → B) (b : Bool) {c : Bool} {x y : A} {u v : B} → c ≡ b → u ≡ f x → v ≡ f y → pick c u v ≡ f (pick b x y)
unfolding pick
over_pick f true e p q = rw e p
over_pick f false e p q = rw e q

-- a length, and what stands in a template, so many bytes further on
unfoldable pub length_moved : ℕ → Length → Length
length_moved k (lengths.Found n at) = lengths.Found n (k + at)
length_moved k (lengths.Bad code) = lengths.Bad code

unfoldable pub item_moved : ℕ → Item → Item
item_moved k (items.Capdu from size) = items.Capdu (k + from) size
item_moved k (items.Bad code) = items.Bad code
item_moved k items.End = items.End

module _ (pre s : List ℕ) where
  abbrev k : ℕ
  k = length pre

  pub byte-behind : (at i : ℕ) → byte (pre ++ s) (k + at + i) ≡ byte s (at + i)
  byte-behind at i = ap (byte (pre ++ s)) (add_assoc k at i) ∙ get_or-append-add pre s (at + i) 0

  pub byte_at : (at : ℕ) → byte (pre ++ s) (k + at) ≡ byte s at
  byte_at at = get_or-append-add pre s at 0

  num_behind : (at : ℕ) → num_at (pre ++ s) (k + at) ≡ num_at s at
  unfolding num_at
  num_behind at = rw (byte_at at, byte-behind at 1)

  module _ (end : ℕ) where
    found : (at : ℕ) {n m at' : ℕ} → m ≡ n → at' ≡ k + at → lengths.Found m at' ≡ length_moved k (lengths.Found n at)
    unfolding length_moved
    found at e f = rw (e, f)

    bad : (code : ℕ) → lengths.Bad code ≡ length_moved k (lengths.Bad code)
    unfolding length_moved
    bad code = refl

    short-behind : (at : ℕ) → short_length (pre ++ s) (k + at) (k + end) ≡ length_moved k (short_length s at end)
    unfolding short_length
    short-behind at =
        over_pick (length_moved k) _ (le_shift k (at + 1) end (omega arith) refl)
        (over_pick (length_moved k) _ (ap (leb 0x80) (byte_at at)) (found (at + 1) (byte_at at) (omega arith)) (bad _)) (bad _)

    long_behind : (at : ℕ) → long_length (pre ++ s) (k + at) (k + end) ≡ length_moved k (long_length s at end)
    unfolding long_length
    long_behind at =
        over_pick (length_moved k) _ (le_shift k (at + 2) end (omega arith) refl)
        (over_pick (length_moved k) _ (ap (leb 0x0100) (num_behind at)) (found (at + 2) (num_behind at) (omega arith)) (bad _)) (bad _)

    pub length-behind : (at : ℕ) → length_at (pre ++ s) (k + at) (k + end) ≡ length_moved k (length_at s at end)
    unfolding length_at
    length-behind at =
        over_pick (length_moved k) _ (le_shift k (at + 1) end (omega arith) refl)
        (over_pick (length_moved k) _ (ap (λ (b : ℕ). leb b 0x7F) (byte_at at)) (found (at + 1) (byte_at at) (omega arith))
        (over_pick (length_moved k) _ (ap (λ (b : ℕ). eqb b 0x81) (byte_at at)) (ap (λ (p : ℕ). short_length (pre ++ s) p (k + end)) (add_assoc k at 1) ∙ short-behind (at + 1))
        (over_pick (length_moved k) _ (ap (λ (b : ℕ). eqb b 0x82) (byte_at at)) (ap (λ (p : ℕ). long_length (pre ++ s) p (k + end)) (add_assoc k at 1) ∙ long_behind (at + 1)) (bad _)))) (bad _)

    value-moved : (l : Length) → value_at (length_moved k l) (k + end) ≡ item_moved k (value_at l end)
    unfolding value_at length_moved item_moved
    value-moved (lengths.Found n at) =
        over_pick (item_moved k) _ (ap (λ (b : Bool). b && leb least_capdu n) (le_shift k (at + n) end (omega arith) refl)) refl refl
    value-moved (lengths.Bad code) = refl

    pub item_behind : (at : ℕ) → item_at (pre ++ s) (k + at) (k + end) ≡ item_moved k (item_at s at end)
    unfolding item_at item_moved
    item_behind at =
        over_pick (item_moved k) _ (lt_shift k at end refl refl)
        (over_pick (item_moved k) _ (ap is_capdu_tag (byte_at at))
        (ap (λ (p : ℕ). value_at (length_at (pre ++ s) p (k + end)) (k + end)) (add_assoc k at 1) ∙ ap (λ (l : Length). value_at l (k + end)) (length-behind (at + 1)) ∙ value-moved (length_at s (at + 1) end)) refl) refl

-- a length that was written is read
module _ (n : ℕ) (rest : List ℕ) (end : ℕ) where
  read_one : n < 0x80 → 1 ≤ end → lengths.Found n 1 ≡ length_at (n ∷ rest) 0 end
  unfolding length_at
  read_one l h = le_yes 1 end _ h (le_yes n 0x7F _ (omega arith) refl)

  read-two : 0x80 ≤ n → 2 ≤ end → lengths.Found n 2 ≡ length_at (0x81 ∷ n ∷ rest) 0 end
  unfolding length_at short_length pick
  read-two g h = le_yes 1 end _ (omega arith) (le_yes 2 end _ h (le_yes 0x80 n _ g refl))

  read-three : 0x0100 ≤ n → n < 65536 → 3 ≤ end → lengths.Found n 3 ≡ length_at (0x82 ∷ n / 256 % 256 ∷ n % 256 ∷ rest) 0 end
  unfolding length_at long_length num_at pick
  read-three g l h =
      let e : n ≡ n / 256 % 256 * 256 + n % 256 = omega arith in
      le_yes 1 end _ (omega arith) (le_yes 3 end _ h (le_yes 0x0100 (n / 256 % 256 * 256 + n % 256) _ (omega arith) (ap (λ (m : ℕ). lengths.Found m 3) e)))

  abbrev Reads : List ℕ → Type 0
  Reads d = length d ≤ end → lengths.Found n (length d) ≡ length_at (d ++ rest) 0 end

  pub length-read : n < 65536 → length (length_bytes n) ≤ end → lengths.Found n (length (length_bytes n)) ≡ length_at (length_bytes n ++ rest) 0 end
  unfolding length_bytes bytes2
  length-read small =
      on_pick Reads (ltb n 0x80) _ _ (λ y. read_one (ltb-true n 0x80 y))
      (λ z. on_pick Reads (ltb n 0x0100) _ _ (λ y. read-two (ltb-false n 0x80 z)) (λ w. read-three (ltb-false n 0x0100 w) small))

-- and so is one behind a prefix, in bytes that end where they end or before
pub length-read-behind : (pre : List ℕ) (n : ℕ) (rest : List ℕ) (end : ℕ) → n < 65536 → length (length_bytes n) ≤ end
    → length_at (pre ++ (length_bytes n ++ rest)) (length pre) (length pre + end) ≡ lengths.Found n (length pre + length (length_bytes n))
unfolding length_moved
length-read-behind pre n rest end small room =
    ap (λ (p : ℕ). length_at (pre ++ (length_bytes n ++ rest)) p (length pre + end)) (sym (add-zero (length pre)))
    ∙ length-behind pre (length_bytes n ++ rest) end 0 ∙ ap (length_moved (length pre)) (sym (length-read n rest end small room))
