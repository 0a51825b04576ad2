-- An expanded answer made of good replies is read back: its count and each of its replies.
-- Where what stands before the results is read, the results are by the laws of a list of replies, once for AB and AF (`replies_read`). The two
-- differ in the end, which is that of AB's value or the place of 00 00 (`definite_ends`, `indefinite_ends`), and in the front: AF 80 is read by
-- computing, and AB's front piece by piece, each behind the one before it (`definite_front`). Assumes nothing.
use Prim.Native.Nat.{ℕ, ◌+◌, ◌/◌, ◌%◌, ◌≤◌, ◌<◌}
use mathlib.Core.Path.{◌≡◌, refl, sym, ap, ◌∙◌}
use mathlib.Core.Bool.{Bool, true, false, not, ◌&&◌, ◌||◌, false≢true}
use mathlib.Core.List.{List, [], ◌∷◌, ◌++◌}
use native.Mathlib.Omega.{arith}
use lib.Dec.{leb, ltb, eqb}
use lib.ListN.{length, length-append}
use borrow.Author.Tests.{lt-ltb, le-ltb, le-leb, eq-eqb, ne_eqb, eqb-true, ltb-true, ltb-false}
use Rattle.std.specs.Prelude.{Result, Ok}
use Rattle.octets.specs.Choice.{pick}
use Rattle.octets.specs.Bytes.{byte, bytes2}
use Rattle.octets.proofs.Picks.{yes, no, lt_no, le_no, eq_yes, eq_no, on_pick, refuted, and_left, and_right, and_both}
use Rattle.tlv.specs.Lengths.{length_bytes}
use Rattle.expanded.specs.Expanded as expanded
use Rattle.answers.specs.declared.turns.Turn.{Turn}
use Rattle.answers.specs.Answers.{definite_end, indefinite_end, turned, first_turn, answered_by, results_read, count_read, count_sized, count_at, definite_sized, definite_read, indefinite_read, expanded_read, read_answer}
use Rattle.exchange.specs.ReadBack.{Reply, IsRead}
use Rattle.exchange.proofs.Replies.{encoded, all_encoded, AllGood}
use Rattle.exchange.proofs.Places.{Stands, stands-whole, stands-first, stands_second, stands-next, stands-inside, stands-byte, stands_num}
use Rattle.exchange.proofs.ReadResult.{reply_some, sized-read}
use Rattle.exchange.proofs.ReadResults.{Enough, HasResult, ReadTo, Ends, turns_read}
use Rattle.exchange.proofs.ReadTold.{told-read}

-- each reply takes a byte or more
replies_few : (rs : List Reply) → length rs ≤ length (all_encoded rs)
unfolding all_encoded
replies_few [] = omega arith
replies_few (r ∷ rs) = omega (arith, reply_some r, replies_few rs, length-append (encoded r) (all_encoded rs))

-- ---- the results, where all that stands before them is read

answered-read : (definite : Bool) (count first place seen : ℕ) (r : Result Turn ℕ) → ReadTo place seen r
    → answered_by definite count first r ≡ Ok (record { count = pick definite count seen; first = first; end = place })
unfolding answered_by
answered-read definite count first place seen r is = rw is.1

module _ (answer : List ℕ) (definite : Bool) (end place : ℕ) (fits : definite ≡ true → place ≤ end) (ends : Ends answer definite end place) where
  replies_read : (rs : List Reply) (first count : ℕ) → AllGood rs → Stands (all_encoded rs) answer first → first + length (all_encoded rs) ≡ place
      → Enough definite (length rs) (pick definite count 1) → (length rs ≡ 0 → HasResult definite 0 (pick definite count 1))
      → read_answer 1 answer ≡ results_read answer definite end count first → IsRead 1 answer (pick definite count (length rs)) rs
  unfolding results_read first_turn
  replies_read rs first count good s e enough one front =
      let few : length rs ≤ length answer = omega (arith, replies_few rs, stands-inside answer first (all_encoded rs) s) in
      let none : 0 + length rs ≡ length rs = omega arith in
      let all = rw none at (turns_read answer definite end place fits ends (length answer + 1) rs first 0 (pick definite count 1) good s e enough one (omega arith)) in
      record {
        first = first;
        end = place;
        summary = front ∙ answered-read definite count first place (length rs) _ all;
        results = told-read answer place (length answer) rs first good s e few;
      }

-- ---- "AF 80, all R-APDUs, 00 00"

-- 00 00 at the end of an answer
indefinite_ends : (answer : List ℕ) (place : ℕ) → Stands (0 ∷ 0 ∷ []) answer place → length answer ≡ place + 2 → Ends answer false 0 place
unfolding turned indefinite_end pick
indefinite_ends answer place s e seen left _ =
    let first = stands-byte answer place 0 (0 ∷ []) s in
    let second = stands-byte answer (place + 1) 0 [] (stands-next answer place 0 (0 ∷ []) s) in
    sym
    (le_no (length answer) place _ (omega arith)
    (eq_yes (byte answer place) 0 _ first
    (yes (ltb (place + 1) (length answer) && eqb (byte answer (place + 1)) 0) _ (and_both _ _ (lt-ltb (place + 1) (length answer) (omega arith)) (eq-eqb (byte answer (place + 1)) 0 second))
    (lt_no (place + 2) (length answer) _ (omega arith) refl))))

pub indefinite_read_lem : (rs : List Reply) → AllGood rs → IsRead 1 (expanded.indefinite_answer (all_encoded rs)) (length rs) rs
unfolding expanded.indefinite_answer read_answer expanded_read indefinite_read Enough pick
indefinite_read_lem rs good =
    let answer : List ℕ = expanded.indefinite_answer (all_encoded rs) in
    let results = stands-next answer 1 0x80 _ (stands-next answer 0 0xAF _ (stands-whole answer)) in
    let size = length-append (all_encoded rs) (0 ∷ 0 ∷ []) in
    replies_read answer false 0 (2 + length (all_encoded rs)) (λ h. absurd (false≢true h))
    (indefinite_ends answer (2 + length (all_encoded rs)) (stands_second answer 2 (all_encoded rs) (0 ∷ 0 ∷ []) results) (omega arith))
    rs 2 0 good (stands-first answer 2 (all_encoded rs) (0 ∷ 0 ∷ []) results) refl (λ _. omega arith) (λ _ h. absurd (false≢true h)) refl

-- ---- "AB, length, 80, length, count"

-- the end of the value is the end of the answer
definite_ends : (answer : List ℕ) (end : ℕ) → length answer ≡ end → Ends answer true end end
unfolding turned definite_end
definite_ends answer end e seen left one =
    sym (eq_yes end end _ refl (no ((eqb seen 0 && ltb 0 left) || ltb end (length answer)) _ (rw (one refl, le-ltb end (length answer) (omega arith))) refl))

-- the count, "as shortest signed integer (128 is 00 80)"
module _ (answer : List ℕ) (end at count : ℕ) where
  abbrev CountRead : List ℕ → Type 0
  CountRead d = Stands d answer at → count_read answer end (length d) at ≡ results_read answer true end count (at + length d)

  count-one : count < 0x80 → CountRead (count ∷ [])
  unfolding count_read pick
  count-one small s =
      let is = stands-byte answer at count [] s in
      sym
      (le_no (length answer) at _ (omega (arith, stands-inside answer at (count ∷ []) s))
      (le_no 0x80 (byte answer at) _ (omega arith) (ap (λ (n : ℕ). results_read answer true end n (at + 1)) (sym is))))

  count-two : 0x80 ≤ count → count < 32768 → CountRead (bytes2 count)
  unfolding count_read pick bytes2
  count-two large small s =
      let high = stands-byte answer at (count / 256 % 256) (count % 256 ∷ []) s in
      let low = stands-byte answer (at + 1) (count % 256) [] (stands-next answer at (count / 256 % 256) (count % 256 ∷ []) s) in
      let inside = stands-inside answer at (bytes2 count) s in
      sym
      (le_no (length answer) at _ (omega arith)
      (le_no 0x80 (byte answer at) _ (omega arith)
      (le_no (length answer) (at + 1) _ (omega arith)
      (no (eqb (byte answer at) 0 && ltb (byte answer (at + 1)) 0x80) _
      (refuted _
      (λ short.
      let zero_high = eqb-true (byte answer at) 0 (and_left (eqb (byte answer at) 0) (ltb (byte answer (at + 1)) 0x80) short) in
      let small_low = ltb-true (byte answer (at + 1)) 0x80 (and_right (eqb (byte answer at) 0) (ltb (byte answer (at + 1)) 0x80) short) in
      omega arith))
      (ap (λ (n : ℕ). results_read answer true end n (at + 2)) (sym (stands_num answer at count (omega arith) s)))))))

  count_read_lem : count < 32768 → CountRead (expanded.count_bytes count)
  unfolding expanded.count_bytes
  count_read_lem small = on_pick CountRead (ltb count 0x80) _ _ (λ y. count-one (ltb-true count 0x80 y)) (λ n. count-two (ltb-false count 0x80 n) small)

-- of one byte or two
count_size : (count : ℕ) → (1 ≤ length (expanded.count_bytes count)) × (length (expanded.count_bytes count) ≤ 2)
unfolding expanded.count_bytes bytes2
count_size count = on_pick (λ (d : List ℕ). (1 ≤ length d) × (length d ≤ 2)) (ltb count 0x80) _ _ (λ _. (omega arith, omega arith)) (λ _. (omega arith, omega arith))

-- the places of what stands before the results, and each read at its own
module _ (count : ℕ) (rapdus : List ℕ) where
  abbrev counted : List ℕ
  counted = expanded.count_bytes count

  abbrev body : List ℕ
  body = expanded.definite_body count rapdus

  abbrev answer : List ℕ
  answer = expanded.definite_answer count rapdus

  abbrev value_place : ℕ
  value_place = 1 + length (length_bytes (length body))

  abbrev count_place : ℕ
  count_place = value_place + 1 + length (length_bytes (length counted))

  abbrev first_place : ℕ
  first_place = count_place + length counted

  abbrev end : ℕ
  end = value_place + length body

  body_size : length body ≡ 1 + length (length_bytes (length counted)) + length counted + length rapdus
  unfolding expanded.definite_body
  body_size = omega (arith, length-append (length_bytes (length counted)) (counted ++ rapdus), length-append counted rapdus)

  answer-size : length answer ≡ end
  unfolding expanded.definite_answer
  answer-size = omega (arith, length-append (length_bytes (length body)) body)

  length-stands : Stands (length_bytes (length body) ++ body) answer 1
  unfolding expanded.definite_answer
  length-stands = stands-next answer 0 0xAB (length_bytes (length body) ++ body) (stands-whole answer)

  body_stands : Stands body answer value_place
  body_stands = stands_second answer 1 (length_bytes (length body)) body length-stands

  size-stands : Stands (length_bytes (length counted) ++ (counted ++ rapdus)) answer (value_place + 1)
  unfolding expanded.definite_body
  size-stands = stands-next answer value_place 0x80 (length_bytes (length counted) ++ (counted ++ rapdus)) body_stands

  count-stands : Stands (counted ++ rapdus) answer count_place
  count-stands = stands_second answer (value_place + 1) (length_bytes (length counted)) (counted ++ rapdus) size-stands

  rapdus_stand : Stands rapdus answer first_place
  rapdus_stand = stands_second answer count_place counted rapdus count-stands

  value_read : length body < 65536 → read_answer 1 answer ≡ count_at answer end value_place
  unfolding read_answer expanded_read definite_read definite_sized pick expanded.definite_answer
  value_read short =
      ap (definite_sized answer)
      (sized-read answer false 0 1 (length body) short (stands-first answer 1 (length_bytes (length body)) body length-stands) (λ h. absurd (false≢true h)))
      ∙ sym (eq_no (length body) 0 _ (λ none. omega (arith, body_size)) refl)

  size-read : count_at answer end value_place ≡ count_read answer end (length counted) count_place
  unfolding count_at count_sized
  size-read =
      let tag : byte answer value_place ≡ 0x80 = unfold expanded.definite_body in stands-byte answer value_place 0x80 (length_bytes (length counted) ++ (counted ++ rapdus)) body_stands in
      let some = count_size count in
      sym
      (no (not (eqb (byte answer value_place) 0x80) || eqb (value_place + 1) end) _ (rw tag (ne_eqb (value_place + 1) end (λ e. omega (arith, body_size))))
      (sym
      (ap (count_sized answer end)
      (sized-read answer true end (value_place + 1) (length counted) (omega arith) (stands-first answer (value_place + 1) (length_bytes (length counted)) (counted ++ rapdus) size-stands)
      (λ _. omega (arith, body_size)))
      ∙ sym (yes (leb 1 (length counted) && leb (length counted) 2) _ (and_both _ _ (le-leb 1 (length counted) some.0) (le-leb (length counted) 2 some.1)) refl))))

  definite_front : count < 32768 → length body < 65536 → read_answer 1 answer ≡ results_read answer true end count first_place
  definite_front small short =
      value_read short ∙ size-read ∙ count_read_lem answer end count_place count small (stands-first answer count_place counted rapdus count-stands)

pub definite_read_lem : (count : ℕ) (rs : List Reply) → count < 32768 → AllGood rs → length rs ≤ count → (1 ≤ count → 1 ≤ length rs)
    → length (expanded.definite_body count (all_encoded rs)) < 65536 → IsRead 1 (expanded.definite_answer count (all_encoded rs)) count rs
unfolding Enough pick
definite_read_lem count rs small good few some short =
    let rapdus : List ℕ = all_encoded rs in
    replies_read (answer count rapdus) true (end count rapdus) (end count rapdus) (λ _. omega arith)
    (definite_ends (answer count rapdus) (end count rapdus) (answer-size count rapdus))
    rs (first_place count rapdus) count good (rapdus_stand count rapdus) (omega (arith, body_size count rapdus)) few
    (λ none _. refuted (ltb 0 count) (λ more. omega (arith, some (ltb-true 0 count more)))) (definite_front count rapdus small short)
