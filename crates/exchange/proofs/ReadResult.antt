-- One good reply is read where its bytes stand: its tag, its length, its data and its word, or the code of a Bad format TLV. The same holds
-- in AB and in AF, where in AB the bytes end before the value does. Assumes nothing.
use Prim.Native.Nat.{ℕ, ◌+◌, ◌-◌, ◌≤◌, ◌<◌}
use mathlib.Core.Path.{◌≡◌, refl, sym, ap, ◌∙◌}
use mathlib.Core.Bool.{Bool, true, false, not, ◌&&◌, ◌||◌}
use mathlib.Core.List.{List, [], ◌∷◌, ◌++◌}
use native.Mathlib.Omega.{arith}
use lib.Dec.{leb, eqb}
use lib.ListN.{length, length-append}
use borrow.Author.Tests.{le-leb, lt-leb}
use Rattle.std.specs.Prelude.{Ok}
use Rattle.octets.specs.Choice.{pick}
use Rattle.octets.specs.Bytes.{byte, part, bytes2}
use Rattle.octets.proofs.Picks.{yes, no, lt_no, le_no, and_both}
use Rattle.tlv.specs.Lengths.{length_bytes}
use Rattle.expanded.specs.Expanded as expanded
use Rattle.answers.specs.declared.results.Piece.{Piece}
use Rattle.answers.specs.declared.results.Piece.TheVariants.{Result, BadFormat}
use Rattle.answers.specs.Results.{sized_by, sized_at, rapdu_ends, words_behind, rapdu_of, bad_format_of, is_tag, value_of, piece_at}
use Rattle.exchange.specs.ReadBack.{Reply, replied, bad_format}
use Rattle.exchange.proofs.Replies.{encoded, GoodResult, GoodCode, GoodReply}
use Rattle.exchange.proofs.Places.{Stands, stands-first, stands_second, stands-next, stands-inside, stands-part, stands-byte, stands-length}
use Rattle.exchange.proofs.ReadWords.{word_read}

-- where the data of an R-APDU begin
abbrev pub data_place : ℕ → List ℕ → ℕ
data_place at d = at + 1 + length (length_bytes (length d + 2))

-- what stands where the bytes of a reply do
unfoldable pub piece_of : ℕ → Reply → Piece
piece_of at (replied word d) = Result word (data_place at d) (length d)
piece_of at (bad_format code) = BadFormat code (at + 2)

-- an R-APDU's size, and what stands behind its tag and behind its length
rapdu_size_lem : (d : List ℕ) (w : ℕ) → length (expanded.rapdu d w) ≡ 1 + length (length_bytes (length d + 2)) + length d + 2
unfolding expanded.rapdu bytes2
rapdu_size_lem d w = omega (arith, length-append (length_bytes (length d + 2)) (d ++ bytes2 w), length-append d (bytes2 w))

module _ (answer : List ℕ) (at w : ℕ) (d : List ℕ) (s : Stands (expanded.rapdu d w) answer at) where
  size-stands : Stands (length_bytes (length d + 2) ++ (d ++ bytes2 w)) answer (at + 1)
  unfolding expanded.rapdu
  size-stands = stands-next answer at 0x23 (length_bytes (length d + 2) ++ (d ++ bytes2 w)) s

  value-stands : Stands (d ++ bytes2 w) answer (data_place at d)
  value-stands = stands_second answer (at + 1) (length_bytes (length d + 2)) (d ++ bytes2 w) size-stands

  pub data_read_lem : part answer (data_place at d) (length d) ≡ d
  data_read_lem = stands-part answer (data_place at d) d (stands-first answer (data_place at d) d (bytes2 w) value-stands)

-- the next place behind a reply, and that its first byte is not 00
module _ (at : ℕ) where
  pub behind-rapdu : (d : List ℕ) (w : ℕ) → data_place at d + length d + 2 ≡ at + length (encoded (replied w d))
  unfolding encoded
  behind-rapdu d w = omega (arith, rapdu_size_lem d w)

  pub reply_begins : (answer : List ℕ) (r : Reply) → Stands (encoded r) answer at → eqb (byte answer at) 0 ≡ false
  unfolding encoded expanded.rapdu expanded.bad_format
  reply_begins answer (replied w d) s = ap (λ (b : ℕ). eqb b 0) (stands-byte answer at 0x23 (length_bytes (length d + 2) ++ (d ++ bytes2 w)) s)
  reply_begins answer (bad_format code) s = ap (λ (b : ℕ). eqb b 0) (stands-byte answer at 0x90 (1 ∷ code ∷ []) s)

pub reply_some : (r : Reply) → 1 ≤ length (encoded r)
unfolding encoded expanded.bad_format
reply_some (replied w d) = omega (arith, rapdu_size_lem d w)
reply_some (bad_format code) = omega arith

-- a test that is made in one of AB and AF alone, and fails there, or holds
pub made_in : (definite test : Bool) → (definite ≡ true → test ≡ false) → (definite && test) ≡ false
made_in true test h = h refl
made_in false test h = refl

holds_in : (definite test : Bool) → (definite ≡ true → test ≡ true) → (not definite || test) ≡ true
holds_in true test h = h refl
holds_in false test h = refl

module _ (answer : List ℕ) (definite : Bool) (end : ℕ) where
  -- a length whose value is before the end
  pub sized-read : (at n : ℕ) → n < 65536 → Stands (length_bytes n) answer at → (definite ≡ true → at + length (length_bytes n) + n ≤ end)
      → sized_at answer definite end at ≡ Ok (n, at + length (length_bytes n))
  unfolding sized_at sized_by
  sized-read at n small s fits =
      ap (sized_by answer definite end at) (stands-length answer at n small s)
      ∙ sym (yes _ _ (holds_in definite _ (λ h. le-leb (at + length (length_bytes n) + n) end (fits h))) refl)

  -- a tag that is not the value's last byte
  tag_read : (at tag : ℕ) → byte answer at ≡ tag → is_tag tag ≡ true → (definite ≡ true → at + 1 < end)
      → piece_at answer definite end at ≡ value_of answer tag (sized_at answer definite end (at + 1))
  unfolding piece_at
  tag_read at tag e is fits =
      sym
      (no _ _ (rw (made_in definite _ (λ h. lt-leb end (at + 1) (fits h)), e, is))
      (ap (λ (b : ℕ). value_of answer b (sized_at answer definite end (at + 1))) (sym e)))

  rapdu-read : (at w : ℕ) (d : List ℕ) {last : Bool} → GoodResult last w d → Stands (expanded.rapdu d w) answer at
      → (definite ≡ true → at + length (expanded.rapdu d w) ≤ end) → piece_at answer definite end at ≡ Ok (Result w (data_place at d) (length d))
  unfolding expanded.rapdu value_of rapdu_of rapdu_ends pick bytes2
  rapdu-read at w d good s fits =
      let n : ℕ = length d + 2 in
      let count : n - 2 ≡ length d = omega arith in
      let word = stands_second answer (data_place at d) d (bytes2 w) (value-stands answer at w d s) in
      tag_read at 0x23 (stands-byte answer at 0x23 (length_bytes n ++ (d ++ bytes2 w)) s) refl (λ h. omega (arith, fits h, rapdu_size_lem d w))
      ∙ ap (rapdu_of answer)
      (sized-read (at + 1) n good.short (stands-first answer (at + 1) (length_bytes n) (d ++ bytes2 w) (size-stands answer at w d s)) (λ h. omega (arith, fits h, rapdu_size_lem d w)))
      ∙ sym (lt_no n 2 _ (omega arith) (rw (count, word_read (words_behind (length d)) w good.word answer (data_place at d + length d) word)))

  bad-read : (at code : ℕ) {last : Bool} → GoodCode last code → Stands (expanded.bad_format code) answer at
      → (definite ≡ true → at + 3 ≤ end) → piece_at answer definite end at ≡ Ok (BadFormat code (at + 2))
  unfolding expanded.bad_format value_of bad_format_of pick length_bytes
  bad-read at code good s fits =
      let behind = stands-next answer at 0x90 (1 ∷ code ∷ []) s in
      let value = stands-next answer (at + 1) 1 (code ∷ []) behind in
      let is : byte answer (at + 1 + 1) ≡ code = stands-byte answer (at + 1 + 1) code [] value in
      tag_read at 0x90 (stands-byte answer at 0x90 (1 ∷ code ∷ []) s) refl (λ h. omega (arith, fits h))
      ∙ ap (bad_format_of answer) (sized-read (at + 1) 1 (omega arith) (stands-first answer (at + 1) (length_bytes 1) (code ∷ []) behind) (λ h. omega (arith, fits h)))
      ∙ sym
      (le_no (length answer) (at + 1 + 1) _ (omega (arith, stands-inside answer (at + 1 + 1) (code ∷ []) value))
      (rw is
      (yes (leb 1 code && leb code 3) _ (and_both (leb 1 code) (leb code 3) (le-leb 1 code good.least) (le-leb code 3 good.most))
      (ap (λ (place : ℕ). Ok (BadFormat code place)) (omega arith)))))

  pub piece_read : (at : ℕ) (r : Reply) (last : Bool) → GoodReply last r → Stands (encoded r) answer at
      → (definite ≡ true → at + length (encoded r) ≤ end) → piece_at answer definite end at ≡ Ok (piece_of at r)
  unfolding GoodReply encoded piece_of expanded.bad_format
  piece_read at (replied w d) last good s fits = rapdu-read at w d good s fits
  piece_read at (bad_format code) last good s fits = bad-read at code good s fits
