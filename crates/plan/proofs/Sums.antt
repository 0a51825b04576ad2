-- INCREASE: whether the sum fits, the new record in the bytes that are made, and what is written. Assumes nothing.
use mathlib.Core.Path.{◌≡◌, sym, ap, ◌∙◌}
use mathlib.Core.Bool.{true, false}
use mathlib.Core.List.{List, ◌++◌, append_assoc}
use Prim.Native.Nat.{ℕ, ◌+◌, ◌-◌, ◌/◌, ◌^◌, ◌≤◌, ◌<◌}
use native.Mathlib.Nat.{div-eq_of_lt, one-le-pow, lt-div-mul-add}
use native.Mathlib.Decide.{dec_lt}
use native.Mathlib.Omega.{arith}
use lib.ListN.{length, take, length-append}
use lib.Seq.{take_at}
use lib.Dec.{leb}
use borrow.Author.Tests.{le-leb, lt-leb}
use Rattle.octets.specs.Bytes.{part, value, bytes_of, overwrite}
use Rattle.octets.proofs.Picks.{pick_true, pick-false}
use Rattle.octets.proofs.Writes.{part-lent, lent-part, part_length, write_two}
use Rattle.octets.proofs.Numbers.{bytes_of-length}
use Rattle.card.specs.declared.Row.{Row}
use Rattle.card.specs.Records.{record_offset}
use Rattle.session.specs.declared.Standing.{Standing}
use Rattle.session.specs.Session.{most_waiting}
use Rattle.command.specs.Instructions as ins
use Rattle.plan.specs.Ends.{Plan, failed}
use Rattle.plan.specs.Files.{File, record_bytes, sum, write_in, new_record, sum_too_long}
use Rattle.command.specs.declared.checks.Check.TheVariants.{SumTooLong}
use Rattle.plan.specs.declared.Change.TheVariants.{SumRecord}
use Rattle.plan.specs.Promised.{record_writes, writes_of, newest_of, summed}

-- a sum and what its carry tells
module _ (n m : ℕ) where
  sum_long : (n / m ≡ 0 → ⊥) → leb m n ≡ true
  sum_long z = elim (dec_lt n m) [ yes l ↦ absurd (z (div-eq_of_lt l)) | no g ↦ le-leb m n (omega arith) ]

  sum-short : 0 < m → n / m ≡ 0 → leb m n ≡ false
  sum-short h e = lt-leb m n (let l = rw e at (lt-div-mul-add {a = n} h) in omega arith)

-- record 1 of a file, as it is lent: its place in the file is given
abbrev pub first : List ℕ → Row → ℕ → List ℕ
first files r off = part files (r.start + off) (r.start + off + r.record_length - (r.start + off))

first-length : (files : List ℕ) (r : Row) (off : ℕ) → off + r.record_length ≤ r.size → r.start + r.size ≤ length files → length (first files r off) ≡ r.record_length
first-length files r off inside lies =
    rw (part-lent files (r.start + off) r.record_length) (part_length files (r.start + off) r.record_length (omega arith))

-- the file that INCREASE works on
pub record Raised (files : List ℕ) (s : Standing) (r : Row) (off : ℕ) (f : File) : Type 0 where
  pub at : off ≡ record_offset r 1
  pub inside : off + r.record_length ≤ r.size
  pub lies : r.start + r.size ≤ length files
  pub row : f.row ≡ r
  pub entry : f.entry ≡ s.file
  pub content : f.content ≡ part files r.start r.size

pub raised : {files : List ℕ} {s : Standing} {r : Row} {off : ℕ} {f : File} → (off ≡ record_offset r 1) × (off + r.record_length ≤ r.size) → r.start + r.size ≤ length files → f.row ≡ r → f.entry ≡ s.file → f.content ≡ part files r.start r.size → Raised files s r off f
raised o lies row entry content = record { at = o.0; inside = o.1; lies = lies; row = row; entry = entry; content = content }

module _ {files : List ℕ} {s : Standing} {r : Row} {off : ℕ} {f : File} (h : Raised files s r off f) («data» : List ℕ) where
  abbrev added : ℕ
  added = value (first files r off) + value «data»

  first-sum : added ≡ sum f.row f.content «data»
  unfolding sum record_bytes
  first-sum =
      rw (h.row, h.content, ← h.at, lent-part files r.start r.size off r.record_length h.inside)

  width : length (first files r off) ≡ f.row.record_length
  width = first-length files r off h.inside h.lies ∙ ap (λ (q : Row). q.record_length) (sym h.row)

  module _ {carry : ℕ} (e : carry ≡ added / 256 ^ length (first files r off)) where
    carried : carry ≡ sum f.row f.content «data» / 256 ^ f.row.record_length
    carried = e ∙ (λ i. first-sum i / 256 ^ width i)

    pub sum-fails : (carry ≡ 0 → ⊥) → (plan : Plan) → failed s SumTooLong ≡ summed ins.increase f «data» s plan
    unfolding summed sum_too_long
    sum-fails z plan = sym (pick_true _ _ _ (sum_long _ (256 ^ f.row.record_length) (λ q. z (carried ∙ q))))

    pub sum_done : carry ≡ 0 → {p plan : Plan} → p ≡ plan → p ≡ summed ins.increase f «data» s plan
    unfolding summed sum_too_long
    sum_done z q = q ∙ sym (pick-false _ _ _ (sum-short _ (256 ^ f.row.record_length) (one-le-pow f.row.record_length 256 (omega arith)) (sym carried ∙ z)))

  -- the new record
  abbrev new : List ℕ
  new = bytes_of f.row.record_length (sum f.row f.content «data»)

  new-length : length new ≡ r.record_length
  new-length = bytes_of-length f.row.record_length _ ∙ ap (λ (q : Row). q.record_length) h.row

  pub new-size : r.record_length + length «data» ≡ length (new ++ «data»)
  new-size = let n = new-length in simp length-append (omega arith)

  pub new-bytes : (w₀ : List ℕ) {w₁ w₂ : List ℕ} → length w₀ ≡ most_waiting → r.record_length + length «data» ≤ most_waiting → w₁ ≡ overwrite w₀ 0 (bytes_of (length (first files r off)) added) → w₂ ≡ overwrite w₁ r.record_length «data» → w₂ ≡ overwrite w₀ 0 (new ++ «data»)
  new-bytes w₀ {w₁} l k e g =
      let n = new-length in
      let p : r.record_length ≡ 0 + length new = omega arith in
      let m : w₁ ≡ overwrite w₀ 0 new = e ∙ (λ i. overwrite w₀ 0 (bytes_of (width i) (first-sum i))) in
      g ∙ (λ i. overwrite (m i) (p i) «data») ∙ sym (write_two w₀ 0 new «data» (omega arith))

  new_taken : (w₀ : List ℕ) → take r.record_length (overwrite w₀ 0 (new ++ «data»)) ≡ new
  unfolding overwrite
  new_taken w₀ = rw append_assoc (take_at new _ r.record_length new-length)

  pub new-writes : (w₀ : List ℕ) → writes_of (SumRecord (newest_of s.file r)) «data» (overwrite w₀ 0 (new ++ «data»)) ≡ new_record f new
  unfolding writes_of record_writes newest_of new_record write_in
  new-writes w₀ = rw (new_taken w₀, h.row, h.entry)
