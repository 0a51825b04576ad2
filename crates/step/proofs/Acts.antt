-- What a change does: its writes one after the other, as the code does them. Assumes nothing.
use mathlib.Core.Path.{◌≡◌, sym, ap, subst, ◌∙◌}
use mathlib.Core.List.{List, [], ◌∷◌}
use Prim.Native.Nat.{ℕ, ◌+◌, ◌*◌, ◌≤◌}
use native.Mathlib.Omega.{arith}
use lib.ListN.{length}
use Rattle.octets.specs.Bytes.{part, overwrite}
use Rattle.octets.proofs.Writes.{part_length}
use Rattle.card.specs.Row.{Card, lent, place_of_newest}
use Rattle.journal.specs.declared.Head.{Head}
use Rattle.journal.specs.declared.Memory.{Memory}
use Rattle.journal.specs.declared.Memory.TheVariants.{Files, Table}
use Rattle.journal.specs.Entries.{Entry, entry_of, entry_bytes, encode, scripts_on_trial}
use Rattle.journal.specs.Promised.{HasRoom}
use Rattle.journal.specs.Changes.{memory_of, with_journal, with_memory, pushed, kind_for, entry_for, write, perform, cost}
use Rattle.journal.proofs.Tails.{encode-length}
use Rattle.journal.proofs.Pushed.{pushed-length, pushed-used}
use Rattle.plan.specs.Promised.{record_writes, writes_of, Fits}
use Rattle.step.specs.Promised.{WriteRecordAsks}
use Rattle.plan.specs.declared.NewRecord.{NewRecord}
use Rattle.plan.specs.declared.Change.{Change}

-- what a change that is known needs, and what comes of it
module _ {change other : Change} (same : change ≡ other) («data» bytes : List ℕ) where
  pub known_fits : (t f : ℕ) → Fits t f (length «data») change → Fits t f (length «data») other
  known_fits t f = subst (λ (x : Change). Fits t f (length «data») x) same

  pub known_left : (j : List ℕ) → HasRoom j (cost (writes_of change «data» bytes)) → HasRoom j (cost (writes_of other «data» bytes))
  known_left j = subst (λ (x : Change). HasRoom j (cost (writes_of x «data» bytes))) same

  pub known_steps : (c : Card) {d : Card} → d ≡ perform (writes_of other «data» bytes) c → d ≡ perform (writes_of change «data» bytes) c
  known_steps c h = h ∙ ap (λ (x : Change). perform (writes_of x «data» bytes) c) (sym same)

-- one write, into either memory
module _ (m : Memory) (c : Card) (place : ℕ) (new : List ℕ) {x j : List ℕ} (stored : x ≡ overwrite (memory_of m c) place new) (kept : j ≡ pushed c.journal (scripts_on_trial c.journal) (entry_of (kind_for m) place (part (memory_of m c) place (length new)))) where
  pub one-write : with_memory m (with_journal c j) x ≡ write (record { memory = m; place = place; new = new }) c
  unfolding write entry_for
  one-write = λ i. with_memory m (with_journal c (kept i)) (stored i)

  -- what it leaves of the journal's room
  pub room_after : place + length new ≤ length (memory_of m c) → length c.journal ≤ 65535 → (n : ℕ) → HasRoom c.journal (entry_bytes (length new) + n) → HasRoom j n
  room_after inside short n left =
      let old : List ℕ = part (memory_of m c) place (length new) in
      let e : Entry = entry_of (kind_for m) place old in
      let l : length (encode e) ≡ entry_bytes (length new) = encode-length e ∙ ap entry_bytes (part_length (memory_of m c) place (length new) inside) in
      let fits : HasRoom c.journal (length (encode e)) = omega arith in
      rw kept (omega (arith, pushed-used c.journal (scripts_on_trial c.journal) e fits short, pushed-length c.journal (scripts_on_trial c.journal) e fits))

-- a byte of the table, which is lent as a part of its own
pub table-write : (t f j : List ℕ) (place new : ℕ) {at : ℕ} {t' j' : List ℕ} → at ≡ place → t' ≡ overwrite t (at + 0) (new ∷ []) → j' ≡ pushed j (scripts_on_trial j) (entry_of (kind_for Table) (at + 0) (part t (at + 0) 1)) → lent t' f j' ≡ write (record { memory = Table; place = place; new = new ∷ [] }) (lent t f j)
unfolding with_memory with_journal memory_of
table-write t f j place new {at} e ht hj =
    let z : at + 0 ≡ place = omega arith in
    one-write Table (lent t f j) (at + 0) (new ∷ []) ht hj ∙ ap (λ (p : ℕ). write (record { memory = Table; place = p; new = new ∷ [] }) (lent t f j)) z

-- the two writes of a new record
module _ (t f j : List ℕ) {h : Head} (r : NewRecord) (new : List ℕ) (ready : WriteRecordAsks (lent t f j) h r new) where
  abbrev place : ℕ
  place = r.start + r.record_length * r.place

  module _ {f' j₁ : List ℕ} (hf : f' ≡ overwrite f place new) (h₁ : j₁ ≡ pushed j (scripts_on_trial j) (entry_of (kind_for Files) place (part f place (length new)))) where
    -- the second has room
    pub second_left : HasRoom j₁ (entry_bytes 1)
    unfolding memory_of cost record_writes
    second_left =
        let in_record = ready.fits.inside in
        let in_files = ready.fits.file in
        let in-journal = ready.left in
        room_after Files (lent t f j) place new hf h₁ (omega (arith, ready.whole)) ready.short (entry_bytes 1) (omega arith)

    pub record_steps : {at : ℕ} {t' j₂ : List ℕ} → at ≡ place_of_newest r.entry → t' ≡ overwrite t (at + 0) (r.place ∷ []) → j₂ ≡ pushed j₁ (scripts_on_trial j₁) (entry_of (kind_for Table) (at + 0) (part t (at + 0) 1)) → lent t' f' j₂ ≡ perform (record_writes r new) (lent t f j)
    unfolding perform record_writes with_memory with_journal memory_of
    record_steps e ht h₂ =
        table-write t f' j₁ (place_of_newest r.entry) r.place e ht h₂
        ∙ ap (write (record { memory = Table; place = place_of_newest r.entry; new = r.place ∷ [] })) (one-write Files (lent t f j) place new hf h₁)
