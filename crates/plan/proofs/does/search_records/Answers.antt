-- `plan::does::search_records` meets its contract: what is found is made, and the first becomes current.
-- `search` puts the numbers that it finds at the start of the made bytes and returns how many there are. None: the plan ends with
-- 6282 and no data (`searched-none`). Some: the first of them, read back from the made bytes, becomes the record number
-- (`searched-some`). The code goes by the row and the file memory, the definition by what it sees of the file; `as_named` says that
-- they find the same. Assumes nothing.
use mathlib.Core.Path.{◌≡◌, sym, ap, ◌∙◌}
use mathlib.Core.List.{List, []}
use Prim.Native.Nat.{ℕ, ◌≤◌}
use native.Mathlib.Omega.{arith}
use lib.ListN.{length}
use Rattle.octets.specs.Bytes.{byte, part}
use Rattle.card.specs.declared.Row.{Row}
use Rattle.session.specs.declared.Standing.{Standing}
use Rattle.command.specs.declared.Command.{Command}
use Rattle.command.specs.declared.Format.{Format}
use Rattle.command.specs.Outcomes.{normal}
use Rattle.plan.specs.Ends.{produced}
use Rattle.plan.specs.Files.{File, found_records}
use Rattle.plan.specs.Plans.{named_by, searched, search}
use Rattle.plan.specs.Promised.{writes_of}
use Rattle.plan.proofs.Made.{write-short, searched-none, searched-some}
use Rattle.plan.proofs.does.search_records.Goals as goal

-- what is found, as the code names it
abbrev found : List ℕ → Row → Command → List ℕ → ℕ → List ℕ
found files r c «data» number = found_records r (part files r.start r.size) c.p2 «data» number

as_named : (format : Format) (s : Standing) (files : List ℕ) (r : Row) (c : Command) («data» : List ℕ) {number : ℕ} (f : File) → number ≡ named_by c s.record_number r → f.row ≡ r → f.content ≡ part files r.start r.size → searched format s (found files r c «data» number) ≡ search format c «data» s f
unfolding search
as_named format s files r c «data» f named row content =
    λ i. searched format s (found_records (sym row i) (sym content i) c.p2 «data» ((named ∙ ap (named_by c s.record_number) (sym row)) i))

pub returns-then-n-eq0 : goal.returns-then-n-eq0
unfolding writes_of
returns-then-n-eq0 c =
    let a = c.args in (
      λ f row content.
          c.done.ensures.0 a.«data».now _
          ∙ searched-none a.format a.s (found a.files.now a.r a.c a.«data».now c.record_of-number.result) (sym c.search-n.ensures.1 ∙ c.if-n-eq0.true)
          ∙ as_named a.format a.s a.files.now a.r a.c a.«data».now f c.record_of-number.ensures row content,
      c.done.ensures.1,
    )

pub produced-requires : goal.produced-requires
produced-requires c =
    let a = c.args in
    let same : length c.search-n.new.out ≡ length a.made.now = omega arith in
    let l : length (found a.files.now a.r a.c a.«data».now c.record_of-number.result) ≤ length a.made.now = write-short _ _ (sym (ap length c.search-n.ensures.0) ∙ same) in
    (omega (arith, c.search-n.ensures.1), omega arith)

pub returns : goal.returns
unfolding writes_of
returns c =
    let a = c.args in
    let s = c.search-n.ensures in
    let all = found a.files.now a.r a.c a.«data».now c.record_of-number.result in (
      λ f row content.
          c.produced.ensures.0 a.«data».now _ all a.made.now s.0 s.1
          ∙ (λ i. produced a.format (c.at_record-next.ensures i) normal all [])
          ∙ searched-some a.format a.s a.made.now all _ (λ z. c.if-n-eq0.false (s.1 ∙ z)) (c.wide.ensures.0 ∙ ap (λ (l : List ℕ). byte l 0) s.0)
          ∙ as_named a.format a.s a.files.now a.r a.c a.«data».now f c.record_of-number.ensures row content,
      c.produced.ensures.1,
    )
