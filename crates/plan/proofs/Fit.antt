-- The plan of each instruction: what it writes is of a sound form where it goes, and goes into bytes of its root's own entries; its
-- session is good, and of the same root; if P3 is a byte, the data of its outcome lie in the file memory or in the waiting bytes, those
-- of the file memory in the current file, and are no more than P3 00 reads in its format; and its word is one that a command can end with.
-- Every plan but that of GET RESPONSE ends in one of four ways, and each of them fits where its writes, its session and its data do
-- (`fit_failed`, `fit_done`, `fit_handed`, `fit_produced`). So of each instruction it is left to show where its bytes lie: the file
-- lies in the file memory and a record in the file, as the table is sound; what is written sits right by the laws of `Placed`; what is
-- made is at most 255 bytes; and the session moves to an entry that was found, or to a record that the file has.
-- Assumes nothing.
use mathlib.Core.Path.{◌≡◌, refl, subst}
use mathlib.Core.Bool.{true, false}
use mathlib.Core.List.{List, [], ◌∷◌, ◌++◌}
use mathlib.Core.Logic.{inl, inr}
use Prim.Native.Nat.{ℕ, ◌+◌, ◌-◌, ◌≤◌, ◌<◌, min}
use native.Mathlib.Nat.{min-le_left, min-le_right}
use native.Mathlib.Omega.{arith}
use lib.ListN.{length, length-append}
use borrow.Author.Tests.{leb-true, leb-false}
use Rattle.octets.proofs.Picks.{on_pick}
use Rattle.octets.specs.Bytes.{part, bytes_of}
use Rattle.octets.proofs.Numbers.{bytes_of-length}
use Rattle.card.specs.declared.Row.{Row}
use Rattle.std.specs.Prelude.{Option, Some, None}
use Rattle.card.specs.Row.{Card, row_of, is_cyclic, has_records, is_deactivated}
use Rattle.card.specs.Sound.{most_file_bytes, record_count, state_sound, own_sound, sound_table}
use Rattle.card.proofs.Promises.{few_bytes, file-inside, record_some, record_short, records-some, records-few, entry_own}
use Rattle.journal.specs.Changes.{Write}
use Rattle.journal.proofs.Written.{All}
use Rattle.journal.proofs.Kept.{AllForms}
use Rattle.session.specs.declared.Standing.{Standing}
use Rattle.session.specs.Words.{CanBeKept}
use Rattle.session.specs.Session.{most_waiting, waits, at_record, selected}
use Rattle.session.specs.Select.{find, row_found}
use Rattle.session.specs.Fcp.{fcp}
use Rattle.session.specs.Good.{Belongs, GoodFile, Good}
use Rattle.session.proofs.Good.{selected-root, good_record, good-waits, good-dropped, good-selected, find-belongs}
use Rattle.session.proofs.Template.{fcp-short}
use Rattle.command.specs.declared.Format.{Format}
use Rattle.command.specs.declared.Format.TheVariants.{Compact, Expanded}
use Rattle.command.specs.declared.Command.{Command}
use Rattle.command.specs.declared.checks.Check.{Check}
use Rattle.command.specs.declared.checks.Check.TheVariants.{NotFound, AnswerTooLong}
use Rattle.command.specs.Outcomes.{normal, end_of_data, selected_deactivated, data_count}
use Rattle.command.specs.Promised.{OutcomeFits}
use Rattle.command.proofs.Says.{EndsWell, Says, kept_well}
use Rattle.plan.specs.Ends.{Plan, failed, done, handed, produced}
use Rattle.plan.specs.Files.{file_at, number_after, sum}
use Rattle.plan.specs.Plans.{select_word, offset_of, select_entry, select, most_read, read_binary, update_binary, named_by, at_named, read_record, update_record, searched, search, increase, switch, get_response}
use Rattle.plan.proofs.Own.{AllOwn, ReadsOwn}
use Rattle.plan.proofs.Placed.{Sits, sit_forms, sit_own, in_file_lem, record_inside, in_record, in_newest, in_state}
use Rattle.plan.proofs.Noted.{First, found-few, found_first}

-- a plan of a command of a format in a session of a root
pub record Fit (format : Format) (card : Card) (root : ℕ) (c : Command) (p : Plan) : Type 0 where
  pub forms : AllForms p.writes card
  pub own : AllOwn root p.writes card
  pub stays : p.session.root ≡ root
  pub good : Good card.table p.session
  pub made : length p.made ≤ 255
  pub outcome : c.p3 < 256 → OutcomeFits (length card.files) p.outcome
  pub few : c.p3 < 256 → data_count p.outcome ≤ most_read format
  pub reads : ReadsOwn card.table p.session.file p.outcome
  pub says : Says format p.outcome

-- P3 00 reads more than what can wait, or be asked for by another P3
waiting_few : (format : Format) → most_waiting < most_read format
unfolding most_read
waiting_few Compact = omega arith
waiting_few Expanded = omega arith

-- "A deactivated file gives 6283."
select_kept : (r : Row) → CanBeKept (select_word r)
unfolding select_word
select_kept r = on_pick CanBeKept (is_deactivated r) selected_deactivated normal (λ y. inr refl) (λ n. inl refl)

not_found : {format : Format} → NotFound ≡ AnswerTooLong → format ≡ Expanded
not_found e = absurd (let z : ◌≡◌ {A = ℕ} 0 1 = cc in omega arith)

-- an FCP has its tag
fcp-some : (r : Row) → 1 ≤ length (fcp r)
unfolding fcp
fcp-some r = omega arith

-- the ways in which a plan ends
module _ (card : Card) (c : Command) (s : Standing) (good : Good card.table s) where
  abbrev t : List ℕ
  t = card.table

  pub fit_failed : (format : Format) (k : Check) → (k ≡ AnswerTooLong → format ≡ Expanded) → Fit format card s.root c (failed s k)
  unfolding failed OutcomeFits ReadsOwn Says
  fit_failed format k own =
      record {
        forms = tt;
        own = tt;
        stays = refl;
        good = good;
        made = omega arith;
        outcome = λ b. tt;
        few = λ b. omega arith;
        reads = tt;
        says = own;
      }

  fit_done : (format : Format) (word : ℕ) (ws : List Write) → EndsWell word → All (Sits s.root) ws card → Fit format card s.root c (done s word ws)
  unfolding done OutcomeFits ReadsOwn waits Says
  fit_done format word ws well sit =
      record {
        forms = sit_forms s.root ws card sit;
        own = sit_own s.root ws card sit;
        stays = refl;
        good = good-dropped t s good;
        made = omega arith;
        outcome = λ b. tt;
        few = λ b. omega arith;
        reads = tt;
        says = inl well;
      }

  fit_handed : (format : Format) (word place n : ℕ) → EndsWell word → (1 ≤ s.file) × ((row_of t s.file).start ≤ place) × (place + n ≤ (row_of t s.file).start + (row_of t s.file).size)
      → place + n ≤ length card.files → length card.files ≤ most_file_bytes → (c.p3 < 256 → n ≤ most_read format) → Fit format card s.root c (handed s word place n)
  unfolding handed OutcomeFits ReadsOwn waits Says
  fit_handed format word place n well its inside short few =
      record {
        forms = tt;
        own = tt;
        stays = refl;
        good = good-dropped t s good;
        made = omega arith;
        outcome = λ b. (inside, omega arith);
        few = few;
        reads = its;
        says = well;
      }

  fit_produced : (format : Format) (word : ℕ) (d : List ℕ) (ws : List Write) → CanBeKept word → 1 ≤ length d → length d ≤ 255 → All (Sits s.root) ws card → Fit format card s.root c (produced format s word d ws)
  unfolding produced OutcomeFits ReadsOwn waits Says
  fit_produced Compact word d ws kept some few sit =
      record {
        forms = sit_forms s.root ws card sit;
        own = sit_own s.root ws card sit;
        stays = refl;
        good = good-waits t s good (length d) word few (λ h. kept);
        made = few;
        outcome = λ b. tt;
        few = λ b. omega arith;
        reads = tt;
        says = inr (refl, record { count = length d; least = some; most = few; told = refl });
      }
  fit_produced Expanded word d ws kept some few sit =
      record {
        forms = sit_forms s.root ws card sit;
        own = sit_own s.root ws card sit;
        stays = refl;
        good = good-dropped t s good;
        made = few;
        outcome = λ b. few;
        few = λ b. omega (arith, waiting_few Expanded);
        reads = tt;
        says = kept_well word kept;
      }

  -- GET RESPONSE, where bytes wait
  pub fit_response : (format : Format) → 1 ≤ s.valid → Fit format card s.root c (get_response c s)
  unfolding get_response OutcomeFits ReadsOwn Says
  fit_response format some =
      record {
        forms = tt;
        own = tt;
        stays = refl;
        good = good;
        made = omega arith;
        outcome = λ b. on_pick (λ n. n ≤ 255) _ s.valid c.p3 (λ e. good.valid) (λ e. omega arith);
        few = λ b. on_pick (λ n. n ≤ most_read format) _ s.valid c.p3 (λ e. omega (arith, good.valid, waiting_few format)) (λ e. omega (arith, waiting_few format));
        reads = tt;
        says = kept_well s.word (good.word some);
      }

module _ (format : Format) (card : Card) (sound : sound_table card.table card.files ≡ true) (c : Command) (s : Standing) (good : Good card.table s) where
  -- SELECT
  entry-selected : (p2 e : ℕ) → Belongs card.table s.root e → Fit format card s.root c (select_entry format s p2 e (row_of card.table e))
  unfolding select_entry
  entry-selected p2 e b =
      let r = row_of card.table e in
      let after = selected s e r in
      let g = good-selected card.table card.files sound s good e b in
      let short = fcp-short r in
      let word = select_kept r in
      subst (λ (k : ℕ). Fit format card k c (select_entry format s p2 e r)) (selected-root s e r)
      (on_pick (Fit format card after.root c) _ _ _
      (λ y. fit_done card c after g format _ [] (kept_well (select_word r) word) tt)
      (λ y. fit_produced card c after g format _ (fcp r) [] word (fcp-some r) (omega arith) tt))

  pub fit_select : (p1 p2 : ℕ) («data» : List ℕ) (found : Option ℕ) → find card.table s.root s.directory p1 «data» ≡ found → Fit format card s.root c (select format s p2 (row_found card.table found) found)
  unfolding select row_found
  fit_select p1 p2 «data» (Some e) f = entry-selected p2 e (find-belongs card.table card.files sound s good p1 «data» e f)
  fit_select p1 p2 «data» None f = fit_failed card c s good format NotFound not_found

  -- on the current file
  module _ (some : 1 ≤ s.file) where
    abbrev r : Row
    r = row_of card.table s.file

    file : GoodFile card.table s.root s.file s.record_number
    file = good.file some

    own : own_sound (length card.files) r ≡ true
    own = entry_own card.table card.files sound s.file file.belongs.inside

    pub fit_read : offset_of c < r.size → Fit format card s.root c (read_binary format c s (file_at card s.file))
    unfolding read_binary file_at
    fit_read below =
        let left : ℕ = r.size - offset_of c in
        on_pick (Fit format card s.root c) _ _ _
        (λ e. handed-here normal (min left (most_read format)) (inl refl) (min-le_left left (most_read format)) (λ b. min-le_right left (most_read format)))
        (λ e. on_pick (Fit format card s.root c) _ _ _ (λ y. handed-here normal c.p3 (inl refl) (leb-true c.p3 left y) (λ b. omega (arith, waiting_few format))) (λ n. handed-here end_of_data left (inr (inl refl)) (omega arith) (λ b. omega (arith, leb-false c.p3 left n, waiting_few format))))
      where
        handed-here : (word n : ℕ) → EndsWell word → n ≤ r.size - offset_of c → (c.p3 < 256 → n ≤ most_read format) → Fit format card s.root c (handed s word (r.start + offset_of c) n)
        handed-here word n well most few =
            let inside = file-inside (length card.files) r own file.is_file in
            fit_handed card c s good format word _ n well (some, omega arith, omega arith) (omega arith) (few_bytes card.table card.files sound) few

    pub fit_update : («data» : List ℕ) → 1 ≤ length «data» → length «data» ≤ 255 → offset_of c + length «data» ≤ r.size → Fit format card s.root c (update_binary c «data» s (file_at card s.file))
    unfolding update_binary
    fit_update «data» least most fits =
        fit_done card c s good format _ _ (inl refl) (in_file_lem card sound s.root s.file file.belongs file.is_file (offset_of c) «data» least most fits, tt)

    pub fit_switch : (state : ℕ) → state_sound state ≡ true → Fit format card s.root c (switch state s (file_at card s.file))
    unfolding switch file_at
    fit_switch state ok = fit_done card c s good format _ _ (inl refl) (in_state card sound s.root s.file file.belongs file.is_file state ok, tt)

    -- and it has records
    module _ (has : has_records r ≡ true) where
      at_number : (n : ℕ) → n ≤ record_count r → Good card.table (at_record s n)
      at_number n most = good_record card.table s good n (λ h. (some, has, most))

      at_named_lem : (n : ℕ) → n ≤ record_count r → Good card.table (at_named c s n)
      unfolding at_named number_after
      at_named_lem n most =
          good_record card.table s good _
          (on_pick (λ k. 1 ≤ k → (1 ≤ s.file) × (has_records r ≡ true) × (k ≤ record_count r)) _ s.record_number n (λ y h. (some, has, file.within h)) (λ y h. (some, has, most)))

      pub fit_record : named_by c s.record_number r ≤ record_count r → Fit format card s.root c (read_record c s (file_at card s.file))
      unfolding read_record file_at at_named at_record
      fit_record most =
          let short = record_short (length card.files) r own has in
          let inside = file-inside (length card.files) r own file.is_file in
          let within = record_inside card sound s.root s.file file.belongs has (named_by c s.record_number r) in
          fit_handed card c _ (at_named_lem (named_by c s.record_number r) most) format _ _ _ (inl refl) (some, omega arith, omega arith) (omega arith) (few_bytes card.table card.files sound) (λ b. omega (arith, waiting_few format))

      pub fit_rewrite : («data» : List ℕ) → length «data» ≡ r.record_length → (is_cyclic r ≡ false → named_by c s.record_number r ≤ record_count r) → Fit format card s.root c (update_record c «data» s (file_at card s.file))
      unfolding update_record file_at at_named at_record
      fit_rewrite «data» fits most =
          on_pick (Fit format card s.root c) _ _ _
          (λ y. fit_done card c _ (at_number 1 (records-some (length card.files) r own has)) format _ _ (inl refl) (in_newest card sound s.root s.file file.belongs has «data» fits y))
          (λ n. fit_done card c _ (at_named_lem (named_by c s.record_number r) (most n)) format _ _ (inl refl) (in_record card sound s.root s.file file.belongs has «data» fits (named_by c s.record_number r), tt))

      fit_found : (ns : List ℕ) → length ns ≤ record_count r → First (record_count r) ns → Fit format card s.root c (searched format s ns)
      unfolding searched at_record
      fit_found [] few first = fit_done card c s good format _ [] (inr (inl refl)) tt
      fit_found (n ∷ ns) few first =
          fit_produced card c (at_record s n) (at_number n first.1) format _ (n ∷ ns) [] (inl refl) (omega arith) (omega (arith, records-few (length card.files) r own has)) tt

      pub fit_search : («data» : List ℕ) → 1 ≤ named_by c s.record_number r → named_by c s.record_number r ≤ record_count r → Fit format card s.root c (search format c «data» s (file_at card s.file))
      unfolding search file_at
      fit_search «data» least most =
          let content = part card.files r.start r.size in
          fit_found _ (found-few r content c.p2 «data» (named_by c s.record_number r) least most) (found_first r content c.p2 «data» (named_by c s.record_number r) least most)

      pub fit_increase : («data» : List ℕ) → is_cyclic r ≡ true → r.record_length ≤ 127 → length «data» ≤ r.record_length → Fit format card s.root c (increase format «data» s (file_at card s.file))
      unfolding increase file_at at_record
      fit_increase «data» cyclic short few =
          let content = part card.files r.start r.size in
          let new = bytes_of r.record_length (sum r content «data») in
          let l = bytes_of-length r.record_length (sum r content «data») in
          fit_produced card c (at_record s 1) (at_number 1 (records-some (length card.files) r own has)) format _ (new ++ «data») _ (inl refl)
          (rw (length-append new «data», l) (omega (arith, record_some (length card.files) r own has)))
          (rw (length-append new «data», l) (omega arith))
          (in_newest card sound s.root s.file file.belongs has new l cyclic)
