-- What a command comes to: the first check that fails, what comes after the formal checks for SELECT, for GET RESPONSE and for a
-- file command, and decisions that write nothing or find room.
-- The first check of a list that fails decides. A list can be cut in two: a failure in the front part is that of the whole
-- (`first-before`), and where the front part is passed the rest decides (`first-behind`). So the formal checks come first, and then
-- the checks of the instruction: the two of SELECT and the two of GET RESPONSE are written out (`two_checks`), and a file command
-- is decided without the last check, the journal's room, which is then put around its plan (`room-last`); that is the same, as a
-- plan that failed writes nothing and always has room (`room-failed`). Assumes nothing.
use mathlib.Core.Path.{◌≡◌, refl, sym, ap, ◌∙◌}
use mathlib.Core.Bool.{Bool, true, false, not, ◌&&◌}
use mathlib.Core.List.{List, [], ◌∷◌, ◌++◌}
use mathlib.Core.Logic.{⊎_elim}
use Prim.Native.Nat.{ℕ, ◌+◌, ◌%◌, ◌≤◌}
use native.Mathlib.Omega.{arith}
use lib.ListN.{length}
use lib.Dec.{leb, ltb, eqb}
use borrow.Author.Tests.{leb-true, ltb-false, eqb-true, le-ltb, ne_eqb}
use Rattle.std.specs.Prelude.{Result, Ok, Err}
use Rattle.octets.specs.Choice.{pick}
use Rattle.octets.proofs.Picks.{pick_true, pick-false, and_left, and_right, on_pick, either}
use Rattle.std.specs.Prelude.{Some, None}
use Rattle.card.specs.Row.{Card}
use Rattle.journal.specs.Promised.{HasRoom}
use Rattle.journal.specs.Changes.{cost}
use Rattle.session.specs.declared.Standing.{Standing}
use Rattle.command.specs.Instructions as ins
use Rattle.command.specs.Instructions.{is_known}
use Rattle.plan.specs.Ends.{Plan, failed}
use Rattle.plan.specs.Files.{File, sum_too_long}
use Rattle.plan.specs.Plans.{Situation, select_entry, select, get_response, done_by}
use Rattle.command.specs.declared.checks.Check.{Check}
use Rattle.command.specs.declared.checks.Check.TheVariants.{BrokenForm, UnknownInstruction, WrongPathLength, NotFound, NothingWaits, MoreThanWaits, SumTooLong, JournalFull}
use Rattle.decide.specs.Fails.{fails, first_failing, path_length_fits, is_found, journal_full, unknown_check}
use Rattle.decide.specs.Promised.{roomed, responded, behind_form, roomless, Decided}
use Rattle.decide.specs.Order.{select_checks, response_checks, bound_checks, file_checks, later_checks, formal_checks, order}
use Rattle.decide.specs.Decisions.{decided, planned}
use Rattle.decide.proofs.Order.{past, first, later-select, later-response, later-file}
use Rattle.decide.proofs.Passing.{AllPass, all_pass}
use Rattle.plan.specs.declared.Change.TheVariants.{Nothing}
use Rattle.plan.specs.declared.Decision.{Decision}
use Rattle.plan.specs.Promised.{writes_of, plan_of, summed}
use Rattle.plan.proofs.Inside.{none-fits}

module _ (w : Situation) where
  -- the first check of a list decides, or those behind it
  chosen : (v : Bool) (o : Result (Unit {0}) Check) (k : Check) → decided w (pick v (Err k) o) ≡ pick v (failed w.session k) (decided w o)
  unfolding decided pick
  chosen true o k = refl
  chosen false o k = refl

  first_of : (k : Check) (ks : List Check) → decided w (first_failing w (k ∷ ks)) ≡ pick (fails w k) (failed w.session k) (decided w (first_failing w ks))
  unfolding first_failing
  first_of k ks = chosen (fails w k) (first_failing w ks) k

  one_check : (k : Check) → decided w (first_failing w (k ∷ [])) ≡ pick (fails w k) (failed w.session k) (done_by w.command.instruction w)
  unfolding first_failing decided
  one_check k = first_of k []

  two_checks : (a b : Check) → decided w (first_failing w (a ∷ b ∷ [])) ≡ pick (fails w a) (failed w.session a) (pick (fails w b) (failed w.session b) (done_by w.command.instruction w))
  two_checks a b = first_of a (b ∷ []) ∙ ap (pick (fails w a) (failed w.session a)) (one_check b)

  -- a check that fails in front of others is the first, and others decide behind those that are passed
  pub first-before : (a b : List Check) (k : Check) → Err k ≡ first_failing w a → Err k ≡ first_failing w (a ++ b)
  unfolding first_failing
  first-before [] b k e = absurd (let z : ◌≡◌ {A = ℕ} 0 1 = cc in omega arith)
  first-before (x ∷ a) b k e =
      ⊎_elim
      (λ h. e ∙ first w x a h ∙ sym (first w x (a ++ b) h))
      (λ h. first-before a b k (e ∙ past w x a h) ∙ sym (past w x (a ++ b) h))
      (either (fails w x))

  pub first-behind : (a b : List Check) → AllPass w a → first_failing w (a ++ b) ≡ first_failing w b
  first-behind [] b h = refl
  first-behind (k ∷ a) b h = past w k (a ++ b) h.0 ∙ first-behind a b h.1

  -- what comes of the first check that fails
  first_decides : (a b : List Check) (k : Check) → Err k ≡ first_failing w a → failed w.session k ≡ decided w (first_failing w (a ++ b))
  unfolding decided
  first_decides a b k e = ap (decided w) (first-before a b k e)

-- what comes behind the formal checks
pub behind : (w : Situation) → Ok tt ≡ first_failing w formal_checks → behind_form w ≡ planned w
unfolding behind_form planned order
behind w h = sym (ap (decided w) (first-behind w formal_checks (later_checks w.command.instruction) (all_pass w formal_checks (sym h))))

pub form_fails : (w : Situation) (k : Check) → Err k ≡ first_failing w formal_checks → failed w.session k ≡ planned w
unfolding planned order
form_fails w k e = first_decides w formal_checks (later_checks w.command.instruction) k e

module _ (w : Situation) (ks : List Check) (e : later_checks w.command.instruction ≡ ks) where
  behind_checks : decided w (first_failing w ks) ≡ behind_form w
  unfolding behind_form
  behind_checks = sym (ap (λ (l : List Check). decided w (first_failing w l)) e)

-- the data of a SELECT
pub path_some : (p1 n : ℕ) → path_length_fits p1 n ≡ true → 2 ≤ n
unfolding path_length_fits pick
path_some p1 n = go (eqb p1 0)
  where
    go : (v : Bool) → pick v (eqb n 2) (eqb (n % 2) 0 && (leb 2 n && leb n 16)) ≡ true → 2 ≤ n
    go true h = let e = eqb-true n 2 h in omega arith
    go false h = leb-true 2 n (and_left (leb 2 n) (leb n 16) (and_right (eqb (n % 2) 0) _ h))

-- SELECT
pub behind-select : (w : Situation) → w.command.instruction ≡ ins.select → decided w (first_failing w select_checks) ≡ behind_form w
behind-select w e = behind_checks w select_checks (later-select w.command.instruction e)

module _ (w : Situation) where
  select_checks_lem : decided w (first_failing w select_checks) ≡ pick (not (path_length_fits w.command.p1 (length w.«data»))) (failed w.session WrongPathLength) (pick (not (is_found w.found)) (failed w.session NotFound) (done_by w.command.instruction w))
  unfolding select_checks fails
  select_checks_lem = two_checks w WrongPathLength NotFound

  pub select_wrong : path_length_fits w.command.p1 (length w.«data») ≡ false → failed w.session WrongPathLength ≡ decided w (first_failing w select_checks)
  select_wrong h = sym (select_checks_lem ∙ pick_true _ _ _ (ap not h))

  module _ (h : path_length_fits w.command.p1 (length w.«data») ≡ true) where
    select-behind : decided w (first_failing w select_checks) ≡ pick (not (is_found w.found)) (failed w.session NotFound) (done_by w.command.instruction w)
    select-behind = select_checks_lem ∙ pick-false _ _ _ (ap not h)

    pub select_lost : w.found ≡ None → failed w.session NotFound ≡ decided w (first_failing w select_checks)
    unfolding is_found
    select_lost g = sym (select-behind ∙ pick_true _ _ _ (ap (λ f. not (is_found f)) g))

    pub select-found : (e : ℕ) → w.found ≡ Some e → w.command.instruction ≡ ins.select → select_entry w.format w.session w.command.p2 e w.row ≡ decided w (first_failing w select_checks)
    unfolding is_found done_by select pick
    select-found e g k =
        sym (select-behind ∙ pick-false _ _ _ (ap (λ f. not (is_found f)) g) ∙ ap (λ (i : ℕ). done_by i w) k ∙ ap (select w.format w.session w.command.p2 w.row) g)

-- GET RESPONSE
done-response : (w : Situation) (i : ℕ) → i ≡ ins.get_response → done_by i w ≡ get_response w.command w.session
unfolding done_by pick
done-response w i e = rw e

response_checks_lem : (w : Situation) → w.command.instruction ≡ ins.get_response → decided w (first_failing w response_checks) ≡ responded w.command w.session
unfolding response_checks responded fails
response_checks_lem w e = two_checks w NothingWaits MoreThanWaits ∙ rw (done-response w w.command.instruction e)

pub behind-response : (w : Situation) → w.command.instruction ≡ ins.get_response → responded w.command w.session ≡ behind_form w
behind-response w e = sym (response_checks_lem w e) ∙ behind_checks w response_checks (later-response w.command.instruction e)

-- an instruction that there is not
pub none_known : (i : ℕ) → (i ≡ ins.select → ⊥) → (i ≡ ins.get_response → ⊥) → (i ≡ ins.read_binary → ⊥) → (i ≡ ins.update_binary → ⊥) → (i ≡ ins.read_record → ⊥) → (i ≡ ins.update_record → ⊥) → (i ≡ ins.search → ⊥) → (i ≡ ins.increase → ⊥) → (i ≡ ins.deactivate → ⊥) → (i ≡ ins.activate → ⊥) → is_known i ≡ false
none_known i a b c d e f g h j k = rw (ne_eqb _ _ a, ne_eqb _ _ b, ne_eqb _ _ c, ne_eqb _ _ d, ne_eqb _ _ e, ne_eqb _ _ f, ne_eqb _ _ g, ne_eqb _ _ h, ne_eqb _ _ j, ne_eqb _ _ k)

pub unknown_fails : (w : Situation) → is_known w.command.instruction ≡ false → failed w.session (unknown_check w.command) ≡ planned w
unfolding unknown_check
unknown_fails w h = on_pick (λ (k : Check). failed w.session k ≡ planned w) w.command.whole UnknownInstruction BrokenForm (λ y. form_fails w UnknownInstruction (unknown y)) (λ n. form_fails w BrokenForm (broken n))
  where
    broken : w.command.whole ≡ false → Err BrokenForm ≡ first_failing w formal_checks
    broken n = unfold formal_checks fails in sym (first w BrokenForm _ (ap not n))

    unknown : w.command.whole ≡ true → Err UnknownInstruction ≡ first_failing w formal_checks
    unknown y = unfold formal_checks fails in sym (past w BrokenForm _ (ap not y) ∙ first w UnknownInstruction _ (ap not h))

-- a file command, up to the lengths of its file and its records: a formal check fails, or all are passed
module _ (w : Situation) where
  pub form-roomless : (k : Check) → Err k ≡ first_failing w formal_checks → failed w.session k ≡ roomless w
  unfolding roomless
  form-roomless k e = first_decides w formal_checks (bound_checks ++ (SumTooLong ∷ [])) k e

module _ (w : Situation) (form : Ok tt ≡ first_failing w formal_checks) where
  behind-form : (ks : List Check) → first_failing w (formal_checks ++ ks) ≡ first_failing w ks
  behind-form ks = first-behind w formal_checks ks (all_pass w formal_checks (sym form))

  pub check_fails : (k : Check) → Err k ≡ first_failing w bound_checks → failed w.session k ≡ roomless w
  unfolding roomless
  check_fails k e = first_decides w bound_checks (SumTooLong ∷ []) k e ∙ sym (ap (decided w) (behind-form (bound_checks ++ (SumTooLong ∷ []))))

  pub roomless-done : Ok tt ≡ first_failing w bound_checks → summed w.command.instruction w.file w.«data» w.session (done_by w.command.instruction w) ≡ roomless w
  unfolding summed fails roomless
  roomless-done e =
      sym (ap (decided w) (behind-form (bound_checks ++ (SumTooLong ∷ [])) ∙ first-behind w bound_checks (SumTooLong ∷ []) (all_pass w bound_checks (sym e))) ∙ one_check w SumTooLong)

-- a file command with the journal's room
module _ (s : Standing) (used room : ℕ) (h : used ≤ room) where
  room-failed : (k : Check) → roomed used room s (failed s k) ≡ failed s k
  unfolding roomed failed cost
  room-failed k = pick-false (ltb room (used + 0)) _ _ (le-ltb room (used + 0) (omega arith))

  room-pick : (v : Bool) (p : Plan) (k : Check) → roomed used room s (pick v (failed s k) p) ≡ pick v (failed s k) (roomed used room s p)
  unfolding pick
  room-pick true p k = room-failed k
  room-pick false p k = refl

module _ (w : Situation) (inside : w.file.used ≤ w.file.room) where
  -- room is the last check
  room-last : (ks : List Check) → roomed w.file.used w.file.room w.session (decided w (first_failing w ks)) ≡ decided w (first_failing w (ks ++ (JournalFull ∷ [])))
  unfolding first_failing decided roomed fails journal_full
  room-last [] = sym (one_check w JournalFull)
  room-last (k ∷ ks) =
      ap (roomed w.file.used w.file.room w.session) (first_of w k ks)
      ∙ room-pick w.session w.file.used w.file.room inside (fails w k) (decided w (first_failing w ks)) k
      ∙ ap (pick (fails w k) (failed w.session k)) (room-last ks)
      ∙ sym (first_of w k (ks ++ (JournalFull ∷ [])))

  pub room-behind : eqb w.command.instruction ins.select ≡ false → eqb w.command.instruction ins.get_response ≡ false → roomed w.file.used w.file.room w.session (roomless w) ≡ planned w
  unfolding roomless planned order file_checks formal_checks bound_checks
  room-behind a b =
      room-last (formal_checks ++ (bound_checks ++ (SumTooLong ∷ [])))
      ∙ ap (λ (ks : List Check). decided w (first_failing w (formal_checks ++ ks))) (sym (later-file w.command.instruction a b))

-- what `plan::failed` says of its decision
abbrev pub Fails : Standing → Check → Decision → Type 0
Fails s k d = ((«data» bytes : List ℕ) → plan_of d «data» bytes ≡ failed s k) × (d.change ≡ Nothing)

-- a decision that writes nothing, where the journal's used bytes are inside its room
pub nothing-decided : (card : Card) («data» bytes : List ℕ) (plan : Plan) (d : Decision) → HasRoom card.journal 0 → plan_of d «data» bytes ≡ plan → d.change ≡ Nothing → Decided card «data» bytes plan d
unfolding plan_of writes_of cost
nothing-decided card «data» bytes plan d h e n =
    record {
      same = e;
      fits = none-fits _ _ _ n;
      journal = rw (← e, n) h;
    }

pub roomed-inside : (used room : ℕ) (s : Standing) (p : Plan) {plan : Plan} → roomed used room s p ≡ plan → used ≤ room → used + cost plan.writes ≤ room
unfolding roomed failed cost
roomed-inside used room s p e h = rw (← e) (on_pick (λ (q : Plan). used + cost q.writes ≤ room) (ltb room (used + cost p.writes)) _ _ (λ y. omega arith) (λ n. ltb-false _ _ n))

-- the sum's check is INCREASE's alone
pub plain-sum : (i : ℕ) (f : File) («data» : List ℕ) (s : Standing) (p : Plan) → eqb i ins.increase ≡ false → summed i f «data» s p ≡ p
unfolding summed sum_too_long
plain-sum i f «data» s p h = pick-false _ _ p (rw h)
