-- A call that is refused, and not with 5, is refused alike on the card that a take-back leaves. Assumes nothing.
use Prim.Native.Nat.{ℕ, zero, suc, ◌+◌, ◌-◌, ◌≤◌}
use mathlib.Core.Path.{◌≡◌, refl, sym, ap, ◌∙◌}
use mathlib.Core.Bool.{Bool, true, ◌&&◌, ◌||◌}
use native.Mathlib.Omega.{arith}
use lib.Dec.{leb, ltb, eqb}
use lib.ListN.{length}
use borrow.Author.Tests.{leb-true, ltb-true, le-leb, lt-ltb}
use Rattle.octets.proofs.Picks.{and_left, and_right, and_both}
use Rattle.card.specs.Row.{Card, is_adf}
use Rattle.journal.specs.declared.Head.{Head}
use Rattle.journal.specs.Entries.{head_size, head, used_bytes, scripts_on_trial, room, entry_bytes, entries_of}
use Rattle.journal.specs.Sound.{most_scripts, mark_fits, sound_card}
use Rattle.journal.specs.Changes.{with_journal, behind_mark, bytes_taken, taken_back}
use Rattle.journal.proofs.Behind.{behind_less}
use Rattle.journal.proofs.Written.{sound_writable}
use Rattle.journal.proofs.Cut.{cut_length, cut_scripts, cut_used}
use Rattle.journal.proofs.Kept.{taken_alike, taken_sound}
use Rattle.engine.specs.Numbers.{numbered, Arguments, format_known, application_fits, arguments_fit}
use Rattle.engine.specs.Calls.{run}
use Rattle.demands.specs.Called.{Call, running, taking_back, confirming, result_of, number, lent_response, seen}
use Rattle.engine.proofs.Answers.{confirm-done}
use Rattle.engine.proofs.RunNumbers.{Met}
use Rattle.demands.proofs.LawsRefused.{run_met, refused, back_card}
use Rattle.demands.proofs.Demand1.{back_numbers}

-- a take-back gives a mark more room, and keeps which entries are ADFs
module _ (c : Card) (sound : sound_card c ≡ true) where
  cut_fits : head_size + bytes_taken (behind_mark (entries_of c.journal)) ≤ length c.journal
  cut_fits = let ok = sound_writable c sound in omega (arith, behind_less (entries_of c.journal))

  mark_fits_back : mark_fits c.journal ≡ true → mark_fits (taken_back c).journal ≡ true
  unfolding mark_fits taken_back with_journal room
  mark_fits_back h =
      let j = c.journal in
      let u = bytes_taken (behind_mark (entries_of j)) in
      let s = scripts_on_trial j - 1 in
      let h' : Head = head u s 0 in
      let ok = sound_writable c sound in
      let few = ltb-true (scripts_on_trial j) most_scripts (and_left _ _ h) in
      let left = leb-true (used_bytes j + entry_bytes 0) (length j - head_size) (and_right (ltb (scripts_on_trial j) most_scripts) _ h) in
      let less = behind_less (entries_of j) in
      rw (cut_scripts j h' cut_fits, cut_used j h' cut_fits ok.short, cut_length j h' cut_fits)
      (and_both (ltb s most_scripts) (leb (u + entry_bytes 0) (length j - head_size)) (lt-ltb s most_scripts (omega arith)) (le-leb (u + entry_bytes 0) (length j - head_size) (omega arith)))

  arguments_back : (a : Arguments) → arguments_fit (taken_back c).table a ≡ arguments_fit c.table a
  unfolding arguments_fit application_fits
  arguments_back a =
      let r = (taken_alike c sound).rows in
      λ i. format_known a.format && ((eqb a.application 0 || (ltb a.application (r.same_entries i) && is_adf (r.alike a.application i))) && (eqb a.domain 0x00 || eqb a.domain 0xFF))

-- what a number other than 5 stands for still holds where a mark fits wherever it fitted before
module _ (s a f : Bool) (long least : ℕ) (m m' t : Bool) (more : m ≡ true → m' ≡ true) where
  still_met : (n : ℕ) → (n ≡ 5 → ⊥) → Met s a f long least m t n → Met s a f long least m' t n
  still_met zero z h = (h.0, h.1, h.2, h.3, more h.4, h.5)
  still_met (suc zero) z h = h
  still_met (suc (suc zero)) z h = h
  still_met (suc (suc (suc zero))) z h = h
  still_met (suc (suc (suc (suc zero)))) z h = h
  still_met (suc (suc (suc (suc (suc zero))))) z h = absurd (z refl)
  still_met (suc (suc (suc (suc (suc (suc zero)))))) z h = (h.0, h.1, h.2, h.3, more h.4, h.5)
  still_met (suc (suc (suc (suc (suc (suc (suc n))))))) z h = h

run_alike : (a : Arguments) (c : Card) → sound_card c ≡ true → (number (result_of (running a) c) ≡ 5 → ⊥) → number (result_of (running a) (taken_back c)) ≡ number (result_of (running a) c)
run_alike a c sound five =
    (run_met a (taken_back c) _).1
    (rw (taken_sound c sound ∙ sym sound, arguments_back c sound a)
    (still_met _ _ _ _ _ (mark_fits c.journal) _ _ (mark_fits_back c sound) (number (result_of (running a) c)) five ((run_met a c _).0 refl)))

pub alike : (h : Call) (c : Card) → number (result_of taking_back c) ≡ 0 → (number (result_of h c) ≡ 0 → ⊥) → (number (result_of h c) ≡ 5 → ⊥) → seen (result_of h (result_of taking_back c).card) ≡ seen (result_of h c)
unfolding result_of lent_response seen
alike (running a) c ok z five =
    let same = run_alike a c ((back_numbers c).accepted.0 ok).0 five in
    (λ i. seen (run a (back_card c ok i)))
    ∙ ap seen (refused (running a) (taken_back c) (λ e. z (sym same ∙ e)))
    ∙ (λ i. record { answer = numbered (same i); response = a.response })
    ∙ sym (ap seen (refused (running a) c z))
alike taking_back c ok z five = absurd (z ok)
alike confirming c ok z five = absurd (z (ap number (confirm-done c ((back_numbers c).accepted.0 ok).0)))
