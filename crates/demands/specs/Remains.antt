-- Histories: what a list of calls gives, one after the other, and which of its calls remain.
use Rattle.std.specs.Prelude.{ℕ, Bool, false, ◌||◌, List, [], ◌∷◌, map, reverse, eqb}
use Rattle.octets.specs.Choice.{pick}
use Rattle.card.specs.Row.{Card}
use Rattle.engine.specs.Calls.{Result}
use Rattle.demands.specs.Called.{Call, running, taking_back, confirming, result_of, Seen, seen}

-- what a caller gets to see of the calls of a history, one after the other, from a card on; and the card after them
unfoldable pub answers_from : Card → List Call → List Seen
answers_from c [] = []
answers_from c (h ∷ hs) = seen (result_of h c) ∷ answers_from (result_of h c).card hs

unfoldable pub card_after : Card → List Call → Card
card_after c [] = c
card_after c (h ∷ hs) = card_after (result_of h c).card hs

-- a call that remains so far, what its caller saw of it, and whether it is a script on trial
pub record Past : Type 0 where
  pub call : Call
  pub seen : Seen
  pub on_trial : Bool

-- whether some call of a list is a script on trial
unfoldable pub any_on_trial : List Past → Bool
any_on_trial [] = false
any_on_trial (p ∷ ps) = p.on_trial || any_on_trial ps

-- newest first: the newest script on trial is struck out
unfoldable pub struck : List Past → List Past
struck [] = []
struck (p ∷ ps) = pick p.on_trial ps (p ∷ struck ps)

-- a confirmation ends all trials
unfoldable pub settled : Past → Past
settled p = record { call = p.call; seen = p.seen; on_trial = false }

unfoldable pub past : Call → Result → Bool → Past
past h r on_trial = record { call = h; seen = seen r; on_trial = on_trial }

-- what remains after one call more, newest first: an accepted run goes on trial, a run refused with 5 is struck out; an accepted take-back
-- is struck out with the newest script on trial, and stays where none of this history is on trial; an accepted confirmation ends all trials
unfoldable pub after_run : Past → ℕ → List Past → List Past
after_run p number ps = pick (eqb number 5) ps (p ∷ ps)

unfoldable pub after_take_back : Past → ℕ → List Past → List Past
after_take_back p number ps = pick (eqb number 0) (pick (any_on_trial ps) (struck ps) (p ∷ ps)) (p ∷ ps)

unfoldable pub after_confirm : Past → ℕ → List Past → List Past
after_confirm p number ps = pick (eqb number 0) (p ∷ map settled ps) (p ∷ ps)

unfoldable pub after_call : Call → Result → List Past → List Past
after_call (running a) r ps = after_run (past (running a) r (eqb r.answer.number 0)) r.answer.number ps
after_call taking_back r ps = after_take_back (past taking_back r false) r.answer.number ps
after_call confirming r ps = after_confirm (past confirming r false) r.answer.number ps

unfoldable pub remains_from : Card → List Past → List Call → List Past
remains_from c ps [] = ps
remains_from c ps (h ∷ hs) = remains_from (result_of h c).card (after_call h (result_of h c) ps) hs

-- the calls of a history that remain, oldest first. An example, with each call's number:
--   run A (0), run B (0), take-back (0), run C (5), run D (0)
-- B goes with its take-back, and C goes; what remains is
--   run A (0), run D (0)
unfoldable pub remains : Card → List Call → List Past
remains c hs = reverse (remains_from c [] hs)

-- the calls of such a list, and what was seen of them
abbrev pub calls_of : List Past → List Call
calls_of ps = map (λ (p : Past). p.call) ps

abbrev pub answers_of : List Past → List Seen
answers_of ps = map (λ (p : Past). p.seen) ps
