-- Demand 3: "Take any sequence of scripts, take-backs and confirmations, with no one else writing the lent memory in between. Strike out
-- each script that was taken back, together with its take-back, and each run refused with number 5; a take-back of a script from before
-- the start stays. What demand 2's rules give for the remaining calls, run from the same start, is what the card gave: the same answer
-- to each remaining call and, at the end, the same table, files and journal, byte by byte. A take-back concerns the newest script
-- neither confirmed nor taken back."
--
-- Which calls remain is said in `Remains`; what a call gives on a card is `result_of`, which is demand 2's. It is said twice: for calls
-- that are each lent some response memory, and for calls that are all lent the same one, which then keeps what earlier calls answered.
use Rattle.std.specs.Prelude.{ℕ, ◌≡◌, List, [], ◌∷◌, map, length}
use Rattle.octets.specs.Bytes.{AllBytes}
use Rattle.card.specs.Row.{Card}
use Rattle.engine.specs.Numbers.{numbered, Arguments}
use Rattle.engine.specs.Calls.{gives}
use Rattle.demands.specs.Called.{Call, running, taking_back, confirming, result_of, number, seen, Told, told}
use Rattle.demands.specs.Remains.{answers_from, card_after, remains, calls_of, answers_of}

-- a script is bytes, and so is each script of a history
abbrev pub InBytes : Call → Type 0
InBytes (running a) = AllBytes a.script
InBytes taking_back = Unit
InBytes confirming = Unit

abbrev pub AllInBytes : List Call → Type 0
AllInBytes [] = Unit
AllInBytes (h ∷ hs) = InBytes h × AllInBytes hs

-- the remaining calls alone, from the same start, give the same answers, and leave the same card
pub record Replayed (c : Card) (hs : List Call) : Type 0 where
  pub answers : answers_from c (calls_of (remains c hs)) ≡ answers_of (remains c hs)
  pub card : card_after c (calls_of (remains c hs)) ≡ card_after c hs

-- ---- one response memory lent to all calls

-- a call that is lent this response memory, if it is a run
unfoldable pub with_memory : List ℕ → Call → Call
with_memory m (running a) =
    running
    (record {
      application = a.application;
      domain = a.domain;
      format = a.format;
      script = a.script;
      response = m;
    })
with_memory m taking_back = taking_back
with_memory m confirming = confirming

-- the response memory after a call: as a run leaves it, and as it was after the two other calls
unfoldable pub memory_after : List ℕ → Call → Card → List ℕ
memory_after m (running a) c = (result_of (with_memory m (running a)) c).response
memory_after m taking_back c = m
memory_after m confirming c = m

-- a history whose runs are all lent one memory: each finds in it what those before have left there
unfoldable pub in_one_memory : Card → List ℕ → List Call → List Call
in_one_memory c m [] = []
in_one_memory c m (h ∷ hs) =
    with_memory m h ∷ in_one_memory (result_of (with_memory m h) c).card (memory_after m h c) hs

-- what the calls of a history tell their caller
abbrev pub told_from : Card → List Call → List Told
told_from c hs = map told (answers_from c hs)

-- with other bytes in its response memory a run tells its caller the same, and leaves the same card
pub record LengthAlone (a : Arguments) (m : List ℕ) (c : Card) : Type 0 where
  pub told : told (seen (result_of (with_memory m (running a)) c)) ≡ told (seen (result_of (running a) c))
  pub card : (result_of (with_memory m (running a)) c).card ≡ (result_of (running a) c).card

-- the remaining calls of a history, from the same start and all lent the one memory `n`, tell the same, and leave the same card
pub record ToldAgain (c : Card) (n : List ℕ) (hs : List Call) : Type 0 where
  pub answers : told_from c (in_one_memory c n (calls_of (remains c hs))) ≡ map told (answers_of (remains c hs))
  pub card : card_after c (in_one_memory c n (calls_of (remains c hs))) ≡ card_after c hs

pub record Demand3 : Type 0 where
  -- any history from any card, each run with the response memory that it was lent
  pub history : (c : Card) (hs : List Call) → AllInBytes hs → Replayed c hs
  -- the plain case: a take-back after an accepted run has number 0, and gives back table, files and journal, byte by byte
  pub take_back :
      (a : Arguments) (c : Card) → InBytes (running a) → number (result_of (running a) c) ≡ 0
      → result_of taking_back (result_of (running a) c).card ≡ gives (numbered 0) c []
  -- of a run's response memory the length alone counts
  pub length_alone : (a : Arguments) (m : List ℕ) (c : Card) → length m ≡ length a.response → LengthAlone a m c
  -- so one memory for all calls tells what the same memory tells that is lent afresh for each
  pub afresh :
      (c : Card) (m : List ℕ) (hs : List Call) → AllInBytes hs
      → told_from c (in_one_memory c m hs) ≡ told_from c (map (with_memory m) hs)
  -- and what remains of a history in one memory `m` tells the same in one memory `n`, whatever stood in either
  pub one_memory :
      (c : Card) (m n : List ℕ) (hs : List Call) → AllInBytes hs → length n ≡ length m
      → ToldAgain c n (in_one_memory c m hs)
