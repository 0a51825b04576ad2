-- Demand 3 for one response memory lent to all calls.
-- A run of a script of bytes keeps its memory's length (`memory_kept`), so in such a history every run is lent as many bytes (`Formed`).
-- The calls that remain are some of these (`all_remain`), and played again as they were they give what they gave (`replayed`). In
-- another memory of that length each tells the same and leaves the same card (`length_alone_lem`), so all do (`again`). Assumes nothing.
use Prim.Native.Nat.{ℕ}
use mathlib.Core.Path.{◌≡◌, refl, sym, ap, subst, ◌∙◌}
use mathlib.Core.List.{List, [], ◌∷◌, ◌++◌, map, reverse, reverse-cons, map-append}
use lib.ListN.{length}
use Rattle.octets.specs.Bytes.{AllBytes}
use Rattle.octets.proofs.Picks.{on_pick}
use Rattle.card.specs.Row.{Card}
use Rattle.engine.specs.Calls.{Result}
use Rattle.demands.specs.Called.{Call, running, taking_back, confirming, result_of, seen, told}
use Rattle.demands.specs.Remains.{answers_from, card_after, Past, struck, settled, past, after_run, after_take_back, after_confirm, after_call, remains_from, remains, calls_of}
use Rattle.demands.specs.Demand3.{InBytes, AllInBytes, with_memory, memory_after, in_one_memory, told_from, ToldAgain}
use Rattle.demands.proofs.Room.{memory_kept}
use Rattle.demands.proofs.Memory.{length_alone_lem}
use Rattle.demands.proofs.History.{replayed}

-- a call whose script is bytes and whose response memory has `k` bytes, if it is a run
abbrev Formed : ℕ → Call → Type 0
Formed k (running a) = AllBytes a.script × (length a.response ≡ k)
Formed k taking_back = Unit
Formed k confirming = Unit

abbrev AllFormed : ℕ → List Call → Type 0
AllFormed k [] = Unit
AllFormed k (h ∷ hs) = Formed k h × AllFormed k hs

-- the one memory keeps its length
memory-length : (m : List ℕ) (h : Call) (c : Card) → InBytes h → length (memory_after m h c) ≡ length m
unfolding memory_after with_memory result_of
memory-length m (running a) c small = memory_kept _ c small
memory-length m taking_back c small = refl
memory-length m confirming c small = refl

-- ---- the history as it is made

lent-formed : (m : List ℕ) (h : Call) (k : ℕ) → InBytes h → length m ≡ k → Formed k (with_memory m h)
unfolding with_memory
lent-formed m (running a) k small e = (small, e)
lent-formed m taking_back k small e = tt
lent-formed m confirming k small e = tt

made-formed : (k : ℕ) (c : Card) (m : List ℕ) (hs : List Call) → AllInBytes hs → length m ≡ k → AllFormed k (in_one_memory c m hs)
unfolding in_one_memory
made-formed k c m [] small e = tt
made-formed k c m (h ∷ hs) small e =
    (lent-formed m h k small.0 e, made-formed k (result_of (with_memory m h) c).card (memory_after m h c) hs small.1 (memory-length m h c small.0 ∙ e))

formed-bytes : (k : ℕ) (h : Call) → Formed k h → InBytes h
formed-bytes k (running a) formed = formed.0
formed-bytes k taking_back formed = tt
formed-bytes k confirming formed = tt

all-bytes : (k : ℕ) (hs : List Call) → AllFormed k hs → AllInBytes hs
all-bytes k [] formed = tt
all-bytes k (h ∷ hs) formed = (formed-bytes k h formed.0, all-bytes k hs formed.1)

-- ---- the calls that remain are some of it

module _ (k : ℕ) where
  abbrev Kept : List Past → Type 0
  Kept ps = AllFormed k (calls_of ps)

  kept-struck : (ps : List Past) → Kept ps → Kept (struck ps)
  unfolding struck
  kept-struck [] h = tt
  kept-struck (p ∷ ps) h = on_pick Kept p.on_trial _ _ (λ _. h.1) (λ _. (h.0, kept-struck ps h.1))

  kept-settled : (ps : List Past) → Kept ps → Kept (map settled ps)
  unfolding settled
  kept-settled [] h = tt
  kept-settled (p ∷ ps) h = (h.0, kept-settled ps h.1)

  kept-after : (h : Call) (r : Result) (ps : List Past) → Formed k h → Kept ps → Kept (after_call h r ps)
  unfolding after_call after_run after_take_back after_confirm past
  kept-after (running a) r ps one all = on_pick Kept _ _ _ (λ _. all) (λ _. (one, all))
  kept-after taking_back r ps one all =
      on_pick Kept _ _ _ (λ _. on_pick Kept _ _ _ (λ _. kept-struck ps all) (λ _. (tt, all))) (λ _. (tt, all))
  kept-after confirming r ps one all = on_pick Kept _ _ _ (λ _. (tt, kept-settled ps all)) (λ _. (tt, all))

  kept_from : (c : Card) (ps : List Past) (hs : List Call) → AllFormed k hs → Kept ps → Kept (remains_from c ps hs)
  unfolding remains_from
  kept_from c ps [] formed all = all
  kept_from c ps (h ∷ hs) formed all = kept_from (result_of h c).card (after_call h (result_of h c) ps) hs formed.1 (kept-after h (result_of h c) ps formed.0 all)

  kept-last : (hs : List Call) (h : Call) → AllFormed k hs → Formed k h → AllFormed k (hs ++ (h ∷ []))
  kept-last [] h all one = (one, tt)
  kept-last (g ∷ hs) h all one = (all.0, kept-last hs h all.1 one)

  kept-reverse : (ps : List Past) → Kept ps → Kept (reverse ps)
  kept-reverse [] h = tt
  kept-reverse (p ∷ ps) h =
      subst Kept (sym (reverse-cons p ps))
      (subst (AllFormed k) (sym (map-append (λ (q : Past). q.call) (reverse ps) (p ∷ [])))
      (kept-last (calls_of (reverse ps)) p.call (kept-reverse ps h.1) h.0))

  all_remain : (c : Card) (hs : List Call) → AllFormed k hs → Kept (remains c hs)
  unfolding remains
  all_remain c hs formed = kept-reverse (remains_from c [] hs) (kept_from c [] hs formed tt)

-- ---- played again in another memory

-- what a history tells, and the card after it
abbrev Alike : Card → List Call → List Call → Type 0
Alike c gs hs = (told_from c gs ≡ told_from c hs) × (card_after c gs ≡ card_after c hs)

-- one call more: it tells the same and leaves the same card, and so do those after it
alike_more : (c : Card) (g h : Call) (gs hs : List Call) → told (seen (result_of g c)) ≡ told (seen (result_of h c)) → (same : (result_of g c).card ≡ (result_of h c).card)
    → Alike (result_of g c).card gs hs → Alike c (g ∷ gs) (h ∷ hs)
unfolding answers_from card_after
alike_more c g h gs hs tells same rest = (
  (λ i. tells i ∷ (rest.0 ∙ ap (λ (d : Card). told_from d hs) same) i),
  rest.1 ∙ ap (λ (d : Card). card_after d hs) same,
)

-- a call in another memory of that length
alone : (n : List ℕ) (h : Call) (c : Card) → Formed (length n) h
    → (told (seen (result_of (with_memory n h) c)) ≡ told (seen (result_of h c))) × ((result_of (with_memory n h) c).card ≡ (result_of h c).card)
unfolding with_memory
alone n (running a) c formed = let e = length_alone_lem a n c (sym formed.1) in (e.told, e.card)
alone n taking_back c formed = (refl, refl)
alone n confirming c formed = (refl, refl)

again : (c : Card) (n : List ℕ) (hs : List Call) → AllFormed (length n) hs → Alike c (in_one_memory c n hs) hs
unfolding in_one_memory
again c n [] formed = (refl, refl)
again c n (h ∷ hs) formed =
    let one = alone n h c formed.0 in
    let long = memory-length n h c (formed-bytes (length n) h formed.0) in
    alike_more c (with_memory n h) h _ hs one.0 one.1 (again (result_of (with_memory n h) c).card (memory_after n h c) hs (subst (λ (k : ℕ). AllFormed k hs) (sym long) formed.1))

-- what a call was lent before does not count
made-afresh : (c : Card) (n m : List ℕ) (hs : List Call) → in_one_memory c n (map (with_memory m) hs) ≡ in_one_memory c n hs
unfolding in_one_memory with_memory memory_after
made-afresh c n m [] = refl
made-afresh c n m (running a ∷ hs) = ap (λ (l : List Call). with_memory n (running a) ∷ l) (made-afresh (result_of (with_memory n (running a)) c).card (memory_after n (running a) c) m hs)
made-afresh c n m (taking_back ∷ hs) = ap (λ (l : List Call). taking_back ∷ l) (made-afresh (result_of taking_back c).card n m hs)
made-afresh c n m (confirming ∷ hs) = ap (λ (l : List Call). confirming ∷ l) (made-afresh (result_of confirming c).card n m hs)

afresh-formed : (m : List ℕ) (hs : List Call) → AllInBytes hs → AllFormed (length m) (map (with_memory m) hs)
afresh-formed m [] small = tt
afresh-formed m (h ∷ hs) small = (lent-formed m h (length m) small.0 refl, afresh-formed m hs small.1)

pub told-afresh : (c : Card) (m : List ℕ) (hs : List Call) → AllInBytes hs → told_from c (in_one_memory c m hs) ≡ told_from c (map (with_memory m) hs)
told-afresh c m hs small =
    sym (ap (told_from c) (made-afresh c m m hs)) ∙ (again c m (map (with_memory m) hs) (afresh-formed m hs small)).0

pub told-again : (c : Card) (m n : List ℕ) (hs : List Call) → AllInBytes hs → length n ≡ length m → ToldAgain c n (in_one_memory c m hs)
told-again c m n hs small same =
    let made = in_one_memory c m hs in
    let formed = made-formed (length n) c m hs small (sym same) in
    let played = replayed c made (all-bytes (length n) made formed) in
    let alike = again c n (calls_of (remains c made)) (all_remain (length n) c made formed) in
    record { answers = alike.0 ∙ ap (map told) played.answers; card = alike.1 ∙ played.card }
