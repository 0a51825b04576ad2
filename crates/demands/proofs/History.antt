-- Demand 3 for any history: what remains of it, played again, gives the same. It goes from the laws of one call: a refused call changes nothing; a
-- take-back after an accepted run gives back the card from before it, if the run's script is bytes; a call that is refused, and not with 5, is
-- refused alike on the card that a take-back leaves; 5 is for runs. Assumes nothing.
use mathlib.Core.Path.{◌≡◌, refl, sym, ap, ap₂, ◌∙◌, subst}
use mathlib.Core.Bool.{Bool, true, false, ◌||◌, false≢true}
use mathlib.Core.List.{List, [], ◌∷◌, ◌++◌, map, reverse, reverse-cons, map-append}
use native.Mathlib.Omega.{arith}
use lib.Dec.{eqb}
use borrow.Author.Tests.{eqb-true, eqb-false}
use Rattle.octets.specs.Choice.{pick}
use Rattle.card.specs.Row.{Card}
use Rattle.engine.specs.Calls.{Result}
use Rattle.engine.specs.Numbers.{Arguments}
use Rattle.demands.specs.Called.{Call, running, taking_back, confirming, result_of, number, Seen, seen}
use Rattle.demands.specs.Remains.{answers_from, card_after, Past, any_on_trial, struck, settled, past, after_run, after_take_back, after_confirm, after_call, remains_from, remains, calls_of, answers_of}
use Rattle.demands.specs.Demand3.{InBytes, AllInBytes, Replayed}
use Rattle.demands.proofs.LawsRefused.{unchanged}
use Rattle.demands.proofs.LawsTaken.{taken_back}
use Rattle.demands.proofs.LawsAlike.{alike}
use Rattle.demands.proofs.Demand1.{back_not-five, confirm-not-five}

-- a call that remains was refused, and not with 5
record Refused (p : Past) : Type 0 where
  pub not_done : p.seen.answer.number ≡ 0 → ⊥
  pub not_five : p.seen.answer.number ≡ 5 → ⊥

-- one call that remains leads from a card to the next: it gave what it is said to have given, it is an accepted run if it is on trial, and it
-- was refused if it is newer than a script on trial and not on trial itself
record Link (ps : List Past) (p : Past) (m c' : Card) : Type 0 where
  pub card : (result_of p.call m).card ≡ c'
  pub shown : seen (result_of p.call m) ≡ p.seen
  pub trial : p.on_trial ≡ true → (a : Arguments) × (p.call ≡ running a) × (p.seen.answer.number ≡ 0) × InBytes (running a)
  pub newer : p.on_trial ≡ false → any_on_trial ps ≡ true → Refused p

-- what remains, newest first, leads from the first card to the last
abbrev Reached : Card → List Past → Card → Type 0
Reached c [] c' = c ≡ c'
Reached c (p ∷ ps) c' = (m : Card) × Reached c ps m × Link ps p m c'

-- ---- played again

answers-last : (c : Card) (hs : List Call) (h : Call) → answers_from c (hs ++ (h ∷ [])) ≡ answers_from c hs ++ (seen (result_of h (card_after c hs)) ∷ [])
unfolding answers_from card_after
answers-last c [] h = refl
answers-last c (g ∷ hs) h = ap (λ (xs : List Seen). seen (result_of g c) ∷ xs) (answers-last (result_of g c).card hs h)

card-last : (c : Card) (hs : List Call) (h : Call) → card_after c (hs ++ (h ∷ [])) ≡ (result_of h (card_after c hs)).card
unfolding card_after
card-last c [] h = refl
card-last c (g ∷ hs) h = card-last (result_of g c).card hs h

-- calls, oldest first, that give from the first card on what they are said to have given, and leave the last card
abbrev Replay : Card → List Past → Card → Type 0
Replay c qs c' = (answers_from c (calls_of qs) ≡ answers_of qs) × (card_after c (calls_of qs) ≡ c')

one_more : (c : Card) (qs : List Past) (p : Past) (m c' : Card) → Replay c qs m
    → (result_of p.call m).card ≡ c' → seen (result_of p.call m) ≡ p.seen → Replay c (qs ++ (p ∷ [])) c'
one_more c qs p m c' before e s = (
  ap (answers_from c) (map-append (λ (q : Past). q.call) qs (p ∷ []))
      ∙ answers-last c (calls_of qs) p.call
      ∙ ap₂ (λ (xs : List Seen) (x : Seen). xs ++ (x ∷ [])) before.0 (ap (λ (k : Card). seen (result_of p.call k)) before.1 ∙ s)
      ∙ sym (map-append (λ (q : Past). q.seen) qs (p ∷ [])),
  ap (card_after c) (map-append (λ (q : Past). q.call) qs (p ∷ []))
      ∙ card-last c (calls_of qs) p.call
      ∙ ap (λ (k : Card). (result_of p.call k).card) before.1
      ∙ e,
)

replay : (c : Card) (ps : List Past) (c' : Card) → Reached c ps c' → Replay c (reverse ps) c'
unfolding answers_from card_after
replay c [] c' e = (refl, e)
replay c (p ∷ ps) c' r =
    subst (λ (qs : List Past). Replay c qs c') (sym (reverse-cons p ps))
    (one_more c (reverse ps) p r.0 c' (replay c ps r.0 r.1) r.2.card r.2.shown)

-- ---- one call more

-- the number of what was shown
shown-number : (p : Past) (r : Result) → seen r ≡ p.seen → number r ≡ p.seen.answer.number
unfolding seen
shown-number p r e = ap (λ (s : Seen). s.answer.number) e

-- a take-back from an accepted run's card
strike_trial : (p : Past) (m c' : Card) (a : Arguments) → p.call ≡ running a → p.seen.answer.number ≡ 0 → InBytes (running a)
    → seen (result_of p.call m) ≡ p.seen → (result_of p.call m).card ≡ c' → m ≡ (result_of taking_back c').card
strike_trial p m c' a ca n small s e =
    sym (ap (λ (r : Result). r.card) (taken_back a m small (sym (ap (λ (h : Call). number (result_of h m)) ca) ∙ shown-number p (result_of p.call m) s ∙ n)))
    ∙ ap (λ (k : Card). (result_of taking_back k).card) (sym (ap (λ (h : Call). (result_of h m).card) ca) ∙ e)

-- a refused call leaves the card
still : (p : Past) (m : Card) → Refused p → seen (result_of p.call m) ≡ p.seen → (result_of p.call m).card ≡ m
still p m ref s = unchanged p.call m (λ z. ref.not_done (sym (shown-number p (result_of p.call m) s) ∙ z))

-- a refused call on the card that a take-back leaves
again : (p : Past) (m : Card) → Refused p → seen (result_of p.call m) ≡ p.seen → number (result_of taking_back m) ≡ 0
    → seen (result_of p.call (result_of taking_back m).card) ≡ p.seen
again p m ref s ok =
    let n : number (result_of p.call m) ≡ p.seen.answer.number = shown-number p (result_of p.call m) s in
    alike p.call m ok (λ z. ref.not_done (sym n ∙ z)) (λ z. ref.not_five (sym n ∙ z)) ∙ s

refused_link : (ps : List Past) (p : Past) (m : Card) → Refused p → p.on_trial ≡ false → seen (result_of p.call m) ≡ p.seen
    → Link ps p m m
refused_link ps p m ref off s =
    record { card = still p m ref s; shown = s; trial = λ on. absurd (false≢true (sym off ∙ on)); newer = λ _ _. ref }

-- one call of `strike` below: the newest is the script on trial that is struck out, or it was refused and stays
strike_at : (c : Card) (p : Past) (ps : List Past) (c' : Card) (on : Bool) → p.on_trial ≡ on → Reached c (p ∷ ps) c'
    → (on || any_on_trial ps) ≡ true → number (result_of taking_back c') ≡ 0
    → ((m : Card) → Reached c ps m → any_on_trial ps ≡ true → number (result_of taking_back m) ≡ 0 → Reached c (struck ps) (result_of taking_back m).card)
    → Reached c (pick on ps (p ∷ struck ps)) (result_of taking_back c').card
unfolding pick
strike_at c p ps c' true on r any ok below =
    let t = r.2.trial on in
    subst (λ (k : Card). Reached c ps k) (strike_trial p r.0 c' t.0 t.1 t.2 t.3 r.2.shown r.2.card) r.1
strike_at c p ps c' false off r any ok below =
    let m : Card = r.0 in
    let ref : Refused p = r.2.newer off any in
    let same : m ≡ c' = sym (still p m ref r.2.shown) ∙ r.2.card in
    let ok' : number (result_of taking_back m) ≡ 0 = ap (λ (k : Card). number (result_of taking_back k)) same ∙ ok in
    subst (λ (k : Card). Reached c (p ∷ struck ps) (result_of taking_back k).card) same
    ((result_of taking_back m).card, below m r.1 any ok', refused_link (struck ps) p (result_of taking_back m).card ref off (again p m ref r.2.shown ok'))

-- the newest script on trial is struck out: what is left reaches the card that a take-back leaves
strike : (c : Card) (ps : List Past) (c' : Card) → Reached c ps c' → any_on_trial ps ≡ true → number (result_of taking_back c') ≡ 0
    → Reached c (struck ps) (result_of taking_back c').card
unfolding any_on_trial struck
strike c [] c' r any ok = absurd (false≢true any)
strike c (p ∷ ps) c' r any ok = strike_at c p ps c' p.on_trial refl r any ok (λ m. strike c ps m)

-- a confirmation ends all trials
none-settled : (ps : List Past) → any_on_trial (map settled ps) ≡ false
unfolding any_on_trial settled
none-settled [] = refl
none-settled (p ∷ ps) = none-settled ps

settle : (c : Card) (ps : List Past) (c' : Card) → Reached c ps c' → Reached c (map settled ps) c'
unfolding settled
settle c [] c' e = e
settle c (p ∷ ps) c' r = (
  r.0,
  settle c ps r.0 r.1,
  record {
    card = r.2.card;
    shown = r.2.shown;
    trial = λ on. absurd (false≢true on);
    newer = λ _ any. absurd (false≢true (sym (none-settled ps) ∙ any));
  },
)

-- a call that is not on trial stays: it was refused, or nothing older is on trial
stays : (c : Card) (ps : List Past) (m : Card) (h : Call) → Reached c ps m
    → (any_on_trial ps ≡ true → Refused (past h (result_of h m) false)) → Reached c (past h (result_of h m) false ∷ ps) (result_of h m).card
unfolding past
stays c ps m h r newer =
    (m, r, record { card = refl; shown = refl; trial = λ on. absurd (false≢true on); newer = λ _ any. newer any })

-- a run
run_more : (c : Card) (ps : List Past) (m : Card) (a : Arguments) → InBytes (running a) → (done five : Bool) → Reached c ps m
    → eqb (number (result_of (running a) m)) 0 ≡ done → eqb (number (result_of (running a) m)) 5 ≡ five
    → Reached c (pick five ps (past (running a) (result_of (running a) m) done ∷ ps)) (result_of (running a) m).card
unfolding pick past seen
run_more c ps m a small done true r d f =
    subst (λ (k : Card). Reached c ps k) (sym (unchanged (running a) m (λ z. omega (arith, eqb-true (number (result_of (running a) m)) 5 f)))) r
run_more c ps m a small true false r d f =
    (m, r, record { card = refl; shown = refl; trial = λ _. (a, refl, eqb-true _ _ d, small); newer = λ off _. absurd (false≢true (sym off)) })
run_more c ps m a small false false r d f =
    stays c ps m (running a) r (λ _. record { not_done = eqb-false _ _ d; not_five = eqb-false _ _ f })

-- a take-back
back_more : (c : Card) (ps : List Past) (m : Card) (done any : Bool) → Reached c ps m
    → eqb (number (result_of taking_back m)) 0 ≡ done → any_on_trial ps ≡ any
    → Reached c (pick done (pick any (struck ps) (past taking_back (result_of taking_back m) false ∷ ps)) (past taking_back (result_of taking_back m) false ∷ ps))
    (result_of taking_back m).card
unfolding pick
back_more c ps m true true r d t = strike c ps m r t (eqb-true _ _ d)
back_more c ps m true false r d t = stays c ps m taking_back r (λ some. absurd (false≢true (sym t ∙ some)))
back_more c ps m false any r d t =
    stays c ps m taking_back r (λ _. unfold past seen in record { not_done = eqb-false _ _ d; not_five = back_not-five m })

-- a confirmation
confirm_more : (c : Card) (ps : List Past) (m : Card) (done : Bool) → Reached c ps m
    → eqb (number (result_of confirming m)) 0 ≡ done
    → Reached c (pick done (past confirming (result_of confirming m) false ∷ map settled ps) (past confirming (result_of confirming m) false ∷ ps))
    (result_of confirming m).card
unfolding pick
confirm_more c ps m true r d =
    stays c (map settled ps) m confirming (settle c ps m r) (λ some. absurd (false≢true (sym (none-settled ps) ∙ some)))
confirm_more c ps m false r d =
    stays c ps m confirming r (λ _. unfold past seen in record { not_done = eqb-false _ _ d; not_five = confirm-not-five m })

-- one call more
call_more : (c : Card) (ps : List Past) (m : Card) (h : Call) → InBytes h → Reached c ps m → Reached c (after_call h (result_of h m) ps) (result_of h m).card
unfolding after_call after_run after_take_back after_confirm
call_more c ps m (running a) small r =
    run_more c ps m a small (eqb (number (result_of (running a) m)) 0) (eqb (number (result_of (running a) m)) 5) r refl refl
call_more c ps m taking_back small r = back_more c ps m (eqb (number (result_of taking_back m)) 0) (any_on_trial ps) r refl refl
call_more c ps m confirming small r = confirm_more c ps m (eqb (number (result_of confirming m)) 0) r refl

-- a whole history
all_more : (c : Card) (ps : List Past) (m : Card) (hs : List Call) → AllInBytes hs → Reached c ps m → Reached c (remains_from m ps hs) (card_after m hs)
unfolding remains_from card_after
all_more c ps m [] small r = r
all_more c ps m (h ∷ hs) small r = all_more c (after_call h (result_of h m) ps) (result_of h m).card hs small.1 (call_more c ps m h small.0 r)

pub replayed : (c : Card) (hs : List Call) → AllInBytes hs → Replayed c hs
unfolding remains
replayed c hs small =
    let played = replay c (remains_from c [] hs) (card_after c hs) (all_more c [] c hs small refl) in
    record { answers = played.0; card = played.1 }
