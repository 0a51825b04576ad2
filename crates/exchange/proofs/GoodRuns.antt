-- The answer of an expanded script is made of good replies: what it kept and what stands last are the replies that stand, one after the
-- other.
-- By induction over the pieces of the template, each from what the one before has left (`told_from_lem`). A C-APDU after which another piece
-- runs goes on, and its reply stands where its R-APDU is kept (`more`); the last that runs stands (`last-capdu`, `last-bad`); and nothing
-- runs after a bad format. Assumes nothing.
use Prim.Native.Nat.{ℕ, suc, ◌+◌, ◌≤◌, ◌<◌}
use mathlib.Core.Path.{◌≡◌, refl, sym, ap, ◌∙◌}
use mathlib.Core.Bool.{Bool, true, false, false≢true}
use mathlib.Core.List.{List, [], ◌∷◌, ◌++◌, append_assoc, append-nil}
use native.Mathlib.Omega.{arith}
use lib.ListN.{length, length-append}
use Rattle.octets.specs.Choice.{pick}
use Rattle.octets.specs.Bytes.{byte}
use Rattle.octets.proofs.Picks.{on_test}
use Rattle.card.specs.Row.{Card}
use Rattle.command.specs.Outcomes.{word_of, goes_on}
use Rattle.step.specs.Steps.{State}
use Rattle.expanded.specs.Capdu.{capdu_command}
use Rattle.expanded.specs.Expanded as expanded
use Rattle.expanded.specs.Expanded.{Progress, keeps, room_to_gather, begun, answered, last_rapdu, step_capdu, step_bad}
use Rattle.demands.specs.Commands.{after, last_of, word_goes_on, Piece, capdu, bad_format, piece_done, piece_goes_on}
use Rattle.exchange.specs.ReadBack as read_back
use Rattle.exchange.specs.ReadBack.{Reply, last_reply, reply_to, stands, standing}
use Rattle.exchange.proofs.Replies.{encoded, all_encoded, GoodReply, AllGood}
use Rattle.exchange.proofs.Formed.{Code, Formed}
use Rattle.exchange.proofs.GoodCapdus.{Goes, Ran, ran, same_end, ran_so, goes_on_lem}

-- what comes of `count` pieces that run behind `kept` bytes: the last progress, and the replies that stand
pub record Told (definite : Bool) (kept : List ℕ) (count : ℕ) (q : Progress) (rs : List Reply) : Type 0 where
  pub bytes : q.kept ++ q.last ≡ kept ++ all_encoded rs
  pub room : length (q.kept ++ q.last) ≤ room_to_gather
  pub good : AllGood rs
  pub some : 1 ≤ count → 1 ≤ length rs
  pub few : length rs ≤ count
  pub all : definite ≡ false → length rs ≡ count

-- a reply in front of others
good-before : (r : Reply) (rs : List Reply) → GoodReply false r → 1 ≤ length rs → AllGood rs → AllGood (r ∷ rs)
unfolding AllGood
good-before r [] h some all = absurd (omega arith)
good-before r (next ∷ rs) h some all = (h, all)

module _ (definite : Bool) where
  -- one piece alone
  alone : (kept : List ℕ) (q : Progress) (r : Reply) → q.kept ++ q.last ≡ kept ++ encoded r → GoodReply true r → length kept + length (encoded r) ≤ room_to_gather → Told definite kept 1 q (r ∷ [])
  unfolding all_encoded AllGood
  alone kept q r e good room =
      record {
        bytes = e ∙ rw append-nil;
        room = rw (e, length-append) room;
        good = good;
        some = λ one. omega arith;
        few = omega arith;
        all = λ e. refl;
      }

  last-bad : (code : ℕ) (p : Progress) → GoodReply true (read_back.bad_format code) → length p.kept + 3 ≤ room_to_gather → Told definite p.kept 1 (step_bad code p) (read_back.bad_format code ∷ [])
  unfolding step_bad encoded expanded.bad_format
  last-bad code p good room = alone p.kept (step_bad code p) (read_back.bad_format code) refl good room

  module _ (st : State) (kept : List ℕ) where
    abbrev its : List ℕ
    its = last_rapdu st.step st.card.files

    last-capdu : (c : Bool) → GoodReply true (last_reply st) → length kept + length its ≤ room_to_gather
        → Told definite kept 1 (answered c st kept its) (last_reply (answered c st kept its).state ∷ [])
    unfolding answered pick last_rapdu last_reply encoded
    last-capdu true good room = alone kept (answered true st kept its) (last_reply st) (append-nil (kept ++ its)) good room
    last-capdu false good room = alone kept (answered false st kept its) (last_reply st) refl good room

    -- a C-APDU with others behind it
    more : (c : Bool) → (definite ≡ false → c ≡ true) → GoodReply false (last_reply st) → (count : ℕ) → 1 ≤ count → (q : Progress) (rs : List Reply)
        → Told definite (answered c st kept its).kept count q rs
        → let reply : Reply = last_reply (answered c st kept its).state in Told definite kept (suc count) q (elim c [ true ↦ reply ∷ rs | false ↦ rs ])
    unfolding answered pick last_rapdu last_reply all_encoded encoded
    more true only good count one q rs h =
        record {
          bytes = h.bytes ∙ append_assoc kept _ (all_encoded rs);
          room = h.room;
          good = good-before _ rs good (h.some one) h.good;
          some = λ one. omega arith;
          few = let f = h.few in omega arith;
          all = λ e. ap suc (h.all e);
        }
    more false only good count one q rs h =
        record {
          bytes = h.bytes;
          room = h.room;
          good = h.good;
          some = λ _. h.some one;
          few = let f = h.few in omega arith;
          all = λ e. absurd (false≢true (only e));
        }

-- ---- the pieces

module _ (before : Card) (definite : Bool) (domain : ℕ) where
  abbrev does : Progress → Piece → Progress
  does = piece_done definite domain

  -- what comes of pieces from a progress on
  abbrev From : Progress → List Piece → List Progress → Type 0
  From p pieces ps = Told definite p.kept (length ps) (last_of p ps) (standing definite pieces ps)

  all-kept : (case : ℕ) → definite ≡ false → keeps definite case ≡ true
  all-kept case e = rw e

  module _ (bytes : List ℕ) (p : Progress) (small : byte bytes 4 < 256) (g : Goes before p) where
    abbrev here : State
    here = ran definite domain bytes p

    abbrev next : Progress
    next = step_capdu definite domain bytes p

    abbrev case : ℕ
    case = (capdu_command bytes).command.case

    so : Ran p.kept (keeps definite case) here
    so = ran_so definite domain bytes p before small g

    one_told : (rest : List Piece) → From p (capdu bytes ∷ rest) (next ∷ [])
    unfolding step_capdu last_of standing stands reply_to
    one_told rest = last-capdu definite here p.kept (keeps definite case) (so.good true (λ e. absurd (false≢true (sym e)))) so.room

    more_told : (rest : List Piece) (q : Progress) (ps : List Progress) → goes_on (word_of here.step.outcome) ≡ true → From next rest (q ∷ ps) → From p (capdu bytes ∷ rest) (next ∷ q ∷ ps)
    unfolding step_capdu last_of standing stands reply_to
    more_told rest q ps on h =
        more definite here p.kept (keeps definite case) (all-kept case) (so.good false (λ e. on)) (length {A = Progress} (q ∷ ps)) (omega arith) (last_of q ps) (standing definite rest (q ∷ ps)) h

  bad-told : (code : ℕ) (p : Progress) → Code code → Goes before p → From p (bad_format code ∷ []) (step_bad code p ∷ [])
  unfolding last_of standing stands reply_to GoodReply
  bad-told code p h g = let few = g.few in last-bad definite code p (record { least = h.least; most = h.most; last = refl }) (omega arith)

  told_from_lem : (rest : List Piece) (piece : Piece) (p : Progress) → Goes before p → Formed (piece ∷ rest) → From p (piece ∷ rest) (after does piece_goes_on p (piece ∷ rest))
  unfolding after piece_done piece_goes_on word_goes_on
  told_from_lem [] (capdu bytes) p g f =
      on_test (λ (l : List Progress). From p (capdu bytes ∷ []) (step_capdu definite domain bytes p ∷ l)) (piece_goes_on (step_capdu definite domain bytes p)) [] [] (λ _. one_told bytes p f.0 g []) (λ _. one_told bytes p f.0 g [])
  told_from_lem (piece ∷ rest) (capdu bytes) p g f =
      on_test (λ (l : List Progress). From p (capdu bytes ∷ piece ∷ rest) (step_capdu definite domain bytes p ∷ l)) _ _ []
      (λ goes.
      let on : goes_on (word_of (ran definite domain bytes p).step.outcome) ≡ true = sym (same_end definite domain bytes p) ∙ goes in
      more_told bytes p f.0 g (piece ∷ rest) _ _ on (told_from_lem rest piece (step_capdu definite domain bytes p) (goes_on_lem definite domain bytes p before f.0 g on) f.1))
      (λ _. one_told bytes p f.0 g (piece ∷ rest))
  told_from_lem [] (bad_format code) p g f =
      on_test (λ (l : List Progress). From p (bad_format code ∷ []) (step_bad code p ∷ l)) (piece_goes_on (step_bad code p)) [] [] (λ _. bad-told code p f.0 g) (λ _. bad-told code p f.0 g)
  told_from_lem (piece ∷ rest) (bad_format code) p g f = absurd (let h = f.1 in let z : ◌≡◌ {A = ℕ} 0 1 = cc in omega arith)

  -- all of them, from the start
  pub told-all : (application : ℕ) (card : Card) (pieces : List Piece) → Goes before (begun application card) → Formed pieces → From (begun application card) pieces (after does piece_goes_on (begun application card) pieces)
  unfolding after begun last_of standing all_encoded AllGood
  told-all application card [] g f =
      record {
        bytes = refl;
        room = omega arith;
        good = tt;
        some = λ one. one;
        few = omega arith;
        all = λ e. refl;
      }
  told-all application card (piece ∷ rest) g f = told_from_lem rest piece (begun application card) g f
