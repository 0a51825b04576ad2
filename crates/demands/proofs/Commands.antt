-- The commands of a script one by one: a run leaves what the last command that runs leaves, and counts those that run.
-- The definition of a run reads a command and does it, round by round; here the commands are a list that is read first, with no card,
-- and done one after the other while they go on. Both look at the same place with the same test, so they agree by induction on the
-- number of rounds: `run_ends` for commands, `pieces_end` for the pieces of a template, where `by_test` and `by_item` compare two
-- choices way by way. Each command counts one, so the last state counts all that ran (`counted`). Assumes nothing.
use Rattle.std.specs.Prelude.{Option, Some, None}
use Prim.Native.Nat.{ℕ, zero, suc, ◌+◌}
use mathlib.Core.Path.{◌≡◌, refl, ap, ◌∙◌}
use mathlib.Core.Bool.{Bool, true, false}
use mathlib.Core.List.{List, [], ◌∷◌}
use native.Mathlib.Omega.{arith}
use lib.Dec.{ltb}
use lib.ListN.{length}
use Rattle.octets.proofs.Picks.{on_test}
use Rattle.octets.specs.Bytes.{part}
use Rattle.card.specs.Row.{Card}
use Rattle.tlv.specs.declared.template.Template.{Template}
use Rattle.tlv.specs.declared.template.Template.TheVariants.{Definite, Indefinite}
use Rattle.tlv.specs.declared.template.Item.{Item}
use Rattle.tlv.specs.declared.template.Item.TheVariants.{Capdu, Bad, End}
use Rattle.tlv.specs.Templates.{item_at}
use Rattle.step.specs.Steps.{State, started, stepped}
use Rattle.compact.specs.Compact as compact
use Rattle.compact.specs.Compact.{read_at, place_after, step_read, step_at}
use Rattle.expanded.specs.Expanded as expanded
use Rattle.expanded.specs.Expanded.{Progress, begun, step_capdu, step_bad}
use Rattle.expanded.proofs.Going.{counts_one}
use Rattle.demands.specs.Commands.{after, last_of, Read, read_in, commands_from, commands_of, command_done, word_goes_on, states_after, Piece, capdu, bad_format, pieces_from, pieces_in, pieces_of, is_definite, piece_done, piece_goes_on, progress_after}
use Rattle.demands.specs.Demand2.{CompactRuns, ExpandedRuns}

-- two choices by one test, and by one item of a template, agree where each of their ways does
pub by_test : {A B : Type 0} (f : B → A) (b : Bool) (x y : A) (u v : B) → (b ≡ true → x ≡ f u) → (b ≡ false → y ≡ f v) → elim b [ true ↦ x | false ↦ y ] ≡ f (elim b [ true ↦ u | false ↦ v ])
by_test f true x y u v h g = h refl
by_test f false x y u v h g = g refl

pub by_item : {A B : Type 0} (f : B → A) (item : Item) (x : ℕ → ℕ → A) (y : ℕ → A) (z : A) (u : ℕ → ℕ → B) (v : ℕ → B) (w : B)
    → ((from size : ℕ) → item ≡ Capdu from size → x from size ≡ f (u from size)) → ((code : ℕ) → y code ≡ f (v code)) → z ≡ f w
    → elim item [ Capdu from size ↦ x from size | Bad code ↦ y code | End ↦ z ] ≡ f (elim item [ Capdu from size ↦ u from size | Bad code ↦ v code | End ↦ w ])
by_item f (Capdu from size) x y z u v w h g l = h from size refl
by_item f (Bad code) x y z u v w h g l = g code
by_item f End x y z u v w h g l = l

module _ {S R : Type 0} (does : S → R → S) (on : S → Bool) where
  abbrev ends : S → List R → S
  ends s rs = last_of s (after does on s rs)

  -- one command more, with what comes of it where it goes on
  one_more : (s : S) (r : R) (rs : List R) (x : S) → x ≡ ends (does s r) rs → elim (on (does s r)) [ true ↦ x | false ↦ does s r ] ≡ ends s (r ∷ rs)
  unfolding last_of after
  one_more s r rs x e = by_test (last_of (does s r)) (on (does s r)) x (does s r) (after does on (does s r) rs) [] (λ _. e) (λ _. refl)

  -- a first command that stops
  pub one_only : (s : S) (l : List R) (r : R) (rs : List R) → l ≡ r ∷ rs → on (does s r) ≡ false → ends s l ≡ does s r
  unfolding last_of after
  one_only s l r rs first e = rw (first, e)

  -- a last command
  one_last : (s : S) (r : R) → does s r ≡ ends s (r ∷ [])
  unfolding last_of after
  one_last s r = on_test (λ (l : List S). does s r ≡ last_of (does s r) l) (on (does s r)) [] [] (λ _. refl) (λ _. refl)

  -- where each command counts one, the last state counts all that ran
  module _ (count : S → ℕ) (one : (s : S) (r : R) → count (does s r) ≡ count s + 1) where
    counted : (s : S) (rs : List R) → count (ends s rs) ≡ count s + length (after does on s rs)
    unfolding last_of after
    counted s [] = omega arith
    counted s (r ∷ rs) =
        on_test (λ (l : List S). count (last_of (does s r) l) ≡ count s + length {A = S} (does s r ∷ l)) (on (does s r)) _ _
        (λ _. omega (arith, one s r, counted (does s r) rs)) (λ _. omega (arith, one s r))

-- ---- compact

module _ (script : List ℕ) (domain : ℕ) where
  run_ends : (n at : ℕ) (st : State) → compact.run_from n script domain at st ≡ ends (command_done domain) word_goes_on st (commands_from n script at)
  unfolding compact.run_from step_read commands_from read_in last_of after command_done word_goes_on
  run_ends zero at st = refl
  run_ends (suc n) at st =
      by_test (ends (command_done domain) word_goes_on st) (ltb at (length script)) _ st _ []
      (λ _. one_more (command_done domain) word_goes_on st (read_in script (read_at script at)) (commands_from n script (place_after (read_at script at))) _ (run_ends n (place_after (read_at script at)) (step_at script domain at st)))
      (λ _. refl)

command_counts : (domain : ℕ) (st : State) (r : Read) → (command_done domain st r).step.count ≡ st.step.count + 1
unfolding command_done stepped
command_counts domain st r = refl

pub compact-runs : (script : List ℕ) (application domain : ℕ) (card : Card) → CompactRuns script application domain card
unfolding compact.run states_after commands_of started
compact-runs script application domain card =
    let e = run_ends script domain (length script) 0 (started application card) in
    let n = counted (command_done domain) word_goes_on (λ st. st.step.count) (command_counts domain) (started application card) (commands_of script) in
    record { state = e; count = ap (λ (st : State). st.step.count) e ∙ n ∙ omega arith }

-- ---- expanded

module _ (script : List ℕ) (domain : ℕ) (definite : Bool) (end : ℕ) where
  pieces_end : (n at : ℕ) (p : Progress) → expanded.run_from n script domain definite at end p ≡ ends (piece_done definite domain) piece_goes_on p (pieces_from n script at end)
  unfolding expanded.run_from pieces_from last_of after piece_done piece_goes_on word_goes_on
  pieces_end zero at p = refl
  pieces_end (suc n) at p =
      by_item (ends (piece_done definite domain) piece_goes_on p) (item_at script at end) _ _ p _ _ []
      (λ from size _. one_more (piece_done definite domain) piece_goes_on p (capdu (part script from size)) (pieces_from n script (from + size) end) _ (pieces_end n (from + size) (step_capdu definite domain (part script from size) p)))
      (λ code. one_last (piece_done definite domain) piece_goes_on p (bad_format code))
      refl

piece_counts : (definite : Bool) (domain : ℕ) (p : Progress) (piece : Piece) → (piece_done definite domain p piece).state.step.count ≡ p.state.step.count + 1
unfolding piece_done step_bad
piece_counts definite domain p (capdu bytes) = counts_one definite domain bytes p
piece_counts definite domain p (bad_format code) = refl

template_ends : (template : Option Template) (script : List ℕ) (application domain : ℕ) (card : Card) → expanded.run template script application domain card ≡ last_of (begun application card) (progress_after template script application domain card)
unfolding expanded.run progress_after pieces_of pieces_in is_definite last_of after
template_ends (Some (Definite at end)) script application domain card = pieces_end script domain true end (length script) at (begun application card)
template_ends (Some (Indefinite at end)) script application domain card = pieces_end script domain false end (length script) at (begun application card)
template_ends None script application domain card = refl

pub expanded-runs : (template : Option Template) (script : List ℕ) (application domain : ℕ) (card : Card) → ExpandedRuns template script application domain card
unfolding progress_after begun started
expanded-runs template script application domain card =
    let e = template_ends template script application domain card in
    let n = counted (piece_done (is_definite template) domain) piece_goes_on (λ p. p.state.step.count) (piece_counts (is_definite template) domain) (begun application card) (pieces_of template script) in
    record { progress = e; count = ap (λ (p : Progress). p.state.step.count) e ∙ n ∙ omega arith }
