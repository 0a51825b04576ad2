-- The session of a script on a sound table: it starts good, what it finds belongs to its root, and it stays good.
-- A good session is a record of facts about its root, directory, file, record number and waiting bytes; a move changes some of them
-- and takes the others over (`good-moved`). A directory that is selected becomes the directory, a file makes its parent the
-- directory, and both belong to the root, as the entry that SELECT finds does (`find-belongs`). None of the facts looks at the two
-- bytes of a row that commands write, so a good session is good on a table whose rows are alike but for these, too (`good-kept`).
-- Assumes nothing.
use mathlib.Core.Path.{◌≡◌, refl, ap, ◌∙◌}
use mathlib.Core.Bool.{true, false}
use mathlib.Core.List.{List}
use mathlib.Core.Logic.{⊎_elim}
use Prim.Native.Nat.{ℕ, zero, suc, ◌≤◌, ◌<◌}
use native.Mathlib.Decide.{dec_lt}
use native.Mathlib.Omega.{arith}
use lib.Dec.{eqb}
use lib.ListN.{length}
use borrow.Author.Tests.{eqb-true, ne_eqb}
use Rattle.octets.proofs.Picks.{on_pick, or_either}
use Rattle.octets.specs.Choice.{pick}
use Rattle.card.specs.declared.Row.{Row}
use Rattle.std.specs.Prelude.{Some}
use Rattle.card.specs.Row.{entries, row_of, is_cyclic, is_directory, is_file, has_records}
use Rattle.card.specs.Sound.{record_count, sound_table}
use Rattle.card.specs.Tree.{is_root, root_in, root_of}
use Rattle.card.proofs.Promises.{file-kind, cyclic-records, records-some, entry_own, first_kind, no_directory-file, parent-directory}
use Rattle.card.proofs.Kept.{Rows}
use Rattle.session.specs.declared.Standing.{Standing}
use Rattle.session.specs.Words.{CanBeKept}
use Rattle.session.specs.Session.{none, most_waiting, start_standing, waits, dropped, at_record, moved, selected}
use Rattle.session.specs.Select.{find}
use Rattle.session.specs.Good.{Belongs, GoodFile, Good}
use Rattle.session.proofs.Owned.{root-belongs, parent-belongs, find-owned}

-- kinds
root-directory : (r : Row) → is_root r ≡ true → is_directory r ≡ true
root-directory r h = ⊎_elim (λ e. rw (eqb-true r.kind 1 e)) (λ e. rw (eqb-true r.kind 3 e)) (or_either (eqb r.kind 1) (eqb r.kind 3) h)

file_no_root : (r : Row) → is_file r ≡ true → is_root r ≡ false
file_no_root r h = let k = file-kind r h in rw (ne_eqb r.kind 1 (omega arith), ne_eqb r.kind 3 (omega arith))

-- a selection keeps the root
pub selected-root : (s : Standing) (e : ℕ) (r : Row) → (selected s e r).root ≡ s.root
unfolding selected moved
selected-root s e r = on_pick (λ (x : Standing). x.root ≡ s.root) (is_directory r) _ _ (λ y. refl) (λ n. refl)

-- moves of a good session, and what waits
module _ (t : List ℕ) (s : Standing) (g : Good t s) where
  good-moved : (d f n : ℕ) → Belongs t s.root d → is_directory (row_of t d) ≡ true → (1 ≤ f → GoodFile t s.root f n) → (f ≡ none → n ≡ none) → Good t (moved s d f n)
  unfolding moved
  good-moved d f n b y file unnumbered =
      record {
        root_inside = g.root_inside;
        root = g.root;
        directory = b;
        is_directory = y;
        file = file;
        unnumbered = unnumbered;
        valid = g.valid;
        word = g.word;
      }

  pub good_record : (n : ℕ) → (1 ≤ n → (1 ≤ s.file) × (has_records (row_of t s.file) ≡ true) × (n ≤ record_count (row_of t s.file))) → Good t (at_record s n)
  unfolding at_record moved
  good_record n h =
      good-moved s.directory s.file n g.directory g.is_directory
      (λ f. record {
        belongs = (g.file f).belongs;
        is_file = (g.file f).is_file;
        numbered = λ p. (h p).1;
        within = λ p. (h p).2;
      })
      (λ z. elim (dec_lt 0 n) [ yes p ↦ let k = (h p).0 in absurd (omega arith) | no q ↦ omega arith ])

  pub good-waits : (n word : ℕ) → n ≤ most_waiting → (1 ≤ n → CanBeKept word) → Good t (waits s n word)
  unfolding waits
  good-waits n word h kept =
      record {
        root_inside = g.root_inside;
        root = g.root;
        directory = g.directory;
        is_directory = g.is_directory;
        file = g.file;
        unnumbered = g.unnumbered;
        valid = h;
        word = kept;
      }

  pub good-dropped : Good t (dropped s)
  good-dropped = good-waits 0 0 (omega arith) (λ h. absurd (omega arith))

-- a table with the same entries, but for the bytes of the newest record and of the state
module _ (t u : List ℕ) (rows : Rows t u) where
  same-root : (n e : ℕ) → root_in n u e ≡ root_in n t e
  unfolding root_in
  same-root zero e = refl
  same-root (suc n) e = λ i. elim (is_root (rows.alike e i)) [ true ↦ e | false ↦ same-root n (rows.alike e i).parent i ]

  pub root_kept : (e : ℕ) → root_of u e ≡ root_of t e
  unfolding root_of
  root_kept e = same-root e e

  belongs-kept : (root e : ℕ) → Belongs t root e → Belongs u root e
  belongs-kept root e b = record { inside = rw rows.same_entries b.inside; owner = root_kept e ∙ b.owner }

  pub good-kept : (s : Standing) → Good t s → Good u s
  good-kept s g =
      record {
        root_inside = rw rows.same_entries g.root_inside;
        root = ap is_root (rows.alike s.root) ∙ g.root;
        directory = belongs-kept s.root s.directory g.directory;
        is_directory = ap is_directory (rows.alike s.directory) ∙ g.is_directory;
        file = λ h. record {
          belongs = belongs-kept s.root s.file (g.file h).belongs;
          is_file = ap is_file (rows.alike s.file) ∙ (g.file h).is_file;
          numbered = λ p. ap has_records (rows.alike s.file) ∙ (g.file h).numbered p;
          within = λ p. rw (ap record_count (rows.alike s.file)) ((g.file h).within p);
        };
        unnumbered = g.unnumbered;
        valid = g.valid;
        word = g.word;
      }

module _ (t files : List ℕ) (sound : sound_table t files ≡ true) where
  -- the start
  pub good_start : (a : ℕ) → a < entries t → is_root (row_of t a) ≡ true → Good t (start_standing a)
  unfolding start_standing
  good_start a here y =
      record {
        root_inside = here;
        root = y;
        directory = root-belongs t files sound a here y;
        is_directory = root-directory (row_of t a) y;
        file = λ h. absurd (omega arith);
        unnumbered = λ h. refl;
        valid = omega arith;
        word = λ h. absurd (omega arith);
      }

  -- a selection
  module _ (s : Standing) (g : Good t s) (e : ℕ) (b : Belongs t s.root e) where
    file-selected : is_file (row_of t e) ≡ true → Good t (moved s (row_of t e).parent e (pick (is_cyclic (row_of t e)) 1 none))
    file-selected y =
        good-moved t s g (row_of t e).parent e _ (parent-belongs t files sound s.root e b (file_no_root (row_of t e) y)) (parent-directory t files sound e b.inside other)
        (λ h. record {
          belongs = b;
          is_file = y;
          numbered = on_pick (λ n. 1 ≤ n → has_records (row_of t e) ≡ true) (is_cyclic (row_of t e)) 1 none (λ c h. cyclic-records (row_of t e) c) (λ c h. absurd (omega arith));
          within = on_pick (λ n. 1 ≤ n → n ≤ record_count (row_of t e)) (is_cyclic (row_of t e)) 1 none (λ c h. records-some (length files) (row_of t e) (entry_own t files sound e b.inside) (cyclic-records (row_of t e) c)) (λ c h. absurd (omega arith));
        })
        (λ z. absurd (other z))
      where
        other : e ≡ 0 → ⊥
        other z = let k = file-kind (row_of t e) y in let f = first_kind t files sound e b.inside z in omega arith

    pub good-selected : Good t (selected s e (row_of t e))
    unfolding selected
    good-selected =
        on_pick (Good t) (is_directory (row_of t e)) _ _
        (λ y. good-moved t s g e none none b y (λ h. absurd (omega arith)) (λ z. refl))
        (λ z. file-selected (no_directory-file t files sound e b.inside z))

  -- what it finds: never the other application's
  pub find-belongs : (s : Standing) → Good t s → (p1 : ℕ) («data» : List ℕ) (e : ℕ) → find t s.root s.directory p1 «data» ≡ Some e → Belongs t s.root e
  find-belongs s g = find-owned t files sound s.root s.directory g.root_inside g.root g.directory
