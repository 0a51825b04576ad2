-- What C-APDUs promise follows from their definitions alone. Assumes nothing.
use mathlib.Core.Path.{◌≡◌, refl, ◌∙◌}
use mathlib.Core.Bool.{Bool, true, false, ◌&&◌}
use mathlib.Core.List.{List}
use Prim.Native.Nat.{ℕ, ◌+◌, ◌-◌, ◌≤◌, ◌<◌}
use native.Mathlib.Omega.{arith}
use lib.Dec.{leb, eqb}
use lib.ListN.{length}
use borrow.Author.Tests.{leb-true, eqb-true}
use Rattle.octets.specs.Choice.{pick}
use Rattle.octets.specs.Bytes.{byte, AllBytes}
use Rattle.octets.proofs.Picks.{and_left, on_pick}
use Rattle.command.specs.declared.Reading.{Reading}
use Rattle.expanded.specs.Capdu.{case_by_size, carried, capdu_command}
use Rattle.expanded.specs.Promised.{CapduFits}

-- a case with data has room for them
case-sized : (capdu : List ℕ) → 3 ≤ case_by_size capdu → 5 + byte capdu 4 ≤ length capdu
unfolding case_by_size
case-sized capdu =
    on_pick Sized (eqb (length capdu) 4) _ _ (λ e h. omega arith)
    (λ n1. on_pick Sized (eqb (length capdu) 5) _ _ (λ e h. omega arith)
    (λ n2. on_pick Sized (eqb (length capdu) (5 + byte capdu 4)) _ _ (λ e h. let l = eqb-true (length capdu) (5 + byte capdu 4) e in omega arith)
    (λ n3. on_pick Sized (eqb (length capdu) (6 + byte capdu 4) && eqb (byte capdu (length capdu - 1)) 0) _ _ (λ e h. let l = eqb-true (length capdu) (6 + byte capdu 4) (and_left (eqb (length capdu) (6 + byte capdu 4)) _ e) in omega arith) (λ e h. omega arith))))
  where
    Sized : ℕ → Type 0
    Sized n = 3 ≤ n → 5 + byte capdu 4 ≤ length capdu

pub case-told : (capdu : List ℕ) {n : ℕ} → n ≡ case_by_size capdu → (n ≡ case_by_size capdu) × (3 ≤ n → 5 + byte capdu 4 ≤ length capdu)
case-told capdu e = (e, λ h. case-sized capdu (rw e at h))

-- the data that it carries are less than 256 bytes
pub carried-few : (capdu : List ℕ) → byte capdu 4 < 256 → carried capdu < 256
unfolding carried
carried-few capdu small = on_pick (λ (n : ℕ). n < 256) (leb 3 (case_by_size capdu)) (byte capdu 4) 0 (λ e. small) (λ e. omega arith)

-- a command whose form is whole where it has a case, and what is promised of it
abbrev pub read : ℕ → ℕ → ℕ → ℕ → ℕ → ℕ → ℕ → ℕ → Reading
read n a b p q r from size =
    record {
      command =
          record {
            whole = leb 1 n;
            class = a;
            instruction = b;
            p1 = p;
            p2 = q;
            p3 = r;
            case = n;
            after = false;
          };
      from = from;
      size = size;
    }

abbrev pub Told : List ℕ → Reading → Type 0
Told capdu r = (r ≡ capdu_command capdu) × CapduFits capdu r

module _ (capdu : List ℕ) (bytes : AllBytes capdu) (least : 4 ≤ length capdu) where
  data_inside : (b : Bool) → (b ≡ true → 5 + byte capdu 4 ≤ length capdu) → pick b 5 4 + pick b (byte capdu 4) 0 ≤ length capdu
  unfolding pick
  data_inside true h = h refl
  data_inside false h = least

  command-fits : CapduFits capdu (capdu_command capdu)
  unfolding capdu_command carried
  command-fits =
      record {
        inside = data_inside (leb 3 (case_by_size capdu)) (λ e. case-sized capdu (leb-true 3 (case_by_size capdu) e));
        bytes = record { p1 = bytes 2; p2 = bytes 3; p3 = bytes 4; brief = carried-few capdu (bytes 4) };
      }

  pub command-told : {n a b p q r from size : ℕ} → n ≡ case_by_size capdu → a ≡ byte capdu 0 → b ≡ byte capdu 1 → p ≡ byte capdu 2 → q ≡ byte capdu 3 → r ≡ byte capdu 4 → from ≡ pick (leb 3 n) 5 4 → size ≡ pick (leb 3 n) (byte capdu 4) 0 → Told capdu (read n a b p q r from size)
  unfolding capdu_command carried
  command-told {n} {a} {b} {p} {q} {r} {from} {size} en ea eb ep eq er ef ec = (e, rw e command-fits)
    where
      e : read n a b p q r from size ≡ capdu_command capdu
      e = (λ k. read n (ea k) (eb k) (ep k) (eq k) (er k) (ef k) (ec k)) ∙ (λ k. read (en k) (byte capdu 0) (byte capdu 1) (byte capdu 2) (byte capdu 3) (byte capdu 4) (pick (leb 3 (en k)) 5 4) (pick (leb 3 (en k)) (byte capdu 4) 0))
