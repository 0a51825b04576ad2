-- The bound on the commands that are read is no limit: each command, and each piece of a template, takes a byte or more. Assumes nothing.
use Rattle.std.specs.Prelude.{Option, Some, None}
use Prim.Native.Nat.{ℕ, zero, suc, ◌+◌, ◌≤◌, ◌<◌}
use mathlib.Core.Path.{◌≡◌, refl, sym, ap}
use mathlib.Core.List.{List, [], ◌∷◌}
use native.Mathlib.Omega.{arith}
use lib.Dec.{ltb}
use lib.ListN.{length}
use borrow.Author.Tests.{ltb-true, le-ltb}
use Rattle.octets.specs.Bytes.{AllBytes, part}
use Rattle.octets.proofs.Picks.{pick-false}
use Rattle.tlv.specs.declared.template.Template.{Template}
use Rattle.tlv.specs.declared.template.Template.TheVariants.{Definite, Indefinite}
use Rattle.tlv.specs.declared.template.Item.TheVariants.{End}
use Rattle.tlv.specs.Templates.{template_of, item_at}
use Rattle.tlv.specs.Promised.{TemplateFits, ItemFits}
use Rattle.tlv.proofs.Fits.{template-told, item_told}
use Rattle.command.specs.declared.Reading.{Reading}
use Rattle.compact.specs.Compact.{broken, whole_at, read_at, place_after}
use Rattle.compact.proofs.Readings.{on_reading}
use Rattle.demands.specs.Commands.{Read, read_in, commands_from, commands_of, Piece, capdu, pieces_from, pieces_in, pieces_of}
use Rattle.demands.proofs.Commands.{by_test, by_item}

-- ---- compact

module _ (script : List ℕ) where
  -- a command takes a byte or more
  further : (at : ℕ) → at < length script → at < place_after (read_at script at)
  unfolding whole_at broken place_after
  further at h = on_reading (λ (r : Reading). at < r.from + r.size) script at (omega arith) (λ _. omega arith)

  none_left : (n at : ℕ) → length script ≤ at → commands_from n script at ≡ []
  unfolding commands_from
  none_left zero at h = refl
  none_left (suc n) at h = rw (le-ltb at (length script) h, commands_from)

  -- two bounds that are enough for what is left read the same
  enough : (n m at : ℕ) → length script ≤ at + n → length script ≤ at + m → commands_from n script at ≡ commands_from m script at
  unfolding commands_from
  enough zero m at h g = sym (none_left m at (omega arith))
  enough (suc n) zero at h g = none_left (suc n) at (omega arith)
  enough (suc n) (suc m) at h g =
      by_test (λ (rs : List Read). rs) (ltb at (length script)) _ [] _ []
      (λ more.
      let f = further at (ltb-true at (length script) more) in
      ap (λ (rs : List Read). read_in script (read_at script at) ∷ rs) (enough n m (place_after (read_at script at)) (omega arith) (omega arith)))
      (λ _. refl)

pub all_commands_lem : (script : List ℕ) (n : ℕ) → length script ≤ n → commands_from n script 0 ≡ commands_of script
unfolding commands_of
all_commands_lem script n h = enough script n (length script) 0 (omega arith) (omega arith)

-- ---- expanded

module _ (script : List ℕ) (small : AllBytes script) where
  module _ (end : ℕ) where
    no_item : (at : ℕ) → end ≤ at → item_at script at end ≡ End
    unfolding item_at
    no_item at h = pick-false (ltb at end) _ End (le-ltb at end h)

    no_pieces : (n at : ℕ) → end ≤ at → pieces_from n script at end ≡ []
    unfolding pieces_from
    no_pieces zero at h = refl
    no_pieces (suc n) at h = rw (no_item at h, pieces_from)

    enough-pieces : (n m at : ℕ) → end ≤ at + n → end ≤ at + m → pieces_from n script at end ≡ pieces_from m script at end
    unfolding pieces_from ItemFits
    enough-pieces zero m at h g = sym (no_pieces m at (omega arith))
    enough-pieces (suc n) zero at h g = no_pieces (suc n) at (omega arith)
    enough-pieces (suc n) (suc m) at h g =
        by_item (λ (ps : List Piece). ps) (item_at script at end) _ _ [] _ _ []
        (λ from size e.
        let f = (item_told script small at end (sym e)).1.0 in
        ap (λ (ps : List Piece). capdu (part script from size) ∷ ps) (enough-pieces n m (from + size) (omega arith) (omega arith)))
        (λ code. refl)
        refl

  template-pieces : (n : ℕ) → length script ≤ n → (t : Option Template) → TemplateFits (length script) t → pieces_in n t script ≡ pieces_in (length script) t script
  unfolding pieces_in TemplateFits
  template-pieces n h (Some (Definite at end)) fits = enough-pieces end n (length script) at (omega arith) (omega arith)
  template-pieces n h (Some (Indefinite at end)) fits = enough-pieces end n (length script) at (omega arith) (omega arith)
  template-pieces n h None fits = refl

  pub all_pieces_lem : (n : ℕ) → length script ≤ n → pieces_in n (template_of script) script ≡ pieces_of (template_of script) script
  unfolding pieces_of
  all_pieces_lem n h = template-pieces n h (template_of script) (template-told script small refl).1
