-- What lengths, templates and items promise follows from their definitions alone. Assumes nothing.
use mathlib.Core.Path.{◌≡◌}
use mathlib.Core.Bool.{◌&&◌}
use mathlib.Core.List.{List}
use Prim.Native.Nat.{ℕ, ◌+◌, ◌<◌}
use native.Mathlib.Omega.{arith}
use lib.Dec.{leb, ltb, eqb}
use lib.ListN.{length}
use Rattle.std.specs.Prelude.{Option}
use borrow.Author.Tests.{leb-true, ltb-true}
use Rattle.octets.specs.Choice.{pick}
use Rattle.octets.specs.Bytes.{byte, AllBytes, num_at}
use Rattle.octets.proofs.Picks.{and_left, and_right, on_pick}
use Rattle.octets.proofs.Numbers.{num_small}
use Rattle.tlv.specs.declared.lengths.Length.{Length}
use Rattle.tlv.specs.declared.lengths.Length.TheVariants.{Found, Bad}
use Rattle.tlv.specs.declared.template.Template.{Template}
use Rattle.tlv.specs.declared.template.Item.{Item}
use Rattle.tlv.specs.Lengths.{wrong_length, length_missing, short_length, long_length, length_at}
use Rattle.tlv.specs.Promised.{LengthFits, TemplateFits, ItemFits}
use Rattle.tlv.specs.Templates.{definite, indefinite, template_of, is_capdu_tag, value_at, item_at}

-- what comes of a length
definite-fits : (l : Length) (at end : ℕ) → LengthFits at end l → TemplateFits end (definite l end)
unfolding LengthFits TemplateFits definite
definite-fits (Found n place) at end fits =
    on_pick (TemplateFits end) (eqb (place + n) end) _ _ (λ whole. (fits.1, omega arith)) (λ other. tt)
definite-fits (Bad code) at end fits = tt

value-fits : (l : Length) (at end : ℕ) → at < end → LengthFits (at + 1) end l → ItemFits at end (value_at l end)
unfolding LengthFits ItemFits value_at
value-fits (Found n place) at end more fits =
    on_pick (ItemFits at end) (leb (place + n) end && leb 4 n) _ _
    (λ both. (omega arith, leb-true (place + n) end (and_left (leb (place + n) end) (leb 4 n) both), leb-true 4 n (and_right (leb (place + n) end) (leb 4 n) both)))
    (λ other. (more, omega arith))
value-fits (Bad code) at end more fits = (more, fits)

-- a length n that stands in `size` bytes after its first byte, and is in shortest form from `least` on
behind-fits : (at end size least n : ℕ) → n < 65536
    → LengthFits at end (pick (leb (at + 1 + size) end) (pick (leb least n) (Found n (at + 1 + size)) (Bad wrong_length)) (Bad length_missing))
unfolding LengthFits
behind-fits at end size least n small =
    on_pick (LengthFits at end) (leb (at + 1 + size) end) _ _
    (λ there. on_pick (LengthFits at end) (leb least n) _ _ (λ right. (omega arith, leb-true (at + 1 + size) end there, small)) (λ wrong. omega arith))
    (λ missing. omega arith)

-- lengths, templates and items in a run of bytes
module _ (bs : List ℕ) (bytes : AllBytes bs) where
  length_fits_lem : (at end : ℕ) → LengthFits at end (length_at bs at end)
  unfolding short_length long_length length_at LengthFits
  length_fits_lem at end =
      on_pick (LengthFits at end) (leb (at + 1) end) _ _
      (λ here.
      let h = leb-true (at + 1) end here in
      let b = bytes at in
      on_pick (LengthFits at end) (leb (byte bs at) 0x7F) _ _ (λ small. (omega arith, omega arith, omega arith))
      (λ large. on_pick (LengthFits at end) (eqb (byte bs at) 0x81) _ _ (λ short. behind-fits at end 1 0x80 (byte bs (at + 1)) (omega (arith, bytes (at + 1))))
      (λ other. on_pick (LengthFits at end) (eqb (byte bs at) 0x82) _ _ (λ long. behind-fits at end 2 0x0100 (num_at bs (at + 1)) (num_small bs (at + 1) (bytes (at + 1)) (bytes (at + 1 + 1)))) (λ wrong. omega arith))))
      (λ missing. omega arith)

  pub length-told : (at end : ℕ) {l : Length} → l ≡ length_at bs at end → (l ≡ length_at bs at end) × LengthFits at end l
  length-told at end e = (e, rw e (length_fits_lem at end))

  template_fits_lem : TemplateFits (length bs) (template_of bs)
  unfolding template_of TemplateFits indefinite
  template_fits_lem =
      on_pick (TemplateFits (length bs)) (eqb (byte bs 0) 0xAA) _ _
      (λ first. definite-fits (length_at bs 1 (length bs)) 1 (length bs) (length_fits_lem 1 (length bs)))
      (λ other.
      on_pick (TemplateFits (length bs)) (eqb (byte bs 0) 0xAE) _ _
      (λ second.
      on_pick (TemplateFits (length bs)) _ _ _
      (λ whole. let h = leb-true 4 (length bs) (and_left (leb 4 (length bs)) _ whole) in (omega arith, omega arith))
      (λ broken. tt))
      (λ none. tt))

  pub template-told : {t : Option Template} → t ≡ template_of bs → (t ≡ template_of bs) × TemplateFits (length bs) t
  template-told e = (e, rw e template_fits_lem)

  item_fits : (at end : ℕ) → ItemFits at end (item_at bs at end)
  unfolding item_at ItemFits
  item_fits at end =
      on_pick (ItemFits at end) (ltb at end) _ _
      (λ more.
      let h = ltb-true at end more in
      on_pick (ItemFits at end) (is_capdu_tag (byte bs at)) _ _
      (λ tag. value-fits (length_at bs (at + 1) end) at end h (length_fits_lem (at + 1) end))
      (λ other. (h, omega arith)))
      (λ done. tt)

  pub item_told : (at end : ℕ) {r : Item} → r ≡ item_at bs at end → (r ≡ item_at bs at end) × ItemFits at end r
  item_told at end e = (e, rw e (item_fits at end))
