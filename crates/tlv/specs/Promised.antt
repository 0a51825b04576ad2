-- What promises speak of besides the rules: where a length, a template's value and a C-APDU lie.
use Rattle.std.specs.Prelude.{ℕ, Option, Some, None, ◌+◌, ◌≤◌, ◌<◌}
use Rattle.tlv.specs.declared.lengths.Length.{Length}
use Rattle.tlv.specs.declared.lengths.Length.TheVariants as lengths
use Rattle.tlv.specs.declared.template.Template.{Template}
use Rattle.tlv.specs.declared.template.Template.TheVariants.{Definite, Indefinite}
use Rattle.tlv.specs.declared.template.Item.{Item}
use Rattle.tlv.specs.declared.template.Item.TheVariants as items
use Rattle.tlv.specs.Templates.{least_capdu}

-- what reading a length promises: the place after it is further on and not past the end, or the code is a byte
unfoldable pub LengthFits : ℕ → ℕ → Length → Type 0
LengthFits at end (lengths.Found n place) = (at < place) × (place ≤ end) × (n < 65536)
LengthFits at end (lengths.Bad code) = code < 256

-- a template's value lies in the script
unfoldable pub TemplateFits : ℕ → Option Template → Type 0
TemplateFits script (Some (Definite at end)) = (at ≤ end) × (end ≤ script)
TemplateFits script (Some (Indefinite at end)) = (at ≤ end) × (end ≤ script)
TemplateFits script None = Unit

-- a C-APDU that stands there lies in the value, after the place, and has at least four bytes; a bad format stands in the value
unfoldable pub ItemFits : ℕ → ℕ → Item → Type 0
ItemFits at end (items.Capdu from size) = (at < from) × (from + size ≤ end) × (least_capdu ≤ size)
ItemFits at end (items.Bad code) = (at < end) × (code < 256)
ItemFits at end items.End = Unit
