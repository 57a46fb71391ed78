-- An attribute and a Code attribute's body, opened by one level.
use Rattle.std.proofs.Common.{◌≡◌, ℕ, List, refl, sym, ap, ◌∙◌}
use Rattle.class_format.specs.declared.record.Attribute.{Code, Other, out-Attribute, roll-Attribute, out-roll-Attribute}
use Rattle.class_format.specs.declared.record.Attribute.TheOpen.{Attribute-F}
use Rattle.class_format.specs.declared.record.Attribute.TheOpen as opened
use Rattle.class_format.specs.declared.record.CodeBody.{CodeBody}

pub roll_other : (name : ℕ) (bytes : List ℕ) → roll-Attribute (opened.Other name bytes) ≡ Other name bytes
unfolding roll-Attribute denote.Hole.Carrier.roll
roll_other name bytes = refl

pub roll_code : (body : CodeBody) → roll-Attribute (opened.Code body) ≡ Code body
unfolding roll-Attribute denote.Hole.Carrier.roll
roll_code body = refl

pub out_other : (name : ℕ) (bytes : List ℕ) → out-Attribute (Other name bytes) ≡ opened.Other name bytes
out_other name bytes = ap out-Attribute (sym (roll_other name bytes)) ∙ out-roll-Attribute (opened.Other name bytes)

pub out_code : (body : CodeBody) → out-Attribute (Code body) ≡ opened.Code body
out_code body = ap out-Attribute (sym (roll_code body)) ∙ out-roll-Attribute (opened.Code body)
