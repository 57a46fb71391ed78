-- Which parts of a class file have numbers and lengths that fit their fields.
use Rattle.std.specs.Prelude.{List, length, All, ⊤}
use Rattle.class_format.specs.declared.record.PoolEntry.{PoolEntry}
use Rattle.class_format.specs.declared.record.PoolEntry.TheVariants.{Utf8}
use Rattle.class_format.specs.declared.record.Attribute.{Attribute, out-Attribute}
use Rattle.class_format.specs.declared.record.Attribute.TheOpen.{Attribute-F, Code, Other}
use Rattle.class_format.specs.declared.record.CodeBody.{CodeBody}
use Rattle.class_format.specs.declared.record.Member.{Member}
use Rattle.class_format.specs.ClassText.{IsU2, IsU4, code_text}

abbrev pub EntryFits : PoolEntry → Type 0
EntryFits (Utf8 bytes) = IsU2 (length bytes)
EntryFits _ = ⊤

-- an attribute inside a Code attribute
abbrev pub InnerFitsOpen : Attribute-F Attribute CodeBody → Type 0
InnerFitsOpen (Code body) = ⊥
InnerFitsOpen (Other name bytes) = IsU4 (length bytes)

abbrev pub InnerFits : Attribute → Type 0
InnerFits attribute = InnerFitsOpen (out-Attribute attribute)

pub record BodyFits (body : CodeBody) : Type 0 where
  pub code : IsU4 (length body.code)
  pub handlers : IsU2 (length body.handlers)
  pub attribute_count : IsU2 (length body.attributes)
  pub attributes : All InnerFits body.attributes
  pub whole : IsU4 (length (code_text body))

-- an attribute of a class, a field or a method
abbrev pub AttributeFitsOpen : Attribute-F Attribute CodeBody → Type 0
AttributeFitsOpen (Code body) = BodyFits body
AttributeFitsOpen (Other name bytes) = IsU4 (length bytes)

abbrev pub AttributeFits : Attribute → Type 0
AttributeFits attribute = AttributeFitsOpen (out-Attribute attribute)

pub record AttributesFit (attributes : List Attribute) : Type 0 where
  pub count : IsU2 (length attributes)
  pub each : All AttributeFits attributes

abbrev pub MemberFits : Member → Type 0
MemberFits member = AttributesFit member.attributes

pub record MembersFit (members : List Member) : Type 0 where
  pub count : IsU2 (length members)
  pub each : All MemberFits members
