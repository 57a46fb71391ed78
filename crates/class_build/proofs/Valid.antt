-- The parts of a valid record fit their fields.
use Rattle.std.proofs.Common.{List, [], ◌∷◌, length, arith}
use Rattle.std.specs.Prelude.{All}
use Rattle.std.specs.List.{AllByRecursion}
use Rattle.std.proofs.lemmas.List.Elements.{All-from_recursion}
use Rattle.class_format.specs.declared.record.PoolEntry.{PoolEntry}
use Rattle.class_format.specs.declared.record.PoolEntry.TheVariants.{Utf8, Integer, Float, Long, Double, Class, Text, Field, Method, InterfaceMethod, NameAndType, Gap}
use Rattle.class_format.specs.declared.record.Attribute.{Attribute, out-Attribute}
use Rattle.class_format.specs.declared.record.Attribute.TheOpen.{Attribute-F, Code, Other}
use Rattle.class_format.specs.declared.record.CodeBody.{CodeBody}
use Rattle.class_format.specs.declared.record.Member.{Member}
use Rattle.class_format.specs.ClassText.{IsU2, FitsFields, IsInnerOpen, IsInner, IsCode, IsPlainOpen, IsPlain, IsOfMethodOpen, IsOfMethod, IsField, IsMethod}
use Rattle.class_build.specs.Lengths.{EntryFits, InnerFitsOpen, InnerFits, BodyFits, AttributeFitsOpen, AttributeFits, AttributesFit, MemberFits, MembersFit}

-- what holds of each item and gives another fact gives it of each
module _ {A : Type 0} (P Q : A → Type 0) (leads : (x : A) → P x → Q x) where
  each : (xs : List A) → AllByRecursion P xs → AllByRecursion Q xs
  each [] h = tt
  each (x ∷ xs) h = (leads x h.0, each xs h.1)

  all_of : (xs : List A) → AllByRecursion P xs → All Q xs
  all_of xs h = All-from_recursion Q xs (each xs h)

entry_fits : (entry : PoolEntry) → FitsFields entry → EntryFits entry
entry_fits (Utf8 bytes) h = h.0
entry_fits (Integer b) h = tt
entry_fits (Float b) h = tt
entry_fits (Long b c) h = tt
entry_fits (Double b c) h = tt
entry_fits (Class b) h = tt
entry_fits (Text b) h = tt
entry_fits (Field b c) h = tt
entry_fits (Method b c) h = tt
entry_fits (InterfaceMethod b c) h = tt
entry_fits (NameAndType b c) h = tt
entry_fits Gap h = tt

pub entries_fit : (entries : List PoolEntry) → AllByRecursion FitsFields entries → All EntryFits entries
entries_fit = all_of FitsFields EntryFits entry_fits

inner_open_fits : (pool : List PoolEntry) (o : Attribute-F Attribute CodeBody) → IsInnerOpen pool o → InnerFitsOpen o
inner_open_fits pool (Code body) h = h
inner_open_fits pool (Other name bytes) h = h.length_fits

body_fits : (pool : List PoolEntry) (body : CodeBody) → IsCode pool body → BodyFits body
body_fits pool body h = record {
  code = omega (arith, h.code_length);
  handlers = h.handler_count;
  attribute_count = h.attribute_count;
  attributes = all_of (IsInner pool) InnerFits (λ a. inner_open_fits pool (out-Attribute a)) body.attributes h.attributes;
  whole = h.length_fits;
}

plain_open_fits : (pool : List PoolEntry) (o : Attribute-F Attribute CodeBody) → IsPlainOpen pool o → AttributeFitsOpen o
plain_open_fits pool (Code body) h = absurd h
plain_open_fits pool (Other name bytes) h = h.0.length_fits

of_method_open_fits : (pool : List PoolEntry) (o : Attribute-F Attribute CodeBody) → IsOfMethodOpen pool o → AttributeFitsOpen o
of_method_open_fits pool (Code body) h = body_fits pool body h
of_method_open_fits pool (Other name bytes) h = h.0.length_fits

pub plain_fit : (pool : List PoolEntry) (attributes : List Attribute) → IsU2 (length attributes) → AllByRecursion (IsPlain pool) attributes → AttributesFit attributes
plain_fit pool attributes count h = record { count = count; each = all_of (IsPlain pool) AttributeFits (λ a. plain_open_fits pool (out-Attribute a)) attributes h }

field_fits : (pool : List PoolEntry) (m : Member) → IsField pool m → MemberFits m
field_fits pool m h = plain_fit pool m.attributes h.member.attribute_count h.attributes

method_fits : (pool : List PoolEntry) (m : Member) → IsMethod pool m → MemberFits m
method_fits pool m h = record { count = h.member.attribute_count; each = all_of (IsOfMethod pool) AttributeFits (λ a. of_method_open_fits pool (out-Attribute a)) m.attributes h.attributes }

pub fields_fit : (pool : List PoolEntry) (members : List Member) → IsU2 (length members) → AllByRecursion (IsField pool) members → MembersFit members
fields_fit pool members count h = record { count = count; each = all_of (IsField pool) MemberFits (field_fits pool) members h }

pub methods_fit : (pool : List PoolEntry) (members : List Member) → IsU2 (length members) → AllByRecursion (IsMethod pool) members → MembersFit members
methods_fit pool members count h = record { count = count; each = all_of (IsMethod pool) MemberFits (method_fits pool) members h }
