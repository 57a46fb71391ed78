-- Flags, names and code of classes, fields and methods (JVMS 4.1, 4.5, 4.6).
use Rattle.std.specs.Prelude.{◌≡◌, ◌&&◌, ◌||◌, ℕ, Bool, true, List, Any, Option, Some, None, [], ◌∷◌, codes}
use Rattle.std.specs.Option.{option_or}
use Rattle.class_format.specs.ClassText.{is_code}
use Rattle.class_format.specs.declared.record.Attribute.{Attribute, out-Attribute}
use Rattle.class_format.specs.declared.record.Attribute.TheOpen.{Attribute-F, Code, Other}
use Rattle.class_format.specs.declared.record.ClassRecord.{ClassRecord}
use Rattle.class_format.specs.declared.record.CodeBody.{CodeBody}
use Rattle.class_format.specs.declared.record.Member.{Member}
use Rattle.class_format.specs.declared.record.PoolEntry.{PoolEntry}
use Rattle.class_names.specs.Names.{has_flag, same_text, text_of, class_name_of}

-- ---- Flags

-- static, final, synchronized and volatile members
abbrev pub static_flag : ℕ
static_flag = 0x0008

abbrev pub final_flag : ℕ
final_flag = 0x0010

abbrev pub synchronized_flag : ℕ
synchronized_flag = 0x0020

abbrev pub volatile_flag : ℕ
volatile_flag = 0x0040

-- interfaces and abstract classes
abbrev pub interface_flag : ℕ
interface_flag = 0x0200

abbrev pub abstract_flag : ℕ
abstract_flag = 0x0400

-- ---- Members

-- the name of a member, and its descriptor
abbrev pub member_name : List PoolEntry → Member → List ℕ
member_name pool m = text_of pool m.name

abbrev pub member_descriptor : List PoolEntry → Member → List ℕ
member_descriptor pool m = text_of pool m.descriptor

-- the member has this name and this descriptor
pub record IsSpelled (pool : List PoolEntry) (name descriptor : List ℕ) (m : Member) : Type 0 where
  pub name_is : member_name pool m ≡ name
  pub descriptor_is : member_descriptor pool m ≡ descriptor

-- an int or a boolean (JVMS 4.3.2)
abbrev pub is_int : List PoolEntry → Member → Bool
is_int pool f = same_text (member_descriptor pool f) (codes "I") || same_text (member_descriptor pool f) (codes "Z")

-- a static int or boolean
abbrev pub is_int_field : List PoolEntry → Member → Bool
is_int_field pool f = has_flag f.flags static_flag && is_int pool f

-- ---- Code

-- a Code attribute among its attributes: abstract and native methods have none
abbrev pub HasCode : Member → Type 0
HasCode m = Any (λ a. is_code a ≡ true) m.attributes

abbrev pub body_in_open : Attribute-F Attribute CodeBody → Option CodeBody
body_in_open (Code body) = Some body
body_in_open (Other name bytes) = None

-- the code that an attribute has, if it is a Code attribute
abbrev pub body_in : Attribute → Option CodeBody
body_in a = body_in_open (out-Attribute a)

-- the code of the first Code attribute
abbrev pub first_body : List Attribute → Option CodeBody
first_body [] = None
first_body (a ∷ attributes) = option_or (body_in a) (first_body attributes)

-- the code of a method. A method of a class that has a text has one Code attribute at most
abbrev pub body_of : Member → Option CodeBody
body_of m = first_body m.attributes

-- ---- Classes by their superclass

abbrev pub thread_name : List ℕ
thread_name = codes "java/lang/Thread"

abbrev pub object_name : List ℕ
object_name = codes "java/lang/Object"

-- the name of the superclass
abbrev pub parent_name : ClassRecord → List ℕ
parent_name class = class_name_of class.pool class.parent

-- a thread class extends java/lang/Thread
abbrev pub IsThreadClass : ClassRecord → Type 0
IsThreadClass class = parent_name class ≡ thread_name
