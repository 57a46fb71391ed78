-- The bytes of a class file and the record that they spell (JVMS, chapter 4). Each record that is valid
-- has one text, and no two records have the same.
use Rattle.std.specs.Prelude.{◌≡◌, ℕ, ◌+◌, ◌^◌, ◌<◌, ◌≤◌, Bool, true, false, List, [], ◌∷◌, ◌++◌, length, All, count_by, IsTrue, ⊤}
use Rattle.std.specs.List.{flat_map, AllByRecursion}
use Rattle.std.specs.Int.{w16, w32, to_be_bytes}
use Rattle.class_format.specs.declared.record.PoolEntry.{PoolEntry}
use Rattle.class_format.specs.declared.record.PoolEntry.TheVariants.{Utf8, Integer, Float, Long, Double, Class, Text, Field, Method, InterfaceMethod, NameAndType, Gap}
use Rattle.class_format.specs.declared.record.Handler.{Handler}
use Rattle.class_format.specs.declared.record.Attribute.{Attribute, out-Attribute}
use Rattle.class_format.specs.declared.record.Attribute.TheOpen.{Attribute-F, Code, Other}
use Rattle.class_format.specs.declared.record.CodeBody.{CodeBody}
use Rattle.class_format.specs.declared.record.Member.{Member}
use Rattle.class_format.specs.declared.record.ClassRecord.{ClassRecord}
use Rattle.class_format.specs.Pool.{names_utf8, names_class, names_name_and_type, names_code, takes_two_numbers, is_gap}

-- ---- The bytes of each part

-- numbers of two and of four bytes, the highest byte first (JVMS 4)
unfoldable pub u2 : ℕ → List ℕ
u2 n = to_be_bytes w16 n

unfoldable pub u4 : ℕ → List ℕ
u4 n = to_be_bytes w32 n

-- a table: the number of its items, and the items
abbrev pub table : {A : Type 0} → (A → List ℕ) → List A → List ℕ
table text items = u2 (length items) ++ flat_map text items

-- a pool entry (JVMS 4.4): its tag and its content
abbrev pub entry_text : PoolEntry → List ℕ
entry_text (Utf8 bytes) = 1 ∷ [] ++ u2 (length bytes) ++ bytes
entry_text (Integer bits) = 3 ∷ [] ++ u4 bits
entry_text (Float bits) = 4 ∷ [] ++ u4 bits
entry_text (Long high low) = 5 ∷ [] ++ u4 high ++ u4 low
entry_text (Double high low) = 6 ∷ [] ++ u4 high ++ u4 low
entry_text (Class name) = 7 ∷ [] ++ u2 name
entry_text (Text text) = 8 ∷ [] ++ u2 text
entry_text (Field class name_and_type) = 9 ∷ [] ++ u2 class ++ u2 name_and_type
entry_text (Method class name_and_type) = 10 ∷ [] ++ u2 class ++ u2 name_and_type
entry_text (InterfaceMethod class name_and_type) = 11 ∷ [] ++ u2 class ++ u2 name_and_type
entry_text (NameAndType name descriptor) = 12 ∷ [] ++ u2 name ++ u2 descriptor
entry_text Gap = []

-- an attribute that is kept as bytes (JVMS 4.7)
abbrev pub other_text : ℕ → List ℕ → List ℕ
other_text name bytes = u2 name ++ u4 (length bytes) ++ bytes

-- an attribute inside a Code attribute: none of these is a Code attribute itself
abbrev pub inner_of : Attribute-F Attribute CodeBody → List ℕ
inner_of (Code body) = []
inner_of (Other name bytes) = other_text name bytes

abbrev pub inner_text : Attribute → List ℕ
inner_text attribute = inner_of (out-Attribute attribute)

-- a row of the exception table
abbrev pub handler_text : Handler → List ℕ
handler_text h = u2 h.start ++ u2 h.end ++ u2 h.target ++ u2 h.catch

-- the content of a Code attribute (JVMS 4.7.3)
abbrev pub code_text : CodeBody → List ℕ
code_text body =
    u2 body.max_stack ++ u2 body.max_locals ++ u4 (length body.code) ++ body.code ++ table handler_text body.handlers ++ table inner_text body.attributes

-- an attribute of a class, a field or a method
abbrev pub attribute_of : Attribute-F Attribute CodeBody → List ℕ
attribute_of (Code body) = other_text body.name (code_text body)
attribute_of (Other name bytes) = other_text name bytes

abbrev pub attribute_text : Attribute → List ℕ
attribute_text attribute = attribute_of (out-Attribute attribute)

-- a field (JVMS 4.5) or a method (JVMS 4.6)
abbrev pub member_text : Member → List ℕ
member_text m = u2 m.flags ++ u2 m.name ++ u2 m.descriptor ++ table attribute_text m.attributes

-- the magic number and the one version of the profile, 49.0 (JVMS 4.1)
abbrev pub magic : ℕ
magic = 0xCAFEBABE

abbrev pub minor_version : ℕ
minor_version = 0

abbrev pub major_version : ℕ
major_version = 49

-- a class file (JVMS 4.1). The pool's count is one more than the number of its last entry
abbrev pub class_text : ClassRecord → List ℕ
class_text r =
    u4 magic ++ u2 minor_version ++ u2 major_version ++ u2 (length r.pool + 1) ++ flat_map entry_text r.pool
    ++ u2 r.flags ++ u2 r.this ++ u2 r.parent ++ table u2 r.interfaces
    ++ table member_text r.fields ++ table member_text r.methods ++ table attribute_text r.attributes

-- ---- Which records have a text

-- numbers that fit their fields
abbrev pub IsU2 : ℕ → Type 0
IsU2 n = n < 2 ^ 16

abbrev pub IsU4 : ℕ → Type 0
IsU4 n = n < 2 ^ 32

abbrev pub AreBytes : List ℕ → Type 0
AreBytes bytes = All (λ b. b < 256) bytes

-- the parts of an entry fit their fields
abbrev pub FitsFields : PoolEntry → Type 0
FitsFields (Utf8 bytes) = IsU2 (length bytes) × AreBytes bytes
FitsFields (Integer bits) = IsU4 bits
FitsFields (Float bits) = IsU4 bits
FitsFields (Long high low) = IsU4 high × IsU4 low
FitsFields (Double high low) = IsU4 high × IsU4 low
FitsFields (Class name) = IsU2 name
FitsFields (Text text) = IsU2 text
FitsFields (Field class name_and_type) = IsU2 class × IsU2 name_and_type
FitsFields (Method class name_and_type) = IsU2 class × IsU2 name_and_type
FitsFields (InterfaceMethod class name_and_type) = IsU2 class × IsU2 name_and_type
FitsFields (NameAndType name descriptor) = IsU2 name × IsU2 descriptor
FitsFields Gap = ⊤

-- the indices in an entry name entries of the right tags
abbrev pub NamesEntries : List PoolEntry → PoolEntry → Type 0
NamesEntries pool (Utf8 bytes) = ⊤
NamesEntries pool (Integer bits) = ⊤
NamesEntries pool (Float bits) = ⊤
NamesEntries pool (Long high low) = ⊤
NamesEntries pool (Double high low) = ⊤
NamesEntries pool (Class name) = IsTrue (names_utf8 pool name)
NamesEntries pool (Text text) = IsTrue (names_utf8 pool text)
NamesEntries pool (Field class name_and_type) = IsTrue (names_class pool class) × IsTrue (names_name_and_type pool name_and_type)
NamesEntries pool (Method class name_and_type) = IsTrue (names_class pool class) × IsTrue (names_name_and_type pool name_and_type)
NamesEntries pool (InterfaceMethod class name_and_type) = IsTrue (names_class pool class) × IsTrue (names_name_and_type pool name_and_type)
NamesEntries pool (NameAndType name descriptor) = IsTrue (names_utf8 pool name) × IsTrue (names_utf8 pool descriptor)
NamesEntries pool Gap = ⊤

-- a gap stands exactly after each entry that takes two numbers (JVMS 4.4.5), where `wide` says whether
-- the entry before these takes two
abbrev pub GapsFollow : Bool → List PoolEntry → Type 0
GapsFollow wide [] = wide ≡ false
GapsFollow wide (entry ∷ entries) = (is_gap entry ≡ wide) × GapsFollow (takes_two_numbers entry) entries

pub record IsPool (pool : List PoolEntry) : Type 0 where
  pub count : IsU2 (length pool + 1)
  pub fields : AllByRecursion FitsFields pool
  pub gaps : GapsFollow false pool
  pub names : AllByRecursion (NamesEntries pool) pool

pub record IsHandler (h : Handler) : Type 0 where
  pub start : IsU2 h.start
  pub end : IsU2 h.end
  pub target : IsU2 h.target
  pub catch : IsU2 h.catch

-- an attribute that is kept as bytes
pub record IsOther (pool : List PoolEntry) (name : ℕ) (bytes : List ℕ) : Type 0 where
  pub name_fits : IsU2 name
  pub names : IsTrue (names_utf8 pool name)
  pub length_fits : IsU4 (length bytes)
  pub are_bytes : AreBytes bytes

-- inside a Code attribute every attribute is kept as bytes, whatever its name
abbrev pub IsInnerOpen : List PoolEntry → Attribute-F Attribute CodeBody → Type 0
IsInnerOpen pool (Code body) = ⊥
IsInnerOpen pool (Other name bytes) = IsOther pool name bytes

abbrev pub IsInner : List PoolEntry → Attribute → Type 0
IsInner pool attribute = IsInnerOpen pool (out-Attribute attribute)

pub record IsCode (pool : List PoolEntry) (body : CodeBody) : Type 0 where
  pub name_fits : IsU2 body.name
  pub name : IsTrue (names_code pool body.name)
  pub max_stack : IsU2 body.max_stack
  pub max_locals : IsU2 body.max_locals
  pub some_code : 0 < length body.code
  pub code_length : length body.code ≤ 65535
  pub code : AreBytes body.code
  pub handler_count : IsU2 (length body.handlers)
  pub handlers : AllByRecursion IsHandler body.handlers
  pub attribute_count : IsU2 (length body.attributes)
  pub attributes : AllByRecursion (IsInner pool) body.attributes
  pub length_fits : IsU4 (length (code_text body))

-- an attribute of a class or of a field: kept as bytes, and not named Code
abbrev pub IsPlainOpen : List PoolEntry → Attribute-F Attribute CodeBody → Type 0
IsPlainOpen pool (Code body) = ⊥
IsPlainOpen pool (Other name bytes) = IsOther pool name bytes × (names_code pool name ≡ false)

abbrev pub IsPlain : List PoolEntry → Attribute → Type 0
IsPlain pool attribute = IsPlainOpen pool (out-Attribute attribute)

-- an attribute of a method: a Code attribute exactly where its name is Code
abbrev pub IsOfMethodOpen : List PoolEntry → Attribute-F Attribute CodeBody → Type 0
IsOfMethodOpen pool (Code body) = IsCode pool body
IsOfMethodOpen pool (Other name bytes) = IsOther pool name bytes × (names_code pool name ≡ false)

abbrev pub IsOfMethod : List PoolEntry → Attribute → Type 0
IsOfMethod pool attribute = IsOfMethodOpen pool (out-Attribute attribute)

abbrev pub is_code_open : Attribute-F Attribute CodeBody → Bool
is_code_open (Code body) = true
is_code_open (Other name bytes) = false

abbrev pub is_code : Attribute → Bool
is_code attribute = is_code_open (out-Attribute attribute)

-- what fields and methods have alike
pub record IsMember (pool : List PoolEntry) (m : Member) : Type 0 where
  pub flags : IsU2 m.flags
  pub name_fits : IsU2 m.name
  pub name : IsTrue (names_utf8 pool m.name)
  pub descriptor_fits : IsU2 m.descriptor
  pub descriptor : IsTrue (names_utf8 pool m.descriptor)
  pub attribute_count : IsU2 (length m.attributes)

pub record IsField (pool : List PoolEntry) (m : Member) : Type 0 where
  pub member : IsMember pool m
  pub attributes : AllByRecursion (IsPlain pool) m.attributes

-- a method has at most one Code attribute
pub record IsMethod (pool : List PoolEntry) (m : Member) : Type 0 where
  pub member : IsMember pool m
  pub attributes : AllByRecursion (IsOfMethod pool) m.attributes
  pub one_code : count_by is_code m.attributes ≤ 1

-- an index of two bytes that names a Class entry
abbrev pub NamesClass : List PoolEntry → ℕ → Type 0
NamesClass pool index = IsU2 index × IsTrue (names_class pool index)

-- the records that have a text
pub record IsValid (r : ClassRecord) : Type 0 where
  pub pool : IsPool r.pool
  pub flags : IsU2 r.flags
  pub this : NamesClass r.pool r.this
  pub parent : NamesClass r.pool r.parent
  pub interface_count : IsU2 (length r.interfaces)
  pub interfaces : AllByRecursion (NamesClass r.pool) r.interfaces
  pub field_count : IsU2 (length r.fields)
  pub fields : AllByRecursion (IsField r.pool) r.fields
  pub method_count : IsU2 (length r.methods)
  pub methods : AllByRecursion (IsMethod r.pool) r.methods
  pub attribute_count : IsU2 (length r.attributes)
  pub attributes : AllByRecursion (IsPlain r.pool) r.attributes

-- a record and its bytes
pub record ClassText (r : ClassRecord) (bytes : List ℕ) : Type 0 where
  pub valid : IsValid r
  pub text : bytes ≡ class_text r
