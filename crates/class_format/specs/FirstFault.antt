-- The first fault of bytes that are no class file (docs/PROFILE.md, "Refusals of class files").
--
-- Each definition below speaks of a part of a class file that begins at `i`, and has a case for each field of the part: all
-- that stands before the field is right, in the words of ClassText, and then the file ends within the field, or what is
-- judged behind it doesn't hold. So a case says when a judgement is made: behind the fields that it names.
use Rattle.std.specs.Prelude.{◌≡◌, ◌≢◌, ◌⊎◌, ℕ, ◌+◌, ◌-◌, ◌<◌, ◌≤◌, ◌==◌, ◌&&◌, ◌||◌, nat_lt, Bool, true, false, List, [], ◌∷◌, ◌++◌, length, count_by, IsTrue}
use Rattle.std.specs.List.{flat_map, AllByRecursion}
use Rattle.class_format.specs.declared.record.PoolEntry.{PoolEntry}
use Rattle.class_format.specs.declared.record.PoolEntry.TheVariants.{Utf8, Integer, Float, Long, Double, Class, Text, Field, Method, InterfaceMethod, NameAndType, Gap}
use Rattle.class_format.specs.declared.record.Handler.{Handler}
use Rattle.class_format.specs.declared.record.Attribute.{Attribute}
use Rattle.class_format.specs.declared.record.CodeBody.{CodeBody}
use Rattle.class_format.specs.declared.record.Member.{Member}
use Rattle.class_format.specs.declared.record.ClassRecord.{ClassRecord}
use Rattle.class_format.specs.Pool.{names_utf8, names_class, names_name_and_type, names_code}
use Rattle.class_format.specs.ClassText.{u2, u4, table, entry_text, inner_text, handler_text, code_text, attribute_text, member_text, magic, minor_version, major_version, IsU2, IsU4, AreBytes, FitsFields, NamesEntries, GapsFollow, IsPool, IsHandler, IsInner, IsPlain, IsOfMethod, is_code, IsField, IsMethod, NamesClass, ClassText}
use Rattle.class_format.specs.Input.{Input, Fault, truncated, wrong_magic, wrong_version, wrong_tag, wrong_index, wrong_attribute, wrong_code_length, trailing}

-- the whole file
abbrev pub from_start : List ℕ → Input
from_start bytes = record { place = 0; bytes = bytes }

-- this text stands at i, and the rest of the file begins at j
pub record Spells (i : Input) (text : List ℕ) (j : Input) : Type 0 where
  pub bytes : i.bytes ≡ text ++ j.bytes
  pub place : j.place ≡ i.place + length text

abbrev pub fault_at : ℕ → ℕ → Fault
fault_at kind place = record { kind = kind; place = place }

-- ---- Fields and tables

-- a field of n bytes passes the end; the fault lies where the file ends
abbrev pub PassesEnd : ℕ → Input → Fault → Type 0
PassesEnd n i f = (length i.bytes < n) × (f ≡ fault_at truncated (i.place + length i.bytes))

-- an index, which has to name an entry of the tag that its place asks for
pub data IndexFault (names : List PoolEntry → ℕ → Bool) (pool : List PoolEntry) (i : Input) : Fault → Type 0 where
  in_index : (f : Fault) → PassesEnd 2 i f → IndexFault names pool i f
  names_none : (index : ℕ) (j : Input) → IsU2 index → Spells i (u2 index) j
      → names pool index ≡ false → IndexFault names pool i (fault_at wrong_index i.place)

-- n items in a row: some are right, and then one of them isn't. `Fails` tells its fault from the items before it
pub record ItemsFault {A : Type 0} (text : A → List ℕ) (AreRight : List A → Type 0) (Fails : List A → Input → Fault → Type 0) (n : ℕ) (i : Input) (f : Fault) : Type 0 where
  pub before : List A
  pub next : Input
  pub fewer : length before < n
  pub right : AreRight before
  pub stand : Spells i (flat_map text before) next
  pub fails : Fails before next f

-- a table: the number of its items, and the items
pub data TableFault {A : Type 0} (text : A → List ℕ) (AreRight : List A → Type 0) (Fails : List A → Input → Fault → Type 0) (i : Input) : Fault → Type 0 where
  in_count : (f : Fault) → PassesEnd 2 i f → TableFault text AreRight Fails i f
  in_items : (count : ℕ) (j : Input) (f : Fault) → IsU2 count → Spells i (u2 count) j
      → ItemsFault text AreRight Fails count j f → TableFault text AreRight Fails i f

-- a table whose items don't depend on those before
abbrev pub EachFault : {A : Type 0} → (A → List ℕ) → (A → Type 0) → (Input → Fault → Type 0) → Input → Fault → Type 0
EachFault text IsRight Fails i f = TableFault text (AllByRecursion IsRight) (λ before. Fails) i f

-- ---- The pool (JVMS 4.4)

-- the tags whose content is of one size
abbrev pub has_two_bytes : ℕ → Bool
has_two_bytes tag = (tag == 7) || (tag == 8)

abbrev pub has_four_bytes : ℕ → Bool
has_four_bytes tag = (tag == 3) || (tag == 4) || (tag == 9) || (tag == 10) || (tag == 11) || (tag == 12)

-- of a long or a double, which take two numbers
abbrev pub has_eight_bytes : ℕ → Bool
has_eight_bytes tag = (tag == 5) || (tag == 6)

-- what may begin an entry behind whose number so many others are left; 1 is the tag of a Utf8
abbrev pub is_tag : ℕ → ℕ → Bool
is_tag left tag = (tag == 1) || has_two_bytes tag || has_four_bytes tag || (has_eight_bytes tag && nat_lt 0 left)

-- an entry behind whose number so many others are left
pub data EntryFault (left : ℕ) (i : Input) : Fault → Type 0 where
  in_tag : (f : Fault) → PassesEnd 1 i f → EntryFault left i f
  -- judged when the tag was read, before the content
  no_tag : (tag : ℕ) (j : Input) → tag < 256 → Spells i (tag ∷ []) j
      → is_tag left tag ≡ false → EntryFault left i (fault_at wrong_tag i.place)
  -- of a Utf8, the number of its bytes, and the bytes
  in_length : (j : Input) (f : Fault) → Spells i (1 ∷ []) j → PassesEnd 2 j f → EntryFault left i f
  in_bytes : (count : ℕ) (j : Input) (f : Fault) → IsU2 count → Spells i (1 ∷ [] ++ u2 count) j → PassesEnd count j f → EntryFault left i f
  -- of the others, their content
  in_two_bytes : (tag : ℕ) (j : Input) (f : Fault) → IsTrue (has_two_bytes tag) → Spells i (tag ∷ []) j → PassesEnd 2 j f → EntryFault left i f
  in_four_bytes : (tag : ℕ) (j : Input) (f : Fault) → IsTrue (has_four_bytes tag) → Spells i (tag ∷ []) j → PassesEnd 4 j f → EntryFault left i f
  in_eight_bytes : (tag : ℕ) (j : Input) (f : Fault) → IsTrue (has_eight_bytes tag) → 0 < left → Spells i (tag ∷ []) j → PassesEnd 8 j f → EntryFault left i f

-- the only index of an entry that begins at a place names nothing
abbrev pub OneIndexFault : Bool → ℕ → Fault → Type 0
OneIndexFault names place f = (names ≡ false) × (f ≡ fault_at wrong_index (place + 1))

-- the first of its two indices names nothing, or the first does and the second doesn't
abbrev pub TwoIndicesFault : Bool → Bool → ℕ → Fault → Type 0
TwoIndicesFault first second place f = OneIndexFault first place f ⊎ ((first ≡ true) × (second ≡ false) × (f ≡ fault_at wrong_index (place + 3)))

-- the first index of an entry that names nothing
abbrev pub EntryIndexFault : List PoolEntry → PoolEntry → ℕ → Fault → Type 0
EntryIndexFault pool (Utf8 bytes) place f = ⊥
EntryIndexFault pool (Integer bits) place f = ⊥
EntryIndexFault pool (Float bits) place f = ⊥
EntryIndexFault pool (Long high low) place f = ⊥
EntryIndexFault pool (Double high low) place f = ⊥
EntryIndexFault pool (Class name) place f = OneIndexFault (names_utf8 pool name) place f
EntryIndexFault pool (Text text) place f = OneIndexFault (names_utf8 pool text) place f
EntryIndexFault pool (Field class name_and_type) place f = TwoIndicesFault (names_class pool class) (names_name_and_type pool name_and_type) place f
EntryIndexFault pool (Method class name_and_type) place f = TwoIndicesFault (names_class pool class) (names_name_and_type pool name_and_type) place f
EntryIndexFault pool (InterfaceMethod class name_and_type) place f = TwoIndicesFault (names_class pool class) (names_name_and_type pool name_and_type) place f
EntryIndexFault pool (NameAndType name descriptor) place f = TwoIndicesFault (names_utf8 pool name) (names_utf8 pool descriptor) place f
EntryIndexFault pool Gap place f = ⊥

-- the first index that names nothing, of entries that begin at a place
pub record IndicesFault (pool entries : List PoolEntry) (place : ℕ) (f : Fault) : Type 0 where
  pub before : List PoolEntry
  pub entry : PoolEntry
  pub behind : List PoolEntry
  pub parts : entries ≡ before ++ entry ∷ behind
  pub right : AllByRecursion (NamesEntries pool) before
  pub fails : EntryIndexFault pool entry (place + length (flat_map entry_text before)) f

-- entries that stand one after the other, whatever their indices
pub record AreEntries (entries : List PoolEntry) : Type 0 where
  pub gaps : GapsFollow false entries
  pub fields : AllByRecursion FitsFields entries

-- a pool of n numbers
pub data PoolFault (n : ℕ) (i : Input) : Fault → Type 0 where
  in_entries : (f : Fault) → ItemsFault entry_text AreEntries (λ before. EntryFault (n - length before - 1)) n i f → PoolFault n i f
  -- judged behind the last entry, in the order of the entries
  in_indices : (pool : List PoolEntry) (j : Input) (f : Fault) → length pool ≡ n → AreEntries pool → Spells i (flat_map entry_text pool) j
      → IndicesFault pool pool i.place f → PoolFault n i f

-- ---- Attributes (JVMS 4.7)

-- an index that names a text
abbrev pub NamesUtf8 : List PoolEntry → ℕ → Type 0
NamesUtf8 pool index = IsU2 index × IsTrue (names_utf8 pool index)

-- the name and the length of an attribute
pub record IsHeading (pool : List PoolEntry) (i : Input) (name count : ℕ) (j : Input) : Type 0 where
  pub named : NamesUtf8 pool name
  pub count_fits : IsU4 count
  pub stands : Spells i (u2 name ++ u4 count) j

pub data HeadingFault (pool : List PoolEntry) (i : Input) : Fault → Type 0 where
  in_name : (f : Fault) → IndexFault names_utf8 pool i f → HeadingFault pool i f
  in_length : (name : ℕ) (j : Input) (f : Fault) → NamesUtf8 pool name → Spells i (u2 name) j → PassesEnd 4 j f → HeadingFault pool i f

-- an attribute inside a Code attribute, whatever its name
pub data InnerFault (pool : List PoolEntry) (i : Input) : Fault → Type 0 where
  in_heading : (f : Fault) → HeadingFault pool i f → InnerFault pool i f
  in_content : (name count : ℕ) (j : Input) (f : Fault) → IsHeading pool i name count j → PassesEnd count j f → InnerFault pool i f

-- the instructions of a Code attribute
pub record AreInstructions (code : List ℕ) : Type 0 where
  pub some : 0 < length code
  pub most : length code ≤ 65535
  pub are : AreBytes code

pub data InstructionsFault (i : Input) : Fault → Type 0 where
  in_count : (f : Fault) → PassesEnd 4 i f → InstructionsFault i f
  -- judged when the number was read, before the instructions
  no_count : (count : ℕ) (j : Input) → IsU4 count → Spells i (u4 count) j
      → (count ≡ 0) ⊎ (65535 < count) → InstructionsFault i (fault_at wrong_code_length i.place)
  in_code : (count : ℕ) (j : Input) (f : Fault) → 0 < count → count ≤ 65535 → Spells i (u4 count) j → PassesEnd count j f → InstructionsFault i f

-- what stands in a Code attribute before its handlers
abbrev pub front_text : ℕ → ℕ → List ℕ → List ℕ
front_text max_stack max_locals code = u2 max_stack ++ u2 max_locals ++ (u4 (length code) ++ code)

-- items of a table, which fit their count
abbrev pub AreItems : {A : Type 0} → (A → Type 0) → List A → Type 0
AreItems IsRight items = IsU2 (length items) × AllByRecursion IsRight items

-- the parts of a Code attribute with a name, whatever its length
pub record IsBody (pool : List PoolEntry) (name : ℕ) (body : CodeBody) : Type 0 where
  pub named : body.name ≡ name
  pub max_stack : IsU2 body.max_stack
  pub max_locals : IsU2 body.max_locals
  pub code : AreInstructions body.code
  pub handlers : AreItems IsHandler body.handlers
  pub attributes : AreItems (IsInner pool) body.attributes

pub data BodyFault (pool : List PoolEntry) (i : Input) : Fault → Type 0 where
  in_max_stack : (f : Fault) → PassesEnd 2 i f → BodyFault pool i f
  in_max_locals : (max_stack : ℕ) (j : Input) (f : Fault) → IsU2 max_stack → Spells i (u2 max_stack) j → PassesEnd 2 j f → BodyFault pool i f
  in_instructions : (max_stack max_locals : ℕ) (j : Input) (f : Fault) → IsU2 max_stack → IsU2 max_locals
      → Spells i (u2 max_stack ++ u2 max_locals) j → InstructionsFault j f → BodyFault pool i f
  -- a handler is eight bytes, and nothing in it is judged
  in_handlers : (max_stack max_locals : ℕ) (code : List ℕ) (j : Input) (f : Fault) → IsU2 max_stack → IsU2 max_locals → AreInstructions code
      → Spells i (front_text max_stack max_locals code) j → EachFault handler_text IsHandler (PassesEnd 8) j f → BodyFault pool i f
  in_attributes : (max_stack max_locals : ℕ) (code : List ℕ) (handlers : List Handler) (j : Input) (f : Fault)
      → IsU2 max_stack → IsU2 max_locals → AreInstructions code → AreItems IsHandler handlers
      → Spells i (front_text max_stack max_locals code ++ table handler_text handlers) j → EachFault inner_text (IsInner pool) (InnerFault pool) j f → BodyFault pool i f

-- an attribute of a class, a field or a method, where a Code attribute is allowed or not
pub data AttributeFault (pool : List PoolEntry) (allowed : Bool) (i : Input) : Fault → Type 0 where
  in_heading : (f : Fault) → HeadingFault pool i f → AttributeFault pool allowed i f
  in_content : (name count : ℕ) (j : Input) (f : Fault) → IsHeading pool i name count j → names_code pool name ≡ false → PassesEnd count j f → AttributeFault pool allowed i f
  -- judged when the length was read, before the parts
  no_code_here : (name count : ℕ) (j : Input) → IsHeading pool i name count j → names_code pool name ≡ true
      → allowed ≡ false → AttributeFault pool allowed i (fault_at wrong_attribute (i.place + 2))
  in_code : (name count : ℕ) (j : Input) (f : Fault) → IsHeading pool i name count j → names_code pool name ≡ true → allowed ≡ true → BodyFault pool j f → AttributeFault pool allowed i f
  -- judged behind the last part
  other_length : (name count : ℕ) (body : CodeBody) (j k : Input) → IsHeading pool i name count j → names_code pool name ≡ true → allowed ≡ true → IsBody pool name body → Spells j (code_text body) k
      → length (code_text body) ≢ count → AttributeFault pool allowed i (fault_at wrong_attribute (i.place + 2))

-- the attributes of a class or of a field, none of which may be a Code attribute
abbrev pub PlainAttributesFault : List PoolEntry → Input → Fault → Type 0
PlainAttributesFault pool i f = EachFault attribute_text (IsPlain pool) (AttributeFault pool false) i f

pub record AreOfMethod (pool : List PoolEntry) (attributes : List Attribute) : Type 0 where
  pub each : AllByRecursion (IsOfMethod pool) attributes
  pub one_code : count_by is_code attributes ≤ 1

-- the attributes of a method, where a Code attribute is allowed if none stands before
abbrev pub MethodAttributesFault : List PoolEntry → Input → Fault → Type 0
MethodAttributesFault pool i f = TableFault attribute_text (AreOfMethod pool) (λ before. AttributeFault pool (count_by is_code before == 0)) i f

-- ---- The class file (JVMS 4.1)

-- a field (JVMS 4.5) or a method (JVMS 4.6), where the fault of its attributes is given
pub data MemberFault (pool : List PoolEntry) (AttributesFail : Input → Fault → Type 0) (i : Input) : Fault → Type 0 where
  in_flags : (f : Fault) → PassesEnd 2 i f → MemberFault pool AttributesFail i f
  in_name : (flags : ℕ) (j : Input) (f : Fault) → IsU2 flags → Spells i (u2 flags) j → IndexFault names_utf8 pool j f → MemberFault pool AttributesFail i f
  in_descriptor : (flags name : ℕ) (j : Input) (f : Fault) → IsU2 flags → NamesUtf8 pool name
      → Spells i (u2 flags ++ u2 name) j → IndexFault names_utf8 pool j f → MemberFault pool AttributesFail i f
  in_attributes : (flags name descriptor : ℕ) (j : Input) (f : Fault) → IsU2 flags → NamesUtf8 pool name → NamesUtf8 pool descriptor
      → Spells i (u2 flags ++ u2 name ++ u2 descriptor) j → AttributesFail j f → MemberFault pool AttributesFail i f

abbrev pub FieldFault : List PoolEntry → Input → Fault → Type 0
FieldFault pool = MemberFault pool (PlainAttributesFault pool)

abbrev pub MethodFault : List PoolEntry → Input → Fault → Type 0
MethodFault pool = MemberFault pool (MethodAttributesFault pool)

-- the access flags, the class and its superclass
pub record AreNames (pool : List PoolEntry) (flags this parent : ℕ) : Type 0 where
  pub flags_fit : IsU2 flags
  pub this_is : NamesClass pool this
  pub parent_is : NamesClass pool parent

abbrev pub names_text : ℕ → ℕ → ℕ → List ℕ
names_text flags this parent = u2 flags ++ u2 this ++ u2 parent

pub data NamesFault (pool : List PoolEntry) (i : Input) : Fault → Type 0 where
  in_flags : (f : Fault) → PassesEnd 2 i f → NamesFault pool i f
  in_this : (flags : ℕ) (j : Input) (f : Fault) → IsU2 flags → Spells i (u2 flags) j → IndexFault names_class pool j f → NamesFault pool i f
  in_parent : (flags this : ℕ) (j : Input) (f : Fault) → IsU2 flags → NamesClass pool this
      → Spells i (u2 flags ++ u2 this) j → IndexFault names_class pool j f → NamesFault pool i f

-- what stands behind the pool
pub data RestFault (pool : List PoolEntry) (i : Input) : Fault → Type 0 where
  in_names : (f : Fault) → NamesFault pool i f → RestFault pool i f
  in_interfaces : (flags this parent : ℕ) (j : Input) (f : Fault) → AreNames pool flags this parent
      → Spells i (names_text flags this parent) j → EachFault u2 (NamesClass pool) (IndexFault names_class pool) j f → RestFault pool i f
  in_fields : (flags this parent : ℕ) (interfaces : List ℕ) (j : Input) (f : Fault) → AreNames pool flags this parent → AreItems (NamesClass pool) interfaces
      → Spells i (names_text flags this parent ++ table u2 interfaces) j → EachFault member_text (IsField pool) (FieldFault pool) j f → RestFault pool i f
  in_methods : (flags this parent : ℕ) (interfaces : List ℕ) (fields : List Member) (j : Input) (f : Fault)
      → AreNames pool flags this parent → AreItems (NamesClass pool) interfaces → AreItems (IsField pool) fields
      → Spells i (names_text flags this parent ++ table u2 interfaces ++ table member_text fields) j → EachFault member_text (IsMethod pool) (MethodFault pool) j f → RestFault pool i f
  in_attributes : (flags this parent : ℕ) (interfaces : List ℕ) (fields methods : List Member) (j : Input) (f : Fault)
      → AreNames pool flags this parent → AreItems (NamesClass pool) interfaces → AreItems (IsField pool) fields → AreItems (IsMethod pool) methods
      → Spells i (names_text flags this parent ++ table u2 interfaces ++ table member_text fields ++ table member_text methods) j → PlainAttributesFault pool j f → RestFault pool i f

-- the magic number and the version
abbrev pub front : List ℕ
front = u4 magic ++ u2 minor_version ++ u2 major_version

-- a class file
pub data ClassFault (bytes : List ℕ) : Fault → Type 0 where
  in_magic : (f : Fault) → PassesEnd 4 (from_start bytes) f → ClassFault bytes f
  other_magic : (number : ℕ) (j : Input) → IsU4 number → Spells (from_start bytes) (u4 number) j → number ≢ magic → ClassFault bytes (fault_at wrong_magic 0)
  in_version : (j : Input) (f : Fault) → Spells (from_start bytes) (u4 magic) j → PassesEnd 4 j f → ClassFault bytes f
  -- judged when both numbers were read
  other_version : (minor major : ℕ) (j : Input) → IsU2 minor → IsU2 major → Spells (from_start bytes) (u4 magic ++ u2 minor ++ u2 major) j
      → (minor ≢ minor_version) ⊎ (major ≢ major_version) → ClassFault bytes (fault_at wrong_version 4)
  in_count : (j : Input) (f : Fault) → Spells (from_start bytes) front j → PassesEnd 2 j f → ClassFault bytes f
  no_count : (j : Input) → Spells (from_start bytes) (front ++ u2 0) j → ClassFault bytes (fault_at wrong_index 8)
  in_pool : (count : ℕ) (j : Input) (f : Fault) → IsU2 count → 0 < count → Spells (from_start bytes) (front ++ u2 count) j → PoolFault (count - 1) j f → ClassFault bytes f
  behind_pool : (pool : List PoolEntry) (j : Input) (f : Fault) → IsPool pool → Spells (from_start bytes) (front ++ u2 (length pool + 1) ++ flat_map entry_text pool) j
      → RestFault pool j f → ClassFault bytes f
  bytes_behind : (class : ClassRecord) (text more : List ℕ) → ClassText class text → 0 < length more → bytes ≡ text ++ more → ClassFault bytes (fault_at trailing (length text))
