-- A first fault is the end of the file, or it lies before the end and stays, whatever follows.
use Rattle.std.proofs.Common.{◌≡◌, ℕ, ◌+◌, ◌-◌, ◌<◌, ◌≤◌, List, [], ◌∷◌, ◌++◌, length, refl, ap, subst, ◌∙◌, append_assoc, length-append, arith, ◌⊎◌, inl, inr, Bool, false, eqb}
use Rattle.std.specs.Prelude.{count_by}
use Rattle.std.specs.List.{flat_map, AllByRecursion}
use Rattle.std.proofs.lemmas.List.Concat.{flat_map-cons}
use Rattle.std.proofs.lemmas.Grind.{flat_map-append}
use Rattle.class_format.specs.declared.record.PoolEntry.{PoolEntry}
use Rattle.class_format.specs.declared.record.PoolEntry.TheVariants.{Utf8, Integer, Float, Long, Double, Class, Text, Field, Method, InterfaceMethod, NameAndType, Gap}
use Rattle.class_format.specs.declared.record.ClassRecord.{ClassRecord}
use Rattle.class_format.specs.Pool.{names_utf8, names_class}
use Rattle.class_format.specs.ClassText.{u2, u4, entry_text, attribute_text, handler_text, inner_text, member_text, code_text, magic, IsHandler, IsInner, IsPlain, IsField, IsMethod, NamesClass, is_code, AreBytes, ClassText}
use Rattle.class_format.specs.Input.{Input, Fault, truncated, wrong_magic, wrong_tag, wrong_index, wrong_attribute, wrong_code_length, trailing}
use Rattle.class_format.specs.Laws.{Stays}
use Rattle.class_format.specs.FirstFault.{from_start, Spells, fault_at, PassesEnd, IndexFault, ItemsFault, TableFault, EachFault, EntryFault, OneIndexFault, TwoIndicesFault, EntryIndexFault, AreEntries, PoolFault, IsHeading, HeadingFault, InnerFault, InstructionsFault, BodyFault, AttributeFault, PlainAttributesFault, AreOfMethod, MethodAttributesFault, MemberFault, FieldFault, MethodFault, NamesFault, RestFault, front, ClassFault}
use Rattle.class_format.proofs.Faults.{u2_length, u4_length}
use Rattle.class_format.proofs.ClassFaults.{front_length, one_fault, text_or_fault, never_both}

-- the same place in a file that goes on
abbrev pub longer : List ℕ → Input → Input
longer more i = record { place = i.place; bytes = i.bytes ++ more }

abbrev pub end_of : Input → ℕ
end_of i = i.place + length i.bytes

-- the kinds of faults that aren't the end
abbrev IsOther : ℕ → Type 0
IsOther kind = (truncated < kind) × (kind ≤ trailing)

-- a fault at i that is the end of the file, or lies before it and stays in longer files
pub record Settled (Fails : Input → Fault → Type 0) (i : Input) (f : Fault) : Type 0 where
  pub cases : (f ≡ fault_at truncated (end_of i)) ⊎ (IsOther f.kind × (f.place < end_of i) × ((more : List ℕ) → Fails (longer more i) f))

-- ---- Steps

longer_spells : (more : List ℕ) (i : Input) (text : List ℕ) (j : Input) → Spells i text j → Spells (longer more i) text (longer more j)
longer_spells more i text j s = record { bytes = ap (λ (bytes : List ℕ). bytes ++ more) s.bytes ∙ append_assoc text j.bytes more; place = s.place }

same_end : (i : Input) (text : List ℕ) (j : Input) → Spells i text j → end_of j ≡ end_of i
same_end i text j s = omega (arith, s.place, ap length s.bytes, length-append text j.bytes)

-- a fault at the end
ends : {Whole : Input → Fault → Type 0} (n : ℕ) (i : Input) (f : Fault) → PassesEnd n i f → Settled Whole i f
ends n i f h = record { cases = inl h.1 }

-- a fault at the end, behind a text
ends_behind : {Whole : Input → Fault → Type 0} (n : ℕ) (i : Input) (text : List ℕ) (j : Input) (f : Fault) → Spells i text j → PassesEnd n j f → Settled Whole i f
ends_behind n i text j f s h = record { cases = inl (h.1 ∙ ap (λ (place : ℕ). fault_at truncated place) (same_end i text j s)) }

-- the fault of a part that stands at i
here : {Part Whole : Input → Fault → Type 0} (i : Input) (f : Fault) → Settled Part i f → ((more : List ℕ) → Part (longer more i) f → Whole (longer more i) f) → Settled Whole i f
here i f part build = record {
  cases =
      elim part.cases [
        | inl e ↦ inl e
        | inr h ↦ inr (h.0, h.1, λ more. build more (h.2 more))
      ];
}

-- the fault of a part behind a text
behind : {Part Whole : Input → Fault → Type 0} (i : Input) (text : List ℕ) (j : Input) (f : Fault) → Spells i text j → Settled Part j f
    → ((more : List ℕ) → Spells (longer more i) text (longer more j) → Part (longer more j) f → Whole (longer more i) f) → Settled Whole i f
behind i text j f s part build = record {
  cases =
      elim part.cases [
        | inl e ↦ inl (e ∙ ap (λ (place : ℕ). fault_at truncated place) (same_end i text j s))
        | inr h ↦ inr (h.0, omega (arith, h.1, same_end i text j s), λ more. build more (longer_spells more i text j s) (h.2 more))
      ];
}

-- a fault at some byte of a text that stands at i
judged : {Whole : Input → Fault → Type 0} (i : Input) (text : List ℕ) (j : Input) (kind at : ℕ) → IsOther kind → Spells i text j → at < length text
    → ((more : List ℕ) → Spells (longer more i) text (longer more j) → Whole (longer more i) (fault_at kind (i.place + at))) → Settled Whole i (fault_at kind (i.place + at))
judged i text j kind at known s lt build = record { cases = inr (known, omega (arith, lt, s.place, same_end i text j s), λ more. build more (longer_spells more i text j s)) }

-- the same at the text's first byte
judged_first : {Whole : Input → Fault → Type 0} (i : Input) (text : List ℕ) (j : Input) (kind : ℕ) → IsOther kind → Spells i text j → 0 < length text
    → ((more : List ℕ) → Spells (longer more i) text (longer more j) → Whole (longer more i) (fault_at kind i.place)) → Settled Whole i (fault_at kind i.place)
judged_first i text j kind known s lt build = record { cases = inr (known, omega (arith, lt, s.place, same_end i text j s), λ more. build more (longer_spells more i text j s)) }

-- ---- Fields and tables

index_settles : (names : List PoolEntry → ℕ → Bool) (pool : List PoolEntry) (i : Input) (f : Fault) → IndexFault names pool i f → Settled (IndexFault names pool) i f
index_settles names pool i f (IndexFault.in_index g h) = ends 2 i g h
index_settles names pool i f (IndexFault.names_none index j fits s none) = judged_first i (u2 index) j wrong_index (omega arith, omega arith) s (omega (arith, u2_length index)) (λ more t. IndexFault.names_none index (longer more j) fits t none)

module _ {A : Type 0} (text : A → List ℕ) (AreRight : List A → Type 0) (Fails : List A → Input → Fault → Type 0) (each : (before : List A) (i : Input) (f : Fault) → Fails before i f → Settled (Fails before) i f) where
  items_settle : (n : ℕ) (i : Input) (f : Fault) → ItemsFault text AreRight Fails n i f → Settled (ItemsFault text AreRight Fails n) i f
  items_settle n i f h =
      behind i (flat_map text h.before) h.next f h.stand (each h.before h.next f h.fails) (λ more t fails. record { before = h.before; next = longer more h.next; fewer = h.fewer; right = h.right; stand = t; fails = fails })

  table_settles : (i : Input) (f : Fault) → TableFault text AreRight Fails i f → Settled (TableFault text AreRight Fails) i f
  table_settles i f (TableFault.in_count g h) = ends 2 i g h
  table_settles i f (TableFault.in_items count j g fits s h) = behind i (u2 count) j g s (items_settle count j g h) (λ more t fails. TableFault.in_items count (longer more j) g fits t fails)

-- ---- The pool

entry_settles : (left : ℕ) (i : Input) (f : Fault) → EntryFault left i f → Settled (EntryFault left) i f
entry_settles left i f (EntryFault.in_tag g h) = ends 1 i g h
entry_settles left i f (EntryFault.no_tag tag j lt s none) = judged_first i (tag ∷ []) j wrong_tag (omega arith, omega arith) s (omega arith) (λ more t. EntryFault.no_tag tag (longer more j) lt t none)
entry_settles left i f (EntryFault.in_length j g s h) = ends_behind 2 i (1 ∷ []) j g s h
entry_settles left i f (EntryFault.in_bytes count j g fits s h) = ends_behind count i (1 ∷ [] ++ u2 count) j g s h
entry_settles left i f (EntryFault.in_two_bytes tag j g is s h) = ends_behind 2 i (tag ∷ []) j g s h
entry_settles left i f (EntryFault.in_four_bytes tag j g is s h) = ends_behind 4 i (tag ∷ []) j g s h
entry_settles left i f (EntryFault.in_eight_bytes tag j g is room s h) = ends_behind 8 i (tag ∷ []) j g s h

one_length : (tag n : ℕ) → length (tag ∷ [] ++ u2 n) ≡ 3
one_length tag n = omega (arith, length-append (tag ∷ []) (u2 n), u2_length n)

two_length : (tag m n : ℕ) → length (tag ∷ [] ++ u2 m ++ u2 n) ≡ 5
two_length tag m n = omega (arith, length-append (tag ∷ [] ++ u2 m) (u2 n), length-append (tag ∷ []) (u2 m), u2_length m, u2_length n)

-- the place of an index lies within its entry
one_within : (names : Bool) (place end : ℕ) (f : Fault) → place + 3 ≤ end → OneIndexFault names place f → IsOther f.kind × (f.place < end)
one_within names place end f le h = rw h.1 ((omega arith, omega arith), omega (arith, le))

two_within : (first second : Bool) (place end : ℕ) (f : Fault) → place + 5 ≤ end → TwoIndicesFault first second place f → IsOther f.kind × (f.place < end)
two_within first second place end f le (inl h) = rw h.1 ((omega arith, omega arith), omega (arith, le))
two_within first second place end f le (inr h) = rw h.2 ((omega arith, omega arith), omega (arith, le))

index_within : (pool : List PoolEntry) (entry : PoolEntry) (place end : ℕ) (f : Fault) → place + length (entry_text entry) ≤ end → EntryIndexFault pool entry place f → IsOther f.kind × (f.place < end)
index_within pool (Utf8 b) place end f le h = absurd h
index_within pool (Integer b) place end f le h = absurd h
index_within pool (Float b) place end f le h = absurd h
index_within pool (Long b c) place end f le h = absurd h
index_within pool (Double b c) place end f le h = absurd h
index_within pool (Class b) place end f le h = one_within _ place end f (omega (arith, le, one_length 7 b)) h
index_within pool (Text b) place end f le h = one_within _ place end f (omega (arith, le, one_length 8 b)) h
index_within pool (Field b c) place end f le h = two_within _ _ place end f (omega (arith, le, two_length 9 b c)) h
index_within pool (Method b c) place end f le h = two_within _ _ place end f (omega (arith, le, two_length 10 b c)) h
index_within pool (InterfaceMethod b c) place end f le h = two_within _ _ place end f (omega (arith, le, two_length 11 b c)) h
index_within pool (NameAndType b c) place end f le h = two_within _ _ place end f (omega (arith, le, two_length 12 b c)) h
index_within pool Gap place end f le h = absurd h

pool_settles : (n : ℕ) (i : Input) (f : Fault) → PoolFault n i f → Settled (PoolFault n) i f
pool_settles n i f (PoolFault.in_entries g h) =
    here i g (items_settle entry_text AreEntries (λ before. EntryFault (n - length before - 1)) (λ before. entry_settles (n - length before - 1)) n i g h) (λ more. PoolFault.in_entries g)
pool_settles n i f (PoolFault.in_indices pool j g count are s h) =
    let parts : flat_map entry_text pool ≡ flat_map entry_text h.before ++ (entry_text h.entry ++ flat_map entry_text h.behind) =
    ap (flat_map entry_text) h.parts ∙ flat_map-append entry_text h.before (h.entry ∷ h.behind) ∙ ap (λ (t : List ℕ). flat_map entry_text h.before ++ t) (flat_map-cons entry_text h.entry h.behind) in
    let lengths : length (flat_map entry_text pool) ≡ length (flat_map entry_text h.before) + (length (entry_text h.entry) + length (flat_map entry_text h.behind)) =
    ap length parts ∙ length-append (flat_map entry_text h.before) (entry_text h.entry ++ flat_map entry_text h.behind) ∙ ap (λ (m : ℕ). length (flat_map entry_text h.before) + m) (length-append (entry_text h.entry) (flat_map entry_text h.behind)) in
    let within : i.place + length (flat_map entry_text h.before) + length (entry_text h.entry) ≤ end_of i = omega (arith, lengths, ap length s.bytes, length-append (flat_map entry_text pool) j.bytes) in
    let lies = index_within pool h.entry (i.place + length (flat_map entry_text h.before)) (end_of i) g within h.fails in
    record { cases = inr (lies.0, lies.1, λ more. PoolFault.in_indices pool (longer more j) g count are (longer_spells more i (flat_map entry_text pool) j s) h) }

-- ---- Attributes

heading_settles : (pool : List PoolEntry) (i : Input) (f : Fault) → HeadingFault pool i f → Settled (HeadingFault pool) i f
heading_settles pool i f (HeadingFault.in_name g h) = here i g (index_settles names_utf8 pool i g h) (λ more. HeadingFault.in_name g)
heading_settles pool i f (HeadingFault.in_length name j g named s h) = ends_behind 4 i (u2 name) j g s h

longer_heading : (more : List ℕ) (pool : List PoolEntry) (i : Input) (name count : ℕ) (j : Input) → IsHeading pool i name count j → IsHeading pool (longer more i) name count (longer more j)
longer_heading more pool i name count j h = record { named = h.named; count_fits = h.count_fits; stands = longer_spells more i (u2 name ++ u4 count) j h.stands }

heading_length : (name count : ℕ) → length (u2 name ++ u4 count) ≡ 6
heading_length name count = omega (arith, length-append (u2 name) (u4 count), u2_length name, u4_length count)

inner_settles : (pool : List PoolEntry) (i : Input) (f : Fault) → InnerFault pool i f → Settled (InnerFault pool) i f
inner_settles pool i f (InnerFault.in_heading g h) = here i g (heading_settles pool i g h) (λ more. InnerFault.in_heading g)
inner_settles pool i f (InnerFault.in_content name count j g h e) = ends_behind count i (u2 name ++ u4 count) j g h.stands e

instructions_settle : (i : Input) (f : Fault) → InstructionsFault i f → Settled InstructionsFault i f
instructions_settle i f (InstructionsFault.in_count g h) = ends 4 i g h
instructions_settle i f (InstructionsFault.no_count count j fits s bad) = judged_first i (u4 count) j wrong_code_length (omega arith, omega arith) s (omega (arith, u4_length count)) (λ more t. InstructionsFault.no_count count (longer more j) fits t bad)
instructions_settle i f (InstructionsFault.in_code count j g some most s h) = ends_behind count i (u4 count) j g s h

handlers_settle : (i : Input) (f : Fault) → EachFault handler_text IsHandler (PassesEnd 8) i f → Settled (EachFault handler_text IsHandler (PassesEnd 8)) i f
handlers_settle = table_settles handler_text (AllByRecursion IsHandler) (λ before. PassesEnd 8) (λ before i f h. ends 8 i f h)

inners_settle : (pool : List PoolEntry) (i : Input) (f : Fault) → EachFault inner_text (IsInner pool) (InnerFault pool) i f → Settled (EachFault inner_text (IsInner pool) (InnerFault pool)) i f
inners_settle pool = table_settles inner_text (AllByRecursion (IsInner pool)) (λ before. InnerFault pool) (λ before. inner_settles pool)

body_settles : (pool : List PoolEntry) (i : Input) (f : Fault) → BodyFault pool i f → Settled (BodyFault pool) i f
body_settles pool i f (BodyFault.in_max_stack g h) = ends 2 i g h
body_settles pool i f (BodyFault.in_max_locals a j g p s h) = ends_behind 2 i _ j g s h
body_settles pool i f (BodyFault.in_instructions a b j g p q s h) = behind i _ j g s (instructions_settle j g h) (λ more t. BodyFault.in_instructions a b (longer more j) g p q t)
body_settles pool i f (BodyFault.in_handlers a b c j g p q r s h) = behind i _ j g s (handlers_settle j g h) (λ more t. BodyFault.in_handlers a b c (longer more j) g p q r t)
body_settles pool i f (BodyFault.in_attributes a b c d j g p q r u s h) = behind i _ j g s (inners_settle pool j g h) (λ more t. BodyFault.in_attributes a b c d (longer more j) g p q r u t)

attribute_settles : (pool : List PoolEntry) (allowed : Bool) (i : Input) (f : Fault) → AttributeFault pool allowed i f → Settled (AttributeFault pool allowed) i f
attribute_settles pool allowed i f (AttributeFault.in_heading g h) = here i g (heading_settles pool i g h) (λ more. AttributeFault.in_heading g)
attribute_settles pool allowed i f (AttributeFault.in_content name count j g h plain e) = ends_behind count i (u2 name ++ u4 count) j g h.stands e
attribute_settles pool allowed i f (AttributeFault.no_code_here name count j h code none) =
    judged i (u2 name ++ u4 count) j wrong_attribute 2 (omega arith, omega arith) h.stands (omega (arith, heading_length name count)) (λ more t. AttributeFault.no_code_here name count (longer more j) (longer_heading more pool i name count j h) code none)
attribute_settles pool allowed i f (AttributeFault.in_code name count j g h code may e) =
    behind i (u2 name ++ u4 count) j g h.stands (body_settles pool j g e) (λ more t. AttributeFault.in_code name count (longer more j) g (longer_heading more pool i name count j h) code may)
attribute_settles pool allowed i f (AttributeFault.other_length name count body j k h code may are s other) =
    judged i (u2 name ++ u4 count) j wrong_attribute 2 (omega arith, omega arith) h.stands (omega (arith, heading_length name count))
    (λ more t. AttributeFault.other_length name count body (longer more j) (longer more k) (longer_heading more pool i name count j h) code may are (longer_spells more j (code_text body) k s) other)

plain_attributes_settle : (pool : List PoolEntry) (i : Input) (f : Fault) → PlainAttributesFault pool i f → Settled (PlainAttributesFault pool) i f
plain_attributes_settle pool = table_settles attribute_text (AllByRecursion (IsPlain pool)) (λ before. AttributeFault pool false) (λ before. attribute_settles pool false)

method_attributes_settle : (pool : List PoolEntry) (i : Input) (f : Fault) → MethodAttributesFault pool i f → Settled (MethodAttributesFault pool) i f
method_attributes_settle pool = table_settles attribute_text (AreOfMethod pool) (λ before. AttributeFault pool (eqb (count_by is_code before) 0)) (λ before. attribute_settles pool (eqb (count_by is_code before) 0))

-- ---- The class file

member_settles : (pool : List PoolEntry) (AttributesFail : Input → Fault → Type 0) → ((i : Input) (f : Fault) → AttributesFail i f → Settled AttributesFail i f)
    → (i : Input) (f : Fault) → MemberFault pool AttributesFail i f → Settled (MemberFault pool AttributesFail) i f
member_settles pool fail attributes i f (MemberFault.in_flags g h) = ends 2 i g h
member_settles pool fail attributes i f (MemberFault.in_name a j g p s h) = behind i _ j g s (index_settles names_utf8 pool j g h) (λ more t. MemberFault.in_name a (longer more j) g p t)
member_settles pool fail attributes i f (MemberFault.in_descriptor a b j g p q s h) = behind i _ j g s (index_settles names_utf8 pool j g h) (λ more t. MemberFault.in_descriptor a b (longer more j) g p q t)
member_settles pool fail attributes i f (MemberFault.in_attributes a b c j g p q r s h) = behind i _ j g s (attributes j g h) (λ more t. MemberFault.in_attributes a b c (longer more j) g p q r t)

names_settle : (pool : List PoolEntry) (i : Input) (f : Fault) → NamesFault pool i f → Settled (NamesFault pool) i f
names_settle pool i f (NamesFault.in_flags g h) = ends 2 i g h
names_settle pool i f (NamesFault.in_this a j g p s h) = behind i _ j g s (index_settles names_class pool j g h) (λ more t. NamesFault.in_this a (longer more j) g p t)
names_settle pool i f (NamesFault.in_parent a b j g p q s h) = behind i _ j g s (index_settles names_class pool j g h) (λ more t. NamesFault.in_parent a b (longer more j) g p q t)

interfaces_settle : (pool : List PoolEntry) (i : Input) (f : Fault) → EachFault u2 (NamesClass pool) (IndexFault names_class pool) i f → Settled (EachFault u2 (NamesClass pool) (IndexFault names_class pool)) i f
interfaces_settle pool = table_settles u2 (AllByRecursion (NamesClass pool)) (λ before. IndexFault names_class pool) (λ before. index_settles names_class pool)

fields_settle : (pool : List PoolEntry) (i : Input) (f : Fault) → EachFault member_text (IsField pool) (FieldFault pool) i f → Settled (EachFault member_text (IsField pool) (FieldFault pool)) i f
fields_settle pool = table_settles member_text (AllByRecursion (IsField pool)) (λ before. FieldFault pool) (λ before. member_settles pool (PlainAttributesFault pool) (plain_attributes_settle pool))

methods_settle : (pool : List PoolEntry) (i : Input) (f : Fault) → EachFault member_text (IsMethod pool) (MethodFault pool) i f → Settled (EachFault member_text (IsMethod pool) (MethodFault pool)) i f
methods_settle pool = table_settles member_text (AllByRecursion (IsMethod pool)) (λ before. MethodFault pool) (λ before. member_settles pool (MethodAttributesFault pool) (method_attributes_settle pool))

rest_settles : (pool : List PoolEntry) (i : Input) (f : Fault) → RestFault pool i f → Settled (RestFault pool) i f
rest_settles pool i f (RestFault.in_names g h) = here i g (names_settle pool i g h) (λ more. RestFault.in_names g)
rest_settles pool i f (RestFault.in_interfaces a b c j g n s h) = behind i _ j g s (interfaces_settle pool j g h) (λ more t. RestFault.in_interfaces a b c (longer more j) g n t)
rest_settles pool i f (RestFault.in_fields a b c d j g n p s h) = behind i _ j g s (fields_settle pool j g h) (λ more t. RestFault.in_fields a b c d (longer more j) g n p t)
rest_settles pool i f (RestFault.in_methods a b c d e j g n p q s h) = behind i _ j g s (methods_settle pool j g h) (λ more t. RestFault.in_methods a b c d e (longer more j) g n p q t)
rest_settles pool i f (RestFault.in_attributes a b c d e m j g n p q r s h) = behind i _ j g s (plain_attributes_settle pool j g h) (λ more t. RestFault.in_attributes a b c d e m (longer more j) g n p q r t)

-- of a whole file
abbrev AtStart : Input → Fault → Type 0
AtStart i f = ClassFault i.bytes f

class_settles : (bytes : List ℕ) (f : Fault) → ClassFault bytes f → Settled AtStart (from_start bytes) f
class_settles bytes f (ClassFault.in_magic g h) = ends 4 (from_start bytes) g h
class_settles bytes f (ClassFault.other_magic number j fits s other) = judged_first (from_start bytes) (u4 number) j wrong_magic (omega arith, omega arith) s (omega (arith, u4_length number)) (λ more t. ClassFault.other_magic number (longer more j) fits t other)
class_settles bytes f (ClassFault.in_version j g s h) = ends_behind 4 (from_start bytes) _ j g s h
class_settles bytes f (ClassFault.other_version minor major j p q s other) =
    let long : length (u4 magic ++ u2 minor ++ u2 major) ≡ 8 = omega (arith, length-append (u4 magic ++ u2 minor) (u2 major), length-append (u4 magic) (u2 minor), u4_length magic, u2_length minor, u2_length major) in
    let end : length bytes ≡ 8 + length j.bytes = ap length s.bytes ∙ length-append (u4 magic ++ u2 minor ++ u2 major) j.bytes ∙ ap (λ (n : ℕ). n + length j.bytes) long in
    record { cases = inr ((omega arith, omega arith), omega (arith, end), λ more. ClassFault.other_version minor major (longer more j) p q (longer_spells more (from_start bytes) _ j s) other) }
class_settles bytes f (ClassFault.in_count j g s h) = ends_behind 2 (from_start bytes) _ j g s h
class_settles bytes f (ClassFault.no_count j s) =
    let long : length (front ++ u2 0) ≡ 10 = omega (arith, length-append front (u2 0), front_length, u2_length 0) in
    let end : length bytes ≡ 10 + length j.bytes = ap length s.bytes ∙ length-append (front ++ u2 0) j.bytes ∙ ap (λ (n : ℕ). n + length j.bytes) long in
    record { cases = inr ((omega arith, omega arith), omega (arith, end), λ more. ClassFault.no_count (longer more j) (longer_spells more (from_start bytes) _ j s)) }
class_settles bytes f (ClassFault.in_pool count j g p q s h) = behind (from_start bytes) _ j g s (pool_settles (count - 1) j g h) (λ more t. ClassFault.in_pool count (longer more j) g p q t)
class_settles bytes f (ClassFault.behind_pool pool j g is s h) = behind (from_start bytes) _ j g s (rest_settles pool j g h) (λ more t. ClassFault.behind_pool pool (longer more j) g is t)
class_settles bytes f (ClassFault.bytes_behind class text rest is some parts) =
    let end : length bytes ≡ length text + length rest = ap length parts ∙ length-append text rest in
    record {
      cases = inr (
        (omega arith, omega arith),
        omega (arith, end, some),
        λ more.
            let longer_parts : bytes ++ more ≡ text ++ (rest ++ more) = ap (λ (t : List ℕ). t ++ more) parts ∙ append_assoc text rest more in
            let still : 0 < length (rest ++ more) = omega (arith, some, length-append rest more) in
            ClassFault.bytes_behind class text (rest ++ more) is still longer_parts,
      );
    }

-- ---- The laws

pub fault_stays : (bytes : List ℕ) (f : Fault) → ClassFault bytes f → (f ≡ fault_at truncated (length bytes)) ⊎ Stays bytes f
fault_stays bytes f h =
    let whole : 0 + length bytes ≡ length bytes = omega arith in
    elim (class_settles bytes f h).cases [
      | inl e ↦ inl (e ∙ ap (λ (place : ℕ). fault_at truncated place) whole)
      | inr k ↦ inr (record { other_kind = k.0.0; known_kind = k.0.1; within = omega (arith, k.1); stays = k.2 })
    ]

pub beginnings : (bytes more : List ℕ) (f : Fault) → AreBytes bytes → ClassFault (bytes ++ more) f
    → ClassFault bytes f ⊎ (ClassFault bytes (fault_at truncated (length bytes)) ⊎ ((r : ClassRecord) × ClassText r bytes))
beginnings bytes more f all h =
    elim (text_or_fault bytes all) [
      | inl text ↦ inr (inr text)
      | inr g ↦ elim (fault_stays bytes g.0 g.1) [
        | inl is ↦ inr (inl (subst (λ (d : Fault). ClassFault bytes d) is g.1))
        | inr stays ↦ inl (subst (λ (d : Fault). ClassFault bytes d) (one_fault (bytes ++ more) g.0 f (stays.stays more) h) g.1)
      ]
    ]

pub cut_texts : (r : ClassRecord) (bytes more : List ℕ) → AreBytes bytes → 0 < length more → ClassText r (bytes ++ more) → ClassFault bytes (fault_at truncated (length bytes))
cut_texts r bytes more all some text =
    elim (text_or_fault bytes all) [
      | inl t ↦ absurd (never_both (bytes ++ more) r _ text (ClassFault.bytes_behind t.0 bytes more t.1 some refl))
      | inr f ↦ elim (fault_stays bytes f.0 f.1) [
        | inl is ↦ subst (λ (g : Fault). ClassFault bytes g) is f.1
        | inr stays ↦ absurd (never_both (bytes ++ more) r f.0 text (stays.stays more))
      ]
    ]
