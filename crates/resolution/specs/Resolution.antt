-- What an instruction names by the constant pool of its class, among the classes (JVMS 5.4.3; docs/PROFILE.md, "Names").
use Rattle.std.specs.Prelude.{◌&&◌, ◌||◌, ◌++◌, ℕ, pos, negsuc, Bool, true, false, not, List, Option, Some, None, codes, length, nat_eq, nat_lt, nat_le, position, slice_get, if◌then◌else◌}
use Rattle.std.specs.Int.{w32, cast_signed}
use Rattle.std.specs.List.{list_all}
use Rattle.std.specs.Option.{is_some}
use Rattle.opcodes.specs.declared.instruction.Instr.{Instr}
use Rattle.opcodes.specs.declared.instruction.Instr.TheVariants.{IconstM1, Iconst0, Iconst1, Iconst2, Iconst3, Iconst4, Iconst5, Bipush, Sipush, Ldc, LdcW, Getstatic, Putstatic, Invokevirtual, Invokespecial, Invokestatic, New}
use Rattle.class_format.specs.Pool.{entry_at}
use Rattle.class_format.specs.declared.record.ClassRecord.{ClassRecord}
use Rattle.class_format.specs.declared.record.Member.{Member}
use Rattle.class_format.specs.declared.record.PoolEntry.{PoolEntry}
use Rattle.class_format.specs.declared.record.PoolEntry.TheVariants as entry
use Rattle.class_names.specs.Members.{final_flag, thread_name, parent_name, body_of}
use Rattle.class_names.specs.Names.{has_flag, same_text, text_of, Reference, field_at, method_at, is_system_out, is_println, name_of}
use Rattle.resolution.specs.Places.{is_static_named}
use Rattle.opcodes.specs.declared.listed.Listed.{Listed}
use Rattle.resolution.specs.Targets.{form_at, form_before}
use Rattle.resolution.specs.Signatures.{signature_of}
use Rattle.resolution.specs.declared.signature.Signature.{Signature}
use Rattle.resolution.specs.declared.target.Target.{Target}
use Rattle.resolution.specs.declared.target.Target.TheVariants as target

-- what an instruction names, or why the profile refuses it, with what the refusal names besides
pub data Resolved : Type 0 where
  Names : Target → Resolved
  -- the name is known nowhere; nothing where the index names no entry of a tag that the instruction takes
  Unknown : Option (List ℕ) → Resolved
  -- the profile has no such call
  Forbidden : List ℕ → Resolved
  -- the field is final
  Final : Resolved

-- ---- Classes

-- the place of the first class with this name
abbrev pub class_place : List ClassRecord → List ℕ → Option ℕ
class_place classes name = position (λ class. same_text name (name_of class)) classes

abbrev pub extends_thread : Option ClassRecord → Bool
extends_thread (Some class) = same_text thread_name (parent_name class)
extends_thread None = false

-- the place of the thread class with this name, if it is one
abbrev pub thread_at : List ClassRecord → Option ℕ → Option ℕ
thread_at classes (Some place) = if extends_thread (slice_get classes place) then Some place else None
thread_at classes None = None

abbrev pub thread_place : List ClassRecord → List ℕ → Option ℕ
thread_place classes name = thread_at classes (class_place classes name)

-- ---- Spellings

-- a field as a refusal spells it, and a method
abbrev pub field_spelling : Reference → List ℕ
field_spelling r = r.class ++ codes "." ++ r.name

abbrev pub method_spelling : Reference → List ℕ
method_spelling r = r.class ++ codes "." ++ r.name ++ r.descriptor

-- ---- Fields

-- the field at a place of a class
abbrev pub field_resolved : ℕ → ℕ → Option Member → Reference → Resolved
field_resolved class_at field_at (Some f) r = if has_flag f.flags final_flag then Final else Names (target.Field class_at field_at)
field_resolved class_at field_at None r = Unknown (Some (field_spelling r))

abbrev pub own_field : ℕ → ClassRecord → Reference → Option ℕ → Resolved
own_field class_at class r (Some place) = field_resolved class_at place (slice_get class.fields place) r
own_field class_at class r None = Unknown (Some (field_spelling r))

-- a field of the class at a place
abbrev pub field_of_class : ℕ → Option ClassRecord → Reference → Resolved
field_of_class place (Some class) r = own_field place class r (position (is_static_named class.pool r.name r.descriptor) class.fields)
field_of_class place None r = Unknown (Some (field_spelling r))

-- a field of a class that is not listed: only System.out may be read
abbrev pub foreign_field : Bool → Reference → Resolved
foreign_field reads r = if reads && is_system_out r then Names target.Out else Unknown (Some (field_spelling r))

abbrev pub field_of : List ClassRecord → Bool → Reference → Option ℕ → Resolved
field_of classes reads r (Some place) = field_of_class place (slice_get classes place) r
field_of classes reads r None = foreign_field reads r

-- what a getstatic names, which reads, or a putstatic
abbrev pub field_named : List ClassRecord → Bool → Option Reference → Resolved
field_named classes reads (Some r) = field_of classes reads r (class_place classes r.class)
field_named classes reads None = Unknown None

-- ---- Calls of static methods

-- a method with code that takes ints and returns one or nothing
abbrev pub is_callable : Member → Option Signature → Bool
is_callable m (Some signature) = is_some (body_of m)
is_callable m None = false

abbrev pub method_resolved : List PoolEntry → ℕ → ℕ → Option Member → Reference → Resolved
method_resolved pool class_at method_at (Some m) r =
    if is_callable m (signature_of r.descriptor) then Names (target.Call (record { class = class_at; method = method_at })) else Forbidden (method_spelling r)
method_resolved pool class_at method_at None r = Unknown (Some (method_spelling r))

abbrev pub own_method : ℕ → ClassRecord → Reference → Option ℕ → Resolved
own_method class_at class r (Some place) = method_resolved class.pool class_at place (slice_get class.methods place) r
own_method class_at class r None = Unknown (Some (method_spelling r))

abbrev pub method_of_class : ℕ → Option ClassRecord → Reference → Resolved
method_of_class place (Some class) r = own_method place class r (position (is_static_named class.pool r.name r.descriptor) class.methods)
method_of_class place None r = Unknown (Some (method_spelling r))

abbrev pub method_of : List ClassRecord → Reference → Option ℕ → Resolved
method_of classes r (Some place) = method_of_class place (slice_get classes place) r
method_of classes r None = Forbidden (method_spelling r)

-- what an invokestatic names
abbrev pub static_call : List ClassRecord → Option Reference → Resolved
static_call classes (Some r) = method_of classes r (class_place classes r.class)
static_call classes None = Unknown None

-- ---- Calls on objects

-- a method of this name and this descriptor
abbrev pub is_called : List ℕ → List ℕ → Reference → Bool
is_called name descriptor r = same_text r.name name && same_text r.descriptor descriptor

-- a method of this name without parameters and result
abbrev pub is_bare : List ℕ → Reference → Bool
is_bare name r = is_called name (codes "()V") r

-- the class of the reference is a listed thread class
abbrev pub of_thread_class : List ClassRecord → Reference → Bool
of_thread_class classes r = is_some (thread_place classes r.class)

-- the class of the reference is java/lang/Thread, or a listed thread class
abbrev pub of_thread : List ClassRecord → Reference → Bool
of_thread classes r = same_text r.class thread_name || of_thread_class classes r

abbrev pub object_call : List ClassRecord → Bool → Reference → Resolved
object_call classes main r =
    if is_println r then Names target.Print
    else if main && is_bare (codes "start") r && of_thread classes r then Names target.Start
    else if main && is_bare (codes "join") r && of_thread classes r then Names target.Join
    else if main && is_called (codes "isAlive") (codes "()Z") r && of_thread classes r then Names target.Alive
    else Forbidden (method_spelling r)

-- what an invokevirtual names
abbrev pub virtual_call : List ClassRecord → Bool → Option Reference → Resolved
virtual_call classes main (Some r) = object_call classes main r
virtual_call classes main None = Unknown None

-- what a call of a constructor names in main: that of a thread class, or of a form's target or thread
abbrev pub main_constructor : List ClassRecord → List PoolEntry → List Listed → ℕ → Reference → Resolved
main_constructor classes pool listing pc r =
    if is_bare (codes "<init>") r && of_thread_class classes r then Names target.Construct
    else if is_some (form_before classes pool listing 8 pc) then Names target.ConstructTarget
    else if is_some (form_before classes pool listing 11 pc) then Names target.Wrap
    else Forbidden (method_spelling r)

abbrev pub constructor_named : List ClassRecord → Bool → List PoolEntry → List Listed → ℕ → Reference → Resolved
constructor_named classes main pool listing pc r = if main then main_constructor classes pool listing pc r else Forbidden (method_spelling r)

-- what an invokespecial names
abbrev pub special_call : List ClassRecord → Bool → List PoolEntry → List Listed → ℕ → Option Reference → Resolved
special_call classes main pool listing pc (Some r) = constructor_named classes main pool listing pc r
special_call classes main pool listing pc None = Unknown None

-- ---- New threads

-- the class whose run()V a thread runs that a new in main makes: a thread class, or the target class of a form
abbrev pub thread_run : List ClassRecord → List PoolEntry → List Listed → ℕ → List ℕ → Option ℕ
thread_run classes pool listing pc name = if same_text name thread_name then form_at classes pool listing pc else thread_place classes name

abbrev pub made_by : List ℕ → Option ℕ → Bool → Resolved
made_by name (Some place) in_form = Names (target.New place)
made_by name None in_form = if in_form then Names target.NewTarget else Forbidden name

-- what a new of the class with this name names in main
abbrev pub main_made : List ClassRecord → List PoolEntry → List Listed → ℕ → List ℕ → Resolved
main_made classes pool listing pc name = made_by name (thread_run classes pool listing pc name) (is_some (form_before classes pool listing 4 pc))

abbrev pub object_made : List ClassRecord → Bool → List PoolEntry → List Listed → ℕ → List ℕ → Resolved
object_made classes main pool listing pc name = if main then main_made classes pool listing pc name else Forbidden name

-- what a new names, by the entry
abbrev pub class_made : List ClassRecord → Bool → List PoolEntry → List Listed → ℕ → Option PoolEntry → Resolved
class_made classes main pool listing pc (Some (entry.Class name)) = object_made classes main pool listing pc (text_of pool name)
class_made classes main pool listing pc e = Unknown None

-- ---- Constants

abbrev pub is_name_byte : ℕ → Bool
is_name_byte b = nat_le 0x21 b && nat_le b 0x7e && not (nat_eq b 0x2e || nat_eq b 0x3b || nat_eq b 0x5b)

-- a name that can be written (docs/TEXTS.md, "Names")
abbrev pub is_writable : List ℕ → Bool
is_writable name = nat_lt 0 (length name) && nat_le (length name) 200 && list_all is_name_byte name

abbrev pub class_object : ℕ → List ℕ → Resolved
class_object index name = if is_writable name then Names (target.Class index) else Unknown (Some name)

-- what an ldc names, by the entry with the index
abbrev pub constant_named : List PoolEntry → ℕ → Option PoolEntry → Resolved
constant_named pool index (Some (entry.Integer n)) = Names (target.Constant (cast_signed w32 n))
constant_named pool index (Some (entry.Class name)) = class_object index (text_of pool name)
constant_named pool index e = Unknown None

-- ---- Instructions

-- what an instruction names; main alone makes, starts, joins and asks threads
abbrev pub resolve_at : List ClassRecord → Bool → List PoolEntry → List Listed → ℕ → Instr → Resolved
resolve_at classes main pool listing pc IconstM1 = Names (target.Constant (negsuc 0))
resolve_at classes main pool listing pc Iconst0 = Names (target.Constant (pos 0))
resolve_at classes main pool listing pc Iconst1 = Names (target.Constant (pos 1))
resolve_at classes main pool listing pc Iconst2 = Names (target.Constant (pos 2))
resolve_at classes main pool listing pc Iconst3 = Names (target.Constant (pos 3))
resolve_at classes main pool listing pc Iconst4 = Names (target.Constant (pos 4))
resolve_at classes main pool listing pc Iconst5 = Names (target.Constant (pos 5))
resolve_at classes main pool listing pc (Bipush value) = Names (target.Constant value)
resolve_at classes main pool listing pc (Sipush value) = Names (target.Constant value)
resolve_at classes main pool listing pc (Ldc index) = constant_named pool index (entry_at pool index)
resolve_at classes main pool listing pc (LdcW index) = constant_named pool index (entry_at pool index)
resolve_at classes main pool listing pc (Getstatic index) = field_named classes true (field_at pool index)
resolve_at classes main pool listing pc (Putstatic index) = field_named classes false (field_at pool index)
resolve_at classes main pool listing pc (Invokevirtual index) = virtual_call classes main (method_at pool index)
resolve_at classes main pool listing pc (Invokespecial index) = special_call classes main pool listing pc (method_at pool index)
resolve_at classes main pool listing pc (Invokestatic index) = static_call classes (method_at pool index)
resolve_at classes main pool listing pc (New index) = class_made classes main pool listing pc (entry_at pool index)
resolve_at classes main pool listing pc instr = Names target.Nothing

-- what a listed instruction names
abbrev pub resolve : List ClassRecord → Bool → List PoolEntry → List Listed → Listed → Resolved
resolve classes main pool listing item = resolve_at classes main pool listing item.pc item.instr
