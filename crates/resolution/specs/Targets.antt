-- Target classes, and the form in which main makes a thread around a target (docs/PROFILE.md, "Targets").
use Rattle.std.specs.Prelude.{◌&&◌, ◌+◌, ◌-◌, ◌*◌, ℕ, Bool, true, false, not, List, [], ◌∷◌, Option, Some, None, codes, count_by, nat_eq, nat_le, position, slice_get, if◌then◌else◌}
use Rattle.std.specs.List.{list_any, find}
use Rattle.std.specs.Option.{option_map}
use Rattle.class_format.specs.ClassText.{is_code}
use Rattle.class_format.specs.Pool.{entry_at}
use Rattle.class_format.specs.declared.record.ClassRecord.{ClassRecord}
use Rattle.class_format.specs.declared.record.CodeBody.{CodeBody}
use Rattle.class_format.specs.declared.record.Member.{Member}
use Rattle.class_format.specs.declared.record.PoolEntry.{PoolEntry}
use Rattle.class_format.specs.declared.record.PoolEntry.TheVariants as entry
use Rattle.class_names.specs.Members.{static_flag, synchronized_flag, abstract_flag, object_name, thread_name, parent_name, member_name, member_descriptor, body_of}
use Rattle.class_names.specs.Names.{has_flag, same_text, text_of, class_name_of, name_of, Reference, method_at, is_reference}
use Rattle.opcodes.specs.declared.instruction.Instr.{Instr}
use Rattle.opcodes.specs.declared.instruction.Instr.TheVariants.{Dup, Invokespecial, New}
use Rattle.opcodes.specs.declared.listed.Listed.{Listed}

-- ---- Classes

-- run()V, neither static nor synchronized, with code
abbrev pub is_run : List PoolEntry → Member → Bool
is_run pool m =
    same_text (member_name pool m) (codes "run") && same_text (member_descriptor pool m) (codes "()V") &&
    not (has_flag m.flags static_flag) && not (has_flag m.flags synchronized_flag) && list_any is_code m.attributes

-- java/lang/Object.<init>()V
abbrev pub is_object_constructor : Option Reference → Bool
is_object_constructor (Some r) = is_reference object_name (codes "<init>") (codes "()V") r
is_object_constructor None = false

-- aload_0, invokespecial java/lang/Object.<init>()V, return (JVMS 6), and nothing else
abbrev pub is_plain_code : List PoolEntry → List ℕ → Bool
is_plain_code pool (first ∷ second ∷ high ∷ low ∷ last ∷ []) =
    nat_eq first 0x2a && nat_eq second 0xb7 && nat_eq last 0xb1 && is_object_constructor (method_at pool (high * 256 + low))
is_plain_code pool _ = false

abbrev pub has_plain_code : List PoolEntry → Option CodeBody → Bool
has_plain_code pool (Some body) = is_plain_code pool body.code
has_plain_code pool None = false

abbrev pub is_constructor : List PoolEntry → Member → Bool
is_constructor pool m = same_text (member_name pool m) (codes "<init>")

-- <init>()V with that code
abbrev pub is_plain_constructor : List PoolEntry → Member → Bool
is_plain_constructor pool m = is_constructor pool m && same_text (member_descriptor pool m) (codes "()V") && has_plain_code pool (body_of m)

abbrev pub is_runnable_name : List PoolEntry → ℕ → Bool
is_runnable_name pool index = same_text (class_name_of pool index) (codes "java/lang/Runnable")

-- a class that extends java/lang/Object, names java/lang/Runnable among its interfaces, isn't abstract, and has one constructor,
-- which is plain, and a run()V
abbrev pub is_target : ClassRecord → Bool
is_target class =
    same_text (parent_name class) object_name && list_any (is_runnable_name class.pool) class.interfaces && not (has_flag class.flags abstract_flag) &&
    nat_eq (count_by (is_constructor class.pool) class.methods) 1 && list_any (is_plain_constructor class.pool) class.methods && list_any (is_run class.pool) class.methods

abbrev pub is_target_class : Option ClassRecord → Bool
is_target_class (Some class) = is_target class
is_target_class None = false

-- the place of the first class with this name, if it is a target class
abbrev pub target_at : List ClassRecord → Option ℕ → Option ℕ
target_at classes (Some place) = if is_target_class (slice_get classes place) then Some place else None
target_at classes None = None

abbrev pub target_place : List ClassRecord → List ℕ → Option ℕ
target_place classes name = target_at classes (position (λ class. same_text name (name_of class)) classes)

-- ---- The form

-- the listed instruction at a place of the code
abbrev pub instr_at : List Listed → ℕ → Option Instr
instr_at listing pc = option_map (λ l. l.instr) (find (λ l. nat_eq l.pc pc) listing)

abbrev pub class_in : List PoolEntry → Option PoolEntry → Option (List ℕ)
class_in pool (Some (entry.Class name)) = Some (text_of pool name)
class_in pool _ = None

-- the name of the class of which a new makes an object
abbrev pub made_name : List PoolEntry → Option Instr → Option (List ℕ)
made_name pool (Some (New index)) = class_in pool (entry_at pool index)
made_name pool _ = None

-- the method that an invokespecial names
abbrev pub special_name : List PoolEntry → Option Instr → Option Reference
special_name pool (Some (Invokespecial index)) = method_at pool index
special_name pool _ = None

abbrev pub is_dup : Option Instr → Bool
is_dup (Some Dup) = true
is_dup _ = false

abbrev pub is_thread_name : Option (List ℕ) → Bool
is_thread_name (Some name) = same_text name thread_name
is_thread_name None = false

-- whether a call is that of the method of this class, name and descriptor
abbrev pub is_call : List ℕ → List ℕ → List ℕ → Option Reference → Bool
is_call class name descriptor (Some r) = is_reference class name descriptor r
is_call class name descriptor None = false

-- the target class of this name, where the call is that of its constructor
abbrev pub target_named : List ClassRecord → List ℕ → Option Reference → Option ℕ
target_named classes name r = if is_call name (codes "<init>") (codes "()V") r then target_place classes name else None

abbrev pub target_made : List ClassRecord → Option (List ℕ) → Option Reference → Option ℕ
target_made classes (Some name) r = target_named classes name r
target_made classes None r = None

-- the place of the target class R, where the listed instructions from this place on are new java/lang/Thread, dup, new R, dup, the
-- call of R.<init>()V and the call of java/lang/Thread.<init>(Ljava/lang/Runnable;)V
abbrev pub form_at : List ClassRecord → List PoolEntry → List Listed → ℕ → Option ℕ
form_at classes pool listing p =
    if is_thread_name (made_name pool (instr_at listing p)) && is_dup (instr_at listing (p + 3)) && is_dup (instr_at listing (p + 7)) && is_call thread_name (codes "<init>") (codes "(Ljava/lang/Runnable;)V") (special_name pool (instr_at listing (p + 11)))
    then target_made classes (made_name pool (instr_at listing (p + 4))) (special_name pool (instr_at listing (p + 8))) else None

-- the same so far before a place
abbrev pub form_before : List ClassRecord → List PoolEntry → List Listed → ℕ → ℕ → Option ℕ
form_before classes pool listing back pc = if nat_le back pc then form_at classes pool listing (pc - back) else None
