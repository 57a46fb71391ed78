-- What is asked of the classes of threads (docs/PROFILE.md, "Classes of the profile").
use Rattle.std.specs.Prelude.{◌≡◌, ◌+◌, ◌*◌, ◌⊎◌, ℕ, Bool, true, false, List, [], ◌∷◌, All, Any, Option, Some, None, codes, count_by}
use Rattle.class_format.specs.declared.record.Attribute.{Attribute, out-Attribute}
use Rattle.class_format.specs.declared.record.Attribute.TheOpen.{Attribute-F, Code, Other}
use Rattle.class_format.specs.declared.record.ClassRecord.{ClassRecord}
use Rattle.class_format.specs.declared.record.CodeBody.{CodeBody}
use Rattle.class_format.specs.declared.record.Member.{Member}
use Rattle.class_format.specs.declared.record.PoolEntry.{PoolEntry}
use Rattle.class_names.specs.Names.{has_flag, same_text, Reference, method_at, is_reference}
use Rattle.class_names.specs.Members.{static_flag, synchronized_flag, interface_flag, abstract_flag, thread_name, object_name, parent_name, member_name, IsSpelled, IsThreadClass, HasCode}

-- ---- Constructors

abbrev pub init_name : List ℕ
init_name = codes "<init>"

-- whether a method is a constructor (JVMS 3.9)
abbrev pub is_constructor : List PoolEntry → Member → Bool
is_constructor pool m = same_text (member_name pool m) init_name

-- whether it is java/lang/Thread.<init>()V
abbrev pub is_thread_constructor : Option Reference → Bool
is_thread_constructor None = false
is_thread_constructor (Some reference) = is_reference thread_name init_name (codes "()V") reference

-- aload_0, invokespecial java/lang/Thread.<init>()V, return (JVMS 6), and nothing else
pub record IsThreadInit (pool : List PoolEntry) (code : List ℕ) : Type 0 where
  pub high : ℕ
  pub low : ℕ
  pub bytes : code ≡ 0x2a ∷ 0xb7 ∷ high ∷ low ∷ 0xb1 ∷ []
  pub calls : is_thread_constructor (method_at pool (high * 256 + low)) ≡ true

abbrev pub IsThreadInitOpen : List PoolEntry → Attribute-F Attribute CodeBody → Type 0
IsThreadInitOpen pool (Code body) = IsThreadInit pool body.code
IsThreadInitOpen pool (Other name bytes) = ⊥

-- a Code attribute with that code
abbrev pub IsThreadInitCode : List PoolEntry → Attribute → Type 0
IsThreadInitCode pool a = IsThreadInitOpen pool (out-Attribute a)

-- <init>()V with that code
pub record IsPlainConstructor (pool : List PoolEntry) (m : Member) : Type 0 where
  pub spelled : IsSpelled pool init_name (codes "()V") m
  pub code : Any (IsThreadInitCode pool) m.attributes

-- one constructor, and it is plain
pub record HasOneConstructor (class : ClassRecord) : Type 0 where
  pub one : count_by (is_constructor class.pool) class.methods ≡ 1
  pub plain : Any (IsPlainConstructor class.pool) class.methods

-- a thread class has one constructor, which is plain
abbrev pub HasPlainConstructor : ClassRecord → Type 0
HasPlainConstructor class = IsThreadClass class → HasOneConstructor class

-- ---- Threads

-- run()V, neither static nor synchronized, with code
pub record IsRun (pool : List PoolEntry) (m : Member) : Type 0 where
  pub spelled : IsSpelled pool (codes "run") (codes "()V") m
  pub of_objects : has_flag m.flags static_flag ≡ false
  pub unsynchronized : has_flag m.flags synchronized_flag ≡ false
  pub code : HasCode m

-- what a thread class has besides its constructor: run()V, and the start()V of its superclass
pub record IsRunnable (class : ClassRecord) : Type 0 where
  pub not_abstract : has_flag class.flags abstract_flag ≡ false
  pub no_start : All (λ m. IsSpelled class.pool (codes "start") (codes "()V") m → ⊥) class.methods
  pub run : Any (IsRun class.pool) class.methods

-- a class that is no thread class extends java/lang/Object, and none is an interface
pub record HasPlainKind (class : ClassRecord) : Type 0 where
  pub parent : (parent_name class ≡ object_name) ⊎ IsThreadClass class
  pub no_interface : has_flag class.flags interface_flag ≡ false
  pub thread : IsThreadClass class → IsRunnable class
