-- The methods that are reached from main (docs/PROFILE.md, "Reached methods").
use Rattle.std.specs.Prelude.{◌≡◌, ◌<◌, ◌&&◌, ◌⊎◌, ℕ, Bool, List, All, AllPairs, Contains, Option, Some, None, map, nat_eq, position, slice_get, slice_index_or}
use Rattle.std.specs.Option.{option_map}
use Rattle.relations.specs.Path.{Walk}
use Rattle.class_format.specs.declared.record.ClassRecord.{ClassRecord}
use Rattle.class_format.specs.declared.record.CodeBody.{CodeBody}
use Rattle.class_format.specs.declared.record.Member.{Member}
use Rattle.class_names.specs.Members.{body_of}
use Rattle.opcodes.specs.Instructions.{Decodes}
use Rattle.opcodes.specs.Reached.{Reached, IsListingOf}
use Rattle.opcodes.specs.declared.instruction.Instr.{Instr}
use Rattle.opcodes.specs.declared.listed.Listed.{Listed}
use Rattle.program.specs.declared.method.MethodId.{MethodId}
use Rattle.resolution.specs.Resolution.{Resolved, Names, resolve}
use Rattle.resolution.specs.Targets.{is_run}
use Rattle.resolution.specs.declared.target.Target.TheVariants as target
use Rattle.reached_methods.specs.declared.method.ReachedMethod.{ReachedMethod}

-- ---- Methods by their places

-- the method at this place of the class at this place
pub record IsMethodAt (classes : List ClassRecord) (id : MethodId) (class : ClassRecord) (m : Member) : Type 0 where
  pub class_there : slice_get classes id.class ≡ Some class
  pub method_there : slice_get class.methods id.method ≡ Some m

-- and its code
pub record HasCodeAt (classes : List ClassRecord) (id : MethodId) (class : ClassRecord) (body : CodeBody) : Type 0 where
  pub method : Member
  pub there : IsMethodAt classes id class method
  pub code : body_of method ≡ Some body

-- the two are one method
abbrev pub is_method : MethodId → MethodId → Bool
is_method a b = nat_eq a.class b.class && nat_eq a.method b.method

-- a stands before b: in an earlier class, or earlier in one class
abbrev pub IsBefore : MethodId → MethodId → Type 0
IsBefore a b = (a.class < b.class) ⊎ ((a.class ≡ b.class) × (a.method < b.method))

-- ---- Instructions

-- a reached instruction of the method, and what it names among all of them
pub record IsInstructionAt (classes : List ClassRecord) (main id : MethodId) (pc : ℕ) (instr : Instr) (names : Resolved) : Type 0 where
  pub class : ClassRecord
  pub body : CodeBody
  pub code : HasCodeAt classes id class body
  pub reached : Reached body.code pc
  pub decodes : Decodes body.code pc instr
  pub listing : List Listed
  pub is_listing : IsListingOf body.code listing
  pub resolved : resolve classes (is_method id main) class.pool listing (record { pc = pc; instr = instr }) ≡ names

-- ---- What leads from one method to another

-- a static method is called
pub record Calls (classes : List ClassRecord) (main caller called : MethodId) : Type 0 where
  pub pc : ℕ
  pub instr : Instr
  pub call : IsInstructionAt classes main caller pc instr (Names (target.Call called))

-- the run()V of the class at this place
pub record IsRunOf (classes : List ClassRecord) (class_at : ℕ) (id : MethodId) : Type 0 where
  pub same_class : id.class ≡ class_at
  pub class : ClassRecord
  pub class_there : slice_get classes class_at ≡ Some class
  pub first : position (is_run class.pool) class.methods ≡ Some id.method

abbrev pub run_in : ℕ → Option ClassRecord → Option MethodId
run_in class_at (Some class) = option_map (λ method_at. record { class = class_at; method = method_at }) (position (is_run class.pool) class.methods)
run_in class_at None = None

-- the same as a function
abbrev pub run_of : List ClassRecord → ℕ → Option MethodId
run_of classes class_at = run_in class_at (slice_get classes class_at)

-- the run()V of each class, by the place of the class
abbrev pub AreRuns : List ClassRecord → List (Option MethodId) → Type 0
AreRuns classes ids = (class_at : ℕ) → slice_index_or ids class_at None ≡ run_of classes class_at

-- main makes a thread that runs the method
pub record Makes (classes : List ClassRecord) (main id : MethodId) : Type 0 where
  pub pc : ℕ
  pub instr : Instr
  pub class_at : ℕ
  pub made : IsInstructionAt classes main main pc instr (Names (target.New class_at))
  pub runs : IsRunOf classes class_at id

pub data Leads (classes : List ClassRecord) (main a b : MethodId) : Type 0 where
  calls : Calls classes main a b → Leads classes main a b
  makes : a ≡ main → Makes classes main b → Leads classes main a b

-- main, what it calls, the run()V of each thread that it makes, and what these call
abbrev pub IsReached : List ClassRecord → MethodId → MethodId → Type 0
IsReached classes main id = Walk (Leads classes main) main id

-- ---- The list of them

-- what the instructions of the list name
abbrev pub resolved_of : List ClassRecord → MethodId → MethodId → ClassRecord → List Listed → List Resolved
resolved_of classes main id class listing = map (λ item. resolve classes (is_method id main) class.pool listing item) listing

-- a reached method with its reached instructions and what they name
pub record IsReachedMethod (classes : List ClassRecord) (main : MethodId) (m : ReachedMethod) : Type 0 where
  pub reached : IsReached classes main m.id
  pub class : ClassRecord
  pub body : CodeBody
  pub code : HasCodeAt classes m.id class body
  pub listing : IsListingOf body.code m.listing
  pub targets : resolved_of classes main m.id class m.listing ≡ map Names m.targets

-- exactly the reached methods, by class and by place in the class
pub record AreReachedMethods (classes : List ClassRecord) (main : MethodId) (methods : List ReachedMethod) : Type 0 where
  pub by_place : AllPairs (λ a b. IsBefore a.id b.id) methods
  pub each : All (IsReachedMethod classes main) methods
  pub whole : (id : MethodId) → IsReached classes main id → Contains (map (λ m. m.id) methods) id
