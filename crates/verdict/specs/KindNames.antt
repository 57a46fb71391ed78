-- The names of kinds of refusals, as they are put to the output.
use Rattle.std.specs.Prelude.{ℕ, List, [], ◌∷◌, codes}
use Rattle.class_profile.specs.declared.refusal.ClassKind.{ClassKind}
use Rattle.class_profile.specs.declared.refusal.ClassKind.TheVariants.{DuplicateClass, NoMain, ClassInit, InstanceField, FieldType, Constructor, ThreadClass, NameForm}
use Rattle.reached_methods.specs.declared.refusal.CodeKind.{CodeKind}
use Rattle.reached_methods.specs.declared.refusal.CodeKind.TheVariants.{Opcode, CutInstruction, JumpTarget, UnknownName, ForbiddenCall, FinalAccess, Recursion, ThreadInLoop}
use Rattle.typing.specs.declared.refusal.TypeKind.{TypeKind}
use Rattle.typing.specs.declared.refusal.TypeKind.TheVariants.{TypeMisfit, StackDepth, LockOperand, Unstructured, ThreadState}
use Rattle.untyped_program.specs.declared.refusal.LimitKind.{LimitKind}
use Rattle.untyped_program.specs.declared.refusal.LimitKind.TheVariants.{Threads, Variables, FrameSlots}

-- the names of faults of class files, which have the numbers from 1 on (docs/PROFILE.md, "Refusals of class files")
abbrev pub fault_names : List (List ℕ)
fault_names = codes "Truncated" ∷ codes "Magic" ∷ codes "Version" ∷ codes "PoolTag" ∷ codes "PoolIndex" ∷ codes "AttributeLength" ∷ codes "CodeLength" ∷ codes "Trailing" ∷ []

-- the name of a fault of classes
abbrev pub name_of_class_kind : ClassKind → List ℕ
name_of_class_kind DuplicateClass = codes "DuplicateClass"
name_of_class_kind NoMain = codes "NoMain"
name_of_class_kind ClassInit = codes "ClassInit"
name_of_class_kind InstanceField = codes "InstanceField"
name_of_class_kind FieldType = codes "FieldType"
name_of_class_kind Constructor = codes "Constructor"
name_of_class_kind ThreadClass = codes "ThreadClass"
name_of_class_kind NameForm = codes "NameForm"

-- the name of a fault of an instruction
abbrev pub name_of_code_kind : CodeKind → List ℕ
name_of_code_kind Opcode = codes "Opcode"
name_of_code_kind CutInstruction = codes "CutInstruction"
name_of_code_kind JumpTarget = codes "JumpTarget"
name_of_code_kind UnknownName = codes "UnknownName"
name_of_code_kind ForbiddenCall = codes "ForbiddenCall"
name_of_code_kind FinalAccess = codes "FinalAccess"
name_of_code_kind Recursion = codes "Recursion"
name_of_code_kind ThreadInLoop = codes "ThreadInLoop"

-- the name of a fault of types
abbrev pub name_of_type_kind : TypeKind → List ℕ
name_of_type_kind TypeMisfit = codes "TypeMisfit"
name_of_type_kind StackDepth = codes "StackDepth"
name_of_type_kind LockOperand = codes "LockOperand"
name_of_type_kind Unstructured = codes "Unstructured"
name_of_type_kind ThreadState = codes "ThreadState"

-- the name of a limit of programs
abbrev pub name_of_limit_kind : LimitKind → List ℕ
name_of_limit_kind Threads = codes "Threads"
name_of_limit_kind Variables = codes "Variables"
name_of_limit_kind FrameSlots = codes "FrameSlots"

-- the greatest number that a limit accepts
abbrev pub greatest_of : LimitKind → ℕ
greatest_of Threads = 8
greatest_of Variables = 16
greatest_of FrameSlots = 16
