-- The threads: main, and the run()V of each class that main makes a thread of (docs/MODEL.md, "The program of the classes").
use Rattle.std.specs.Prelude.{ℕ, List, [], ◌∷◌, Option, Some, None, find, map}
use Rattle.std.specs.List.{filter_map}
use Rattle.class_format.specs.declared.record.ClassRecord.{ClassRecord}
use Rattle.program.specs.declared.method.MethodId.{MethodId}
use Rattle.reached_methods.specs.Reached.{is_method, run_of}
use Rattle.reached_methods.specs.declared.method.ReachedMethod.{ReachedMethod}
use Rattle.resolution.specs.declared.target.Target.{Target}
use Rattle.resolution.specs.declared.target.Target.TheVariants as target

-- the class of the thread that a new makes
abbrev pub class_made : Target → Option ℕ
class_made (target.New class_at) = Some class_at
class_made t = None

abbrev pub targets_in : Option ReachedMethod → List Target
targets_in (Some m) = m.targets
targets_in None = []

-- what the instructions of main name
abbrev pub main_targets : MethodId → List ReachedMethod → List Target
main_targets main methods = targets_in (find (λ m. is_method m.id main) methods)

-- main, and the run()V of the class at each new of main, by place
abbrev pub threads_of : List ClassRecord → MethodId → List ReachedMethod → List (Option MethodId)
threads_of classes main methods = Some main ∷ map (run_of classes) (filter_map class_made (main_targets main methods))
