-- The targets of main are known.
use Rattle.std.proofs.Common.{Bool, true, false, cond, List, [], ◌∷◌, Option, Some, All, find}
use Rattle.std.proofs.lemmas.List.Elements.{All-nil, All-head, All-tail}
use Rattle.class_format.specs.declared.record.ClassRecord.{ClassRecord}
use Rattle.program.specs.declared.method.MethodId.{MethodId}
use Rattle.reached_methods.specs.Reached.{is_method}
use Rattle.reached_methods.specs.declared.method.ReachedMethod.{ReachedMethod}
use Rattle.untyped_program.specs.Known.{IsKnown}
use Rattle.untyped_program.specs.Threads.{targets_in, main_targets}

module _ (classes : List ClassRecord) (main : MethodId) where
  pick : (b : Bool) (m : ReachedMethod) (o : Option ReachedMethod) → All (IsKnown classes) m.targets → All (IsKnown classes) (targets_in o) → All (IsKnown classes) (targets_in (cond b (Some m) o))
  pick true m o here there = here
  pick false m o here there = there

  pub main_known : (methods : List ReachedMethod) → All (λ m. All (IsKnown classes) m.targets) methods → All (IsKnown classes) (main_targets main methods)
  main_known [] known = All-nil (IsKnown classes)
  main_known (m ∷ methods) known =
      pick (is_method m.id main) m (find (λ x. is_method x.id main) methods) (All-head (λ x. All (IsKnown classes) x.targets) m methods known)
      (main_known methods (All-tail (λ x. All (IsKnown classes) x.targets) m methods known))
