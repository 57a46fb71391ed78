-- Program order and synchronization order (JLS 17.4.3, 17.4.4).
use Rattle.std.specs.Prelude.{List, ◌++◌, Contains, map}
use Rattle.relations.specs.Places.{StandsBefore}
use Rattle.program.specs.Program.{Prog}
use Rattle.action_orders.specs.declared.action.ActionRef.{ActionRef}
use Rattle.action_orders.specs.declared.action.ActionRef.TheVariants.{Id}
use Rattle.action_orders.specs.declared.execution.ThreadPart.{ThreadPart}
use Rattle.action_orders.specs.Execution.{Exec}
use Rattle.action_orders.specs.Actions.{Act, Default, Of, IsAction, volatiles, name_of, thread_actions}

-- program order: a stands before b in one thread's list
abbrev pub ProgramOrder : Exec → Act → Act → Type 0
ProgramOrder e (Of a) (Of b) = (t : ThreadPart) × Contains e.threads t × StandsBefore (thread_actions t) a b
ProgramOrder e (Default v) b = ⊥
ProgramOrder e (Of a) (Default v) = ⊥

-- the default writes of the volatile variables, in variable order (the project's own reading), and then the execution's list
abbrev pub sync_list : Prog → Exec → List ActionRef
sync_list p e = map (λ v. name_of (Default v)) (volatiles p) ++ map (λ id. Id id) e.so

-- synchronization order
pub record SyncOrder (p : Prog) (e : Exec) (a b : Act) : Type 0 where
  pub left : IsAction p e a
  pub right : IsAction p e b
  pub before : StandsBefore (sync_list p e) (name_of a) (name_of b)
