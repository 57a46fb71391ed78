-- Laws of executions and committing sequences.
use Rattle.std.specs.Prelude.{◌≡◌, ℕ, List, [], ◌∷◌, Contains, Some, slice_get}
use Rattle.relations.specs.Places.{StandsBefore}
use Rattle.program.specs.Program.{Prog}
use Rattle.program.specs.declared.kind.Kind.{Kind}
use Rattle.program.specs.declared.kind.Kind.TheVariants.{Read, Write, First, Last, Print}
use Rattle.action_orders.specs.declared.action.Action.{Action}
use Rattle.action_orders.specs.declared.action.ActionRef.{ActionRef}
use Rattle.action_orders.specs.declared.sequence.SequenceStep.{SequenceStep}
use Rattle.action_orders.specs.declared.execution.ThreadPart.{ThreadPart}
use Rattle.action_orders.specs.Execution.{Exec}
use Rattle.action_orders.specs.Actions.{Act, Default, Of, Var, IsAction, IsRead, Sees, name_of, thread_actions}
use Rattle.action_orders.specs.HappensBefore.{HappensBefore}
use Rattle.action_orders.specs.Causality.{Commits, NamesAll}

-- ---- One thread

-- a list of actions in which no identifier occurs twice
abbrev pub AreDistinct : List Action → Type 0
AreDistinct acts = (i j : ℕ) (a b : Action) → slice_get acts i ≡ Some a → slice_get acts j ≡ Some b → a.id ≡ b.id → i ≡ j

-- a kind that no other thread is needed for
abbrev pub IsPlain : Kind → Type 0
IsPlain Read = Unit {0}
IsPlain Write = Unit {0}
IsPlain First = Unit {0}
IsPlain Last = Unit {0}
IsPlain Print = Unit {0}
IsPlain _ = ⊥

-- one thread acts alone: its actions are plain, and none occurs twice
pub record ActsAlone (e : Exec) (t : ThreadPart) : Type 0 where
  pub threads : e.threads ≡ t ∷ []
  pub distinct : AreDistinct (thread_actions t)
  pub plain : (a : Action) → Contains (thread_actions t) a → IsPlain a.kind

-- a default write stands before each action of the thread, and an action before those that stand after it in its list
pub data IsEarlier (p : Prog) (t : ThreadPart) (x y : Act) : Type 0 where
  default : (v : Var) (b : Action) → x ≡ Default v → y ≡ Of b → Contains (thread_actions t) b → IsEarlier p t x y
  stands : (a b : Action) → x ≡ Of a → y ≡ Of b → StandsBefore (thread_actions t) a b → IsEarlier p t x y

-- where one thread acts alone, happens-before is within its program order, and the default writes before it
abbrev pub AloneInOrder : Type 0
AloneInOrder = (p : Prog) (e : Exec) (t : ThreadPart) (x y : Act) → ActsAlone e t → HappensBefore p e x y → IsEarlier p t x y

-- ---- A sequence of two steps

-- an action that reads nothing
abbrev pub ReadsNothing : Act → Type 0
ReadsNothing a = (v : Var) → IsRead v a → ⊥

-- the set names exactly the actions that read nothing
pub record NamesUnread (p : Prog) (e : Exec) (set : List ActionRef) : Type 0 where
  pub each : (a : Act) → IsAction p e a → ReadsNothing a → Contains set (name_of a)
  pub only : (r : ActionRef) → Contains set r → (a : Act) × IsAction p e a × ReadsNothing a × (name_of a ≡ r)

-- each read sees an action of the execution that reads nothing and happens before it
abbrev pub SeesEarlier : Prog → Exec → Type 0
SeesEarlier p e = (v : Var) (r w : Act) → IsRead v r → Sees e v r w → HappensBefore p e w r × IsAction p e w × ReadsNothing w

-- no two actions of the execution have one name
abbrev pub HasNames : Prog → Exec → Type 0
HasNames p e = (a b : Act) → IsAction p e a → IsAction p e b → name_of a ≡ name_of b → a ≡ b

-- the execution itself, with all but the reads, and then with all
abbrev pub in_two_steps : Exec → List ActionRef → List ActionRef → List SequenceStep
in_two_steps e unread all = record { set = unread; execution = e } ∷ record { set = all; execution = e } ∷ []

abbrev pub in_one_step : Exec → List ActionRef → List SequenceStep
in_one_step e all = record { set = all; execution = e } ∷ []

-- an execution whose reads see writes that happen before them commits itself in two steps
pub record CommitsItself (p : Prog) (e : Exec) (unread all : List ActionRef) : Type 0 where
  pub names : HasNames p e
  pub is_all : NamesAll p e all
  pub is_unread : NamesUnread p e unread
  pub earlier : SeesEarlier p e

abbrev pub CommitsInTwoSteps : Type 0
CommitsInTwoSteps = (p : Prog) (e : Exec) (unread all : List ActionRef) (v : Var) (r other : Act) → CommitsItself p e unread all →
    IsAction p e r → IsRead v r → IsAction p e other → ReadsNothing other → Commits p e (in_two_steps e unread all)

-- and in one where it has no read
abbrev pub CommitsInOneStep : Type 0
CommitsInOneStep = (p : Prog) (e : Exec) (all : List ActionRef) (other : Act) → NamesAll p e all → IsAction p e other →
    ((a : Act) → IsAction p e a → ReadsNothing a) → Commits p e (in_one_step e all)
