-- What is noted beside committed actions in both executions.
use Rattle.std.specs.Prelude.{◌≡◌, ◌↔◌, ℕ, ℤ, Some, None, Contains, ⊤}
use Rattle.action_orders.specs.declared.action.Action.{Action}
use Rattle.action_orders.specs.declared.action.Note.{Note}
use Rattle.action_orders.specs.declared.action.Note.TheVariants as note
use Rattle.action_orders.specs.Actions.{Act, Of, Var, IsAction, IsRead, Sees, Stores}
use Rattle.orders.specs.Tables.{action_of}
use Rattle.step_members.specs.declared.stage.Earlier.{Earlier}
use Rattle.step_members.specs.declared.stage.Stage.{Stage}
use Rattle.step_members.specs.declared.table.Member.{Member}
use Rattle.step_members.specs.Stages.{program_of, committed_of}
use Rattle.step_members.specs.Members.{id_of}

-- the committed action, and the same in the step's execution
abbrev pub whole_act : Stage → Member → Act
whole_act s m = Of (action_of s.whole.now.flat m.whole)

abbrev pub own_act : Stage → Member → Act
own_act s m = Of (action_of s.own.now.flat m.own)

-- ---- Values

-- two values that are stored are one
abbrev pub are_stored_alike : Note → Note → Type 0
are_stored_alike (note.Stores value) (note.Stores other) = value ≡ other
are_stored_alike _ _ = ⊤

-- the committed action stores the same values in both executions
abbrev pub StoresAlike : Stage → Member → Type 0
StoresAlike s m = (value : ℤ) → Stores s.own.now.flat.execution.now (own_act s m) value ↔ Stores (committed_of s) (whole_act s m) value

-- ---- Writes that are seen

-- both executions have an action with the identifier, one and the same
pub record IsOneAction (s : Stage) (id : ℕ) : Type 0 where
  pub action : Action
  pub named : action.id ≡ id
  pub in_whole : IsAction (program_of s) (committed_of s) (Of action)
  pub in_own : IsAction (program_of s) s.own.now.flat.execution.now (Of action)

-- two writes that are seen are one
abbrev pub AreSeenAlike : Stage → Note → Note → Type 0
AreSeenAlike s (note.Sees None) (note.Sees None) = ⊤
AreSeenAlike s (note.Sees (Some id)) (note.Sees (Some other)) = (id ≡ other) × IsOneAction s id
AreSeenAlike s (note.Sees _) (note.Sees _) = ⊥
AreSeenAlike s _ _ = ⊤

-- the committed action, if it is a read, sees the same writes in both executions
abbrev pub SeesAlike : Stage → Member → Type 0
SeesAlike s m = (v : Var) (w : Act) → IsRead v (whole_act s m) → Sees s.own.now.flat.execution.now v (own_act s m) w ↔ Sees (committed_of s) v (whole_act s m) w

-- if it was committed before
abbrev pub SeesAlikeBefore : Stage → Earlier → Member → Type 0
SeesAlikeBefore s b m = Contains b.ids.keys (id_of s m) → SeesAlike s m
