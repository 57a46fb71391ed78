-- Members of a set that name actions.
use Rattle.std.specs.Prelude.{◌≡◌, ◌<◌, ◌⊎◌, ◌↔◌, ◌++◌, ℕ, List, [], ◌∷◌, Option, Some, None, Contains, length, slice_get}
use Rattle.action_orders.specs.declared.action.Action.{Action}
use Rattle.action_orders.specs.declared.action.ActionRef.{ActionRef}
use Rattle.action_orders.specs.declared.action.ActionRef.TheVariants.{Id}
use Rattle.action_orders.specs.Actions.{Of, IsAction}
use Rattle.orders.specs.Tables.{action_of}
use Rattle.step_members.specs.declared.stage.Stage.{Stage}
use Rattle.step_members.specs.declared.table.Member.{Member}
use Rattle.step_members.specs.Stages.{program_of, committed_of}

-- one more identifier, if the member has one
abbrev pub Gains : List ℕ → ActionRef → List ℕ → Type 0
Gains old member new = (id : ℕ) → Contains new id ↔ (Contains old id ⊎ (member ≡ Id id))

-- an action of the committed execution with this identifier is an action of the step's execution
abbrev pub IsPresent : Stage → ℕ → Type 0
IsPresent s id = (a : Action) → a.id ≡ id → IsAction (program_of s) (committed_of s) (Of a) → IsAction (program_of s) s.own.now.flat.execution.now (Of a)

-- the places of a committed action in both executions
pub record IsMember (s : Stage) (m : Member) : Type 0 where
  pub in_whole : m.whole < length s.whole.now.flat.entries.items
  pub in_own : m.own < length s.own.now.flat.entries.items
  pub same : action_of s.whole.now.flat m.whole ≡ action_of s.own.now.flat m.own
  pub listed : Contains s.ids.keys (action_of s.own.now.flat m.own).id

-- the pairs of places of one sort whose place in the step's execution is below n, in its order
pub record AreInOrder (P : Member → Type 0) (n : ℕ) (ms : List Member) : Type 0 where
  pub each : (k : ℕ) (m : Member) → slice_get ms k ≡ Some m → P m
  pub before : (k : ℕ) (m : Member) → slice_get ms k ≡ Some m → m.own < n
  pub all : (m : Member) → P m → m.own < n → Contains ms m
  pub rising : (k l : ℕ) (m o : Member) → k < l → slice_get ms k ≡ Some m → slice_get ms l ≡ Some o → m.own < o.own

-- the committed actions before place n of the step's execution, in its order
abbrev pub AreMembers : Stage → ℕ → List Member → Type 0
AreMembers s n ms = AreInOrder (IsMember s) n ms

-- one more member, if any
abbrev pub with_member : List Member → Option Member → List Member
with_member ms None = ms
with_member ms (Some m) = ms ++ m ∷ []

-- ---- A walk along members

abbrev pub id_of : Stage → Member → ℕ
id_of s m = (action_of s.own.now.flat m.own).id

-- the member with the number has the property
abbrev pub HoldsAt : List Member → (Member → Type 0) → ℕ → Type 0
HoldsAt ms P k = (m : Member) → slice_get ms k ≡ Some m → P m
