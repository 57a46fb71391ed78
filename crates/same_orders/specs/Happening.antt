-- Happens-before over committed actions, by places.
use Rattle.std.specs.Prelude.{◌≡◌, ◌<◌, ◌≤◌, ◌↔◌, ℕ, List, Some, Contains, length, slice_get}
use Rattle.program.specs.Program.{Prog}
use Rattle.action_orders.specs.declared.action.Action.{Action}
use Rattle.action_orders.specs.Execution.{Exec}
use Rattle.action_orders.specs.Actions.{Default, Of, Var, IsAction, variables}
use Rattle.action_orders.specs.HappensBefore.{HappensBefore}
use Rattle.orders.specs.declared.answers.Orders.{Orders}
use Rattle.orders.specs.Tables.{action_of}
use Rattle.step_members.specs.declared.stage.Stage.{Stage}
use Rattle.step_members.specs.declared.table.Member.{Member}
use Rattle.step_members.specs.Members.{IsMember, id_of}

-- each default write happens before each action of a thread
abbrev pub AreDefaultsFirst : Prog → Exec → Type 0
AreDefaultsFirst p e = (v : Var) (a : Action) → Contains (variables p) v → IsAction p e (Of a) → HappensBefore p e (Default v) (Of a)

-- the action at place i happens before that at place j
abbrev pub Happens : Orders → ℕ → ℕ → Type 0
Happens o i j = HappensBefore o.flat.program.now o.flat.execution.now (Of (action_of o.flat i)) (Of (action_of o.flat j))

abbrev pub thread_at : Orders → ℕ → ℕ
thread_at o i = (action_of o.flat i).thread

-- ---- One thread

-- committed actions of one thread in the order of the step's execution
pub record AreInRow (s : Stage) (ms : List Member) : Type 0 where
  pub each : (k : ℕ) (m : Member) → slice_get ms k ≡ Some m → IsMember s m
  pub alike : (k l : ℕ) (m o : Member) → slice_get ms k ≡ Some m → slice_get ms l ≡ Some o → thread_at s.own.now m.own ≡ thread_at s.own.now o.own
  pub rising : (k l : ℕ) (m o : Member) → k < l → slice_get ms k ≡ Some m → slice_get ms l ≡ Some o → m.own < o.own

-- all committed actions of the thread
pub record AreOfThread (s : Stage) (t : ℕ) (ms : List Member) : Type 0 where
  pub row : AreInRow s ms
  pub own : (k : ℕ) (m : Member) → slice_get ms k ≡ Some m → thread_at s.own.now m.own ≡ t
  pub all : (m : Member) → IsMember s m → thread_at s.own.now m.own ≡ t → Contains ms m

-- the action at place i of the step's execution happens before the members from number k on, and before no others
pub record IsFirstAfter (s : Stage) (ms : List Member) (i k : ℕ) : Type 0 where
  pub within : k ≤ length ms
  pub before : (j : ℕ) (m : Member) → j < k → slice_get ms j ≡ Some m → Happens s.own.now i m.own → ⊥
  pub after : (j : ℕ) (m : Member) → k ≤ j → slice_get ms j ≡ Some m → Happens s.own.now i m.own

-- the action at place i of the committed execution happens before all members from number k on
abbrev pub HappensBeforeLater : Stage → List Member → ℕ → ℕ → Type 0
HappensBeforeLater s ms i k = (j : ℕ) (m : Member) → k ≤ j → slice_get ms j ≡ Some m → Happens s.whole.now i m.whole

-- and before none before it
abbrev pub HappensBeforeNoEarlier : Stage → List Member → ℕ → ℕ → Type 0
HappensBeforeNoEarlier s ms i k = (j : ℕ) (m : Member) → j < k → slice_get ms j ≡ Some m → Happens s.whole.now i m.whole → ⊥

-- ---- Both executions

-- the two happen before one another in both executions or in none
abbrev pub HappenAlike : Stage → Member → Member → Type 0
HappenAlike s a b = Happens s.own.now a.own b.own ↔ Happens s.whole.now a.whole b.whole

-- so it is with all these members
abbrev pub HappensAlikeIn : Stage → List Member → Member → Type 0
HappensAlikeIn s ms a = (j : ℕ) (m : Member) → slice_get ms j ≡ Some m → HappenAlike s a m

-- so it is with the committed actions of thread t, for the action with this identifier
abbrev pub HappensAlikeOn : Stage → ℕ → ℕ → Type 0
HappensAlikeOn s t id = (a b : Member) → IsMember s a → IsMember s b → id_of s a ≡ id → thread_at s.own.now b.own ≡ t → HappenAlike s a b

-- and with those of the threads below t
abbrev pub HappensAlikeBelow : Stage → ℕ → ℕ → Type 0
HappensAlikeBelow s t id = (a b : Member) → IsMember s a → IsMember s b → id_of s a ≡ id → thread_at s.own.now b.own < t → HappenAlike s a b
