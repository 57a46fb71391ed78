-- The synchronization order over committed actions, by places.
use Rattle.std.specs.Prelude.{◌≡◌, ◌<◌, ◌↔◌, ℕ, List, Some, Contains, slice_get, slice_index}
use Rattle.step_members.specs.declared.stage.Stage.{Stage}
use Rattle.step_members.specs.declared.table.Member.{Member}
use Rattle.step_members.specs.Members.{AreInOrder}

-- the places of a committed action in both synchronization orders
pub record IsSyncMember (s : Stage) (m : Member) : Type 0 where
  pub id : ℕ
  pub in_whole : slice_get s.whole.now.flat.execution.now.so m.whole ≡ Some id
  pub in_own : slice_get s.own.now.flat.execution.now.so m.own ≡ Some id
  pub listed : Contains s.ids.keys id

-- the member with number k stands before the same members in both orders
abbrev pub StandsAlike : List Member → ℕ → Type 0
StandsAlike ms k = (j : ℕ) (a m : Member) → slice_get ms k ≡ Some a → slice_get ms j ≡ Some m → (a.own < m.own) ↔ (a.whole < m.whole)

-- the places in the step's execution rise
abbrev pub AreRising : List Member → Type 0
AreRising ms = (k l : ℕ) (m o : Member) → k < l → slice_get ms k ≡ Some m → slice_get ms l ≡ Some o → m.own < o.own

-- the members behind number k stand after it in the committed execution, and none before it does
abbrev pub AreAllLater : List Member → ℕ → Type 0
AreAllLater ms k = (j : ℕ) (a m : Member) → k < j → slice_get ms k ≡ Some a → slice_get ms j ≡ Some m → a.whole < m.whole

abbrev pub AreNoneLater : List Member → ℕ → Type 0
AreNoneLater ms k = (j : ℕ) (a m : Member) → j < k → slice_get ms k ≡ Some a → slice_get ms j ≡ Some m → a.whole < m.whole → ⊥

-- the committed actions before place n of the step's synchronization order, in its order
abbrev pub AreSyncMembers : Stage → ℕ → List Member → Type 0
AreSyncMembers s n ms = AreInOrder (IsSyncMember s) n ms

-- what stands at the member's place of the step's synchronization order
abbrev pub sync_id : Stage → Member → ℕ
sync_id s m = slice_index s.own.now.flat.execution.now.so m.own
