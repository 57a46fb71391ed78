-- What happens before an action, by places of all threads' actions.
use Rattle.std.specs.Prelude.{◌≡◌, ◌<◌, ◌≤◌, ◌↔◌, ℕ, List, Contains, length}
use Rattle.action_orders.specs.Actions.{Act, Of}
use Rattle.action_orders.specs.HappensBefore.{HappensBefore}
use Rattle.orders.specs.declared.answers.Orders.{Orders}
use Rattle.orders.specs.Tables.{action_of}

-- the thread of the action at a place
abbrev pub thread_of : Orders → ℕ → ℕ
thread_of o k = (action_of o.flat k).thread

-- the action happens before that at place j
abbrev pub IsBefore : Orders → Act → ℕ → Type 0
IsBefore o x j = HappensBefore o.flat.program.now o.flat.execution.now x (Of (action_of o.flat j))

-- the action at place i happens before that at place j
abbrev pub Precedes : Orders → ℕ → ℕ → Type 0
Precedes o i j = IsBefore o (Of (action_of o.flat i)) j

-- the actions of the thread below the bound, and no others of it, happen before that at place j; and behind one of them only
-- actions of the thread stand below the bound
pub record IsKnownUntil (o : Orders) (t j bound : ℕ) : Type 0 where
  pub known : (k : ℕ) → k < length o.flat.entries.items → thread_of o k ≡ t → (k < bound) ↔ Precedes o k j
  pub alone : (k m : ℕ) → k ≤ m → m < bound → thread_of o k ≡ t → thread_of o m ≡ t

-- the last of these places with an action of the thread that happens before that at place j
pub record IsLastBefore (o : Orders) (places : List ℕ) (t j i : ℕ) : Type 0 where
  pub there : Contains places i
  pub thread : thread_of o i ≡ t
  pub before : Precedes o i j
  pub last : (k : ℕ) → Contains places k → thread_of o k ≡ t → Precedes o k j → k ≤ i

abbrev pub NoneBefore : Orders → List ℕ → ℕ → ℕ → Type 0
NoneBefore o places t j = (k : ℕ) → Contains places k → thread_of o k ≡ t → Precedes o k j → ⊥

-- an action at one of these places lies between the one action and that at place j
abbrev pub IsPassed : Orders → List ℕ → Act → ℕ → Type 0
IsPassed o places x j = (k : ℕ) × Contains places k × IsBefore o x k × Precedes o k j

-- and it is of this thread
abbrev pub IsPassedBy : Orders → List ℕ → Act → ℕ → ℕ → Type 0
IsPassedBy o places x t j = (k : ℕ) × Contains places k × (thread_of o k ≡ t) × IsBefore o x k × Precedes o k j
