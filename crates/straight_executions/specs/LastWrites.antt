-- The last write to a variable before a place of a thread's list.
use Rattle.std.specs.Prelude.{◌≡◌, ◌<◌, ◌≤◌, ◌+◌, ℕ, List, Some, slice_get}
use Rattle.action_orders.specs.declared.action.Entry.{Entry}
use Rattle.action_orders.specs.Actions.{Act, Default, Of, Var, IsWrite}

-- no entry from this place on, and before that one, writes to the variable
abbrev pub NoWriteIn : List Entry → Var → ℕ → ℕ → Type 0
NoWriteIn entries v from to = (j : ℕ) (n : Entry) → from ≤ j → j < to → slice_get entries j ≡ Some n → IsWrite v (Of n.action) → ⊥

-- the last write to the variable before a place, the default write where none stands there
pub data IsLastWrite (entries : List Entry) (place : ℕ) (v : Var) (w : Act) : Type 0 where
  default : w ≡ Default v → NoWriteIn entries v 0 place → IsLastWrite entries place v w
  written : (at : ℕ) (n : Entry) → at < place → slice_get entries at ≡ Some n → IsWrite v (Of n.action) → w ≡ Of n.action → NoWriteIn entries v (at + 1) place → IsLastWrite entries place v w
