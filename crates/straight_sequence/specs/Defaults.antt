-- The names of default writes, in order.
use Rattle.std.specs.Prelude.{◌≡◌, ◌≤◌, ◌<◌, ℕ, List, length, slice_index_or, insert, ⊤, All}
use Rattle.program.specs.Program.{Prog}
use Rattle.program.specs.declared.program.Variable.{Variable}
use Rattle.action_orders.specs.declared.action.ActionRef.{ActionRef}
use Rattle.action_orders.specs.declared.action.ActionRef.TheVariants.{Default, Id}
use Rattle.action_orders.specs.Sequence.{Ascends, IsBelow}
use Rattle.action_orders.specs.Spelling.{IsSpeltRef}
use Rattle.straight.specs.Laws.{AreDefaults}

abbrev pub IsDefaultRef : ActionRef → Type 0
IsDefaultRef (Default class name) = ⊤
IsDefaultRef (Id id) = ⊥

-- the name of a variable's default write
abbrev pub default_of : Variable → ActionRef
default_of v = Default v.class v.name

-- a member was inserted before the first that does not stand before it
pub record Inserts (member : ActionRef) (old new : List ActionRef) : Type 0 where
  pub place : ℕ
  pub within : place ≤ length old
  pub before : (k : ℕ) (d : ActionRef) → k < place → IsBelow (slice_index_or old k d) member
  pub there : (d : ActionRef) → place < length old → IsBelow (slice_index_or old place d) member → ⊥
  pub inserted : new ≡ insert old place member

-- the names of all default writes, in increasing order
pub record AreDefaultsInOrder (p : Prog) (members : List ActionRef) : Type 0 where
  pub increasing : Ascends members
  pub defaults : AreDefaults p members
  pub spelt : All IsSpeltRef members
