-- Committing sequences as values: sets are increasing lists of names.
use Rattle.std.specs.Prelude.{◌≡◌, ◌<◌, ◌-◌, ℕ, List, [], ◌∷◌, ◌++◌, All, Option, Some, None, slice_get, slice_set, unwrap_or, length, IfSome, IsSomeAnd, ◌⊎◌}
use Rattle.std.specs.Ordering.{nat_cmp}
use Rattle.std.specs.declared.cmp.Ordering.TheVariants.{Less}
use Rattle.std.specs.Cmp.Lexicographic.{slice_cmp}
use Rattle.action_orders.specs.declared.action.ActionRef.{ActionRef}
use Rattle.action_orders.specs.declared.action.ActionRef.TheVariants.{Default, Id}
use Rattle.action_orders.specs.declared.sequence.SequenceStep.{SequenceStep}
use Rattle.action_orders.specs.Execution.{Exec, empty}
use Rattle.action_orders.specs.Spelling.{IsSpeltRef}

-- the order of the bytes of two names, a name before its extensions
abbrev pub IsNameBelow : List ℕ → List ℕ → Type 0
IsNameBelow a b = slice_cmp nat_cmp a b ≡ Less

-- default writes first, by the names of their classes and then their own, and then identifiers
abbrev pub IsBelow : ActionRef → ActionRef → Type 0
IsBelow (Default class name) (Default class' name') = IsNameBelow class class' ⊎ ((class ≡ class') × IsNameBelow name name')
IsBelow (Default class name) (Id id) = Unit {0}
IsBelow (Id id) (Default class name) = ⊥
IsBelow (Id id) (Id id') = id < id'

-- the members increase strictly
abbrev pub Ascends : List ActionRef → Type 0
Ascends [] = Unit {0}
Ascends (a ∷ []) = Unit {0}
Ascends (a ∷ b ∷ members) = IsBelow a b × Ascends (b ∷ members)

abbrev pub last_member : List ActionRef → Option ActionRef
last_member [] = None
last_member (a ∷ []) = Some a
last_member (a ∷ b ∷ members) = last_member (b ∷ members)

-- a set: its members increase, and can be written
pub record IsMemberSet (set : List ActionRef) : Type 0 where
  pub increasing : Ascends set
  pub spelt : All IsSpeltRef set

-- what the type of sequences keeps
pub record IsSequence (s : List SequenceStep) : Type 0 where
  pub sets : All (λ step. IsMemberSet step.set) s

abbrev pub last_step : List SequenceStep → Option SequenceStep
last_step s = slice_get s (length s - 1)

abbrev pub with_step : List SequenceStep → Exec → List SequenceStep
with_step s e = s ++ record { set = []; execution = e } ∷ []

-- the last set has one more member
abbrev pub with_member : List SequenceStep → ActionRef → List SequenceStep
with_member s a =
    let step = unwrap_or (last_step s) (record { set = []; execution = empty }) in
    slice_set s (length s - 1) (record step { set = step.set ++ a ∷ [] })

-- the member may be added to this set: it is above the last one, and can be written
pub record IsAbove (set : List ActionRef) (a : ActionRef) : Type 0 where
  pub above : IfSome (last_member set) (λ b. IsBelow b a)
  pub spelt : IsSpeltRef a

-- there is a step, and the member may be added to its set
abbrev pub IsNextMember : List SequenceStep → ActionRef → Type 0
IsNextMember s a = IsSomeAnd (last_step s) (λ step. IsAbove step.set a)
