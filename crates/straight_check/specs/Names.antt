-- Variables that have one name.
use Rattle.std.specs.Prelude.{◌≡◌, ℕ, List, Some, slice_get}
use Rattle.program.specs.declared.program.Variable.{Variable}

-- the class and the field are spelled alike
pub record HaveOneName (a b : Variable) : Type 0 where
  pub class : a.class ≡ b.class
  pub name : a.name ≡ b.name

-- some variable of a list has the name of another variable
pub record IsNameTaken (others : List Variable) (v : Variable) : Type 0 where
  pub place : ℕ
  pub other : Variable
  pub stands : slice_get others place ≡ Some other
  pub same : HaveOneName other v
