-- What the test of a program asks of main alone.
use Rattle.std.specs.Prelude.{◌≡◌, [], ◌∷◌, false, List, All, length}
use Rattle.program.specs.Program.{Prog}
use Rattle.program.specs.Straight.{IsStraightFrom, AreApart}
use Rattle.program.specs.declared.method.Method.{Method}
use Rattle.program.specs.declared.program.Variable.{Variable}
use Rattle.straight_check.specs.StraightProgram.{IsSmall}

-- the method is the one of the program, and its one thread runs it
pub record IsAlone (p : Prog) (main : Method) : Type 0 where
  pub thread : p.threads ≡ main.id ∷ []
  pub method : p.methods ≡ main ∷ []

-- the code of main is straight among these variables and passes no limit
pub record IsStraightMain (variables : List Variable) (main : Method) : Type 0 where
  pub code : IsStraightFrom (length variables) main.frame.max_stack 0 [] main.listing main.operands
  pub small : IsSmall main

-- no variable is volatile, and no two have one name
pub record ArePlain (variables : List Variable) : Type 0 where
  pub plain : All (λ v. v.volatile ≡ false) variables
  pub apart : AreApart variables
