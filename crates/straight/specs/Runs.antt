-- What the walk leaves at its begin and at its end.
use Rattle.std.specs.Prelude.{◌≡◌, ℕ, [], ◌∷◌, replicate}
use Rattle.program.specs.Program.{Prog}
use Rattle.program.specs.declared.method.Method.{Method}
use Rattle.action_orders.specs.Execution.{with_entry, with_order}
use Rattle.straight.specs.Meaning.{unwritten, first_entry, last_entry, execution_of, printed_of, ints_of}
use Rattle.straight.specs.Walk.{alone}
use Rattle.straight.specs.declared.run.StraightRun.{StraightRun}
use Rattle.straight.specs.declared.walk.Walk.{Walk}

-- main has begun, and nothing else has happened
pub record IsStart (variables : ℕ) (w : Walk) : Type 0 where
  pub stack : w.stack ≡ []
  pub cells : w.cells.items ≡ replicate variables unwritten
  pub execution : w.execution ≡ alone (first_entry ∷ []) (0 ∷ [])
  pub printed : w.printed ≡ []
  pub ints : w.ints ≡ []

-- main has ended, with this identifier
pub record Finishes (last : ℕ) (w : Walk) (r : StraightRun) : Type 0 where
  pub execution : r.execution ≡ with_order (with_entry w.execution (last_entry last)) last
  pub printed : r.printed ≡ w.printed
  pub ints : r.ints ≡ w.ints

-- the run of the program's one method
pub record IsRunOf (p : Prog) (r : StraightRun) : Type 0 where
  pub execution : (m : Method) → p.methods ≡ m ∷ [] → r.execution ≡ execution_of p m
  pub printed : (m : Method) → p.methods ≡ m ∷ [] → r.printed ≡ printed_of p m
  pub ints : (m : Method) → p.methods ≡ m ∷ [] → r.ints ≡ ints_of p m
