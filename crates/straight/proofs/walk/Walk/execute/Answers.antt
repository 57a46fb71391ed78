use Rattle.std.proofs.Common.{ℕ, OnOk, Ok, Err, Result}
use Rattle.program.specs.Program.{Prog}
use Rattle.straight.specs.Walk.{Walked}
use Rattle.straight.specs.declared.doing.Doing.{Doing}
use Rattle.straight.specs.declared.walk.Walk.{Walk}
use Rattle.straight.proofs.walk.Walk.execute.Goals as goal

for_this : {A E : Type 0} (r : Result A E) (p : Prog) (id : ℕ) (doing : Doing) (old new : Walk) → OnOk r ((q : Prog) → Walked q id doing old new) → OnOk r (Walked p id doing old new)
for_this (Ok a) p id doing old new h = h p
for_this (Err e) p id doing old new h = h

pub returns-in-Print : goal.returns-in-Print
returns-in-Print c = rw c.in-Print.is (for_this c.print.result c.args.program.now c.args.id _ c.args.self.now c.print.new.self c.print.ensures)
