-- A call of println takes an int and the object.
use Rattle.straight_check.proofs.type_stack.TypeStack.change.Goals as goal

pub returns-in-Print : goal.returns-in-Print
returns-in-Print c = rw c.in-Print.is (c.print.ensures c.args.instr.now)
