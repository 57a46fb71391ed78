-- A read pushes an int, a write takes one.
use Rattle.straight_check.proofs.Changes.{changes_read, tells_write}
use Rattle.straight_check.proofs.type_stack.TypeStack.access.Goals as goal

pub returns-in_ok-push-in-Getstatic : goal.returns-in_ok-push-in-Getstatic
returns-in_ok-push-in-Getstatic c =
    changes_read c.args.instr.now _ c.args.variable c.args.self.now c.push.new.self c.in-Getstatic.is c.in_ok-push-in-Getstatic.ensures

pub returns-in-Putstatic : goal.returns-in-Putstatic
returns-in-Putstatic c =
    tells_write c.take.result c.args.instr.now _ c.args.variable c.args.self.now c.take.new.self c.in-Putstatic.is c.take.ensures
