-- The object is pushed.
use Rattle.straight_check.proofs.Changes.{changes_out}
use Rattle.straight_check.proofs.type_stack.TypeStack.read_out.Goals as goal

pub returns-in_ok-push-in-Getstatic : goal.returns-in_ok-push-in-Getstatic
returns-in_ok-push-in-Getstatic c =
    changes_out c.args.instr.now _ c.args.self.now c.push.new.self c.in-Getstatic.is c.in_ok-push-in-Getstatic.ensures
