-- An int is pushed.
use Rattle.std.proofs.Common.{arith}
use Rattle.std.proofs.lemmas.Int.{ints}
use Rattle.straight_check.proofs.Changes.{changes_constant}
use Rattle.straight_check.proofs.type_stack.TypeStack.constant.Goals as goal

pub returns : goal.returns
returns c = λ instr.
    changes_constant instr c.args.value c.args.self.now c.push.new.self (omega (arith, ints), omega (arith, ints)) c.in_ok-push.ensures
