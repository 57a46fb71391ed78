-- Each instruction has its operand.
use Rattle.std.proofs.Common.{length, ap, sym, ◌∙◌}
use Rattle.linking.proofs.OperandLists.{as_many}
use Rattle.linking.proofs.methods.add_method.Goals as goal

pub add_method-requires-clause-operands : goal.add_method-requires-clause-operands
add_method-requires-clause-operands c =
    ap length c.requires.typed.operands
    ∙ as_many c.args.untyped.now.listing c.args.untyped.now.symbols c.args.method.typed c.requires.can_be_typed.named c.requires.typed.typing.whole
    ∙ sym (ap length c.requires.typed.listing)
