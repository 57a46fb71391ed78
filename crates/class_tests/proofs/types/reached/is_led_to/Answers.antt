use Rattle.std.proofs.Common.{arith}
use Rattle.opcodes.specs.declared.instruction.Instr.TheVariants.{Nop}
use Rattle.typing.proofs.Led.{led_at}
use Rattle.class_tests.proofs.types.reached.is_led_to.Goals as goal

pub returns-then-comes_next : goal.returns-then-comes_next
returns-then-comes_next c = λ t.
    led_at c.args.listing.now c.loop-from.from c.args.place (record { pc = 0; instr = Nop }) (omega arith) c.requires (c.comes_next.ensures c.if-comes_next.true)
