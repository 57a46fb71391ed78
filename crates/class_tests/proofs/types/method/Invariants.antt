use Rattle.std.proofs.Common.{◌<◌, All}
use Rattle.class_tests.proofs.types.method.Given as goal

abbrev pub invariant-loop-instr : goal.invariant-loop-instr
invariant-loop-instr l = All (λ x. x.pc < l.pc) l.listing
