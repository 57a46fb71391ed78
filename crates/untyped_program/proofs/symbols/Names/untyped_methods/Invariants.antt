-- The methods so far.
use Rattle.std.proofs.Common.{take}
use Rattle.untyped_program.specs.Tables.{number_in}
use Rattle.untyped_program.specs.Untyped.{AreUntyped}
use Rattle.untyped_program.proofs.symbols.Names.untyped_methods.Given as goal

abbrev pub invariant-loop-method : goal.invariant-loop-method
invariant-loop-method l = AreUntyped l.self.classes.now l.main (number_in l.self.numbers.items) l.self.monitors (take l.method-index l.methods) l.untyped
