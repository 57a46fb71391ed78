-- The symbols so far, and how many threads are made.
use Rattle.std.proofs.Common.{◌≡◌, ◌++◌, Some, drop, map}
use Rattle.untyped_program.specs.Methods.{symbols_from}
use Rattle.untyped_program.specs.Tables.{number_in}
use Rattle.untyped_program.proofs.symbols.Names.symbols.Given as goal

abbrev pub invariant-loop-target : goal.invariant-loop-target
invariant-loop-target l =
    map Some l.symbols ++ symbols_from l.self.classes.now (number_in l.self.numbers.items) l.self.monitors l.pool l.made (drop l.target-index l.targets)
    ≡ symbols_from l.self.classes.now (number_in l.self.numbers.items) l.self.monitors l.pool 0 l.targets
