-- One more method.
use Rattle.std.proofs.Common.{sym, subst}
use Rattle.reached_methods.specs.declared.method.ReachedMethod.{ReachedMethod}
use Rattle.untyped_program.specs.Known.{AreNumbered}
use Rattle.untyped_program.specs.Monitors.{names_by}
use Rattle.untyped_program.specs.Tables.{number_in}
use Rattle.untyped_program.specs.Untyped.{AreUntyped}
use Rattle.untyped_program.proofs.Pushes.{one_more}
use Rattle.untyped_program.proofs.symbols.Names.untyped_methods.Goals as goal

pub untyped-requires-clause-monitors : goal.untyped-requires-clause-monitors
untyped-requires-clause-monitors c =
    subst (λ (m : ReachedMethod). AreNumbered c.args.self.now.monitors (names_by c.args.self.now.classes.now m)) (sym c.method-item.is)
    (c.requires.monitors c.loop-method.method-index c.method-item.result c.loop-method-test.true)

pub loop-method-preserved : goal.loop-method-preserved
loop-method-preserved c =
    subst (AreUntyped c.args.self.now.classes.now c.args.main (number_in c.args.self.now.numbers.items) c.args.self.now.monitors _) (sym c.in_ok-push.ensures.ok)
    (one_more c.args.self.now.classes.now c.args.main (number_in c.args.self.now.numbers.items) c.args.self.now.monitors c.args.methods.now c.loop-method.method-index c.loop-method.untyped
    c.method-item.result c.in_ok-one.one c.loop-method-test.true c.method-item.is c.loop-method.invariant c.in_ok-one.ensures)
