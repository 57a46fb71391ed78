-- Each variable adds its default write at its place, and all variables are gone over.
use Rattle.std.proofs.Common.{length, sym, ap, subst, arith, refl, List}
use Rattle.std.proofs.lemmas.Option.{slice_get_read}
use Rattle.program.specs.Straight.{AreApart}
use Rattle.program.specs.declared.program.Variable.{Variable}
use Rattle.action_orders.specs.declared.action.ActionRef.{ActionRef}
use Rattle.straight_sequence.specs.Defaults.{Inserts}
use Rattle.straight_sequence.proofs.DefaultOrder.{AreFirst, first_more, first_all}
use Rattle.straight_sequence.proofs.defaults.default_writes.Goals as goal

pub loop-variable-preserved : goal.loop-variable-preserved
loop-variable-preserved c =
    first_more c.variables-variable-items.result.now c.loop-variable.variable-index c.variable-item.result c.loop-variable.members.items c.insert.new.members.items
    (subst AreApart (sym c.variables-variable-items.ensures.value) c.requires)
    (slice_get_read c.variables-variable-items.result.now (length c.variables-variable-items.result.now) c.loop-variable.variable-index c.variable-item.result refl c.loop-variable-test.true c.variable-item.is)
    c.loop-variable.invariant
    (subst (λ (m : ActionRef). Inserts m c.loop-variable.members.items c.insert.new.members.items) c.in_ok-member.ensures c.in_ok-insert.ensures)

pub returns : goal.returns
returns c =
    first_all c.args.program.now c.loop-variable.variable-index c.loop-variable.members.items c.variables-variable-items.ensures.spelt (omega (arith, ap length c.variables-variable-items.ensures.value, c.loop-variable-test.false))
    (subst (λ (vs : List Variable). AreFirst vs c.loop-variable.variable-index c.loop-variable.members.items) c.variables-variable-items.ensures.value c.loop-variable.invariant)
