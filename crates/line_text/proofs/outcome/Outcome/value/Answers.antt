use Rattle.std.proofs.Common.{arith, rules, w32, FitsSigned, length, ◌+◌, ◌-◌, ◌≡◌}
use Rattle.std.proofs.lemmas.Int.{to_z-of_z}
use Rattle.line_text.proofs.OutcomeLaws.{takes-some, with_value-set}
use Rattle.line_text.proofs.outcome.Outcome.value.Goals as goal

pub returns-clause-ok : goal.returns-clause-ok
returns-clause-ok c =
    let some = takes-some c.self.inside.parts.items (rw (← c.self.view_is) at c.requires) in
    let place : c.len-last.result - 1 + 1 ≡ length c.self.inside.parts.items = grind (arith, some, c.len-last.ensures) in
    let fits : FitsSigned w32 c.args.value = search rules in
    rw (← c.self.view_is, c.in_ok-push.ensures.ok, to_z-of_z w32 c.args.value fits)
    (with_value-set c.self.inside.parts.items c.index_mut-part.result.now c.args.value (c.len-last.result - 1) place c.index_mut-part.ensures.value)
