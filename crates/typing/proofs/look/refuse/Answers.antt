use Rattle.std.proofs.Common.{◌<◌, ℕ, subst}
use Rattle.typing.proofs.Looks.{none_found, found_refused}
use Rattle.typing.proofs.look.refuse.Goals as goal

pub least_fault-requires-clause-long : goal.least_fault-requires-clause-long
least_fault-requires-clause-long c = c.requires.level.1.long

pub least_fault-requires-clause-inside : goal.least_fault-requires-clause-inside
least_fault-requires-clause-inside c = λ q h. let P : ℕ → Type 0 = λ n. q < n in subst P c.requires.level.1.long (c.requires.level.1.inside q h).0

pub returns-in-Ok-None-clause-ok : goal.returns-in-Ok-None-clause-ok
returns-in-Ok-None-clause-ok c = none_found c.args.method.now c.args.states.now c.args.changed.now (rw c.in-Ok-None.field-0-is at c.in-Ok-None.ensures)

pub returns-in-Ok-Some-clause-err : goal.returns-in-Ok-Some-clause-err
returns-in-Ok-Some-clause-err c = found_refused c.args.method.now c.args.states.now c.args.changed.now c.in-Ok-Some.found _ c.requires.level.0
    (rw c.in-Ok-Some.field-0-is at c.in-Ok-Some.ensures) c.pc_at.ensures c.requires.level.1
