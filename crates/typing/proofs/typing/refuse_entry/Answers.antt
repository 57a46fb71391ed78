use Rattle.std.proofs.Common.{arith}
use Rattle.typing.specs.Paths.{PastEntry}
use Rattle.typing.proofs.Begin.{entry_refused}
use Rattle.typing.proofs.typing.refuse_entry.Goals as goal

pub returns-in-Ok-clause-err : goal.returns-in-Ok-clause-err
returns-in-Ok-clause-err c =
    let past : PastEntry c.args.method.now = omega (arith, c.filled.ensures) in
    entry_refused c.args.method.now c.args.states.now c.requires.by_pc c.requires.start c.requires.begun past c.in-Ok.fault _ c.in-Ok.ensures c.entry_kind.ensures
