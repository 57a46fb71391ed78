-- Through no thread is there a path.
use Rattle.std.proofs.Common.{[], arith}
use Rattle.clocks.proofs.Known.{none_between}
use Rattle.clocks.proofs.table.Clocks.lies_between.Goals as goal

pub returns : goal.returns
returns c = (
  λ never. cc,
  λ lies. absurd (none_between c.args.self.now c.args.from c.args.to (record { known = [] }) c.requires.made c.requires.second
      (λ t few. c.loop-t.invariant t (omega arith)) lies),
)
