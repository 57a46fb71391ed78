-- From no first taker is there a walk.
use Rattle.std.proofs.Common.{[], arith}
use Rattle.clocks.proofs.Known.{none_taken}
use Rattle.clocks.proofs.table.Clocks.taken_before.Goals as goal

pub returns : goal.returns
returns c = (
  λ never. cc,
  λ taken. absurd (none_taken c.args.self.now c.args.channel c.args.to (record { known = [] }) c.requires.made c.requires.channel
      (λ t few within walk. c.loop-t.invariant t (omega arith) (record { within = within; walk = walk })) taken),
)
