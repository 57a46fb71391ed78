use Rattle.rule_base.proofs.Steps.{all_left}
use Rattle.rule_base.proofs.instances.Instances.new.Goals as goal

pub returns : goal.returns
returns c = rw c.new.ensures (all_left c.args.question c.args.table.rows.now c.args.table.filled)
