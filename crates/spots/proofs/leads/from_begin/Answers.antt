-- The first steps of a thread.
use Rattle.spots.proofs.Along.{begin_steps, begun}
use Rattle.spots.proofs.leads.from_begin.Goals as goal

pub returns : goal.returns
returns c = begun _ _ _ _ c.new-steps.ensures c.in_ok-land.ensures (λ lead. begin_steps c.args.program.now c.args.thread c.entry.result lead c.entry.ensures)
