-- One more clock.
use Rattle.std.proofs.Common.{◌≡◌, ◌++◌, [], ◌∷◌, arith}
use Rattle.std.proofs.lemmas.Grind.{common_steps}
use Rattle.clocks.specs.Events.{IsClockOf}
use Rattle.clocks.proofs.Covering.{each_pushed}
use Rattle.clocks.proofs.Tight.{tight_pushed}
use Rattle.clocks.proofs.pass.run.Goals as goal

pub loop-at-preserved : goal.loop-at-preserved
loop-at-preserved c =
    let items : c.push.new.self.items ≡ c.loop-at.clocks.items ++ c.clock_of-clock.result ∷ [] = grind (arith, common_steps) in
    record {
      size = grind (arith, common_steps);
      knows = c.tell.ensures.knows;
      each = grind (arith, common_steps);
      exact = rw items (each_pushed (IsClockOf c.args.events.now) c.loop-at.clocks.items c.clock_of-clock.result c.loop-at.at c.loop-at.invariant.each c.loop-at.invariant.exact c.clock_of-clock.ensures.exact);
      known = c.tell.ensures.tight;
      tight = rw items (tight_pushed c.args.events.now c.loop-at.clocks.items c.clock_of-clock.result c.loop-at.invariant.tight c.clock_of-clock.ensures.tight);
    }
