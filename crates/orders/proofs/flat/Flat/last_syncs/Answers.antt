-- One more entry.
use Rattle.std.proofs.Common.{◌≡◌, ◌∙◌, ◌+◌, ◌++◌, [], ◌∷◌, None, slice_index_or, sym, subst, arith}
use Rattle.std.proofs.lemmas.Grind.{common_steps}
use Rattle.std.proofs.lemmas.List.{length-set}
use Rattle.action_orders.specs.declared.action.Action.{Action}
use Rattle.clocks.proofs.Covering.{each_pushed}
use Rattle.orders.specs.Flat.{IsAt}
use Rattle.orders.specs.Tables.{IsLastBefore}
use Rattle.orders.proofs.Tabled.{lasts_set, last_done}
use Rattle.orders.proofs.flat.Flat.last_syncs.Goals as goal

pub noted-noted-requires-clause-last : goal.noted-noted-requires-clause-last
noted-noted-requires-clause-last c =
    subst (λ (a : Action). IsLastBefore c.args.self.now.execution.now a.thread c.loop-at.at (slice_index_or c.loop-at.last c.action.result.now.thread None)) c.action.ensures.same
    (c.loop-at.invariant.lasts c.action.result.now.thread None c.action.ensures.few)

pub loop-at-preserved : goal.loop-at-preserved
loop-at-preserved c =
    let items : c.push.new.self.items ≡ c.loop-at.before.items ++ c.noted-noted.result ∷ [] = grind (arith, common_steps) in
    let noted = subst (λ (a : Action). IsLastBefore c.args.self.now.execution.now a.thread (c.loop-at.at + 1) c.noted-noted.result) (sym c.action.ensures.same) c.noted-noted.ensures in
    record {
      size = length-set c.loop-at.last _ c.noted-noted.result ∙ c.loop-at.invariant.size;
      lasts = lasts_set c.args.self.now c.loop-at.at c.action.result.now c.loop-at.last c.noted-noted.result c.requires.flat c.action.ensures.at c.loop-at.invariant.size c.loop-at.invariant.lasts noted;
      each = grind (arith, common_steps);
      done = rw items (each_pushed (λ j o. (a : Action) → IsAt c.args.self.now.execution.now j a → IsLastBefore c.args.self.now.execution.now a.thread (j + 1) o) c.loop-at.before.items c.noted-noted.result c.loop-at.at
          c.loop-at.invariant.each c.loop-at.invariant.done (last_done c.args.self.now c.loop-at.at c.action.result.now c.noted-noted.result c.action.ensures.at noted));
    }
