-- The action of the entry.
use Rattle.std.proofs.Common.{◌∙◌, ◌<◌, ap, Some, sym, subst}
use Rattle.action_orders.specs.declared.action.Action.{Action}
use Rattle.orders.specs.Tables.{action_of}
use Rattle.orders.proofs.Tabled.{action_is_at, read_action, few_at}
use Rattle.orders.proofs.flat.Flat.action.Goals as goal

pub returns : goal.returns
returns c =
    let is = action_is_at c.args.self.now c.args.at c.requires.flat c.requires.inside in
    let same = read_action c.args.self.now c.args.at (action_of c.args.self.now c.args.at) c.index-entry.result.now c.requires.flat is c.index-entry.ensures in
    record {
      same = same;
      at = is ∙ ap Some (sym same);
      few = subst (λ (a : Action). a.thread < 8) (sym same) (few_at c.args.self.now c.args.at _ c.requires.flat is);
    }
