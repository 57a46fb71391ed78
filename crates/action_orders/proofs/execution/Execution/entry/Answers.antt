use Rattle.std.proofs.Common.{◌≡◌, length, sym, subst, rules}
use Rattle.action_orders.specs.Execution.{Exec}
use Rattle.action_orders.specs.Spelling.{IsKept}
use Rattle.action_orders.proofs.Builders.{kept_last, written}
use Rattle.action_orders.proofs.execution.Execution.entry.Goals as goal

pub returns-clause-ok : goal.returns-clause-ok
returns-clause-ok c =
    let counted : c.len-last.result ≡ length c.self.inside.threads.items = search rules in
    let fits = rw (← c.self.view_is) at c.requires.fits in
    rw (← c.self.view_is) (written c.self.inside.threads.items c.self.inside.so.items c.len-last.result c.index_mut-part.result.now c.push.new.self c.args.entry
    counted fits c.index_mut-part.ensures.value c.in_ok-push.ensures.ok)

pub invariant_of-self-2 : goal.invariant_of-self-2
invariant_of-self-2 c =
    let e : Exec = record { threads = c.self.inside.threads.items; so = c.self.inside.so.items } in
    let counted : c.len-last.result ≡ length c.self.inside.threads.items = search rules in
    let fits = rw (← c.self.view_is) at c.requires.fits in
    subst IsKept (sym (written c.self.inside.threads.items c.self.inside.so.items c.len-last.result c.index_mut-part.result.now c.push.new.self c.args.entry
    counted fits c.index_mut-part.ensures.value c.in_ok-push.ensures.ok)) (kept_last e c.args.entry c.self.invariant fits c.requires.spelt)
