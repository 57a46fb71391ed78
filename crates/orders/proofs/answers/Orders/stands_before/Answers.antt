-- The threads are one, and the places in order.
use Rattle.std.proofs.Common.{◌∙◌, false, refl, ap, sym, lt-ltb}
use Rattle.std.proofs.lemmas.Bool.{ltb-true}
use Rattle.action_orders.specs.declared.action.Action.{Action}
use Rattle.orders.proofs.Said.{stands_to, stands_from, not_true}
use Rattle.orders.proofs.answers.Orders.stands_before.Goals as goal

pub returns-then-action : goal.returns-then-action
returns-then-action c = (
  λ never. absurd (not_true false refl never),
  λ order. absurd (c.if-action.true (ap (λ (a : Action). a.thread) c.action.ensures.same ∙ (stands_from c.args.self.now c.args.i c.args.j c.requires.made c.requires.first c.requires.second order).0 ∙ sym (ap (λ (a : Action). a.thread) c.action-2.ensures.same))),
)

pub returns : goal.returns
returns c =
    let same = sym (ap (λ (a : Action). a.thread) c.action.ensures.same) ∙ c.if-action.false ∙ ap (λ (a : Action). a.thread) c.action-2.ensures.same in (
      λ before. stands_to c.args.self.now c.args.i c.args.j c.requires.made c.requires.first c.requires.second same (ltb-true c.args.i c.args.j before),
      λ order. lt-ltb c.args.i c.args.j (stands_from c.args.self.now c.args.i c.args.j c.requires.made c.requires.first c.requires.second order).1,
    )
