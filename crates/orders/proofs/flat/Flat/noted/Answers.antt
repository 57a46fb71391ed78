-- The action is in the synchronization order, or it is not.
use Rattle.std.proofs.Common.{◌∙◌, ap, ℕ, Some, None, Option, IsSome, Contains, sym, subst}
use Rattle.action_orders.specs.declared.action.Action.{Action}
use Rattle.orders.specs.Tables.{action_of}
use Rattle.orders.proofs.Tabled.{action_is_at, noted_sync, noted_other}
use Rattle.orders.proofs.flat.Flat.noted.Goals as goal

no_some : (let none : Option ℕ = None in IsSome none) → ⊥
no_some e = cc

pub returns-in-Some : goal.returns-in-Some
returns-in-Some c =
    let is = action_is_at c.args.self.now c.args.at c.requires.flat c.requires.inside in
    noted_sync c.args.self.now c.args.at c.in-Some.place (action_of c.args.self.now c.args.at) c.requires.flat is (c.in-Some.ensures.found ∙ ap (λ (a : Action). Some a.id) c.action.ensures.same)

pub returns-in-None : goal.returns-in-None
returns-in-None c =
    let is = action_is_at c.args.self.now c.args.at c.requires.flat c.requires.inside in
    noted_other c.args.self.now c.args.at (action_of c.args.self.now c.args.at) c.args.last c.requires.flat is
    (λ there. no_some (c.in-None.ensures.there.1 (subst (λ (a : Action). Contains c.args.self.now.sync.keys a.id) (sym c.action.ensures.same) there))) c.requires.last
