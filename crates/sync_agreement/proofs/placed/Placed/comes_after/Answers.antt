-- The last place of what is awaited, or there is no place.
use Rattle.std.proofs.Common.{◌∙◌, ◌↔◌, ℕ, List, Option, None, IsTrue, IsSome, IfSome, slice_get, slice_index_or, Contains, ap, sym, subst}
use Rattle.orders.specs.Flat.{IsSyncAt}
use Rattle.sync_agreement.specs.Latest.{IsBehind}
use Rattle.sync_agreement.proofs.Formed.{sync_place}
use Rattle.sync_agreement.proofs.Raising.{comes, not_there}
use Rattle.sync_agreement.proofs.placed.Placed.comes_after.Goals as goal

no_some : (let none : Option ℕ = None in IsSome none) → ⊥
no_some e = cc

pub returns-in-Some : goal.returns-in-Some
returns-in-Some c = λ until are.
    let e = c.args.self.now.execution.now in
    let b = c.action-action.result.now in
    let is : IsSyncAt e c.in-Some.place c.args.at b = record { listed = ap (λ (x : List ℕ). slice_get x c.in-Some.place) (sym c.requires.made.listed) ∙ c.in-Some.ensures.found; at = c.action-action.ensures.at } in
    comes e c.args.gate until c.args.at c.in-Some.place b c.args.latest.now c.is_behind.result c.action-action.ensures.few is
    (λ r k a is_a same. sync_place c.args.self.now.program.now e r c.in-Some.place k c.args.at a b c.requires.made.form is_a is same)
    (subst (λ (o : Option ℕ). IsTrue c.is_behind.result ↔ IfSome o (λ t. IsBehind (slice_index_or c.args.latest.now t None) c.in-Some.place)) c.awaited.ensures c.is_behind.ensures) are

pub returns-in-None : goal.returns-in-None
returns-in-None c = λ until are. not_there c.args.self.now.execution.now c.args.gate until c.args.at c.action-action.result.now c.action-action.ensures.at
    (λ there. no_some (c.in-None.ensures.there.1 (subst (λ (x : List ℕ). Contains x c.action-action.result.now.id) (sym c.requires.made.listed) there)))
