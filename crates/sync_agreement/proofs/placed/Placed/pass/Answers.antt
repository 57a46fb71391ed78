-- One more entry, with its place.
use Rattle.std.proofs.Common.{◌∙◌, ℕ, List, Option, slice_get, ap, sym, subst}
use Rattle.orders.specs.Flat.{IsSyncAt}
use Rattle.sync_agreement.specs.Latest.{IsRaised}
use Rattle.sync_agreement.proofs.Formed.{sync_place}
use Rattle.sync_agreement.proofs.Raising.{passed}
use Rattle.sync_agreement.proofs.placed.Placed.pass.Goals as goal

pub returns : goal.returns
returns c =
    let e = c.args.self.now.execution.now in
    let a = c.action-action.result.now in
    let is : IsSyncAt e c.in-Some.place c.args.at a = record { listed = ap (λ (x : List ℕ). slice_get x c.in-Some.place) (sym c.requires.made.listed) ∙ c.in-Some.ensures.found; at = c.action-action.ensures.at } in
    passed e c.args.gate c.args.at c.in-Some.place a c.args.latest.now c.raise.new.latest c.action-action.ensures.few is
    (λ s k b is_b same. sync_place c.args.self.now.program.now e s c.in-Some.place k c.args.at b a c.requires.made.form is_b is same) c.requires.latest
    (subst (λ (o : Option ℕ). IsRaised o c.in-Some.place c.args.latest.now c.raise.new.latest) c.given.ensures c.raise.ensures)
