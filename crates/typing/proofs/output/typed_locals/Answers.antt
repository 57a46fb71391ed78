use Rattle.std.proofs.Common.{◌≡◌, ◌<◌, ℕ, List, length, refl, sym, subst, arith, nat_eq}
use Rattle.std.specs.Prelude.{AllPairs}
use Rattle.std.specs.List.{list_any}
use Rattle.std.specs.Option.{is_some}
use Rattle.std.specs.BTreeMap.{get}
use Rattle.std.specs.Ordering.{nat_cmp}
use Rattle.program.specs.declared.value_type.TypedLocal.{TypedLocal}
use Rattle.typing.specs.Listings.{Lists, HasType}
use Rattle.typing.specs.Summaries.{summary_of}
use Rattle.typing.proofs.Listed.{none_listed, local_step, all_listed, has_local}
use Rattle.typing.proofs.output.typed_locals.Goals as goal

pub loop-slot-init : goal.loop-slot-init
loop-slot-init c = none_listed (λ (x : TypedLocal). x.slot) (HasType (summary_of c.args.state.now)) c.deref-slot-items.result.now _ c.new-listed.ensures.items

pub loop-slot-preserved : goal.loop-slot-preserved
loop-slot-preserved c =
    local_step (summary_of c.args.state.now) c.deref-slot-items.result.now c.loop-slot.slot-index
    (subst (AllPairs (λ x y. x < y)) (sym c.deref-slot-items.ensures.value) c.in_ok-slots.ensures.by_number) (let lt : c.loop-slot.slot-index < length c.deref-slot-items.result.now = omega arith in lt)
    _ _ _ refl c.in_ok-add_local.ensures c.loop-slot.invariant

pub returns : goal.returns
returns c =
    let P : List ℕ → Type 0 = λ xs. (q : ℕ) → list_any (nat_eq q) xs ≡ is_some (get nat_cmp c.args.state.now.locals q) in
    let has = subst P (sym c.deref-slot-items.ensures.value) c.in_ok-slots.ensures.has in
    let L : List TypedLocal → Type 0 = λ xs. Lists (λ (x : TypedLocal). x.slot) (HasType (summary_of c.args.state.now)) xs in
    subst L (sym c.of.ensures) (all_listed (λ (x : TypedLocal). x.slot) (HasType (summary_of c.args.state.now)) c.deref-slot-items.result.now c.loop-slot.slot-index _ (omega arith)
    (λ x h. has_local c.args.state.now.locals c.deref-slot-items.result.now has x.slot _ h) c.loop-slot.invariant)
