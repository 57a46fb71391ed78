use Rattle.std.proofs.Common.{◌≡◌, ◌<◌, ℕ, List, length, sym, subst, arith, nat_eq}
use Rattle.std.specs.Prelude.{AllPairs}
use Rattle.std.specs.List.{list_any}
use Rattle.std.specs.Option.{is_some}
use Rattle.std.specs.BTreeMap.{get}
use Rattle.std.specs.Ordering.{nat_cmp}
use Rattle.program.specs.declared.value_type.HeldMonitor.{HeldMonitor}
use Rattle.typing.specs.Listings.{Lists, IsHeld}
use Rattle.typing.specs.Summaries.{summary_of}
use Rattle.typing.proofs.Listed.{none_listed, held_step, all_listed, has_count}
use Rattle.typing.proofs.output.held_monitors.Goals as goal

pub loop-monitor-init : goal.loop-monitor-init
loop-monitor-init c = none_listed (λ (x : HeldMonitor). x.monitor) (IsHeld (summary_of c.args.state.now)) c.deref-monitor-items.result.now _ c.new-listed.ensures.items

pub loop-monitor-preserved : goal.loop-monitor-preserved
loop-monitor-preserved c =
    held_step (summary_of c.args.state.now) c.deref-monitor-items.result.now c.loop-monitor.monitor-index
    (subst (AllPairs (λ x y. x < y)) (sym c.deref-monitor-items.ensures.value) c.in_ok-monitors.ensures.by_number) (let lt : c.loop-monitor.monitor-index < length c.deref-monitor-items.result.now = omega arith in lt)
    _ _ c.in_ok-add_held.ensures c.loop-monitor.invariant

pub returns : goal.returns
returns c =
    let P : List ℕ → Type 0 = λ xs. (q : ℕ) → list_any (nat_eq q) xs ≡ is_some (get nat_cmp c.args.state.now.held q) in
    let has = subst P (sym c.deref-monitor-items.ensures.value) c.in_ok-monitors.ensures.has in
    let L : List HeldMonitor → Type 0 = λ xs. Lists (λ (x : HeldMonitor). x.monitor) (IsHeld (summary_of c.args.state.now)) xs in
    subst L (sym c.of.ensures) (all_listed (λ (x : HeldMonitor). x.monitor) (IsHeld (summary_of c.args.state.now)) c.deref-monitor-items.result.now c.loop-monitor.monitor-index _ (omega arith)
    (λ x h. has_count c.args.state.now.held c.deref-monitor-items.result.now has x.monitor (let P : ℕ → Type 0 = λ n. 0 < n in subst P (sym h.1) h.0)) c.loop-monitor.invariant)
