-- The walk begins before the first instruction, does one after the other, and ends main after the last.
use Rattle.std.proofs.Common.{◌<◌, ◌≤◌, length, ap, arith, ◌+◌, ℕ, IfOk, Ok, Err, Result}
use Rattle.straight.proofs.UnderWay.{main_is, main_lengths, starts_under_way, ready_at, goes_at, ends_under_way}
use Rattle.straight.specs.Runs.{Finishes, IsRunOf}
use Rattle.program.specs.Program.{Prog}
use Rattle.straight.specs.declared.run.StraightRun.{StraightRun}
use Rattle.straight.specs.declared.walk.Walk.{Walk}
use Rattle.straight.proofs.run.run_straight.Goals as goal

pub loop-place-init : goal.loop-place-init
loop-place-init c =
    starts_under_way c.args.program.now c.requires c.method-main.result.now (length c.variables.result.now) c.in_ok-walk.walk
    (main_is c.args.program.now c.requires c.entry.result c.method-main.result.now c.method-main.ensures) (ap length c.variables.ensures.value) c.in_ok-walk.ensures

pub bounds-as_slice-place : goal.bounds-as_slice-place
bounds-as_slice-place c =
    let same = main_lengths c.args.program.now c.requires c.method-main.result.now (main_is c.args.program.now c.requires c.entry.result c.method-main.result.now c.method-main.ensures) in
    omega (arith, same, ap length c.as_slice.ensures, ap length c.as_slice-item-items.ensures.items, c.loop-place-test.true)

pub execute-requires-clause-ready : goal.execute-requires-clause-ready
execute-requires-clause-ready c =
    let same = main_lengths c.args.program.now c.requires c.method-main.result.now (main_is c.args.program.now c.requires c.entry.result c.method-main.result.now c.method-main.ensures) in
    let in_names : c.loop-place.place < length c.as_slice.result.now = omega (arith, same, ap length c.as_slice.ensures, ap length c.as_slice-item-items.ensures.items, c.loop-place-test.true) in
    ready_at c.args.program.now c.method-main.result.now c.loop-place.place c.loop-place.walk c.as_slice-item-items.result.now c.as_slice.result.now _ _ c.what_it_does.result
    c.loop-place.invariant c.as_slice-item-items.ensures.items c.as_slice.ensures c.loop-place-test.true in_names c.what_it_does.ensures

pub loop-place-preserved : goal.loop-place-preserved
loop-place-preserved c =
    let same = main_lengths c.args.program.now c.requires c.method-main.result.now (main_is c.args.program.now c.requires c.entry.result c.method-main.result.now c.method-main.ensures) in
    let in_names : c.loop-place.place < length c.as_slice.result.now = omega (arith, same, ap length c.as_slice.ensures, ap length c.as_slice-item-items.ensures.items, c.loop-place-test.true) in
    goes_at c.args.program.now c.method-main.result.now c.loop-place.place c.loop-place.walk c.execute.new.self c.as_slice-item-items.result.now c.as_slice.result.now _ _ c.what_it_does.result
    c.loop-place.invariant c.as_slice-item-items.ensures.items c.as_slice.ensures c.loop-place-test.true in_names c.what_it_does.ensures c.in_ok-execute.ensures

if_finished : {E : Type 0} (p : Prog) (last : ℕ) (w : Walk) (result : Result StraightRun E) → ((r : StraightRun) → Finishes last w r → IsRunOf p r) → IfOk result (Finishes last w) → IfOk result (IsRunOf p)
if_finished p last w (Ok r) ends h = ends r h
if_finished p last w (Err e) ends h = h

pub returns : goal.returns
returns c =
    let main = main_is c.args.program.now c.requires c.entry.result c.method-main.result.now c.method-main.ensures in
    let all : length c.method-main.result.now.listing ≤ c.loop-place.place = omega (arith, ap length c.as_slice-item-items.ensures.items, c.loop-place-test.false) in
    if_finished c.args.program.now (c.len.result + 1) c.loop-place.walk c.finish.result
    (λ r f. ends_under_way c.args.program.now c.requires c.method-main.result.now c.loop-place.place (c.len.result + 1) c.loop-place.walk r main c.loop-place.invariant all
    (ap (λ (n : ℕ). n + 1) c.len.ensures) f)
    c.finish.ensures
