use Rattle.std.proofs.Common.{◌≡◌, ◌<◌, ◌≤◌, List, Some, Contains, get_or, length, pos, subst, ap, arith}
use Rattle.std.specs.Prelude.{slice_get}
use Rattle.std.proofs.lemmas.List.{take_all}
use Rattle.std.proofs.lemmas.List.Elements.{Contains-get_or}
use Rattle.std.proofs.lemmas.Option.{slice_get-get_or}
use Rattle.opcodes.specs.declared.instruction.Instr.TheVariants.{Nop}
use Rattle.opcodes.specs.declared.listed.Listed.{Listed}
use Rattle.program.specs.declared.method.MethodId.{MethodId}
use Rattle.resolution.specs.declared.target.Target.{Target}
use Rattle.resolution.specs.declared.target.Target.TheVariants as named
use Rattle.reached_methods.specs.Cycles.{IsMarked}
use Rattle.reached_methods.proofs.Searches.{more_marked, no_returns, returns_first}
use Rattle.reached_methods.proofs.cycles.first_return.Goals as goal

pub returns-requires-clause-known : goal.returns-requires-clause-known
returns-requires-clause-known c = λ called is.
    let none : Target = named.Constant (pos 0) in
    let same : length c.as_slice-targets.result.now ≡ length c.args.method.now.targets = ap length c.as_slice-targets.ensures in
    let listed : length c.as_slice-item-items.result.now ≡ length c.args.method.now.listing = ap length c.as_slice-item-items.ensures.items in
    let lt : c.loop-at.at < length c.as_slice-targets.result.now = omega (arith, same, listed, c.requires.same_length, c.loop-at-test.true) in
    let P : List Target → Type 0 = λ ts. Contains ts (named.Call called) in
    c.requires.known called (subst P c.as_slice-targets.ensures (subst (Contains c.as_slice-targets.result.now) is (Contains-get_or c.as_slice-targets.result.now c.loop-at.at none lt)))

pub returns-then-branch : goal.returns-then-branch
returns-then-branch c =
    let none : Target = named.Constant (pos 0) in
    let no_item : Listed = record { pc = 0; instr = Nop } in
    let item = get_or c.as_slice-item-items.result.now c.loop-at.at no_item in
    let same : length c.as_slice-targets.result.now ≡ length c.args.method.now.targets = ap length c.as_slice-targets.ensures in
    let listed : length c.as_slice-item-items.result.now ≡ length c.args.method.now.listing = ap length c.as_slice-item-items.ensures.items in
    let lt : c.loop-at.at < length c.as_slice-targets.result.now = omega (arith, same, listed, c.requires.same_length, c.loop-at-test.true) in
    let P : List Target → Type 0 = λ ts. slice_get ts c.loop-at.at ≡ Some (get_or c.as_slice-targets.result.now c.loop-at.at none) in
    let Q : List Listed → Type 0 = λ xs. slice_get xs c.loop-at.at ≡ Some item in
    returns_first c.args.surveys.now c.args.method.now c.loop-at.search.marked.items c.loop-at.search.waiting.items c.loop-at.at item
    c.as_slice-item-items.ensures.by_pc c.requires.same_length
    (subst Q c.as_slice-item-items.ensures.items (slice_get-get_or c.as_slice-item-items.result.now c.loop-at.at no_item c.loop-at-test.true))
    c.loop-at.invariant.idle c.loop-at.invariant.marked (get_or c.as_slice-targets.result.now c.loop-at.at none)
    (subst P c.as_slice-targets.ensures (slice_get-get_or c.as_slice-targets.result.now c.loop-at.at none lt))
    (c.in_ok-returns.ensures.found c.if-branch.true)

pub loop-at-preserved : goal.loop-at-preserved
loop-at-preserved c =
    let none : Target = named.Constant (pos 0) in
    let listed : length c.as_slice-item-items.result.now ≡ length c.args.method.now.listing = ap length c.as_slice-item-items.ensures.items in
    let lt : c.loop-at.at < length c.args.method.now.targets = omega (arith, listed, c.requires.same_length, c.loop-at-test.true) in
    let P : List Target → Type 0 = λ ts. (called : MethodId) → get_or ts c.loop-at.at none ≡ named.Call called → IsMarked c.args.surveys.now c.returns.new.self.marked.items called in
    record {
      idle = c.in_ok-returns.ensures.idle c.if-branch.false;
      marked = more_marked c.args.surveys.now c.loop-at.search.marked.items c.returns.new.self.marked.items c.args.method.now.targets c.loop-at.at none lt
          (c.in_ok-returns.ensures.kept c.if-branch.false) c.loop-at.invariant.marked (subst P c.as_slice-targets.ensures (c.in_ok-returns.ensures.marked c.if-branch.false));
    }

pub returns : goal.returns
returns c =
    let listed : length c.as_slice-item-items.result.now ≡ length c.args.method.now.listing = ap length c.as_slice-item-items.ensures.items in
    let past : length c.args.method.now.targets ≤ c.loop-at.at = omega (arith, listed, c.requires.same_length, c.loop-at-test.false) in
    let P : List Target → Type 0 = λ ts. (called : MethodId) → Contains ts (named.Call called) → IsMarked c.args.surveys.now c.loop-at.search.marked.items called in
    no_returns c.args.surveys.now c.args.method.now c.loop-at.search.marked.items c.loop-at.search.waiting.items c.loop-at.invariant.idle
    (subst P (take_all c.loop-at.at c.args.method.now.targets past) c.loop-at.invariant.marked)
