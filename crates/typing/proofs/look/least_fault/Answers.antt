use Rattle.std.proofs.Common.{◌≡◌, ℕ, length, subst, arith}
use Rattle.std.proofs.lemmas.List.Elements.{Contains-get_or}
use Rattle.typing.specs.Levels.{IsLeastFound}
use Rattle.typing.proofs.Looks.{one_looked}
use Rattle.typing.proofs.look.least_fault.Goals as goal

pub fault_at-requires-clause-inside : goal.fault_at-requires-clause-inside
fault_at-requires-clause-inside c = c.requires.inside _ (Contains-get_or c.args.changed.now c.loop-place.place-index 0 (omega arith))

pub loop-place-preserved : goal.loop-place-preserved
loop-place-preserved c = one_looked c.args.method.now c.args.states.now c.args.changed.now c.loop-place.place-index c.loop-place.best c.in_ok-fault.fault c.sooner-best.result
    (c.requires.inside _ (Contains-get_or c.args.changed.now c.loop-place.place-index 0 (omega arith))) c.in_ok-fault.ensures c.sooner-best.ensures c.loop-place.invariant

pub returns : goal.returns
returns c =
    let P : ℕ → Type 0 = λ n. IsLeastFound c.args.method.now c.args.states.now c.args.changed.now n c.loop-place.best in
    let e : c.loop-place.place-index ≡ length c.args.changed.now = omega arith in
    subst P e c.loop-place.invariant
