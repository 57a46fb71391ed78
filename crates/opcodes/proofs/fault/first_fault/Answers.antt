use Rattle.std.proofs.Common.{arith, subst, inl, inr, ◌≡◌}
use Rattle.std.proofs.lemmas.Bool.{cases_lt}
use Rattle.opcodes.specs.Faults.{HasFault}
use Rattle.opcodes.proofs.Scans.{least_fault, fault_reached, reached_inside}
use Rattle.opcodes.proofs.fault.first_fault.Goals as goal

pub returns-in-Some-clause-some : goal.returns-in-Some-clause-some
returns-in-Some-clause-some c =
    let some = c.in-Some.ensures.some in
    (least_fault c.args.code.now c.loop-pc.pc some.0 c.loop-pc.invariant.faultless, some.1)

pub loop-pc-preserved : goal.loop-pc-preserved
loop-pc-preserved c = record {
  before = c.end_after-end.ensures;
  faultless = λ m lt h. elim (cases_lt m c.loop-pc.pc) [
    | inl earlier ↦ c.loop-pc.invariant.faultless m earlier h
    | inr there ↦ (let same : m ≡ c.loop-pc.pc = omega arith in
        c.in_default.ensures.none (subst (HasFault c.args.code.now) same h))
  ];
}

pub returns-clause-none : goal.returns-clause-none
returns-clause-none c = λ pc h.
    let inside = reached_inside c.args.code.now pc c.requires.some (fault_reached c.args.code.now pc h) in
    c.loop-pc.invariant.faultless pc (omega (arith, inside, c.requires.survey.same_length, c.loop-pc-test.false)) h
