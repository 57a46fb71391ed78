use Rattle.std.proofs.Common.{ℕ, ◌<◌}
use Rattle.opcodes.specs.Faults.{HasFault}
use Rattle.opcodes.specs.Scan.{IsEndBefore}
use Rattle.opcodes.proofs.fault.first_fault.Given as goal

abbrev pub invariant-loop-pc : goal.invariant-loop-pc
invariant-loop-pc l = record {
  before : IsEndBefore l.code l.pc l.end;
  faultless : (m : ℕ) → m < l.pc → HasFault l.code m → ⊥;
}
