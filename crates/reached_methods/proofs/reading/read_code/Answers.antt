use Rattle.std.proofs.Common.{Option, subst, sym}
use Rattle.reached_methods.specs.FirstFault.{IsFirstOrNone}
use Rattle.reached_methods.specs.Surveys.{HasReadFault}
use Rattle.reached_methods.specs.declared.fault.Fault.{Fault}
use Rattle.reached_methods.proofs.ReadFaults.{none_read, refused_opcode, refused_cut, refused_target}
use Rattle.reached_methods.proofs.reading.read_code.Goals as goal

pub returns-in-Ok-clause-fault : goal.returns-in-Ok-clause-fault
returns-in-Ok-clause-fault c = none_read c.args.code.now c.in-Ok.ensures.faultless

pub returns-in-Err-Opcode-clause-fault : goal.returns-in-Err-Opcode-clause-fault
returns-in-Err-Opcode-clause-fault c =
    let refused = rw c.in-Err-Opcode.field-0-is at c.in-Err-Opcode.ensures.refused in
    let P : Option Fault → Type 0 = IsFirstOrNone (HasReadFault c.args.code.now) in
    subst P (sym c.with_fault.ensures.fault) (refused_opcode c.args.code.now c.in-Err-Opcode.pc c.in-Err-Opcode.number refused.0 refused.1)

pub returns-in-Err-CutInstruction-clause-fault : goal.returns-in-Err-CutInstruction-clause-fault
returns-in-Err-CutInstruction-clause-fault c =
    let refused = rw c.in-Err-CutInstruction.field-0-is at c.in-Err-CutInstruction.ensures.refused in
    let P : Option Fault → Type 0 = IsFirstOrNone (HasReadFault c.args.code.now) in
    subst P (sym c.with_fault-in-Err-CutInstruction.ensures.fault) (refused_cut c.args.code.now c.in-Err-CutInstruction.pc refused.0 refused.1)

pub returns-in-Err-JumpTarget-clause-fault : goal.returns-in-Err-JumpTarget-clause-fault
returns-in-Err-JumpTarget-clause-fault c =
    let refused = rw c.in-Err-JumpTarget.field-0-is at c.in-Err-JumpTarget.ensures.refused in
    let P : Option Fault → Type 0 = IsFirstOrNone (HasReadFault c.args.code.now) in
    subst P (sym c.with_fault-in-Err-JumpTarget.ensures.fault) (refused_target c.args.code.now c.in-Err-JumpTarget.pc refused.0 refused.1)
