use Rattle.std.proofs.Common.{subst, ◌∙◌, sym, true≢false}
use Rattle.opcodes.specs.Survey.{Tells}
use Rattle.opcodes.proofs.Scans.{misread_fault, no_fault}
use Rattle.opcodes.proofs.fault.fault_at.Goals as goal

pub returns-in-Unreadable-clause-some : goal.returns-in-Unreadable-clause-some
returns-in-Unreadable-clause-some c =
    let known = subst (Tells c.args.code.now c.args.pc) c.in-Unreadable.is c.requires.tells in
    (misread_fault c.args.code.now c.args.pc c.in-Unreadable.why known.0 known.1, known.1)

pub returns-else-misses_target-clause-none : goal.returns-else-misses_target-clause-none
returns-else-misses_target-clause-none c =
    let known = subst (Tells c.args.code.now c.args.pc) c.in-Holds.is c.requires.tells in
    no_fault c.args.code.now c.args.pc c.in-Holds.instr known.1
    (λ m. true≢false (sym (c.misses_target.ensures.1 m) ∙ c.if-misses_target.false))
