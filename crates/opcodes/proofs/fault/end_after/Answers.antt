use Rattle.std.proofs.Common.{ℕ, ◌+◌, subst, sym}
use Rattle.opcodes.specs.Scan.{IsEndBefore}
use Rattle.opcodes.specs.Survey.{Tells}
use Rattle.opcodes.proofs.Scans.{end_more}
use Rattle.opcodes.proofs.fault.end_after.Goals as goal

pub returns-in-Holds : goal.returns-in-Holds
returns-in-Holds c =
    let known = subst (Tells c.args.code.now c.args.pc) c.in-Holds.is c.requires.tells in
    let P : ℕ → Type 0 = λ n. IsEndBefore c.args.code.now (c.args.pc + 1) (c.args.pc + n) in
    subst P (sym c.length.ensures) (end_more c.args.code.now c.args.pc c.args.end c.in-Holds.instr c.requires.before known.0 known.1 c.requires.faultless)
