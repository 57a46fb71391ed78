-- A step leads to the next place; where there is none, the code is not straight.
use Rattle.std.proofs.Common.{◌≡◌, ◌+◌, ◌<◌, ℕ, pos, Bool, length, get_or, subst, sym, ap₂, ◌∙◌, arith}
use Rattle.opcodes.specs.Instructions.{length_of}
use Rattle.opcodes.specs.declared.instruction.Instr.TheVariants.{Nop}
use Rattle.opcodes.specs.declared.listed.Listed.{Listed}
use Rattle.program.specs.declared.method.Operand.{Operand}
use Rattle.program.specs.declared.method.Operand.TheVariants.{Constant}
use Rattle.straight_check.specs.Telling.{TellsStep}
use Rattle.straight_check.proofs.Typed.{Same, goes_on_at, misfits_at, never}
use Rattle.straight_check.proofs.code.is_straight_code.Goals as goal

pub returns-then-not-branch : goal.returns-then-not-branch
returns-then-not-branch c =
    let item : Listed = get_or c.args.listing.now c.loop-place.place (record { pc = 0; instr = Nop }) in
    let names : Operand = get_or c.args.operands.now c.loop-place.place (Constant (pos 0)) in
    let unfit = subst (λ (b : Bool). TellsStep c.args.limits.variables c.args.limits.max_stack c.loop-place.pc item names c.loop-place.stack c.step.new.self b) c.if-not-branch.true c.in_ok-step.ensures in
    let within : c.loop-place.place + 1 < length c.args.listing.now = omega (arith, c.if-place-listing.false, c.loop-place-test.true) in
    never (misfits_at c.args.limits.variables c.args.limits.max_stack c.args.listing.now c.args.operands.now c.requires c.loop-place.place c.loop-place.pc c.loop-place.stack
    (record { pc = 0; instr = Nop }) (Constant (pos 0)) within unfit c.loop-place.invariant)

pub loop-place-preserved : goal.loop-place-preserved
loop-place-preserved c =
    let item : Listed = get_or c.args.listing.now c.loop-place.place (record { pc = 0; instr = Nop }) in
    let names : Operand = get_or c.args.operands.now c.loop-place.place (Constant (pos 0)) in
    let told = subst (λ (b : Bool). TellsStep c.args.limits.variables c.args.limits.max_stack c.loop-place.pc item names c.loop-place.stack c.step.new.self b) c.if-not-branch.false c.in_ok-step.ensures in
    let within : c.loop-place.place + 1 < length c.args.listing.now = omega (arith, c.if-place-listing.false, c.loop-place-test.true) in
    let place : c.loop-place.pc + length_of item.instr ≡ c.from.result + c.from-in-loop-place.result =
    ap₂ (λ (a b : ℕ). a + b) (sym told.step.place ∙ sym c.from.ensures) (sym c.length.ensures ∙ sym c.from-in-loop-place.ensures) in
    subst (λ (pc : ℕ). Same c.args.limits.variables c.args.limits.max_stack c.args.listing.now c.args.operands.now pc c.step.new.self (c.loop-place.place + 1)) place
    (goes_on_at c.args.limits.variables c.args.limits.max_stack c.args.listing.now c.args.operands.now c.requires c.loop-place.place c.loop-place.pc c.loop-place.stack c.step.new.self
    (record { pc = 0; instr = Nop }) (Constant (pos 0)) within told c.loop-place.invariant)
