use Rattle.std.proofs.Common.{get_or}
use Rattle.std.proofs.lemmas.List.{get_or_default}
use Rattle.opcodes.specs.declared.instruction.Instr.TheVariants.{Nop}
use Rattle.opcodes.specs.declared.listed.Listed.{Listed}
use Rattle.reached_methods.proofs.LoopFaults.{first_looped, none_looped_more}
use Rattle.reached_methods.proofs.loops.first_in_loop.Goals as goal

pub returns-then-is_looped : goal.returns-then-is_looped
returns-then-is_looped c =
    let none : Listed = record { pc = 0; instr = Nop } in
    let item = get_or c.args.listing.now c.loop-item.item-index none in
    first_looped c.args.listing.now c.loop-item.item-index item c.requires c.loop-item-test.true
    (get_or_default c.args.listing.now c.loop-item.item-index none item c.loop-item-test.true) c.loop-item.invariant (c.is_looped.ensures.0 c.if-is_looped.true)

pub loop-item-preserved : goal.loop-item-preserved
loop-item-preserved c =
    let none : Listed = record { pc = 0; instr = Nop } in
    let item = get_or c.args.listing.now c.loop-item.item-index none in
    none_looped_more c.args.listing.now c.loop-item.item-index item c.loop-item-test.true
    (get_or_default c.args.listing.now c.loop-item.item-index none item c.loop-item-test.true) c.loop-item.invariant
    (λ looped. let yes = c.is_looped.ensures.1 looped in let no = c.if-is_looped.false in cc)
