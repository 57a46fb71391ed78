use Rattle.opcodes.specs.declared.instruction.Instr.TheVariants.{Nop}
use Rattle.opcodes.specs.declared.listed.Listed.{Listed}
use Rattle.resolution.specs.Resolution.{resolve}
use Rattle.reached_methods.specs.Surveys.{target_of}
use Rattle.reached_methods.proofs.NameFaults.{more_targets, more_faults}
use Rattle.reached_methods.proofs.naming.name_all.Goals as goal

pub loop-item-preserved : goal.loop-item-preserved
loop-item-preserved c =
    let none : Listed = record { pc = 0; instr = Nop } in
    let named = c.in_ok-named.ensures in
    record {
      targets = more_targets (λ (item : Listed). target_of (resolve c.args.index.now.classes.now c.args.main c.args.pool.now c.args.listing.now item)) c.args.listing.now c.loop-item.item-index none
          c.loop-item.names.targets c.add.new.self.targets c.in_ok-named.named.target c.loop-item-test.true c.loop-item.invariant.targets named.target_is c.in_ok-add.ensures.targets;
      fault = more_faults c.args.index.now.classes.now c.args.main c.args.pool.now c.args.listing.now c.args.listing.now c.loop-item.item-index none
          c.loop-item.names.fault c.in_ok-named.named.fault c.add.new.self.fault c.requires c.loop-item-test.true c.loop-item.invariant.fault named.fault_is c.in_ok-add.ensures.fault;
    }
