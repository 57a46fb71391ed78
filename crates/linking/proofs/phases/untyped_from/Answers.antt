-- The methods can be typed.
use Rattle.untyped_program.specs.Monitors.{monitors_of}
use Rattle.untyped_program.specs.Variables.{number_of}
use Rattle.linking.proofs.Typable.{all_can_be_typed}
use Rattle.linking.proofs.phases.untyped_from.Goals as goal

pub returns-in-Ok-clause-can_be_typed : goal.returns-in-Ok-clause-can_be_typed
returns-in-Ok-clause-can_be_typed c =
    all_can_be_typed c.args.classes.now c.args.main c.requires.faultless (number_of c.args.classes.now c.args.methods) (monitors_of c.args.classes.now c.args.methods)
    c.args.methods c.in-Ok.untyped.methods c.requires.texts c.requires.reached c.in-Ok.ensures.program.untyped
