use Rattle.std.proofs.Common.{get_or}
use Rattle.literals.proofs.Members.{IsIn-place}
use Rattle.conflict_analysis.proofs.resolvent.higher.Goals as goal

pub level_of-requires : goal.level_of-requires
level_of-requires c = c.requires.values (get_or c.args.literals.now c.args.one 0) (IsIn-place c.args.literals.now c.args.one c.requires.one)

pub level_of-requires-2 : goal.level_of-requires-2
level_of-requires-2 c = c.requires.values (get_or c.args.literals.now c.args.other 0) (IsIn-place c.args.literals.now c.args.other c.requires.other)
