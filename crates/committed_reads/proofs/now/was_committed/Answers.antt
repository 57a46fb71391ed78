-- By the identifier.
use Rattle.std.proofs.Common.{refl}
use Rattle.committed_reads.proofs.Nows.{has_not, has_place, has_nothing}
use Rattle.committed_reads.proofs.now.was_committed.Goals as goal

pub returns-then-not-has : goal.returns-then-not-has
returns-then-not-has c x either named = has_not c.args.stage.now c.args.earlier.now c.args.id x c.requires.earlier named c.if-not-has.ensures.1

pub returns-in-Some : goal.returns-in-Some
returns-in-Some c x either named = has_place c.args.stage.now c.args.earlier.now c.args.id _ x c.requires.stage c.requires.earlier c.requires.present (c.if-not-has.ensures.0 refl) c.in-Some.ensures.found either named

pub returns-in-None : goal.returns-in-None
returns-in-None c x either named = has_nothing c.args.stage.now c.args.earlier.now c.args.id x c.in-None.ensures.none named
