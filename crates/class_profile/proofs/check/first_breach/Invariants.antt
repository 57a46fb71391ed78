-- The classes so far meet the rule.
use Rattle.class_profile.proofs.FirstFault.{MetBefore}
use Rattle.class_profile.proofs.check.first_breach.Given as goal

abbrev pub invariant-loop-place : goal.invariant-loop-place
invariant-loop-place l = MetBefore l.kind l.classes l.place
