-- What was found is the one main before the place.
use Rattle.class_profile.proofs.Mains.{OnlyBefore}
use Rattle.class_profile.proofs.main_method.main_of.Given as goal

abbrev pub invariant-loop-class_place : goal.invariant-loop-class_place
invariant-loop-class_place l = OnlyBefore l.classes l.class_place 0 l.found

abbrev pub invariant-loop-method_place : goal.invariant-loop-method_place
invariant-loop-method_place l = OnlyBefore l.classes l.class_place l.method_place l.found
