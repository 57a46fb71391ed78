-- The names so far are those of the classes so far, and each was new.
use Rattle.std.proofs.Common.{◌≡◌, map, take}
use Rattle.class_names.specs.Names.{name_of}
use Rattle.class_profile.proofs.FirstFault.{MetBefore}
use Rattle.class_profile.specs.declared.refusal.ClassKind.TheVariants.{DuplicateClass}
use Rattle.class_profile.proofs.check.first_duplicate.Given as goal

abbrev pub invariant-loop-place : goal.invariant-loop-place
invariant-loop-place l = record {
  names : l.names ≡ map name_of (take l.place l.classes);
  met : MetBefore DuplicateClass l.classes l.place;
}
