-- The classes so far.
use Rattle.std.proofs.Common.{◌≡◌, length}
use Rattle.class_files.specs.SoFar.{AreClassesOf}
use Rattle.class_files.proofs.class_reader.classes_of.Given as goal

abbrev pub invariant-loop-file : goal.invariant-loop-file
invariant-loop-file l = record {
  many : length l.classes ≡ l.file-index;
  texts : AreClassesOf l.files l.classes;
}
