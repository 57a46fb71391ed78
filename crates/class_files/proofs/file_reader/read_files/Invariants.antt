-- The files so far, and no content has changed.
use Rattle.std.proofs.Common.{◌≡◌, ◌≤◌}
use Rattle.ports.specs.Growth.{SameContents}
use Rattle.class_files.specs.SoFar.{AreFiles}
use Rattle.class_files.proofs.file_reader.read_files.Given as goal

abbrev pub invariant-loop-word : goal.invariant-loop-word
invariant-loop-word g l = record {
  files : AreFiles l.words (g.F.Files.content l.fn.files) l.from l.word l.list;
  contents : SameContents (g.F.Files.content l.fn.files) (g.F.Files.content l.files);
  kept : g.F.Files.read_faults l.fn.files ≤ g.F.Files.read_faults l.files;
  writes : g.F.Files.write_faults l.files ≡ g.F.Files.write_faults l.fn.files;
}
