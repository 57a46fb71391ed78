use Rattle.std.proofs.Common.{◌≡◌, ◌≤◌, ◌-◌, length, take, IfSome}
use Rattle.ports.specs.Growth.{SameContents}
use Rattle.class_files.proofs.whole_file.read_whole.Given as goal

-- the bytes are the first of the content, no content has changed, and the count has not fallen
abbrev pub invariant-loop-bytes : goal.invariant-loop-bytes
invariant-loop-bytes g l = record {
  within : length l.bytes.items ≤ l.limit;
  bytes : IfSome (g.F.Files.content l.fn.files l.name) (λ content. l.bytes.items ≡ take (length l.bytes.items) content);
  contents : SameContents (g.F.Files.content l.fn.files) (g.F.Files.content l.files);
  kept : g.F.Files.read_faults l.fn.files ≤ g.F.Files.read_faults l.files;
  writes : g.F.Files.write_faults l.files ≡ g.F.Files.write_faults l.fn.files;
}

abbrev pub decreases-loop-bytes : goal.decreases-loop-bytes
decreases-loop-bytes g l = l.limit - length l.bytes.items
