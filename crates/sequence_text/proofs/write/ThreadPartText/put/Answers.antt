use Rattle.sequence_text.proofs.TextLaws.{puts-as, puts-failed, puts-then}
use Rattle.ports.proofs.GrowthLaws.{prefix-of_more}
use Rattle.std.specs.List.{flat_map}
use Rattle.sequence_text.specs.SequenceText.{entry_text, thread_line}
use Rattle.sequence_text.proofs.write.ThreadPartText.put.Goals as goal

pub returns-in_err-put_thread_line-clause-bytes : goal.returns-in_err-put_thread_line-clause-bytes
returns-in_err-put_thread_line-clause-bytes g c =
    puts-failed _ _ _ _ c.from_residual.ensures.0
    (prefix-of_more _ _ (thread_line c.args.self.now.thread) (flat_map entry_text c.args.self.now.entries) c.in_err-put_thread_line.ensures.bytes)

pub returns-clause-bytes : goal.returns-clause-bytes
returns-clause-bytes g c =
    puts-then _ _ _ (thread_line c.args.self.now.thread) (flat_map entry_text c.args.self.now.entries) _ c.in_ok-put_thread_line.ensures.bytes (puts-as entry_text _ _ c.as_slice.ensures _ _ _ c.put_each.ensures.bytes)
