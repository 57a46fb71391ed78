use Rattle.sequence_text.proofs.TextLaws.{grows-as, part-as, puts-four, second-failed, third-failed}
use Rattle.std.proofs.Common.{codes}
use Rattle.std.specs.List.{flat_map}
use Rattle.sequence_text.specs.SequenceText.{id_text, thread_text}
use Rattle.sequence_text.proofs.write.ExecutionText.put.Goals as goal

pub returns-in_err-put_all-clause-bytes : goal.returns-in_err-put_all-clause-bytes
returns-in_err-put_all-clause-bytes g c =
    second-failed _ _ _ (flat_map thread_text c.args.self.now.threads) (codes "so") (flat_map id_text c.args.self.now.so) (codes "\n") _ c.from_residual-in_err-put_all.ensures.0 (grows-as thread_text _ _ c.threads.ensures.value _ _ c.in_ok-put_each.ensures.bytes) c.in_err-put_all.ensures.bytes

pub returns-in_err-put_each-2-clause-bytes : goal.returns-in_err-put_each-2-clause-bytes
returns-in_err-put_each-2-clause-bytes g c =
    third-failed _ _ _ _ (flat_map thread_text c.args.self.now.threads) (codes "so") (flat_map id_text c.args.self.now.so) (codes "\n") _ c.from_residual-in_err-put_each-2.ensures.0 (grows-as thread_text _ _ c.threads.ensures.value _ _ c.in_ok-put_each.ensures.bytes) c.in_ok-put_all.ensures.bytes (part-as id_text _ _ c.so.ensures _ _ c.in_err-put_each-2.ensures.bytes)

pub returns-clause-bytes : goal.returns-clause-bytes
returns-clause-bytes g c =
    puts-four _ _ _ _ _ (flat_map thread_text c.args.self.now.threads) (codes "so") (flat_map id_text c.args.self.now.so) (codes "\n") _ (grows-as thread_text _ _ c.threads.ensures.value _ _ c.in_ok-put_each.ensures.bytes) c.in_ok-put_all.ensures.bytes (grows-as id_text _ _ c.so.ensures _ _ c.in_ok-put_each-2.ensures.bytes) c.put_all-2.ensures.bytes
