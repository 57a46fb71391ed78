use Rattle.sequence_text.proofs.TextLaws.{first-failed, grows-as, part-as, puts-four, second-failed, third-failed}
use Rattle.std.proofs.Common.{codes}
use Rattle.std.specs.List.{flat_map}
use Rattle.sequence_text.specs.SequenceText.{body_text, step_text}
use Rattle.sequence_text.proofs.write.write_sequence.Goals as goal

pub returns-in_err-put_all-clause-bytes : goal.returns-in_err-put_all-clause-bytes
returns-in_err-put_all-clause-bytes g c =
    first-failed _ _ (codes "jmm-sequence 1\nexecution\n") (body_text c.args.execution.now) (flat_map step_text c.args.sequence.now) (codes "end\n") _ c.from_residual.ensures.0 c.in_err-put_all.ensures.bytes

pub returns-in_err-put-clause-bytes : goal.returns-in_err-put-clause-bytes
returns-in_err-put-clause-bytes g c =
    second-failed _ _ _ (codes "jmm-sequence 1\nexecution\n") (body_text c.args.execution.now) (flat_map step_text c.args.sequence.now) (codes "end\n") _ c.from_residual-in_err-put.ensures.0 c.in_ok-put_all.ensures.bytes c.in_err-put.ensures.bytes

pub returns-in_err-put_each-clause-bytes : goal.returns-in_err-put_each-clause-bytes
returns-in_err-put_each-clause-bytes g c =
    third-failed _ _ _ _ (codes "jmm-sequence 1\nexecution\n") (body_text c.args.execution.now) (flat_map step_text c.args.sequence.now) (codes "end\n") _ c.from_residual-in_err-put_each.ensures.0 c.in_ok-put_all.ensures.bytes c.in_ok-put.ensures.bytes (part-as step_text _ _ c.steps.ensures.value _ _ c.in_err-put_each.ensures.bytes)

pub returns-clause-bytes : goal.returns-clause-bytes
returns-clause-bytes g c =
    puts-four _ _ _ _ _ (codes "jmm-sequence 1\nexecution\n") (body_text c.args.execution.now) (flat_map step_text c.args.sequence.now) (codes "end\n") _ c.in_ok-put_all.ensures.bytes c.in_ok-put.ensures.bytes (grows-as step_text _ _ c.steps.ensures.value _ _ c.in_ok-put_each.ensures.bytes) c.put_all-2.ensures.bytes
