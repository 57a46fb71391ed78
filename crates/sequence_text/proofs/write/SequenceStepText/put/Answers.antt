use Rattle.sequence_text.proofs.TextLaws.{first-failed, grows-as, part-as, puts-four, second-failed, third-failed}
use Rattle.std.proofs.Common.{codes}
use Rattle.std.specs.List.{flat_map}
use Rattle.sequence_text.specs.SequenceText.{body_text, member_text}
use Rattle.sequence_text.proofs.write.SequenceStepText.put.Goals as goal

pub returns-in_err-put_all-clause-bytes : goal.returns-in_err-put_all-clause-bytes
returns-in_err-put_all-clause-bytes g c =
    first-failed _ _ (codes "step\ncommit") (flat_map member_text c.args.self.now.set) (codes "\n") (body_text c.args.self.now.execution) _ c.from_residual.ensures.0 c.in_err-put_all.ensures.bytes

pub returns-in_err-put_each-clause-bytes : goal.returns-in_err-put_each-clause-bytes
returns-in_err-put_each-clause-bytes g c =
    second-failed _ _ _ (codes "step\ncommit") (flat_map member_text c.args.self.now.set) (codes "\n") (body_text c.args.self.now.execution) _ c.from_residual-in_err-put_each.ensures.0 c.in_ok-put_all.ensures.bytes (part-as member_text _ _ c.as_slice.ensures _ _ c.in_err-put_each.ensures.bytes)

pub returns-in_err-put_all-2-clause-bytes : goal.returns-in_err-put_all-2-clause-bytes
returns-in_err-put_all-2-clause-bytes g c =
    third-failed _ _ _ _ (codes "step\ncommit") (flat_map member_text c.args.self.now.set) (codes "\n") (body_text c.args.self.now.execution) _ c.from_residual-in_err-put_all-2.ensures.0 c.in_ok-put_all.ensures.bytes (grows-as member_text _ _ c.as_slice.ensures _ _ c.in_ok-put_each.ensures.bytes) c.in_err-put_all-2.ensures.bytes

pub returns-clause-bytes : goal.returns-clause-bytes
returns-clause-bytes g c =
    puts-four _ _ _ _ _ (codes "step\ncommit") (flat_map member_text c.args.self.now.set) (codes "\n") (body_text c.args.self.now.execution) _ c.in_ok-put_all.ensures.bytes (grows-as member_text _ _ c.as_slice.ensures _ _ c.in_ok-put_each.ensures.bytes) c.in_ok-put_all-2.ensures.bytes c.put.ensures.bytes
