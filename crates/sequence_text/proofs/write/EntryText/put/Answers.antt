use Rattle.sequence_text.proofs.TextLaws.{first-failed, puts-four, second-failed, third-failed}
use Rattle.std.proofs.Common.{codes}
use Rattle.sequence_text.specs.SequenceText.{action_head, note_text, operand_text}
use Rattle.sequence_text.proofs.write.EntryText.put.Goals as goal

pub returns-in_err-put_action_head-clause-bytes : goal.returns-in_err-put_action_head-clause-bytes
returns-in_err-put_action_head-clause-bytes g c =
    first-failed _ _ (action_head c.args.self.now.action) (operand_text c.args.self.now.action.operand) (note_text c.args.self.now.note) (codes "\n") _ c.from_residual.ensures.0 c.in_err-put_action_head.ensures.bytes

pub returns-in_err-put-clause-bytes : goal.returns-in_err-put-clause-bytes
returns-in_err-put-clause-bytes g c =
    second-failed _ _ _ (action_head c.args.self.now.action) (operand_text c.args.self.now.action.operand) (note_text c.args.self.now.note) (codes "\n") _ c.from_residual-in_err-put.ensures.0 c.in_ok-put_action_head.ensures.bytes c.in_err-put.ensures.bytes

pub returns-in_err-put-2-clause-bytes : goal.returns-in_err-put-2-clause-bytes
returns-in_err-put-2-clause-bytes g c =
    third-failed _ _ _ _ (action_head c.args.self.now.action) (operand_text c.args.self.now.action.operand) (note_text c.args.self.now.note) (codes "\n") _ c.from_residual-in_err-put-2.ensures.0 c.in_ok-put_action_head.ensures.bytes c.in_ok-put.ensures.bytes c.in_err-put-2.ensures.bytes

pub returns-clause-bytes : goal.returns-clause-bytes
returns-clause-bytes g c =
    puts-four _ _ _ _ _ (action_head c.args.self.now.action) (operand_text c.args.self.now.action.operand) (note_text c.args.self.now.note) (codes "\n") _ c.in_ok-put_action_head.ensures.bytes c.in_ok-put.ensures.bytes c.in_ok-put-2.ensures.bytes c.put_all.ensures.bytes
