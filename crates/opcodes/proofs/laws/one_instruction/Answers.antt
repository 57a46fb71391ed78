use Rattle.opcodes.proofs.Unique.{decodes_once}
use Rattle.opcodes.proofs.laws.one_instruction.Goals as goal

pub returns : goal.returns
returns c = decodes_once
