-- A text has one list of lines, and these are the lines of one pair.
use Rattle.one_sequence.proofs.Texts.{one_pair}
use Rattle.one_sequence.proofs.laws.one_text_one_pair.Goals as goal

pub returns : goal.returns
returns c e f s t bytes one other = one_pair e f s t bytes one other
