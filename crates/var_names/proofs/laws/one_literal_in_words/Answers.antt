use Rattle.var_names.proofs.LiteralLaws.{text-one}
use Rattle.var_names.proofs.laws.one_literal_in_words.Goals as goal

pub returns : goal.returns
returns c = text-one
