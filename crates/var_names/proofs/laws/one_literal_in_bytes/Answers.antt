use Rattle.var_names.proofs.ByteLaws.{bytes-one}
use Rattle.var_names.proofs.laws.one_literal_in_bytes.Goals as goal

pub returns : goal.returns
returns c = bytes-one
