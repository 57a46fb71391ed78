use Rattle.var_names.proofs.FamilyLaws.{found-or}
use Rattle.var_names.proofs.reading.read_family.Goals as goal

pub returns : goal.returns
returns c = found-or c.args.text.now c.find_family.result c.find_family.ensures.found c.find_family.ensures.none
