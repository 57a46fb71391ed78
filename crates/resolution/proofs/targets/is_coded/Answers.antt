use Rattle.class_format.specs.ClassText.{is_code}
use Rattle.std.proofs.lemmas.Bool.Decides.{same_from_decides}
use Rattle.std.specs.List.{list_any}
use Rattle.std.proofs.lemmas.List.Folds.{Any-from_list_any, list_any-from_Any}
use Rattle.resolution.proofs.targets.is_coded.Goals as goal

pub returns : goal.returns
returns c =
    same_from_decides c.has_code.result (list_any is_code c.args.method.now.attributes) c.has_code.ensures
    (Any-from_list_any is_code c.args.method.now.attributes, list_any-from_Any is_code c.args.method.now.attributes)
