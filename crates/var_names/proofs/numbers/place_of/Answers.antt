use Rattle.std.proofs.Common.{ap, sym, ◌∙◌, Some}
use Rattle.var_names.proofs.Equal.{var-same}
use Rattle.var_names.proofs.VariableLists.{inserted}
use Rattle.var_names.proofs.numbers.place_of.Goals as goal

pub returns-in-Ok-clause-added : goal.returns-in-Ok-clause-added
returns-in-Ok-clause-added c = inserted c.args.variables.now.keys c.args.var c.insert_full.new.self.keys c.in-Ok.ensures.keys

pub returns-in-Ok-clause-place : goal.returns-in-Ok-clause-place
returns-in-Ok-clause-place c =
    let stored = c.in-Ok.ensures.stored in
    stored.1 ∙ ap Some (sym (var-same c.args.var stored.0 stored.2))
