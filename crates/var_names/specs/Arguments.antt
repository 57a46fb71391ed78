-- Arguments of variables and rules.
use Rattle.std.specs.Prelude.{Bool, true, false}
use Rattle.var_names.specs.declared.args.Arg.{Arg}
use Rattle.var_names.specs.declared.args.Arg.TheVariants.{Number, D}

abbrev pub is_number : Arg → Bool
is_number (Number n) = true
is_number D = false
