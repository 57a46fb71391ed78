-- Variables: which arguments a family takes.
use Rattle.std.specs.Prelude.{◌-◌, ◌==◌, ◌&&◌, Bool, List, length, take, if◌then◌else◌}
use Rattle.std.specs.List.{list_all}
use Rattle.var_names.specs.declared.args.Arg.{Arg}
use Rattle.var_names.specs.declared.family.Family.{Family}
use Rattle.var_names.specs.Arguments.{is_number}
use Rattle.var_names.specs.Families.{arity, takes_default}

-- a family and its arguments
pub record Variable : Type 0 where
  pub family : Family
  pub args : List Arg

-- the arguments that have to be numbers: all, or all but the last where that may be the default write
abbrev pub needs_numbers : Family → List Arg → List Arg
needs_numbers family arguments = if takes_default family then take (length arguments - 1) arguments else arguments

abbrev pub is_variable : Family → List Arg → Bool
is_variable family arguments = (length arguments == arity family) && list_all is_number (needs_numbers family arguments)
