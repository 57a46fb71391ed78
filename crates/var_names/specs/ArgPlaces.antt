-- How a list of arguments lies in five places: those past its length hold the default write.
use Rattle.std.specs.Prelude.{◌++◌, ◌-◌, ◌≡◌, ◌≤◌, List, length, take, drop, replicate, refl}
use Rattle.std.proofs.Common.{◌∙◌, ap, sym, arith, List}
use Rattle.std.proofs.lemmas.List.{length-take-le, take-append-drop}
use Rattle.var_names.specs.declared.args.Arg.{Arg}
use Rattle.var_names.specs.declared.args.Arg.TheVariants.{D}
use Rattle.var_names.specs.declared.args.Args.TheInside.{Inside}

abbrev pub arguments_in : Inside → List Arg
arguments_in places = take places.len places.items

pub record IsFilledUp (places : Inside) : Type 0 where
  pub few : places.len ≤ 5
  pub five : length places.items ≡ 5
  pub rest : drop places.len places.items ≡ replicate (5 - places.len) D

abbrev pub filled_up : List Arg → Inside
filled_up arguments = record { items = arguments ++ replicate (5 - length arguments) D; len = length arguments }

pub filled_up-arguments : (places : Inside) → IsFilledUp places → filled_up (arguments_in places) ≡ places
filled_up-arguments places filled =
    let many : length (take places.len places.items) ≡ places.len = length-take-le places.len places.items (omega (arith, filled.few, filled.five)) in
    let items : take places.len places.items ++ replicate (5 - places.len) D ≡ places.items =
    ap (λ (back : List Arg). take places.len places.items ++ back) (sym filled.rest) ∙ take-append-drop places.len places.items in
    rw (many, items) refl
