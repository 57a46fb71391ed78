use Rattle.std.proofs.Common.{refl, subst, sym}
use Rattle.std.proofs.lemmas.Option.{slice_get_read, slice_get_within}
use Rattle.reached_methods.specs.Reaching.{IsRefusedFor}
use Rattle.reached_methods.specs.declared.refusal.CodeRefusal.{CodeRefusal}
use Rattle.reached_methods.proofs.Reaches.{refused_first}
use Rattle.reached_methods.proofs.reaching.refusal.Goals as goal

pub returns : goal.returns
returns c =
    let P : CodeRefusal → Type 0 = IsRefusedFor c.args.classes.now c.args.main in
    let first = c.requires.first in
    let within = slice_get_within c.args.surveys.items c.args.faulty.at first.surveyed first.there in
    subst P (sym c.refused.ensures)
    (refused_first c.args.classes.now c.args.main c.args.surveys.items c.args.faulty.at c.args.faulty.recursion c.swap_remove-surveyed.result c.earlier.result c.in-Some.fault
    c.requires.surveys c.requires.by_place first
    (slice_get_read c.args.surveys.items _ c.args.faulty.at c.swap_remove-surveyed.result refl within c.swap_remove-surveyed.ensures.value) c.earlier.ensures c.in-Some.is)
