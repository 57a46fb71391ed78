use Rattle.std.proofs.Common.{◌≡◌, slice_index_or, subst, sym, refl, arith}
use Rattle.std.proofs.lemmas.Grind.{common_steps}
use Rattle.opcodes.specs.declared.survey.Place.{Place}
use Rattle.opcodes.specs.Survey.{now}
use Rattle.opcodes.proofs.survey.Survey.reach.Goals as goal

pub returns-in_ok-push : goal.returns-in_ok-push
returns-in_ok-push c =
    let P : Place → Type 0 = λ place. slice_index_or c.args.self.now.places.items c.args.to place ≡ place in
    now c.place_of.result (subst P c.in-Unreached.is (sym c.index.ensures)) c.place_of.ensures refl
    (grind (arith, common_steps, c.in_ok-push.ensures.items))
