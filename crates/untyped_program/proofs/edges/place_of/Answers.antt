-- The method is there or nowhere.
use Rattle.std.proofs.Common.{sym, ap, ◌∙◌, arith}
use Rattle.std.proofs.lemmas.List.{get_or_default}
use Rattle.reached_methods.specs.Reached.{is_method}
use Rattle.typing.specs.declared.untyped.UntypedMethod.{UntypedMethod}
use Rattle.untyped_program.proofs.Places.{found, missing}
use Rattle.untyped_program.proofs.edges.place_of.Goals as goal
use Rattle.untyped_program.proofs.edges.place_of.Goals.{else-place-methods-via-then-place-methods+else-is_method, else-place-methods-via-else-place-methods}

pub returns-then-is_method : goal.returns-then-is_method
returns-then-is_method c =
    found c.args.methods.now c.args.id c.place_from-place.result c.index-methods-place.result c.place_from-place.ensures c.if-place-methods.true
    (sym c.is_method.ensures ∙ c.if-is_method.true)

pub returns-else-place-methods : goal.returns-else-place-methods
returns-else-place-methods c =
    missing c.args.methods.now c.args.id c.place_from-place.result c.requires c.place_from-place.ensures (λ d within.
    elim c.else-place-methods.branch [
      | else-place-methods-via-then-place-methods+else-is_method w ↦
          ap (λ (m : UntypedMethod). is_method m.id c.args.id) (get_or_default c.args.methods.now c.place_from-place.result d w.index-methods-place.result within)
          ∙ sym w.is_method.ensures ∙ w.if-is_method.false
      | else-place-methods-via-else-place-methods w ↦ (let past = w.if-place-methods.false in absurd (omega arith))
    ])
