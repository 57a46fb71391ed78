-- One more class.
use Rattle.std.proofs.Common.{◌≡◌, ◌&&◌, ◌∙◌, ap, ap₂, sym, ℕ, Bool, true, false, [], Option, Some, None, refl, if◌then◌else◌}
use Rattle.std.specs.Option.{option_or}
use Rattle.class_format.specs.declared.record.ClassRecord.{ClassRecord}
use Rattle.class_names.specs.Names.{name_of, same_text}
use Rattle.resolution.proofs.Positions.{position_take}
use Rattle.resolution.proofs.places.class_places.Goals as goal

and_true : (b : Bool) → (b && true) ≡ b
and_true true = refl
and_true false = refl

-- src/places.rt:90:5
pub loop-place-preserved : goal.loop-place-preserved
loop-place-preserved c name =
    c.in_ok-add.ensures.added name []
    ∙ ap₂ (λ (o : Option ℕ) (b : Bool). option_or o (if b then Some c.loop-place.place else None)) (c.loop-place.invariant name)
    (and_true (same_text name c.name_of.result.now) ∙ ap (same_text name) c.name_of.ensures)
    ∙ sym (position_take (λ (class : ClassRecord). same_text name (name_of class)) c.args.classes.now c.loop-place.place c.index-classes-place.result c.loop-place-test.true c.index-classes-place.is)
