use Rattle.std.proofs.Common.{◌≡◌, List, Bool, Option, Some, None, false, slice_get, refl, ap, ◌∙◌}
use Rattle.std.specs.Option.{option_map, unwrap_or}
use Rattle.std.proofs.lemmas.Option.{slice_get-map}
use Rattle.class_format.specs.declared.record.ClassRecord.{ClassRecord}
use Rattle.resolution.specs.Targets.{is_target, is_target_class}
use Rattle.resolution.proofs.index.ClassIndex.is_target_at.Goals as goal

told : (o : Option ClassRecord) → unwrap_or (option_map is_target o) false ≡ is_target_class o
told None = refl
told (Some class) = refl

pub returns : goal.returns
returns c =
    c.unwrap_or.ensures ∙ ap (λ (o : Option Bool). unwrap_or o false) (c.flag_at.ensures ∙ ap (λ (xs : List Bool). slice_get xs c.args.place) (c.deref.ensures.value ∙ c.args.self.now.finds_targets) ∙ slice_get-map is_target c.args.self.now.classes.now c.args.place) ∙ told (slice_get c.args.self.now.classes.now c.args.place)
