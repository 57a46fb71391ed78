-- Whether the name of a class is among those of the classes before it.
use Rattle.std.proofs.Common.{◌≡◌, true, false, List, map, get_or, Any, sym, ap, ◌∙◌}
use Rattle.std.specs.List.{list_any}
use Rattle.std.proofs.lemmas.List.Folds.{list_any_at, Any-from_list_any}
use Rattle.class_format.specs.declared.record.ClassRecord.{ClassRecord}
use Rattle.class_names.specs.Names.{same_text, name_of}
use Rattle.class_profile.proofs.SameTexts.{same_is, same_of, not_both}
use Rattle.class_profile.proofs.Texts.{any_map}
use Rattle.class_profile.specs.Profile.{IsNew}

module _ (before : List ClassRecord) (class : ClassRecord) where
  pub is_new : list_any (same_text (name_of class)) (map name_of before) ≡ false → IsNew before class
  is_new none k d within same =
      not_both (list_any (same_text (name_of class)) (map name_of before)) none
      (any_map (same_text (name_of class)) name_of before ∙ list_any_at (λ other. same_text (name_of class) (name_of other)) before k d within (same_of (name_of class) (name_of (get_or before k d)) (sym same)))

  pub not_new : list_any (same_text (name_of class)) (map name_of before) ≡ true → IsNew before class → ⊥
  not_new known new = go (Any-from_list_any (λ other. same_text (name_of class) (name_of other)) before (sym (any_map (same_text (name_of class)) name_of before) ∙ known))
    where
      go : Any (λ other. same_text (name_of class) (name_of other) ≡ true) before → ⊥
      go (k, x, within, is_x, passes) = new k x within (ap name_of is_x ∙ sym (same_is (name_of class) (name_of x) passes))
