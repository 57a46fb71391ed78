-- A name that is not new is that of an earlier class.
use Rattle.std.proofs.Common.{◌∙◌, ◌++◌, [], ◌∷◌, ℕ, List, take, sym, ap₂, arith}
use Rattle.std.specs.List.{list_any}
use Rattle.class_names.specs.Names.{same_text, name_of}
use Rattle.class_profile.proofs.ClassNames.{is_new, not_new}
use Rattle.class_profile.proofs.Told.{known_of, unknown_of, with_new}
use Rattle.class_profile.proofs.FirstFault.{met_more, met_all, first_fault}
use Rattle.class_profile.proofs.Places.{stands, map_with}
use Rattle.class_profile.specs.declared.refusal.ClassKind.TheVariants.{DuplicateClass}
use Rattle.class_profile.proofs.check.first_duplicate.Goals as goal

pub returns-then-not-branch-clause-found : goal.returns-then-not-branch-clause-found
returns-then-not-branch-clause-found c =
    let classes = c.args.classes.now in
    let n = c.loop-place.place in
    let class = c.index-classes-place.result in
    let here = stands classes n class c.loop-place-test.true c.index-classes-place.is in
    let known = known_of _ c.in_ok-add.field-0.is_new c.in_ok-add.ensures.is_new c.if-not-branch.true in
    first_fault DuplicateClass classes n class here
    (not_new (take n classes) class (ap₂ (λ (name : List ℕ) (names : List (List ℕ)). list_any (same_text name) names) (sym c.name_of.ensures) (sym c.loop-place.invariant.names) ∙ known))
    c.loop-place.invariant.met

pub loop-place-preserved : goal.loop-place-preserved
loop-place-preserved c =
    let classes = c.args.classes.now in
    let n = c.loop-place.place in
    let class = c.index-classes-place.result in
    let here = stands classes n class c.loop-place-test.true c.index-classes-place.is in
    let fresh = unknown_of _ c.in_ok-add.field-0.is_new c.in_ok-add.ensures.is_new c.if-not-branch.false in
    let next = map_with name_of classes n class c.loop-place-test.true c.index-classes-place.is in
    record {
      names = c.in_ok-add.ensures.texts ∙ with_new _ c.loop-place.names c.name_of.result.now fresh
          ∙ ap₂ (λ (names : List (List ℕ)) (name : List ℕ). names ++ name ∷ []) c.loop-place.invariant.names c.name_of.ensures ∙ sym next;
      met = met_more DuplicateClass classes n class here
          (is_new (take n classes) class (ap₂ (λ (name : List ℕ) (names : List (List ℕ)). list_any (same_text name) names) (sym c.name_of.ensures) (sym c.loop-place.invariant.names) ∙ fresh))
          c.loop-place.invariant.met;
    }

pub returns-clause-found : goal.returns-clause-found
returns-clause-found c = met_all DuplicateClass c.args.classes.now c.loop-place.place (omega arith) c.loop-place.invariant.met
