-- Members by the numbers of their names: two have one key exactly where they are spelled alike.
use Rattle.std.proofs.Common.{◌≡◌, ◌≢◌, ◌↔◌, ◌&&◌, ℕ, Bool, true, false, eqb, List, map, AllPairs, refl, sym, subst}
use Rattle.std.proofs.lemmas.Bool.{eqb-true, eq-eqb}
use Rattle.class_format.specs.declared.record.ClassRecord.{ClassRecord}
use Rattle.class_format.specs.declared.record.Member.{Member}
use Rattle.class_profile.proofs.Pairs.{pairs_of_images}
use Rattle.class_profile.proofs.SameTexts.{not_true, not_both}
use Rattle.class_names.specs.Members.{member_name, member_descriptor, IsSpelled}
use Rattle.class_profile.specs.NameForm.{int_fields, HasDistinctFields, HasDistinctMethods}
use Rattle.class_profile.specs.Texts.{number_at, NumbersTexts}

and_true : (a b : Bool) → a ≡ true → b ≡ true → (a && b) ≡ true
and_true true true e f = refl
and_true true false e f = cc
and_true false b e f = cc

both_true : (a b : Bool) → (a && b) ≡ true → (a ≡ true) × (b ≡ true)
both_true true true e = (refl, refl)
both_true true false e = cc
both_true false b e = cc

module _ (class : ClassRecord) (numbers : List ℕ) (right : NumbersTexts class.pool numbers) where
  abbrev pub field_key : Member → ℕ
  field_key f = number_at numbers f.name

  abbrev pub method_key : Member → ℕ × ℕ
  method_key m = (number_at numbers m.name, number_at numbers m.descriptor)

  one_name : (f g : Member) → (eqb (field_key g) (field_key f) ≡ false) ↔ (member_name class.pool f ≢ member_name class.pool g)
  one_name f g = (
    λ differ same. not_both (eqb (field_key g) (field_key f)) differ (eq-eqb (field_key g) (field_key f) (sym ((right f.name g.name).1 same))),
    λ differ. not_true (eqb (field_key g) (field_key f)) (λ passes. differ (sym ((right g.name f.name).0 (eqb-true (field_key g) (field_key f) passes)))),
  )

  pub fields_apart : (keys : List ℕ) → keys ≡ map field_key (int_fields class) → AllPairs (λ a b. eqb b a ≡ false) keys ↔ HasDistinctFields class
  fields_apart keys is = subst (λ (ks : List ℕ). AllPairs (λ a b. eqb b a ≡ false) ks ↔ HasDistinctFields class) (sym is)
      (pairs_of_images field_key (λ f g. member_name class.pool f ≢ member_name class.pool g) (λ a b. eqb b a ≡ false) one_name (int_fields class))

  abbrev same_key : ℕ × ℕ → ℕ × ℕ → Bool
  same_key a b = eqb a.0 b.0 && eqb a.1 b.1

  one_spelling : (m n : Member) → (same_key (method_key n) (method_key m) ≡ false) ↔ (IsSpelled class.pool (member_name class.pool m) (member_descriptor class.pool m) n → ⊥)
  one_spelling m n = (
    λ differ same. not_both (same_key (method_key n) (method_key m)) differ
        (and_true (eqb (number_at numbers n.name) (number_at numbers m.name)) (eqb (number_at numbers n.descriptor) (number_at numbers m.descriptor))
        (eq-eqb (number_at numbers n.name) (number_at numbers m.name) ((right n.name m.name).1 same.name_is))
        (eq-eqb (number_at numbers n.descriptor) (number_at numbers m.descriptor) ((right n.descriptor m.descriptor).1 same.descriptor_is))),
    λ differ. not_true (same_key (method_key n) (method_key m)) (λ passes.
        let both = both_true (eqb (number_at numbers n.name) (number_at numbers m.name)) (eqb (number_at numbers n.descriptor) (number_at numbers m.descriptor)) passes in
        differ (record {
          name_is = (right n.name m.name).0 (eqb-true (number_at numbers n.name) (number_at numbers m.name) both.0);
          descriptor_is = (right n.descriptor m.descriptor).0 (eqb-true (number_at numbers n.descriptor) (number_at numbers m.descriptor) both.1);
        })),
  )

  pub methods_apart : (keys : List (ℕ × ℕ)) → keys ≡ map method_key class.methods → AllPairs (λ a b. same_key b a ≡ false) keys ↔ HasDistinctMethods class
  methods_apart keys is = subst (λ (ks : List (ℕ × ℕ)). AllPairs (λ a b. same_key b a ≡ false) ks ↔ HasDistinctMethods class) (sym is)
      (pairs_of_images method_key (λ m n. IsSpelled class.pool (member_name class.pool m) (member_descriptor class.pool m) n → ⊥) (λ a b. same_key b a ≡ false) one_spelling class.methods)
