-- The names of variables can be written, and the methods stand by place.
use Rattle.std.proofs.Common.{◌≡◌, ◌+◌, ◌&&◌, ℕ, suc, Bool, true, false, cond, List, [], ◌∷◌, Some, All, AllPairs, Any, get_or, eqb, slice_get, refl, sym, ap, ◌∙◌, subst, arith, add-zero}
use Rattle.std.proofs.lemmas.Bool.{false≢true, eqb-true}
use Rattle.std.proofs.lemmas.List.Elements.{All-nil, All-cons, All-append}
use Rattle.std.proofs.lemmas.List.Folds.{Any-from_list_any}
use Rattle.std.proofs.lemmas.Option.{same_Some, get_or_from_slice_get}
use Rattle.program.proofs.Lists.{there_is}
use Rattle.class_format.specs.declared.record.ClassRecord.{ClassRecord}
use Rattle.class_format.specs.declared.record.Member.{Member}
use Rattle.program.specs.Program.{IsSpeltVariable}
use Rattle.program.specs.declared.method.MethodId.{MethodId}
use Rattle.program.specs.declared.program.Variable.{Variable}
use Rattle.reached_methods.specs.Reached.{IsBefore}
use Rattle.reached_methods.specs.declared.method.ReachedMethod.{ReachedMethod}
use Rattle.resolution.specs.declared.target.Target.{Target}
use Rattle.resolution.specs.declared.target.Target.TheVariants as target
use Rattle.typing.specs.declared.untyped.UntypedMethod.{UntypedMethod}
use Rattle.untyped_program.specs.Known.{IsKnown, IsKnownField, AreKnown}
use Rattle.untyped_program.specs.Limits.{AreByPlace}
use Rattle.untyped_program.specs.Untyped.{AreUntyped}
use Rattle.untyped_program.specs.Variables.{is_field, is_named, is_variable, variable_of, variables_in, variables_from, variables_of}

-- ---- Variables

two_true : (a b : Bool) → (a && b) ≡ true → (a ≡ true) × (b ≡ true)
two_true true b is = (refl, is)
two_true false b is = absurd (false≢true is)

field_is : (c f : ℕ) (t : Target) → is_field c f t ≡ true → target.Field c f ≡ t
field_is c f (target.Field a b) is =
    let two = two_true (eqb a c) (eqb b f) is in
    let x : a ≡ c = eqb-true a c two.0 in
    let y : b ≡ f = eqb-true b f two.1 in
    cc
field_is c f t is = absurd (false≢true is)

module _ (classes : List ClassRecord) (main : MethodId) (methods : List ReachedMethod) (known : AreKnown classes main methods) where
  field_known : (c f : ℕ) → is_variable methods c f ≡ true → IsKnownField classes c f
  field_known c f is = by_method (Any-from_list_any (λ m. is_named m.targets c f) methods is)
    where
      by_target : (m : ReachedMethod) → All (IsKnown classes) m.targets → Any (λ t. is_field c f t ≡ true) m.targets → IsKnownField classes c f
      by_target m all (j, t, within, is_t, passes) = subst (IsKnown classes) (is_t ∙ sym (field_is c f t passes)) (all j t within)

      by_method : Any (λ m. is_named m.targets c f ≡ true) methods → IsKnownField classes c f
      by_method (k, m, inside, is_m, passes) =
          by_target m (subst (λ (x : ReachedMethod). All (IsKnown classes) x.targets) is_m (known k m inside).targets) (Any-from_list_any (is_field c f) m.targets passes)

  fields_spelt : (c : ℕ) (class : ClassRecord) (base : ℕ) (fields : List Member) →
      ((k : ℕ) (f : Member) → slice_get fields k ≡ Some f → is_variable methods c (base + k) ≡ true → IsSpeltVariable (variable_of class f)) →
      All IsSpeltVariable (variables_in methods c class base fields)
  fields_spelt c class base [] each = All-nil IsSpeltVariable
  fields_spelt c class base (f ∷ fields) each =
      let rest = fields_spelt c class (base + 1) fields (λ k g there is. each (suc k) g there (ap (is_variable methods c) (next k) ∙ is)) in
      choose (is_variable methods c base) (variables_in methods c class (base + 1) fields) (λ is. each 0 f refl (ap (is_variable methods c) (add-zero base) ∙ is)) rest
    where
      next : (k : ℕ) → base + suc k ≡ base + 1 + k
      next k = omega arith

      choose : (b : Bool) (vs : List Variable) → (b ≡ true → IsSpeltVariable (variable_of class f)) → All IsSpeltVariable vs → All IsSpeltVariable (cond b (variable_of class f ∷ vs) vs)
      choose true vs first rest = All-cons IsSpeltVariable (variable_of class f) vs (first refl) rest
      choose false vs first rest = rest

  classes_spelt : (base : ℕ) (rest : List ClassRecord) →
      ((k : ℕ) (class : ClassRecord) (j : ℕ) (f : Member) → slice_get rest k ≡ Some class → slice_get class.fields j ≡ Some f → is_variable methods (base + k) j ≡ true → IsSpeltVariable (variable_of class f)) →
      All IsSpeltVariable (variables_from methods base rest)
  classes_spelt base [] each = All-nil IsSpeltVariable
  classes_spelt base (class ∷ rest) each =
      All-append IsSpeltVariable (variables_in methods base class 0 class.fields) (variables_from methods (base + 1) rest)
      (fields_spelt base class 0 class.fields (λ j f there is. each 0 class j f refl there (own j ∙ is)))
      (classes_spelt (base + 1) rest (λ k other j f class_there there is. each (suc k) other j f class_there there (ap (λ (n : ℕ). is_variable methods n j) (next k) ∙ is)))
    where
      next : (k : ℕ) → base + suc k ≡ base + 1 + k
      next k = omega arith

      own : (j : ℕ) → is_variable methods (base + 0) j ≡ is_variable methods base (0 + j)
      own j = let e : base + 0 ≡ base = omega arith in let g : 0 + j ≡ j = omega arith in ap (λ (n : ℕ). is_variable methods n j) e ∙ ap (is_variable methods base) (sym g)

  pub all_spelt : All IsSpeltVariable (variables_of classes methods)
  all_spelt = classes_spelt 0 classes each
    where
      each : (k : ℕ) (class : ClassRecord) (j : ℕ) (f : Member) → slice_get classes k ≡ Some class → slice_get class.fields j ≡ Some f → is_variable methods (0 + k) j ≡ true → IsSpeltVariable (variable_of class f)
      each k class j f class_there there is =
          let e : 0 + k ≡ k = omega arith in
          let field = field_known k j (ap (λ (n : ℕ). is_variable methods n j) (sym e) ∙ is) in
          let same_class : field.class ≡ class = same_Some field.class class (sym field.class_there ∙ class_there) in
          let same_field : field.field ≡ f = same_Some field.field f (sym field.field_there ∙ ap (λ (x : ClassRecord). slice_get x.fields j) same_class ∙ there) in
          subst (λ (x : ClassRecord). IsSpeltVariable (variable_of x f)) same_class (subst (λ (x : Member). IsSpeltVariable (variable_of field.class x)) same_field field.spelt)

-- ---- Places

pub stay_by_place : (classes : List ClassRecord) (main : MethodId) (number : ℕ → ℕ → ℕ) (monitors : List (List ℕ)) (methods : List ReachedMethod) (untyped : List UntypedMethod) →
    AllPairs (λ a b. IsBefore a.id b.id) methods → AreUntyped classes main number monitors methods untyped → AreByPlace untyped
stay_by_place classes main number monitors methods untyped by_place are i j d before within =
    let same = are.same_length in
    let m = there_is methods i (omega arith) in
    let n = there_is methods j (omega arith) in
    let u = there_is untyped i (omega arith) in
    let v = there_is untyped j within in
    let m-at = get_or_from_slice_get methods i m.0 m.0 m.1 in
    let n-at = get_or_from_slice_get methods j n.0 m.0 n.1 in
    let first : (get_or untyped i d).id ≡ m.0.id = ap (λ (x : UntypedMethod). x.id) (get_or_from_slice_get untyped i u.0 d u.1) ∙ (are.each i m.0 u.0 m.1 u.1).id in
    let second : (get_or untyped j d).id ≡ n.0.id = ap (λ (x : UntypedMethod). x.id) (get_or_from_slice_get untyped j v.0 d v.1) ∙ (are.each j n.0 v.0 n.1 v.1).id in
    subst (λ (x : MethodId). IsBefore x (get_or untyped j d).id) (ap (λ (x : ReachedMethod). x.id) m-at ∙ sym first)
    (subst (IsBefore (get_or methods i m.0).id) (ap (λ (x : ReachedMethod). x.id) n-at ∙ sym second) (by_place i j m.0 before (omega arith)))
