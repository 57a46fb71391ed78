-- The variables have each its name.
use Rattle.std.proofs.Common.{◌≡◌, ◌≢◌, ◌+◌, ℕ, suc, Bool, true, false, cond, List, [], ◌∷◌, Some, All, AllPairs, Any, Contains, eqb, length-take, filter, get_or, slice_get, refl, sym, ap, ◌∙◌, subst, arith, add-zero}
use Rattle.std.proofs.lemmas.Bool.{false≢true, eqb-true}
use Rattle.std.proofs.lemmas.List.{get_or-take}
use Rattle.std.proofs.lemmas.List.Elements.{All-nil, All-cons, All-append, All-head, All-tail, All-weaker}
use Rattle.std.proofs.lemmas.List.Kept.{AllPairs-cons}
use Rattle.std.proofs.lemmas.Option.{same_Some, slice_get-get_or}
use Rattle.class_format.specs.declared.record.ClassRecord.{ClassRecord}
use Rattle.class_format.specs.declared.record.Member.{Member}
use Rattle.class_names.specs.Members.{is_int_field, member_name}
use Rattle.class_names.specs.Names.{name_of}
use Rattle.class_profile.specs.Profile.{IsOfProfile}
use Rattle.class_profile.specs.declared.refusal.ClassKind.TheVariants.{DuplicateClass, NameForm}
use Rattle.reached_methods.specs.declared.method.ReachedMethod.{ReachedMethod}
use Rattle.untyped_program.specs.Variables.{is_field, is_named, is_variable, variable_of, variables_in, variables_from, variables_of}
use Rattle.class_profile.specs.NameForm.{HasDistinctFields}
use Rattle.program.proofs.Lists.{all_of}
use Rattle.std.proofs.lemmas.List.Folds.{Any-from_list_any}
use Rattle.program.specs.Program.{Prog, IsSpeltVariable}
use Rattle.program.specs.Straight.{AreApart}
use Rattle.reached_methods.specs.Reached.{IsReachedMethod, is_method}
use Rattle.resolution.specs.Resolution.{Names}
use Rattle.resolution.specs.declared.target.Target.{Target}
use Rattle.resolution.specs.declared.target.Target.TheVariants as target
use Rattle.untyped_program.proofs.KnownMethods.{known_methods}
use Rattle.untyped_program.proofs.Spelt.{all_spelt}
use Rattle.linking.specs.Linking.{IsProgramOf}
use Rattle.linked_laws.proofs.Instructions.{well_target}
use Rattle.linked_laws.proofs.Pairs.{Apart, are_apart, pairs_append, pairs_head, pairs_tail}
use Rattle.linked_laws.proofs.Resolved.{IsIntFieldAt, WellNamed, and_first, and_second}

-- the classes have each its name
pub classes_apart : (classes : List ClassRecord) → IsOfProfile classes → AllPairs (λ a b. name_of a ≢ name_of b) classes
classes_apart classes profile i j d before within same =
    let class = get_or classes j d in
    profile DuplicateClass j class (slice_get-get_or classes j d within) i d (omega (arith, before, within, length-take {A = ClassRecord})) (ap name_of (get_or-take j classes i d before) ∙ same)

module _ (methods : List ReachedMethod) where
  module _ (class_at : ℕ) (class : ClassRecord) where
    -- each variable of some fields is an int
    abbrev AreInts : ℕ → List Member → Type 0
    AreInts base fields = (k : ℕ) (f : Member) → slice_get fields k ≡ Some f → is_variable methods class_at (base + k) ≡ true → is_int_field class.pool f ≡ true

    later_ints : (base : ℕ) (f : Member) (fields : List Member) → AreInts base (f ∷ fields) → AreInts (base + 1) fields
    later_ints base f fields ints k g there is = let next : base + 1 + k ≡ base + suc k = omega arith in ints (suc k) g there (ap (is_variable methods class_at) (sym next) ∙ is)

    first_int : (base : ℕ) (f : Member) (fields : List Member) → AreInts base (f ∷ fields) → is_variable methods class_at base ≡ true → is_int_field class.pool f ≡ true
    first_int base f fields ints is = ints 0 f refl (ap (is_variable methods class_at) (add-zero base) ∙ is)

    abbrev OtherName : Member → Member → Type 0
    OtherName f g = member_name class.pool f ≢ member_name class.pool g

    abbrev Ints : List Member → List Member
    Ints fields = filter (is_int_field class.pool) fields

    kept_first : (b : Bool) (f : Member) (fields : List Member) → b ≡ true → cond b (f ∷ Ints fields) (Ints fields) ≡ f ∷ Ints fields
    kept_first true f fields is = refl
    kept_first false f fields is = absurd (false≢true is)

    others : (b : Bool) (P : Member → Type 0) (f : Member) (fields : List Member) → All P (cond b (f ∷ Ints fields) (Ints fields)) → All P (Ints fields)
    others true P f fields all = All-tail P f (Ints fields) all
    others false P f fields all = all

    other_pairs : (b : Bool) (f : Member) (fields : List Member) → AllPairs OtherName (cond b (f ∷ Ints fields) (Ints fields)) → AllPairs OtherName (Ints fields)
    other_pairs true f fields pairs = pairs_tail OtherName f (Ints fields) pairs
    other_pairs false f fields pairs = pairs

    -- a field whose name is none of the others'
    alone : (f : Member) (base : ℕ) (fields : List Member) → AreInts base fields → All (OtherName f) (Ints fields) → All (Apart (variable_of class f)) (variables_in methods class_at class base fields)
    alone f base [] ints all = All-nil (Apart (variable_of class f))
    alone f base (g ∷ fields) ints all =
        pick (is_variable methods class_at base) (first_int base g fields ints) (alone f (base + 1) fields (later_ints base g fields ints) (others (is_int_field class.pool g) (OtherName f) g fields all))
      where
        pick : (b : Bool) → (b ≡ true → is_int_field class.pool g ≡ true) → All (Apart (variable_of class f)) (variables_in methods class_at class (base + 1) fields) →
            All (Apart (variable_of class f)) (cond b (variable_of class g ∷ variables_in methods class_at class (base + 1) fields) (variables_in methods class_at class (base + 1) fields))
        pick true int rest =
            let first = All-head (OtherName f) g (Ints fields) (subst (All (OtherName f)) (kept_first (is_int_field class.pool g) g fields (int refl)) all) in
            All-cons (Apart (variable_of class f)) (variable_of class g) (variables_in methods class_at class (base + 1) fields) (λ same name. first name) rest
        pick false int rest = rest

    in_class : (base : ℕ) (fields : List Member) → AreInts base fields → AllPairs OtherName (Ints fields) → AllPairs Apart (variables_in methods class_at class base fields)
    in_class base [] ints pairs = λ i j d before within. absurd (omega (arith, within))
    in_class base (f ∷ fields) ints pairs =
        pick (is_variable methods class_at base) (first_int base f fields ints) (in_class (base + 1) fields (later_ints base f fields ints) (other_pairs (is_int_field class.pool f) f fields pairs))
      where
        pick : (b : Bool) → (b ≡ true → is_int_field class.pool f ≡ true) → AllPairs Apart (variables_in methods class_at class (base + 1) fields) →
            AllPairs Apart (cond b (variable_of class f ∷ variables_in methods class_at class (base + 1) fields) (variables_in methods class_at class (base + 1) fields))
        pick true int rest =
            let all = pairs_head OtherName f (Ints fields) (subst (AllPairs OtherName) (kept_first (is_int_field class.pool f) f fields (int refl)) pairs) in
            AllPairs-cons Apart (variable_of class f) (variables_in methods class_at class (base + 1) fields) (alone f (base + 1) fields (later_ints base f fields ints) all) rest
        pick false int rest = rest

    -- the variables of a class have its name
    of_class : (base : ℕ) (fields : List Member) → All (λ v. v.class ≡ name_of class) (variables_in methods class_at class base fields)
    of_class base [] = All-nil (λ v. v.class ≡ name_of class)
    of_class base (f ∷ fields) = pick (is_variable methods class_at base) (of_class (base + 1) fields)
      where
        pick : (b : Bool) → All (λ v. v.class ≡ name_of class) (variables_in methods class_at class (base + 1) fields) →
            All (λ v. v.class ≡ name_of class) (cond b (variable_of class f ∷ variables_in methods class_at class (base + 1) fields) (variables_in methods class_at class (base + 1) fields))
        pick true rest = All-cons (λ v. v.class ≡ name_of class) (variable_of class f) (variables_in methods class_at class (base + 1) fields) refl rest
        pick false rest = rest

  -- variables of other classes
  elsewhere : (name : List ℕ) (base : ℕ) (classes : List ClassRecord) → All (λ c. name ≢ name_of c) classes → All (λ v. name ≢ v.class) (variables_from methods base classes)
  elsewhere name base [] all = All-nil (λ v. name ≢ v.class)
  elsewhere name base (class ∷ classes) all =
      All-append (λ v. name ≢ v.class) (variables_in methods base class 0 class.fields) (variables_from methods (base + 1) classes)
      (All-weaker (λ v. v.class ≡ name_of class) (λ v. name ≢ v.class) (λ v is same. All-head (λ c. name ≢ name_of c) class classes all (same ∙ is)) (variables_in methods base class 0 class.fields) (of_class base class 0 class.fields))
      (elsewhere name (base + 1) classes (All-tail (λ c. name ≢ name_of c) class classes all))

  -- each variable of some classes is an int
  abbrev AllInts : ℕ → List ClassRecord → Type 0
  AllInts base classes = (k : ℕ) (class : ClassRecord) (j : ℕ) (f : Member) → slice_get classes k ≡ Some class → slice_get class.fields j ≡ Some f → is_variable methods (base + k) j ≡ true →
      is_int_field class.pool f ≡ true

  pub all_apart : (base : ℕ) (classes : List ClassRecord) → AllInts base classes → AllPairs (λ a b. name_of a ≢ name_of b) classes → All HasDistinctFields classes →
      AllPairs Apart (variables_from methods base classes)
  all_apart base [] ints apart fields = λ i j d before within. absurd (omega (arith, within))
  all_apart base (class ∷ classes) ints apart fields =
      let own = variables_in methods base class 0 class.fields in
      let rest = variables_from methods (base + 1) classes in
      let others = elsewhere (name_of class) (base + 1) classes (pairs_head (λ a b. name_of a ≢ name_of b) class classes apart) in
      pairs_append Apart own rest
      (in_class base class 0 class.fields (λ j f there is. let e : 0 + j ≡ j = omega arith in
      ints 0 class j f refl there (ap (λ (n : ℕ). is_variable methods n j) (add-zero base) ∙ ap (is_variable methods base) (sym e) ∙ is)) (All-head HasDistinctFields class classes fields))
      (all_apart (base + 1) classes (λ k c j f class_there there is. let next : base + suc k ≡ base + 1 + k = omega arith in ints (suc k) c j f class_there there (ap (λ (n : ℕ). is_variable methods n j) next ∙ is))
      (pairs_tail (λ a b. name_of a ≢ name_of b) class classes apart) (All-tail HasDistinctFields class classes fields))
      (All-weaker (λ v. v.class ≡ name_of class) (λ v. All (Apart v) rest)
      (λ v is. All-weaker (λ w. name_of class ≢ w.class) (Apart v) (λ w other same name. other (sym is ∙ same)) rest others) own (of_class base class 0 class.fields))

-- ---- Of a linked program

field_is : (c f : ℕ) (t : Target) → is_field c f t ≡ true → target.Field c f ≡ t
field_is c f (target.Field a b) is =
    let x : a ≡ c = eqb-true a c (and_first (eqb a c) (eqb b f) is) in
    let y : b ≡ f = eqb-true b f (and_second (eqb a c) (eqb b f) is) in
    cc
field_is c f t is = absurd (false≢true is)

module _ (classes : List ClassRecord) (p : Prog) (is : IsProgramOf classes p) where
  variable_int : (c f : ℕ) → is_variable is.is_untyped.methods c f ≡ true → IsIntFieldAt classes c f
  variable_int c f marked = by_method (Any-from_list_any (λ (r : ReachedMethod). is_named r.targets c f) is.is_untyped.methods marked)
    where
      by_target : (r : ReachedMethod) → Contains is.is_untyped.methods r → Any (λ t. is_field c f t ≡ true) r.targets → IsIntFieldAt classes c f
      by_target r inside (j, t, within, is_t, passes) =
          let reached = all_of (IsReachedMethod classes is.is_untyped.main) is.is_untyped.methods r is.is_untyped.reached.each inside in
          let same = field_is c f t passes in
          subst (λ (x : Target). WellNamed classes (is_method r.id is.is_untyped.main) reached.class.pool (Names x)) (sym same)
          (well_target classes is.is_untyped.main r reached is.is_untyped.has_main.profile t (j, within, is_t))

      by_method : Any (λ (r : ReachedMethod). is_named r.targets c f ≡ true) is.is_untyped.methods → IsIntFieldAt classes c f
      by_method (k, r, inside, is_r, passes) = by_target r (k, inside, is_r) (Any-from_list_any (is_field c f) r.targets passes)

  ints : AllInts is.is_untyped.methods 0 classes
  ints k class j f class_there there marked =
      let e : 0 + k ≡ k = omega arith in
      let field = variable_int k j (ap (λ (n : ℕ). is_variable is.is_untyped.methods n j) (sym e) ∙ marked) in
      let same_class : field.class ≡ class = same_Some field.class class (sym field.class_there ∙ class_there) in
      let same_field : field.field ≡ f = same_Some field.field f (sym field.field_there ∙ ap (λ (x : ClassRecord). slice_get x.fields j) same_class ∙ there) in
      ap (λ (x : Member). is_int_field class.pool x) (sym same_field) ∙ ap (λ (x : ClassRecord). is_int_field x.pool field.field) (sym same_class) ∙ field.int

  variables_are : p.variables ≡ variables_of classes is.is_untyped.methods
  variables_are = is.variables ∙ is.is_untyped.program.variables

  pub variables_are_apart : AreApart p.variables
  variables_are_apart =
      let profile = is.is_untyped.has_main.profile in
      are_apart p.variables (subst (AllPairs Apart) (sym variables_are) (all_apart is.is_untyped.methods 0 classes ints (classes_apart classes profile)
      (λ k d within. (profile NameForm k (get_or classes k d) (slice_get-get_or classes k d within)).fields)))

  pub variables_are_spelt : All IsSpeltVariable p.variables
  variables_are_spelt =
      subst (All IsSpeltVariable) (sym variables_are) (all_spelt classes is.is_untyped.main is.is_untyped.methods
      (known_methods classes is.is_untyped.main is.is_untyped.has_main.profile is.is_untyped.methods is.is_untyped.reached))
