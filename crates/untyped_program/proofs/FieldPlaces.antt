-- The numbers of fields are places among the variables.
use Rattle.std.proofs.Common.{◌≡◌, ◌+◌, ◌++◌, ℕ, zero, suc, Bool, true, false, cond, List, [], ◌∷◌, Some, length, take, slice_get, refl, sym, ap, ◌∙◌, arith, add-zero, length-append}
use Rattle.std.proofs.lemmas.Option.{none-some, same_Some}
use Rattle.class_format.specs.declared.record.ClassRecord.{ClassRecord}
use Rattle.class_format.specs.declared.record.Member.{Member}
use Rattle.program.specs.declared.program.Variable.{Variable}
use Rattle.reached_methods.specs.declared.method.ReachedMethod.{ReachedMethod}
use Rattle.untyped_program.specs.Laws.{FieldNumbersArePlaces}
use Rattle.untyped_program.specs.Variables.{is_variable, variable_of, variables_in, variables_from, variables_of, count_in}

within_first : {X : Type 0} (xs ys : List X) (k : ℕ) (x : X) → slice_get xs k ≡ Some x → slice_get (xs ++ ys) k ≡ Some x
within_first [] ys k x there = absurd (none-some x there)
within_first (z ∷ xs) ys zero x there = there
within_first (z ∷ xs) ys (suc k) x there = within_first xs ys k x there

behind_first : {X : Type 0} (xs ys : List X) (k : ℕ) → slice_get (xs ++ ys) (length xs + k) ≡ slice_get ys k
behind_first [] ys k = let e : 0 + k ≡ k = omega arith in ap (slice_get ys) e
behind_first (x ∷ xs) ys k = let e : suc (length xs) + k ≡ suc (length xs + k) = omega arith in ap (slice_get (x ∷ (xs ++ ys))) e ∙ behind_first xs ys k

module _ (methods : List ReachedMethod) where
  module _ (class_at : ℕ) (class : ClassRecord) where
    -- how many of so many fields from a place on are variables
    abbrev among : ℕ → ℕ → ℕ
    among base zero = 0
    among base (suc k) = cond (is_variable methods class_at base) 1 0 + among (base + 1) k

    counted : (base k : ℕ) → count_in methods class_at (base + k) ≡ count_in methods class_at base + among base k
    counted base zero = ap (count_in methods class_at) (add-zero base) ∙ sym (add-zero (count_in methods class_at base))
    counted base (suc k) =
        let next : base + suc k ≡ base + 1 + k = omega arith in
        let one : base + 1 ≡ suc base = omega arith in
        let rest = counted (base + 1) k in
        let step : count_in methods class_at (base + 1) ≡ count_in methods class_at base + cond (is_variable methods class_at base) 1 0 = ap (count_in methods class_at) one in
        ap (count_in methods class_at) next ∙ omega (arith, rest, step)

    behind : (b : Bool) (v w : Variable) (vs : List Variable) (n : ℕ) → slice_get vs n ≡ Some w → slice_get (cond b (v ∷ vs) vs) (cond b 1 0 + n) ≡ Some w
    behind true v w vs n is = let e : 1 + n ≡ suc n = omega arith in ap (slice_get (v ∷ vs)) e ∙ is
    behind false v w vs n is = let e : 0 + n ≡ n = omega arith in ap (slice_get vs) e ∙ is

    here : (b : Bool) (v : Variable) (vs : List Variable) → b ≡ true → slice_get (cond b (v ∷ vs) vs) 0 ≡ Some v
    here true v vs is = refl
    here false v vs is = cc

    stands : (base k : ℕ) (fs : List Member) (f : Member) → slice_get fs k ≡ Some f → is_variable methods class_at (base + k) ≡ true →
        slice_get (variables_in methods class_at class base fs) (among base k) ≡ Some (variable_of class f)
    stands base k [] f at is = absurd (none-some f at)
    stands base zero (x ∷ fs) f at is =
        here (is_variable methods class_at base) (variable_of class x) (variables_in methods class_at class (base + 1) fs) (ap (is_variable methods class_at) (sym (add-zero base)) ∙ is)
        ∙ ap (λ (y : Member). Some (variable_of class y)) (same_Some x f at)
    stands base (suc k) (x ∷ fs) f at is =
        let next : base + 1 + k ≡ base + suc k = omega arith in
        behind (is_variable methods class_at base) (variable_of class x) (variable_of class f) (variables_in methods class_at class (base + 1) fs) (among (base + 1) k)
        (stands (base + 1) k fs f at (ap (is_variable methods class_at) next ∙ is))

    in_class : (k : ℕ) (f : Member) → slice_get class.fields k ≡ Some f → is_variable methods class_at k ≡ true →
        slice_get (variables_in methods class_at class 0 class.fields) (count_in methods class_at k) ≡ Some (variable_of class f)
    in_class k f at is =
        let zero_on : 0 + k ≡ k = omega arith in
        let count : count_in methods class_at k ≡ among 0 k = ap (count_in methods class_at) (sym zero_on) ∙ counted 0 k ∙ omega arith in
        ap (slice_get (variables_in methods class_at class 0 class.fields)) count ∙ stands 0 k class.fields f at (ap (is_variable methods class_at) zero_on ∙ is)

  in_classes : (base k : ℕ) (classes : List ClassRecord) (class : ClassRecord) (j : ℕ) (f : Member) → slice_get classes k ≡ Some class → slice_get class.fields j ≡ Some f →
      is_variable methods (base + k) j ≡ true →
      slice_get (variables_from methods base classes) (length (variables_from methods base (take k classes)) + count_in methods (base + k) j) ≡ Some (variable_of class f)
  in_classes base k [] class j f there at is = absurd (none-some class there)
  in_classes base zero (c ∷ classes) class j f there at is =
      let same = same_Some c class there in
      let own : slice_get c.fields j ≡ Some f = ap (λ (x : ClassRecord). slice_get x.fields j) same ∙ at in
      let e : 0 + count_in methods (base + 0) j ≡ count_in methods base j = let z = ap (λ (n : ℕ). count_in methods n j) (add-zero base) in omega (arith, z) in
      ap (slice_get (variables_from methods base (c ∷ classes))) e
      ∙ within_first (variables_in methods base c 0 c.fields) (variables_from methods (base + 1) classes) (count_in methods base j) (variable_of c f)
      (in_class base c j f own (ap (λ (n : ℕ). is_variable methods n j) (sym (add-zero base)) ∙ is))
      ∙ ap (λ (x : ClassRecord). Some (variable_of x f)) same
  in_classes base (suc k) (c ∷ classes) class j f there at is =
      let next : base + suc k ≡ base + 1 + k = omega arith in
      let first = variables_in methods base c 0 c.fields in
      let rest = variables_from methods (base + 1) (take k classes) in
      let later = in_classes (base + 1) k classes class j f there at (ap (λ (n : ℕ). is_variable methods n j) (sym next) ∙ is) in
      let count = ap (λ (n : ℕ). count_in methods n j) next in
      let e : length (first ++ rest) + count_in methods (base + suc k) j ≡ length first + (length rest + count_in methods (base + 1 + k) j) = omega (arith, length-append first rest, count) in
      ap (slice_get (variables_from methods base (c ∷ classes))) e ∙ behind_first first (variables_from methods (base + 1) classes) (length rest + count_in methods (base + 1 + k) j) ∙ later

pub field_places : FieldNumbersArePlaces
field_places classes methods class_at field_at class f class_there field_there is =
    let e : 0 + class_at ≡ class_at = omega arith in
    let number : length (variables_from methods 0 (take class_at classes)) + count_in methods class_at field_at ≡ length (variables_from methods 0 (take class_at classes)) + count_in methods (0 + class_at) field_at =
    let z = ap (λ (n : ℕ). count_in methods n field_at) e in omega (arith, z) in
    ap (slice_get (variables_of classes methods)) number
    ∙ in_classes methods 0 class_at classes class field_at f class_there field_there (ap (λ (n : ℕ). is_variable methods n field_at) e ∙ is)
