-- The marked fields are the variables.
use Rattle.std.proofs.Common.{◌≡◌, ◌<◌, ◌+◌, ℕ, zero, suc, Bool, true, false, cond, List, [], ◌∷◌, ◌++◌, length, take, get_or, add-one, add-zero, arith, refl, sym, ap, ◌∙◌, subst, append_assoc}
use Rattle.class_format.specs.declared.record.ClassRecord.{ClassRecord}
use Rattle.class_format.specs.declared.record.Member.{Member}
use Rattle.program.specs.declared.program.Variable.{Variable}
use Rattle.reached_methods.specs.declared.method.ReachedMethod.{ReachedMethod}
use Rattle.untyped_program.specs.Tables.{marked_in, marked_from}
use Rattle.untyped_program.specs.Variables.{is_variable, variable_of, variables_in, variables_from}

-- ---- One class

choice-append : (b : Bool) (v : Variable) (xs ys : List Variable) → cond b (v ∷ (xs ++ ys)) (xs ++ ys) ≡ cond b (v ∷ xs) xs ++ ys
choice-append true v xs ys = refl
choice-append false v xs ys = refl

choice_alone : (b : Bool) (v w : Variable) → v ≡ w → cond b (v ∷ []) [] ≡ cond b (w ∷ []) []
choice_alone b v w same = ap (λ (x : Variable). cond b (x ∷ []) []) same

module _ (class : ClassRecord) where
  -- one more field
  marked_more : (i : ℕ) (marks : List Bool) (fields : List Member) (f : Member) → i < length marks → i < length fields → get_or fields i f ≡ f →
      marked_in class (take (suc i) marks) (take (suc i) fields) ≡ marked_in class (take i marks) (take i fields) ++ cond (get_or marks i false) (variable_of class f ∷ []) []
  marked_more i [] fields f within inside at = absurd (omega arith)
  marked_more i (m ∷ marks) [] f within inside at = absurd (omega arith)
  marked_more zero (m ∷ marks) (g ∷ fields) f within inside at = choice_alone m (variable_of class g) (variable_of class f) (ap (variable_of class) at)
  marked_more (suc i) (m ∷ marks) (g ∷ fields) f within inside at =
      ap (λ (vs : List Variable). cond m (variable_of class g ∷ vs) vs) (marked_more i marks fields f (omega arith) (omega arith) at)
      ∙ choice-append m (variable_of class g) (marked_in class (take i marks) (take i fields)) (cond (get_or marks i false) (variable_of class f ∷ []) [])

  pub marked-marked : (i : ℕ) (marks : List Bool) (fields : List Member) (f : Member) → i < length marks → i < length fields → get_or fields i f ≡ f → get_or marks i false ≡ true →
      marked_in class (take (i + 1) marks) (take (i + 1) fields) ≡ marked_in class (take i marks) (take i fields) ++ variable_of class f ∷ []
  marked-marked i marks fields f within inside at is =
      ap (λ (n : ℕ). marked_in class (take n marks) (take n fields)) (add-one i) ∙ marked_more i marks fields f within inside at
      ∙ ap (λ (b : Bool). marked_in class (take i marks) (take i fields) ++ cond b (variable_of class f ∷ []) []) is

  append_none : (xs : List Variable) → xs ++ [] ≡ xs
  append_none [] = refl
  append_none (x ∷ xs) = ap (λ (ys : List Variable). x ∷ ys) (append_none xs)

  pub marked-other : (i : ℕ) (marks : List Bool) (fields : List Member) (f : Member) → i < length marks → i < length fields → get_or fields i f ≡ f → get_or marks i false ≡ false →
      marked_in class (take (i + 1) marks) (take (i + 1) fields) ≡ marked_in class (take i marks) (take i fields)
  marked-other i marks fields f within inside at is =
      ap (λ (n : ℕ). marked_in class (take n marks) (take n fields)) (add-one i) ∙ marked_more i marks fields f within inside at
      ∙ ap (λ (b : Bool). marked_in class (take i marks) (take i fields) ++ cond b (variable_of class f ∷ []) []) is
      ∙ append_none (marked_in class (take i marks) (take i fields))

  -- where the marks tell the variables
  pub marked_are : (methods : List ReachedMethod) (class_at base : ℕ) (marks : List Bool) (fields : List Member) → length marks ≡ length fields →
      ((k : ℕ) → k < length marks → get_or marks k false ≡ is_variable methods class_at (base + k)) →
      marked_in class marks fields ≡ variables_in methods class_at class base fields
  marked_are methods class_at base [] [] same tell = refl
  marked_are methods class_at base [] (f ∷ fields) same tell = absurd (omega arith)
  marked_are methods class_at base (m ∷ marks) [] same tell = absurd (omega arith)
  marked_are methods class_at base (m ∷ marks) (f ∷ fields) same tell =
      let first : m ≡ is_variable methods class_at base = tell 0 (omega arith) ∙ ap (is_variable methods class_at) (add-zero base) in
      let rest = marked_are methods class_at (base + 1) marks fields (omega arith)
      (λ k within. tell (suc k) (omega arith) ∙ ap (is_variable methods class_at) (next k)) in
      ap (λ (b : Bool). cond b (variable_of class f ∷ marked_in class marks fields) (marked_in class marks fields)) first
      ∙ ap (λ (vs : List Variable). cond (is_variable methods class_at base) (variable_of class f ∷ vs) vs) rest
    where
      next : (k : ℕ) → base + suc k ≡ base + 1 + k
      next k = omega arith

-- ---- All classes

append_end : (xs : List Variable) → xs ++ [] ≡ xs
append_end [] = refl
append_end (x ∷ xs) = ap (λ (ys : List Variable). x ∷ ys) (append_end xs)

-- one more class
rows_more : (i : ℕ) (rows : List (List Bool)) (classes : List ClassRecord) (class : ClassRecord) → i < length rows → i < length classes → get_or classes i class ≡ class →
    marked_from (take (suc i) rows) (take (suc i) classes) ≡ marked_from (take i rows) (take i classes) ++ marked_in class (get_or rows i []) class.fields
rows_more i [] classes class within inside at = absurd (omega arith)
rows_more i (row ∷ rows) [] class within inside at = absurd (omega arith)
rows_more zero (row ∷ rows) (c ∷ classes) class within inside at =
    append_end (marked_in c row c.fields) ∙ ap (λ (x : ClassRecord). marked_in x row x.fields) at
rows_more (suc i) (row ∷ rows) (c ∷ classes) class within inside at =
    ap (λ (vs : List Variable). marked_in c row c.fields ++ vs) (rows_more i rows classes class (omega arith) (omega arith) at)
    ∙ sym (append_assoc (marked_in c row c.fields) (marked_from (take i rows) (take i classes)) (marked_in class (get_or rows i []) class.fields))

pub marked_from-more : (i : ℕ) (rows : List (List Bool)) (classes : List ClassRecord) (class : ClassRecord) → i < length rows → i < length classes → get_or classes i class ≡ class →
    marked_from (take (i + 1) rows) (take (i + 1) classes) ≡ marked_from (take i rows) (take i classes) ++ marked_in class (get_or rows i []) class.fields
marked_from-more i rows classes class within inside at =
    ap (λ (n : ℕ). marked_from (take n rows) (take n classes)) (add-one i) ∙ rows_more i rows classes class within inside at

-- where the rows tell the variables of classes from a place on
pub record TellFrom (methods : List ReachedMethod) (base : ℕ) (rows : List (List Bool)) (classes : List ClassRecord) : Type 0 where
  pub size : length rows ≡ length classes
  pub widths : (k : ℕ) (class : ClassRecord) → k < length classes → get_or classes k class ≡ class → length (get_or rows k []) ≡ length class.fields
  pub marks : (k j : ℕ) → k < length classes → get_or (get_or rows k []) j false ≡ is_variable methods (base + k) j

pub rows_are : (methods : List ReachedMethod) (base : ℕ) (rows : List (List Bool)) (classes : List ClassRecord) → TellFrom methods base rows classes →
    marked_from rows classes ≡ variables_from methods base classes
rows_are methods base [] [] tell = refl
rows_are methods base [] (c ∷ classes) tell = let size = tell.size in absurd (omega arith)
rows_are methods base (row ∷ rows) [] tell = let size = tell.size in absurd (omega arith)
rows_are methods base (row ∷ rows) (c ∷ classes) tell =
    let size = tell.size in
    ap (λ (vs : List Variable). vs ++ marked_from rows classes)
    (marked_are c methods base 0 row c.fields (tell.widths 0 c (omega arith) refl) (λ k within. tell.marks 0 k (omega arith) ∙ from_zero k))
    ∙ ap (λ (vs : List Variable). variables_in methods base c 0 c.fields ++ vs)
    (rows_are methods (base + 1) rows classes (record {
      size = omega arith;
      widths = λ k class within at. tell.widths (suc k) class (omega arith) at;
      marks = λ k j within. tell.marks (suc k) j (omega arith) ∙ ap (λ (n : ℕ). is_variable methods n j) (next k);
    }))
  where
    next : (k : ℕ) → base + suc k ≡ base + 1 + k
    next k = omega arith

    from_zero : (k : ℕ) → is_variable methods (base + 0) k ≡ is_variable methods base (0 + k)
    from_zero k = let e : base + 0 ≡ base = omega arith in let f : 0 + k ≡ k = omega arith in ap (λ (n : ℕ). is_variable methods n k) e ∙ ap (is_variable methods base) (sym f)

-- the last of a list
pub at_end : (xs : List (List ℕ)) (x : List ℕ) (n : ℕ) → length xs ≡ n → get_or (xs ++ x ∷ []) n [] ≡ x
at_end [] x n is = subst (λ (k : ℕ). get_or (x ∷ []) k [] ≡ x) is refl
at_end (y ∷ xs) x n is = subst (λ (k : ℕ). get_or (y ∷ (xs ++ x ∷ [])) k [] ≡ x) is (at_end xs x (length xs) refl)
