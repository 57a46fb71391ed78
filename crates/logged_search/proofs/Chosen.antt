-- Clauses that answer a conflict.
use Rattle.std.proofs.Common.{◌≡◌, ◌≢◌, ◌+◌, ◌-◌, ◌*◌, ◌<◌, ◌≤◌, ◌∙◌, ℕ, zero, suc, List, [], ◌∷◌, get_or, inl, inr, refl, sym, ap, subst, arith, map, length}
use Rattle.std.specs.Prelude.{All}
use Rattle.std.proofs.lemmas.Bool.Decides.{leb_tells}
use Rattle.clause_pool.specs.PoolValue.{PoolValue, IsFull, IsIn, NoneTwice}
use Rattle.literals.specs.Literal.{opposite_of, variable_of}
use Rattle.literals.specs.Propagation.{HasNoValueIn, IsFalseClause, IsFalseIn}
use Rattle.literals.proofs.Members.{map-IsIn}
use Rattle.literals.proofs.Opposites.{opposite-injective, opposite-opposite, opposite-variable, same_variable}
use Rattle.trail.specs.Steps.{TrailValue, IsSoundFor, IsSoundTrail, back_to, decisions_of, level_at, level_of, literals_of}
use Rattle.trail.specs.declared.step.Step.{Step}
use Rattle.trail.proofs.Back.{back_to-here, back_to-older}
use Rattle.trail.proofs.Lookup.{variable_known}
use Rattle.propagation.proofs.Consistency.{consistent}
use Rattle.conflict_analysis.specs.declared.hint.Hint.{Hint}
use Rattle.conflict_analysis.specs.Exclusions.{IsExclusion}
use Rattle.conflict_analysis.specs.Learned.{IsBackLevel, IsLearned}
use Rattle.conflict_analysis.proofs.Back.{decisions_among}
use Rattle.conflict_analysis.proofs.Newest.{bool_cases, level_at_most, level_here, level_later, other_variable}
use Rattle.search_steps.proofs.Keeping.{back_among}
use Rattle.search_steps.proofs.Returning.{below_opposite, last_decision, open_opposite}
use Rattle.search_log.specs.Lines.{AreApart}
use Rattle.learning_steps.specs.Reasons.{IsNewlyFalse}
use Rattle.logged_search.specs.Answers.{IsAnswer}

-- a literal that is false up to some level is so in the steps up to there
false_back : (n m : ℕ) (steps : List Step) (x : ℕ) → IsSoundFor n steps → IsFalseIn (literals_of steps) x → level_at steps (variable_of x) ≤ m → IsFalseIn (literals_of (back_to m steps)) x
false_back n m [] x sound i le = i
false_back n m (s ∷ older) x sound i le = elim (leb_tells (level_of (s ∷ older)) m) [
  | inl within ↦ subst (λ ys. IsFalseIn (literals_of ys) x) (sym (back_to-here m (s ∷ older) within.1)) i
  | inr above ↦ elim i [
    | inl here ↦ absurd (omega (arith, above.1, le, level_here s older (variable_of x) (ap variable_of (sym here) ∙ opposite-variable x)))
    | inr later ↦
        (let apart : variable_of s.literal ≢ variable_of x = λ e. other_variable (literals_of older) s.literal (opposite_of x) sound.1 later (e ∙ sym (opposite-variable x)) in
        subst (λ ys. IsFalseIn (literals_of ys) x) (sym (back_to-older m s older above.1))
        (false_back n m older x sound.2 later (omega (arith, le, level_later s older (variable_of x) apart))))
  ]
]

-- a literal of the steps up to some level has no higher one
level_back : (n m : ℕ) (steps : List Step) (x : ℕ) → IsSoundFor n steps → IsIn x (literals_of (back_to m steps)) → level_at steps (variable_of x) ≤ m
level_back n m [] x sound i = absurd i
level_back n m (s ∷ older) x sound i = elim (leb_tells (level_of (s ∷ older)) m) [
  | inl within ↦ omega (arith, within.1, level_at_most (s ∷ older) (variable_of x))
  | inr above ↦
      (let there : IsIn x (literals_of (back_to m older)) = subst (λ ys. IsIn x (literals_of ys)) (back_to-older m s older above.1) i in
      let apart = other_variable (literals_of older) s.literal x sound.1 (back_among m older x there) in
      omega (arith, level_later s older (variable_of x) apart, level_back n m older x sound.2 there))
]

-- a literal of a higher level has no value there
open_back : (n m : ℕ) (steps : List Step) (x : ℕ) → IsSoundFor n steps → m < level_at steps (variable_of x) → HasNoValueIn (literals_of (back_to m steps)) x
open_back n m steps x sound high = record {
  not_true = λ i. omega (arith, high, level_back n m steps x sound i);
  not_false = λ i. omega (arith, high, level_back n m steps (opposite_of x) sound i, ap (level_at steps) (opposite-variable x));
}

-- going back twice
back_twice : (m k : ℕ) (steps : List Step) → m ≤ k → back_to m (back_to k steps) ≡ back_to m steps
back_twice m k [] le = refl
back_twice m k (s ∷ older) le = elim (leb_tells (level_of (s ∷ older)) k) [
  | inl within ↦ ap (back_to m) (back_to-here k (s ∷ older) within.1)
  | inr above ↦ ap (back_to m) (back_to-older k s older above.1) ∙ back_twice m k older le ∙ sym (back_to-older m s older (omega (arith, above.1, le)))
]

pub back_level : (k : ℕ) (steps : List Step) → level_of (back_to k steps) ≤ k
back_level k [] = omega arith
back_level k (s ∷ older) = elim (leb_tells (level_of (s ∷ older)) k) [
  | inl within ↦ omega (arith, within.1, ap level_of (back_to-here k (s ∷ older) within.1))
  | inr above ↦ omega (arith, back_level k older, ap level_of (back_to-older k s older above.1))
]

-- false literals of which none stands twice are of different variables
false_apart : (trail : List ℕ) (literals : List ℕ) → ((l : ℕ) → IsIn l trail → IsIn (opposite_of l) trail → ⊥) → IsFalseClause trail literals → NoneTwice literals
    → (x y : ℕ) → IsIn x literals → IsIn y literals → variable_of x ≡ variable_of y → x ≡ y
false_apart trail literals consistent falses once x y i j same = elim (same_variable x y same) [
  | inl is ↦ is
  | inr other ↦ absurd (consistent (opposite_of x) (falses x i) (subst (λ z. IsIn z trail) (sym (opposite-opposite x ∙ other)) (falses y j)))
]

pub get_in : (xs : List ℕ) (k d : ℕ) → k < length xs → IsIn (get_or xs k d) xs
get_in [] k d within = absurd (omega (arith, within))
get_in (x ∷ xs) zero d within = inl refl
get_in (x ∷ xs) (suc k) d within = inr (get_in xs k d (omega (arith, within)))

twice : (xs : List ℕ) (i j d : ℕ) → NoneTwice xs → i < j → j < length xs → get_or xs i d ≡ get_or xs j d → ⊥
twice [] i j d once lt within same = omega (arith, within)
twice (x ∷ xs) i zero d once lt within same = omega (arith, lt)
twice (x ∷ xs) zero (suc j) d once lt within same = once.0 (subst (λ y. IsIn y xs) (sym same) (get_in xs j d (omega (arith, within))))
twice (x ∷ xs) (suc i) (suc j) d once lt within same = twice xs i j d once.1 (omega (arith, lt)) (omega (arith, within)) same

apart-by : (literals : List ℕ) → ((x y : ℕ) → IsIn x literals → IsIn y literals → variable_of x ≡ variable_of y → x ≡ y) → NoneTwice literals → AreApart literals
apart-by literals one once i j d lt within same =
    twice literals i j d once lt within (one (get_or literals i d) (get_or literals j d) (get_in literals i d (omega (arith, lt, within))) (get_in literals j d within) same)

all_by : (P : ℕ → Type 0) (xs : List ℕ) → ((x : ℕ) → IsIn x xs → P x) → All P xs
all_by P xs each k d within = each (get_or xs k d) (get_in xs k d within)

-- false literals are those of variables
false_below : (n : ℕ) (steps : List Step) (x : ℕ) → IsSoundFor n steps → IsFalseIn (literals_of steps) x → x < 2 * n
false_below n steps x sound i = below_opposite x n (variable_known n steps (opposite_of x) i sound)

newly_learned : (n : ℕ) (steps : List Step) (rest : List ℕ) (back : ℕ) → IsSoundFor n steps → IsBackLevel steps rest back → IsNewlyFalse (back_to back steps) rest
newly_learned n steps [] back sound is = let low = back_level back steps in let e : back ≡ 0 = is in omega (arith, low, e)
newly_learned n steps (second ∷ more) back sound is = λ some i.
    let low = back_level back steps in
    let lower = level_of (back_to back steps) - 1 in
    let there : IsIn (opposite_of second) (literals_of (back_to lower steps)) = subst (λ ys. IsIn (opposite_of second) (literals_of ys)) (back_twice lower back steps (omega (arith, low))) i in
    let at = level_back n lower steps (opposite_of second) sound there in
    let level : level_at steps (variable_of second) ≡ back = is in
    omega (arith, some, low, at, level, ap (level_at steps) (opposite-variable second))

-- a learned clause answers the conflict, where the pool has room for it
pub learned-answer : (pool : PoolValue) (trail : TrailValue) (learned : List ℕ) (hints : List Hint) (back : ℕ) → IsSoundTrail trail → 0 < level_of trail.steps
    → IsLearned pool trail learned hints back → (IsFull pool (length learned) → ⊥) → IsAnswer pool trail learned hints back
learned-answer pool trail learned hints back sound decided is room =
    let asserting = is.asserting decided in
    let n = trail.variables in
    record {
      known = is.known;
      follows = is.follows;
      below = all_by (λ x. x < 2 * n) learned (λ x i. false_below n trail.steps x sound.steps (is.all_false x i));
      different = is.different;
      apart = apart-by learned (false_apart (literals_of trail.steps) learned (λ l i j. consistent n trail.steps sound.steps l i j) is.all_false is.different) is.different;
      lower = asserting.below;
      next = record {
        first = asserting.first;
        rest = asserting.rest;
        splits = asserting.splits;
        open_value = open_back n back trail.steps asserting.first sound.steps (omega (arith, asserting.below, asserting.newest));
        others_false = λ x i. false_back n back trail.steps x sound.steps (is.all_false x (subst (IsIn x) (sym asserting.splits) (inr i))) (asserting.earlier x i);
        newly = newly_learned n trail.steps asserting.rest back sound.steps asserting.is_back;
      };
      excludes = λ full. absurd (room full);
    }

-- the decisions are of different variables
decisions_once : (n : ℕ) (steps : List Step) → IsSoundFor n steps → NoneTwice (map opposite_of (decisions_of steps))
decisions_once n [] sound = tt
decisions_once n (s ∷ older) sound = elim (bool_cases (Rattle.trail.specs.Steps.is_decision s.reason)) [
  | inl is ↦ subst (λ (ds : List ℕ). NoneTwice (map opposite_of ds)) (sym (ap (λ b. Rattle.std.proofs.Common.cond b (s.literal ∷ decisions_of older) (decisions_of older)) is)) (
    (λ i. (let at = map-IsIn opposite_of (opposite_of s.literal) (decisions_of older) i in
        sound.1.not_true (subst (λ x. IsIn x (literals_of older)) (sym (opposite-injective s.literal at.0 at.2)) (decisions_among older at.0 at.1)))),
    decisions_once n older sound.2,
  )
  | inr not_one ↦ subst (λ (ds : List ℕ). NoneTwice (map opposite_of ds)) (sym (ap (λ b. Rattle.std.proofs.Common.cond b (s.literal ∷ decisions_of older) (decisions_of older)) not_one)) (decisions_once n older sound.2)
]

pub excluded_false : (steps : List Step) (x : ℕ) → IsIn x (map opposite_of (decisions_of steps)) → IsFalseIn (literals_of steps) x
excluded_false steps x i =
    let at = map-IsIn opposite_of x (decisions_of steps) i in
    subst (λ y. IsIn y (literals_of steps)) (sym (opposite-opposite at.0) ∙ sym (ap opposite_of at.2)) (decisions_among steps at.0 at.1)

-- the second literal of such a clause is the opposite of the last decision
newly_excluded : (n : ℕ) (steps : List Step) (decisions : List ℕ) → IsSoundFor n steps → decisions_of steps ≡ decisions → IsNewlyFalse steps (map opposite_of decisions)
newly_excluded n steps [] sound is = none steps is
  where
    none : (steps : List Step) → decisions_of steps ≡ [] → level_of steps ≡ 0
    none [] is = refl
    none (s ∷ older) is = elim (Rattle.search_steps.proofs.Returning.decides s.reason) [
      | inl one ↦ absurd (let no : s.literal ∷ decisions_of older ≡ [] = sym (ap (λ b. Rattle.std.proofs.Common.cond b (s.literal ∷ decisions_of older) (decisions_of older)) one.0) ∙ is in cc)
      | inr not_one ↦ (let rest = none older (sym (ap (λ b. Rattle.std.proofs.Common.cond b (s.literal ∷ decisions_of older) (decisions_of older)) not_one.0) ∙ is) in omega (arith, rest, not_one.1))
    ]
newly_excluded n steps (d ∷ ds) sound is = λ some i.
    let last = last_decision n steps d ds sound is in
    last.open_value.not_true (subst (λ x. IsIn x (literals_of (back_to (level_of steps - 1) steps))) (opposite-opposite d) i)

some_decision : (n : ℕ) (steps : List Step) → 0 < level_of steps → (d : ℕ) × (ds : List ℕ) × (decisions_of steps ≡ d ∷ ds)
some_decision n [] decided = absurd (omega (arith, decided))
some_decision n (s ∷ older) decided = elim (Rattle.search_steps.proofs.Returning.decides s.reason) [
  | inl one ↦ (s.literal, decisions_of older, ap (λ b. Rattle.std.proofs.Common.cond b (s.literal ∷ decisions_of older) (decisions_of older)) one.0)
  | inr not_one ↦ (let rest = some_decision n older (omega (arith, decided, not_one.1)) in
      (rest.0, rest.1, ap (λ b. Rattle.std.proofs.Common.cond b (s.literal ∷ decisions_of older) (decisions_of older)) not_one.0 ∙ rest.2))
]

back_sound : (n m : ℕ) (steps : List Step) → IsSoundFor n steps → IsSoundFor n (back_to m steps)
back_sound n m [] sound = sound
back_sound n m (s ∷ older) sound = elim (leb_tells (level_of (s ∷ older)) m) [
  | inl within ↦ subst (IsSoundFor n) (sym (back_to-here m (s ∷ older) within.1)) sound
  | inr above ↦ subst (IsSoundFor n) (sym (back_to-older m s older above.1)) (back_sound n m older sound.2)
]

-- the clause of the decisions answers every conflict
pub exclusion-answer : (pool : PoolValue) (trail : TrailValue) (learned : List ℕ) (hints : List Hint) → IsSoundTrail trail → 0 < level_of trail.steps
    → IsExclusion pool trail learned hints → IsAnswer pool trail learned hints (level_of trail.steps - 1)
exclusion-answer pool trail learned hints sound decided is =
    let n = trail.variables in
    let back = back_to (level_of trail.steps - 1) trail.steps in
    let some = some_decision n trail.steps decided in
    let last = last_decision n trail.steps some.0 some.1 sound.steps some.2 in
    let falses : IsFalseClause (literals_of trail.steps) learned = λ x i. excluded_false trail.steps x (subst (IsIn x) is.decisions i) in
    let once : NoneTwice learned = subst NoneTwice (sym is.decisions) (decisions_once n trail.steps sound.steps) in
    let splits : learned ≡ opposite_of some.0 ∷ map opposite_of (decisions_of back) = is.decisions ∙ ap (map opposite_of) some.2 ∙ ap (λ (ds : List ℕ). opposite_of some.0 ∷ map opposite_of ds) (sym last.earlier_are) in
    record {
      known = is.known;
      follows = is.follows;
      below = all_by (λ x. x < 2 * n) learned (λ x i. false_below n trail.steps x sound.steps (falses x i));
      different = once;
      apart = apart-by learned (false_apart (literals_of trail.steps) learned (λ l i j. consistent n trail.steps sound.steps l i j) falses once) once;
      lower = omega (arith, decided);
      next = record {
        first = opposite_of some.0;
        rest = map opposite_of (decisions_of back);
        splits = splits;
        open_value = open_opposite (literals_of back) (opposite_of some.0) (subst (HasNoValueIn (literals_of back)) (sym (opposite-opposite some.0)) last.open_value);
        others_false = λ x i. excluded_false back x i;
        newly = newly_excluded n back (decisions_of back) (back_sound n (level_of trail.steps - 1) trail.steps sound.steps) refl;
      };
      excludes = λ full. record { first = opposite_of some.0; clause = splits };
    }
