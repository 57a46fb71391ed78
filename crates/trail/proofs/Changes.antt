-- The arrays after a step, and after a step was taken back.
use Rattle.std.proofs.Common.{◌≡◌, ◌≢◌, ℕ, ◌+◌, ◌-◌, ◌*◌, ◌<◌, ◌≤◌, ◌^◌, inl, inr, List, [], ◌∷◌, length, set, replicate, refl, sym, ◌∙◌, ap, subst, arith}
use Rattle.std.proofs.lemmas.Bool.{cases_eq}
use Rattle.std.proofs.lemmas.List.{get_or-set_same, get_or-set_other, length-set, get_or-replicate, length-replicate}
use Rattle.clause_pool.specs.PoolValue.{IsIn}
use Rattle.literals.specs.Literal.{variable_of, opposite_of}
use Rattle.literals.specs.Propagation.{HasNoValueIn}
use Rattle.literals.proofs.Opposites.{opposite-opposite, opposite-other, opposite-below, variable-below}
use Rattle.trail.specs.Steps.{literals_of, rise_of, HasValue, IsSoundFor}
use Rattle.trail.specs.Arrays.{value_at, no_place, AreValues, AreRecorded, IsTrail}
use Rattle.trail.specs.declared.step.Reason.{Reason}
use Rattle.trail.specs.declared.step.Step.{Step}
use Rattle.trail.specs.declared.step.Value.{Value}
use Rattle.trail.specs.declared.step.Value.TheVariants.{Open, True, False}
use Rattle.trail.specs.declared.step.Assigned.{Assigned}
use Rattle.trail.proofs.Soundness.{open_variable, open_older, few_steps}

value_at-here : (values : List Value) (l : ℕ) (v w : Value) → l < length values → value_at (set (set values l v) (opposite_of l) w) l ≡ v
value_at-here values l v w lt =
    get_or-set_other (set values l v) (opposite_of l) l w Open (λ e. opposite-other l (sym e)) ∙ get_or-set_same values l v Open lt

value_at-opposite : (values : List Value) (l : ℕ) (v w : Value) → opposite_of l < length values → value_at (set (set values l v) (opposite_of l) w) (opposite_of l) ≡ w
value_at-opposite values l v w lt =
    get_or-set_same (set values l v) (opposite_of l) w Open (subst (λ n. opposite_of l < n) (sym (length-set values l v)) lt)

value_at-elsewhere : (values : List Value) (l m : ℕ) (v w : Value) → m ≢ l → m ≢ opposite_of l → value_at (set (set values l v) (opposite_of l) w) m ≡ value_at values m
value_at-elsewhere values l m v w ne far =
    get_or-set_other (set values l v) (opposite_of l) m w Open far ∙ get_or-set_other values l m v Open ne

-- a literal of another variable keeps its value
HasValue-more : (trail : List ℕ) (l m : ℕ) (v : Value) → m ≢ l → m ≢ opposite_of l → HasValue trail m v → HasValue (l ∷ trail) m v
HasValue-more trail l m Open ne far h = record {
  not_true = λ i. elim i [ inl e ↦ ne e | inr r ↦ h.not_true r ];
  not_false = λ i. elim i [ inl e ↦ far (sym (opposite-opposite m) ∙ ap opposite_of e) | inr r ↦ h.not_false r ];
}
HasValue-more trail l m True ne far h = inr h
HasValue-more trail l m False ne far h = inr h

HasValue-less : (trail : List ℕ) (l m : ℕ) (v : Value) → m ≢ l → m ≢ opposite_of l → HasValue (l ∷ trail) m v → HasValue trail m v
HasValue-less trail l m Open ne far h = open_older trail m l h
HasValue-less trail l m True ne far h = elim h [ inl e ↦ absurd (ne e) | inr r ↦ r ]
HasValue-less trail l m False ne far h = elim h [ inl e ↦ absurd (far (sym (opposite-opposite m) ∙ ap opposite_of e)) | inr r ↦ r ]

-- no value of a literal is one for its opposite
open_opposite : (trail : List ℕ) (l : ℕ) → HasNoValueIn trail l → HasNoValueIn trail (opposite_of l)
open_opposite trail l none = record {
  not_true = none.not_false;
  not_false = λ i. none.not_true (subst (λ x. IsIn x trail) (opposite-opposite l) i);
}

AreValues-more : (trail : List ℕ) (values : List Value) (l : ℕ) → AreValues trail values → l < length values → opposite_of l < length values → AreValues (l ∷ trail) (set (set values l True) (opposite_of l) False)
AreValues-more trail values l all lt opposite_lt m below = elim (cases_eq m l) [
  | inl e ↦ subst (λ x. HasValue (l ∷ trail) x (value_at (set (set values l True) (opposite_of l) False) x)) (sym e)
      (subst (HasValue (l ∷ trail) l) (sym (value_at-here values l True False lt)) (inl refl))
  | inr ne ↦ elim (cases_eq m (opposite_of l)) [
    | inl e ↦ subst (λ x. HasValue (l ∷ trail) x (value_at (set (set values l True) (opposite_of l) False) x)) (sym e)
        (subst (HasValue (l ∷ trail) (opposite_of l)) (sym (value_at-opposite values l True False opposite_lt)) (inl (opposite-opposite l)))
    | inr far ↦ subst (HasValue (l ∷ trail) m) (sym (value_at-elsewhere values l m True False ne far))
        (HasValue-more trail l m (value_at values m) ne far (all m (omega (arith, below, length-set (set values l True) (opposite_of l) False, length-set values l True))))
  ]
]

AreValues-less : (trail : List ℕ) (values : List Value) (l : ℕ) → HasNoValueIn trail l → AreValues (l ∷ trail) values → l < length values → opposite_of l < length values → AreValues trail (set (set values l Open) (opposite_of l) Open)
AreValues-less trail values l none all lt opposite_lt m below = elim (cases_eq m l) [
  | inl e ↦ subst (λ x. HasValue trail x (value_at (set (set values l Open) (opposite_of l) Open) x)) (sym e)
      (subst (HasValue trail l) (sym (value_at-here values l Open Open lt)) none)
  | inr ne ↦ elim (cases_eq m (opposite_of l)) [
    | inl e ↦ subst (λ x. HasValue trail x (value_at (set (set values l Open) (opposite_of l) Open) x)) (sym e)
        (subst (HasValue trail (opposite_of l)) (sym (value_at-opposite values l Open Open opposite_lt)) (open_opposite trail l none))
    | inr far ↦ subst (HasValue trail m) (sym (value_at-elsewhere values l m Open Open ne far))
        (HasValue-less trail l m (value_at values m) ne far (all m (omega (arith, below, length-set (set values l Open) (opposite_of l) Open, length-set values l Open))))
  ]
]

AreRecorded-set : (assigned : List Assigned) (steps : List Step) (l : ℕ) (a : Assigned) → HasNoValueIn (literals_of steps) l → AreRecorded assigned steps → AreRecorded (set assigned (variable_of l) a) steps
AreRecorded-set assigned [] l a none r = tt
AreRecorded-set assigned (s ∷ older) l a none r = (
  get_or-set_other assigned (variable_of l) (variable_of s.literal) a no_place (open_variable (literals_of older) l s.literal none) ∙ r.0,
  AreRecorded-set assigned older l a (open_older (literals_of older) l s.literal none) r.1,
)

pub IsTrail-assign : (steps : List Step) (values : List Value) (assigned : List Assigned) (level capacity l : ℕ) (reason : Reason) → IsTrail steps values assigned level capacity → l < 2 * length assigned → HasNoValueIn (literals_of steps) l → IsTrail (record { literal = l; reason = reason } ∷ steps) (set (set values l True) (opposite_of l) False) (set assigned (variable_of l) (record { level = level + rise_of reason; place = length steps })) (level + rise_of reason) capacity
IsTrail-assign steps values assigned level capacity l reason t lt none =
    let step : Step = record { literal = l; reason = reason } in
    let a : Assigned = record { level = level + rise_of reason; place = length steps } in
    let same : length (set assigned (variable_of l) a) ≡ length assigned = length-set assigned (variable_of l) a in
    record {
      sound = subst (λ n. IsSoundFor n (step ∷ steps)) (sym same) (lt, none, t.sound);
      few_variables = omega (arith, same, t.few_variables);
      values_fit = length-set (set values l True) (opposite_of l) False ∙ length-set values l True ∙ t.values_fit ∙ ap (λ n. 2 * n) (sym same);
      room = omega (arith, same, t.room);
      are_values = AreValues-more (literals_of steps) values l t.are_values (subst (λ n. l < n) (sym t.values_fit) lt) (subst (λ n. opposite_of l < n) (sym t.values_fit) (opposite-below l (length assigned) lt));
      are_recorded = (
        get_or-set_same assigned (variable_of l) a no_place (variable-below l (length assigned) lt)
            ∙ ap (λ n. let b : Assigned = record { level = n + rise_of reason; place = length steps } in b) t.is_level,
        AreRecorded-set assigned steps l a none t.are_recorded,
      );
      is_level = ap (λ n. n + rise_of reason) t.is_level;
    }

pub IsTrail-take_back : (step : Step) (older : List Step) (values : List Value) (assigned : List Assigned) (level capacity : ℕ) → IsTrail (step ∷ older) values assigned level capacity → IsTrail older (set (set values step.literal Open) (opposite_of step.literal) Open) assigned (level - rise_of step.reason) capacity
IsTrail-take_back step older values assigned level capacity t =
    let l : ℕ = step.literal in
    record {
      sound = t.sound.2;
      few_variables = t.few_variables;
      values_fit = length-set (set values l Open) (opposite_of l) Open ∙ length-set values l Open ∙ t.values_fit;
      room = t.room;
      are_values = AreValues-less (literals_of older) values l t.sound.1 t.are_values (subst (λ n. l < n) (sym t.values_fit) t.sound.0) (subst (λ n. opposite_of l < n) (sym t.values_fit) (opposite-below l (length assigned) t.sound.0));
      are_recorded = t.are_recorded.1;
      is_level = omega (arith, t.is_level);
    }

-- the trail has room for a literal without a value
pub room_for : (n : ℕ) (steps : List Step) (l : ℕ) (reason : Reason) → IsSoundFor n steps → l < 2 * n → HasNoValueIn (literals_of steps) l → length steps < n
room_for n steps l reason sound lt none = omega (arith, few_steps n (record { literal = l; reason = reason } ∷ steps) (lt, none, sound))

pub IsTrail-open : (assigned : List Assigned) (capacity : ℕ) → length assigned < 2 ^ 31 → length assigned ≤ capacity → IsTrail [] (replicate (2 * length assigned) Open) assigned 0 capacity
IsTrail-open assigned capacity few room = record {
  sound = tt;
  few_variables = few;
  values_fit = length-replicate (2 * length assigned) Open;
  room = room;
  are_values = λ l lt. subst (HasValue [] l) (sym (get_or-replicate (2 * length assigned) l Open Open (omega (arith, lt, length-replicate (2 * length assigned) Open)))) (record { not_true = λ i. i; not_false = λ i. i });
  are_recorded = tt;
  is_level = refl;
}
