-- Clauses that are added before any decision.
use Rattle.std.proofs.Common.{◌≡◌, ℕ, ◌+◌, ◌*◌, ◌<◌, inl, inr, Bool, true, false, ◌==◌, List, [], ◌∷◌, Option, Some, None, length, get_or, set, refl, sym, ◌∙◌, ap, subst, arith}
use Rattle.std.specs.List.{All}
use Rattle.std.proofs.lemmas.Bool.{cases_eq}
use Rattle.std.proofs.lemmas.Bool.Decides.{eqb_tells}
use Rattle.clause_pool.specs.PoolValue.{PoolValue, IsIn, NoneTwice, IsFree, clause_at, put_clause}
use Rattle.clause_pool.proofs.Sound.{some_literals, none_literals, clause_at-set_same, clause_at-set_other, IsSound-put}
use Rattle.clause_pool.proofs.InUse.{length-put}
use Rattle.literals.specs.Propagation.{IsFalseClause, HasNoValueIn}
use Rattle.trail.specs.Steps.{TrailValue, literals_of, level_of, rise_of, back_to, with_step}
use Rattle.trail.specs.declared.step.Reason.{Reason}
use Rattle.trail.specs.declared.step.Reason.TheVariants.{Decision, Clause, Decisions}
use Rattle.trail.specs.declared.step.Step.{Step}
use Rattle.trail.proofs.Back.{back_to-here}
use Rattle.propagation.specs.Ready.{IsFit}
use Rattle.propagation.specs.Watches.{WereWatched, AreWatchedBelow, HasReason, HaveReasons}
use Rattle.search_steps.specs.States.{HasTrue, AreUnitsTrue, IsState}
use Rattle.search_steps.specs.Adding.{IsFirstConflict}
use Rattle.search_steps.specs.declared.state.State.{State}
use Rattle.search_steps.proofs.Values.{waiting_grown}
use Rattle.search_steps.proofs.Keeping.{sound_with, first_kept}

undecided_here : (clauses : List (Option (List ℕ))) (reason : Reason) (older : List ℕ) (n : ℕ) → n + rise_of reason ≡ 0 → WereWatched clauses reason older
undecided_here clauses Decision older n e = absurd (omega (arith, e))
undecided_here clauses (Clause clause) older n e = tt
undecided_here clauses Decisions older n e = tt

undecided_below : (clauses : List (Option (List ℕ))) (steps : List Step) → level_of steps ≡ 0 → AreWatchedBelow clauses steps
undecided_below clauses [] e = tt
undecided_below clauses (s ∷ older) e = (undecided_here clauses s.reason (literals_of older) (level_of older) e, undecided_below clauses older (omega (arith, e)))

-- a clause that was there is there with one more
pub found_more : (clauses : List (Option (List ℕ))) (c k : ℕ) (ls ms : List ℕ) → clause_at clauses c ≡ None → clause_at clauses k ≡ Some ms → clause_at (set clauses c (Some ls)) k ≡ Some ms
found_more clauses c k ls ms free found =
    clause_at-set_other clauses c k (Some ls) (λ e. none_literals ms (sym free ∙ ap (clause_at clauses) (sym e) ∙ found)) ∙ found

reason_more : (clauses : List (Option (List ℕ))) (c : ℕ) (ls older : List ℕ) (literal : ℕ) (reason : Reason) → clause_at clauses c ≡ None → HasReason clauses older literal reason → HasReason (set clauses c (Some ls)) older literal reason
reason_more clauses c ls older literal Decision free h = tt
reason_more clauses c ls older literal (Clause k) free h = record { literals = h.literals; found = found_more clauses c k ls h.literals free h.found; unit = h.unit }
reason_more clauses c ls older literal Decisions free h = tt

pub reasons_more : (clauses : List (Option (List ℕ))) (c : ℕ) (ls : List ℕ) (steps : List Step) → clause_at clauses c ≡ None → HaveReasons clauses steps → HaveReasons (set clauses c (Some ls)) steps
reasons_more clauses c ls [] free h = tt
reasons_more clauses c ls (s ∷ older) free h = (reason_more clauses c ls (literals_of older) s.literal s.reason free h.0, reasons_more clauses c ls older free h.1)

pub fit_put : (pool : PoolValue) (trail : TrailValue) (c : ℕ) (ls : List ℕ) → IsFit pool trail → level_of trail.steps ≡ 0 → IsFree pool c → All (λ x. x < 2 * trail.variables) ls → NoneTwice ls → IsFit (put_clause pool c ls) trail
fit_put pool trail c ls fit undecided free below once = record {
  sound = IsSound-put pool c ls fit.sound free.0 free.1 (subst (λ n. All (λ x. x < n) ls) (sym fit.literals) below) once;
  trail_sound = fit.trail_sound;
  literals = length-put pool (put_clause pool c ls) c ls refl ∙ fit.literals;
  below = undecided_below (put_clause pool c ls).clauses trail.steps undecided;
  reasons = reasons_more pool.clauses c ls trail.steps free.1 fit.reasons;
}

pub units_put : (clauses : List (Option (List ℕ))) (steps : List Step) (c : ℕ) (ls : List ℕ) → c < length clauses → (length ls < 2 → HasTrue (literals_of (back_to 0 steps)) ls) → AreUnitsTrue clauses steps → AreUnitsTrue (set clauses c (Some ls)) steps
units_put clauses steps c ls lt new units k ms found few = elim (cases_eq k c) [
  | inl same ↦
      (let is : ls ≡ ms = some_literals ls ms (sym (clause_at-set_same clauses c (Some ls) lt) ∙ ap (clause_at (set clauses c (Some ls))) (sym same) ∙ found) in
      subst (HasTrue (literals_of (back_to 0 steps))) is (new (subst (λ xs. length xs < 2) (sym is) few)))
  | inr ne ↦ units k ms (sym (clause_at-set_other clauses c k (Some ls) ne) ∙ found) few
]

-- a clause of two or more literals, or one that is true
pub state_put : (state : State) (pool : PoolValue) (c : ℕ) (ls : List ℕ) → IsState state → level_of state.trail.steps ≡ 0 → IsFree state.pool c → pool ≡ put_clause state.pool c ls → All (λ x. x < 2 * state.trail.variables) ls → NoneTwice ls → (length ls < 2 → HasTrue (literals_of state.trail.steps) ls) → IsState (record { pool = pool; trail = state.trail; order = state.order })
state_put state pool c ls is undecided free e below once new =
    subst (λ (p : PoolValue). IsState (record { pool = p; trail = state.trail; order = state.order })) (sym e) (record {
      fit = fit_put state.pool state.trail c ls is.fit undecided free below once;
      units = units_put state.pool.clauses state.trail.steps c ls free.0 (λ few. subst (λ ys. HasTrue (literals_of ys) ls) (sym (back_to-here 0 state.trail.steps (omega (arith, undecided)))) (new few)) is.units;
      waiting = is.waiting;
      variables = is.variables;
      few = is.few;
    })

pub only_one : (ls : List ℕ) → length ls < 2 → 0 < length ls → ls ≡ get_or ls 0 0 ∷ []
only_one [] few some = absurd (omega (arith, some))
only_one (x ∷ []) few some = refl
only_one (x ∷ y ∷ ls) few some = absurd (omega (arith, few))

-- a clause of one literal that has become true
pub state_put_one : (state : State) (pool : PoolValue) (trail : TrailValue) (c l : ℕ) (ls : List ℕ) → IsState state → level_of state.trail.steps ≡ 0 → IsFree state.pool c → pool ≡ put_clause state.pool c ls → All (λ x. x < 2 * state.trail.variables) ls → NoneTwice ls → ls ≡ l ∷ [] → l < 2 * state.trail.variables → trail ≡ with_step state.trail l (Clause c) → HasNoValueIn (literals_of state.trail.steps) l → IsState (record { pool = pool; trail = trail; order = state.order })
state_put_one state pool trail c l ls is undecided free e below once one lt et none =
    let p = put_clause state.pool c ls in
    let t = with_step state.trail l (Clause c) in
    let fit = fit_put state.pool state.trail c ls is.fit undecided free below once in
    let fit_now : IsFit p t = record {
      sound = fit.sound;
      trail_sound = sound_with state.trail l (Clause c) is.fit.trail_sound lt none;
      literals = fit.literals;
      below = (tt, fit.below);
      reasons = (
        record {
          literals = ls;
          found = clause_at-set_same state.pool.clauses c (Some ls) free.0;
          unit = record {
            member = subst (IsIn l) (sym one) (inl refl);
            others_false = λ x i ne. elim (subst (IsIn x) one i) [ inl same ↦ absurd (ne same) | inr none ↦ absurd none ];
          };
        },
        fit.reasons,
      );
    } in
    let first : back_to 0 t.steps ≡ t.steps = back_to-here 0 t.steps (omega (arith, undecided)) in
    subst (λ (q : PoolValue). IsState (record { pool = q; trail = trail; order = state.order })) (sym e)
    (subst (λ (v : TrailValue). IsState (record { pool = p; trail = v; order = state.order })) (sym et) (record {
      fit = fit_now;
      units = units_put state.pool.clauses t.steps c ls free.0
          (λ few. record { literal = l; member = subst (IsIn l) (sym one) (inl refl); is_true = subst (λ ys. IsIn l (literals_of ys)) (sym first) (inl refl) })
          (λ k ms found few. (let h = is.units k ms found few in record { literal = h.literal; member = h.member; is_true = first_kept (record { literal = l; reason = Clause c } ∷ []) state.trail.steps h.literal h.is_true }));
      waiting = waiting_grown t.steps (record { literal = l; reason = Clause c } ∷ []) state.trail.steps state.order refl is.waiting;
      variables = is.variables;
      few = is.few;
    }))

-- a clause that is false
pub first_conflict : (state : State) (pool : PoolValue) (trail : TrailValue) (c : ℕ) (ls : List ℕ) → IsState state → level_of state.trail.steps ≡ 0 → IsFree state.pool c → pool ≡ put_clause state.pool c ls → All (λ x. x < 2 * state.trail.variables) ls → NoneTwice ls → trail ≡ state.trail → IsFalseClause (literals_of state.trail.steps) ls → IsFirstConflict (record { pool = pool; trail = trail; order = state.order }) c
first_conflict state pool trail c ls is undecided free e below once et all =
    subst (λ (q : PoolValue). IsFirstConflict (record { pool = q; trail = trail; order = state.order }) c) (sym e)
    (subst (λ (v : TrailValue). IsFirstConflict (record { pool = put_clause state.pool c ls; trail = v; order = state.order }) c) (sym et) (record {
      fit = fit_put state.pool state.trail c ls is.fit undecided free below once;
      conflict = record {
        literals = ls;
        found = clause_at-set_same state.pool.clauses c (Some ls) free.0;
        all_false = all;
        newly = λ some. absurd (omega (arith, some, undecided));
      };
    }))

pub zero_from : (n : ℕ) (b : Bool) → b ≡ (n == 0) → b ≡ true → n ≡ 0
zero_from n b e is = elim (eqb_tells n 0) [ inl same ↦ same.1 | inr differ ↦ absurd (let no : ⊥ = cc (differ.0, e, is) in no) ]

pub some_from : (n : ℕ) (b : Bool) → b ≡ (n == 0) → b ≡ false → 0 < n
some_from n b e is = elim (eqb_tells n 0) [ inl same ↦ absurd (let no : ⊥ = cc (same.0, e, is) in no) | inr differ ↦ omega (arith, differ.1) ]

pub none_in : (x : ℕ) (ls : List ℕ) → length ls ≡ 0 → IsIn x ls → ⊥
none_in x [] e i = i
none_in x (y ∷ ls) e i = omega (arith, e)
