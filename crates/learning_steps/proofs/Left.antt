-- A clause that is taken out.
use Rattle.std.proofs.Common.{◌≡◌, ◌≢◌, ℕ, inl, inr, zero, suc, cond, List, [], ◌∷◌, Option, Some, None, set, refl, sym, ◌∙◌, ap, subst}
use Rattle.std.proofs.lemmas.Bool.{cases_eq}
use Rattle.std.proofs.lemmas.Bool.Decides.{eqb_tells}
use Rattle.clause_pool.specs.PoolValue.{PoolValue, IsIn, clause_at, forget_clause}
use Rattle.clause_pool.proofs.Sound.{clause_at-set_other, IsSound-forget, IsSound-compact, none_literals, some_literals}
use Rattle.clause_pool.proofs.InUse.{length-forget}
use Rattle.literals.specs.Literal.{variable_of, opposite_of}
use Rattle.literals.specs.Propagation.{IsTrueIn, HasNoValueIn}
use Rattle.literals.proofs.Opposites.{same_variable, opposite-opposite}
use Rattle.trail.specs.Steps.{literals_of, reason_at, IsSoundFor}
use Rattle.trail.specs.declared.step.Reason.{Reason}
use Rattle.trail.specs.declared.step.Reason.TheVariants.{Decision, Clause, Decisions}
use Rattle.trail.specs.declared.step.Step.{Step}
use Rattle.propagation.specs.Watches.{AreWatched, WereWatched, AreWatchedBelow, HasReason, HaveReasons}
use Rattle.search_steps.specs.States.{IsState}
use Rattle.search_steps.specs.declared.state.State.{State}
use Rattle.learning_steps.specs.Reasons.{IsReasonIn}

-- a clause that is left was there
found_before : (clauses : List (Option (List ℕ))) (c k : ℕ) (ls : List ℕ) → clause_at (set clauses c None) k ≡ Some ls → clause_at clauses k ≡ Some ls
found_before clauses c k ls found = elim (cases_eq k c) [
  | inl same ↦ absurd (none_literals ls (sym (gone clauses c) ∙ ap (clause_at (set clauses c None)) (sym same) ∙ found))
  | inr differs ↦ sym (clause_at-set_other clauses c k None differs) ∙ found
]
  where
    gone : (clauses : List (Option (List ℕ))) (c : ℕ) → clause_at (set clauses c None) c ≡ None
    gone [] c = refl
    gone (x ∷ xs) zero = refl
    gone (x ∷ xs) (suc c) = gone xs c

pub watched_left : (clauses : List (Option (List ℕ))) (c : ℕ) (done trail : List ℕ) → AreWatched done trail clauses → AreWatched done trail (set clauses c None)
watched_left clauses c done trail old k ks found = old k ks (found_before clauses c k ks found)

were_left : (clauses : List (Option (List ℕ))) (c : ℕ) (reason : Reason) (older : List ℕ) → WereWatched clauses reason older → WereWatched (set clauses c None) reason older
were_left clauses c Decision older was = watched_left clauses c older older was
were_left clauses c (Clause k) older was = tt
were_left clauses c Decisions older was = tt

below_left : (clauses : List (Option (List ℕ))) (c : ℕ) (steps : List Step) → AreWatchedBelow clauses steps → AreWatchedBelow (set clauses c None) steps
below_left clauses c [] below = tt
below_left clauses c (s ∷ older) below = (were_left clauses c s.reason (literals_of older) below.0, below_left clauses c older below.1)

reason_left : (clauses : List (Option (List ℕ))) (c : ℕ) (older : List ℕ) (literal : ℕ) (reason : Reason) → (reason ≡ Clause c → ⊥) → HasReason clauses older literal reason → HasReason (set clauses c None) older literal reason
reason_left clauses c older literal Decision free h = tt
reason_left clauses c older literal (Clause k) free h = record { literals = h.literals; found = clause_at-set_other clauses c k None (λ same. free (ap Clause same)) ∙ h.found; unit = h.unit }
reason_left clauses c older literal Decisions free h = tt

reasons_left : (clauses : List (Option (List ℕ))) (c : ℕ) (steps : List Step) → (IsReasonIn steps c → ⊥) → HaveReasons clauses steps → HaveReasons (set clauses c None) steps
reasons_left clauses c [] free h = tt
reasons_left clauses c (s ∷ older) free h = (reason_left clauses c (literals_of older) s.literal s.reason (λ same. free (inl same)) h.0, reasons_left clauses c older (λ r. free (inr r)) h.1)

pub state_left : (state : State) (c : ℕ) → IsState state → (IsReasonIn state.trail.steps c → ⊥) → IsState (record { pool = forget_clause state.pool c; trail = state.trail; order = state.order })
state_left state c is free = record {
  fit = record {
    sound = IsSound-forget state.pool c is.fit.sound;
    trail_sound = is.fit.trail_sound;
    literals = length-forget state.pool (forget_clause state.pool c) c refl ∙ is.fit.literals;
    below = below_left state.pool.clauses c state.trail.steps is.fit.below;
    reasons = reasons_left state.pool.clauses c state.trail.steps free is.fit.reasons;
  };
  units = λ k ms found few. is.units k ms (found_before state.pool.clauses c k ms found) few;
  waiting = is.waiting;
  variables = is.variables;
  few = is.few;
}

pub state_compact : (state : State) → IsState state → IsState (record { pool = Rattle.clause_pool.specs.PoolValue.compact_pool state.pool; trail = state.trail; order = state.order })
state_compact state is = record {
  fit = record {
    sound = IsSound-compact state.pool is.fit.sound;
    trail_sound = is.fit.trail_sound;
    literals = is.fit.literals;
    below = is.fit.below;
    reasons = is.fit.reasons;
  };
  units = is.units;
  waiting = is.waiting;
  variables = is.variables;
  few = is.few;
}

-- which literal a clause is the reason of
pub reason_in : (steps : List Step) (variable c : ℕ) → reason_at steps variable ≡ Clause c → IsReasonIn steps c
reason_in [] variable c is = absurd (let e : Decision ≡ Clause c = is in cc)
reason_in (s ∷ older) variable c is = elim (eqb_tells (variable_of s.literal) variable) [
  | inl same ↦ inl (sym (ap (λ b. cond b s.reason (reason_at older variable)) same.0) ∙ is)
  | inr differ ↦ inr (reason_in older variable c (sym (ap (λ b. cond b s.reason (reason_at older variable)) differ.0) ∙ is))
]

other_variable : (trail : List ℕ) (l m : ℕ) → HasNoValueIn trail l → IsIn m trail → variable_of l ≢ variable_of m
other_variable trail l m none i same = elim (same_variable l m same) [
  | inl is ↦ none.not_true (subst (λ x. IsIn x trail) (sym is) i)
  | inr is ↦ none.not_false (subst (λ x. IsIn x trail) (sym (ap opposite_of is ∙ opposite-opposite m)) i)
]

pub record IsReasonAt (steps : List Step) (ls : List ℕ) (c : ℕ) : Type 0 where
  pub literal : ℕ
  pub member : IsIn literal ls
  pub is_true : IsTrueIn (literals_of steps) literal
  pub reason : reason_at steps (variable_of literal) ≡ Clause c

here_at : (clauses : List (Option (List ℕ))) (s : Step) (older : List Step) (c : ℕ) (ls : List ℕ) (reason : Reason) → HasReason clauses (literals_of older) s.literal reason → clause_at clauses c ≡ Some ls
    → reason ≡ Clause c → IsIn s.literal ls
here_at clauses s older c ls Decision has found is = absurd (cc)
here_at clauses s older c ls Decisions has found is = absurd (cc)
here_at clauses s older c ls (Clause k) has found is =
    let same : k ≡ c = cc in
    subst (IsIn s.literal) (some_literals has.literals ls (sym has.found ∙ ap (clause_at clauses) same ∙ found)) has.unit.member

pub reason_at_member : (n : ℕ) (clauses : List (Option (List ℕ))) (steps : List Step) (c : ℕ) (ls : List ℕ) → IsSoundFor n steps → HaveReasons clauses steps → clause_at clauses c ≡ Some ls
    → IsReasonIn steps c → IsReasonAt steps ls c
reason_at_member n clauses [] c ls sound has found none = absurd none
reason_at_member n clauses (s ∷ older) c ls sound has found (inl is) = record {
  literal = s.literal;
  member = here_at clauses s older c ls s.reason has.0 found is;
  is_true = inl refl;
  reason = elim (eqb_tells (variable_of s.literal) (variable_of s.literal)) [
    | inl same ↦ ap (λ b. cond b s.reason (reason_at older (variable_of s.literal))) same.0 ∙ is
    | inr differ ↦ absurd (differ.1 refl)
  ];
}
reason_at_member n clauses (s ∷ older) c ls sound has found (inr later) =
    let at = reason_at_member n clauses older c ls sound.2 has.1 found later in
    record {
      literal = at.literal;
      member = at.member;
      is_true = inr at.is_true;
      reason = elim (eqb_tells (variable_of s.literal) (variable_of at.literal)) [
        | inl same ↦ absurd (other_variable (literals_of older) s.literal at.literal sound.1 at.is_true same.1)
        | inr differ ↦ ap (λ b. cond b s.reason (reason_at older (variable_of at.literal))) differ.0 ∙ at.reason
      ];
    }
