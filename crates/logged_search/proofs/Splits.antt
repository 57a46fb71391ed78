-- What the names of reasons say of the steps of a trail.
use Rattle.std.proofs.Common.{◌≡◌, ◌≢◌, ◌+◌, ◌<◌, ◌∙◌, ℕ, List, [], ◌∷◌, ◌++◌, Option, cond, true, false, inl, inr, refl, sym, ap, subst, append_assoc, arith, map}
use Rattle.std.proofs.lemmas.Bool.{cases_eq}
use Rattle.clause_pool.specs.PoolValue.{IsIn}
use Rattle.literals.specs.Literal.{opposite_of, positive_of, variable_of}
use Rattle.literals.specs.Propagation.{HasNoValueIn, IsUnitBut}
use Rattle.literals.proofs.Members.{IsIn-map}
use Rattle.literals.proofs.Opposites.{opposite-opposite}
use Rattle.trail.specs.Steps.{IsSoundFor, back_to, decisions_of, is_decision, level_of, literals_of}
use Rattle.trail.specs.declared.step.Reason.{Reason}
use Rattle.trail.specs.declared.step.Reason.TheVariants.{Decision, Clause, Decisions}
use Rattle.trail.specs.declared.step.Step.{Step}
use Rattle.trail.proofs.Back.{back_to-older}
use Rattle.propagation.specs.Watches.{AreWatchedBelow, HasReason, HaveReasons, WereWatched}
use Rattle.propagation.proofs.Consistency.{among}
use Rattle.conflict_analysis.proofs.Newest.{bool_cases, rise_end, sound_older}
use Rattle.var_names.specs.Formulas.{FormulaValue}
use Rattle.search_steps.proofs.Values.{variable_positive}
use Rattle.search_log.specs.declared.name.Name.{Name}
use Rattle.search_log.specs.declared.name.Name.TheVariants.{Unnamed, Ruled, Numbered}
use Rattle.search_log.specs.Names.{IsNamed, LogValue, SameLiterals, name_at}
use Rattle.logged_search.specs.Conflicts.{HasClause}
use Rattle.logged_search.specs.Tied.{NameReasons, NamesReason, reason_slot}
use Rattle.logged_search.proofs.Following.{IsQuiet}
use Rattle.logged_search.proofs.Tying.{open_more}

-- a clause that has a name is one of the formula or a live one, in some order
pub record HasForm (formula : FormulaValue) (clauses : List (Option (List ℕ))) (literals : List ℕ) : Type 0 where
  pub form : List ℕ
  pub has : HasClause formula clauses form
  pub same : SameLiterals form literals

pub form-named : (formula : FormulaValue) (clauses : List (Option (List ℕ))) (name : Name) (literals : List ℕ) → IsNamed formula clauses name literals → HasForm formula clauses literals
form-named formula clauses Unnamed literals is = absurd is
form-named formula clauses (Ruled place) literals is = record { form = is.numbers; has = inl (place, is.clause); same = is.same }
form-named formula clauses (Numbered number) literals is = record { form = is.written; has = inr (number, is.live); same = is.same }

pub unit-same : (trues one other : List ℕ) (l : ℕ) → SameLiterals one other → IsUnitBut trues other l → IsUnitBut trues one l
unit-same trues one other l same unit = record {
  member = (same l).1 unit.member;
  others_false = λ x i differs. unit.others_false x ((same x).0 i) differs;
}

-- decisions among steps
pub decided-of : (s : Step) (older : List Step) → is_decision s.reason ≡ true → decisions_of (s ∷ older) ≡ s.literal ∷ decisions_of older
decided-of s older is = ap (λ b. cond b (s.literal ∷ decisions_of older) (decisions_of older)) is

pub decided-not : (s : Step) (older : List Step) → is_decision s.reason ≡ false → decisions_of (s ∷ older) ≡ decisions_of older
decided-not s older is = ap (λ b. cond b (s.literal ∷ decisions_of older) (decisions_of older)) is

pub decided-in : (newer older : List Step) (s : Step) → is_decision s.reason ≡ true → IsIn s.literal (decisions_of (newer ++ s ∷ older))
decided-in [] older s is = subst (IsIn s.literal) (sym (decided-of s older is)) (inl refl)
decided-in (t ∷ newer) older s is = elim (bool_cases (is_decision t.reason)) [
  | inl one ↦ subst (IsIn s.literal) (sym (decided-of t (newer ++ s ∷ older) one)) (inr (decided-in newer older s is))
  | inr not_one ↦ subst (IsIn s.literal) (sym (decided-not t (newer ++ s ∷ older) not_one)) (decided-in newer older s is)
]

pub none-decided : (steps : List Step) → level_of steps ≡ 0 → decisions_of steps ≡ []
none-decided [] none = refl
none-decided (s ∷ older) none = elim (bool_cases (is_decision s.reason)) [
  | inl is ↦ absurd (omega (arith, none, rise_end s.reason is))
  | inr not_one ↦ decided-not s older not_one ∙ none-decided older (omega (arith, none))
]

-- the steps before all decisions are older than each
level-some : (newer older : List Step) (s : Step) → is_decision s.reason ≡ true → 0 < level_of (newer ++ s ∷ older)
level-some [] older s is = omega (arith, rise_end s.reason is)
level-some (t ∷ newer) older s is = omega (arith, level-some newer older s is)

pub first-back : (newer older : List Step) (s : Step) → is_decision s.reason ≡ true → back_to 0 (newer ++ s ∷ older) ≡ back_to 0 older
first-back [] older s is = back_to-older 0 s older (level-some [] older s is)
first-back (t ∷ newer) older s is = back_to-older 0 t (newer ++ s ∷ older) (level-some (t ∷ newer) older s is) ∙ first-back newer older s is

-- what held at a step
pub watched-at : (stored : List (Option (List ℕ))) (newer older : List Step) (s : Step) → AreWatchedBelow stored (newer ++ s ∷ older) → WereWatched stored s.reason (literals_of older)
watched-at stored [] older s below = below.0
watched-at stored (t ∷ newer) older s below = watched-at stored newer older s below.1

pub reason-at : (stored : List (Option (List ℕ))) (newer older : List Step) (s : Step) → HaveReasons stored (newer ++ s ∷ older) → HasReason stored (literals_of older) s.literal s.reason
reason-at stored [] older s are = are.0
reason-at stored (t ∷ newer) older s are = reason-at stored newer older s are.1

pub named-at : (formula : FormulaValue) (clauses : List (Option (List ℕ))) (log : LogValue) (newer older : List Step) (s : Step) → NameReasons formula clauses log (newer ++ s ∷ older)
    → NamesReason formula clauses log older s.literal s.reason
named-at formula clauses log [] older s are = are.0
named-at formula clauses log (t ∷ newer) older s are = named-at formula clauses log newer older s are.1

-- a reason with a number is the clause of the decisions
pub reason-numbered : (formula : FormulaValue) (clauses : List (Option (List ℕ))) (log : LogValue) (older : List Step) (l number : ℕ) (reason : Reason) → NamesReason formula clauses log older l reason
    → name_at log.names (reason_slot log l) ≡ Numbered number → IsNamed formula clauses (Numbered number) (l ∷ map opposite_of (decisions_of older))
reason-numbered formula clauses log older l number Decision is at = absurd (let no : Unnamed ≡ Numbered number = sym is ∙ at in cc)
reason-numbered formula clauses log older l number (Clause clause) is at = absurd (let no : Unnamed ≡ Numbered number = sym is ∙ at in cc)
reason-numbered formula clauses log older l number Decisions is at = subst (λ (name : Name). IsNamed formula clauses name (l ∷ map opposite_of (decisions_of older))) at is.1

-- a step is no decision where its reason has a number
not-decided : (formula : FormulaValue) (clauses : List (Option (List ℕ))) (log : LogValue) (older : List Step) (l number : ℕ) (reason : Reason) → is_decision reason ≡ true
    → NamesReason formula clauses log older l reason → name_at log.names (reason_slot log l) ≡ Numbered number → ⊥
not-decided formula clauses log older l number Decision one is at = let no : Unnamed ≡ Numbered number = sym is ∙ at in cc
not-decided formula clauses log older l number (Clause clause) one is at = cc
not-decided formula clauses log older l number Decisions one is at = cc

-- what a trail and the names of its reasons say of a number
pub record HasQuiet (formula : FormulaValue) (clauses : List (Option (List ℕ))) (trues : List ℕ) (number : ℕ) : Type 0 where
  pub literals : List ℕ
  pub named : IsNamed formula clauses (Numbered number) literals
  pub quiet : IsQuiet trues literals

module _ (n v number : ℕ) (formula : FormulaValue) (clauses : List (Option (List ℕ))) (log : LogValue) (at : name_at log.names (log.handles + v) ≡ Numbered number) where
  at-literal : (l : ℕ) → variable_of l ≡ v → name_at log.names (reason_slot log l) ≡ Numbered number
  at-literal l same = ap (λ k. name_at log.names (log.handles + k)) same ∙ at

  open-still : (s : Step) (older : List Step) → variable_of s.literal ≢ v → (HasNoValueIn (literals_of (s ∷ older)) (positive_of v) → ⊥) → HasNoValueIn (literals_of older) (positive_of v) → ⊥
  open-still s older differs closed_v none = closed_v (open_more (literals_of older) s.literal (positive_of v) none (λ e. differs (sym e ∙ variable_positive v)))

  -- a step among these has it, and makes its clause true
  in-older : (newer older : List Step) → NameReasons formula clauses log older → (HasNoValueIn (literals_of older) (positive_of v) → ⊥) → HasQuiet formula clauses (literals_of (newer ++ older)) number
  in-older newer [] are closed_v = absurd (closed_v (record { not_true = λ i. i; not_false = λ i. i }))
  in-older newer (s ∷ older) are closed_v = elim (cases_eq (variable_of s.literal) v) [
    | inl same ↦ record {
      literals = s.literal ∷ map opposite_of (decisions_of older);
      named = reason-numbered formula clauses log older s.literal number s.reason are.0 (at-literal s.literal same);
      quiet = inl (record { literal = s.literal; member = inl refl; is_true = among (newer ++ s ∷ older) newer (s ∷ older) s.literal refl (inl refl) });
    }
    | inr differs ↦
        (let assoc : (newer ++ s ∷ []) ++ older ≡ newer ++ s ∷ older = append_assoc newer (s ∷ []) older in
        subst (λ (ys : List Step). HasQuiet formula clauses (literals_of ys) number) assoc
        (in-older (newer ++ s ∷ []) older are.1 (open-still s older differs closed_v)))
  ]

  -- a step has it, before a decision or behind
  pub at-decision : (newer older : List Step) (d : Step) → is_decision d.reason ≡ true → IsSoundFor n (newer ++ d ∷ older) → NameReasons formula clauses log (newer ++ d ∷ older)
      → (HasNoValueIn (literals_of (newer ++ d ∷ older)) (positive_of v) → ⊥) → HasQuiet formula clauses (literals_of older) number
  at-decision [] older d is sound are closed_v = elim (cases_eq (variable_of d.literal) v) [
    | inl same ↦ absurd (not-decided formula clauses log older d.literal number d.reason is are.0 (at-literal d.literal same))
    | inr differs ↦ in-older [] older are.1 (open-still d older differs closed_v)
  ]
  at-decision (s ∷ newer) older d is sound are closed_v = elim (cases_eq (variable_of s.literal) v) [
    | inl same ↦
        (let steps = newer ++ d ∷ older in
        let fresh = (sound_older n newer (d ∷ older) sound.2).1 in
        record {
          literals = s.literal ∷ map opposite_of (decisions_of steps);
          named = reason-numbered formula clauses log steps s.literal number s.reason are.0 (at-literal s.literal same);
          quiet = inr (record {
            one = s.literal;
            other = opposite_of d.literal;
            apart = λ e. sound.1.not_false (subst (λ x. IsIn x (literals_of steps)) (sym (ap opposite_of e ∙ opposite-opposite d.literal)) (among steps newer (d ∷ older) d.literal refl (inl refl)));
            one_in = inl refl;
            other_in = inr (IsIn-map opposite_of d.literal (decisions_of steps) (decided-in newer older d is));
            one_left = λ i. sound.1.not_false (among steps newer (d ∷ older) (opposite_of s.literal) refl (inr i));
            other_left = λ i. fresh.not_true (subst (λ x. IsIn x (literals_of older)) (opposite-opposite d.literal) i);
          });
        })
    | inr differs ↦ at-decision newer older d is sound.2 are.1 (open-still s (newer ++ d ∷ older) differs closed_v)
  ]
