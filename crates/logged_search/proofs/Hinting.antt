-- The clauses of hints have names.
use Rattle.std.proofs.Common.{◌≡◌, ◌∙◌, ℕ, List, [], ◌∷◌, Option, cond, inl, inr, sym, ap, subst, map}
use Rattle.std.specs.Prelude.{All}
use Rattle.std.proofs.lemmas.Bool.Decides.{eqb_tells}
use Rattle.std.proofs.lemmas.List.Elements.{All-nil, All-cons}
use Rattle.clause_pool.specs.PoolValue.{PoolValue, IsIn, clause_at, literals_at}
use Rattle.literals.specs.Literal.{opposite_of, variable_of}
use Rattle.trail.specs.Steps.{IsSoundFor, decisions_of, literals_of, reason_at}
use Rattle.trail.specs.declared.step.Reason.TheVariants.{Decisions}
use Rattle.trail.specs.declared.step.Step.{Step}
use Rattle.var_names.specs.Formulas.{FormulaValue}
use Rattle.conflict_analysis.specs.declared.hint.Hint.{Hint}
use Rattle.conflict_analysis.specs.declared.hint.Hint.TheVariants.{Stored, Excluded}
use Rattle.conflict_analysis.specs.Hints.{AreKnownHints, IsKnownHint, clause_of_hint, decisions_before}
use Rattle.conflict_analysis.proofs.Back.{decisions_before_step, reason_of_step}
use Rattle.conflict_analysis.proofs.Newest.{other_variable}
use Rattle.search_log.specs.Names.{AreNamed, IsKnownName, IsNamed, LogValue, hint_name, name_at}
use Rattle.logged_search.specs.Tied.{AreTied, NameReasons, reason_slot}
use Rattle.logged_search.proofs.Tying.{named-known, some-clause}
use Rattle.logged_search.proofs.Changing.{numbered-reason}

-- the reason of a literal that the decisions before it made true
excluded-named : (n : ℕ) (formula : FormulaValue) (clauses : List (Option (List ℕ))) (log : LogValue) (steps : List Step) (l : ℕ) → IsSoundFor n steps
    → NameReasons formula clauses log steps → IsIn l (literals_of steps) → reason_at steps (variable_of l) ≡ Decisions
    → IsNamed formula clauses (name_at log.names (reason_slot log l)) (l ∷ map opposite_of (decisions_before steps l))
excluded-named n formula clauses log [] l sound are i is = absurd i
excluded-named n formula clauses log (s ∷ older) l sound are (inl here) is =
    let reason : s.reason ≡ Decisions = sym (reason_of_step n [] older s sound) ∙ ap (λ x. reason_at (s ∷ older) (variable_of x)) (sym here) ∙ is in
    let named = (numbered-reason formula clauses log older s.literal s.reason reason are.0).1 in
    let before : decisions_before (s ∷ older) l ≡ decisions_of older = ap (decisions_before (s ∷ older)) here ∙ decisions_before_step n [] older s sound in
    subst (λ (ds : List ℕ). IsNamed formula clauses (name_at log.names (reason_slot log l)) (l ∷ map opposite_of ds)) (sym before)
    (subst (λ x. IsNamed formula clauses (name_at log.names (reason_slot log x)) (x ∷ map opposite_of (decisions_of older))) (sym here) named)
excluded-named n formula clauses log (s ∷ older) l sound are (inr later) is =
    let apart = other_variable (literals_of older) s.literal l sound.1 later in
    let reason : reason_at older (variable_of l) ≡ Decisions = elim (eqb_tells (variable_of s.literal) (variable_of l)) [
      | inl same ↦ absurd (apart same.1)
      | inr differ ↦ sym (ap (λ b. cond b s.reason (reason_at older (variable_of l))) differ.0) ∙ is
    ] in
    let before : decisions_before (s ∷ older) l ≡ decisions_before older l = elim (eqb_tells s.literal l) [
      | inl same ↦ absurd (apart (ap variable_of same.1))
      | inr differ ↦ ap (λ b. cond b (decisions_of older) (decisions_before older l)) differ.0
    ] in
    subst (λ (ds : List ℕ). IsNamed formula clauses (name_at log.names (reason_slot log l)) (l ∷ map opposite_of ds)) (sym before)
    (excluded-named n formula clauses log older l sound.2 are.1 later reason)

hint-named : (n : ℕ) (formula : FormulaValue) (clauses : List (Option (List ℕ))) (pool : PoolValue) (steps : List Step) (log : LogValue) (hint : Hint) → IsSoundFor n steps
    → AreTied formula clauses pool steps log → IsKnownHint pool.clauses steps hint → IsNamed formula clauses (hint_name log hint) (clause_of_hint pool.clauses steps hint)
hint-named n formula clauses pool steps log (Stored clause) sound tied known = tied.stored clause (literals_at pool.clauses clause) (some-clause (clause_at pool.clauses clause) known)
hint-named n formula clauses pool steps log (Excluded literal) sound tied known = excluded-named n formula clauses log steps literal sound tied.reasons known.0 known.1

pub hints-named : (n : ℕ) (formula : FormulaValue) (clauses : List (Option (List ℕ))) (pool : PoolValue) (steps : List Step) (log : LogValue) (hints : List Hint) → IsSoundFor n steps
    → AreTied formula clauses pool steps log → AreKnownHints pool.clauses steps hints → AreNamed formula clauses log hints (map (clause_of_hint pool.clauses steps) hints)
hints-named n formula clauses pool steps log [] sound tied known = tt
hints-named n formula clauses pool steps log (hint ∷ rest) sound tied known = (
  hint-named n formula clauses pool steps log hint sound tied known.0,
  hints-named n formula clauses pool steps log rest sound tied known.1,
)

pub hints-known : (n : ℕ) (formula : FormulaValue) (clauses : List (Option (List ℕ))) (pool : PoolValue) (steps : List Step) (log : LogValue) (hints : List Hint) → IsSoundFor n steps
    → AreTied formula clauses pool steps log → AreKnownHints pool.clauses steps hints → All (λ hint. IsKnownName formula (hint_name log hint)) hints
hints-known n formula clauses pool steps log [] sound tied known = All-nil (λ (h : Hint). IsKnownName formula (hint_name log h))
hints-known n formula clauses pool steps log (hint ∷ rest) sound tied known =
    All-cons (λ (h : Hint). IsKnownName formula (hint_name log h)) hint rest (named-known formula clauses (hint_name log hint) (clause_of_hint pool.clauses steps hint) (hint-named n formula clauses pool steps log hint sound tied known.0))
    (hints-known n formula clauses pool steps log rest sound tied known.1)
