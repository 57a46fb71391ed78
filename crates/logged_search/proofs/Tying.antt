-- How clauses and reasons keep their names.
use Rattle.std.proofs.Common.{◌≡◌, ◌≢◌, ◌++◌, ◌+◌, ◌<◌, ◌≤◌, ◌⊎◌, ◌∙◌, ℕ, List, [], ◌∷◌, true, false, None, Option, Some, inl, inr, refl, sym, ap, subst, arith, length, map}
use Rattle.std.specs.Prelude.{IsSome}
use Rattle.clause_pool.specs.PoolValue.{PoolValue, IsIn, clause_at, or_empty}
use Rattle.literals.specs.Literal.{opposite_of, variable_of}
use Rattle.literals.specs.Propagation.{HasNoValueIn}
use Rattle.literals.proofs.Opposites.{opposite-variable}
use Rattle.trail.specs.Steps.{decisions_of, literals_of}
use Rattle.trail.specs.declared.step.Reason.{Reason}
use Rattle.trail.specs.declared.step.Reason.TheVariants.{Decision, Clause, Decisions}
use Rattle.trail.specs.declared.step.Step.{Step}
use Rattle.var_names.specs.Formulas.{FormulaValue}
use Rattle.search_log.specs.declared.name.Name.{Name}
use Rattle.search_log.specs.declared.name.Name.TheVariants.{Unnamed, Ruled, Numbered}
use Rattle.search_log.specs.Names.{LogValue, IsKnownName, IsNamed, IsNumberedName, KeepsName, KeepsNames, name_at, with_name}
use Rattle.search_log.specs.Lines.{IsCurrent, StayNamed, StayNamedBut}
use Rattle.search_log.proofs.Naming.{keeps-numbered, name-other}
use Rattle.logged_search.specs.Tied.{AreTied, NameReasons, NamesReason, reason_slot}

pub named-known : (formula : FormulaValue) (clauses : List (Option (List ℕ))) (name : Name) (literals : List ℕ) → IsNamed formula clauses name literals → IsKnownName formula name
named-known formula clauses Unnamed literals is = is
named-known formula clauses (Ruled place) literals is = (is.numbers, is.clause)
named-known formula clauses (Numbered number) literals is = tt

pub some-clause : (o : Option (List ℕ)) → IsSome o → o ≡ Some (or_empty o)
some-clause None is = absurd (let no : false ≡ true = is in cc)
some-clause (Some literals) is = refl

-- a handle in use is one of the pool
pub used-within : (clauses : List (Option (List ℕ))) (clause : ℕ) (literals : List ℕ) → clause_at clauses clause ≡ Some literals → clause < length clauses
used-within [] clause literals found = absurd (cc)
used-within (c ∷ cs) Rattle.std.proofs.Common.zero literals found = omega arith
used-within (c ∷ cs) (Rattle.std.proofs.Common.suc clause) literals found = omega (arith, used-within cs clause literals found)

-- a literal that has no value, one step more
pub open_more : (trail : List ℕ) (x l : ℕ) → HasNoValueIn trail l → variable_of l ≢ variable_of x → HasNoValueIn (x ∷ trail) l
open_more trail x l none differs = record {
  not_true = λ i. elim i [ inl here ↦ differs (ap variable_of here) | inr later ↦ none.not_true later ];
  not_false = λ i. elim i [ inl here ↦ differs (sym (opposite-variable l) ∙ ap variable_of here) | inr later ↦ none.not_false later ];
}

-- slots of reasons lie behind those of clauses, one for each variable
pub slot-apart : (log : LogValue) (l m : ℕ) → variable_of l ≢ variable_of m → reason_slot log l ≢ reason_slot log m
slot-apart log l m differs same = differs (omega (arith, same))

pub slot-behind : (log : LogValue) (l clause : ℕ) → clause < log.handles → reason_slot log l ≢ clause
slot-behind log l clause low same = omega (arith, same, low)

unnamed-kept : (old new : Name) → KeepsName old new → old ≡ Unnamed → new ≡ Unnamed
unnamed-kept Unnamed new keeps is = keeps
unnamed-kept (Ruled place) new keeps is = absurd (cc)
unnamed-kept (Numbered number) new keeps is = absurd (cc)

-- names stay when the log goes on
reason-kept : (formula : FormulaValue) (clauses after : List (Option (List ℕ))) (old new : LogValue) (older : List Step) (l : ℕ) (reason : Reason)
    → StayNamed formula old new clauses after → KeepsNames old new → NamesReason formula clauses old older l reason → NamesReason formula after new older l reason
reason-kept formula clauses after old new older l Decision stay keeps is =
    subst (λ h. name_at new.names (h + variable_of l) ≡ Unnamed) (sym keeps.handles) (unnamed-kept _ _ (keeps.each (reason_slot old l)) is)
reason-kept formula clauses after old new older l (Clause clause) stay keeps is =
    subst (λ h. name_at new.names (h + variable_of l) ≡ Unnamed) (sym keeps.handles) (unnamed-kept _ _ (keeps.each (reason_slot old l)) is)
reason-kept formula clauses after old new older l Decisions stay keeps is = (
  subst (λ h. IsNumberedName (name_at new.names (h + variable_of l))) (sym keeps.handles) (keeps-numbered _ _ (keeps.each (reason_slot old l)) is.0),
  subst (λ h. IsNamed formula after (name_at new.names (h + variable_of l)) (l ∷ map opposite_of (decisions_of older))) (sym keeps.handles) (stay (reason_slot old l) (l ∷ map opposite_of (decisions_of older)) is.1),
)

reasons-kept : (formula : FormulaValue) (clauses after : List (Option (List ℕ))) (old new : LogValue) (steps : List Step)
    → StayNamed formula old new clauses after → KeepsNames old new → NameReasons formula clauses old steps → NameReasons formula after new steps
reasons-kept formula clauses after old new [] stay keeps are = tt
reasons-kept formula clauses after old new (s ∷ older) stay keeps are = (
  reason-kept formula clauses after old new older s.literal s.reason stay keeps are.0,
  reasons-kept formula clauses after old new older stay keeps are.1,
)

pub tied-kept : (formula : FormulaValue) (clauses after : List (Option (List ℕ))) (pool : PoolValue) (steps : List Step) (old new : LogValue)
    → IsCurrent formula new after → StayNamed formula old new clauses after → KeepsNames old new → AreTied formula clauses pool steps old → AreTied formula after pool steps new
tied-kept formula clauses after pool steps old new current stay keeps tied = record {
  current = current;
  stored = λ clause literals found. stay clause literals (tied.stored clause literals found);
  reasons = reasons-kept formula clauses after old new steps stay keeps tied.reasons;
  free = λ clause low found. unnamed-kept _ _ (keeps.each clause) (tied.free clause (subst (λ n. clause < n) keeps.handles low) found);
  others = λ l none. subst (λ h. name_at new.names (h + variable_of l) ≡ Unnamed) (sym keeps.handles) (unnamed-kept _ _ (keeps.each (reason_slot old l)) (tied.others l none));
  handles = keeps.handles ∙ tied.handles;
  slots = keeps.slots ∙ tied.slots ∙ ap (λ n. n + length formula.variables) (sym keeps.handles);
}

-- names stay when one of another slot changes
reason-but : (formula : FormulaValue) (clauses after : List (Option (List ℕ))) (log : LogValue) (slot : ℕ) (name : Name) (older : List Step) (l : ℕ) (reason : Reason)
    → StayNamedBut formula log (with_name log slot name) slot clauses after → reason_slot log l ≢ slot → NamesReason formula clauses log older l reason → NamesReason formula after (with_name log slot name) older l reason
reason-but formula clauses after log slot name older l Decision stay differs is = name-other log.names slot (reason_slot log l) name differs ∙ is
reason-but formula clauses after log slot name older l (Clause clause) stay differs is = name-other log.names slot (reason_slot log l) name differs ∙ is
reason-but formula clauses after log slot name older l Decisions stay differs is = (
  subst IsNumberedName (sym (name-other log.names slot (reason_slot log l) name differs)) is.0,
  stay (reason_slot log l) (l ∷ map opposite_of (decisions_of older)) differs is.1,
)

pub reasons-but : (formula : FormulaValue) (clauses after : List (Option (List ℕ))) (log : LogValue) (slot : ℕ) (name : Name) (steps : List Step)
    → StayNamedBut formula log (with_name log slot name) slot clauses after → ((l : ℕ) → IsIn l (literals_of steps) → reason_slot log l ≢ slot)
    → NameReasons formula clauses log steps → NameReasons formula after (with_name log slot name) steps
reasons-but formula clauses after log slot name [] stay differs are = tt
reasons-but formula clauses after log slot name (s ∷ older) stay differs are = (
  reason-but formula clauses after log slot name older s.literal s.reason stay (differs s.literal (inl refl)) are.0,
  reasons-but formula clauses after log slot name older stay (λ l i. differs l (inr i)) are.1,
)

-- where the clauses stay, so do all other names
pub stay-but : (formula : FormulaValue) (clauses : List (Option (List ℕ))) (log : LogValue) (slot : ℕ) (name : Name) → StayNamedBut formula log (with_name log slot name) slot clauses clauses
stay-but formula clauses log slot name other literals differs is = subst (λ (n : Name). IsNamed formula clauses n literals) (sym (name-other log.names slot other name differs)) is

pub current-named : (formula : FormulaValue) (clauses : List (Option (List ℕ))) (log : LogValue) (slot : ℕ) (name : Name) → IsCurrent formula log clauses → IsCurrent formula (with_name log slot name) clauses
current-named formula clauses log slot name is = record { count = is.count; below = is.below; apart = is.apart }
