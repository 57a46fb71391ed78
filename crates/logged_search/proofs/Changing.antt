-- What becomes of names when a step is taken back, and when a clause becomes a reason.
use Rattle.std.proofs.Common.{◌≡◌, ◌+◌, ◌<◌, ◌∙◌, ℕ, List, ◌∷◌, Option, Some, inl, inr, refl, sym, ap, subst, arith, length, map}
use Rattle.std.specs.Prelude.{slice_set}
use Rattle.std.proofs.Math.ListN.{length-set}
use Rattle.clause_pool.specs.PoolValue.{PoolValue, IsFree, clause_at, put_clause}
use Rattle.clause_pool.proofs.Sound.{clause_at-set_other, clause_at-set_same, none_literals, some_literals}
use Rattle.literals.specs.Literal.{opposite_of, variable_of}
use Rattle.literals.specs.Propagation.{HasNoValueIn}
use Rattle.trail.specs.Steps.{decisions_of, literals_of}
use Rattle.trail.specs.declared.step.Reason.{Reason}
use Rattle.trail.specs.declared.step.Reason.TheVariants.{Decision, Clause, Decisions}
use Rattle.trail.specs.declared.step.Step.{Step}
use Rattle.trail.proofs.Soundness.{open_older, open_variable}
use Rattle.var_names.specs.Formulas.{FormulaValue}
use Rattle.conflict_analysis.proofs.Newest.{other_variable}
use Rattle.search_log.specs.declared.name.Name.{Name}
use Rattle.search_log.specs.declared.name.Name.TheVariants.{Unnamed, Ruled, Numbered}
use Rattle.search_log.specs.Names.{LogValue, IsLastUnnamed, IsNamed, IsNumbered, IsNumberedName, clauses_of, name_at, number_in, with_name}
use Rattle.search_log.specs.Lines.{IsLiveNumber, TakesOutName}
use Rattle.search_log.proofs.Naming.{name-other, name-set, slot-cases, within-of}
use Rattle.logged_search.specs.Tied.{AreTied, NamesReason, reason_slot}
use Rattle.logged_search.proofs.Tying.{current-named, open_more, reasons-but, slot-apart, slot-behind, stay-but, used-within}

-- a step that has no name is taken back
pub tied-back : (formula : FormulaValue) (clauses : List (Option (List ℕ))) (pool : PoolValue) (s : Step) (older : List Step) (log : LogValue)
    → name_at log.names (reason_slot log s.literal) ≡ Unnamed → AreTied formula clauses pool (s ∷ older) log → AreTied formula clauses pool older log
tied-back formula clauses pool s older log none tied = record {
  current = tied.current;
  stored = tied.stored;
  reasons = tied.reasons.1;
  free = tied.free;
  others = λ l open_l. elim (slot-cases (variable_of l) (variable_of s.literal)) [
    | inl same ↦ ap (λ v. name_at log.names (log.handles + v)) same ∙ none
    | inr differs ↦ tied.others l (open_more (literals_of older) s.literal l open_l differs)
  ];
  handles = tied.handles;
  slots = tied.slots;
}

-- no name of a decision or of a clause's step
pub unnamed-reason : (formula : FormulaValue) (clauses : List (Option (List ℕ))) (log : LogValue) (older : List Step) (l : ℕ) (reason : Reason)
    → (reason ≡ Decisions → ⊥) → NamesReason formula clauses log older l reason → name_at log.names (reason_slot log l) ≡ Unnamed
unnamed-reason formula clauses log older l Decision other is = is
unnamed-reason formula clauses log older l (Clause clause) other is = is
unnamed-reason formula clauses log older l Decisions other is = absurd (other refl)

pub numbered-reason : (formula : FormulaValue) (clauses : List (Option (List ℕ))) (log : LogValue) (older : List Step) (l : ℕ) (reason : Reason)
    → reason ≡ Decisions → NamesReason formula clauses log older l reason
    → IsNumberedName (name_at log.names (reason_slot log l)) × IsNamed formula clauses (name_at log.names (reason_slot log l)) (l ∷ map opposite_of (decisions_of older))
numbered-reason formula clauses log older l reason is has = subst (NamesReason formula clauses log older l) is has

pub live-number : (formula : FormulaValue) (clauses : List (Option (List ℕ))) (name : Name) (literals : List ℕ) → IsNumberedName name → IsNamed formula clauses name literals → IsLiveNumber clauses (number_in name)
live-number formula clauses Unnamed literals numbered is = absurd is
live-number formula clauses (Ruled place) literals numbered is = absurd numbered
live-number formula clauses (Numbered number) literals numbered is = (is.written, is.live)

-- a step is taken back, and the clause that was its reason taken out
pub numbered-within : (names : List Name) (slot : ℕ) → IsNumberedName (name_at names slot) → slot < length names
numbered-within names slot numbered = within-of names slot (name_at names slot) refl (λ none. subst IsNumberedName none numbered)

pub tied-taken : (formula : FormulaValue) (clauses : List (Option (List ℕ))) (pool : PoolValue) (s : Step) (older : List Step) (log : LogValue)
    → HasNoValueIn (literals_of older) s.literal → AreTied formula clauses pool (s ∷ older) log → (takes : TakesOutName formula log clauses (reason_slot log s.literal))
    → AreTied formula takes.after pool older (with_name log (reason_slot log s.literal) Unnamed)
tied-taken formula clauses pool s older log fresh tied takes =
    let slot = reason_slot log s.literal in
    let within = numbered-within log.names slot takes.numbered in
    record {
      current = takes.current;
      stored = λ clause literals found. takes.stay clause literals
          (λ same. slot-behind log s.literal clause (subst (λ k. clause < k) (sym tied.handles) (used-within pool.clauses clause literals found)) (sym same))
          (tied.stored clause literals found);
      reasons = reasons-but formula clauses takes.after log slot Unnamed older takes.stay
          (λ l i. slot-apart log l s.literal (λ same. other_variable (literals_of older) s.literal l fresh i (sym same))) tied.reasons.1;
      free = λ clause small found. name-other log.names slot clause Unnamed (λ same. slot-behind log s.literal clause small (sym same)) ∙ tied.free clause small found;
      others = λ l open_l. elim (slot-cases (variable_of l) (variable_of s.literal)) [
        | inl same ↦ ap (λ v. name_at (slice_set log.names slot Unnamed) (log.handles + v)) same ∙ name-set log.names slot Unnamed within
        | inr differs ↦ name-other log.names slot (reason_slot log l) Unnamed (slot-apart log l s.literal differs) ∙ tied.others l (open_more (literals_of older) s.literal l open_l differs)
      ];
      handles = tied.handles;
      slots = length-set log.names slot Unnamed ∙ tied.slots;
    }

-- the clause that was logged last stays live and without a name
pub pending-taken : (formula : FormulaValue) (clauses : List (Option (List ℕ))) (log : LogValue) (slot : ℕ) (learned : List ℕ)
    → IsNumbered clauses (clauses_of log) learned → IsLastUnnamed log → (takes : TakesOutName formula log clauses slot)
    → IsNumbered takes.after (clauses_of log) learned
pending-taken formula clauses log slot learned live last takes = record {
  written = live.written;
  live = takes.rest (clauses_of log) live.written (λ same. last slot (numbered-as (name_at log.names slot) (clauses_of log) takes.numbered (sym same))) live.live;
  same = live.same;
}
  where
    numbered-as : (name : Name) (number : ℕ) → IsNumberedName name → number_in name ≡ number → name ≡ Numbered number
    numbered-as Unnamed number is same = absurd is
    numbered-as (Ruled place) number is same = absurd is
    numbered-as (Numbered m) number is same = ap Numbered same

pub last-taken : (log : LogValue) (slot : ℕ) → slot < length log.names → IsLastUnnamed log → IsLastUnnamed (with_name log slot Unnamed)
last-taken log slot within last other at = elim (slot-cases other slot) [
  | inl same ↦ (let no : Unnamed ≡ Numbered (clauses_of log) = sym (ap (name_at (slice_set log.names slot Unnamed)) same ∙ name-set log.names slot Unnamed within) ∙ at in absurd (cc))
  | inr differs ↦ last other (sym (name-other log.names slot other Unnamed differs) ∙ at)
]

-- the clause that was logged last is put into the pool, and gives a literal its value
pub tied-stored : (formula : FormulaValue) (clauses : List (Option (List ℕ))) (pool : PoolValue) (steps : List Step) (log : LogValue) (clause l : ℕ) (learned : List ℕ)
    → IsFree pool clause → HasNoValueIn (literals_of steps) l → IsNumbered clauses (clauses_of log) learned → AreTied formula clauses pool steps log
    → AreTied formula clauses (put_clause pool clause learned) (record { literal = l; reason = Clause clause } ∷ steps) (with_name log clause (Numbered (clauses_of log)))
tied-stored formula clauses pool steps log clause l learned is_free fresh live tied =
    let name = Numbered (clauses_of log) in
    let low : clause < log.handles = subst (λ k. clause < k) (sym tied.handles) is_free.0 in
    let within : clause < length log.names = omega (arith, tied.slots, low) in
    record {
      current = current-named formula clauses log clause name tied.current;
      stored = λ k literals found. elim (slot-cases k clause) [
        | inl same ↦
            (let is : learned ≡ literals = some_literals learned literals (sym (clause_at-set_same pool.clauses clause (Some learned) is_free.0) ∙ ap (clause_at (slice_set pool.clauses clause (Some learned))) (sym same) ∙ found) in
            subst (λ j. IsNamed formula clauses (name_at (slice_set log.names clause name) j) literals) (sym same)
            (subst (λ (m : Name). IsNamed formula clauses m literals) (sym (name-set log.names clause name within)) (subst (IsNumbered clauses (clauses_of log)) is live)))
        | inr differs ↦ stay-but formula clauses log clause name k literals differs (tied.stored k literals (sym (clause_at-set_other pool.clauses clause k (Some learned) differs) ∙ found))
      ];
      reasons = (
        name-other log.names clause (reason_slot log l) name (slot-behind log l clause low) ∙ tied.others l fresh,
        reasons-but formula clauses clauses log clause name steps (stay-but formula clauses log clause name) (λ m i. slot-behind log m clause low) tied.reasons,
      );
      free = λ k small found. elim (slot-cases k clause) [
        | inl same ↦ absurd (none_literals learned (sym found ∙ ap (clause_at (slice_set pool.clauses clause (Some learned))) same ∙ clause_at-set_same pool.clauses clause (Some learned) is_free.0))
        | inr differs ↦ name-other log.names clause k name differs ∙ tied.free k small (sym (clause_at-set_other pool.clauses clause k (Some learned) differs) ∙ found)
      ];
      others = λ m open_m. name-other log.names clause (reason_slot log m) name (slot-behind log m clause low) ∙ tied.others m (open_older (literals_of steps) m l open_m);
      handles = tied.handles ∙ sym (length-set pool.clauses clause (Some learned));
      slots = length-set log.names clause name ∙ tied.slots;
    }

-- it is the clause of the decisions, and gives its first literal a value
pub tied-excluded : (formula : FormulaValue) (clauses : List (Option (List ℕ))) (pool : PoolValue) (steps : List Step) (log : LogValue) (l : ℕ)
    → HasNoValueIn (literals_of steps) l → variable_of l < length formula.variables → IsNumbered clauses (clauses_of log) (l ∷ map opposite_of (decisions_of steps)) → AreTied formula clauses pool steps log
    → AreTied formula clauses pool (record { literal = l; reason = Decisions } ∷ steps) (with_name log (reason_slot log l) (Numbered (clauses_of log)))
tied-excluded formula clauses pool steps log l fresh low live tied =
    let slot = reason_slot log l in
    let name = Numbered (clauses_of log) in
    let within : slot < length log.names = omega (arith, tied.slots, low) in
    let here : name_at (slice_set log.names slot name) slot ≡ name = name-set log.names slot name within in
    record {
      current = current-named formula clauses log slot name tied.current;
      stored = λ k literals found. stay-but formula clauses log slot name k literals
          (λ same. slot-behind log l k (subst (λ h. k < h) (sym tied.handles) (used-within pool.clauses k literals found)) (sym same)) (tied.stored k literals found);
      reasons = (
        (
          subst IsNumberedName (sym here) tt,
          subst (λ (m : Name). IsNamed formula clauses m (l ∷ map opposite_of (decisions_of steps))) (sym here) live,
        ),
        reasons-but formula clauses clauses log slot name steps (stay-but formula clauses log slot name)
            (λ m i. slot-apart log m l (λ same. other_variable (literals_of steps) l m fresh i (sym same))) tied.reasons,
      );
      free = λ k small found. name-other log.names slot k name (λ same. slot-behind log l k small (sym same)) ∙ tied.free k small found;
      others = λ m open_m. name-other log.names slot (reason_slot log m) name (slot-apart log m l (λ same. open_variable (literals_of steps) m l open_m (sym same)))
          ∙ tied.others m (open_older (literals_of steps) m l open_m);
      handles = tied.handles;
      slots = length-set log.names slot name ∙ tied.slots;
    }
