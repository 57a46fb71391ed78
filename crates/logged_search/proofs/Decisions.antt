-- The decisions of a trail are a conflict where a clause is false.
use Rattle.std.proofs.Common.{◌≡◌, ◌+◌, ◌-◌, ◌<◌, ◌≤◌, ◌⊎◌, ◌∙◌, ℕ, List, [], ◌∷◌, ◌++◌, None, Option, Some, true, inl, inr, refl, sym, ap, subst, append_assoc, arith, length, map}
use Rattle.std.specs.Prelude.{slice_get}
use Rattle.std.proofs.lemmas.Bool.Decides.{leb_tells}
use Rattle.clause_pool.specs.PoolValue.{PoolValue, IsIn, clause_at}
use Rattle.literals.specs.Literal.{opposite_of, positive_of}
use Rattle.literals.specs.Propagation.{HasNoValueIn}
use Rattle.trail.specs.Steps.{TrailValue, IsSoundFor, decisions_of, is_decision, level_of, literals_of}
use Rattle.trail.specs.declared.step.Reason.{Reason}
use Rattle.trail.specs.declared.step.Reason.TheVariants.{Decision, Clause, Decisions}
use Rattle.trail.specs.declared.step.Step.{Step}
use Rattle.propagation.specs.Ready.{IsConflict, IsFit}
use Rattle.propagation.specs.Watches.{AreWatched, HasReason, HaveReasons, WereWatched}
use Rattle.propagation.proofs.Consistency.{consistent}
use Rattle.conflict_analysis.proofs.Back.{decisions_among}
use Rattle.conflict_analysis.proofs.Left.{decided}
use Rattle.conflict_analysis.proofs.Newest.{bool_cases, sound_older}
use Rattle.var_names.specs.Formulas.{FormulaValue}
use Rattle.refutation_check.specs.LiveClauses.{IsLiveClause}
use Rattle.search_steps.specs.States.{AreUnitsTrue}
use Rattle.search_steps.proofs.Keeping.{back_among}
use Rattle.search_steps.proofs.Values.{variable_positive}
use Rattle.search_log.specs.declared.name.Name.{Name}
use Rattle.search_log.specs.declared.name.Name.TheVariants.{Unnamed, Numbered}
use Rattle.search_log.specs.Names.{IsNamed, IsNumbered, LogValue, name_at}
use Rattle.logged_search.specs.Conflicts.{AreOpen, ArePropagated, GetsValue, HasClause, IsConflictOf, MakesFalse}
use Rattle.logged_search.specs.Tied.{AreAllNamed, AreTied, HoldsFormula, NameReasons, NamesReason, reason_slot}
use Rattle.logged_search.proofs.Chosen.{excluded_false}
use Rattle.logged_search.proofs.Following.{IsQuiet, closed, none-false, quiet-same, quiet-watched, same-back}
use Rattle.logged_search.proofs.Splits.{at-decision, decided-in, decided-not, decided-of, first-back, form-named, named-at, none-decided, reason-at, unit-same, watched-at}

-- a number is that of one clause
live-once : (clauses : List (Option (List ℕ))) (number : ℕ) (one other : List ℕ) → IsLiveClause clauses number one → IsLiveClause clauses number other → one ≡ other
live-once clauses number one other is also = same (slice_get clauses (number - 1)) is.stands also.stands
  where
    same : (found : Option (Option (List ℕ))) → found ≡ Some (Some one) → found ≡ Some (Some other) → one ≡ other
    same found a b = let e : Some (Some one) ≡ Some (Some other) = sym a ∙ b in cc

-- the form of what the number of a live clause names
quiet-number : (formula : FormulaValue) (clauses : List (Option (List ℕ))) (trues : List ℕ) (number : ℕ) (written literals : List ℕ) → IsLiveClause clauses number written
    → IsNumbered clauses number literals → IsQuiet trues literals → IsQuiet trues written
quiet-number formula clauses trues number written literals live is quiet =
    subst (IsQuiet trues) (live-once clauses number is.written written is.live live) (quiet-same trues literals is.written (same-back is.written literals is.same) quiet)

module _ (formula : FormulaValue) (clauses : List (Option (List ℕ))) (pool : PoolValue) (trail : TrailValue) (log : LogValue) (fit : IsFit pool trail) (tied : AreTied formula clauses pool trail.steps log) where
  -- a step that was not decided gets its value from a clause
  gets-at : (newer older : List Step) (s : Step) (reason : Reason) → (reason ≡ Decision → IsIn s.literal (decisions_of trail.steps)) → HasReason pool.clauses (literals_of older) s.literal reason
      → NamesReason formula clauses log older s.literal reason → IsIn s.literal (decisions_of trail.steps) ⊎ GetsValue formula clauses (literals_of older) s.literal
  gets-at newer older s Decision is has names = inl (is refl)
  gets-at newer older s (Clause clause) is has names =
      let form = form-named formula clauses (name_at log.names clause) has.literals (tied.stored clause has.literals has.found) in
      inr (record { clause = form.form; has = form.has; unit = unit-same (literals_of older) form.form has.literals s.literal form.same has.unit })
  gets-at newer older s Decisions is has names =
      let literals = s.literal ∷ map opposite_of (decisions_of older) in
      let form = form-named formula clauses (name_at log.names (reason_slot log s.literal)) literals names.1 in
      inr (record {
        clause = form.form;
        has = form.has;
        unit = unit-same (literals_of older) form.form literals s.literal form.same (record {
          member = inl refl;
          others_false = λ x i differs. elim i [ inl here ↦ absurd (differs here) | inr later ↦ excluded_false older x later ];
        });
      })

  -- the trail is what was propagated from its decisions
  all-propagated : (newer older : List Step) → trail.steps ≡ newer ++ older → ArePropagated formula clauses (decisions_of trail.steps) (literals_of older)
  all-propagated newer [] splits = tt
  all-propagated newer (s ∷ older) splits = (
    gets-at newer older s s.reason
        (λ is. subst (λ (ys : List Step). IsIn s.literal (decisions_of ys)) (sym splits) (decided-in newer older s (ap is_decision is)))
        (reason-at pool.clauses newer older s (subst (HaveReasons pool.clauses) splits fit.reasons))
        (named-at formula clauses log newer older s (subst (NameReasons formula clauses log) splits tied.reasons)),
    all-propagated (newer ++ s ∷ []) older (splits ∙ sym (append_assoc newer (s ∷ []) older)),
  )

  makes-false : (clause : ℕ) → IsConflict pool trail clause → MakesFalse formula clauses (decisions_of trail.steps)
  makes-false clause conflict =
      let form = form-named formula clauses (name_at log.names clause) conflict.literals (tied.stored clause conflict.literals conflict.found) in
      record {
        trues = literals_of trail.steps;
        propagated = all-propagated [] trail.steps refl;
        clause = form.form;
        has = form.has;
        all_false = λ x i. conflict.all_false x ((form.same x).0 i);
      }

  -- a conflict before all decisions
  pub first-conflict : (clause : ℕ) → level_of trail.steps ≡ 0 → IsConflict pool trail clause → IsConflictOf formula clauses (decisions_of trail.steps)
  first-conflict clause none conflict = record {
    are_open = subst (AreOpen formula clauses) (sym (none-decided trail.steps none)) tt;
    makes_false = makes-false clause conflict;
  }

  module _ (units : AreUnitsTrue pool.clauses trail.steps) (named : AreAllNamed clauses log) (holds : HoldsFormula formula pool.clauses) where
    -- the clauses of the pool where a decision was made
    stored-quiet : (newer older : List Step) (d : Step) → trail.steps ≡ newer ++ d ∷ older → is_decision d.reason ≡ true → (clause : ℕ) (literals : List ℕ) → clause_at pool.clauses clause ≡ Some literals
        → IsQuiet (literals_of older) literals
    stored-quiet newer older d splits is clause literals found = elim (leb_tells 2 (length literals)) [
      | inl two ↦
          (let was : WereWatched pool.clauses d.reason (literals_of older) = watched-at pool.clauses newer older d (subst (Rattle.propagation.specs.Watches.AreWatchedBelow pool.clauses) splits fit.below) in
          let watched : AreWatched (literals_of older) (literals_of older) pool.clauses = subst (λ (r : Reason). WereWatched pool.clauses r (literals_of older)) (decided d.reason is) was in
          quiet-watched (literals_of older) literals two.1 (fit.sound.different clause literals found) (watched clause literals found))
      | inr short ↦
          (let true_one = units clause literals found (omega (arith, short.1)) in
          let first : Rattle.trail.specs.Steps.back_to 0 trail.steps ≡ Rattle.trail.specs.Steps.back_to 0 older = ap (Rattle.trail.specs.Steps.back_to 0) splits ∙ first-back newer older d is in
          inl (record {
            literal = true_one.literal;
            member = true_one.member;
            is_true = back_among 0 older true_one.literal (subst (λ (ys : List Step). IsIn true_one.literal (literals_of ys)) first true_one.is_true);
          }))
    ]

    -- a number that names something in the pool
    handle-quiet : (trues : List ℕ) → ((clause : ℕ) (literals : List ℕ) → clause_at pool.clauses clause ≡ Some literals → IsQuiet trues literals) → (slot number : ℕ) (written : List ℕ) → slot < log.handles
        → name_at log.names slot ≡ Numbered number → IsLiveClause clauses number written → IsQuiet trues written
    handle-quiet trues each slot number written low at live = by (clause_at pool.clauses slot) refl
      where
        by : (found : Option (List ℕ)) → clause_at pool.clauses slot ≡ found → IsQuiet trues written
        by None found = absurd (let no : Unnamed ≡ Numbered number = sym (tied.free slot low found) ∙ at in cc)
        by (Some literals) found =
            quiet-number formula clauses trues number written literals live (subst (λ (name : Name). IsNamed formula clauses name literals) at (tied.stored slot literals found)) (each slot literals found)

    -- one that names a reason by decisions
    reason-quiet : (newer older : List Step) (d : Step) → trail.steps ≡ newer ++ d ∷ older → is_decision d.reason ≡ true → (slot number : ℕ) (written : List ℕ) → log.handles ≤ slot
        → name_at log.names slot ≡ Numbered number → IsLiveClause clauses number written → IsQuiet (literals_of older) written
    reason-quiet newer older d splits is slot number written high at live =
        let v = slot - log.handles in
        let same : log.handles + v ≡ slot = omega (arith, high) in
        let here : name_at log.names (log.handles + v) ≡ Numbered number = ap (name_at log.names) same ∙ at in
        let closed_v : HasNoValueIn (literals_of trail.steps) (positive_of v) → ⊥ = λ none.
        (let no : Unnamed ≡ Numbered number = sym (tied.others (positive_of v) none) ∙ ap (λ k. name_at log.names (log.handles + k)) (variable_positive v) ∙ here in cc) in
        let has = at-decision trail.variables v number formula clauses log here newer older d is (subst (IsSoundFor trail.variables) splits fit.trail_sound.steps) (subst (NameReasons formula clauses log) splits tied.reasons)
        (subst (λ (ys : List Step). HasNoValueIn (literals_of ys) (positive_of v) → ⊥) splits closed_v) in
        quiet-number formula clauses (literals_of older) number written has.literals live has.named has.quiet

    all-quiet : (newer older : List Step) (d : Step) → trail.steps ≡ newer ++ d ∷ older → is_decision d.reason ≡ true → (clause : List ℕ) → HasClause formula clauses clause → IsQuiet (literals_of older) clause
    all-quiet newer older d splits is clause (inl (place, names)) =
        let at = holds place clause names in
        quiet-same (literals_of older) at.1 clause at.3 (stored-quiet newer older d splits is at.0 at.1 at.2)
    all-quiet newer older d splits is clause (inr (number, live)) =
        let has = named number clause live in
        elim (leb_tells log.handles has.0) [
          | inl high ↦ reason-quiet newer older d splits is has.0 number clause high.1 has.1 live
          | inr low ↦ handle-quiet (literals_of older) (stored-quiet newer older d splits is) has.0 number clause low.1 has.1 live
        ]

    -- each decision was of a variable that had no value after unit propagation
    open-decisions : (newer older : List Step) → trail.steps ≡ newer ++ older → AreOpen formula clauses (decisions_of older)
    open-decisions newer [] splits = tt
    open-decisions newer (s ∷ older) splits =
        let rest = open-decisions (newer ++ s ∷ []) older (splits ∙ sym (append_assoc newer (s ∷ []) older)) in
        elim (bool_cases (is_decision s.reason)) [
          | inl is ↦
              (let quiet = all-quiet newer older s splits is in
              let sound = sound_older trail.variables newer (s ∷ older) (subst (IsSoundFor trail.variables) splits fit.trail_sound.steps) in
              let fine = consistent trail.variables older sound.2 in
              let among = decisions_among older in
              subst (AreOpen formula clauses) (sym (decided-of s older is)) (
                record {
                  not_true = λ becomes. sound.1.not_true (closed formula clauses (literals_of older) fine quiet (decisions_of older) becomes.trues among becomes.propagated s.literal becomes.is_true);
                  not_false = λ becomes. sound.1.not_false (closed formula clauses (literals_of older) fine quiet (decisions_of older) becomes.trues among becomes.propagated (opposite_of s.literal) becomes.is_true);
                },
                none-false formula clauses (literals_of older) fine quiet (decisions_of older) among,
                rest,
              ))
          | inr not_one ↦ subst (AreOpen formula clauses) (sym (decided-not s older not_one)) rest
        ]

    pub conflict-of : (clause : ℕ) → IsConflict pool trail clause → IsConflictOf formula clauses (decisions_of trail.steps)
    conflict-of clause conflict = record { are_open = open-decisions [] trail.steps refl; makes_false = makes-false clause conflict }
