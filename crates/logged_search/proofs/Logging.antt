-- The line of a clause that answers a conflict.
use Rattle.std.proofs.Common.{◌≡◌, ◌++◌, ℕ, List, [], ◌∷◌, Option, inl, inr, sym, ap, subst, arith, map}
use Rattle.std.specs.List.{flat_map}
use Rattle.std.proofs.lemmas.List.Sums.{sum_by-append, sum_by-cons}
use Rattle.ports.specs.Growth.{Grows}
use Rattle.clause_pool.specs.PoolValue.{PoolValue}
use Rattle.literals.specs.Propagation.{FollowsFrom}
use Rattle.trail.specs.Steps.{IsSoundFor}
use Rattle.trail.specs.declared.step.Step.{Step}
use Rattle.var_names.specs.Formulas.{FormulaValue}
use Rattle.var_names.specs.LiteralNumbers.{lit_of}
use Rattle.refutation_lines.specs.declared.line.Line.{Line}
use Rattle.refutation_lines.specs.declared.line.Line.TheVariants.{Clause}
use Rattle.refutation_lines.specs.LineText.{line_bytes}
use Rattle.conflict_analysis.specs.declared.hint.Hint.{Hint}
use Rattle.conflict_analysis.specs.Hints.{AreKnownHints, clause_of_hint}
use Rattle.search_steps.specs.declared.state.State.{State}
use Rattle.search_log.specs.Names.{LogValue, IsLastUnnamed, hint_number}
use Rattle.search_log.specs.Lines.{BreaksOffAt, IsDerived, LeadTo, PutsClause, clause_line}
use Rattle.logged_search.specs.Going.{Breaks, Closes, Goes, one_if_derived}
use Rattle.logged_search.specs.Tied.{AreAllNamed, AreOthersNamed, AreTied, IsPending}
use Rattle.logged_search.proofs.Going.{none_empty-append, rules-derived, rules-none_empty}
use Rattle.logged_search.proofs.Hinting.{hints-named}
use Rattle.logged_search.proofs.Named.{number-kept}
use Rattle.logged_search.proofs.Tying.{tied-kept}

module _ (formula : FormulaValue) (pool : PoolValue) (steps : List Step) (old : LogValue) (h h' : Option (List ℕ)) (clauses : List (Option (List ℕ))) (learned : List ℕ) (hints : List Hint) (n : ℕ)
    (sound : IsSoundFor n steps) (known : AreKnownHints pool.clauses steps hints) (follows : FollowsFrom learned (map (clause_of_hint pool.clauses steps) hints)) (tied : AreTied formula clauses pool steps old) where
  derivation : IsDerived formula old clauses learned hints
  derivation = record {
    current = tied.current;
    meanings = map (clause_of_hint pool.clauses steps) hints;
    named = hints-named n formula clauses pool steps old hints sound tied known;
    follows = follows;
  }

  -- a clause that is live behind the line was so before, or is that of the line
  others-named : (new : LogValue) (puts : PutsClause formula old new h h' learned hints) → AreAllNamed clauses old → AreOthersNamed (puts.continued clauses derivation).after new
  others-named new puts named number written is = elim (puts.names clauses derivation number written is) [
    | inl last ↦ inl last
    | inr rest ↦ elim rest [ inl was ↦ inr (number-kept old new number puts.keeps (named number written was)) | inr has ↦ inr has ]
  ]

  -- a line of a clause with literals was put
  pub clause-goes : AreAllNamed clauses old → (state : State) (new : LogValue) (first : ℕ) (rest : List ℕ) → state.pool ≡ pool → state.trail.steps ≡ steps → learned ≡ first ∷ rest → PutsClause formula old new h h' learned hints → IsLastUnnamed new
      → Goes formula old new h h' clauses (λ after. IsPending formula state new after learned)
  clause-goes named state new first rest same_pool same_steps splits puts last =
      let line = clause_line formula new learned hints in
      let goes = puts.continued clauses derivation in
      let some : map (lit_of formula.variables) learned ≡ [] → ⊥ = λ none. (let no : ⊥ = cc in no) in
      record {
        lines = puts.rules ++ line ∷ [];
        after = goes.after;
        leads = goes.leads;
        grows = puts.grows;
        none_empty = none_empty-append puts.rules (line ∷ []) (rules-none_empty puts.rules puts.are_rules) (some, tt);
        derived =
            let sum = sum_by-append one_if_derived puts.rules (line ∷ []) in
            let none = rules-derived puts.rules puts.are_rules in
            let one = sum_by-cons one_if_derived line [] in
            omega (arith, puts.derived, sum, none, one);
        holds = record {
          tied = subst (λ (p : PoolValue). AreTied formula goes.after p state.trail.steps new) (sym same_pool)
              (subst (λ (ys : List Step). AreTied formula goes.after pool ys new) (sym same_steps) (tied-kept formula clauses goes.after pool steps old new goes.current goes.stay puts.keeps tied));
          live = puts.numbered clauses derivation;
          last = last;
          named = others-named new puts named;
        };
      }

  -- the line of the clause without literals was put
  pub clause-closes : (new : LogValue) → learned ≡ [] → PutsClause formula old new h h' learned hints → Closes formula 0 h h' clauses
  clause-closes new none puts =
      let goes = puts.continued clauses derivation in
      let numbers = map (hint_number new) hints in
      let same : puts.rules ++ clause_line formula new learned hints ∷ [] ≡ puts.rules ++ Clause [] numbers ∷ [] = ap (λ (ls : List ℕ). puts.rules ++ clause_line formula new ls hints ∷ []) none in
      record {
        before = puts.rules;
        hints = numbers;
        after = goes.after;
        leads = subst (λ (ls : List Line). LeadTo formula clauses ls goes.after) same goes.leads;
        grows = subst (λ (ls : List Line). Grows h h' (flat_map line_bytes ls)) same puts.grows;
        none_empty = rules-none_empty puts.rules puts.are_rules;
        derived = rules-derived puts.rules puts.are_rules;
      }

  -- a fault came before the line's end
  pub clause-breaks : BreaksOffAt formula old h h' learned hints → Breaks formula h h' clauses
  clause-breaks breaks =
      let leads = breaks.leads clauses derivation in
      record { lines = breaks.lines; after = leads.0; ends = breaks.ends; leads = leads.1; grows = breaks.grows }
