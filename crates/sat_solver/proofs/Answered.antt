-- What the ends of a search say of the formula.
use Rattle.std.proofs.Common.{◌≡◌, ◌++◌, ◌+◌, ℕ, Bool, true, List, [], ◌∷◌, Option, arith, refl, subst, sym}
use Rattle.std.specs.List.{flat_map}
use Rattle.std.proofs.lemmas.List.Sums.{sum_by-append, sum_by-cons}
use Rattle.ports.specs.Growth.{Grows, GrowsByPrefix}
use Rattle.ports.proofs.GrowthLaws.{grows-then, prefix-of_more, prefix-then}
use Rattle.clause_pool.specs.PoolValue.{IsIn}
use Rattle.literals.specs.Truth.{holds, values_of}
use Rattle.trail.specs.Steps.{literals_of}
use Rattle.var_names.specs.Formulas.{FormulaValue}
use Rattle.numbered_hints.specs.ByLiteral as by_literal
use Rattle.refutation_lines.specs.declared.line.Line.{Line}
use Rattle.refutation_lines.specs.declared.line.Line.TheVariants.{Clause}
use Rattle.refutation_lines.specs.LineText.{header_bytes, line_bytes}
use Rattle.refutation_lines.specs.Refutations.{EndsAtEmpty, LogLines}
use Rattle.search_log.specs.Names.{LogValue}
use Rattle.logged_search.specs.Going.{Breaks, Goes, NoneEmpty, derived_in, one_if_derived}
use Rattle.logged_search.specs.declared.search.LoggedSearch.{LoggedSearch}
use Rattle.logged_search.proofs.Going.{ends-front}
use Rattle.sat_solver.specs.Answers.{Faults, IsModel, PutsBudget, PutsLines, PutsRefutation}
use Rattle.sat_solver.specs.Ends.{AreFew, HasClosed, HasModel, HasSpent}

none-ends : (lines : List Line) → NoneEmpty lines → EndsAtEmpty lines
none-ends [] none = tt
none-ends (l ∷ []) none = tt
none-ends (l ∷ m ∷ ls) none = (none.0, none-ends (m ∷ ls) none.1)

pub goes-log : (formula : FormulaValue) (a b : LogValue) (h h' : Option (List ℕ)) (Then : List (Option (List ℕ)) → Type 0) → (goes : Goes formula a b h h' [] Then) → LogLines formula.clauses goes.lines
goes-log formula a b h h' Then goes = record { clauses = by_literal.literals_of formula.variables goes.after; steps = goes.leads; ends = none-ends goes.lines goes.none_empty }

pub goes-puts : (formula : FormulaValue) (a b : LogValue) (h begun h' : Option (List ℕ)) (Then : List (Option (List ℕ)) → Type 0) → Grows h begun (header_bytes formula.steps) → (goes : Goes formula a b begun h' [] Then)
    → AreFew formula (derived_in goes.lines) → PutsLines formula h h'
goes-puts formula a b h begun h' Then header goes few = record {
  lines = goes.lines;
  log = goes-log formula a b begun h' Then goes;
  grows = grows-then h begun h' (header_bytes formula.steps) (flat_map line_bytes goes.lines) header goes.grows;
  few = few;
}

pub spent-puts : (formula : FormulaValue) (budget : ℕ) (old new : LoggedSearch) (h begun h' : Option (List ℕ)) → Grows h begun (header_bytes formula.steps) → HasSpent formula budget old new begun h' → PutsBudget formula budget h h'
unfolding goes-log
spent-puts formula budget old new h begun h' header spent = record {
  lines = spent.goes.lines;
  log = goes-log formula old.log new.log begun h' _ spent.goes;
  grows = grows-then h begun h' (header_bytes formula.steps) (flat_map line_bytes spent.goes.lines) header spent.goes.grows;
  none_empty = spent.goes.none_empty;
  derived = spent.derived;
  live = spent.goes.after;
  are_live = refl;
  conflict = spent.goes.holds;
  few = spent.few;
}

pub closes-puts : (formula : FormulaValue) (h begun h' : Option (List ℕ)) → Grows h begun (header_bytes formula.steps) → HasClosed formula begun h' → PutsRefutation formula h h'
closes-puts formula h begun h' header has =
    let closes = has.closes in
    let lines = closes.before ++ Clause [] closes.hints ∷ [] in
    record {
      lines = lines;
      refutation = record {
        log = record { clauses = by_literal.literals_of formula.variables closes.after; steps = closes.leads; ends = ends-front closes.before (Clause [] closes.hints ∷ []) closes.none_empty tt };
        before = closes.before;
        hints = closes.hints;
        last = refl;
      };
      grows = grows-then h begun h' (header_bytes formula.steps) (flat_map line_bytes lines) header closes.grows;
      few = subst (AreFew formula) (sym (one-more closes.before (Clause [] closes.hints) refl)) has.few;
    }
  where
    one-more : (before : List Line) (last : Line) → one_if_derived last ≡ 1 → derived_in (before ++ last ∷ []) ≡ derived_in before + 1
    one-more before last one = let sum = sum_by-append one_if_derived before (last ∷ []) in let end = sum_by-cons one_if_derived last [] in omega (arith, sum, end, one)

pub breaks-faults : (formula : FormulaValue) (h begun h' : Option (List ℕ)) → Grows h begun (header_bytes formula.steps) → Breaks formula begun h' [] → Faults formula h h'
breaks-faults formula h begun h' header breaks = record {
  lines = breaks.lines;
  log = record { clauses = by_literal.literals_of formula.variables breaks.after; steps = breaks.leads; ends = breaks.ends };
  grows = prefix-then h begun h' (header_bytes formula.steps) (flat_map line_bytes breaks.lines) header breaks.grows;
}

pub header-faults : (formula : FormulaValue) (h h' : Option (List ℕ)) → GrowsByPrefix h h' (header_bytes formula.steps) → Faults formula h h'
header-faults formula h h' part = record {
  lines = [];
  log = record { clauses = []; steps = refl; ends = tt };
  grows = prefix-of_more h h' (header_bytes formula.steps) [] part;
}

pub model-is : (formula : FormulaValue) (old new : LoggedSearch) (h h' : Option (List ℕ)) (values : List Bool) → HasModel formula old new h h'
    → ((literal : ℕ) → IsIn literal (literals_of new.state.trail.steps) → holds (values_of values) literal ≡ true) → IsModel formula values
model-is formula old new h h' values model holds_all place numbers names =
    let at = model.goes.holds.holds place numbers names in
    let is = model.are_true at.0 at.1 at.2 in
    record { literal = is.literal; member = (at.3 is.literal).0 is.member; is_true = holds_all is.literal is.is_true }
