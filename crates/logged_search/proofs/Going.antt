-- Lines that are put one after another.
use Rattle.std.proofs.Common.{◌≡◌, ◌++◌, ◌+◌, ◌∙◌, ℕ, List, [], ◌∷◌, Option, refl, sym, subst, arith, append_assoc}
use Rattle.std.specs.List.{flat_map}
use Rattle.std.proofs.lemmas.List.Sums.{sum_by-append, sum_by-cons}
use Rattle.ports.specs.Growth.{Grows, GrowsByPrefix}
use Rattle.ports.proofs.GrowthLaws.{grows-nothing, grows-then, prefix-then}
use Rattle.var_names.specs.Formulas.{FormulaValue}
use Rattle.refutation_lines.specs.declared.line.Line.{Line}
use Rattle.refutation_lines.specs.declared.line.Line.TheVariants.{Instance, Clause, Deletion}
use Rattle.refutation_lines.specs.LineText.{line_bytes}
use Rattle.refutation_lines.specs.Refutations.{EndsAtEmpty, IsEmptyClause}
use Rattle.numbered_hints.specs.ByLiteral.{literals_of}
use Rattle.search_log.specs.Names.{LogValue}
use Rattle.search_log.specs.Lines.{AreInstanceLines, IsInstanceLine, LeadTo}
use Rattle.search_log.proofs.Clauses.{flat-append, steps-append}
use Rattle.logged_search.specs.Going.{Breaks, Closes, Goes, NoneEmpty, derived_in, one_if_derived}

pub none_empty-append : (xs ys : List Line) → NoneEmpty xs → NoneEmpty ys → NoneEmpty (xs ++ ys)
none_empty-append [] ys first second = second
none_empty-append (x ∷ xs) ys first second = (first.0, none_empty-append xs ys first.1 second)

pub ends-front : (xs ys : List Line) → NoneEmpty xs → EndsAtEmpty ys → EndsAtEmpty (xs ++ ys)
ends-front [] ys none ends = ends
ends-front (x ∷ []) [] none ends = tt
ends-front (x ∷ []) (y ∷ ys) none ends = (none.0, ends)
ends-front (x ∷ x' ∷ xs) ys none ends = (none.0, ends-front (x' ∷ xs) ys none.1 ends)

instance-is : (line : Line) → IsInstanceLine line → ¬ (IsEmptyClause line) × (one_if_derived line ≡ 0)
instance-is (Instance rule) is = ((λ h. h), refl)
instance-is (Clause literals hints) is = absurd is
instance-is (Deletion numbers) is = absurd is

pub rules-none_empty : (lines : List Line) → AreInstanceLines lines → NoneEmpty lines
rules-none_empty [] are = tt
rules-none_empty (l ∷ ls) are = ((instance-is l are.0).0, rules-none_empty ls are.1)

pub rules-derived : (lines : List Line) → AreInstanceLines lines → derived_in lines ≡ 0
rules-derived [] are = refl
rules-derived (l ∷ ls) are = let here = (instance-is l are.0).1 in let later = rules-derived ls are.1 in let sum = sum_by-cons one_if_derived l ls in omega (arith, here, later, sum)

-- nothing is put
pub goes-none : (formula : FormulaValue) (log : LogValue) (held : Option (List ℕ)) (clauses : List (Option (List ℕ))) (Then : List (Option (List ℕ)) → Type 0) → Then clauses → Goes formula log log held held clauses Then
goes-none formula log held clauses Then is = record {
  lines = [];
  after = clauses;
  leads = refl;
  grows = grows-nothing held;
  none_empty = tt;
  derived = omega arith;
  holds = is;
}

-- lines after lines
pub goes-then : (formula : FormulaValue) (a b c : LogValue) (h h' h'' : Option (List ℕ)) (clauses : List (Option (List ℕ))) (Mid Then : List (Option (List ℕ)) → Type 0)
    → Goes formula a b h h' clauses Mid → ((after : List (Option (List ℕ))) → Mid after → Goes formula b c h' h'' after Then) → Goes formula a c h h'' clauses Then
goes-then formula a b c h h' h'' clauses Mid Then first next =
    let second = next first.after first.holds in
    record {
      lines = first.lines ++ second.lines;
      after = second.after;
      leads = steps-append formula.clauses (literals_of formula.variables clauses) (literals_of formula.variables first.after) (literals_of formula.variables second.after) first.lines second.lines first.leads second.leads;
      grows = subst (Grows h h'') (sym (flat-append line_bytes first.lines second.lines)) (grows-then h h' h'' (flat_map line_bytes first.lines) (flat_map line_bytes second.lines) first.grows second.grows);
      none_empty = none_empty-append first.lines second.lines first.none_empty second.none_empty;
      derived = let sum = sum_by-append one_if_derived first.lines second.lines in omega (arith, first.derived, second.derived, sum);
      holds = second.holds;
    }

-- what is known of the clauses in the end may be said otherwise, of another log with as many clause lines
pub goes-so : (formula : FormulaValue) (a b c : LogValue) (h h' : Option (List ℕ)) (clauses : List (Option (List ℕ))) (Mid Then : List (Option (List ℕ)) → Type 0)
    → c.derived ≡ b.derived → ((after : List (Option (List ℕ))) → Mid after → Then after) → Goes formula a b h h' clauses Mid → Goes formula a c h h' clauses Then
goes-so formula a b c h h' clauses Mid Then same onward goes = record {
  lines = goes.lines;
  after = goes.after;
  leads = goes.leads;
  grows = goes.grows;
  none_empty = goes.none_empty;
  derived = same ∙ goes.derived;
  holds = onward goes.after goes.holds;
}

-- a fault behind lines
pub goes-breaks : (formula : FormulaValue) (a b : LogValue) (h h' h'' : Option (List ℕ)) (clauses : List (Option (List ℕ))) (Mid : List (Option (List ℕ)) → Type 0)
    → Goes formula a b h h' clauses Mid → ((after : List (Option (List ℕ))) → Mid after → Breaks formula h' h'' after) → Breaks formula h h'' clauses
goes-breaks formula a b h h' h'' clauses Mid first next =
    let second = next first.after first.holds in
    record {
      lines = first.lines ++ second.lines;
      after = second.after;
      ends = ends-front first.lines second.lines first.none_empty second.ends;
      leads = steps-append formula.clauses (literals_of formula.variables clauses) (literals_of formula.variables first.after) (literals_of formula.variables second.after) first.lines second.lines first.leads second.leads;
      grows = subst (GrowsByPrefix h h'') (sym (flat-append line_bytes first.lines second.lines)) (prefix-then h h' h'' (flat_map line_bytes first.lines) (flat_map line_bytes second.lines) first.grows second.grows);
    }

-- the clause without literals behind lines
pub goes-closes : (formula : FormulaValue) (a b : LogValue) (h h' h'' : Option (List ℕ)) (clauses : List (Option (List ℕ))) (Mid : List (Option (List ℕ)) → Type 0) (count : ℕ)
    → (first : Goes formula a b h h' clauses Mid) → ((after : List (Option (List ℕ))) → Mid after → Closes formula count h' h'' after) → Closes formula (derived_in first.lines + count) h h'' clauses
goes-closes formula a b h h' h'' clauses Mid count first next =
    let second = next first.after first.holds in
    let last = second.before ++ Clause [] second.hints ∷ [] in
    let assoc : (first.lines ++ second.before) ++ Clause [] second.hints ∷ [] ≡ first.lines ++ last = append_assoc first.lines second.before (Clause [] second.hints ∷ []) in
    record {
      before = first.lines ++ second.before;
      hints = second.hints;
      after = second.after;
      leads = subst (λ (ls : List Line). LeadTo formula clauses ls second.after) (sym assoc)
          (steps-append formula.clauses (literals_of formula.variables clauses) (literals_of formula.variables first.after) (literals_of formula.variables second.after) first.lines last first.leads second.leads);
      grows = subst (λ (ls : List Line). Grows h h'' (flat_map line_bytes ls)) (sym assoc)
          (subst (Grows h h'') (sym (flat-append line_bytes first.lines last)) (grows-then h h' h'' (flat_map line_bytes first.lines) (flat_map line_bytes last) first.grows second.grows));
      none_empty = none_empty-append first.lines second.before first.none_empty second.none_empty;
      derived = let sum = sum_by-append one_if_derived first.lines second.before in omega (arith, sum, second.derived);
    }
