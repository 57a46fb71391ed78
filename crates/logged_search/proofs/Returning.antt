-- The way back with its lines.
use Rattle.std.proofs.Common.{◌≡◌, ℕ, List, [], ◌∷◌, Option, Result, Ok, Err, sym, ap, subst, arith}
use Rattle.std.specs.Prelude.{MatchResult, OnOk}
use Rattle.std.proofs.lemmas.List.Sums.{sum_by-cons}
use Rattle.ports.specs.Growth.{Grows, GrowsByPrefix, PutsAll}
use Rattle.clause_pool.specs.PoolValue.{PoolValue}
use Rattle.trail.specs.Steps.{IsSoundFor}
use Rattle.trail.specs.declared.step.Reason.TheVariants.{Decisions}
use Rattle.trail.specs.declared.step.Step.{Step}
use Rattle.var_names.specs.Formulas.{FormulaValue}
use Rattle.refutation_lines.specs.LineText.{line_bytes}
use Rattle.search_steps.specs.declared.state.State.{State}
use Rattle.search_log.specs.declared.name.Name.TheVariants.{Unnamed}
use Rattle.search_log.specs.Names.{LogValue, IsNumberedName, name_at, number_in, with_name}
use Rattle.search_log.specs.Lines.{IsCurrent, IsLiveNumber, TakesOutName, deletion_line}
use Rattle.search_log.proofs.Clauses.{flat-one}
use Rattle.logged_search.specs.Going.{Breaks, Goes, one_if_derived}
use Rattle.logged_search.specs.Tied.{AreTied, IsPending, reason_slot}
use Rattle.logged_search.proofs.Named.{named-taken}
use Rattle.logged_search.proofs.Changing.{last-taken, live-number, numbered-reason, numbered-within, pending-taken, tied-back, tied-taken, unnamed-reason}

module _ (formula : FormulaValue) (clauses : List (Option (List ℕ))) (learned : List ℕ) (old new : State) (log : LogValue) (s : Step) (newest : old.trail.steps ≡ s ∷ new.trail.steps) (pool : new.pool ≡ old.pool) where
  tied-before : AreTied formula clauses old.pool old.trail.steps log → AreTied formula clauses new.pool (s ∷ new.trail.steps) log
  tied-before tied = subst (λ (p : PoolValue). AreTied formula clauses p (s ∷ new.trail.steps) log) (sym pool) (subst (λ (ys : List Step). AreTied formula clauses old.pool ys log) newest tied)

  -- a step is taken back that has no name
  pub pending-back : (s.reason ≡ Decisions → ⊥) → IsPending formula old log clauses learned → IsPending formula new log clauses learned
  pending-back other is =
      let tied = tied-before is.tied in
      record {
        tied = tied-back formula clauses new.pool s new.trail.steps log (unnamed-reason formula clauses log new.trail.steps s.literal s.reason other tied.reasons.0) tied;
        live = is.live;
        last = is.last;
        named = is.named;
      }

  -- one whose reason is taken out
  pub pending-out : (n : ℕ) → IsSoundFor n old.trail.steps → (takes : TakesOutName formula log clauses (reason_slot log s.literal))
      → IsPending formula old log clauses learned → IsPending formula new (with_name log (reason_slot log s.literal) Unnamed) takes.after learned
  pending-out n sound takes is =
      let slot = reason_slot log s.literal in
      let fresh = (subst (IsSoundFor n) newest sound).1 in
      record {
        tied = tied-taken formula clauses new.pool s new.trail.steps log fresh (tied-before is.tied) takes;
        live = pending-taken formula clauses log slot learned is.live is.last takes;
        last = last-taken log slot (numbered-within log.names slot takes.numbered) is.last;
        named = named-taken formula clauses log slot takes is.named;
      }

  -- the reason has a number, and that is one of a live clause
  pub reason-numbered : s.reason ≡ Decisions → IsPending formula old log clauses learned → IsNumberedName (name_at log.names (reason_slot log s.literal))
  reason-numbered is pending = (numbered-reason formula clauses log new.trail.steps s.literal s.reason is (tied-before pending.tied).reasons.0).0

  pub reason-live : s.reason ≡ Decisions → IsPending formula old log clauses learned → IsLiveNumber clauses (number_in (name_at log.names (reason_slot log s.literal)))
  reason-live is pending =
      let has = numbered-reason formula clauses log new.trail.steps s.literal s.reason is (tied-before pending.tied).reasons.0 in
      live-number formula clauses (name_at log.names (reason_slot log s.literal)) _ has.0 has.1

-- the line that takes a reason out was put, or a prefix of it
pub out-goes : {A E : Type 0} (result : Result A E) (old new : State) (log log' : LogValue) (s : Step) (n : ℕ) (h h' : Option (List ℕ))
    → old.trail.steps ≡ s ∷ new.trail.steps → new.pool ≡ old.pool → s.reason ≡ Decisions → IsSoundFor n old.trail.steps
    → OnOk result (log' ≡ with_name log (reason_slot log s.literal) Unnamed) → PutsAll h h' result (line_bytes (deletion_line log (reason_slot log s.literal)))
    → ((formula : FormulaValue) (clauses : List (Option (List ℕ))) → IsCurrent formula log clauses → IsLiveNumber clauses (number_in (name_at log.names (reason_slot log s.literal))) → TakesOutName formula log clauses (reason_slot log s.literal))
    → MatchResult result
    (λ _. (formula : FormulaValue) (clauses : List (Option (List ℕ))) (learned : List ℕ) → IsPending formula old log clauses learned → Goes formula log log' h h' clauses (λ after. IsPending formula new log' after learned))
    (λ _. (formula : FormulaValue) (clauses : List (Option (List ℕ))) (learned : List ℕ) → IsPending formula old log clauses learned → Breaks formula h h' clauses)
out-goes (Ok x) old new log log' s n h h' newest pool is sound named puts taken = λ formula clauses learned pending.
    let line = deletion_line log (reason_slot log s.literal) in
    let takes = taken formula clauses pending.tied.current (reason-live formula clauses learned old new log s newest pool is pending) in
    subst (λ (l : LogValue). Goes formula log l h h' clauses (λ after. IsPending formula new l after learned)) (sym named) (record {
      lines = line ∷ [];
      after = takes.after;
      leads = takes.leads;
      grows = subst (Grows h h') (sym (flat-one line_bytes line)) puts;
      none_empty = ((λ none. none), tt);
      derived = let sum = sum_by-cons one_if_derived line [] in omega (arith, sum);
      holds = pending-out formula clauses learned old new log s newest pool n sound takes pending;
    })
out-goes (Err e) old new log log' s n h h' newest pool is sound named puts taken = λ formula clauses learned pending.
    let line = deletion_line log (reason_slot log s.literal) in
    let takes = taken formula clauses pending.tied.current (reason-live formula clauses learned old new log s newest pool is pending) in
    record {
      lines = line ∷ [];
      after = takes.after;
      ends = tt;
      leads = takes.leads;
      grows = subst (GrowsByPrefix h h') (sym (flat-one line_bytes line)) puts;
    }

pub out-derived : {A E : Type 0} (result : Result A E) (log log' : LogValue) (l : ℕ) → OnOk result (log' ≡ with_name log (reason_slot log l) Unnamed) → OnOk result (log'.derived ≡ log.derived)
out-derived (Ok x) log log' l named = ap (λ (g : LogValue). g.derived) named
out-derived (Err e) log log' l named = named
