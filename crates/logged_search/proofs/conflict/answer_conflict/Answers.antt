use Rattle.std.proofs.Common.{◌*◌, ◌<◌, ◌≤◌, ◌∙◌, ℕ, List, ap, arith, length, refl, subst, sym}
use Rattle.std.specs.Prelude.{All}
use Rattle.clause_pool.specs.PoolValue.{PoolValue, IsFull}
use Rattle.trail.specs.Steps.{TrailValue}
use Rattle.propagation.specs.Ready.{IsReady}
use Rattle.search_log.specs.Lines.{AreApart}
use Rattle.search_log.specs.Names.{IsKnownName, hint_name}
use Rattle.search_log.proofs.Pieces.{failed}
use Rattle.conflict_analysis.specs.declared.hint.Hint.{Hint}
use Rattle.conflict_analysis.specs.Hints.{AreKnownHints}
use Rattle.search_steps.specs.declared.state.State.{State}
use Rattle.learning_steps.specs.Reasons.{IsNextReason}
use Rattle.logged_search.specs.Answers.{ExcludesDecisions}
use Rattle.logged_search.specs.Ranks.{next_rank}
use Rattle.logged_search.specs.Tied.{IsPending}
use Rattle.logged_search.proofs.Answered.{answer-is, settled-back, sized-back}
use Rattle.logged_search.proofs.Going.{goes-breaks, goes-so, goes-then}
use Rattle.logged_search.proofs.Hinting.{hints-known}
use Rattle.logged_search.proofs.Logging.{clause-breaks, clause-goes}
use Rattle.logged_search.proofs.Raised.{state-raised}
use Rattle.logged_search.proofs.Ranks.{rank-next}
use Rattle.logged_search.proofs.conflict.answer_conflict.Goals as goal

pub raise_met-requires-clause-below : goal.raise_met-requires-clause-below
raise_met-requires-clause-below g c =
    subst (λ (ls : List ℕ). All (λ literal. literal < 2 * c.args.search.now.state.trail.variables) ls) (sym c.learned.ensures) c.choose-back.ensures.answer.below

pub raise_met-requires-clause-known : goal.raise_met-requires-clause-known
raise_met-requires-clause-known g c =
    let s = c.args.search.now in
    subst (λ (hs : List Hint). AreKnownHints s.state.pool.clauses s.state.trail.steps hs) (sym c.hints.ensures) c.choose-back.ensures.answer.known

pub unwind-requires-clause-state : goal.unwind-requires-clause-state
unwind-requires-clause-state g c =
    let s = c.args.search.now in
    state-raised s.state c.raise_met.new.order c.raise_met.ensures c.requires.logged.logged.state

pub put_clause-requires-clause-below : goal.put_clause-requires-clause-below
put_clause-requires-clause-below g c =
    let f = c.args.formula.now in
    let sized = c.requires.logged.logged.sized in
    subst (λ (ls : List ℕ). All (λ n. n < 2 * length f.variables) ls) (sym c.learned-2.ensures)
    (subst (λ k. All (λ n. n < 2 * k) c.choose-back.new.analysis.learned) sized.variables c.choose-back.ensures.answer.below)

pub put_clause-requires-clause-apart : goal.put_clause-requires-clause-apart
put_clause-requires-clause-apart g c = subst AreApart (sym c.learned-2.ensures) c.choose-back.ensures.answer.apart

pub put_clause-requires-clause-known : goal.put_clause-requires-clause-known
put_clause-requires-clause-known g c =
    let s = c.args.search.now in
    let f = c.args.formula.now in
    let has = c.requires.logged in
    subst (λ (hs : List Hint). All (λ hint. IsKnownName f (hint_name s.log hint)) hs) (sym c.hints-2.ensures)
    (hints-known s.state.trail.variables f has.clauses s.state.pool s.state.trail.steps s.log c.choose-back.new.analysis.hints has.logged.state.fit.trail_sound.steps has.logged.tied c.choose-back.ensures.answer.known)

pub returns-in_err-put_clause-clause-goes : goal.returns-in_err-put_clause-clause-goes
returns-in_err-put_clause-clause-goes g c =
    let s = c.args.search.now in
    let ls = c.learned-2.result.now in
    let hs = c.hints-2.result.now in
    let is = answer-is s.state.pool s.state.trail c.choose-back.new.analysis.learned ls c.choose-back.new.analysis.hints hs c.choose-back.result c.learned-2.ensures c.hints-2.ensures c.choose-back.ensures.answer in
    failed c.from_residual.result _ _ c.from_residual.ensures.0 (λ e clauses logged.
    clause-breaks c.args.formula.now s.state.pool s.state.trail.steps s.log _ _ clauses ls hs s.state.trail.variables logged.state.fit.trail_sound.steps is.known is.follows logged.tied c.in_err-put_clause.ensures.put)

pub unwind-requires-clause-pending : goal.unwind-requires-clause-pending
unwind-requires-clause-pending g c =
    let s = c.args.search.now in
    let st : State = record { pool = s.state.pool; trail = s.state.trail; order = c.raise_met.new.order } in
    let f = c.args.formula.now in
    let has = c.requires.logged in
    let ls = c.learned-2.result.now in
    let hs = c.hints-2.result.now in
    let is = answer-is s.state.pool s.state.trail c.choose-back.new.analysis.learned ls c.choose-back.new.analysis.hints hs c.choose-back.result c.learned-2.ensures c.hints-2.ensures c.choose-back.ensures.answer in
    let puts = c.in_ok-put_clause.ensures.put in
    let one = clause-goes f s.state.pool s.state.trail.steps s.log (g.S.Sink.held c.args.out.now) (g.S.Sink.held c.put_clause.new.out) has.clauses ls hs s.state.trail.variables has.logged.state.fit.trail_sound.steps is.known is.follows has.logged.tied has.logged.named
    st c.put_clause.new.self is.next.first is.next.rest refl refl is.next.splits puts.0 puts.1 in
    record { formula = f; clauses = one.after; learned = ls; pending = one.holds }

pub returns-in_err-unwind-clause-goes : goal.returns-in_err-unwind-clause-goes
returns-in_err-unwind-clause-goes g c =
    let s = c.args.search.now in
    let st : State = record { pool = s.state.pool; trail = s.state.trail; order = c.raise_met.new.order } in
    let f = c.args.formula.now in
    let ls = c.learned-2.result.now in
    let hs = c.hints-2.result.now in
    let is = answer-is s.state.pool s.state.trail c.choose-back.new.analysis.learned ls c.choose-back.new.analysis.hints hs c.choose-back.result c.learned-2.ensures c.hints-2.ensures c.choose-back.ensures.answer in
    let puts = c.in_ok-put_clause.ensures.put in
    failed c.from_residual-in_err-unwind.result _ _ c.from_residual-in_err-unwind.ensures.0 (λ e clauses logged.
    goes-breaks f s.log c.put_clause.new.self (g.S.Sink.held c.args.out.now) (g.S.Sink.held c.put_clause.new.out) (g.S.Sink.held c.unwind.new.out) clauses (λ after. IsPending f st c.put_clause.new.self after ls)
    (clause-goes f s.state.pool s.state.trail.steps s.log _ _ clauses ls hs s.state.trail.variables logged.state.fit.trail_sound.steps is.known is.follows logged.tied logged.named st c.put_clause.new.self is.next.first is.next.rest refl refl is.next.splits puts.0 puts.1)
    (λ after pending. c.in_err-unwind.ensures.goes f after ls pending))

pub keep-requires-clause-settled : goal.keep-requires-clause-settled
keep-requires-clause-settled g c =
    let s = c.args.search.now in
    settled-back s.state.pool c.unwind.new.state.pool s.state.trail c.unwind.new.state.trail c.choose-back.result c.requires.logged.logged.state.fit c.choose-back.ensures.answer.lower c.in_ok-unwind.ensures.pool c.in_ok-unwind.ensures.trail

pub keep-requires-clause-below : goal.keep-requires-clause-below
keep-requires-clause-below g c = subst (λ (t : TrailValue). All (λ literal. literal < 2 * t.variables) c.choose-back.new.analysis.learned) (sym c.in_ok-unwind.ensures.trail) c.choose-back.ensures.answer.below

pub keep-requires-clause-next : goal.keep-requires-clause-next
keep-requires-clause-next g c = subst (λ (t : TrailValue). IsNextReason t.steps c.choose-back.new.analysis.learned) (sym c.in_ok-unwind.ensures.trail) c.choose-back.ensures.answer.next

pub keep-requires-clause-excludes : goal.keep-requires-clause-excludes
keep-requires-clause-excludes g c = λ full.
    subst (λ (t : TrailValue). ExcludesDecisions t.steps c.choose-back.new.analysis.learned) (sym c.in_ok-unwind.ensures.trail)
    (c.choose-back.ensures.answer.excludes (subst (λ (p : PoolValue). IsFull p (length c.choose-back.new.analysis.learned)) c.in_ok-unwind.ensures.pool full))

pub keep-requires-clause-pending : goal.keep-requires-clause-pending
keep-requires-clause-pending g c =
    let s = c.args.search.now in
    let st : State = record { pool = s.state.pool; trail = s.state.trail; order = c.raise_met.new.order } in
    let f = c.args.formula.now in
    let has = c.requires.logged in
    let ls = c.learned-2.result.now in
    let hs = c.hints-2.result.now in
    let is = answer-is s.state.pool s.state.trail c.choose-back.new.analysis.learned ls c.choose-back.new.analysis.hints hs c.choose-back.result c.learned-2.ensures c.hints-2.ensures c.choose-back.ensures.answer in
    let puts = c.in_ok-put_clause.ensures.put in
    let one = clause-goes f s.state.pool s.state.trail.steps s.log (g.S.Sink.held c.args.out.now) (g.S.Sink.held c.put_clause.new.out) has.clauses ls hs s.state.trail.variables has.logged.state.fit.trail_sound.steps is.known is.follows has.logged.tied has.logged.named
    st c.put_clause.new.self is.next.first is.next.rest refl refl is.next.splits puts.0 puts.1 in
    let two = c.in_ok-unwind.ensures.goes f one.after ls one.holds in
    record {
      formula = f;
      clauses = two.after;
      sized = sized-back f s _ c.choose-back.result c.in_ok-unwind.ensures.pool c.in_ok-unwind.ensures.trail c.choose-back.ensures.literals refl refl has.logged.sized;
      pending = subst (λ (xs : List ℕ). IsPending f c.unwind.new.state c.unwind.new.log two.after xs) c.learned-2.ensures two.holds;
    }

pub returns-clause-goes : goal.returns-clause-goes
returns-clause-goes g c = λ clauses logged.
    let s = c.args.search.now in
    let st : State = record { pool = s.state.pool; trail = s.state.trail; order = c.raise_met.new.order } in
    let f = c.args.formula.now in
    let ls = c.learned-2.result.now in
    let hs = c.hints-2.result.now in
    let is = answer-is s.state.pool s.state.trail c.choose-back.new.analysis.learned ls c.choose-back.new.analysis.hints hs c.choose-back.result c.learned-2.ensures c.hints-2.ensures c.choose-back.ensures.answer in
    let puts = c.in_ok-put_clause.ensures.put in
    let sized = sized-back f s (record { state = c.unwind.new.state; log = c.unwind.new.log; analysis = c.choose-back.new.analysis; words = s.words; spare = s.spare }) c.choose-back.result
    c.in_ok-unwind.ensures.pool c.in_ok-unwind.ensures.trail c.choose-back.ensures.literals refl refl logged.sized in
    let counted : c.unwind.new.log.derived ≤ next_rank c.unwind.new.state.trail.variables c.unwind.new.state.trail.steps =
    let next = rank-next s.state.trail.variables s.state.trail.steps c.choose-back.result logged.state.fit.trail_sound.steps c.choose-back.ensures.answer.lower in
    let trail = ap (λ (t : TrailValue). next_rank t.variables t.steps) c.in_ok-unwind.ensures.trail in
    omega (arith, next, trail, c.in_ok-unwind.ensures.derived, puts.0.derived, logged.counted) in
    let holds = subst (λ (p : PoolValue). Rattle.logged_search.specs.Tied.HoldsFormula f p.clauses) (sym c.in_ok-unwind.ensures.pool) logged.holds in
    goes-then f s.log c.put_clause.new.self c.keep.new.search.log (g.S.Sink.held c.args.out.now) (g.S.Sink.held c.put_clause.new.out) (g.S.Sink.held c.unwind.new.out) clauses (λ after. IsPending f st c.put_clause.new.self after ls) _
    (clause-goes f s.state.pool s.state.trail.steps s.log _ _ clauses ls hs s.state.trail.variables logged.state.fit.trail_sound.steps is.known is.follows logged.tied logged.named st c.put_clause.new.self is.next.first is.next.rest refl refl is.next.splits puts.0 puts.1)
    (λ after pending.
    goes-so f c.put_clause.new.self c.unwind.new.log c.keep.new.search.log (g.S.Sink.held c.put_clause.new.out) (g.S.Sink.held c.unwind.new.out) after (λ later. IsPending f c.unwind.new.state c.unwind.new.log later ls) _ c.keep.ensures.derived
    (λ later is_pending. c.keep.ensures.logged f later (subst (λ (xs : List ℕ). IsPending f c.unwind.new.state c.unwind.new.log later xs) c.learned-2.ensures is_pending) sized holds counted)
    (c.in_ok-unwind.ensures.goes f after ls pending))

pub returns-clause-ready : goal.returns-clause-ready
returns-clause-ready g c = subst (λ n. IsReady c.keep.new.search.state.pool c.keep.new.search.state.trail n) (sym c.len-handled.ensures) c.keep.ensures.ready

pub returns-clause-derived : goal.returns-clause-derived
returns-clause-derived g c = c.keep.ensures.derived ∙ c.in_ok-unwind.ensures.derived ∙ c.in_ok-put_clause.ensures.put.0.derived
