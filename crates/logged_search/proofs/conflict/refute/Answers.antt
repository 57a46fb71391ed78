use Rattle.std.proofs.Common.{◌*◌, ◌∙◌, List, ℕ, length, map, subst, sym}
use Rattle.std.specs.Prelude.{All}
use Rattle.literals.specs.Propagation.{FollowsFrom}
use Rattle.conflict_analysis.specs.declared.hint.Hint.{Hint}
use Rattle.conflict_analysis.specs.Hints.{AreKnownHints, clause_of_hint}
use Rattle.search_log.specs.Names.{IsKnownName, hint_name}
use Rattle.logged_search.proofs.Answered.{answers-so, none-apart, none-below}
use Rattle.logged_search.proofs.Hinting.{hints-known}
use Rattle.logged_search.proofs.Logging.{clause-breaks, clause-closes}
use Rattle.logged_search.proofs.conflict.refute.Goals as goal

pub put_clause-requires-clause-below : goal.put_clause-requires-clause-below
put_clause-requires-clause-below g c = none-below c.learned.result.now (2 * length c.args.formula.now.variables) (c.learned.ensures ∙ c.analyze.ensures.learned.empty c.requires.undecided)

pub put_clause-requires-clause-apart : goal.put_clause-requires-clause-apart
put_clause-requires-clause-apart g c = none-apart c.learned.result.now (c.learned.ensures ∙ c.analyze.ensures.learned.empty c.requires.undecided)

pub put_clause-requires-clause-known : goal.put_clause-requires-clause-known
put_clause-requires-clause-known g c =
    let s = c.args.search.now in
    let f = c.args.formula.now in
    subst (λ (hs : List Hint). All (λ hint. IsKnownName f (hint_name s.log hint)) hs) (sym c.hints.ensures)
    (hints-known s.state.trail.variables f c.requires.tied.clauses s.state.pool s.state.trail.steps s.log c.analyze.new.self.hints c.requires.fit.trail_sound.steps c.requires.tied.tied c.analyze.ensures.learned.known)

pub returns-clause-closes : goal.returns-clause-closes
returns-clause-closes g c =
    let s = c.args.search.now in
    let f = c.args.formula.now in
    let p = s.state.pool in
    let ys = s.state.trail.steps in
    let is = c.analyze.ensures.learned in
    let ls = c.learned.result.now in
    let hs = c.hints.result.now in
    let known : AreKnownHints p.clauses ys hs = subst (AreKnownHints p.clauses ys) (sym c.hints.ensures) is.known in
    let follows : FollowsFrom ls (map (clause_of_hint p.clauses ys) hs) =
    subst (λ (xs : List ℕ). FollowsFrom xs (map (clause_of_hint p.clauses ys) hs)) (sym c.learned.ensures)
    (subst (λ (xs : List Hint). FollowsFrom c.analyze.new.self.learned (map (clause_of_hint p.clauses ys) xs)) (sym c.hints.ensures) is.follows) in
    answers-so c.put_clause.result _ _ _ _
    (λ a puts clauses tied. clause-closes f p ys s.log _ _ clauses ls hs s.state.trail.variables c.requires.fit.trail_sound.steps known follows tied c.put_clause.new.self (c.learned.ensures ∙ is.empty c.requires.undecided) puts.0)
    (λ e breaks clauses tied. clause-breaks f p ys s.log _ _ clauses ls hs s.state.trail.variables c.requires.fit.trail_sound.steps known follows tied breaks)
    c.put_clause.ensures.put
