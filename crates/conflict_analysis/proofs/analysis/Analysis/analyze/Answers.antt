use Rattle.std.proofs.Common.{◌≡◌, ◌-◌, ◌*◌, List, [], ◌∷◌, ◌++◌, length, map, reverse, sym, ◌∙◌, ap, subst, arith}
use Rattle.std.specs.Vec.{vec_len}
use Rattle.clause_pool.specs.PoolValue.{IsIn, literals_at, or_empty}
use Rattle.clause_pool.proofs.Sound.{some_literals}
use Rattle.clause_pool.proofs.PoolLinks.{is_some_clause}
use Rattle.literals.specs.Propagation.{IsFalseClause}
use Rattle.trail.specs.Steps.{literals_of, level_of, back_to}
use Rattle.conflict_analysis.specs.Analyses.{AnalysisValue}
use Rattle.conflict_analysis.specs.Hints.{clause_of_hint, AreKnownHints}
use Rattle.conflict_analysis.specs.Marks.{EndsWith}
use Rattle.conflict_analysis.specs.Resolvents.{left_of}
use Rattle.conflict_analysis.specs.declared.hint.Hint.{Hint}
use Rattle.conflict_analysis.specs.declared.hint.Hint.TheVariants.{Stored}
use Rattle.conflict_analysis.proofs.Following.{ends_start}
use Rattle.conflict_analysis.proofs.Finishing.{some_pending}
use Rattle.conflict_analysis.proofs.analysis.Analysis.analyze.Goals as goal

pub start-requires-clause-all_false : goal.start-requires-clause-all_false
start-requires-clause-all_false c =
    let k = c.requires.conflict in
    let same = some_literals k.literals c.lits.result.now (sym k.found ∙ c.lits.ensures.clause) in
    subst (IsFalseClause (literals_of c.args.trail.now.steps)) same k.all_false

pub walk_back-requires : goal.walk_back-requires
walk_back-requires c =
    let k = c.requires.conflict in
    let same = some_literals k.literals c.lits.result.now (sym k.found ∙ c.lits.ensures.clause) in
    let at : literals_at c.args.pool.now.clauses c.args.conflict ≡ c.lits.result.now = ap or_empty c.lits.ensures.clause in
    let one : List Hint = Stored c.args.conflict ∷ [] in
    let items : c.push_reserved.new.self.items ≡ one = c.push_reserved.ensures.items ∙ ap (λ xs. xs ++ one) c.clear.ensures.items in
    let literals : vec_len c.self.inside.resolvent.marks ≡ 2 * c.args.trail.now.variables = ap (λ (v : AnalysisValue). v.literals) c.self.view_is ∙ c.requires.literals in
    record {
      resolvent = c.start.ensures.resolvent;
      reasons = c.requires.fit.reasons;
      known = subst (λ hs. AreKnownHints c.args.pool.now.clauses c.args.trail.now.steps (reverse hs)) (sym items) (is_some_clause c.args.pool.now.clauses c.args.conflict c.lits.result.now c.lits.ensures.clause, tt);
      ends = subst (λ hs. EndsWith c.start.new.self.marks.items (left_of c.start.new.self c.args.trail.now) (map (clause_of_hint c.args.pool.now.clauses c.args.trail.now.steps) (reverse hs))) (sym items)
          (ends_start c.start.new.self.marks.items (left_of c.start.new.self c.args.trail.now) (literals_at c.args.pool.now.clauses c.args.conflict) (λ x i. c.start.ensures.marked x (subst (IsIn x) at i)));
      room = omega (arith, ap length items, c.start.ensures.place, c.requires.fit.trail_sound.few_steps, literals, c.self.invariant.hints_room, c.push_reserved.ensures.capacity, c.clear.ensures.capacity);
      some = λ positive. some_pending c.start.new.self c.args.trail.now c.lits.result.now c.start.ensures.resolvent c.start.ensures.marked (subst (IsFalseClause (literals_of c.args.trail.now.steps)) same k.all_false)
          (λ falses. c.requires.conflict.newly positive (subst (IsFalseClause (literals_of (back_to (level_of c.args.trail.now.steps - 1) c.args.trail.now.steps))) (sym same) falses));
    }

pub invariant_of-self : goal.invariant_of-self
invariant_of-self c =
    let literals : vec_len c.self.inside.resolvent.marks ≡ 2 * c.args.trail.now.variables = ap (λ (v : AnalysisValue). v.literals) c.self.view_is ∙ c.requires.literals in
    record {
      none_marked = c.finish.ensures.idle.none_marked;
      room = omega (arith, c.finish.ensures.idle.room, c.finish.ensures.idle.marks_fit, c.finish.new.self.marks.ok.0);
      hints_room = omega (arith, c.finish.ensures.idle.marks_fit, c.finish.new.self.marks.ok.0, literals, c.self.invariant.hints_room, c.push_reserved.ensures.capacity, c.clear.ensures.capacity, c.walk_back.ensures.capacity, c.reverse.ensures.capacity);
    }
