use Rattle.std.proofs.Common.{◌+◌, ◌*◌, ◌∙◌, ap, arith, sym}
use Rattle.logged_search.specs.Ranks.{rank_of}
use Rattle.logged_search.proofs.Ranks.{rank-grown}
use Rattle.logged_search.proofs.Settled.{holds-same, in_use-same, tied-grown}
use Rattle.logged_search.proofs.settling.settle.Goals as goal

pub returns-clause-logged : goal.returns-clause-logged
returns-clause-logged c = λ formula clauses logged.
    let old = c.args.search.now in
    let new = c.settle.new.state in
    let e = c.settle.ensures in
    record {
      state = e.state;
      sized = record {
        variables = e.grown.variables ∙ logged.sized.variables;
        analysis = logged.sized.analysis ∙ ap (λ n. 2 * n) (sym e.grown.variables);
        words = logged.sized.words ∙ sym e.same_pool.words;
        spare = ap (λ n. old.spare + n) (in_use-same old.state.pool.clauses new.pool.clauses e.same_pool.handles e.same_pool.clauses) ∙ logged.sized.spare ∙ sym e.same_pool.handles;
      };
      tied = tied-grown new.trail.variables formula clauses old.state.pool new.pool old.state.trail new.trail old.log e.same_pool e.state.fit.trail_sound.steps e.grown logged.tied;
      named = logged.named;
      holds = holds-same formula old.state.pool new.pool e.same_pool logged.holds;
      counted =
          let more = rank-grown old.state.trail.variables e.grown.newer old.state.trail.steps in
          let steps = ap (rank_of old.state.trail.variables) e.grown.splits in
          let variables = ap (λ n. rank_of n new.trail.steps) e.grown.variables in
          omega (arith, more, steps, variables, logged.counted);
    }
