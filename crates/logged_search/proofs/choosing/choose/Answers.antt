use Rattle.std.proofs.Common.{◌-◌, sym, subst, length, List, ℕ}
use Rattle.clause_pool.specs.PoolValue.{IsFull}
use Rattle.logged_search.specs.Answers.{IsAnswer}
use Rattle.logged_search.proofs.Chosen.{exclusion-answer, learned-answer}
use Rattle.logged_search.proofs.choosing.choose.Goals as goal

pub returns-then-has_room-clause-answer : goal.returns-then-has_room-clause-answer
returns-then-has_room-clause-answer c =
    let s = c.args.state.now in
    learned-answer s.pool s.trail c.analyze-back.new.self.learned c.analyze-back.new.self.hints c.analyze-back.result c.requires.fit.trail_sound c.requires.decided c.analyze-back.ensures.learned
    (λ full. c.has_room.ensures c.if-has_room.true (subst (λ (ls : List ℕ). IsFull s.pool (length ls)) (sym c.learned.ensures) full))

pub returns-clause-answer : goal.returns-clause-answer
returns-clause-answer c =
    let s = c.args.state.now in
    subst (λ n. IsAnswer s.pool s.trail c.exclude.new.self.learned c.exclude.new.self.hints (n - 1)) (sym c.level.ensures)
    (exclusion-answer s.pool s.trail c.exclude.new.self.learned c.exclude.new.self.hints c.requires.fit.trail_sound c.requires.decided (c.exclude.ensures.excluded s.pool c.requires.fit c.requires.conflict))
