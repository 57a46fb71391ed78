use Rattle.std.proofs.Common.{◌≡◌, ◌≢◌, inr, true, false, refl, sym, ◌∙◌, arith}
use Rattle.std.proofs.lemmas.List.{get_or_read, get_or-set_same}
use Rattle.literals.specs.Literal.{variable_of}
use Rattle.trail.specs.Steps.{level_of, level_at}
use Rattle.conflict_analysis.specs.Marks.{mark_at}
use Rattle.conflict_analysis.proofs.Left.{among_left}
use Rattle.conflict_analysis.proofs.Resolving.{literal_known, marked_newest, marked_earlier, room_for_one, pending_fits}
use Rattle.conflict_analysis.proofs.resolvent.Resolvent.mark.Goals as goal

pub index-requires : goal.index-requires
index-requires c = omega (arith, literal_known c.args.self.now c.args.trail.now c.args.literal c.requires.resolvent c.requires.is_false, c.args.self.now.marks.ok.0)

pub returns-then-index-clause-marked : goal.returns-then-index-clause-marked
returns-then-index-clause-marked c =
    sym (get_or_read c.args.self.now.marks.items c.args.literal _ (literal_known c.args.self.now c.args.trail.now c.args.literal c.requires.resolvent c.requires.is_false) c.index.ensures false) ∙ c.if-index.true

pub index_mut-requires : goal.index_mut-requires
index_mut-requires c = omega (arith, literal_known c.args.self.now c.args.trail.now c.args.literal c.requires.resolvent c.requires.is_false, c.args.self.now.marks.ok.0)

pub level_of-requires : goal.level_of-requires
level_of-requires c = inr (among_left c.args.trail.now.steps c.args.self.now.place _ c.requires.resolvent.within c.requires.is_false)

pub overflow_add-self : goal.overflow_add-self
overflow_add-self c =
    omega (arith, pending_fits c.args.self.now c.args.trail.now c.requires.resolvent, c.requires.resolvent.marks_fit, c.args.self.now.marks.ok.0, c.args.self.now.marks.small)

pub push_reserved-requires : goal.push_reserved-requires
push_reserved-requires c =
    let off : mark_at c.args.self.now.marks.items c.args.literal ≡ false = sym (get_or_read c.args.self.now.marks.items c.args.literal _ (literal_known c.args.self.now c.args.trail.now c.args.literal c.requires.resolvent c.requires.is_false) c.index.ensures false) ∙ c.if-index.false in
    omega (arith, room_for_one c.args.self.now c.args.trail.now c.args.literal c.requires.resolvent c.requires.is_false off, c.args.self.now.learned.ok.0)

pub returns-then-level_of-level-clause-resolvent : goal.returns-then-level_of-level-clause-resolvent
returns-then-level_of-level-clause-resolvent c =
    let off : mark_at c.args.self.now.marks.items c.args.literal ≡ false = sym (get_or_read c.args.self.now.marks.items c.args.literal _ (literal_known c.args.self.now c.args.trail.now c.args.literal c.requires.resolvent c.requires.is_false) c.index.ensures false) ∙ c.if-index.false in
    let level : level_at c.args.trail.now.steps (variable_of c.args.literal) ≡ level_of c.args.trail.now.steps = sym c.level_of.ensures ∙ c.if-level_of-level.true ∙ c.level.ensures in
    marked_newest c.args.self.now _ c.args.trail.now c.args.literal c.requires.resolvent c.requires.is_false off level refl refl refl refl refl

pub returns-then-level_of-level-clause-marked : goal.returns-then-level_of-level-clause-marked
returns-then-level_of-level-clause-marked c = get_or-set_same c.args.self.now.marks.items c.args.literal true false (literal_known c.args.self.now c.args.trail.now c.args.literal c.requires.resolvent c.requires.is_false)

pub returns-else-level_of-level-clause-resolvent : goal.returns-else-level_of-level-clause-resolvent
returns-else-level_of-level-clause-resolvent c =
    let off : mark_at c.args.self.now.marks.items c.args.literal ≡ false = sym (get_or_read c.args.self.now.marks.items c.args.literal _ (literal_known c.args.self.now c.args.trail.now c.args.literal c.requires.resolvent c.requires.is_false) c.index.ensures false) ∙ c.if-index.false in
    let level : level_at c.args.trail.now.steps (variable_of c.args.literal) ≢ level_of c.args.trail.now.steps = λ e. c.if-level_of-level.false (c.level_of.ensures ∙ e ∙ sym c.level.ensures) in
    marked_earlier c.args.self.now _ c.args.trail.now c.args.literal c.requires.resolvent c.requires.is_false off level refl c.push_reserved.ensures.items c.push_reserved.ensures.capacity refl refl

pub returns-else-level_of-level-clause-marked : goal.returns-else-level_of-level-clause-marked
returns-else-level_of-level-clause-marked c = get_or-set_same c.args.self.now.marks.items c.args.literal true false (literal_known c.args.self.now c.args.trail.now c.args.literal c.requires.resolvent c.requires.is_false)
