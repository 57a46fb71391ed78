use Rattle.std.proofs.Common.{[], ◌∷◌, ◌++◌, refl, sym, ◌∙◌, ap, subst}
use Rattle.literals.specs.Propagation.{IsFalseIn}
use Rattle.trail.specs.Steps.{literals_of}
use Rattle.conflict_analysis.proofs.Back.{started, left_whole}
use Rattle.conflict_analysis.proofs.resolvent.Resolvent.start.Goals as goal

pub mark_all-requires-clause-resolvent : goal.mark_all-requires-clause-resolvent
mark_all-requires-clause-resolvent c =
    started c.args.self.now _ c.args.trail.now 0 c.requires.idle refl (c.push_reserved.ensures.items ∙ ap (λ xs. xs ++ 0 ∷ []) c.clear.ensures.items) (c.push_reserved.ensures.capacity ∙ c.clear.ensures.capacity) refl c.len-self.ensures

pub mark_all-requires-clause-all_false : goal.mark_all-requires-clause-all_false
mark_all-requires-clause-all_false c = λ x i.
    subst (λ ys. IsFalseIn (literals_of ys) x) (sym (left_whole c.args.trail.now.steps c.len-self.result c.len-self.ensures)) (c.requires.all_false x i)
