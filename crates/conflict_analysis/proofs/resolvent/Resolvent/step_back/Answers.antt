use Rattle.std.proofs.Common.{◌≡◌, ℕ, ◌+◌, ◌-◌, ◌<◌, inl, false, length, set, refl, sym, ◌∙◌, ap, subst, arith}
use Rattle.std.proofs.lemmas.List.{get_or_read}
use Rattle.clause_pool.specs.PoolValue.{IsIn}
use Rattle.literals.specs.Literal.{opposite_of}
use Rattle.literals.proofs.Opposites.{opposite-opposite}
use Rattle.trail.specs.Steps.{literals_of}
use Rattle.propagation.specs.Watches.{HasReason, HaveReasons}
use Rattle.conflict_analysis.specs.Marks.{mark_at}
use Rattle.conflict_analysis.specs.declared.resolvent.Resolvent.{Resolvent}
use Rattle.conflict_analysis.proofs.Resolving.{literal_known}
use Rattle.conflict_analysis.proofs.Back.{skipped, unmarked, resolved, reason_in, older_at, place_positive, head_at}
use Rattle.conflict_analysis.proofs.resolvent.Resolvent.step_back.Goals as goal

pub index-requires : goal.index-requires
index-requires c =
    let n : ℕ = c.args.self.now.place - 1 in
    let positive = place_positive c.args.self.now c.args.trail.now c.requires.resolvent c.requires.more.some in
    let one : c.args.self.now.place ≡ n + 1 = omega (arith, positive) in
    let lit : c.opposite-literal.result ≡ opposite_of c.step-step.result.literal = c.opposite-literal.ensures.opposite in
    let h = head_at c.args.self.now c.args.trail.now c.step-step.result n c.requires.resolvent c.requires.more one c.step-step.ensures in
    let known : opposite_of c.step-step.result.literal < length c.args.self.now.marks.items =
    literal_known c.args.self.now c.args.trail.now (opposite_of c.step-step.result.literal) c.requires.resolvent
    (subst (λ ys. IsIn (opposite_of (opposite_of c.step-step.result.literal)) (literals_of ys)) (sym h.left) (inl (opposite-opposite c.step-step.result.literal))) in
    omega (arith, known, lit, c.args.self.now.marks.ok.0)

pub returns-then-not-index-clause-resolvent : goal.returns-then-not-index-clause-resolvent
returns-then-not-index-clause-resolvent c =
    let n : ℕ = c.args.self.now.place - 1 in
    let positive = place_positive c.args.self.now c.args.trail.now c.requires.resolvent c.requires.more.some in
    let one : c.args.self.now.place ≡ n + 1 = omega (arith, positive) in
    let lit : c.opposite-literal.result ≡ opposite_of c.step-step.result.literal = c.opposite-literal.ensures.opposite in
    let h = head_at c.args.self.now c.args.trail.now c.step-step.result n c.requires.resolvent c.requires.more one c.step-step.ensures in
    let known : opposite_of c.step-step.result.literal < length c.args.self.now.marks.items =
    literal_known c.args.self.now c.args.trail.now (opposite_of c.step-step.result.literal) c.requires.resolvent
    (subst (λ ys. IsIn (opposite_of (opposite_of c.step-step.result.literal)) (literals_of ys)) (sym h.left) (inl (opposite-opposite c.step-step.result.literal))) in
    let read : c.index.result.now ≡ mark_at c.args.self.now.marks.items (opposite_of c.step-step.result.literal) =
    get_or_read c.args.self.now.marks.items c.opposite-literal.result _ (subst (λ x. x < length c.args.self.now.marks.items) (sym lit) known) c.index.ensures false ∙ ap (mark_at c.args.self.now.marks.items) lit in
    let new : Resolvent = record c.args.self.now { place = n } in
    (skipped c.args.self.now new c.args.trail.now c.step-step.result n c.requires.resolvent h one (sym read ∙ c.if-not-index.true) refl refl refl refl refl).0

pub returns-then-not-index-clause-skipped : goal.returns-then-not-index-clause-skipped
returns-then-not-index-clause-skipped c =
    let n : ℕ = c.args.self.now.place - 1 in
    let positive = place_positive c.args.self.now c.args.trail.now c.requires.resolvent c.requires.more.some in
    let one : c.args.self.now.place ≡ n + 1 = omega (arith, positive) in
    let lit : c.opposite-literal.result ≡ opposite_of c.step-step.result.literal = c.opposite-literal.ensures.opposite in
    let h = head_at c.args.self.now c.args.trail.now c.step-step.result n c.requires.resolvent c.requires.more one c.step-step.ensures in
    let known : opposite_of c.step-step.result.literal < length c.args.self.now.marks.items =
    literal_known c.args.self.now c.args.trail.now (opposite_of c.step-step.result.literal) c.requires.resolvent
    (subst (λ ys. IsIn (opposite_of (opposite_of c.step-step.result.literal)) (literals_of ys)) (sym h.left) (inl (opposite-opposite c.step-step.result.literal))) in
    let read : c.index.result.now ≡ mark_at c.args.self.now.marks.items (opposite_of c.step-step.result.literal) =
    get_or_read c.args.self.now.marks.items c.opposite-literal.result _ (subst (λ x. x < length c.args.self.now.marks.items) (sym lit) known) c.index.ensures false ∙ ap (mark_at c.args.self.now.marks.items) lit in
    let new : Resolvent = record c.args.self.now { place = n } in
    (skipped c.args.self.now new c.args.trail.now c.step-step.result n c.requires.resolvent h one (sym read ∙ c.if-not-index.true) refl refl refl refl refl).1

pub index_mut-requires : goal.index_mut-requires
index_mut-requires c =
    let n : ℕ = c.args.self.now.place - 1 in
    let positive = place_positive c.args.self.now c.args.trail.now c.requires.resolvent c.requires.more.some in
    let one : c.args.self.now.place ≡ n + 1 = omega (arith, positive) in
    let lit : c.opposite-literal.result ≡ opposite_of c.step-step.result.literal = c.opposite-literal.ensures.opposite in
    let h = head_at c.args.self.now c.args.trail.now c.step-step.result n c.requires.resolvent c.requires.more one c.step-step.ensures in
    let known : opposite_of c.step-step.result.literal < length c.args.self.now.marks.items =
    literal_known c.args.self.now c.args.trail.now (opposite_of c.step-step.result.literal) c.requires.resolvent
    (subst (λ ys. IsIn (opposite_of (opposite_of c.step-step.result.literal)) (literals_of ys)) (sym h.left) (inl (opposite-opposite c.step-step.result.literal))) in
    omega (arith, known, lit, c.args.self.now.marks.ok.0)

pub mark_reason-requires-clause-resolvent : goal.mark_reason-requires-clause-resolvent
mark_reason-requires-clause-resolvent c =
    let n : ℕ = c.args.self.now.place - 1 in
    let positive = place_positive c.args.self.now c.args.trail.now c.requires.resolvent c.requires.more.some in
    let one : c.args.self.now.place ≡ n + 1 = omega (arith, positive) in
    let lit : c.opposite-literal.result ≡ opposite_of c.step-step.result.literal = c.opposite-literal.ensures.opposite in
    let h = head_at c.args.self.now c.args.trail.now c.step-step.result n c.requires.resolvent c.requires.more one c.step-step.ensures in
    let known : opposite_of c.step-step.result.literal < length c.args.self.now.marks.items =
    literal_known c.args.self.now c.args.trail.now (opposite_of c.step-step.result.literal) c.requires.resolvent
    (subst (λ ys. IsIn (opposite_of (opposite_of c.step-step.result.literal)) (literals_of ys)) (sym h.left) (inl (opposite-opposite c.step-step.result.literal))) in
    let read : c.index.result.now ≡ mark_at c.args.self.now.marks.items (opposite_of c.step-step.result.literal) =
    get_or_read c.args.self.now.marks.items c.opposite-literal.result _ (subst (λ x. x < length c.args.self.now.marks.items) (sym lit) known) c.index.ensures false ∙ ap (mark_at c.args.self.now.marks.items) lit in
    unmarked c.args.self.now _ c.args.trail.now c.step-step.result n c.requires.resolvent c.requires.more one c.step-step.ensures (sym read ∙ c.if-not-index.false) known (ap (λ x. set c.args.self.now.marks.items x false) lit) refl refl refl refl

pub mark_reason-requires-clause-reason : goal.mark_reason-requires-clause-reason
mark_reason-requires-clause-reason c =
    let n : ℕ = c.args.self.now.place - 1 in
    let positive = place_positive c.args.self.now c.args.trail.now c.requires.resolvent c.requires.more.some in
    let one : c.args.self.now.place ≡ n + 1 = omega (arith, positive) in
    let lit : c.opposite-literal.result ≡ opposite_of c.step-step.result.literal = c.opposite-literal.ensures.opposite in
    let h = head_at c.args.self.now c.args.trail.now c.step-step.result n c.requires.resolvent c.requires.more one c.step-step.ensures in
    let known : opposite_of c.step-step.result.literal < length c.args.self.now.marks.items =
    literal_known c.args.self.now c.args.trail.now (opposite_of c.step-step.result.literal) c.requires.resolvent
    (subst (λ ys. IsIn (opposite_of (opposite_of c.step-step.result.literal)) (literals_of ys)) (sym h.left) (inl (opposite-opposite c.step-step.result.literal))) in
    let at = c.step-step.ensures in
    subst (λ ys. HasReason c.args.pool.now.clauses (literals_of ys) c.step-step.result.literal c.step-step.result.reason) (sym (older_at c.args.trail.now.steps n c.step-step.result at))
    (reason_in c.args.pool.now.clauses at.newer at.older c.step-step.result (subst (HaveReasons c.args.pool.now.clauses) at.splits c.requires.reasons))

pub returns-clause-resolved : goal.returns-clause-resolved
returns-clause-resolved c =
    let n : ℕ = c.args.self.now.place - 1 in
    let positive = place_positive c.args.self.now c.args.trail.now c.requires.resolvent c.requires.more.some in
    let one : c.args.self.now.place ≡ n + 1 = omega (arith, positive) in
    let lit : c.opposite-literal.result ≡ opposite_of c.step-step.result.literal = c.opposite-literal.ensures.opposite in
    let h = head_at c.args.self.now c.args.trail.now c.step-step.result n c.requires.resolvent c.requires.more one c.step-step.ensures in
    let known : opposite_of c.step-step.result.literal < length c.args.self.now.marks.items =
    literal_known c.args.self.now c.args.trail.now (opposite_of c.step-step.result.literal) c.requires.resolvent
    (subst (λ ys. IsIn (opposite_of (opposite_of c.step-step.result.literal)) (literals_of ys)) (sym h.left) (inl (opposite-opposite c.step-step.result.literal))) in
    resolved c.args.self.now _ c.mark_reason.new.self c.args.pool.now c.args.trail.now c.step-step.result n c.mark_reason.result c.requires.resolvent c.requires.more one c.step-step.ensures (ap (λ x. set c.args.self.now.marks.items x false) lit) refl c.mark_reason.ensures.place c.mark_reason.ensures.reason
