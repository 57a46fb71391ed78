use Rattle.std.proofs.Common.{◌≡◌, ℕ, ◌+◌, ◌-◌, ◌<◌, false, length, refl, sym, ◌∙◌, ap, subst, arith}
use Rattle.std.proofs.lemmas.List.{get_or_read}
use Rattle.clause_pool.specs.PoolValue.{IsIn}
use Rattle.literals.specs.Literal.{opposite_of}
use Rattle.conflict_analysis.specs.Marks.{mark_at, IsMarked}
use Rattle.conflict_analysis.specs.Resolvents.{left_of}
use Rattle.conflict_analysis.specs.declared.resolvent.Resolvent.{Resolvent}
use Rattle.conflict_analysis.proofs.Resolving.{literal_known}
use Rattle.conflict_analysis.proofs.Back.{skipped, place_positive, head_of_one, newest_head}
use Rattle.conflict_analysis.specs.Marks.{newest_of}
use Rattle.conflict_analysis.proofs.Newest.{newest_among}
use Rattle.conflict_analysis.proofs.resolvent.Resolvent.newest_marked.Goals as goal

pub index-requires : goal.index-requires
index-requires c =
    let n : ℕ = c.loop-literal.self.place - 1 in
    let i = c.loop-literal.invariant in
    let one : c.loop-literal.self.place ≡ n + 1 = omega (arith, place_positive c.loop-literal.self c.args.trail.now i.resolvent (omega (arith, i.one))) in
    let lit : c.opposite-literal.result ≡ opposite_of c.step-step.result.literal = c.opposite-literal.ensures.opposite in
    let newest = newest_head c.loop-literal.self c.args.trail.now c.step-step.result n one c.step-step.ensures in
    let known : opposite_of c.step-step.result.literal < length c.loop-literal.self.marks.items =
    literal_known c.loop-literal.self c.args.trail.now (opposite_of c.step-step.result.literal) i.resolvent
    (newest_among (left_of c.loop-literal.self c.args.trail.now) (opposite_of (opposite_of c.step-step.result.literal)) newest) in
    omega (arith, known, lit, c.loop-literal.self.marks.ok.0)

pub returns-then-index-clause-marked : goal.returns-then-index-clause-marked
returns-then-index-clause-marked c =
    let n : ℕ = c.loop-literal.self.place - 1 in
    let i = c.loop-literal.invariant in
    let one : c.loop-literal.self.place ≡ n + 1 = omega (arith, place_positive c.loop-literal.self c.args.trail.now i.resolvent (omega (arith, i.one))) in
    let lit : c.opposite-literal.result ≡ opposite_of c.step-step.result.literal = c.opposite-literal.ensures.opposite in
    let newest = newest_head c.loop-literal.self c.args.trail.now c.step-step.result n one c.step-step.ensures in
    let known : opposite_of c.step-step.result.literal < length c.loop-literal.self.marks.items =
    literal_known c.loop-literal.self c.args.trail.now (opposite_of c.step-step.result.literal) i.resolvent
    (newest_among (left_of c.loop-literal.self c.args.trail.now) (opposite_of (opposite_of c.step-step.result.literal)) newest) in
    let read : c.index.result.now ≡ mark_at c.loop-literal.self.marks.items (opposite_of c.step-step.result.literal) =
    get_or_read c.loop-literal.self.marks.items c.opposite-literal.result _ (subst (λ x. x < length c.loop-literal.self.marks.items) (sym lit) known) c.index.ensures false ∙ ap (mark_at c.loop-literal.self.marks.items) lit in
    subst (IsMarked c.loop-literal.self.marks.items) (sym lit) (sym read ∙ c.if-index.true)

pub returns-then-index-clause-newest : goal.returns-then-index-clause-newest
returns-then-index-clause-newest c =
    let n : ℕ = c.loop-literal.self.place - 1 in
    let i = c.loop-literal.invariant in
    let one : c.loop-literal.self.place ≡ n + 1 = omega (arith, place_positive c.loop-literal.self c.args.trail.now i.resolvent (omega (arith, i.one))) in
    let lit : c.opposite-literal.result ≡ opposite_of c.step-step.result.literal = c.opposite-literal.ensures.opposite in
    let newest = newest_head c.loop-literal.self c.args.trail.now c.step-step.result n one c.step-step.ensures in
    let known : opposite_of c.step-step.result.literal < length c.loop-literal.self.marks.items =
    literal_known c.loop-literal.self c.args.trail.now (opposite_of c.step-step.result.literal) i.resolvent
    (newest_among (left_of c.loop-literal.self c.args.trail.now) (opposite_of (opposite_of c.step-step.result.literal)) newest) in
    subst (λ x. IsIn (opposite_of x) (newest_of (left_of c.loop-literal.self c.args.trail.now))) (sym lit) newest

pub loop-literal-preserved : goal.loop-literal-preserved
loop-literal-preserved c =
    let n : ℕ = c.loop-literal.self.place - 1 in
    let i = c.loop-literal.invariant in
    let one : c.loop-literal.self.place ≡ n + 1 = omega (arith, place_positive c.loop-literal.self c.args.trail.now i.resolvent (omega (arith, i.one))) in
    let lit : c.opposite-literal.result ≡ opposite_of c.step-step.result.literal = c.opposite-literal.ensures.opposite in
    let newest = newest_head c.loop-literal.self c.args.trail.now c.step-step.result n one c.step-step.ensures in
    let known : opposite_of c.step-step.result.literal < length c.loop-literal.self.marks.items =
    literal_known c.loop-literal.self c.args.trail.now (opposite_of c.step-step.result.literal) i.resolvent
    (newest_among (left_of c.loop-literal.self c.args.trail.now) (opposite_of (opposite_of c.step-step.result.literal)) newest) in
    let read : c.index.result.now ≡ mark_at c.loop-literal.self.marks.items (opposite_of c.step-step.result.literal) =
    get_or_read c.loop-literal.self.marks.items c.opposite-literal.result _ (subst (λ x. x < length c.loop-literal.self.marks.items) (sym lit) known) c.index.ensures false ∙ ap (mark_at c.loop-literal.self.marks.items) lit in
    let off : mark_at c.loop-literal.self.marks.items (opposite_of c.step-step.result.literal) ≡ false = sym read ∙ c.if-index.false in
    let h = head_of_one c.loop-literal.self c.args.trail.now c.step-step.result n i.resolvent i.one one c.step-step.ensures off in
    let new : Resolvent = record c.loop-literal.self { place = n } in
    let s = skipped c.loop-literal.self new c.args.trail.now c.step-step.result n i.resolvent h one off refl refl refl refl refl in
    record { resolvent = s.0; one = i.one; ends = λ hints ends. s.1 hints (i.ends hints ends) }
