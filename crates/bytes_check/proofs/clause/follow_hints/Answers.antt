use Rattle.std.proofs.Common.{◌∙◌, arith, false, inl, refl, subst, true}
use Rattle.std.specs.List.{flat_map}
use Rattle.std.proofs.lemmas.Result.{err_from_is_err_and}
use Rattle.texts.specs.SevenBits.{seven_bits}
use Rattle.refutation_lines.specs.Propagation.{Clauses}
use Rattle.refutation_items.specs.declared.refusal.Reason.TheVariants.{HintNotUnit}
use Rattle.refutation_items.specs.Parts.{LacksNumber}
use Rattle.refutation_items.proofs.Refusing.{refused-behind, takes-nothing, told-all}
use Rattle.refutation_steps.specs.HintSteps.{Follows, IsFalsified, IsWrongHint}
use Rattle.bytes_check.specs.Taken.{AreWrongHints}
use Rattle.bytes_check.proofs.ClauseLaws.{all-hints, hint-missing, hint-refused, is-last, no-hints, not-last, one-hint}
use Rattle.bytes_check.proofs.clause.follow_hints.Goals as goal

pub returns-then-count-eq0-clause-refused : goal.returns-then-count-eq0-clause-refused
returns-then-count-eq0-clause-refused g c =
    told-all (g.B.Bytes.left c.args.bytes.now) (λ bytes. AreWrongHints c.args.count c.args.table.now.clauses c.args.table.now.trues bytes HintNotUnit)
    (λ bytes. inl c.if-count-eq0.true)

pub loop-left-init : goal.loop-left-init
loop-left-init g c = record {
  sofar = no-hints (g.B.Bytes.left c.args.bytes.now) c.args.count c.args.table.now.clauses c.args.table.now.trues (takes-nothing _ _ refl);
  some = omega (arith, c.if-count-eq0.false);
  clauses = refl;
  literals = refl;
  moved = g.met.B.Bytes.moves_refl _;
}

pub returns-in_err-hint-clause-refused : goal.returns-in_err-hint-clause-refused
returns-in_err-hint-clause-refused g c =
    let i = c.loop-left.invariant in
    let p = err_from_is_err_and c.from_residual.result c.from_residual.ensures.1 in
    rw (p.1, p.2)
    (refused-behind (g.B.Bytes.causes c.loop-left.bytes c.take_number.new.bytes) (g.B.Bytes.causes c.args.bytes.now c.take_number.new.bytes)
    (g.B.Bytes.left c.args.bytes.now) (g.B.Bytes.left c.loop-left.bytes) (flat_map seven_bits i.sofar.hints) LacksNumber
    (AreWrongHints c.args.count c.args.table.now.clauses c.args.table.now.trues) _ i.sofar.taken
    (λ read cause. g.met.B.Bytes.later_cause _ _ _ read i.moved c.in_err-hint.ensures.moved cause)
    (λ bytes reason lacks. hint-missing c.args.count c.loop-left.left (g.B.Bytes.left c.args.bytes.now) (g.B.Bytes.left c.loop-left.bytes) c.args.table.now.clauses
    c.args.table.now.trues c.loop-left.table.trues bytes reason i.sofar i.some lacks)
    c.in_err-hint.ensures.refused)

pub returns-in_err-follow_hint-clause-refused : goal.returns-in_err-follow_hint-clause-refused
returns-in_err-follow_hint-clause-refused g c =
    let i = c.loop-left.invariant in
    let w = c.in_err-follow_hint.ensures.wrong in
    let p = err_from_is_err_and c.from_residual-in_err-follow_hint.result c.from_residual-in_err-follow_hint.ensures.1 in
    rw (p.1, p.2)
    (hint-refused c.args.count c.loop-left.left (g.B.Bytes.left c.args.bytes.now) (g.B.Bytes.left c.loop-left.bytes) (g.B.Bytes.left c.take_number.new.bytes)
    c.args.table.now.clauses c.args.table.now.trues c.loop-left.table.trues c.in_ok-hint.hint false i.sofar i.some c.in_ok-hint.ensures.few c.in_ok-hint.ensures.taken
    (not-last c.args.count c.loop-left.left i.sofar.hints i.sofar.count_of c.loop-left-test.true)
    (g.B.Bytes.causes c.args.bytes.now c.take_number.new.bytes) w.refusal _ (g.met.B.Bytes.memory_free _ _) w.is
    (subst (λ (cs : Clauses). IsWrongHint cs c.loop-left.table.trues false c.in_ok-hint.hint w.refusal) i.clauses w.wrong))

pub loop-left-preserved : goal.loop-left-preserved
loop-left-preserved g c =
    let i = c.loop-left.invariant in
    let step = c.in_ok-follow_hint.ensures in
    record {
      sofar = one-hint (g.B.Bytes.left c.args.bytes.now) (g.B.Bytes.left c.loop-left.bytes) (g.B.Bytes.left c.take_number.new.bytes) c.args.count c.loop-left.left
          c.args.table.now.clauses c.args.table.now.trues c.loop-left.table.trues c.follow_hint.new.table.trues c.in_ok-hint.hint i.sofar i.some c.in_ok-hint.ensures.taken
          (subst (λ (cs : Clauses). Follows cs c.loop-left.table.trues c.in_ok-hint.hint c.follow_hint.new.table.trues) i.clauses step.followed);
      some = omega (arith, c.loop-left-test.true);
      clauses = step.clauses ∙ i.clauses;
      literals = step.literals ∙ i.literals;
      moved = g.met.B.Bytes.moves_trans _ _ _ i.moved c.in_ok-hint.ensures.moved;
    }

pub returns-in_err-last-clause-refused : goal.returns-in_err-last-clause-refused
returns-in_err-last-clause-refused g c =
    let i = c.loop-left.invariant in
    let p = err_from_is_err_and c.from_residual-in_err-last.result c.from_residual-in_err-last.ensures.1 in
    rw (p.1, p.2)
    (refused-behind (g.B.Bytes.causes c.loop-left.bytes c.take_number-2.new.bytes) (g.B.Bytes.causes c.args.bytes.now c.take_number-2.new.bytes)
    (g.B.Bytes.left c.args.bytes.now) (g.B.Bytes.left c.loop-left.bytes) (flat_map seven_bits i.sofar.hints) LacksNumber
    (AreWrongHints c.args.count c.args.table.now.clauses c.args.table.now.trues) _ i.sofar.taken
    (λ read cause. g.met.B.Bytes.later_cause _ _ _ read i.moved c.in_err-last.ensures.moved cause)
    (λ bytes reason lacks. hint-missing c.args.count c.loop-left.left (g.B.Bytes.left c.args.bytes.now) (g.B.Bytes.left c.loop-left.bytes) c.args.table.now.clauses
    c.args.table.now.trues c.loop-left.table.trues bytes reason i.sofar i.some lacks)
    c.in_err-last.ensures.refused)

pub returns-in_err-end_hints-clause-refused : goal.returns-in_err-end_hints-clause-refused
returns-in_err-end_hints-clause-refused g c =
    let i = c.loop-left.invariant in
    let w = c.in_err-end_hints.ensures.wrong in
    let p = err_from_is_err_and c.from_residual-in_err-end_hints.result c.from_residual-in_err-end_hints.ensures.1 in
    rw (p.1, p.2)
    (hint-refused c.args.count c.loop-left.left (g.B.Bytes.left c.args.bytes.now) (g.B.Bytes.left c.loop-left.bytes) (g.B.Bytes.left c.take_number-2.new.bytes)
    c.args.table.now.clauses c.args.table.now.trues c.loop-left.table.trues c.in_ok-last.last true i.sofar i.some c.in_ok-last.ensures.few c.in_ok-last.ensures.taken
    (is-last c.args.count c.loop-left.left i.sofar.hints i.sofar.count_of (omega (arith, i.some, c.loop-left-test.false)))
    (g.B.Bytes.causes c.args.bytes.now c.take_number-2.new.bytes) w.refusal _ (g.met.B.Bytes.memory_free _ _) w.is
    (subst (λ (cs : Clauses). IsWrongHint cs c.loop-left.table.trues true c.in_ok-last.last w.refusal) i.clauses w.wrong))

pub returns-clause-taken : goal.returns-clause-taken
returns-clause-taken g c =
    let i = c.loop-left.invariant in
    all-hints (g.B.Bytes.left c.args.bytes.now) (g.B.Bytes.left c.loop-left.bytes) (g.B.Bytes.left c.take_number-2.new.bytes) c.args.count c.loop-left.left
    c.args.table.now.clauses c.args.table.now.trues c.loop-left.table.trues c.in_ok-last.last i.sofar (omega (arith, i.some, c.loop-left-test.false))
    c.in_ok-last.ensures.taken
    (subst (λ (cs : Clauses). IsFalsified cs c.loop-left.table.trues c.in_ok-last.last) i.clauses c.in_ok-end_hints.ensures.falsified)
