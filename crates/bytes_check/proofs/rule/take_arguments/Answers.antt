use Rattle.std.proofs.Common.{arith, refl}
use Rattle.std.specs.List.{flat_map}
use Rattle.std.proofs.lemmas.Result.{err_from_is_err_and}
use Rattle.texts.specs.SevenBits.{seven_bits}
use Rattle.refutation_items.specs.Parts.{LacksNumber}
use Rattle.refutation_items.proofs.Refusing.{refused-behind, takes-nothing}
use Rattle.bytes_check.specs.Taken.{LacksArguments}
use Rattle.bytes_check.proofs.RuleLaws.{all-arguments, argument-missing, named-argument, no-arguments, one-argument}
use Rattle.bytes_check.proofs.rule.take_arguments.Goals as goal

pub loop-left-init : goal.loop-left-init
loop-left-init g c = record {
  sofar = rw c.new.ensures (no-arguments (g.B.Bytes.left c.args.bytes.now) c.args.count (takes-nothing _ _ refl));
  moved = g.met.B.Bytes.moves_refl _;
}

pub returns-in_err-number-clause-refused : goal.returns-in_err-number-clause-refused
returns-in_err-number-clause-refused g c =
    let i = c.loop-left.invariant in
    let p = err_from_is_err_and c.from_residual.result c.from_residual.ensures.1 in
    rw (p.1, p.2)
    (refused-behind (g.B.Bytes.causes c.loop-left.bytes c.take_number.new.bytes) (g.B.Bytes.causes c.args.bytes.now c.take_number.new.bytes)
    (g.B.Bytes.left c.args.bytes.now) (g.B.Bytes.left c.loop-left.bytes) (flat_map seven_bits i.sofar.words) LacksNumber (LacksArguments c.args.count) _ i.sofar.taken
    (λ read cause. g.met.B.Bytes.later_cause _ _ _ read i.moved c.in_err-number.ensures.moved cause)
    (λ bytes reason lacks. argument-missing c.args.count i.sofar.words bytes reason i.sofar.short (omega (arith, i.sofar.count_of, c.loop-left-test.true)) lacks)
    c.in_err-number.ensures.refused)

pub loop-left-preserved : goal.loop-left-preserved
loop-left-preserved g c =
    let i = c.loop-left.invariant in
    record {
      sofar = one-argument (g.B.Bytes.left c.args.bytes.now) (g.B.Bytes.left c.loop-left.bytes) (g.B.Bytes.left c.take_number.new.bytes) c.args.count c.loop-left.left
          c.loop-left.args c.with_argument-args.result c.in_ok-number.number i.sofar (omega (arith, c.loop-left-test.true)) c.in_ok-number.ensures.few c.in_ok-number.ensures.taken
          (λ words named. c.with_argument-args.ensures.in_bytes words c.in_ok-number.number named
          (named-argument c.in_ok-number.number c.argument_of.result c.argument_of.ensures));
      moved = g.met.B.Bytes.moves_trans _ _ _ i.moved c.in_ok-number.ensures.moved;
    }

pub returns-clause-taken : goal.returns-clause-taken
returns-clause-taken g c =
    all-arguments (g.B.Bytes.left c.args.bytes.now) (g.B.Bytes.left c.loop-left.bytes) c.args.count c.loop-left.left c.loop-left.args c.loop-left.invariant.sofar
    (omega (arith, c.loop-left-test.false))
