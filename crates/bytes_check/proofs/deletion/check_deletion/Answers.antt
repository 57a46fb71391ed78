use Rattle.std.proofs.Common.{◌++◌, ap, arith}
use Rattle.std.specs.List.{flat_map}
use Rattle.std.proofs.lemmas.Result.{err_from_is_err_and}
use Rattle.texts.specs.SevenBits.{seven_bits}
use Rattle.refutation_items.specs.declared.refusal.Reason.TheVariants.{Form}
use Rattle.refutation_items.specs.Parts.{LacksNumber}
use Rattle.refutation_items.proofs.Refusing.{refused-behind, refused-first, takes-then, told-taken}
use Rattle.refutation_steps.specs.Tables.{TableValue}
use Rattle.bytes_check.specs.Items.{IsWrongDeletion}
use Rattle.bytes_check.proofs.DeletionLaws.{all-numbers, deletion-count-missing, no-numbers, not-live, number-missing, one-number, ready-after}
use Rattle.bytes_check.proofs.deletion.check_deletion.Goals as goal

pub returns-in_err-left-clause-refused : goal.returns-in_err-left-clause-refused
returns-in_err-left-clause-refused g c =
    let p = err_from_is_err_and c.from_residual.result c.from_residual.ensures.1 in
    rw (p.1, p.2)
    (refused-first (g.B.Bytes.causes c.args.bytes.now c.take_number.new.bytes) (g.B.Bytes.causes c.args.bytes.now c.take_number.new.bytes) (g.B.Bytes.left c.args.bytes.now)
    LacksNumber (IsWrongDeletion c.args.table.now.clauses) _ (λ read cause. cause)
    (λ bytes reason lacks. deletion-count-missing c.args.table.now.clauses bytes reason lacks) c.in_err-left.ensures.refused)

pub loop-left-init : goal.loop-left-init
loop-left-init g c = record {
  sofar = no-numbers (g.B.Bytes.left c.args.bytes.now) (g.B.Bytes.left c.take_number.new.bytes) c.in_ok-left.left c.args.table.now.clauses c.in_ok-left.ensures.taken;
  ready_still = c.requires;
  moved = c.in_ok-left.ensures.moved;
}

pub returns-in_err-number-clause-refused : goal.returns-in_err-number-clause-refused
returns-in_err-number-clause-refused g c =
    let i = c.loop-left.invariant in
    let p = err_from_is_err_and c.from_residual-in_err-number.result c.from_residual-in_err-number.ensures.1 in
    rw (p.1, p.2)
    (refused-behind (g.B.Bytes.causes c.loop-left.bytes c.take_number-in-loop-left.new.bytes) (g.B.Bytes.causes c.args.bytes.now c.take_number-in-loop-left.new.bytes)
    (g.B.Bytes.left c.args.bytes.now) (g.B.Bytes.left c.loop-left.bytes) (seven_bits c.in_ok-left.left ++ flat_map seven_bits i.sofar.numbers) LacksNumber
    (IsWrongDeletion c.args.table.now.clauses) _ i.sofar.taken
    (λ read cause. g.met.B.Bytes.later_cause _ _ _ read i.moved c.in_err-number.ensures.moved cause)
    (λ bytes reason lacks. number-missing (g.B.Bytes.left c.args.bytes.now) (g.B.Bytes.left c.loop-left.bytes) c.in_ok-left.left c.loop-left.left c.args.table.now.clauses
    c.loop-left.table.clauses i.sofar c.in_ok-left.ensures.few (omega (arith, c.loop-left-test.true)) bytes reason lacks)
    c.in_err-number.ensures.refused)

pub returns-then-not-out-clause-refused : goal.returns-then-not-out-clause-refused
returns-then-not-out-clause-refused g c =
    let i = c.loop-left.invariant in
    told-taken (g.B.Bytes.left c.args.bytes.now) (g.B.Bytes.left c.take_number-in-loop-left.new.bytes)
    (seven_bits c.in_ok-left.left ++ flat_map seven_bits i.sofar.numbers ++ seven_bits c.in_ok-number.number) (λ bytes. IsWrongDeletion c.args.table.now.clauses bytes Form)
    (takes-then (g.B.Bytes.left c.args.bytes.now) (g.B.Bytes.left c.loop-left.bytes) (g.B.Bytes.left c.take_number-in-loop-left.new.bytes)
    (seven_bits c.in_ok-left.left ++ flat_map seven_bits i.sofar.numbers) (seven_bits c.in_ok-number.number) i.sofar.taken c.in_ok-number.ensures.taken)
    (λ bytes. not-live (g.B.Bytes.left c.args.bytes.now) (g.B.Bytes.left c.loop-left.bytes) c.in_ok-left.left c.loop-left.left c.args.table.now.clauses
    c.loop-left.table.clauses i.sofar c.in_ok-left.ensures.few (omega (arith, c.loop-left-test.true)) c.in_ok-number.number bytes c.in_ok-number.ensures.few
    (rw c.if-not-out.true at c.take_out-out.ensures))

pub loop-left-preserved : goal.loop-left-preserved
loop-left-preserved g c =
    let i = c.loop-left.invariant in
    let took = rw c.if-not-out.false at c.take_out-out.ensures in
    let clauses = ap (λ (t : TableValue). t.clauses) took.rest in
    record {
      sofar = one-number (g.B.Bytes.left c.args.bytes.now) (g.B.Bytes.left c.loop-left.bytes) (g.B.Bytes.left c.take_number-in-loop-left.new.bytes) c.in_ok-left.left c.loop-left.left
          c.args.table.now.clauses c.loop-left.table.clauses c.take_out-out.new.self.clauses c.in_ok-number.number took.literals i.sofar
          (omega (arith, c.loop-left-test.true)) c.in_ok-number.ensures.few c.in_ok-number.ensures.taken took.live clauses;
      ready_still = ready-after c.loop-left.table c.take_out-out.new.self _ took.rest i.ready_still;
      moved = g.met.B.Bytes.moves_trans _ _ _ i.moved c.in_ok-number.ensures.moved;
    }

pub returns-clause-taken : goal.returns-clause-taken
returns-clause-taken g c =
    all-numbers (g.B.Bytes.left c.args.bytes.now) (g.B.Bytes.left c.loop-left.bytes) c.in_ok-left.left c.loop-left.left c.args.table.now.clauses c.loop-left.table.clauses
    c.loop-left.invariant.sofar (omega (arith, c.loop-left-test.false))
