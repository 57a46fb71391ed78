use Rattle.std.proofs.Common.{◌++◌, ◌∙◌, ◌≡◌, [], ap, arith, map, refl, sym}
use Rattle.std.specs.List.{flat_map}
use Rattle.std.proofs.lemmas.Result.{err_from_is_err_and}
use Rattle.var_names.specs.LiteralText.{literal_bytes}
use Rattle.refutation_lines.specs.Propagation.{negation}
use Rattle.refutation_items.specs.declared.refusal.Reason.TheVariants.{Form}
use Rattle.refutation_items.specs.Parts.{LacksLiteral}
use Rattle.refutation_items.proofs.Refusing.{refused-behind, takes-nothing, takes-then, told-taken}
use Rattle.refutation_steps.specs.Tables.{TableValue}
use Rattle.bytes_check.specs.Taken.{LacksLiterals}
use Rattle.bytes_check.proofs.ClauseLaws.{all-literals, literal-missing, literal-repeated, negated-more, no-literals, one-literal}
use Rattle.bytes_check.proofs.clause.take_literals.Goals as goal

pub loop-left-init : goal.loop-left-init
loop-left-init g c =
    let none : c.args.table.now.literals ≡ [] = ap (λ (t : TableValue). t.literals) c.requires in
    let no_trues : c.args.table.now.trues ≡ [] = ap (λ (t : TableValue). t.trues) c.requires in
    record {
      sofar = no-literals (g.B.Bytes.left c.args.bytes.now) c.args.count c.args.table.now.literals none (takes-nothing _ _ refl);
      clauses = refl;
      trues = no_trues ∙ ap (map negation) (sym none);
      moved = g.met.B.Bytes.moves_refl _;
    }

pub returns-in_err-literal-clause-refused : goal.returns-in_err-literal-clause-refused
returns-in_err-literal-clause-refused g c =
    let i = c.loop-left.invariant in
    let p = err_from_is_err_and c.from_residual.result c.from_residual.ensures.1 in
    rw (p.1, p.2)
    (refused-behind (g.B.Bytes.causes c.loop-left.bytes c.take_literal.new.bytes) (g.B.Bytes.causes c.args.bytes.now c.take_literal.new.bytes)
    (g.B.Bytes.left c.args.bytes.now) (g.B.Bytes.left c.loop-left.bytes) (flat_map literal_bytes c.loop-left.table.literals) LacksLiteral (LacksLiterals c.args.count) _
    i.sofar.taken (λ read cause. g.met.B.Bytes.later_cause _ _ _ read i.moved c.in_err-literal.ensures.moved cause)
    (λ bytes reason lacks. literal-missing c.args.count c.loop-left.table.literals bytes reason i.sofar.fit (omega (arith, i.sofar.count_of, c.loop-left-test.true)) lacks)
    c.in_err-literal.ensures.refused)

pub returns-then-not-new-clause-refused : goal.returns-then-not-new-clause-refused
returns-then-not-new-clause-refused g c =
    let i = c.loop-left.invariant in
    let literals = c.loop-left.table.literals in
    let literal = c.in_ok-literal.literal in
    told-taken (g.B.Bytes.left c.args.bytes.now) (g.B.Bytes.left c.take_literal.new.bytes) (flat_map literal_bytes literals ++ literal_bytes literal)
    (λ bytes. LacksLiterals c.args.count bytes Form)
    (takes-then (g.B.Bytes.left c.args.bytes.now) (g.B.Bytes.left c.loop-left.bytes) (g.B.Bytes.left c.take_literal.new.bytes) (flat_map literal_bytes literals)
    (literal_bytes literal) i.sofar.taken c.in_ok-literal.ensures.taken)
    (λ bytes. literal-repeated c.args.count literals literal bytes i.sofar.fit c.in_ok-literal.ensures.fits (omega (arith, i.sofar.count_of, c.loop-left-test.true))
    (rw c.if-not-new.true at c.in_ok-new.ensures.new))

pub loop-left-preserved : goal.loop-left-preserved
loop-left-preserved g c =
    let i = c.loop-left.invariant in
    let literals = c.loop-left.table.literals in
    let step = c.in_ok-new.ensures in
    let more = step.literals c.if-not-new.false in
    record {
      sofar = one-literal (g.B.Bytes.left c.args.bytes.now) (g.B.Bytes.left c.loop-left.bytes) (g.B.Bytes.left c.take_literal.new.bytes) c.args.count c.loop-left.left
          literals c.read_literal.new.self.literals c.in_ok-literal.literal i.sofar (omega (arith, c.loop-left-test.true)) c.in_ok-literal.ensures.fits
          (rw c.if-not-new.false at step.new) c.in_ok-literal.ensures.taken more;
      clauses = step.clauses ∙ i.clauses;
      trues = negated-more literals c.loop-left.table.trues c.read_literal.new.self.literals c.read_literal.new.self.trues c.in_ok-literal.literal i.trues more
          (step.trues c.if-not-new.false);
      moved = g.met.B.Bytes.moves_trans _ _ _ i.moved c.in_ok-literal.ensures.moved;
    }

pub returns-clause-taken : goal.returns-clause-taken
returns-clause-taken g c =
    all-literals (g.B.Bytes.left c.args.bytes.now) (g.B.Bytes.left c.loop-left.bytes) c.args.count c.loop-left.left c.loop-left.table.literals c.loop-left.invariant.sofar
    (omega (arith, c.loop-left-test.false))
