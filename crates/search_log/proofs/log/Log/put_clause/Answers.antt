use Rattle.std.proofs.Common.{◌≡◌, ◌∙◌, ap, sym, subst, arith}
use Rattle.search_log.specs.Names.{LogValue, log_value}
use Rattle.search_log.specs.Lines.{PutsClause}
use Rattle.search_log.proofs.Naming.{sound-line, last-unnamed}
use Rattle.search_log.proofs.Pieces.{failed}
use Rattle.search_log.proofs.Putting.{breaks-at, line-put, line-breaks, derived_log}
use Rattle.search_log.proofs.log.Log.put_clause.Goals as goal

pub returns-in_err-number_all-clause-put : goal.returns-in_err-number_all-clause-put
returns-in_err-number_all-clause-put g c =
    failed c.from_residual.result _ _ c.from_residual.ensures.0
    (λ e. breaks-at c.args.formula.now c.args.self.now _ _ c.args.literals.now c.args.hints.now c.in_err-number_all.ensures.put)

pub returns-in_err-put_line-clause-put : goal.returns-in_err-put_line-clause-put
returns-in_err-put_line-clause-put g c =
    let put = c.in_ok-number_all.ensures.put in
    failed c.from_residual-in_err-put_line.result _ _ c.from_residual-in_err-put_line.ensures.0
    (λ e. line-breaks c.args.formula.now c.args.self.now c.number_all.new.self c.args.literals.now c.args.hints.now _ _ c.requires.below c.requires.apart put.1 put.0 _ c.in_err-put_line.ensures.bytes)

pub invariant_of-self : goal.invariant_of-self
invariant_of-self g c =
    let put = c.in_ok-number_all.ensures.put in
    let log = log_value c.self.inside.names.items c.self.inside.handles c.self.inside.derived c.self.inside.instances in
    let same : c.self.inside.derived ≡ c.args.self.now.derived = ap (λ (l : LogValue). l.derived) c.self.view_is ∙ put.0.derived in
    sound-line log c.self.invariant (omega (arith, same, c.requires.few))

pub returns-clause-put : goal.returns-clause-put
returns-clause-put g c =
    let put = c.in_ok-number_all.ensures.put in
    let log = log_value c.self.inside.names.items c.self.inside.handles c.self.inside.derived c.self.inside.instances in (
      subst (λ (l : LogValue). PutsClause c.args.formula.now c.args.self.now (derived_log l) (g.S.Sink.held c.args.out.now) (g.S.Sink.held c.put_line.new.out) c.args.literals.now c.args.hints.now) (sym c.self.view_is)
          (line-put c.args.formula.now c.args.self.now c.number_all.new.self c.args.literals.now c.args.hints.now (g.S.Sink.held c.args.out.now) (g.S.Sink.held c.number_all.new.out) c.requires.below c.requires.apart put.1 put.0 (g.S.Sink.held c.put_line.new.out) c.in_ok-put_line.ensures.bytes),
      last-unnamed log c.self.invariant,
    )
