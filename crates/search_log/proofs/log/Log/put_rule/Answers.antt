use Rattle.std.proofs.Common.{◌≡◌, ◌∙◌, ap, sym, subst}
use Rattle.search_log.specs.declared.name.Name.TheVariants.{Ruled}
use Rattle.search_log.specs.Names.{LogValue, log_value, clauses_of, name_at}
use Rattle.search_log.specs.Lines.{PutsRules}
use Rattle.search_log.proofs.Naming.{sound-rule}
use Rattle.search_log.proofs.Pieces.{failed, rule-of}
use Rattle.search_log.proofs.Putting.{ruled_log, rule-put, rule-numbered, rule-breaks}
use Rattle.search_log.proofs.log.Log.put_rule.Goals as goal

pub returns-in_err-put_instance-clause-put : goal.returns-in_err-put_instance-clause-put
returns-in_err-put_instance-clause-put g c =
    let f = c.args.formula.now in
    let known = c.requires.known in
    failed c.from_residual.result _ _ c.from_residual.ensures.0
    (λ e. rule-breaks f c.args.self.now c.args.slot c.args.place known.0 c.in-Some.rule.now known.1
    (rule-of f.clauses c.args.place known.1.clause c.in-Some.rule.now known.1.found c.in-Some.ensures.value) c.requires.named _ _ c.in_err-put_instance.ensures.bytes)

pub invariant_of-self : goal.invariant_of-self
invariant_of-self g c =
    let log = log_value c.self.inside.names.items c.self.inside.handles c.self.inside.derived c.self.inside.instances in
    let number : c.clauses-number.result ≡ clauses_of log = c.clauses-number.ensures ∙ ap clauses_of (sym c.self.view_is) in
    rw number (sound-rule log c.args.slot c.args.place c.self.invariant
    (subst (λ (l : LogValue). name_at l.names c.args.slot ≡ Ruled c.args.place) (sym c.self.view_is) c.requires.named))

pub returns-clause-put : goal.returns-clause-put
returns-clause-put g c =
    let f = c.args.formula.now in
    let known = c.requires.known in
    let log = log_value c.self.inside.names.items c.self.inside.handles c.self.inside.derived c.self.inside.instances in
    let number : c.clauses-number.result ≡ clauses_of log = c.clauses-number.ensures ∙ ap clauses_of (sym c.self.view_is) in
    let named : name_at log.names c.args.slot ≡ Ruled c.args.place = subst (λ (l : LogValue). name_at l.names c.args.slot ≡ Ruled c.args.place) (sym c.self.view_is) c.requires.named in
    let rule = rule-of f.clauses c.args.place known.1.clause c.in-Some.rule.now known.1.found c.in-Some.ensures.value in
    rw number (
      subst (λ (l : LogValue). PutsRules f l (ruled_log log c.args.slot) (g.S.Sink.held c.args.out.now) (g.S.Sink.held c.put_instance.new.out)) c.self.view_is
          (rule-put f log c.args.slot c.args.place known.0 c.in-Some.rule.now known.1 rule named (g.S.Sink.held c.args.out.now) (g.S.Sink.held c.put_instance.new.out) c.in_ok-put_instance.ensures.bytes),
      rule-numbered f log c.args.slot c.args.place known.0 c.in-Some.rule.now known.1 rule named,
    )
