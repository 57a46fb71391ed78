use Rattle.std.proofs.Common.{◌≡◌, ◌∷◌, [], ◌∙◌, ap, sym, subst}
use Rattle.ports.specs.Growth.{GrowsByPrefix}
use Rattle.ports.proofs.GrowthLaws.{prefix-then}
use Rattle.texts.specs.SevenBits.{seven_bits}
use Rattle.texts.proofs.TextLaws.{puts-failed}
use Rattle.refutation_lines.specs.LineText.{counted}
use Rattle.search_log.specs.Names.{LogValue, log_value, slot_of, hint_name, hint_number, IsNumberedName}
use Rattle.search_log.proofs.Taking.{takes-out, sound-unnamed}
use Rattle.search_log.proofs.log.Log.delete.Goals as goal

pub invariant_of-self : goal.invariant_of-self
invariant_of-self g c =
    let log = log_value c.self.inside.names.items c.self.inside.handles c.self.inside.derived c.self.inside.instances in
    let slot : c.slot-slot.result ≡ slot_of c.self.inside.handles c.args.hint.now = c.slot-slot.ensures ∙ ap (λ (l : LogValue). slot_of l.handles c.args.hint.now) (sym c.self.view_is) in
    rw slot (sound-unnamed log (slot_of c.self.inside.handles c.args.hint.now) c.self.invariant (subst (λ (l : LogValue). IsNumberedName (hint_name l c.args.hint.now)) (sym c.self.view_is) c.requires))

pub returns-in_err-put_all-clause-taken : goal.returns-in_err-put_all-clause-taken
returns-in_err-put_all-clause-taken g c = λ formula clauses current live.
    takes-out formula c.args.self.now clauses (slot_of c.args.self.now.handles c.args.hint.now) c.number_of-number.ensures.sound c.requires current live

pub returns-in_err-put_counted-clause-bytes : goal.returns-in_err-put_counted-clause-bytes
returns-in_err-put_counted-clause-bytes g c =
    let part = subst (λ n. GrowsByPrefix (g.S.Sink.held c.put_all.new.out) (g.S.Sink.held c.put_counted.new.out) (counted seven_bits (n ∷ []))) c.number_of-number.ensures.number c.in_err-put_counted.ensures.bytes in
    puts-failed _ _ _ _ c.from_residual-in_err-put_counted.ensures.0
    (prefix-then (g.S.Sink.held c.args.out.now) (g.S.Sink.held c.put_all.new.out) (g.S.Sink.held c.put_counted.new.out) (3 ∷ []) (counted seven_bits (hint_number c.args.self.now c.args.hint.now ∷ []))
    c.in_ok-put_all.ensures.bytes part)

pub returns-in_err-put_counted-clause-taken : goal.returns-in_err-put_counted-clause-taken
returns-in_err-put_counted-clause-taken g c = λ formula clauses current live.
    takes-out formula c.args.self.now clauses (slot_of c.args.self.now.handles c.args.hint.now) c.number_of-number.ensures.sound c.requires current live

pub returns-clause-taken : goal.returns-clause-taken
returns-clause-taken g c = λ formula clauses current live.
    takes-out formula c.args.self.now clauses (slot_of c.args.self.now.handles c.args.hint.now) c.number_of-number.ensures.sound c.requires current live
