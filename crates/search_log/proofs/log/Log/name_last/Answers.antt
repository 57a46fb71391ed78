use Rattle.std.proofs.Common.{◌≡◌, ◌<◌, ◌∙◌, ap, sym, subst, length}
use Rattle.search_log.specs.declared.name.Name.TheVariants.{Unnamed}
use Rattle.search_log.specs.Names.{LogValue, IsLastUnnamed, log_value, clauses_of, slot_of, hint_name}
use Rattle.search_log.proofs.Naming.{sound-last}
use Rattle.search_log.proofs.log.Log.name_last.Goals as goal

pub invariant_of-self : goal.invariant_of-self
invariant_of-self c =
    let log = log_value c.self.inside.names.items c.self.inside.handles c.self.inside.derived c.self.inside.instances in
    let slot : c.slot-slot.result ≡ slot_of c.self.inside.handles c.args.hint.now = c.slot-slot.ensures ∙ ap (λ (l : LogValue). slot_of l.handles c.args.hint.now) (sym c.self.view_is) in
    let number : c.clauses.result ≡ clauses_of log = c.clauses.ensures ∙ ap clauses_of (sym c.self.view_is) in
    rw (slot, number)
    (sound-last log (slot_of c.self.inside.handles c.args.hint.now) c.self.invariant
    (subst (λ (l : LogValue). slot_of l.handles c.args.hint.now < length l.names) (sym c.self.view_is) c.requires.within)
    (subst (λ (l : LogValue). hint_name l c.args.hint.now ≡ Unnamed) (sym c.self.view_is) c.requires.unnamed)
    (subst IsLastUnnamed (sym c.self.view_is) c.requires.last))
