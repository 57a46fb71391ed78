use Rattle.std.proofs.Common.{◌≡◌, ◌<◌, ◌∙◌, ap, sym, subst, length}
use Rattle.search_log.specs.declared.name.Name.TheVariants.{Unnamed}
use Rattle.search_log.specs.Names.{LogValue, log_value, name_at}
use Rattle.search_log.proofs.Naming.{sound-ruled}
use Rattle.search_log.proofs.log.Log.name_rule.Goals as goal

pub invariant_of-self : goal.invariant_of-self
invariant_of-self c =
    let log = log_value c.self.inside.names.items c.self.inside.handles c.self.inside.derived c.self.inside.instances in
    rw c.index.ensures.number
    (sound-ruled log c.args.clause c.args.place c.self.invariant
    (subst (λ (l : LogValue). c.args.clause < length l.names) (sym c.self.view_is) c.requires.within)
    (subst (λ (l : LogValue). name_at l.names c.args.clause ≡ Unnamed) (sym c.self.view_is) c.requires.unnamed)
    (ap (λ (l : LogValue). l.instances) c.self.view_is ∙ c.requires.first))
