use Rattle.std.proofs.Common.{◌≡◌, zero, suc, ap, subst, sym, ◌∙◌, get_or, ℕ, List, [], ◌∷◌}
use Rattle.var_names.specs.Formulas.{FormulaValue}
use Rattle.search_log.specs.declared.name.Name.{Name}
use Rattle.search_log.specs.declared.name.Name.TheVariants.{Numbered}
use Rattle.search_log.specs.Names.{LogValue, IsKnownName, IsNumberedName, name_at, slot_of}
use Rattle.search_log.proofs.Putting.{rules-none}
use Rattle.search_log.proofs.log.Log.number.Goals as goal

-- a known name that is a number where it was read
known-at : (formula : FormulaValue) (names : List Name) (slot number : ℕ) (read : Name) → IsKnownName formula (name_at names slot) → read ≡ get_or names slot read → read ≡ Numbered number → IsNumberedName (name_at names slot)
known-at formula [] slot number read known at is = absurd known
known-at formula (x ∷ xs) zero number read known at is = subst IsNumberedName (sym is ∙ at) tt
known-at formula (x ∷ xs) (suc slot) number read known at is = known-at formula xs slot number read known at is

pub returns-in-Numbered-clause-put : goal.returns-in-Numbered-clause-put
returns-in-Numbered-clause-put g c = (
  rules-none _ _ _,
  known-at c.args.formula.now c.args.self.now.names (slot_of c.args.self.now.handles c.args.hint.now) c.in-Numbered.field-0 c.index.result.now c.requires
      (subst (λ slot. c.index.result.now ≡ get_or c.args.self.now.names slot c.index.result.now) c.slot-slot.ensures
      (subst (λ (names : List Name). c.index.result.now ≡ get_or names c.slot-slot.result c.index.result.now) (ap (λ (l : LogValue). l.names) c.self.view_is) c.index.ensures))
      c.in-Numbered.is,
)
