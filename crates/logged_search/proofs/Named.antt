-- Every live clause keeps its number for a name.
use Rattle.std.proofs.Common.{◌≡◌, ◌<◌, ◌∙◌, ℕ, List, Option, inl, inr, sym, ap, length}
use Rattle.search_log.specs.declared.name.Name.{Name}
use Rattle.search_log.specs.declared.name.Name.TheVariants.{Unnamed, Ruled, Numbered}
use Rattle.search_log.specs.Names.{HasNumber, KeepsName, KeepsNames, LogValue, clauses_of, name_at, number_in, with_name}
use Rattle.search_log.specs.Lines.{TakesOutName}
use Rattle.search_log.proofs.Naming.{name-other, name-set}
use Rattle.var_names.specs.Formulas.{FormulaValue}
use Rattle.logged_search.specs.Tied.{AreAllNamed, AreOthersNamed}

kept-name : (old new : Name) (number : ℕ) → old ≡ Numbered number → KeepsName old new → new ≡ Numbered number
kept-name Unnamed new number is keeps = absurd (cc)
kept-name (Ruled place) new number is keeps = absurd (cc)
kept-name (Numbered m) new number is keeps = keeps ∙ is

-- a name stays when the log goes on
pub number-kept : (old new : LogValue) (number : ℕ) → KeepsNames old new → HasNumber old number → HasNumber new number
number-kept old new number keeps has = (has.0, kept-name (name_at old.names has.0) (name_at new.names has.0) number has.1 (keeps.each has.0))

-- a name is taken out with its clause
pub named-taken : (formula : FormulaValue) (clauses : List (Option (List ℕ))) (log : LogValue) (slot : ℕ) → (takes : TakesOutName formula log clauses slot)
    → AreOthersNamed clauses log → AreOthersNamed takes.after (with_name log slot Unnamed)
named-taken formula clauses log slot takes others number written is =
    let was = takes.live number written is in
    elim (others number written was.0) [
      | inl last ↦ inl last
      | inr has ↦ inr (has.0, name-other log.names slot has.0 Unnamed (λ same. was.1 (sym (ap number_in (sym (ap (name_at log.names) same) ∙ has.1)))) ∙ has.1)
    ]

-- the clause that was logged last gets its name
pub named-last : (clauses : List (Option (List ℕ))) (log : LogValue) (slot : ℕ) → slot < length log.names → name_at log.names slot ≡ Unnamed
    → AreOthersNamed clauses log → AreAllNamed clauses (with_name log slot (Numbered (clauses_of log)))
named-last clauses log slot within unnamed others number written is =
    let name = Numbered (clauses_of log) in
    elim (others number written is) [
      | inl last ↦ (slot, name-set log.names slot name within ∙ ap Numbered (sym last))
      | inr has ↦ (has.0, name-other log.names slot has.0 name (λ same. (let no : Unnamed ≡ Numbered number = sym unnamed ∙ sym (ap (name_at log.names) same) ∙ has.1 in absurd (cc))) ∙ has.1)
    ]
