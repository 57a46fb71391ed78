-- Why a text is refused as an outcome.
use Rattle.std.specs.Prelude.{ℕ, List, ⊤}
use Rattle.line_text.specs.declared.outcome_reader.OutcomeRefusal.{OutcomeRefusal}
use Rattle.line_text.specs.declared.outcome_reader.OutcomeRefusal.TheVariants.{Fault, Memory}
use Rattle.line_text.specs.OutcomeText.{IsFaultAt}

-- the cause of a refusal; want of memory has none
abbrev pub IsRefusedFor : List ℕ → OutcomeRefusal → Type 0
IsRefusedFor text (Fault place) = IsFaultAt text place
IsRefusedFor text Memory = ⊤
