-- Why a hint or a rule is not taken, as why a line is not.
use Rattle.std.specs.Prelude.{◌≡◌, ℕ, Bool, List}
use Rattle.token_reader.specs.declared.bytes.ReadRefusal.TheVariants.{Memory as NoRoom}
use Rattle.var_names.specs.declared.rule.RuleRefusal.{RuleRefusal}
use Rattle.var_names.specs.declared.rule.RuleRefusal.TheVariants.{BadRule as NoInstance, Memory as NoRoomForRule}
use Rattle.refutation_check.specs.declared.hints.HintRefusal.{HintRefusal}
use Rattle.refutation_check.specs.declared.hints.HintRefusal.TheVariants.{NotUnit, Unknown, Memory}
use Rattle.refutation_items.specs.declared.refusal.LineRefusal.{LineRefusal}
use Rattle.refutation_items.specs.declared.refusal.LineRefusal.TheVariants.{Wrong, Unread}
use Rattle.refutation_items.specs.declared.refusal.Reason.TheVariants.{BadRule, HintNotUnit, HintUnknown}
use Rattle.var_names.specs.declared.var.Lit.{Lit}
use Rattle.refutation_lines.specs.Propagation.{Clauses}
use Rattle.refutation_steps.specs.HintSteps.{IsWrongHint}

abbrev pub IsHintRefusal : HintRefusal → LineRefusal → Type 0
IsHintRefusal NotUnit line = line ≡ Wrong HintNotUnit
IsHintRefusal Unknown line = line ≡ Wrong HintUnknown
IsHintRefusal Memory line = line ≡ Unread NoRoom

abbrev pub IsRuleRefusal : RuleRefusal → LineRefusal → Type 0
IsRuleRefusal NoInstance line = line ≡ Wrong BadRule
IsRuleRefusal NoRoomForRule line = line ≡ Unread NoRoom

-- a hint is wrong, and so the line
pub record IsRefusedHint (clauses : Clauses) (trues : List Lit) (last : Bool) (hint : ℕ) (line : LineRefusal) : Type 0 where
  pub refusal : HintRefusal
  pub is : IsHintRefusal refusal line
  pub wrong : IsWrongHint clauses trues last hint refusal
