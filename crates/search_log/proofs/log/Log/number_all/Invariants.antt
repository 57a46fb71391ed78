use Rattle.std.proofs.Common.{ℕ, ◌<◌, ◌≤◌, get_or}
use Rattle.conflict_analysis.specs.declared.hint.Hint.{Hint}
use Rattle.search_log.specs.Names.{IsNumberedName, hint_name}
use Rattle.search_log.specs.Lines.{PutsRules}
use Rattle.search_log.proofs.log.Log.number_all.Given as goal

-- the hints so far have numbers
abbrev pub invariant-loop-hint : goal.invariant-loop-hint
invariant-loop-hint g l = record {
  put : PutsRules l.formula l.initial.self l.self (g.S.Sink.held l.initial.out) (g.S.Sink.held l.out);
  numbered : (k : ℕ) (d : Hint) → k < l.hint-index → IsNumberedName (hint_name l.self (get_or l.hints k d));
  kept : g.S.Sink.faults l.initial.out ≤ g.S.Sink.faults l.out;
  rest : g.S.Sink.same_rest l.initial.out l.out;
}
