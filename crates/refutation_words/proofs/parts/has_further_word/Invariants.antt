use Rattle.std.proofs.Common.{Bool}
use Rattle.std.specs.Option.{IfSome}
use Rattle.refutation_words.specs.Parts.{IsFurther}
use Rattle.refutation_words.proofs.parts.has_further_word.Given as goal

abbrev pub invariant-loop : goal.invariant-loop
invariant-loop g l = record {
  told : (further : Bool) → IfSome (g.B.Bytes.left l.bytes) (IsFurther further) → IfSome (g.B.Bytes.left l.fn.bytes) (IsFurther further);
  moved : g.B.Bytes.moves l.fn.bytes l.bytes;
}
