use Rattle.std.proofs.Common.{arith}
use Rattle.ports.proofs.GrowthLaws.{grows-then}
use Rattle.sequence_text.proofs.TextLaws.{each-failed, texts-with}
use Rattle.program_listing.specs.ListingText.{variable_line}
use Rattle.program_listing.proofs.listing.put_variables.Goals as goal

pub returns-in_err-put_variable-clause-bytes : goal.returns-in_err-put_variable-clause-bytes
returns-in_err-put_variable-clause-bytes g c =
    each-failed variable_line c.args.variables.now c.loop-variable.variable-index c.variable-item.result _ _ _ _ (omega arith) c.variable-item.is
    c.from_residual.ensures.0 c.loop-variable.invariant.grows c.in_err-put_variable.ensures.bytes

pub loop-variable-preserved : goal.loop-variable-preserved
loop-variable-preserved g c = record {
  grows = rw (texts-with variable_line c.args.variables.now c.loop-variable.variable-index c.variable-item.result (omega arith) c.variable-item.is)
      (grows-then _ _ _ _ _ c.loop-variable.invariant.grows c.in_ok-put_variable.ensures.bytes);
  kept = omega (arith, c.loop-variable.invariant.kept, c.in_ok-put_variable.ensures.cause.kept);
  rest = g.met.S.Sink.rest_trans _ _ _ c.loop-variable.invariant.rest c.in_ok-put_variable.ensures.rest;
}
