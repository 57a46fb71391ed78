use Rattle.std.proofs.Common.{ap, arith, length}
use Rattle.std.proofs.lemmas.List.{length-map}
use Rattle.program.specs.declared.method.Method.{Method}
use Rattle.ports.proofs.GrowthLaws.{grows-then}
use Rattle.sequence_text.proofs.TextLaws.{each-failed, texts-with}
use Rattle.program_listing.proofs.MethodPlaces.{method-at}
use Rattle.program_listing.specs.ListingText.{method_lines}
use Rattle.program_listing.proofs.methods.put_methods.Goals as goal

pub returns-in_err-put_method-clause-bytes : goal.returns-in_err-put_method-clause-bytes
returns-in_err-put_method-clause-bytes g c =
    each-failed (method_lines c.args.classes.now) c.args.program.now.methods c.loop-id.id-index c.method.result.now _ _ _ _
    (omega (arith, ap length c.methods-id-items.ensures.value, length-map c.args.program.now.methods (λ (n : Method). n.id)))
    (method-at c.args.program.now c.methods-id-items.result.now c.loop-id.id-index (record { class = 0; method = 0 }) c.method.result.now
    c.methods-id-items.ensures.distinct c.methods-id-items.ensures.value (omega arith) c.method.ensures)
    c.from_residual.ensures.0 c.loop-id.invariant.grows c.in_err-put_method.ensures.bytes

pub loop-id-preserved : goal.loop-id-preserved
loop-id-preserved g c = record {
  grows = rw (texts-with (method_lines c.args.classes.now) c.args.program.now.methods c.loop-id.id-index c.method.result.now
      (omega (arith, ap length c.methods-id-items.ensures.value, length-map c.args.program.now.methods (λ (n : Method). n.id)))
      (method-at c.args.program.now c.methods-id-items.result.now c.loop-id.id-index (record { class = 0; method = 0 }) c.method.result.now
      c.methods-id-items.ensures.distinct c.methods-id-items.ensures.value (omega arith) c.method.ensures))
      (grows-then _ _ _ _ _ c.loop-id.invariant.grows c.in_ok-put_method.ensures.bytes);
  kept = omega (arith, c.loop-id.invariant.kept, c.in_ok-put_method.ensures.cause.kept);
  rest = g.met.S.Sink.rest_trans _ _ _ c.loop-id.invariant.rest c.in_ok-put_method.ensures.rest;
}
