-- All steps.
use Rattle.std.proofs.Common.{◌↔◌, List, subst}
use Rattle.code_paths.specs.Hops.{Is, IsCall, places_of}
use Rattle.code_paths.specs.declared.place.CodePlace.{CodePlace}
use Rattle.code_paths.proofs.Exact.{no_step, found_are_all}
use Rattle.code_paths.proofs.hops.hops_from.Goals as goal

pub returns-in_default-look : goal.returns-in_default-look
returns-in_default-look c = λ hop. (
  (λ one. absurd (c.none-in_default-look.ensures hop one)),
  (λ step. absurd (no_step c.args.program.now c.in-Some.at.now c.in-Some.callers.now c.args.places.now hop c.in-Some.ensures.cases.0 c.in_default-look.ensures.err.1 step)),
)

pub returns : goal.returns
returns c = λ hop.
    found_are_all c.args.program.now c.in-Ok.here c.in-Some.at.now c.in-Some.callers.now c.args.places.now _ hop c.in-Some.ensures.cases.0 c.in-Ok.ensures.ok (record {
      fall = c.in_ok-fall.ensures hop;
      jump = c.in_ok-jump.ensures hop;
      call = subst (λ (ps : List CodePlace). Is c.in_ok-call.field-0 hop ↔ IsCall c.in-Ok.here.names (places_of ps) hop) c.in-Some.ensures.cases.0 (c.in_ok-call.ensures hop);
      leave = c.in_ok-leave.ensures hop;
    })
