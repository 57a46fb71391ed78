use Rattle.std.proofs.Common.{◌≡◌, map, ap, sym, ◌∙◌}
use Rattle.std.proofs.lemmas.List.{map-id}
use Rattle.std.proofs.lemmas.Iterator.Adapters.{YieldsList-from_vec}
use Rattle.std.proofs.lemmas.Iterator.Consumers.{YieldsList-end}
use Rattle.reached_methods.specs.declared.survey.Surveyed.{Surveyed}
use Rattle.reached_methods.proofs.reaching.methods_of.Goals as goal

pub returns : goal.returns
returns c =
    let b = c.into_iter-surveyed-iterator.ensures.into_iter_gives in
    let e = YieldsList-end (YieldsList-from_vec {s = c.into_iter-surveyed-iterator.result} c.args.surveys.items b.0 (b.1 ∙ c.args.surveys.ok.0)) c.loop-surveyed.yielded c.loop-surveyed.surveyed-iterator c.loop-surveyed.yielded_by c.next.result c.next.new.self c.in-None.is c.next.ensures.steps in
    let all : c.loop-surveyed.yielded ≡ c.args.surveys.items = sym (map-id c.loop-surveyed.yielded) ∙ e.0 in
    c.loop-surveyed.invariant ∙ ap (map (λ (s : Surveyed). s.method)) all
