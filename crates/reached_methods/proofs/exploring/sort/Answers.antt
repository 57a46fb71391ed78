use Rattle.std.proofs.Common.{ℕ, rules, of_calls}
use Rattle.std.proofs.lemmas.List.Sorted.{answers_always}
use Rattle.reached_methods.specs.declared.survey.Surveyed.{Surveyed}
use Rattle.reached_methods.proofs.ByPlace.{sorted_places}
use Rattle.reached_methods.proofs.exploring.sort.Goals as goal

pub returns-clause-by_place : goal.returns-clause-by_place
returns-clause-by_place c =
    let place : Surveyed → ℕ × ℕ = λ s. (s.method.id.class, s.method.id.method) in
    sorted_places c.args.surveys.now.items c.sort_unstable_by_key.new.self.items c.requires c.sort_unstable_by_key.ensures.permutation
    (c.sort_unstable_by_key.ensures.sorted place (answers_always _ _ _ (λ f a r g k. search (rules, of_calls))))
