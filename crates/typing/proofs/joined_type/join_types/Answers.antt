use Rattle.std.proofs.Common.{◌≡◌, ◌≢◌, Some, refl, sym, ap, ◌∙◌, rules}
use Rattle.typing.specs.Joining.{made}
use Rattle.typing.proofs.joined_type.join_types.Goals as goal

pub returns-in-Some-Some : goal.returns-in-Some-Some
returns-in-Some-Some c =
    let ne : c.args.a ≢ c.args.b = search rules in
    let one : c.in-Some-Some.other ≡ c.in-Some-Some.object = search rules in
    made c.in-Some-Some.object ne (sym c.joined_object.ensures ∙ c.in-Some-Some.is-0) (sym c.joined_object-2.ensures ∙ c.in-Some-Some.is-1 ∙ ap Some one) (search rules)
