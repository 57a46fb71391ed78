-- The member at the place is the one that was found.
use Rattle.std.proofs.Common.{◌∙◌, sym, ap, subst, ℕ, Option}
use Rattle.std.specs.Option.{option_copied}
use Rattle.class_format.specs.declared.record.Member.{Member}
use Rattle.class_names.specs.Names.{reference_of}
use Rattle.resolution.specs.Misnamings.{Tells}
use Rattle.resolution.specs.Resolution.{Resolved, method_resolved, own_method}
use Rattle.resolution.proofs.resolver.method_in.Goals as goal

pub returns-in-Some-get : goal.returns-in-Some-get
returns-in-Some-get c =
    let r = reference_of c.args.pool.now c.args.reference.class c.args.reference.name_and_type in
    subst (λ (t : Resolved). Tells t c.method_found.result)
    (ap (λ (m : Option Member). method_resolved c.args.found.now.pool c.args.class c.in-Some.method m r) (sym (ap option_copied c.in-Some-get.is) ∙ c.get.ensures.value)
    ∙ ap (λ (place : Option ℕ). own_method c.args.class c.args.found.now r place) (sym c.in-Some.is))
    (c.method_found.ensures c.args.found.now.pool)
