-- Joining what is known of single locals and threads.
use Rattle.std.proofs.Common.{◌≡◌, ℕ, Bool, true, false, Option, Some, None, nat_eq, cond, ◌⊎◌, inl, inr, refl, sym, ap, subst, ◌∙◌}
use Rattle.std.specs.Option.{option_or, option_map}
use Rattle.program.specs.declared.value_type.ValueType.{ValueType}
use Rattle.program.specs.declared.value_type.ValueType.TheVariants as type
use Rattle.typing.specs.Objects.{fresh_of, made_of, same_object, constructed}
use Rattle.typing.specs.declared.object.Object.{Object}
use Rattle.typing.specs.declared.object.Object.TheVariants.{Thread, Target}
use Rattle.typing.proofs.Objects.{constructed_fresh, constructed_made}
use Rattle.typing.specs.Joining.{JoinsLocal, constructed_local}
use Rattle.typing.specs.declared.joined_type.JoinedType.{JoinedType}
use Rattle.typing.specs.declared.joined_type.JoinedType.TheVariants.{Known, Made}

-- what is put over what was joined before, or over nothing
pub joined_here : (a b holds old : Option JoinedType) → JoinsLocal a b holds → (JoinsLocal a b old ⊎ (old ≡ None)) → JoinsLocal a b (option_or holds old)
joined_here a b (Some t) old j before = j
joined_here a b None old j (inl before) = before
joined_here a b None old j (inr none) = subst (JoinsLocal a b) (sym none) j

-- a constructor's call twice is one
twice_fresh : (k j : Object) (b : Bool) → same_object k j ≡ b → constructed k (cond b (made_of j) (fresh_of j)) ≡ cond b (made_of j) (fresh_of j)
twice_fresh k j true e = constructed_made k j
twice_fresh k j false e = constructed_fresh k j ∙ ap (λ b. cond b (made_of j) (fresh_of j)) e

pub constructed_twice : (k : Object) (t : ValueType) → constructed k (constructed k t) ≡ constructed k t
constructed_twice k type.Int = refl
constructed_twice k type.Out = refl
constructed_twice k type.Args = refl
constructed_twice k type.This = refl
constructed_twice k (type.Lock m) = refl
constructed_twice k (type.Fresh j) = twice_fresh k (Thread j) (same_object k (Thread j)) refl
constructed_twice k (type.Thread j) = refl
constructed_twice k (type.FreshTarget j) = twice_fresh k (Target j) (same_object k (Target j)) refl
constructed_twice k (type.Target j) = refl

twice_made : (k j : Object) (b : Bool) → same_object k j ≡ b → constructed_local k (cond b (Known (made_of j)) (Made j)) ≡ cond b (Known (made_of j)) (Made j)
twice_made k j true e = ap Known (constructed_made k j)
twice_made k j false e = ap (λ b. cond b (Known (made_of j)) (Made j)) e

pub constructed_local_twice : (k : Object) (t : JoinedType) → constructed_local k (constructed_local k t) ≡ constructed_local k t
constructed_local_twice k (Known t) = ap Known (constructed_twice k t)
constructed_local_twice k (Made j) = twice_made k j (same_object k j) refl

pub constructed_here : (k : Object) (base old : Option JoinedType) → ((old ≡ option_map (constructed_local k) base) ⊎ (old ≡ base)) →
    option_map (constructed_local k) old ≡ option_map (constructed_local k) base
constructed_here k base old (inr same) = ap (option_map (constructed_local k)) same
constructed_here k None old (inl done) = ap (option_map (constructed_local k)) done
constructed_here k (Some t) old (inl done) = ap (option_map (constructed_local k)) done ∙ ap Some (constructed_local_twice k t)

-- what is put where there was nothing is nothing
pub put_mapped : (k : Object) (old : Option JoinedType) → option_or (option_map (constructed_local k) old) old ≡ option_map (constructed_local k) old
put_mapped k None = refl
put_mapped k (Some t) = refl
