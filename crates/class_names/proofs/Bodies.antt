-- The first Code attribute of a list, passing along it.
use Rattle.std.proofs.Common.{◌≡◌, ◌<◌, ◌+◌, ℕ, List, Option, None, Some, length, get_or, drop, ap, subst, sym, ◌∙◌}
use Rattle.std.specs.Option.{option_or}
use Rattle.std.proofs.lemmas.List.{at_drop_more}
use Rattle.class_format.specs.declared.record.Attribute.{Attribute}
use Rattle.class_format.specs.declared.record.CodeBody.{CodeBody}
use Rattle.class_names.specs.Members.{body_in, first_body}

at_place : (xs : List Attribute) (i : ℕ) (a : Attribute) (o : Option CodeBody) → i < length xs → a ≡ get_or xs i a → body_in a ≡ o →
    option_or o (first_body (drop (i + 1) xs)) ≡ first_body (drop i xs)
at_place xs i a o within is found =
    ap (λ p. option_or p (first_body (drop (i + 1) xs))) (sym found ∙ ap body_in is) ∙ sym (at_drop_more first_body xs i a within)

-- an attribute without code
pub goes_on : (xs ys : List Attribute) (i : ℕ) (a : Attribute) (b : Option CodeBody) → ys ≡ xs → i < length ys → a ≡ get_or ys i a → body_in a ≡ None →
    first_body (drop i xs) ≡ b → first_body (drop (i + 1) xs) ≡ b
goes_on xs ys i a b same within is none before =
    at_place xs i a None (subst (λ zs. i < length zs) same within) (subst (λ zs. a ≡ get_or zs i a) same is) none ∙ before

-- an attribute with code
pub finds : (xs ys : List Attribute) (i : ℕ) (a : Attribute) (body : CodeBody) (b : Option CodeBody) → ys ≡ xs → i < length ys → a ≡ get_or ys i a → body_in a ≡ Some body →
    first_body (drop i xs) ≡ b → Some body ≡ b
finds xs ys i a body b same within is found before =
    at_place xs i a (Some body) (subst (λ zs. i < length zs) same within) (subst (λ zs. a ≡ get_or zs i a) same is) found ∙ before
