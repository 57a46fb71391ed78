-- Whether two texts are the same.
use Rattle.std.proofs.Common.{◌≡◌, ◌&&◌, ℕ, Bool, true, false, List, sym, subst, refl}
use Rattle.std.proofs.lemmas.Cmp.{nat_list_eq_equiv}
use Rattle.std.proofs.lemmas.Slice.Eq.{bytes_eq-Decides}
use Rattle.class_names.specs.Names.{same_text}

pub same_itself : (a : List ℕ) → same_text a a ≡ true
same_itself a = nat_list_eq_equiv.refl a

pub same_is : (a b : List ℕ) → same_text a b ≡ true → a ≡ b
same_is a b e = (bytes_eq-Decides a b).0 e

both_ways : (x y : Bool) → (x ≡ true → y ≡ true) → (y ≡ true → x ≡ true) → x ≡ y
both_ways true y there back = sym (there refl)
both_ways false true there back = back refl
both_ways false false there back = refl

pub exchanged : (a b : List ℕ) → same_text a b ≡ same_text b a
exchanged a b = both_ways (same_text a b) (same_text b a) (λ e. subst (λ c. same_text c a ≡ true) (same_is a b e) (same_itself a)) (λ e. subst (λ c. same_text c b ≡ true) (same_is b a e) (same_itself b))

pub both_true : (x y : Bool) → (x && y) ≡ true → (x ≡ true) × (y ≡ true)
both_true true y e = (refl, e)
both_true false y e = cc
