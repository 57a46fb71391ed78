-- The order of members.
use Rattle.std.proofs.Common.{zero, suc, ◌≡◌, ◌<◌, ◌⊎◌, inl, inr, ℕ, List, [], ◌∷◌, Some, slice_get, sym, ap, subst, ◌∙◌, arith}
use Rattle.std.proofs.lemmas.Option.{none-some, same_Some}
use Rattle.std.specs.Cmp.Lexicographic.{nat_list_cmp_total}
use Rattle.std.specs.Ordering.{ordering_reverse}
use Rattle.std.specs.declared.cmp.Ordering.TheVariants.{Less, Greater}
use Rattle.action_orders.specs.declared.action.ActionRef.{ActionRef}
use Rattle.action_orders.specs.declared.action.ActionRef.TheVariants.{Default, Id}
use Rattle.action_orders.specs.Sequence.{Ascends, IsBelow, IsNameBelow}

name_trans : (a b c : List ℕ) → IsNameBelow a b → IsNameBelow b c → IsNameBelow a c
name_trans a b c one two = nat_list_cmp_total.trans a b c one two

not_itself : (a : List ℕ) → IsNameBelow a a → ⊥
not_itself a less =
    let other : Less ≡ Greater = sym less ∙ nat_list_cmp_total.antisymm a a ∙ ap ordering_reverse less in
    cc

pub below_trans : (a b c : ActionRef) → IsBelow a b → IsBelow b c → IsBelow a c
below_trans (Id i) (Id j) (Id k) one two = omega (arith, one, two)
below_trans (Id i) (Id j) (Default c n) one two = absurd two
below_trans (Id i) (Default c n) x one two = absurd one
below_trans (Default c n) y (Id k) one two = tt
below_trans (Default c n) (Id j) (Default d m) one two = absurd two
below_trans (Default c n) (Default d m) (Default e l) one two = names one two
  where
    names : IsNameBelow c d ⊎ ((c ≡ d) × IsNameBelow n m) → IsNameBelow d e ⊎ ((d ≡ e) × IsNameBelow m l) → IsNameBelow c e ⊎ ((c ≡ e) × IsNameBelow n l)
    names (inl first) (inl second) = inl (name_trans c d e first second)
    names (inl first) (inr second) = inl (subst (IsNameBelow c) second.0 first)
    names (inr first) (inl second) = inl (subst (λ (x : List ℕ). IsNameBelow x e) (sym first.0) second)
    names (inr first) (inr second) = inr (first.0 ∙ second.0, name_trans n m l first.1 second.1)

pub never_below_itself : (a : ActionRef) → IsBelow a a → ⊥
never_below_itself (Id i) less = omega (arith, less)
never_below_itself (Default c n) (inl less) = not_itself c less
never_below_itself (Default c n) (inr less) = not_itself n less.1

-- the first member is below each later one
first_below : (xs : List ActionRef) (x y : ActionRef) (k : ℕ) → Ascends (x ∷ xs) → slice_get xs k ≡ Some y → IsBelow x y
first_below [] x y k ascends there = absurd (none-some y there)
first_below (z ∷ xs) x y zero ascends there = subst (IsBelow x) (same_Some z y there) ascends.0
first_below (z ∷ xs) x y (suc k) ascends there = below_trans x z y ascends.0 (first_below xs z y k ascends.1 there)

tail_ascends : (xs : List ActionRef) (x : ActionRef) → Ascends (x ∷ xs) → Ascends xs
tail_ascends [] x ascends = tt
tail_ascends (y ∷ xs) x ascends = ascends.1

-- a member at an earlier place is below one at a later place
pub earlier_below : (xs : List ActionRef) (i j : ℕ) (x y : ActionRef) → Ascends xs → i < j → slice_get xs i ≡ Some x → slice_get xs j ≡ Some y → IsBelow x y
earlier_below [] i j x y ascends before first second = absurd (none-some x first)
earlier_below (z ∷ xs) i zero x y ascends before first second = absurd (omega (arith, before))
earlier_below (z ∷ xs) zero (suc j) x y ascends before first second =
    subst (λ (w : ActionRef). IsBelow w y) (same_Some z x first) (first_below xs z y j ascends second)
earlier_below (z ∷ xs) (suc i) (suc j) x y ascends before first second = earlier_below xs i j x y (tail_ascends xs z ascends) (omega (arith, before)) first second
