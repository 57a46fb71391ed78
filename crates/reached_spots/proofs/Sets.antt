-- Sets in order.
use Rattle.std.proofs.Common.{◌≡◌, ◌↔◌, ◌⊎◌, inl, inr, Bool, true, false, cond, Contains, IsTrue, refl, sym, ap, subst, ◌∙◌}
use Rattle.std.specs.BTreeSet.{BTreeSet, Updates, contains}
use Rattle.std.specs.Cmp.{Equal-is, IsTotalOrder}
use Rattle.std.specs.Ordering.{is_eq}
use Rattle.std.specs.declared.cmp.Ordering.{Ordering}
use Rattle.std.proofs.lemmas.Map.Lookups.{CmpEqualImpliesEq}
use Rattle.std.proofs.lemmas.Map.Views.{btree_set_contains_iff}

module _ {K : Type 0} {R : K → K → Ordering} (total : IsTotalOrder R) (exact : CmpEqualImpliesEq R) where
  pub member : (s : BTreeSet K) (k : K) → IsTrue (contains R s k) ↔ Contains s.keys k
  member = btree_set_contains_iff total exact

  -- what a set has once a key was added
  pub has : (old new : BTreeSet K) (key : K) → Updates R old new key true → (k : K) → Contains new.keys k ↔ (Contains old.keys k ⊎ (k ≡ key))
  has old new key updates k = ((λ there. by (is_eq (R key k)) refl ((member new k).1 there)), to)
    where
      by : (b : Bool) → is_eq (R key k) ≡ b → IsTrue (contains R new k) → Contains old.keys k ⊎ (k ≡ key)
      by true e there = inr (sym (exact key k ((Equal-is (R key k)).0 e)))
      by false e there = inl ((member old k).0 (sym (updates.0 k ∙ ap (λ t. cond t true (contains R old k)) e) ∙ there))

      to : Contains old.keys k ⊎ (k ≡ key) → Contains new.keys k
      to (inr e) = subst (Contains new.keys) (sym e) ((member new key).0 updates.1)
      to (inl there) = (member new k).0 (updates.0 k ∙ kept (is_eq (R key k)) (contains R old k) ((member old k).1 there))
        where
          kept : (t b : Bool) → b ≡ true → cond t true b ≡ true
          kept true b e = refl
          kept false b e = e
