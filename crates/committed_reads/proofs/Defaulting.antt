-- Default writes by the numbers of their variables.
use Rattle.std.proofs.Common.{◌≡◌, ◌<◌, ◌+◌, ◌++◌, ◌↔◌, ℕ, List, [], ◌∷◌, Option, Some, None, IsSome, IfSome, Contains, slice_get, slice_index_or, length, take, refl, sym, ◌∙◌, ap, ap₂, subst, inl, inr}
use Rattle.std.proofs.lemmas.List.{take_more}
use Rattle.program.proofs.Lists.{contains_at, contains_nil}
use Rattle.action_orders.specs.declared.action.ActionRef.{ActionRef}
use Rattle.action_orders.specs.declared.action.ActionRef.TheVariants.{Default, Id}
use Rattle.action_orders.specs.Actions.{Var}
use Rattle.orders.specs.declared.answers.Orders.{Orders}
use Rattle.orders.specs.Made.{IsMade}
use Rattle.orders.specs.Symbols.{OfVariable, symbols}
use Rattle.orders.proofs.Places.{one}
use Rattle.orders.proofs.Said.{not_some, var}
use Rattle.step_members.specs.Members.{Gains}
use Rattle.step_members.proofs.Gaining.{behind_cases, behind_old, behind_new, one_id}
use Rattle.happens_before_reads.specs.Accesses.{IsNumberOf}
use Rattle.happens_before_reads.proofs.Naming.{one_number, one_numbered}
use Rattle.committed_reads.specs.Defaults.{AreDefaults, GainsNumber, IsDefaultNumber}

no_one : (c : ℕ) → (let none : Option ℕ = None in none ≡ Some c) → ⊥
no_one c e = cc

same_name : (class name : List ℕ) (v : Var) → Default class name ≡ Default v.class v.name → var class name ≡ v
same_name class name v e = let c : class ≡ v.class = cc in let n : name ≡ v.name = cc in ap₂ var c n

pub number_exactly : (o : Orders) (class name : List ℕ) (member : ActionRef) (n : Option ℕ) → IsMade o → member ≡ Default class name → IfSome n (λ k. slice_get (symbols o.variables) k ≡ Some (OfVariable class name)) →
    (IsSome n ↔ Contains (symbols o.variables) (OfVariable class name)) → IsDefaultNumber o member n
number_exactly o class name member None made is found there v c named = (
  λ e. absurd (no_one c e),
  λ e. (let same = same_name class name v (sym is ∙ e) in
      absurd (not_some None refl (there.1 (contains_at (symbols o.variables) c (OfVariable class name) (named ∙ ap (λ (u : Var). Some (OfVariable u.class u.name)) (sym same)))))),
)
number_exactly o class name member (Some k) made is found there v c named = (
  λ e. (let same : var class name ≡ v = one_numbered o (var class name) v c (subst (IsNumberOf o (var class name)) (one e) found) named in is ∙ ap (λ (u : Var). Default u.class u.name) same),
  λ e. (let same = same_name class name v (sym is ∙ e) in ap Some (one_number o v k c made (subst (λ (u : Var). IsNumberOf o u k) same found) named)),
)

no_default : (id : ℕ) (v : Var) → Id id ≡ Default v.class v.name → ⊥
no_default id v e = cc

pub no_number : (o : Orders) (id : ℕ) (member : ActionRef) → member ≡ Id id → IsDefaultNumber o member None
no_number o id member is v c named = (λ e. absurd (no_one c e), λ e. absurd (no_default id v (sym is ∙ e)))

-- ---- One more

pub gained : (old new : List ℕ) (k : ℕ) (n : Option ℕ) → n ≡ Some k → Gains old (Id k) new → GainsNumber old n new
gained old new k n is gains c = (
  λ there. elim ((gains c).0 there) [ inl early ↦ inl early | inr e ↦ inr (is ∙ ap Some (one_id k c e)) ],
  λ either. (gains c).1 (elim either [ inl early ↦ inl early | inr e ↦ inr (ap Id (one (sym is ∙ e))) ]),
)

pub none_yet : (o : Orders) (numbers : List ℕ) → numbers ≡ [] → AreDefaults o [] numbers
none_yet o numbers none v c named = (λ there. absurd (contains_nil c (subst (λ (xs : List ℕ). Contains xs c) none there)), λ never. absurd (contains_nil (Default v.class v.name) never))

pub one_more : (o : Orders) (set : List ActionRef) (i : ℕ) (x : ActionRef) (n : Option ℕ) (old new : List ℕ) → i < length set → x ≡ slice_index_or set i x → IsDefaultNumber o x n → GainsNumber old n new → AreDefaults o (take i set) old → AreDefaults o (take (i + 1) set) new
one_more o set i x n old new within is number gains before v c named = (to, from)
  where
    split : take (i + 1) set ≡ take i set ++ x ∷ []
    split = take_more set i x within ∙ ap (λ (y : ActionRef). take i set ++ y ∷ []) (sym is)

    to : Contains new c → Contains (take (i + 1) set) (Default v.class v.name)
    to there = subst (λ (xs : List ActionRef). Contains xs (Default v.class v.name)) (sym split) (elim ((gains c).0 there) [
      | inl early ↦ behind_old (take i set) x (Default v.class v.name) ((before v c named).0 early)
      | inr e ↦ subst (Contains (take i set ++ x ∷ [])) ((number v c named).0 e) (behind_new (take i set) x)
    ])

    from : Contains (take (i + 1) set) (Default v.class v.name) → Contains new c
    from there = (gains c).1 (elim (behind_cases (take i set) x (Default v.class v.name) (subst (λ (xs : List ActionRef). Contains xs (Default v.class v.name)) split there)) [
      | inl early ↦ inl ((before v c named).1 early)
      | inr e ↦ inr ((number v c named).1 (sym e))
    ])
