-- Equal facts state one thing.
use Rattle.std.proofs.Common.{◌≡◌, ◌&&◌, ◌↔◌, ℕ, Bool, true, false, not, IsTrue, List, Option, Some, None, Contains, map, refl, sym, ◌∙◌, ap, ap₂, subst, nat_eq, eq-eqb}
use Rattle.std.specs.List.{list_any}
use Rattle.std.specs.Cmp.Lexicographic.{pointwise}
use Rattle.std.proofs.lemmas.Bool.{eqb-true}
use Rattle.std.proofs.lemmas.Cmp.{nat_list_eq_equiv}
use Rattle.std.proofs.lemmas.Slice.Eq.{bytes_eq-Decides}
use Rattle.entry_tables.proofs.Keys.{Tells, tells_there}
use Rattle.execution_form.specs.declared.fact.Fact.{Fact}
use Rattle.execution_form.specs.declared.fact.Fact.TheVariants.{Variable, Volatile, Monitor, Write}
use Rattle.execution_form.specs.contracts.fact.FactPartialEq.TheImpl.{eq-value}
use Rattle.execution_form.specs.Facts.{Stated, HasVariable, HasVolatile, HasMonitor, HasWrite, stated_by, IsMet, IsMissed}

both_true : (x y : Bool) → (x && y) ≡ true → (x ≡ true) × (y ≡ true)
both_true true y e = (refl, e)
both_true false y e = cc

and_true : (x y : Bool) → x ≡ true → y ≡ true → (x && y) ≡ true
and_true true y e f = f
and_true false y e f = cc

same_bytes : (a b : List ℕ) → pointwise nat_eq a b ≡ true → a ≡ b
same_bytes a b e = (bytes_eq-Decides a b).0 e

bytes_same : (a b : List ℕ) → a ≡ b → pointwise nat_eq a b ≡ true
bytes_same a b e = subst (λ (x : List ℕ). pointwise nat_eq a x ≡ true) e (nat_list_eq_equiv.refl a)

write_same : (i j : ℕ) (a b c d : List ℕ) → i ≡ j → a ≡ c → b ≡ d → HasWrite i a b ≡ HasWrite j c d
write_same i j a b c d e f g = cc

alike : (k l : Fact) → eq-value.it k l ≡ true → stated_by k ≡ stated_by l
alike (Variable a b) (Variable c d) e = let both = both_true (pointwise nat_eq a.now c.now) (pointwise nat_eq b.now d.now) e in ap₂ HasVariable (same_bytes a.now c.now both.0) (same_bytes b.now d.now both.1)
alike (Volatile a b) (Volatile c d) e = let both = both_true (pointwise nat_eq a.now c.now) (pointwise nat_eq b.now d.now) e in ap₂ HasVolatile (same_bytes a.now c.now both.0) (same_bytes b.now d.now both.1)
alike (Monitor a) (Monitor c) e = ap HasMonitor (same_bytes a.now c.now e)
alike (Write i a b) (Write j c d) e =
    let all = both_true (nat_eq i j) (pointwise nat_eq a.now c.now && pointwise nat_eq b.now d.now) e in
    let both = both_true (pointwise nat_eq a.now c.now) (pointwise nat_eq b.now d.now) all.1 in
    write_same i j a.now b.now c.now d.now (eqb-true i j all.0) (same_bytes a.now c.now both.0) (same_bytes b.now d.now both.1)
alike _ _ e = cc

alike_back : (k l : Fact) → stated_by k ≡ stated_by l → eq-value.it k l ≡ true
alike_back (Variable a b) (Variable c d) e = and_true (pointwise nat_eq a.now c.now) (pointwise nat_eq b.now d.now) (bytes_same a.now c.now cc) (bytes_same b.now d.now cc)
alike_back (Volatile a b) (Volatile c d) e = and_true (pointwise nat_eq a.now c.now) (pointwise nat_eq b.now d.now) (bytes_same a.now c.now cc) (bytes_same b.now d.now cc)
alike_back (Monitor a) (Monitor c) e = bytes_same a.now c.now cc
alike_back (Write i a b) (Write j c d) e =
    and_true (nat_eq i j) (pointwise nat_eq a.now c.now && pointwise nat_eq b.now d.now) (eq-eqb i j cc)
    (and_true (pointwise nat_eq a.now c.now) (pointwise nat_eq b.now d.now) (bytes_same a.now c.now cc) (bytes_same b.now d.now cc))
alike_back _ _ e = cc

pub tells : Tells eq-value.it stated_by
tells = record { sound = alike; complete = alike_back }

-- ---- What the calls of a set answer

pub fact_there : (keys : List Fact) (k : Fact) (found : Bool) → found ≡ list_any (eq-value.it k) keys → IsTrue found ↔ Contains (map stated_by keys) (stated_by k)
fact_there keys k found is = (λ h. (tells_there eq-value.it stated_by keys k tells).0 (sym is ∙ h), λ there. is ∙ (tells_there eq-value.it stated_by keys k tells).1 there)

one : {X : Type 0} {x y : X} → Some x ≡ Some y → x ≡ y
one e = cc

pub meets_one : (facts : List Stated) (s : Stated) (found : Bool) → (IsTrue found ↔ Contains facts s) → IsTrue found ↔ IsMet facts (Some s)
meets_one facts s found iff = (λ h t e. subst (Contains facts) (one e) (iff.0 h), λ met. iff.1 (met s refl))

pub meets_none : (facts : List Stated) → IsTrue true ↔ IsMet facts None
meets_none facts = (λ h s e. absurd (no_some s e), λ met. refl)
  where
    no_some : (s : Stated) → (let none : Option Stated = None in none ≡ Some s) → ⊥
    no_some s e = cc

pub misses_one : (facts : List Stated) (s : Stated) (found : Bool) → (IsTrue found ↔ Contains facts s) → IsTrue (not found) ↔ IsMissed facts (Some s)
misses_one facts s found iff = go found refl
  where
    go : (b : Bool) → found ≡ b → IsTrue (not found) ↔ IsMissed facts (Some s)
    go true e = (λ h t is there. (let never : ⊥ = cc in never), λ missed. absurd (missed s refl (iff.0 e)))
    go false e = (λ h t is there. (let f = iff.1 (subst (Contains facts) (sym (one is)) there) in let never : ⊥ = cc in never), λ missed. ap not e)

pub misses_none : (facts : List Stated) → IsTrue true ↔ IsMissed facts None
misses_none facts = (λ h s e there. absurd (no_some s e), λ met. refl)
  where
    no_some : (s : Stated) → (let none : Option Stated = None in none ≡ Some s) → ⊥
    no_some s e = cc
