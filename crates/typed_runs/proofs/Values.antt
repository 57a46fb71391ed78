-- Typed values on a stack and in locals.
use Rattle.std.proofs.Common.{zero, suc, ◌≡◌, ◌<◌, ◌++◌, ℕ, ℤ, Bool, true, false, List, [], ◌∷◌, Option, Some, None, map, nat_eq, length, replicate, slice_get, slice_set, refl, sym, ap, subst, ◌∙◌, arith, eq-eqb, if◌then◌else◌}
use Rattle.std.proofs.lemmas.Bool.{eqb-true, false≢true}
use Rattle.std.specs.Option.{option_map}
use Rattle.program.specs.Step.{JavaValue}
use Rattle.program.specs.Step as java
use Rattle.program.specs.declared.value_type.ValueType.{ValueType}
use Rattle.program.specs.declared.value_type.ValueType.TheVariants as type
use Rattle.thread_meaning.specs.Values.{is_reference}
use Rattle.typing.specs.Changes.{below_ints}
use Rattle.typing.specs.Objects.{constructed, same_object}
use Rattle.typing.specs.States.{with_value}
use Rattle.typing.specs.declared.object.Object.{Object}
use Rattle.typing.specs.declared.object.Object.TheVariants as object
use Rattle.typed_runs.specs.Types.{AreTyped, HasType}

-- ---- The top of a stack

pub on_top : (P : List JavaValue → Type 0) (t : ValueType) (ts : List ValueType) (vs : List JavaValue) → AreTyped vs (t ∷ ts) →
    ((v : JavaValue) (ws : List JavaValue) → HasType v t → AreTyped ws ts → P (v ∷ ws)) → P vs
on_top P t ts [] typed f = absurd typed
on_top P t ts (v ∷ ws) typed f = f v ws typed.0 typed.1

pub as_int : (P : JavaValue → Type 0) (v : JavaValue) → HasType v type.Int → ((n : ℤ) → P (java.Int n)) → P v
as_int P (java.Int n) has f = f n
as_int P v has f = absurd has

pub as_out : (P : JavaValue → Type 0) (v : JavaValue) → HasType v type.Out → P java.Out → P v
as_out P java.Out has f = f
as_out P v has f = absurd has

pub as_monitor : (P : JavaValue → Type 0) (v : JavaValue) (m : ℕ) → HasType v (type.Lock m) → P (java.Monitor m) → P v
as_monitor P (java.Monitor n) m has f = subst (λ (x : ℕ). P (java.Monitor x)) (sym has) f
as_monitor P v m has f = absurd has

pub as_fresh : (P : JavaValue → Type 0) (v : JavaValue) (k : ℕ) → HasType v (type.Fresh k) → P (java.Object k) → P v
as_fresh P (java.Object j) k has f = subst (λ (x : ℕ). P (java.Object x)) (sym has) f
as_fresh P v k has f = absurd has

pub as_thread : (P : JavaValue → Type 0) (v : JavaValue) (k : ℕ) → HasType v (type.Thread k) → P (java.Object k) → P v
as_thread P (java.Object j) k has f = subst (λ (x : ℕ). P (java.Object x)) (sym has) f
as_thread P v k has f = absurd has

pub as_fresh_target : (P : JavaValue → Type 0) (v : JavaValue) (k : ℕ) → HasType v (type.FreshTarget k) → P (java.Target k) → P v
as_fresh_target P (java.Target j) k has f = subst (λ (x : ℕ). P (java.Target x)) (sym has) f
as_fresh_target P v k has f = absurd has

pub as_target : (P : JavaValue → Type 0) (v : JavaValue) (k : ℕ) → HasType v (type.Target k) → P (java.Target k) → P v
as_target P (java.Target j) k has f = subst (λ (x : ℕ). P (java.Target x)) (sym has) f
as_target P v k has f = absurd has

-- ---- Ints above the rest of a stack

abbrev pub IntsAbove : ℕ → List JavaValue → List ValueType → Type 0
IntsAbove zero vs rest = AreTyped vs rest
IntsAbove (suc count) (java.Int n ∷ vs) rest = IntsAbove count vs rest
IntsAbove (suc count) _ rest = ⊥

pub ints_above : (count : ℕ) (vs : List JavaValue) (ts rest : List ValueType) → AreTyped vs ts → below_ints count ts ≡ Some rest → IntsAbove count vs rest
ints_above zero vs ts rest typed below = let same : ts ≡ rest = cc in subst (AreTyped vs) same typed
ints_above (suc count) vs (type.Int ∷ ts) rest typed below =
    on_top (λ xs. IntsAbove (suc count) xs rest) type.Int ts vs typed
    (λ v ws has more. as_int (λ x. IntsAbove (suc count) (x ∷ ws) rest) v has (λ n. ints_above count ws ts rest more below))
ints_above (suc count) vs ts rest typed below = absurd cc

-- ---- References

abbrev pub IsNoInt : ValueType → Type 0
IsNoInt type.Int = ⊥
IsNoInt _ = Unit {0}

pub refers : (v : JavaValue) (t : ValueType) → IsNoInt t → HasType v t → is_reference v ≡ true
refers (java.Int n) type.Int other has = absurd other
refers (java.Int n) t other has = absurd has
refers v t other has = refl

-- ---- Constructed objects

of_object : (b : Bool) (j k : ℕ) → j ≡ k → HasType (java.Object j) (if b then type.Thread k else type.Fresh k)
of_object true j k same = same
of_object false j k same = same

of_target : (b : Bool) (j k : ℕ) → j ≡ k → HasType (java.Target j) (if b then type.Target k else type.FreshTarget k)
of_target true j k same = same
of_target false j k same = same

pub still_typed : (o : Object) (v : JavaValue) (t : ValueType) → HasType v t → HasType v (constructed o t)
still_typed o (java.Object j) (type.Fresh k) has = of_object (same_object o (object.Thread k)) j k has
still_typed o (java.Target j) (type.FreshTarget k) has = of_target (same_object o (object.Target k)) j k has
still_typed o v (type.Fresh k) has = absurd has
still_typed o v (type.FreshTarget k) has = absurd has
still_typed o v type.Int has = has
still_typed o v type.Out has = has
still_typed o v type.Args has = has
still_typed o v type.This has = has
still_typed o v (type.Lock m) has = has
still_typed o v (type.Thread k) has = has
still_typed o v (type.Target k) has = has

pub all_still_typed : (o : Object) (vs : List JavaValue) (ts : List ValueType) → AreTyped vs ts → AreTyped vs (map (constructed o) ts)
all_still_typed o [] [] typed = tt
all_still_typed o (v ∷ vs) (t ∷ ts) typed = (still_typed o v t typed.0, all_still_typed o vs ts typed.1)
all_still_typed o [] (t ∷ ts) typed = typed
all_still_typed o (v ∷ vs) [] typed = typed

-- ---- Locals

-- what a local holds has the type that is known of it, and an empty one has none
abbrev pub LocalFits : Option (Option JavaValue) → Option ValueType → Type 0
LocalFits None None = Unit {0}
LocalFits (Some None) None = Unit {0}
LocalFits (Some (Some v)) (Some t) = HasType v t
LocalFits _ _ = ⊥

pub local_still_fits : (o : Object) (l : Option (Option JavaValue)) (t : Option ValueType) → LocalFits l t → LocalFits l (option_map (constructed o) t)
local_still_fits o None None fits = tt
local_still_fits o (Some None) None fits = tt
local_still_fits o (Some (Some v)) (Some t) fits = still_typed o v t fits
local_still_fits o None (Some t) fits = fits
local_still_fits o (Some None) (Some t) fits = fits
local_still_fits o (Some (Some v)) None fits = fits

set_at : {X : Type 0} (xs : List X) (k : ℕ) (x : X) → k < length xs → slice_get (slice_set xs k x) k ≡ Some x
set_at [] k x within = absurd (omega arith)
set_at (y ∷ xs) zero x within = refl
set_at (y ∷ xs) (suc k) x within = set_at xs k x (omega arith)

set_other : {X : Type 0} (xs : List X) (k : ℕ) (x : X) (n : ℕ) → (k ≡ n → ⊥) → slice_get (slice_set xs k x) n ≡ slice_get xs n
set_other [] k x n apart = refl
set_other (y ∷ xs) zero x zero apart = absurd (apart refl)
set_other (y ∷ xs) zero x (suc n) apart = refl
set_other (y ∷ xs) (suc k) x zero apart = refl
set_other (y ∷ xs) (suc k) x (suc n) apart = set_other xs k x n (λ same. apart (ap suc same))

set_get : {X : Type 0} (xs : List X) (k : ℕ) (x : X) (n : ℕ) → k < length xs → slice_get (slice_set xs k x) n ≡ (if nat_eq k n then Some x else slice_get xs n)
set_get {X} xs k x n within = pick (nat_eq k n) refl
  where
    pick : (b : Bool) → nat_eq k n ≡ b → slice_get (slice_set xs k x) n ≡ (if nat_eq k n then Some x else slice_get xs n)
    pick true is = ap (slice_get (slice_set xs k x)) (sym (eqb-true k n is)) ∙ set_at xs k x within ∙ ap (λ (b : Bool). if b then Some x else slice_get xs n) (sym is)
    pick false is = set_other xs k x n (λ same. false≢true (sym is ∙ eq-eqb k n same)) ∙ ap (λ (b : Bool). if b then Some x else slice_get xs n) (sym is)

either_fits : (b : Bool) (v : JavaValue) (t : ValueType) (l : Option (Option JavaValue)) (u : Option ValueType) → HasType v t → LocalFits l u →
    LocalFits (if b then Some (Some v) else l) (if b then Some t else u)
either_fits true v t l u has fits = has
either_fits false v t l u has fits = fits

pub stored_fits : (ls : List (Option JavaValue)) (types : ℕ → Option ValueType) (slot : ℕ) (v : JavaValue) (t : ValueType) → slot < length ls → HasType v t →
    ((n : ℕ) → LocalFits (slice_get ls n) (types n)) → (n : ℕ) → LocalFits (slice_get (slice_set ls slot (Some v)) n) (with_value types slot (Some t) n)
stored_fits ls types slot v t within has fits n =
    subst (λ (l : Option (Option JavaValue)). LocalFits l (with_value types slot (Some t) n)) (sym (set_get ls slot (Some v) n within))
    (either_fits (nat_eq slot n) v t (slice_get ls n) (types n) has (fits n))

-- ---- Locals at the entry

pub empty_fits : (count slot : ℕ) → LocalFits (slice_get (replicate count None) slot) None
empty_fits zero slot = tt
empty_fits (suc count) zero = tt
empty_fits (suc count) (suc slot) = empty_fits count slot

-- each value is an int
abbrev pub AreInts : List JavaValue → Type 0
AreInts [] = Unit {0}
AreInts (java.Int n ∷ vs) = AreInts vs
AreInts (v ∷ vs) = ⊥

pub ints_fit : (vs : List JavaValue) (empty slot : ℕ) → AreInts vs → LocalFits (slice_get (map Some vs ++ replicate empty None) slot) (slice_get (replicate (length vs) type.Int) slot)
ints_fit [] empty slot ints = empty_fits empty slot
ints_fit (java.Int n ∷ vs) empty zero ints = tt
ints_fit (java.Int n ∷ vs) empty (suc slot) ints = ints_fit vs empty slot ints
ints_fit (v ∷ vs) empty slot ints = absurd ints

pub one_fits : (v : JavaValue) (t : ValueType) (empty slot : ℕ) → HasType v t → LocalFits (slice_get (map Some (v ∷ []) ++ replicate empty None) slot) (slice_get (t ∷ []) slot)
one_fits v t empty zero has = has
one_fits v t empty (suc slot) has = empty_fits empty slot
