-- The typed methods so far.
use Rattle.std.proofs.Common.{◌≡◌, ◌≢◌, ◌<◌, ◌+◌, ◌++◌, ◌⊎◌, ℕ, zero, suc, List, [], ◌∷◌, Some, Contains, length, get_or, take, slice_get, refl, sym, ap, ◌∙◌, subst, arith, inl, inr, length-append}
use Rattle.std.proofs.lemmas.List.{take_more}
use Rattle.std.proofs.lemmas.Option.{none-some, slice_get_within, slice_get_read, get_or_from_slice_get}
use Rattle.program.proofs.Lists.{pushed, there_is}
use Rattle.program.specs.declared.method.Method.{Method}
use Rattle.program.specs.declared.method.MethodId.{MethodId}
use Rattle.reached_methods.specs.Reached.{IsBefore}
use Rattle.typing.specs.declared.untyped.UntypedMethod.{UntypedMethod}
use Rattle.untyped_program.specs.Limits.{AreByPlace}
use Rattle.linking.specs.Linking.{AreTypedMethods, IsTypedMethod}
use Rattle.linking.specs.Phases.{IsFirstRefusalOf, IsRefusalOf}
use Rattle.linking.specs.Refusals.{IsSound}
use Rattle.linking.specs.declared.refusal.ProgramRefusal.{ProgramRefusal}
use Rattle.linking.specs.declared.refusal.ProgramRefusal.TheVariants.{Class, Code, Typing, Limit, Memory}

-- ---- Lists

-- an element of a list's first ones
taken : {X : Type 0} (xs : List X) (i k : ℕ) (a : X) → slice_get (take i xs) k ≡ Some a → (k < i) × (slice_get xs k ≡ Some a)
taken [] zero k a there = absurd (none-some a there)
taken [] (suc i) k a there = absurd (none-some a there)
taken (x ∷ xs) zero k a there = absurd (none-some a there)
taken (x ∷ xs) (suc i) zero a there = (omega arith, there)
taken (x ∷ xs) (suc i) (suc k) a there = let rest = taken xs i k a there in let below = rest.0 in (omega (arith, below), rest.1)

among : {X : Type 0} (xs : List X) (i k : ℕ) (a : X) → k < i → slice_get xs k ≡ Some a → slice_get (take i xs) k ≡ Some a
among [] i k a below there = absurd (none-some a there)
among (x ∷ xs) zero k a below there = absurd (omega (arith, below))
among (x ∷ xs) (suc i) zero a below there = there
among (x ∷ xs) (suc i) (suc k) a below there = among xs i k a (omega (arith, below)) there

-- ---- One more method

more : (us : List UntypedMethod) (ms : List Method) (u : UntypedMethod) (m : Method) → AreTypedMethods us ms → IsTypedMethod u m →
    AreTypedMethods (us ++ u ∷ []) (ms ++ m ∷ [])
more us ms u m are is = record {
  same_length = let same = are.same_length in omega (arith, same, length-append us (u ∷ []), length-append ms (m ∷ []));
  each = λ k a b a_there b_there. place k a b (pushed us u a k a_there) (pushed ms m b k b_there);
}
  where
    place : (k : ℕ) (a : UntypedMethod) (b : Method) → (slice_get us k ≡ Some a) ⊎ ((k ≡ length us) × (u ≡ a)) →
        (slice_get ms k ≡ Some b) ⊎ ((k ≡ length ms) × (m ≡ b)) → IsTypedMethod a b
    place k a b (inl x) (inl y) = are.each k a b x y
    place k a b (inl x) (inr y) = let within = slice_get_within us k a x in let same = are.same_length in let last = y.0 in absurd (omega arith)
    place k a b (inr x) (inl y) = let within = slice_get_within ms k b y in let same = are.same_length in let last = x.0 in absurd (omega arith)
    place k a b (inr x) (inr y) = subst (λ (z : UntypedMethod). IsTypedMethod z b) x.1 (subst (IsTypedMethod u) y.1 is)

module _ (us : List UntypedMethod) (i : ℕ) (ms : List Method) (u : UntypedMethod) (within : i < length us) (at : u ≡ get_or us i u) (are : AreTypedMethods (take i us) ms) where
  pub one_more : (m : Method) → IsTypedMethod u m → AreTypedMethods (take (i + 1) us) (ms ++ m ∷ [])
  one_more m is =
      subst (λ (vs : List UntypedMethod). AreTypedMethods vs (ms ++ m ∷ []))
      (ap (λ (x : UntypedMethod). take i us ++ x ∷ []) at ∙ sym (take_more us i u within)) (more (take i us) ms u m are is)

  -- ---- No two methods have one name

  apart : (a b : MethodId) → IsBefore a b → a ≢ b
  apart a b (inl earlier) same = let e : a.class ≡ b.class = ap (λ (x : MethodId). x.class) same in omega (arith, earlier, e)
  apart a b (inr earlier) same = let e : a.method ≡ b.method = ap (λ (x : MethodId). x.method) same in let below = earlier.1 in omega (arith, below, e)

  earlier_one : AreByPlace us → (m : Method) → IsTypedMethod u m → (k : ℕ) (v : UntypedMethod) (other : Method) → slice_get (take i us) k ≡ Some v →
      slice_get ms k ≡ Some other → other.id ≢ m.id
  earlier_one by_place m is k v other v_there there same =
      let early = taken us i k v v_there in
      let before : IsBefore v.id u.id =
      subst (λ (x : UntypedMethod). IsBefore x.id u.id) (get_or_from_slice_get us k v u early.1)
      (subst (λ (x : UntypedMethod). IsBefore (get_or us k u).id x.id) (sym at) (by_place k i u early.0 within)) in
      apart v.id u.id before (sym (are.each k v other v_there there).id ∙ same ∙ is.id)

  pub is_new : AreByPlace us → (m : Method) → IsTypedMethod u m → (other : Method) → Contains ms other → other.id ≢ m.id
  is_new by_place m is other (k, inside, there) same =
      let size = are.same_length in
      let v = there_is (take i us) k (omega (arith, inside, size)) in
      earlier_one by_place m is k v.0 other v.1 (slice_get_read ms (length ms) k other refl inside (sym there)) same

  -- ---- The first that has no types

  sound : (k : ℕ) (v : UntypedMethod) → k < i → slice_get us k ≡ Some v → IsSound v
  sound k v below there =
      let early = among us i k v below there in
      let inside = slice_get_within (take i us) k v early in
      let size = are.same_length in
      let m = there_is ms k (omega (arith, inside, size)) in
      (are.each k v m.0 early m.1).typing.sound

  pub first_refusal : (refusal : ProgramRefusal) → IsRefusalOf u refusal → IsFirstRefusalOf us refusal
  first_refusal (Typing kind id pc) is = record {
    place = i;
    method = u;
    there = slice_get_read us (length us) i u refl within at;
    named = is.0;
    refusal = is.1;
    before = sound;
  }
  first_refusal Memory is = tt
  first_refusal (Class kind class) is = absurd is
  first_refusal (Code kind id pc detail) is = absurd is
  first_refusal (Limit kind) is = absurd is
