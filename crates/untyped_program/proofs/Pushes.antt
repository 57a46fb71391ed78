-- One more element at the end of two lists that go together.
use Rattle.std.proofs.Common.{◌≡◌, ◌<◌, ◌+◌, ◌++◌, ◌⊎◌, ℕ, List, [], ◌∷◌, Some, length, get_or, take, slice_get, sym, ap, ◌∙◌, subst, arith, inl, inr, length-append}
use Rattle.std.proofs.lemmas.List.{take_more}
use Rattle.std.proofs.lemmas.Option.{slice_get_within}
use Rattle.program.proofs.Lists.{pushed}
use Rattle.class_format.specs.declared.record.ClassRecord.{ClassRecord}
use Rattle.program.specs.declared.method.MethodId.{MethodId}
use Rattle.reached_methods.specs.declared.method.ReachedMethod.{ReachedMethod}
use Rattle.typing.specs.declared.untyped.UntypedMethod.{UntypedMethod}
use Rattle.untyped_program.specs.Methods.{IsUntypedMethod}
use Rattle.untyped_program.specs.Untyped.{AreUntyped}

module _ (classes : List ClassRecord) (main : MethodId) (number : ℕ → ℕ → ℕ) (monitors : List (List ℕ)) where
  more : (methods : List ReachedMethod) (untyped : List UntypedMethod) (m : ReachedMethod) (u : UntypedMethod) → AreUntyped classes main number monitors methods untyped →
      IsUntypedMethod classes main number monitors m u → AreUntyped classes main number monitors (methods ++ m ∷ []) (untyped ++ u ∷ [])
  more methods untyped m u are is = record {
    same_length = let same = are.same_length in omega (arith, same, length-append untyped (u ∷ []), length-append methods (m ∷ []));
    each = λ k a b a_there b_there. place k a b a_there b_there (pushed methods m a k a_there) (pushed untyped u b k b_there);
  }
    where
      place : (k : ℕ) (a : ReachedMethod) (b : UntypedMethod) → slice_get (methods ++ m ∷ []) k ≡ Some a → slice_get (untyped ++ u ∷ []) k ≡ Some b →
          (slice_get methods k ≡ Some a) ⊎ ((k ≡ length methods) × (m ≡ a)) → (slice_get untyped k ≡ Some b) ⊎ ((k ≡ length untyped) × (u ≡ b)) →
          IsUntypedMethod classes main number monitors a b
      place k a b a_there b_there (inl x) (inl y) = are.each k a b x y
      place k a b a_there b_there (inl x) (inr y) = let within = slice_get_within methods k a x in let same = are.same_length in let last = y.0 in absurd (omega arith)
      place k a b a_there b_there (inr x) (inl y) = let within = slice_get_within untyped k b y in let same = are.same_length in let last = x.0 in absurd (omega arith)
      place k a b a_there b_there (inr x) (inr y) =
          subst (λ (z : ReachedMethod). IsUntypedMethod classes main number monitors z b) x.1 (subst (IsUntypedMethod classes main number monitors m) y.1 is)

  pub one_more : (methods : List ReachedMethod) (i : ℕ) (untyped : List UntypedMethod) (m : ReachedMethod) (u : UntypedMethod) → i < length methods → m ≡ get_or methods i m →
      AreUntyped classes main number monitors (take i methods) untyped → IsUntypedMethod classes main number monitors m u →
      AreUntyped classes main number monitors (take (i + 1) methods) (untyped ++ u ∷ [])
  one_more methods i untyped m u within at are is =
      subst (λ (ms : List ReachedMethod). AreUntyped classes main number monitors ms (untyped ++ u ∷ []))
      (ap (λ (x : ReachedMethod). take i methods ++ x ∷ []) at ∙ sym (take_more methods i m within)) (more (take i methods) untyped m u are is)

  pub re_numbered : (other : ℕ → ℕ → ℕ) (methods : List ReachedMethod) (untyped : List UntypedMethod) →
      ((m : ReachedMethod) (u : UntypedMethod) (k : ℕ) → slice_get methods k ≡ Some m → IsUntypedMethod classes main number monitors m u → IsUntypedMethod classes main other monitors m u) →
      AreUntyped classes main number monitors methods untyped → AreUntyped classes main other monitors methods untyped
  re_numbered other methods untyped change are = record {
    same_length = are.same_length;
    each = λ k m u m_there u_there. change m u k m_there (are.each k m u m_there u_there);
  }
