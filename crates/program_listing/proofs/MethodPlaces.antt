-- The methods of a program in its order, found by their ids.
use Rattle.std.proofs.Common.{◌≡◌, ◌≢◌, ◌<◌, ◌∙◌, ap, sym, ℕ, List, length, map, get_or, arith, inl, inr, AllPairs, Contains}
use Rattle.std.proofs.lemmas.Bool.{cases_order}
use Rattle.std.proofs.lemmas.List.{get_or-map, length-map}
use Rattle.program.specs.Program.{Prog, IsMethod}
use Rattle.program.specs.declared.method.Method.{Method}
use Rattle.program.specs.declared.method.MethodId.{MethodId}

-- two methods of one id stand at one place
same-place : (methods : List Method) (k i : ℕ) (m : Method) → AllPairs (λ a b. a.id ≢ b.id) methods → k < length methods
    → i < length methods → (get_or methods k m).id ≡ (get_or methods i m).id → k ≡ i
same-place methods k i m distinct within_k within_i same = elim (cases_order k i) [
  | inl is ↦ is
  | inr other ↦ elim other [
    | inl before ↦ absurd (distinct k i m before within_i same)
    | inr behind ↦ absurd (distinct i k m behind within_k (sym same))
  ]
]

-- the method that is found by the id at a place stands at that place
pub method-at : (p : Prog) (ids : List MethodId) (i : ℕ) (d : MethodId) (m : Method) → AllPairs (λ a b. a.id ≢ b.id) p.methods
    → ids ≡ map (λ n. n.id) p.methods → i < length ids → IsMethod p (get_or ids i d) m → m ≡ get_or p.methods i m
method-at p ids i d m distinct same within found = go found.reached
  where
    go : Contains p.methods m → m ≡ get_or p.methods i m
    go (k, within_k, at) =
        let within_i : i < length p.methods = omega (arith, within, ap length same, length-map p.methods (λ (n : Method). n.id)) in
        let named : (get_or p.methods i m).id ≡ get_or ids i d =
        sym (get_or-map (λ (n : Method). n.id) p.methods i m d within_i) ∙ ap (λ (l : List MethodId). get_or l i d) (sym same)
        in
        let alike : (get_or p.methods k m).id ≡ (get_or p.methods i m).id = ap (λ (n : Method). n.id) at ∙ found.named ∙ sym named in
        let place : k ≡ i = same-place p.methods k i m distinct within_k within_i alike in
        sym at ∙ ap (λ (n : ℕ). get_or p.methods n m) place
