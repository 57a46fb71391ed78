-- Lists of one element.
use Rattle.std.proofs.Common.{◌≡◌, true, eqb, ◌&&◌, zero, suc, List, [], ◌∷◌, Some, Contains, length, slice_get, arith, ap}
use Rattle.std.proofs.lemmas.Bool.Decides.{nat_tests}
use Rattle.program.specs.declared.method.Method.{Method}
use Rattle.program.specs.declared.method.MethodId.{MethodId}

pub one_thread : (threads : List MethodId) (id : MethodId) → length threads ≡ 1 → slice_get threads 0 ≡ Some id → threads ≡ id ∷ []
one_thread [] id one first = cc
one_thread (t ∷ []) id one first = cc
one_thread (t ∷ u ∷ threads) id one first = absurd (omega arith)

pub one_method : (methods : List Method) (main : Method) → length methods ≡ 1 → Contains methods main → methods ≡ main ∷ []
one_method [] main one among = cc
one_method (m ∷ []) main one (zero, within, is) = ap (λ x. x ∷ []) is
one_method (m ∷ []) main one (suc k, within, is) = absurd (omega (arith, within))
one_method (m ∷ n ∷ methods) main one among = absurd (omega arith)

pub same_id : (a b : MethodId) → true ≡ (eqb a.class b.class && eqb a.method b.method) → a ≡ b
same_id a b same = grind (arith, nat_tests)
