-- Handles in use.
use Rattle.std.proofs.Common.{◌≡◌, ◌+◌, ◌<◌, ◌≤◌, ℕ, true, false, List, [], ◌∷◌, None, Option, Some, refl, ap, arith, length}
use Rattle.std.specs.Prelude.{All, IsSome, slice_set}
use Rattle.std.proofs.lemmas.List.{length-set}
use Rattle.std.proofs.lemmas.List.Elements.{All-head, All-tail}
use Rattle.std.proofs.lemmas.List.Sums.{sum_by-cons, sum_by-set}
use Rattle.clause_pool.specs.PoolValue.{PoolValue, IsFree, clause_at}
use Rattle.logged_search.specs.Used.{in_use, one_if_used}

one-of : (o : Option (List ℕ)) → IsSome o → one_if_used o ≡ 1
one-of None is = absurd (let no : false ≡ true = is in cc)
one-of (Some literals) is = refl

pub all-used : (clauses : List (Option (List ℕ))) → All IsSome clauses → in_use clauses ≡ length clauses
all-used [] all = refl
all-used (x ∷ xs) all =
    let here = one-of x (All-head IsSome x xs all) in
    let later = all-used xs (All-tail IsSome x xs all) in
    let sum = sum_by-cons one_if_used x xs in
    omega (arith, here, later, sum)

pub used-put : (clauses : List (Option (List ℕ))) (clause : ℕ) (literals : List ℕ) → clause < length clauses → clause_at clauses clause ≡ None → in_use (slice_set clauses clause (Some literals)) ≡ in_use clauses + 1
used-put clauses clause literals within is =
    let sum = sum_by-set one_if_used clauses clause (Some literals) None within in
    let old : one_if_used (clause_at clauses clause) ≡ 0 = ap one_if_used is in
    omega (arith, sum, old)

few-used : (clauses : List (Option (List ℕ))) → in_use clauses ≤ length clauses
few-used [] = omega arith
few-used (None ∷ xs) = let sum = sum_by-cons one_if_used None xs in omega (arith, sum, few-used xs)
few-used (Some x ∷ xs) = let sum = sum_by-cons one_if_used (Some x) xs in omega (arith, sum, few-used xs)

pub used-free : (pool : PoolValue) (clause : ℕ) → IsFree pool clause → in_use pool.clauses < length pool.clauses
used-free pool clause is_free =
    let more = used-put pool.clauses clause [] is_free.0 is_free.1 in
    let few = few-used (slice_set pool.clauses clause (Some [])) in
    let size = length-set pool.clauses clause (Some []) in
    omega (arith, more, few, size)
