-- Which handles are in use after `put`.
use Rattle.std.proofs.Common.{◌≡◌, ℕ, ◌≢◌, List, Some, None, IsSome, Result, Ok, Err, IfOk, OnErr, length, get_or, sym, ◌∙◌, ap, subst}
use Rattle.std.proofs.lemmas.List.{length-map}
use Rattle.clause_pool.specs.PoolValue.{PoolValue, IsFree, IsWatched, IsWatching, clause_at, literals_at, without, without_in, put_clause, forget_clause, swap_watched}
use Rattle.clause_pool.specs.declared.Full.{Full}
use Rattle.clause_pool.proofs.Sound.{clause_at-set_same, clause_at-set_other, none_literals, length-with_watches, length-with_first}
use Rattle.clause_pool.proofs.Swapped.{length-without_in}
use Rattle.clause_pool.proofs.PoolLinks.{is_some_clause, found_at}

-- the new handle is in use
pub put_in_use : (v w : PoolValue) (c : ℕ) (ls : List ℕ) → IsFree v c → w ≡ put_clause v c ls → IsSome (clause_at w.clauses c)
put_in_use v w c ls free is =
    is_some_clause w.clauses c ls (ap (λ x. clause_at x.clauses c) is ∙ clause_at-set_same v.clauses c (Some ls) free.0)

-- and each handle that was
pub in_use_kept : (v w : PoolValue) (c k : ℕ) (ls : List ℕ) → IsFree v c → w ≡ put_clause v c ls → IsSome (clause_at v.clauses k) → IsSome (clause_at w.clauses k)
in_use_kept v w c k ls free is s =
    let found = found_at v.clauses k s in
    let ne : k ≢ c = λ e. none_literals _ (sym free.1 ∙ ap (clause_at v.clauses) (sym e) ∙ found) in
    is_some_clause w.clauses k _ (ap (λ x. clause_at x.clauses k) is ∙ clause_at-set_other v.clauses c k (Some ls) ne ∙ found)

pub in_use_after : (v w : PoolValue) (k : ℕ) (ls : List ℕ) (r : Result ℕ Full) → IfOk r (IsFree v) → IfOk r (λ c. w ≡ put_clause v c ls) → OnErr r (w ≡ v) → IsSome (clause_at v.clauses k) → IsSome (clause_at w.clauses k)
in_use_after v w k ls (Ok c) free is kept s = in_use_kept v w c k ls free is s
in_use_after v w k ls (Err e) free is kept s = subst (λ x. IsSome (clause_at x.clauses k)) (sym kept) s

-- the new handle is watched at its first two literals
pub put_watching : (v w : PoolValue) (c l : ℕ) (ls : List ℕ) → IsFree v c → w ≡ put_clause v c ls → IsWatched ls l → IsWatching w.clauses l c
put_watching v w c l ls free is watched = record {
  literals = ls;
  found = ap (λ x. clause_at x.clauses c) is ∙ clause_at-set_same v.clauses c (Some ls) free.0;
  watched = watched;
}

-- no call makes or takes away a list
pub length-put : (v w : PoolValue) (c : ℕ) (ls : List ℕ) → w ≡ put_clause v c ls → length w.watches ≡ length v.watches
length-put v w c ls is = ap (λ x. length x.watches) is ∙ length-with_watches v.watches c ls

pub length-forget : (v w : PoolValue) (c : ℕ) → w ≡ forget_clause v c → length w.watches ≡ length v.watches
length-forget v w c is = ap (λ x. length x.watches) is ∙ length-map v.watches (without c)

pub length-swap_watched : (v w : PoolValue) (c l at : ℕ) → w ≡ swap_watched v c l at → length w.watches ≡ length v.watches
length-swap_watched v w c l at is =
    ap (λ x. length x.watches) is
    ∙ length-with_first (without_in v.watches l c) (get_or (literals_at v.clauses c) at 0) c
    ∙ length-without_in v.watches l c
