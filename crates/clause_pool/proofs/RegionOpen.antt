-- A region with no clause, and a region with no free handle.
use Rattle.std.proofs.Common.{◌≡◌, ℕ, zero, suc, ◌+◌, ◌^◌, ◌<◌, inl, inr, List, [], ◌∷◌, ◌++◌, Option, Some, None, IsSome, length, replicate, map, sum_by, refl, sym, ◌∙◌, ap, subst, arith, rules}
use Rattle.std.specs.List.{All}
use Rattle.std.proofs.lemmas.Bool.{cases_eq}
use Rattle.std.proofs.lemmas.List.{get_or_append_left, get_or_push, length_push, get_or-map, length-map}
use Rattle.clause_pool.specs.Blocks.{Block, IsRegion, IsFreeList, IsFreeChain, entry_at, entry_words, block_of, IsTaken, IsFreeEntry}
use Rattle.clause_pool.specs.PoolValue.{IsIn}
use Rattle.clause_pool.specs.declared.region.Entry.{Entry}
use Rattle.clause_pool.specs.declared.region.Entry.TheVariants.{Free, Taken}
use Rattle.clause_pool.proofs.Regions.{not_both}

abbrev pub AllFree : List Entry → Type 0
AllFree es = (k : ℕ) → IsFreeEntry (entry_at es k)

pub AllFree-nil : AllFree []
AllFree-nil k = tt

pub AllFree-push : (es : List Entry) (free : Option ℕ) → AllFree es → AllFree (es ++ Free free ∷ [])
AllFree-push [] free h zero = tt
AllFree-push [] free h (suc k) = tt
AllFree-push (e ∷ es) free h zero = h 0
AllFree-push (e ∷ es) free h (suc k) = AllFree-push es free (λ i. h (suc i)) k

pub IsFreeList-nil : IsFreeList [] None
IsFreeList-nil = record { handles = []; chain = refl; distinct = tt; all_free = λ k next l b. absurd (omega arith) }

IsFreeChain-push : (es : List Entry) (e : Entry) (link : Option ℕ) (hs : List ℕ) → IsFreeChain es link hs → IsFreeChain (es ++ e ∷ []) link hs
IsFreeChain-push es e link [] f = f
IsFreeChain-push es e link (h ∷ hs) f =
    (f.0, omega (arith, f.1, length_push es e), (f.2.0, get_or_append_left es (e ∷ []) (Free None) h f.1 ∙ f.2.1, IsFreeChain-push es e f.2.0 hs f.2.2))

IsIn-in_range : (es : List Entry) (link : Option ℕ) (hs : List ℕ) (k : ℕ) → IsFreeChain es link hs → IsIn k hs → k < length es
IsIn-in_range es link [] k f i = absurd i
IsIn-in_range es link (h ∷ hs) k f i =
    elim i [ inl is ↦ subst (λ x. x < length es) (sym is) f.1 | inr r ↦ IsIn-in_range es f.2.0 hs k f.2.2 r ]

pub IsFreeList-push : (es : List Entry) (free : Option ℕ) → IsFreeList es free → IsFreeList (es ++ Free free ∷ []) (Some (length es))
IsFreeList-push es free f =
    let fs = es ++ Free free ∷ [] in
    let len : length fs ≡ length es + 1 = length_push es (Free free) in
    record {
      handles = length es ∷ f.handles;
      chain = (refl, omega arith, (free, get_or_push es (Free free) (Free None) (length es) refl, IsFreeChain-push es (Free free) free f.handles f.chain));
      distinct = (λ i. omega (arith, IsIn-in_range es free f.handles (length es) f.chain i), f.distinct);
      all_free = λ k next l b. elim (cases_eq k (length es)) [
        | inl is ↦ inl is
        | inr ne ↦
            (let lt : k < length es = omega arith in
            inr (f.all_free k next lt (sym (get_or_append_left es (Free free ∷ []) (Free None) k lt) ∙ b)))
      ];
    }

sum-free : (es : List Entry) → AllFree es → sum_by entry_words es ≡ 0
sum-free [] h = refl
sum-free (Free next ∷ es) h = omega (arith, sum-free es (λ k. h (suc k)))
sum-free (Taken q n ∷ es) h = absurd (h 0)

pub blocks-free : (ws : List ℕ) (es : List Entry) → AllFree es → map (block_of ws) es ≡ replicate (length es) None
blocks-free ws [] h = refl
blocks-free ws (Free next ∷ es) h = ap (λ bs. None ∷ bs) (blocks-free ws es (λ k. h (suc k)))
blocks-free ws (Taken q n ∷ es) h = absurd (h 0)

pub IsRegion-open : (ws : List ℕ) (es : List Entry) (free : Option ℕ) → AllFree es → IsFreeList es free → length ws < 2 ^ 32 → length es < 2 ^ 32 → IsRegion ws es 0 free
IsRegion-open ws es free all f words handles = record {
  tiled = record {
    pieces = [];
    tiles = refl;
    all_live = λ k q n b. not_both (entry_at es k) (all k) (subst IsTaken (sym b) tt);
    total = sum-free es all;
  };
  free_list = f;
  within = omega arith;
  words_fit = words;
  handles_fit = handles;
}

none_in_chain : (es : List Entry) (hs : List ℕ) (k : ℕ) → IsFreeChain es None hs → IsIn k hs → ⊥
none_in_chain es [] k f i = i
none_in_chain es (h ∷ hs) k f i = (let e : None ≡ Some h = f.0 in cc)

some_block : (ws : List ℕ) (e : Entry) → ((next : Option ℕ) → e ≡ Free next → ⊥) → IsSome (block_of ws e)
some_block ws (Free next) h = absurd (h next refl)
some_block ws (Taken q n) h = search rules

pub all_in_use : (ws : List ℕ) (es : List Entry) → IsFreeList es None → All (IsSome {T = Block}) (map (block_of ws) es)
all_in_use ws es f k d lt =
    let l : k < length es = omega (arith, length-map es (block_of ws)) in
    subst (IsSome {T = Block}) (sym (get_or-map (block_of ws) es k (Free None) d l))
    (some_block ws (entry_at es k) (λ next b. none_in_chain es f.handles k f.chain (f.all_free k next l b)))
