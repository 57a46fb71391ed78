-- What a change of one link leaves.
use Rattle.std.proofs.Common.{◌≡◌, ℕ, zero, suc, ◌<◌, ◌≢◌, ◌⊎◌, inl, inr, List, [], ◌∷◌, eqb, Option, Some, None, IsSome, cond, length, get_or, set, refl, sym, ◌∙◌, ap, arith, rules}
use Rattle.std.proofs.Math.Seq.{map-set_same}
use Rattle.std.proofs.lemmas.Bool.{cases_eq}
use Rattle.std.proofs.lemmas.Bool.Decides.{eqb_tells}
use Rattle.std.proofs.lemmas.List.{get_or-set_same, get_or-set_other, length-set, length-map}
use Rattle.clause_pool.specs.Blocks.{Block, block_in, next_at, with_next, replaced}
use Rattle.clause_pool.specs.PoolValue.{IsWatching, clause_at, literals_at}
use Rattle.clause_pool.specs.WatchLists.{clause_in, clauses_of, side_in, side_of, next_on, next_of, no_previous, before_at, before_on, before_of, with_before, heads_after, SetsAfter, SetsBefore}
use Rattle.clause_pool.specs.declared.lists.Previous.{Previous}
use Rattle.clause_pool.specs.declared.lists.WatchLists.{WatchLists}
use Rattle.clause_pool.specs.declared.region.Side.{Side}
use Rattle.clause_pool.specs.declared.region.Side.TheVariants.{First, Second}

pub clause_at-clauses_of : (blocks : List (Option Block)) (k : ℕ) → clause_at (clauses_of blocks) k ≡ clause_in (block_in blocks k)
clause_at-clauses_of [] k = refl
clause_at-clauses_of (b ∷ bs) zero = refl
clause_at-clauses_of (b ∷ bs) (suc k) = clause_at-clauses_of bs k

pub clause_in_range : (clauses : List (Option (List ℕ))) (k : ℕ) (literals : List ℕ) → clause_at clauses k ≡ Some literals → k < length clauses
clause_in_range [] k literals e = absurd (none_some literals e)
  where
    none_some : (ls : List ℕ) → None ≡ Some ls → ⊥
    none_some ls e = cc
clause_in_range (c ∷ cs) zero literals e = omega arith
clause_in_range (c ∷ cs) (suc k) literals e = omega (arith, clause_in_range cs k literals e)

is_block : (b : Option Block) (literals : List ℕ) → clause_in b ≡ Some literals → IsSome b
is_block None literals e = absurd (none_some literals e)
  where
    none_some : (ls : List ℕ) → None ≡ Some ls → ⊥
    none_some ls e = cc
is_block (Some b) literals e = search rules

pub in_use_from_clause : (blocks : List (Option Block)) (k : ℕ) (literals : List ℕ) → clause_at (clauses_of blocks) k ≡ Some literals → IsSome (block_in blocks k)
in_use_from_clause blocks k literals e = is_block (block_in blocks k) literals (sym (clause_at-clauses_of blocks k) ∙ e)

pub in_range_from_clause : (blocks : List (Option Block)) (k : ℕ) (literals : List ℕ) → clause_at (clauses_of blocks) k ≡ Some literals → k < length blocks
in_range_from_clause blocks k literals e = omega (arith, clause_in_range (clauses_of blocks) k literals e, length-map blocks clause_in)

clause_in-with_next : (side : Side) (link : Option ℕ) (b : Option Block) → clause_in (with_next side link b) ≡ clause_in b
clause_in-with_next First link None = refl
clause_in-with_next Second link None = refl
clause_in-with_next First link (Some b) = refl
clause_in-with_next Second link (Some b) = refl

next_at-with_next : (side : Side) (link : Option ℕ) (b : Option Block) → IsSome b → next_at side (with_next side link b) ≡ link
next_at-with_next side link None s = absurd (no_some s)
  where
    no_some : IsSome {T = Block} None → ⊥
    no_some s = search rules
next_at-with_next First link (Some b) s = refl
next_at-with_next Second link (Some b) s = refl

next_on-with_next : (other : Option Side) (side : Side) (link : Option ℕ) (b : Option Block) → other ≢ Some side → next_on other (with_next side link b) ≡ next_on other b
next_on-with_next None side link b ne = refl
next_on-with_next (Some First) First link b ne = absurd (ne refl)
next_on-with_next (Some First) Second link None ne = refl
next_on-with_next (Some First) Second link (Some b) ne = refl
next_on-with_next (Some Second) Second link b ne = absurd (ne refl)
next_on-with_next (Some Second) First link None ne = refl
next_on-with_next (Some Second) First link (Some b) ne = refl

abbrev literal_on : Side → List ℕ → ℕ
literal_on First literals = get_or literals 0 0
literal_on Second literals = get_or literals 1 0

-- the side of a literal has that literal
some_side : (x y : Side) → Some x ≡ Some y → x ≡ y
some_side x y e = cc

none_side : (x : Side) → None ≡ Some x → ⊥
none_side x e = cc

literal_on-side_in : (literals : List ℕ) (l : ℕ) (side : Side) → side_in literals l ≡ Some side → literal_on side literals ≡ l
literal_on-side_in literals l side e = elim (eqb_tells (get_or literals 0 0) l) [
  | inl first ↦
      ap (λ s. literal_on s literals) (some_side side First (sym e ∙ ap (λ b. cond b (Some First) (cond (eqb (get_or literals 1 0) l) (Some Second) None)) first.0)) ∙ first.1
  | inr other ↦
      (let rest : side_in literals l ≡ cond (eqb (get_or literals 1 0) l) (Some Second) None = ap (λ b. cond b (Some First) (cond (eqb (get_or literals 1 0) l) (Some Second) None)) other.0 in
      elim (eqb_tells (get_or literals 1 0) l) [
        | inl second ↦
            ap (λ s. literal_on s literals) (some_side side Second (sym e ∙ rest ∙ ap (λ b. cond b (Some Second) None) second.0)) ∙ second.1
        | inr none ↦ absurd (none_side side (sym (rest ∙ ap (λ b. cond b (Some Second) None) none.0) ∙ e))
      ])
]

-- two literals are not at one side
pub side_differs : (literals : List ℕ) (l m : ℕ) (side : Side) → side_in literals l ≡ Some side → m ≢ l → side_in literals m ≢ Some side
side_differs literals l m side e ne f = ne (sym (literal_on-side_in literals m side f) ∙ literal_on-side_in literals l side e)

pub clauses_of-set_next : (blocks : List (Option Block)) (h : ℕ) (side : Side) (link : Option ℕ) → clauses_of (set blocks h (with_next side link (block_in blocks h))) ≡ clauses_of blocks
clauses_of-set_next blocks h side link = map-set_same clause_in blocks h (with_next side link (block_in blocks h)) None (clause_in-with_next side link (block_in blocks h))

abbrev with_link : List (Option Block) → ℕ → Side → Option ℕ → List (Option Block)
with_link blocks h side link = set blocks h (with_next side link (block_in blocks h))

next_of-here : (blocks : List (Option Block)) (l h : ℕ) (side : Side) (link : Option ℕ) → IsWatching (clauses_of blocks) l h → side_of (clauses_of blocks) l h ≡ Some side → next_of (with_link blocks h side link) l h ≡ link
next_of-here blocks l h side link w e =
    ap (λ cs. next_on (side_of cs l h) (block_in (with_link blocks h side link) h)) (clauses_of-set_next blocks h side link)
    ∙ ap (λ s. next_on s (block_in (with_link blocks h side link) h)) e
    ∙ ap (next_at side) (get_or-set_same blocks h (with_next side link (block_in blocks h)) None (in_range_from_clause blocks h w.literals w.found))
    ∙ next_at-with_next side link (block_in blocks h) (in_use_from_clause blocks h w.literals w.found)

next_of-others : (blocks : List (Option Block)) (l h : ℕ) (side : Side) (link : Option ℕ) → IsWatching (clauses_of blocks) l h → side_of (clauses_of blocks) l h ≡ Some side → (m k : ℕ) → (m ≢ l) ⊎ (Some h ≢ Some k) → next_of (with_link blocks h side link) m k ≡ next_of blocks m k
next_of-others blocks l h side link w e m k apart =
    ap (λ cs. next_on (side_of cs m k) (block_in (with_link blocks h side link) k)) (clauses_of-set_next blocks h side link)
    ∙ elim (cases_eq k h) [
      | inl is ↦
          (let ne : m ≢ l = elim apart [ inl n ↦ n | inr n ↦ absurd (n (ap Some (sym is))) ] in
          let other : side_of (clauses_of blocks) m k ≢ Some side =
          λ f. side_differs (literals_at (clauses_of blocks) h) l m side e ne (ap (λ x. side_of (clauses_of blocks) m x) (sym is) ∙ f) in
          ap (λ x. next_on (side_of (clauses_of blocks) m k) (block_in (with_link blocks h side link) x)) is
          ∙ ap (next_on (side_of (clauses_of blocks) m k)) (get_or-set_same blocks h (with_next side link (block_in blocks h)) None (in_range_from_clause blocks h w.literals w.found))
          ∙ next_on-with_next (side_of (clauses_of blocks) m k) side link (block_in blocks h) other
          ∙ ap (λ x. next_on (side_of (clauses_of blocks) m k) (block_in blocks x)) (sym is))
      | inr ne ↦ ap (next_on (side_of (clauses_of blocks) m k)) (get_or-set_other blocks h k (with_next side link (block_in blocks h)) None ne)
    ]

some_number : (x y : ℕ) → Some x ≡ Some y → x ≡ y
some_number x y e = cc

none_number : (x : ℕ) → None ≡ Some x → ⊥
none_number x e = cc

pub SetsAfter-clause : (old new : WatchLists) (l h : ℕ) (side : Side) (before link : Option ℕ) → before ≡ Some h → IsWatching (clauses_of old.region.blocks) l h → side_of (clauses_of old.region.blocks) l h ≡ Some side → new.region ≡ replaced old.region h (with_next side link (block_in old.region.blocks h)) → new.heads.items ≡ old.heads.items → new.previous.items ≡ old.previous.items → SetsAfter old new l before link
SetsAfter-clause old new l h side before link is w e same heads previous =
    let blocks : new.region.blocks ≡ with_link old.region.blocks h side link = ap (λ r. r.blocks) same in
    record {
      links = record {
        here = λ k f. ap (λ bs. next_of bs l k) blocks
            ∙ ap (λ x. next_of (with_link old.region.blocks h side link) l x) (some_number k h (sym f ∙ is))
            ∙ next_of-here old.region.blocks l h side link w e;
        others = λ m k v apart. ap (λ bs. next_of bs m k) blocks
            ∙ next_of-others old.region.blocks l h side link w e m k (elim apart [ inl n ↦ inl n | inr n ↦ inr (λ f. n (is ∙ f)) ]);
      };
      keeps = record {
        clauses = ap clauses_of blocks ∙ clauses_of-set_next old.region.blocks h side link;
        used = ap (λ r. r.used) same;
        words = ap (λ r. r.words) same;
      };
      heads = heads ∙ ap (λ b. heads_after b old.heads.items l link) (sym is);
      previous = previous;
    }

pub SetsAfter-head : (old new : WatchLists) (l : ℕ) (before link : Option ℕ) → before ≡ None → new.region ≡ old.region → new.heads.items ≡ set old.heads.items l link → new.previous.items ≡ old.previous.items → SetsAfter old new l before link
SetsAfter-head old new l before link is same heads previous = record {
  links = record {
    here = λ k f. absurd (none_number k (sym is ∙ f));
    others = λ m k v apart. ap (λ r. next_of r.blocks m k) same;
  };
  keeps = record { clauses = ap (λ r. clauses_of r.blocks) same; used = ap (λ r. r.used) same; words = ap (λ r. r.words) same };
  heads = heads ∙ ap (λ b. heads_after b old.heads.items l link) (sym is);
  previous = previous;
}

before_at-with_before : (side : Side) (before : Option ℕ) (p : Previous) → before_at side (with_before side before p) ≡ before
before_at-with_before First before p = refl
before_at-with_before Second before p = refl

before_on-with_before : (other : Option Side) (side : Side) (before : Option ℕ) (p : Previous) → other ≢ Some side → before_on other (with_before side before p) ≡ before_on other p
before_on-with_before None side before p ne = refl
before_on-with_before (Some First) First before p ne = absurd (ne refl)
before_on-with_before (Some First) Second before p ne = refl
before_on-with_before (Some Second) Second before p ne = absurd (ne refl)
before_on-with_before (Some Second) First before p ne = refl

pub SetsBefore-clause : (old new : WatchLists) (l h : ℕ) (side : Side) (link before : Option ℕ) (p : Previous) → link ≡ Some h → h < length old.previous.items → side_of (clauses_of old.region.blocks) l h ≡ Some side → p ≡ get_or old.previous.items h no_previous → new.region ≡ old.region → new.heads.items ≡ old.heads.items → new.previous.items ≡ set old.previous.items h (with_before side before p) → SetsBefore old new l link before
SetsBefore-clause old new l h side link before p is lt e read region heads previous =
    let cs = clauses_of old.region.blocks in
    let here : get_or new.previous.items h no_previous ≡ with_before side before p =
    ap (λ ps. get_or ps h no_previous) previous ∙ get_or-set_same old.previous.items h (with_before side before p) no_previous lt in
    record {
      links = record {
        here = λ k f. ap (λ x. before_of cs new.previous.items l x) (some_number k h (sym f ∙ is))
            ∙ ap (λ s. before_on s (get_or new.previous.items h no_previous)) e
            ∙ ap (before_at side) here ∙ before_at-with_before side before p;
        others = λ m k v apart. elim (cases_eq k h) [
          | inl same ↦
              (let ne : m ≢ l = elim apart [ inl n ↦ n | inr n ↦ absurd (n (is ∙ ap Some (sym same))) ] in
              let other : side_of cs m k ≢ Some side = λ f. side_differs (literals_at cs h) l m side e ne (ap (λ x. side_of cs m x) (sym same) ∙ f) in
              ap (λ x. before_on (side_of cs m k) (get_or new.previous.items x no_previous)) same
              ∙ ap (before_on (side_of cs m k)) here
              ∙ before_on-with_before (side_of cs m k) side before p other
              ∙ ap (before_on (side_of cs m k)) read
              ∙ ap (λ x. before_on (side_of cs m k) (get_or old.previous.items x no_previous)) (sym same))
          | inr ne ↦ ap (before_on (side_of cs m k))
              (ap (λ ps. get_or ps k no_previous) previous ∙ get_or-set_other old.previous.items h k (with_before side before p) no_previous ne)
        ];
      };
      region = region;
      heads = heads;
      previous_fit = ap length previous ∙ length-set old.previous.items h (with_before side before p);
    }

pub SetsBefore-none : (old : WatchLists) (l : ℕ) (link before : Option ℕ) → link ≡ None → SetsBefore old old l link before
SetsBefore-none old l link before is = record {
  links = record {
    here = λ k f. absurd (none_number k (sym is ∙ f));
    others = λ m k v apart. refl;
  };
  region = refl;
  heads = refl;
  previous_fit = refl;
}
