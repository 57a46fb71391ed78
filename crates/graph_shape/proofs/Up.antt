-- Steps go up.
use Rattle.std.proofs.Common.{◌≡◌, ◌≢◌, leb-false, ◌<◌, ◌+◌, ℕ, Bool, true, false, cond, List, [], ◌∷◌, ◌++◌, nat_eq, nat_le, lt-ltb, reverse, refl, sym, ap, ◌∙◌}
use native.Mathlib.Omega.{arith}
use Rattle.std.proofs.lemmas.List.{reverse-append, reverse-reverse}
use Rattle.std.specs.Cmp.{nat_cmp_total, tied_itself}
use Rattle.std.specs.Ordering.{nat_cmp, ordering_then}
use Rattle.std.specs.declared.cmp.Ordering.{Ordering}
use Rattle.std.specs.declared.cmp.Ordering.TheVariants.{Less, Equal, Greater}
use Rattle.opcodes.specs.Instructions.{length_of}
use Rattle.opcodes.specs.declared.instruction.Instr.{Instr}
use Rattle.program.specs.Bounds.{Hop, Place, Successor, behind, falls, jumps, calls, returns, ends}
use Rattle.program.specs.Program.{Prog}
use Rattle.code_paths.specs.Hops.{place_of, places_of}
use Rattle.code_paths.specs.Order.{place_cmp}
use Rattle.code_paths.specs.declared.place.CodePlace.{CodePlace}
use Rattle.spots.proofs.Landing.{one_list}
use Rattle.spots.specs.Chains.{chain_cmp, place_total}
use Rattle.spots.specs.Order.{position_cmp, spot_cmp, standing_cmp}
use Rattle.spots.specs.Spots.{Lands, Leads, begins, end_of, innermost_first, jumps_after, standing_at, steps}
use Rattle.spots.specs.Spots as spec
use Rattle.spots.specs.declared.spot.Position.TheVariants.{At, Begin, End}
use Rattle.spots.specs.declared.spot.Spot.{Spot}
use Rattle.spots.specs.declared.spot.Standing.{Standing}

-- ---- Orders

tied : (n : ℕ) → nat_cmp n n ≡ Equal
tied n = tied_itself nat_cmp_total n

less : (m n : ℕ) → m < n → nat_cmp m n ≡ Less
less m n below = ap (λ b. cond b Less (cond (nat_eq m n) Equal Greater)) (lt-ltb m n below)

-- what stands before the first difference is of no account
prefix : (zs xs ys : List CodePlace) → chain_cmp (zs ++ xs) (zs ++ ys) ≡ chain_cmp xs ys
prefix [] xs ys = refl
prefix (z ∷ zs) xs ys = ap (λ r. ordering_then r (chain_cmp (zs ++ xs) (zs ++ ys))) (tied_itself place_total z) ∙ prefix zs xs ys

earlier : (x y : CodePlace) → x.pc < y.pc → place_cmp x y ≡ Less
earlier x y below = go (nat_cmp x.pc y.pc) _ (less x.pc y.pc below)
  where
    go : (r s : Ordering) → r ≡ Less → ordering_then r s ≡ Less
    go Less s e = refl
    go Equal s e = absurd cc
    go Greater s e = absurd cc

-- ---- Chains

-- a chain whose places are these, the innermost first
chain_is : (chain places : List CodePlace) → reverse chain ≡ places → chain ≡ reverse places
chain_is chain places e = sym (reverse-reverse chain) ∙ ap reverse e

innermost : (x : CodePlace) (rest : List CodePlace) → reverse (x ∷ rest) ≡ reverse rest ++ x ∷ []
innermost x rest = reverse-append (x ∷ []) rest

two_innermost : (x k : CodePlace) (rest : List CodePlace) → reverse (x ∷ k ∷ rest) ≡ reverse rest ++ k ∷ x ∷ []
two_innermost x k rest = reverse-append (x ∷ k ∷ []) rest

-- the instruction goes on in its method
goes_on : (x y : CodePlace) (rest : List CodePlace) → x.pc < y.pc → chain_cmp (reverse (x ∷ rest)) (reverse (y ∷ rest)) ≡ Less
goes_on x y rest below =
    ap (λ (c : List CodePlace). chain_cmp c (reverse (y ∷ rest))) (innermost x rest) ∙ ap (chain_cmp (reverse rest ++ x ∷ [])) (innermost y rest) ∙ prefix (reverse rest) (x ∷ []) (y ∷ [])
    ∙ ap (λ r. ordering_then r Equal) (earlier x y below)

-- a method is called
enters : (x y : CodePlace) (rest : List CodePlace) → chain_cmp (reverse (x ∷ rest)) (reverse (y ∷ x ∷ rest)) ≡ Less
enters x y rest =
    ap (λ (c : List CodePlace). chain_cmp c (reverse (y ∷ x ∷ rest))) (innermost x rest) ∙ ap (chain_cmp (reverse rest ++ x ∷ [])) (two_innermost y x rest) ∙ prefix (reverse rest) (x ∷ []) (x ∷ y ∷ [])
    ∙ ap (λ r. ordering_then r Less) (tied_itself place_total x)

-- a method is left
leaves : (x k y : CodePlace) (rest : List CodePlace) → k.pc < y.pc → chain_cmp (reverse (x ∷ k ∷ rest)) (reverse (y ∷ rest)) ≡ Less
leaves x k y rest below =
    ap (λ (c : List CodePlace). chain_cmp c (reverse (y ∷ rest))) (two_innermost x k rest) ∙ ap (chain_cmp (reverse rest ++ k ∷ x ∷ [])) (innermost y rest) ∙ prefix (reverse rest) (k ∷ x ∷ []) (y ∷ [])
    ∙ ap (λ r. ordering_then r Greater) (earlier k y below)

-- ---- Steps

longer : (n : ℕ) (instr : Instr) → n < n + length_of instr
longer n instr = omega arith

-- one place stands first, and others behind it
record AreFirst (at : Place) (callers : List Place) (places : List CodePlace) : Type 0 where
  pub first : CodePlace
  pub rest : List CodePlace
  pub are : places ≡ first ∷ rest
  pub place : place_of first ≡ at
  pub others : places_of rest ≡ callers

split : (places : List CodePlace) (at : Place) (callers : List Place) → places_of places ≡ at ∷ callers → AreFirst at callers places
split [] at callers e = absurd cc
split (x ∷ xs) at callers e = record { first = x; rest = xs; are = refl; place = cc; others = cc }

module _ (p : Prog) (old new : List CodePlace) (hop : Hop) (to_new : innermost_first new ≡ hop.to) where
  by_lists : (x y : List CodePlace) → reverse old ≡ x → reverse new ≡ y → chain_cmp (reverse x) (reverse y) ≡ Less → chain_cmp old new ≡ Less
  by_lists x y e f up = ap (λ (c : List CodePlace). chain_cmp c new) (chain_is old x e) ∙ ap (chain_cmp (reverse x)) (chain_is new y f) ∙ up

  pc_of : (x : CodePlace) (at : Place) → place_of x ≡ at → x.pc ≡ at.pc
  pc_of x at e = ap (λ (z : Place). z.pc) e

  further : (at next : Place) (callers : List Place) → innermost_first old ≡ at ∷ callers → hop.to ≡ next ∷ callers → at.pc < next.pc → chain_cmp old new ≡ Less
  further at next callers e leads below =
      let a = split (reverse old) at callers e in
      let b = split (reverse new) next callers (to_new ∙ leads) in
      let same : b.rest ≡ a.rest = one_list b.rest a.rest (b.others ∙ sym a.others) in
      let pc_a = pc_of a.first at a.place in
      let pc_b = pc_of b.first next b.place in
      by_lists (a.first ∷ a.rest) (b.first ∷ a.rest) a.are (b.are ∙ ap (λ (r : List CodePlace). b.first ∷ r) same) (goes_on a.first b.first a.rest (omega arith))

  inwards : (at called : Place) (callers : List Place) → innermost_first old ≡ at ∷ callers → hop.to ≡ called ∷ at ∷ callers → chain_cmp old new ≡ Less
  inwards at called callers e leads =
      let a = split (reverse old) at callers e in
      let b = split (reverse new) called (at ∷ callers) (to_new ∙ leads) in
      let same : b.rest ≡ a.first ∷ a.rest = one_list b.rest (a.first ∷ a.rest) (b.others ∙ sym e ∙ ap places_of a.are) in
      by_lists (a.first ∷ a.rest) (b.first ∷ a.first ∷ a.rest) a.are (b.are ∙ ap (λ (r : List CodePlace). b.first ∷ r) same) (enters a.first b.first a.rest)

  outwards : (at caller next : Place) (callers : List Place) → innermost_first old ≡ at ∷ caller ∷ callers → hop.to ≡ next ∷ callers → caller.pc < next.pc → chain_cmp old new ≡ Less
  outwards at caller next callers e leads below =
      let a = split (reverse old) at (caller ∷ callers) e in
      let k = split a.rest caller callers a.others in
      let b = split (reverse new) next callers (to_new ∙ leads) in
      let same : b.rest ≡ k.rest = one_list b.rest k.rest (b.others ∙ sym k.others) in
      let pc_k = pc_of k.first caller k.place in
      let pc_b = pc_of b.first next b.place in
      by_lists (a.first ∷ k.first ∷ k.rest) (b.first ∷ k.rest) (a.are ∙ ap (λ (r : List CodePlace). a.first ∷ r) k.are) (b.are ∙ ap (λ (r : List CodePlace). b.first ∷ r) same)
      (leaves a.first k.first b.first k.rest (omega arith))

  leads_to : {h : Hop} → hop ≡ h → hop.to ≡ h.to
  leads_to e = ap (λ (h : Hop). h.to) e

  pub chain_up : Successor p (innermost_first old) hop → hop.backward ≡ false → hop.to ≢ [] → chain_cmp old new ≡ Less
  chain_up (falls at callers instr names e there through none is) forward some = further at (behind at instr) callers e (leads_to is) (longer at.pc instr)
  chain_up (jumps at callers instr names distance to e there jumping place is) forward some =
      let up : nat_le to at.pc ≡ false = sym (ap (λ (h : Hop). h.backward) is) ∙ forward in
      further at (record { method = at.method; pc = to }) callers e (leads_to is) (leb-false to at.pc up)
  chain_up (calls at callers instr called e there is) forward some = inwards at (record { method = called; pc = 0 }) callers e (leads_to is)
  chain_up (returns at caller callers instr call names called e there is_return calling is) forward some = outwards at caller (behind caller call) callers e (leads_to is) (longer caller.pc call)
  chain_up (ends at instr names e there is_return is) forward some = absurd (some (leads_to is))

-- ---- Spots

first_less : (r s : Ordering) → r ≡ Less → ordering_then r s ≡ Less
first_less Less s e = refl
first_less Equal s e = absurd cc
first_less Greater s e = absurd cc

second_less : (r s : Ordering) → r ≡ Equal → s ≡ Less → ordering_then r s ≡ Less
second_less Less s e f = absurd cc
second_less Equal s e f = f
second_less Greater s e f = absurd cc

standing_up : (p : Prog) (old new : Standing) (hop : Hop) → Successor p (innermost_first old.places) hop → innermost_first new.places ≡ hop.to → hop.to ≢ [] → new.jumps ≡ jumps_after old.jumps hop →
    standing_cmp old new ≡ Less
standing_up p old new hop step to_new some counted = by hop.backward refl
  where
    by : (b : Bool) → hop.backward ≡ b → standing_cmp old new ≡ Less
    by true e =
        let more : old.jumps < new.jumps = (let f : new.jumps ≡ old.jumps + 1 = counted ∙ ap (λ b. old.jumps + cond b 1 0) e in omega arith) in
        first_less _ _ (less old.jumps new.jumps more)
    by false e =
        let same : new.jumps ≡ old.jumps = (let f : new.jumps ≡ old.jumps + 0 = counted ∙ ap (λ b. old.jumps + cond b 1 0) e in omega arith) in
        second_less _ _ (ap (nat_cmp old.jumps) same ∙ tied old.jumps) (first_less _ _ (chain_up p old.places new.places hop to_new step e some))

at_same_thread : (from to : Spot) → from.thread ≡ to.thread → position_cmp from.position to.position ≡ Less → spot_cmp from to ≡ Less
at_same_thread from to e up = second_less _ _ (ap (nat_cmp from.thread) (sym e) ∙ tied from.thread) up

pub steps_up : (p : Prog) (limit : ℕ) (from to : Spot) (taken : Bool) → Leads p limit from taken to → spot_cmp from to ≡ Less
steps_up p limit from to taken (begins places position start t (spec.ends e is)) =
    at_same_thread from to (ap (λ (s : Spot). s.thread) (sym is)) (ap2 position (ap (λ (s : Spot). s.position) is))
  where
    ap2 : from.position ≡ Begin → to.position ≡ End → position_cmp from.position to.position ≡ Less
    ap2 a b = λ i. position_cmp (a i) (b i)
steps_up p limit from to taken (begins places position start t (spec.stands stand at callers e is counted chain answer)) =
    at_same_thread from to (ap (λ (s : Spot). s.thread) (sym is)) (ap2 position (ap (λ (s : Spot). s.position) is))
  where
    ap2 : from.position ≡ Begin → to.position ≡ At stand → position_cmp from.position to.position ≡ Less
    ap2 a b = λ i. position_cmp (a i) (b i)
steps_up p limit from to taken (steps old hop position successor t few (spec.ends e is)) =
    at_same_thread from to (ap (λ (s : Spot). s.thread) (sym is)) (ap2 position (ap (λ (s : Spot). s.position) is))
  where
    ap2 : from.position ≡ At old → to.position ≡ End → position_cmp from.position to.position ≡ Less
    ap2 a b = λ i. position_cmp (a i) (b i)
steps_up p limit from to taken (steps old hop position successor t few (spec.stands stand at callers e is counted chain answer)) =
    at_same_thread from to (ap (λ (s : Spot). s.thread) (sym is))
    (ap2 position (ap (λ (s : Spot). s.position) is) (standing_up p old stand hop successor chain (λ none. not_nil (sym e ∙ none)) counted))
  where
    ap2 : from.position ≡ At old → to.position ≡ At stand → standing_cmp old stand ≡ Less → position_cmp from.position to.position ≡ Less
    ap2 a b up = (λ i. position_cmp (a i) (b i)) ∙ up

    not_nil : at ∷ callers ≡ [] → ⊥
    not_nil f = cc
