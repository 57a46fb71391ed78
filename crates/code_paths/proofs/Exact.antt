-- The steps of all sorts are all steps.
use Rattle.std.proofs.Common.{◌≡◌, ◌↔◌, ◌+ℤ◌, pos, inl, inr, List, [], ◌∷◌, refl, sym, ap, ap₂, subst, ◌∙◌}
use Rattle.opcodes.specs.Instructions.{FallsThrough, jump_of}
use Rattle.opcodes.specs.declared.instruction.Instr.{Instr}
use Rattle.program.specs.Bounds.{CallsNothing, Hop, IsReturn, Place, StandsAt, Successor, behind, jump_hop, straight_hop, falls, jumps, calls, returns, ends}
use Rattle.program.specs.Program.{Prog, IsInstruction}
use Rattle.program.specs.declared.method.Method.{Method}
use Rattle.program.specs.declared.method.Operand.{Operand}
use Rattle.program.specs.declared.method.Operand.TheVariants as operand
use Rattle.thread_meaning.proofs.Unique.{one_instruction}
use Rattle.thread_meaning.specs.Outcomes.{IsHere, NothingAt}
use Rattle.thread_meaning.specs.declared.code.Here.{Here}
use Rattle.code_paths.specs.Hops.{Is, IsCall, IsFall, IsJump, IsLeave, IsLeft, IsOneOf, place_of, places_of}
use Rattle.code_paths.specs.declared.hops.Hops.{Hops}
use Rattle.code_paths.specs.declared.place.CodePlace.{CodePlace}

-- ---- Instructions

-- what is found at a place stands there
pub stands : (p : Prog) (at : CodePlace) (here : Here) → IsHere p at.method at.pc here → StandsAt p (place_of at) here.instr here.names
stands p at here is = record { method = is.method; is_method = is.the_method.is_method; instruction = is.inside.instruction }

pub record SameThere (instr found : Instr) (names found_names : Operand) : Type 0 where
  pub instr_is : instr ≡ found
  pub names_is : names ≡ found_names

-- and nothing else does
pub alone : (p : Prog) (at : CodePlace) (here : Here) (instr : Instr) (names : Operand) → IsHere p at.method at.pc here → StandsAt p (place_of at) instr names →
    SameThere instr here.instr names here.names
alone p at here instr names is other =
    let P : Method → Type 0 = λ m. IsInstruction m at.pc instr names in
    let one = one_instruction is.method at.pc instr here.instr names here.names is.inside.by_pc
    (subst P (sym (is.the_method.only other.method other.is_method)) other.instruction) is.inside.instruction in
    record { instr_is = one.instr; names_is = one.names }

pub nothing : (p : Prog) (at : CodePlace) (instr : Instr) (names : Operand) → NothingAt p at.method at.pc → StandsAt p (place_of at) instr names → ⊥
nothing p at instr names none other = none other.method other.is_method instr names other.instruction

-- ---- Out of a method

pub left_none : (p : Prog) (caller : CodePlace) (others callers : List CodePlace) (hop : Hop) → callers ≡ caller ∷ others → NothingAt p caller.method caller.pc →
    IsLeft p (places_of callers) hop → ⊥
left_none p caller others callers hop same none left =
    let P : List CodePlace → Type 0 = λ cs. IsLeft p (places_of cs) hop in
    let found = subst P same left in
    nothing p caller found.0 found.1 none found.2

pub left_one : (p : Prog) (caller next : CodePlace) (others callers to : List CodePlace) (call : Here) (hop : Hop) → callers ≡ caller ∷ others → IsHere p caller.method caller.pc call →
    place_of next ≡ behind (place_of caller) call.instr → to ≡ next ∷ others →
    (hop ≡ straight_hop (places_of to)) ↔ IsLeft p (places_of callers) hop
left_one p caller next others callers to call hop same is place leads =
    let P : List CodePlace → Type 0 = λ cs. IsLeft p (places_of cs) hop in
    let target : straight_hop (places_of to) ≡ straight_hop (behind (place_of caller) call.instr ∷ places_of others) =
    ap (λ t. straight_hop (places_of t)) leads ∙ ap (λ n. straight_hop (n ∷ places_of others)) place in (
      (λ e. subst P (sym same) (call.instr, call.names, stands p caller call is, e ∙ target)),
      (λ left. (let found = subst P same left in
          let one = alone p caller call found.0 found.1 is found.2 in
          found.3 ∙ ap (λ i. straight_hop (behind (place_of caller) i ∷ places_of others)) one.instr_is ∙ sym target)),
    )

-- ---- All steps

-- no step begins where no instruction stands
pub no_step : (p : Prog) (at : CodePlace) (callers places : List CodePlace) (hop : Hop) → places ≡ at ∷ callers → NothingAt p at.method at.pc → Successor p (places_of places) hop → ⊥
no_step p at callers places hop same none step =
    let P : List CodePlace → Type 0 = λ ps. Successor p (places_of ps) hop in
    go (subst P same step)
  where
    head_is : (x : Place) (xs : List Place) → place_of at ∷ places_of callers ≡ x ∷ xs → place_of at ≡ x
    head_is x xs e = cc

    at_head : (x : Place) (xs : List Place) (instr : Instr) (names : Operand) → place_of at ∷ places_of callers ≡ x ∷ xs → StandsAt p x instr names → ⊥
    at_head x xs instr names e there = nothing p at instr names none (subst (λ (y : Place). StandsAt p y instr names) (sym (head_is x xs e)) there)

    go : Successor p (place_of at ∷ places_of callers) hop → ⊥
    go (falls x xs instr names e there through nothing_called is) = at_head x xs instr names e there
    go (jumps x xs instr names distance to e there jump place is) = at_head x xs instr names e there
    go (calls x xs instr called e there is) = at_head x xs instr _ e there
    go (returns x caller xs instr call names called e there is_return calling is) = at_head x (caller ∷ xs) instr names e there
    go (ends x instr names e there is_return is) = at_head x [] instr names e there

-- no step begins behind the end
pub ended : (p : Prog) (places : List CodePlace) (hop : Hop) → places ≡ [] → Successor p (places_of places) hop → ⊥
ended p places hop same step =
    let P : List CodePlace → Type 0 = λ ps. Successor p (places_of ps) hop in
    go (subst P same step)
  where
    go : Successor p [] hop → ⊥
    go (falls x xs instr names e there through nothing_called is) = cc
    go (jumps x xs instr names distance to e there jump place is) = cc
    go (calls x xs instr called e there is) = cc
    go (returns x caller xs instr call names called e there is_return calling is) = cc
    go (ends x instr names e there is_return is) = cc

-- the step is of one of the four sorts
pub data IsSorted (p : Prog) (instr : Instr) (names : Operand) (at : Place) (callers : List Place) (hop : Hop) : Type 0 where
  fall : IsFall instr names at callers hop → IsSorted p instr names at callers hop
  jump : IsJump instr at callers hop → IsSorted p instr names at callers hop
  call : IsCall names (at ∷ callers) hop → IsSorted p instr names at callers hop
  leave : IsLeave p instr callers hop → IsSorted p instr names at callers hop

sorted_step : (p : Prog) (instr : Instr) (names : Operand) (at : Place) (callers : List Place) (hop : Hop) → StandsAt p at instr names → IsSorted p instr names at callers hop → Successor p (at ∷ callers) hop
sorted_step p instr names at callers hop there (fall f) = falls at callers instr names refl there f.0 f.1 f.2
sorted_step p instr names at callers hop there (jump j) = jumps at callers instr names j.0 j.1 refl there j.2 j.3 j.4
sorted_step p instr names at callers hop there (call c) =
    calls at callers instr c.0 refl (subst (λ (o : Operand). StandsAt p at instr o) c.1 there) c.2
sorted_step p instr names at [] hop there (leave l) = ends at instr names refl there l.0 l.1
sorted_step p instr names at (caller ∷ callers) hop there (leave l) = returns at caller callers instr l.1.0 names l.1.1 refl there l.0 l.1.2 l.1.3

-- and of no other
step_sorted : (p : Prog) (here : Here) (at : CodePlace) (callers : List Place) (hop : Hop) → IsHere p at.method at.pc here → Successor p (place_of at ∷ callers) hop →
    IsSorted p here.instr here.names (place_of at) callers hop
step_sorted p here at callers hop is step = go step
  where
    only : (x : Place) (i : Instr) (o : Operand) → x ≡ place_of at → StandsAt p x i o → SameThere i here.instr o here.names
    only x i o same there = alone p at here i o is (subst (λ (y : Place). StandsAt p y i o) same there)

    go : Successor p (place_of at ∷ callers) hop → IsSorted p here.instr here.names (place_of at) callers hop
    go (falls x xs i o e there through none leads) =
        let head : x ≡ place_of at = cc in
        let tail : xs ≡ callers = cc in
        let one = only x i o head there in
        fall (
          subst FallsThrough one.instr_is through,
          subst CallsNothing one.names_is none,
          leads ∙ ap₂ (λ (y : Place) (ys : List Place). straight_hop (behind y i ∷ ys)) head tail ∙ ap (λ (j : Instr). straight_hop (behind (place_of at) j ∷ callers)) one.instr_is,
        )
    go (jumps x xs i o distance to e there jumping place leads) =
        let head : x ≡ place_of at = cc in
        let tail : xs ≡ callers = cc in
        let one = only x i o head there in
        jump (
          distance,
          to,
          sym (ap jump_of one.instr_is) ∙ jumping,
          place ∙ ap (λ (y : Place). pos y.pc +ℤ distance) head,
          leads ∙ ap₂ (λ (y : Place) (ys : List Place). jump_hop y to ys) head tail,
        )
    go (calls x xs i called e there leads) =
        let head : x ≡ place_of at = cc in
        let one = only x i (operand.Method called) head there in
        call (called, sym one.names_is, leads ∙ ap (λ (ys : List Place). straight_hop (record { method = called; pc = 0 } ∷ ys)) (sym e))
    go (returns x caller xs i calling o called e there is_return there_too leads) =
        let head : x ≡ place_of at = cc in
        let tail : callers ≡ caller ∷ xs = cc in
        let one = only x i o head there in
        leave (subst (λ (ys : List Place). IsLeave p here.instr ys hop) (sym tail) (subst IsReturn one.instr_is is_return, (calling, called, there_too, leads)))
    go (ends x i o e there is_return leads) =
        let head : x ≡ place_of at = cc in
        let tail : callers ≡ [] = cc in
        let one = only x i o head there in
        leave (subst (λ (ys : List Place). IsLeave p here.instr ys hop) (sym tail) (subst IsReturn one.instr_is is_return, leads))

-- the four sorts of steps that were found are all steps
pub record AreFound (p : Prog) (here : Here) (at : CodePlace) (callers : List CodePlace) (hops : Hops) (hop : Hop) : Type 0 where
  pub fall : Is hops.fall hop ↔ IsFall here.instr here.names (place_of at) (places_of callers) hop
  pub jump : Is hops.jump hop ↔ IsJump here.instr (place_of at) (places_of callers) hop
  pub call : Is hops.call hop ↔ IsCall here.names (places_of (at ∷ callers)) hop
  pub leave : Is hops.leave hop ↔ IsLeave p here.instr (places_of callers) hop

pub found_are_all : (p : Prog) (here : Here) (at : CodePlace) (callers places : List CodePlace) (hops : Hops) (hop : Hop) → places ≡ at ∷ callers → IsHere p at.method at.pc here →
    AreFound p here at callers hops hop → IsOneOf hops hop ↔ Successor p (places_of places) hop
found_are_all p here at callers places hops hop same is found =
    let P : List CodePlace → Type 0 = λ ps. Successor p (places_of ps) hop in
    let there = stands p at here is in (
      (λ one. subst P (sym same) (sorted_step p here.instr here.names (place_of at) (places_of callers) hop there (sort one))),
      (λ step. unsort (step_sorted p here at (places_of callers) hop is (subst P same step))),
    )
  where
    sort : IsOneOf hops hop → IsSorted p here.instr here.names (place_of at) (places_of callers) hop
    sort (inl f) = fall (found.fall.0 f)
    sort (inr (inl j)) = jump (found.jump.0 j)
    sort (inr (inr (inl c))) = call (found.call.0 c)
    sort (inr (inr (inr l))) = leave (found.leave.0 l)

    unsort : IsSorted p here.instr here.names (place_of at) (places_of callers) hop → IsOneOf hops hop
    unsort (fall f) = inl (found.fall.1 f)
    unsort (jump j) = inr (inl (found.jump.1 j))
    unsort (call c) = inr (inr (inl (found.call.1 c)))
    unsort (leave l) = inr (inr (inr (found.leave.1 l)))
