-- Where a thread stands at a spot, each int slot holds an int.
use Rattle.std.proofs.Common.{zero, suc, ◌≡◌, ◌<◌, ◌+◌, ◌-◌, ◌⊎◌, inl, inr, ℕ, ℤ, List, [], ◌∷◌, ◌++◌, Option, Some, None, Contains, drop, length, map, reverse, slice_get, take, refl, sym, ap, ap₂, subst, ◌∙◌}
use native.Mathlib.Omega.{arith}
use Rattle.std.proofs.Math.Seq.{take-append_seam}
use Rattle.std.proofs.lemmas.List.{append-nil, length-drop, length-reverse, reverse-append, reverse-reverse, take-append-drop}
use Rattle.std.proofs.lemmas.List.Elements.{Contains-append_cases}
use Rattle.std.proofs.lemmas.Option.{none-some, same_Some}
use Rattle.opcodes.specs.Listing.{IsByPc}
use Rattle.opcodes.specs.declared.instruction.Instr.TheVariants.{Invokestatic}
use Rattle.opcodes.specs.declared.listed.Listed.{Listed}
use Rattle.program.proofs.Lists.{contains_cases, contains_here, contains_later, contains_nil}
use Rattle.program.specs.Bounds.{Place}
use Rattle.program.specs.Program.{Prog, IsMethod}
use Rattle.program.specs.Step.{Activation, Holds, JavaValue}
use Rattle.program.specs.Step as java
use Rattle.program.specs.declared.method.Frame.{Frame}
use Rattle.program.specs.declared.method.Method.{Method}
use Rattle.program.specs.declared.method.MethodId.{MethodId}
use Rattle.program.specs.declared.method.Operand.{Operand}
use Rattle.program.specs.declared.method.Operand.TheVariants as operand
use Rattle.program.specs.declared.value_type.TypedLocal.{TypedLocal}
use Rattle.program.specs.declared.value_type.TypedState.{TypedState}
use Rattle.program.specs.declared.value_type.ValueType.{ValueType}
use Rattle.program.specs.declared.value_type.ValueType.TheVariants as type
use Rattle.thread_meaning.proofs.Unique.{one_method, one_place}
use Rattle.thread_meaning.specs.Paths.{IsOrdered}
use Rattle.code_paths.specs.Hops.{place_of, places_of}
use Rattle.code_paths.specs.declared.place.CodePlace.{CodePlace}
use Rattle.node_details.proofs.Matching.{one_more}
use Rattle.node_details.specs.Frames.{AreKnown, FrameThere, IsCalledFrame, IsKnown}
use Rattle.node_details.specs.Matched.{AreMatched}
use Rattle.node_details.specs.Slots.{arguments_of, frame_slots, int_at, int_slots_of, kept_places, local_slots, size_of, stack_slots}
use Rattle.typed_runs.specs.Types.{Agrees, AreTyped, AreTypedFrames, AreWaiting, HasType, IsTypedFrame, IsWaitingFrame}
use Rattle.graph_laws.specs.Slots.{SlotHolds, local, place, further, standing_place}

-- ---- Two lists, item by item

matched_reverse : {A B : Type 0} (R : A → B → Type 0) (xs : List A) (ys : List B) → AreMatched R xs ys → AreMatched R (reverse xs) (reverse ys)
matched_reverse R [] [] matched = _
matched_reverse R (x ∷ xs) (y ∷ ys) matched =
    subst (λ (us : List _). AreMatched R us (reverse (y ∷ ys))) (sym (reverse-append (x ∷ []) xs))
    (subst (λ (vs : List _). AreMatched R (reverse xs ++ x ∷ []) vs) (sym (reverse-append (y ∷ []) ys))
    (one_more R (reverse xs) (reverse ys) x y (matched_reverse R xs ys matched.1) matched.0))
matched_reverse R [] (y ∷ ys) matched = absurd matched
matched_reverse R (x ∷ xs) [] matched = absurd matched

matched_at : {A B : Type 0} (R : A → B → Type 0) (xs : List A) (ys : List B) (j : ℕ) (y : B) → AreMatched R xs ys → slice_get ys j ≡ Some y →
    (x : A) × (slice_get xs j ≡ Some x) × R x y
matched_at R [] [] j y matched there = absurd (none-some y there)
matched_at R (x ∷ xs) (z ∷ ys) zero y matched there = (x, refl, subst (R x) (same_Some z y there) matched.0)
matched_at R (x ∷ xs) (z ∷ ys) (suc j) y matched there = matched_at R xs ys j y matched.1 there
matched_at R [] (z ∷ ys) j y matched there = absurd matched
matched_at R (x ∷ xs) [] j y matched there = absurd matched

matched_types : (values : List JavaValue) (types : List ValueType) → AreTyped values types → AreMatched HasType values types
matched_types [] [] typed = _
matched_types (v ∷ values) (t ∷ types) typed = (typed.0, matched_types values types typed.1)
matched_types [] (t ∷ types) typed = absurd typed
matched_types (v ∷ values) [] typed = absurd typed

-- what is dropped at the top of a stack is not among its lowest places
lowest : (stack : List ValueType) (k : ℕ) → reverse (drop k (reverse stack)) ≡ take (length stack - k) stack
lowest stack k =
    let top = take k (reverse stack) in
    let rest = drop k (reverse stack) in
    let whole : stack ≡ reverse rest ++ reverse top =
    sym (reverse-reverse stack) ∙ ap reverse (sym (take-append-drop k (reverse stack))) ∙ reverse-append top rest in
    let long : length stack - k ≡ length (reverse rest) =
    sym (length-reverse rest ∙ length-drop k (reverse stack) ∙ ap (λ n. n - k) (length-reverse stack)) in
    sym (take-append_seam (reverse rest) (reverse top)) ∙ ap₂ (λ n xs. take n xs) (sym long) (sym whole)

-- ---- One frame

-- the int locals of a frame, and so many of the lowest places of its stack, hold ints
record FrameFits (f : FrameThere) (a : Activation) (kept : ℕ) : Type 0 where
  locals : (slot : ℕ) → Contains f.state.locals (record { slot = slot; holds = type.Int }) → (n : ℤ) × Holds a slot (java.Int n)
  places : (j : ℕ) → slice_get (take kept f.state.stack) j ≡ Some type.Int → (n : ℤ) × (slice_get (reverse a.stack) j ≡ Some (java.Int n))

is_int : (v : JavaValue) → HasType v type.Int → (n : ℤ) × (v ≡ java.Int n)
is_int (java.Int n) typed = (n, refl)
is_int java.Out typed = absurd typed
is_int java.Args typed = absurd typed
is_int java.This typed = absurd typed
is_int (java.Monitor m) typed = absurd typed
is_int (java.Object k) typed = absurd typed
is_int (java.Target k) typed = absurd typed

agreeing : (f : FrameThere) (a : Activation) (held : ℕ → ℕ) (k kept : ℕ) → kept ≡ length f.state.stack - k → Agrees a held f.state (drop k (reverse f.state.stack)) → FrameFits f a kept
agreeing f a held k kept few agrees = record {
  locals = λ slot there. (let v = agrees.locals slot type.Int there in
      let int = is_int v.0 v.2 in
      (int.0, v.1 ∙ ap (λ x. Some (Some x)) int.1));
  places = λ j there. (let backwards = matched_reverse HasType a.stack (drop k (reverse f.state.stack)) (matched_types a.stack (drop k (reverse f.state.stack)) agrees.stack) in
      let found = matched_at HasType (reverse a.stack) (reverse (drop k (reverse f.state.stack))) j type.Int backwards
      (ap (λ (xs : List ValueType). slice_get xs j) (lowest f.state.stack k ∙ ap (λ n. take n f.state.stack) (sym few)) ∙ there) in
      let int = is_int found.0 found.2 in
      (int.0, found.1 ∙ ap Some int.1));
}

-- what is known where a frame stands
abbrev KnownOf : Prog → Activation → FrameThere → Type 0
KnownOf p a f = IsKnown p (record { method = a.method; pc = a.pc }) f

own_frame : (p : Prog) (a : Activation) (f : FrameThere) (held : ℕ → ℕ) → KnownOf p a f → IsTypedFrame p a held → FrameFits f a (length f.state.stack)
own_frame p a f held k typed =
    let none : length f.state.stack ≡ length f.state.stack - 0 = omega arith in
    agreeing f a held 0 (length f.state.stack) none (typed k.method f.instr f.names f.state k.is_method k.instruction k.state)

arguments_are : (p : Prog) (callee : MethodId) (called : Method) (o : Option Frame) → IsOrdered p → IsMethod p callee called → IsCalledFrame p (operand.Method callee) o →
    arguments_of o ≡ called.frame.parameters
arguments_are p callee called None ordered is_called found = absurd found
arguments_are p callee called (Some frame) ordered is_called found =
    let same : found.0 ≡ called = one_method p callee found.0 called ordered.distinct found.1 is_called in
    ap (λ (fr : Frame). fr.parameters) (found.2 ∙ ap (λ (m : Method). m.frame) same)

waiting_frame : (p : Prog) (a : Activation) (f : FrameThere) (held : ℕ → ℕ) (callee : MethodId) → IsOrdered p → KnownOf p a f → IsWaitingFrame p a held callee →
    FrameFits f a (length f.state.stack - arguments_of f.called)
waiting_frame p a f held callee ordered k w =
    agreeing f a held (arguments_of f.called) (length f.state.stack - arguments_of f.called) refl
    (subst (λ (n : ℕ). Agrees a held f.state (drop n (reverse f.state.stack))) (sym takes)
    (subst (λ (s : TypedState). Agrees a held s (drop w.called.frame.parameters (reverse s.stack))) (sym states) w.agrees))
  where
    methods : k.method ≡ w.method
    methods = one_method p a.method k.method w.method ordered.distinct k.is_method w.is_method

    by_pc : IsByPc k.method.listing
    by_pc = ordered.by_pc k.method k.is_method.reached

    listed : slice_get k.method.listing w.place ≡ Some (record { pc = a.pc; instr = Invokestatic w.index })
    listed = ap (λ (m : Method). slice_get m.listing w.place) methods ∙ w.listed

    places : k.instruction.place ≡ w.place
    places = one_place (λ (x y : Listed). x.pc < y.pc) k.method.listing k.instruction.place w.place
        (record { pc = a.pc; instr = f.instr }) (record { pc = a.pc; instr = Invokestatic w.index }) by_pc k.instruction.listed listed (λ lt. omega arith) (λ lt. omega arith)

    states : f.state ≡ w.state
    states = same_Some f.state w.state (sym k.state ∙ ap₂ (λ (m : Method) (n : ℕ). slice_get m.typed n) methods places ∙ w.typed)

    names : f.names ≡ operand.Method callee
    names = same_Some f.names (operand.Method callee) (sym k.instruction.names ∙ ap₂ (λ (m : Method) (n : ℕ). slice_get m.operands n) methods places ∙ w.names)

    takes : arguments_of f.called ≡ w.called.frame.parameters
    takes = arguments_are p callee w.called f.called ordered w.is_called (subst (λ (o : Operand). IsCalledFrame p o f.called) names k.called)

-- ---- All frames

-- the frames fit, the innermost first, around these frames that stand further in
abbrev FitsFrom : List FrameThere → List Activation → List FrameThere → Type 0
FitsFrom [] [] within = Unit {0}
FitsFrom (f ∷ frames) (a ∷ s) within = FrameFits f a (kept_places f within) × FitsFrom frames s (f ∷ within)
FitsFrom _ _ within = ⊥

-- the frames fit, the outermost first
abbrev AllFit : List FrameThere → List Activation → List FrameThere → Type 0
AllFit [] [] within = Unit {0}
AllFit (f ∷ frames) (a ∷ s) within = FrameFits f a (kept_places f (frames ++ within)) × AllFit frames s within
AllFit _ _ within = ⊥

callers_fit : (p : Prog) (callee : MethodId) (frames : List FrameThere) (callers : List Activation) (counts : List (ℕ → ℕ)) (g : FrameThere) (within : List FrameThere) → IsOrdered p →
    AreMatched (KnownOf p) callers frames → AreWaiting p callee callers counts → FitsFrom frames callers (g ∷ within)
callers_fit p callee [] [] counts g within ordered known wait = _
callers_fit p callee (f ∷ frames) (a ∷ callers) (held ∷ counts) g within ordered known wait =
    (waiting_frame p a f held callee ordered known.0 wait.0, callers_fit p a.method frames callers counts f (g ∷ within) ordered known.1 wait.1)
callers_fit p callee (f ∷ frames) (a ∷ callers) [] g within ordered known wait = absurd wait
callers_fit p callee [] (a ∷ callers) counts g within ordered known wait = absurd known
callers_fit p callee (f ∷ frames) [] counts g within ordered known wait = absurd known

frames_fit : (p : Prog) (frames : List FrameThere) (s : List Activation) (counts : List (ℕ → ℕ)) → IsOrdered p → AreMatched (KnownOf p) s frames → AreTypedFrames p s counts →
    FitsFrom frames s []
frames_fit p [] [] counts ordered known typed = _
frames_fit p (f ∷ frames) (a ∷ callers) (held ∷ counts) ordered known typed =
    (own_frame p a f held known.0 typed.0, callers_fit p a.method frames callers counts f [] ordered known.1 typed.1)
frames_fit p (f ∷ frames) (a ∷ callers) [] ordered known typed = absurd typed
frames_fit p [] (a ∷ callers) counts ordered known typed = absurd known
frames_fit p (f ∷ frames) [] counts ordered known typed = absurd known

one_more_fits : (frames : List FrameThere) (s : List Activation) (f : FrameThere) (a : Activation) (within : List FrameThere) → AllFit frames s (f ∷ within) →
    FrameFits f a (kept_places f within) → AllFit (frames ++ f ∷ []) (s ++ a ∷ []) within
one_more_fits [] [] f a within fit one = (one, _)
one_more_fits (g ∷ frames) (b ∷ s) f a within fit one =
    (subst (λ (inner : List FrameThere). FrameFits g b (kept_places g inner)) (sym (assoc frames)) fit.0, one_more_fits frames s f a within fit.1 one)
  where
    assoc : (xs : List FrameThere) → (xs ++ f ∷ []) ++ within ≡ xs ++ f ∷ within
    assoc [] = refl
    assoc (x ∷ xs) = ap (λ ys. x ∷ ys) (assoc xs)
one_more_fits [] (b ∷ s) f a within fit one = absurd fit
one_more_fits (g ∷ frames) [] f a within fit one = absurd fit

outermost_first : (frames : List FrameThere) (s : List Activation) (within : List FrameThere) → FitsFrom frames s within → AllFit (reverse frames) (reverse s) within
outermost_first [] [] within fit = _
outermost_first (f ∷ frames) (a ∷ s) within fit =
    subst (λ (us : List FrameThere). AllFit us (reverse (a ∷ s)) within) (sym (reverse-append (f ∷ []) frames))
    (subst (λ (vs : List Activation). AllFit (reverse frames ++ f ∷ []) vs within) (sym (reverse-append (a ∷ []) s))
    (one_more_fits (reverse frames) (reverse s) f a within (outermost_first frames s (f ∷ within) fit.1) fit.0))
outermost_first [] (a ∷ s) within fit = absurd fit
outermost_first (f ∷ frames) [] within fit = absurd fit

-- ---- Slots

int_there : (holds : ValueType) (at slot : ℕ) → Contains (int_at holds at) slot → (holds ≡ type.Int) × (at ≡ slot)
int_there type.Int at slot there = elim (contains_cases at slot [] there) [
  | inl e ↦ (refl, e)
  | inr none ↦ absurd (contains_nil slot none)
]
int_there type.Out at slot there = absurd (contains_nil slot there)
int_there type.Args at slot there = absurd (contains_nil slot there)
int_there type.This at slot there = absurd (contains_nil slot there)
int_there (type.Lock m) at slot there = absurd (contains_nil slot there)
int_there (type.Fresh k) at slot there = absurd (contains_nil slot there)
int_there (type.Thread k) at slot there = absurd (contains_nil slot there)
int_there (type.FreshTarget k) at slot there = absurd (contains_nil slot there)
int_there (type.Target k) at slot there = absurd (contains_nil slot there)

local_there : (base slot : ℕ) (locals : List TypedLocal) → Contains (local_slots base locals) slot → (l : ℕ) × Contains locals (record { slot = l; holds = type.Int }) × (slot ≡ base + l)
local_there base slot [] there = absurd (contains_nil slot there)
local_there base slot (x ∷ locals) there = elim (Contains-append_cases (int_at x.holds (base + x.slot)) (local_slots base locals) slot there) [
  | inl here ↦ (let int = int_there x.holds (base + x.slot) slot here in
      (x.slot, subst (λ (t : ValueType). Contains (record { slot = x.slot; holds = x.holds } ∷ locals) (record { slot = x.slot; holds = t })) int.0 (contains_here x locals), sym int.1))
  | inr later ↦ (let found = local_there base slot locals later in
      (found.0, contains_later x (record { slot = found.0; holds = type.Int }) locals found.1, found.2))
]

place_there : (base slot : ℕ) (types : List ValueType) → Contains (stack_slots base types) slot → (j : ℕ) × (slice_get types j ≡ Some type.Int) × (slot ≡ base + j)
place_there base slot [] there = absurd (contains_nil slot there)
place_there base slot (t ∷ types) there = elim (Contains-append_cases (int_at t base) (stack_slots (base + 1) types) slot there) [
  | inl here ↦ (let int = int_there t base slot here in
      (0, ap Some int.0, (let e = int.1 in omega arith)))
  | inr later ↦ (let found = place_there (base + 1) slot types later in
      (suc found.0, found.1, (let e = found.2 in omega arith)))
]

slots_hold : (base slot : ℕ) (frames : List FrameThere) (s : List Activation) → AllFit frames s [] → Contains (int_slots_of base frames) slot → (n : ℤ) × SlotHolds slot n base frames s
slots_hold base slot [] [] fit there = absurd (contains_nil slot there)
slots_hold base slot (f ∷ frames) (a ∷ s) fit there =
    by_part (λ within. slots_hold (base + size_of f) slot frames s fit.1 within)
    (Contains-append_cases (frame_slots base f (kept_places f frames)) (int_slots_of (base + size_of f) frames) slot there)
  where
    own : FrameFits f a (kept_places f frames)
    own = subst (λ (inner : List FrameThere). FrameFits f a (kept_places f inner)) (append-nil frames) fit.0

    by_frame : Contains (local_slots base f.state.locals) slot ⊎ Contains (stack_slots (base + f.frame.max_locals) (take (kept_places f frames) f.state.stack)) slot →
        (n : ℤ) × SlotHolds slot n base (f ∷ frames) (a ∷ s)
    by_frame (inl among) =
        let found = local_there base slot f.state.locals among in
        let int = own.locals found.0 found.1 in
        (int.0, local base f frames a s found.0 found.2 int.1)
    by_frame (inr among) =
        let found = place_there (base + f.frame.max_locals) slot (take (kept_places f frames) f.state.stack) among in
        let int = own.places found.0 found.1 in
        (int.0, place base f frames a s found.0 found.2 int.1)

    by_part : (Contains (int_slots_of (base + size_of f) frames) slot → (n : ℤ) × SlotHolds slot n (base + size_of f) frames s) →
        Contains (frame_slots base f (kept_places f frames)) slot ⊎ Contains (int_slots_of (base + size_of f) frames) slot → (n : ℤ) × SlotHolds slot n base (f ∷ frames) (a ∷ s)
    by_part further_in (inl mine) = by_frame (Contains-append_cases (local_slots base f.state.locals) (stack_slots (base + f.frame.max_locals) (take (kept_places f frames) f.state.stack)) slot mine)
    by_part further_in (inr within) = (let found = further_in within in (found.0, further base f frames a s found.1))
slots_hold base slot [] (a ∷ s) fit there = absurd fit
slots_hold base slot (f ∷ frames) [] fit there = absurd fit

-- ---- The law

known_of : (p : Prog) (s : List Activation) (chain : List CodePlace) (frames : List FrameThere) → map standing_place s ≡ places_of chain → AreMatched (IsKnown p) chain frames →
    AreMatched (KnownOf p) s frames
known_of p [] [] frames same known = known
known_of p [] (c ∷ chain) frames same known = absurd (let e : [] ≡ place_of c ∷ places_of chain = same in cc)
known_of p (a ∷ s) [] frames same known = absurd (let e : standing_place a ∷ map standing_place s ≡ [] = same in cc)
known_of p (a ∷ s) (c ∷ chain) [] same known = absurd known
known_of p (a ∷ s) (c ∷ chain) (f ∷ frames) same known =
    (subst (λ (at : Place). IsKnown p (record { method = at.method; pc = at.pc }) f) (sym head) known.0, known_of p s chain frames rest known.1)
  where
    head : standing_place a ≡ place_of c
    head = cc

    rest : map standing_place s ≡ places_of chain
    rest = cc

pub slots_are_ints : (p : Prog) (s : List Activation) (counts : List (ℕ → ℕ)) (chain : List CodePlace) (frames : List FrameThere) (slot : ℕ) → IsOrdered p →
    AreTypedFrames p s counts → map standing_place s ≡ places_of (reverse chain) → AreKnown p chain frames → Contains (int_slots_of 0 frames) slot →
    (n : ℤ) × SlotHolds slot n 0 frames (reverse s)
slots_are_ints p s counts chain frames slot ordered typed same known there =
    let inner = known_of p s (reverse chain) (reverse frames) same (matched_reverse (IsKnown p) chain frames known) in
    let fit = outermost_first (reverse frames) s [] (frames_fit p (reverse frames) s counts ordered inner typed) in
    slots_hold 0 slot frames (reverse s) (subst (λ (fs : List FrameThere). AllFit fs (reverse s) []) (reverse-reverse frames) fit) there
