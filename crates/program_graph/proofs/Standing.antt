-- Something is known at each place of a node.
use Rattle.std.proofs.Common.{◌≡◌, inl, inr, ℕ, List, [], ◌∷◌, Some, None, Contains, length, reverse, refl, sym, ap, subst, ◌∙◌}
use native.Mathlib.Omega.{arith}
use Rattle.std.proofs.lemmas.List.{length-map, length-reverse, reverse-append}
use Rattle.std.proofs.lemmas.List.Elements.{Contains-append_left, Contains-append_right}
use Rattle.std.proofs.lemmas.Option.{slice_get_within}
use Rattle.relations.specs.Path.{Walk, here, on}
use Rattle.opcodes.specs.declared.instruction.Instr.{Instr}
use Rattle.program.proofs.Lists.{contains_cases, contains_here, contains_nil, there_is}
use Rattle.program.specs.Bounds.{Hop, Place, StandsAt, Successor, falls, jumps, calls, returns, ends}
use Rattle.program.specs.Program.{Prog, IsInstruction}
use Rattle.program.specs.declared.method.Method.{Method}
use Rattle.program.specs.declared.method.Operand.{Operand}
use Rattle.program.specs.declared.method.Operand.TheVariants as operand
use Rattle.code_paths.specs.Hops.{place_of, places_of}
use Rattle.code_paths.specs.declared.place.CodePlace.{CodePlace}
use Rattle.spots.specs.Spots.{Lands, Leads, StepsTo, begin_of, end_of, innermost_first, begins, steps}
use Rattle.spots.specs.Spots as spec
use Rattle.spots.specs.declared.spot.Position.{Position}
use Rattle.spots.specs.declared.spot.Position.TheVariants.{Begin, At, End}
use Rattle.spots.specs.declared.spot.Spot.{Spot}
use Rattle.spots.specs.declared.spot.Standing.{Standing}
use Rattle.pruned_graph.specs.Pruned.{IsNode}
use Rattle.node_details.specs.Frames.{IsCalledThere, IsThere}
use Rattle.node_details.specs.Nodes.{IsThereAt, MayBeNode, MayStand}
use Rattle.program_graph.specs.Graph.{IsFit}

-- ---- Instructions at the places of a chain

-- an instruction stands there
abbrev SomeStands : Prog → Place → Type 0
SomeStands p at = (instr : Instr) × (names : Operand) × StandsAt p at instr names

abbrev AllStand : Prog → List Place → Type 0
AllStand p [] = Unit {0}
AllStand p (at ∷ places) = SomeStands p at × AllStand p places

-- instructions stand at the places of the calls
abbrev CallersStand : Prog → List Place → Type 0
CallersStand p [] = Unit {0}
CallersStand p (at ∷ callers) = AllStand p callers

abbrev StandsIn : Prog → Position → Type 0
StandsIn p (At stand) = CallersStand p (innermost_first stand.places)
StandsIn p _ = Unit {0}

-- ---- Step by step

succeeds : (p : Prog) (s : List Place) (hop : Hop) → Successor p s hop → CallersStand p s → CallersStand p hop.to
succeeds p s hop (falls at callers instr names e there through none is) before =
    subst (λ (h : Hop). CallersStand p h.to) (sym is) (subst (CallersStand p) e before)
succeeds p s hop (jumps at callers instr names distance to e there jump place is) before =
    subst (λ (h : Hop). CallersStand p h.to) (sym is) (subst (CallersStand p) e before)
succeeds p s hop (calls at callers instr called e there is) before =
    subst (λ (h : Hop). CallersStand p h.to) (sym is) ((instr, operand.Method called, there), subst (CallersStand p) e before)
succeeds p s hop (returns at caller callers instr call names called e there is_return calling is) before =
    subst (λ (h : Hop). CallersStand p h.to) (sym is) (subst (CallersStand p) e before).1
succeeds p s hop (ends at instr names e there is_return is) before =
    subst (λ (h : Hop). CallersStand p h.to) (sym is) _

landed : (p : Prog) (thread taken : ℕ) (places : List Place) (to : Spot) → Lands p thread taken places to → CallersStand p places → StandsIn p to.position
landed p thread count places to (spec.ends none is) before = subst (λ (s : Spot). StandsIn p s.position) (sym is) _
landed p thread count places to (spec.stands stand at callers are is counted same asked) before =
    subst (λ (s : Spot). StandsIn p s.position) (sym is) (subst (CallersStand p) (sym same) before)

onward : (p : Prog) (limit : ℕ) (from to : Spot) → StepsTo p limit from to → StandsIn p from.position → StandsIn p to.position
onward p limit from to (taken, begins places at first straight lands) before =
    landed p from.thread 0 places to lands (subst (CallersStand p) (sym first.start) _)
onward p limit from to (taken, steps stand hop at successor is few lands) before =
    landed p from.thread _ hop.to to lands (succeeds p (innermost_first stand.places) hop successor (subst (StandsIn p) at before))

walked : (p : Prog) (limit : ℕ) (a b : Spot) → Walk (StepsTo p limit) a b → StandsIn p a.position → StandsIn p b.position
walked p limit a b here stands = stands
walked p limit a b (on step walk) stands = walked p limit _ b walk (onward p limit a _ step stands)

-- ---- The instruction that comes next

-- a list that begins with a place where an instruction stands
pub record BeginsAt (p : Prog) (s : List Place) : Type 0 where
  pub at : Place
  pub callers : List Place
  pub are : s ≡ at ∷ callers
  pub stands : SomeStands p at

first_place : (p : Prog) (s : List Place) (hop : Hop) → Successor p s hop → BeginsAt p s
first_place p s hop (falls at callers instr names e there through none is) = record { at = at; callers = callers; are = e; stands = (instr, names, there) }
first_place p s hop (jumps at callers instr names distance to e there jump place is) = record { at = at; callers = callers; are = e; stands = (instr, names, there) }
first_place p s hop (calls at callers instr called e there is) = record { at = at; callers = callers; are = e; stands = (instr, operand.Method called, there) }
first_place p s hop (returns at caller callers instr call names called e there is_return calling is) =
    record { at = at; callers = caller ∷ callers; are = e; stands = (instr, names, there) }
first_place p s hop (ends at instr names e there is_return is) = record { at = at; callers = []; are = e; stands = (instr, names, there) }

abbrev same_position : Position → Position → Type 0
same_position a b = a ≡ b

no_begin : (stand : Standing) → same_position (At stand) Begin → ⊥
no_begin stand e = cc

one_standing : (a b : Standing) → same_position (At a) (At b) → a ≡ b
one_standing a b e = cc

no_end : (stand : Standing) → same_position (At stand) End → ⊥
no_end stand e = cc

goes_on : (p : Prog) (limit : ℕ) (spot last : Spot) (stand : Standing) → spot.position ≡ At stand → last.position ≡ End → Walk (StepsTo p limit) spot last →
    BeginsAt p (innermost_first stand.places)
goes_on p limit spot last stand at end here = absurd (no_end stand (sym at ∙ end))
goes_on p limit spot last stand at end (on (taken, begins places first enters straight lands) walk) = absurd (no_begin stand (sym at ∙ first))
goes_on p limit spot last stand at end (on (taken, steps other hop is successor took few lands) walk) =
    let same : other ≡ stand = one_standing other stand (sym is ∙ at) in
    subst (λ (s : Standing). BeginsAt p (innermost_first s.places)) same (first_place p (innermost_first other.places) hop successor)

-- ---- Place by place

all_stand : (p : Prog) (s : List Place) → BeginsAt p s → CallersStand p s → AllStand p s
all_stand p s first callers =
    subst (AllStand p) (sym first.are) (first.stands, subst (CallersStand p) first.are callers)

in_reverse : (xs : List CodePlace) (c : CodePlace) → Contains xs c → Contains (reverse xs) c
in_reverse [] c there = absurd (contains_nil c there)
in_reverse (x ∷ xs) c there = subst (λ (ys : List CodePlace). Contains ys c) (sym (reverse-append (x ∷ []) xs)) (elim (contains_cases x c xs there) [
  | inl e ↦ Contains-append_right (reverse xs) (x ∷ []) c (subst (λ (y : CodePlace). Contains (x ∷ []) y) e (contains_here x []))
  | inr later ↦ Contains-append_left (reverse xs) (x ∷ []) c (in_reverse xs c later)
])

stands_there : (p : Prog) (cs : List CodePlace) (c : CodePlace) → AllStand p (places_of cs) → Contains cs c → SomeStands p (place_of c)
stands_there p [] c all there = absurd (contains_nil c there)
stands_there p (x ∷ cs) c all there = elim (contains_cases x c cs there) [
  | inl e ↦ subst (λ (y : CodePlace). SomeStands p (place_of y)) e all.0
  | inr later ↦ stands_there p cs c all.1 later
]

-- something is known where an instruction stands
called_there : (p : Prog) (m : Method) (pc : ℕ) (instr : Instr) (names : Operand) → IsFit p → Contains p.methods m → IsInstruction m pc instr names → IsCalledThere p names
called_there p m pc instr (operand.Method id) fit reached at =
    let called = fit.called m pc instr id reached at in
    (Some called.0.frame, (called.0, called.1, refl))
called_there p m pc instr (operand.Constant n) fit reached at = (None, refl)
called_there p m pc instr (operand.Variable n) fit reached at = (None, refl)
called_there p m pc instr (operand.Monitor n) fit reached at = (None, refl)
called_there p m pc instr (operand.Make n) fit reached at = (None, refl)
called_there p m pc instr (operand.Target n) fit reached at = (None, refl)
called_there p m pc instr (operand.Wrap n) fit reached at = (None, refl)
called_there p m pc instr (operand.Start n) fit reached at = (None, refl)
called_there p m pc instr (operand.Join n) fit reached at = (None, refl)
called_there p m pc instr (operand.Alive n) fit reached at = (None, refl)
called_there p m pc instr operand.Out fit reached at = (None, refl)
called_there p m pc instr operand.Print fit reached at = (None, refl)
called_there p m pc instr operand.Nothing fit reached at = (None, refl)

known_there : (p : Prog) (c : CodePlace) → IsFit p → SomeStands p (place_of c) → IsThere p c
known_there p c fit (instr, names, at) =
    let m = at.method in
    let reached = at.is_method.reached in
    let many = fit.typed m reached in
    let within = slice_get_within m.listing at.instruction.place (record { pc = c.pc; instr = instr }) at.instruction.listed in
    let state = there_is m.typed at.instruction.place (omega (arith, within, many)) in
    let called = called_there p m c.pc instr names fit reached at.instruction in (
      record { frame = m.frame; instr = instr; names = names; called = called.0; state = state.0 },
      record {
        method = m;
        is_method = at.is_method;
        frame = refl;
        instruction = at.instruction;
        state = state.1;
        called = called.1;
      },
    )

-- ---- Nodes

standing_node : (p : Prog) (limit : ℕ) (spot : Spot) (stand : Standing) → IsFit p → IsNode p limit spot → spot.position ≡ At stand → IsThereAt p stand
standing_node p limit spot stand fit node at =
    let first = goes_on p limit spot (end_of spot.thread) stand at refl node.can_end in
    let callers = subst (StandsIn p) at (walked p limit (begin_of node.is_reached.thread) spot node.is_reached.walk _) in
    let all = all_stand p (innermost_first stand.places) first callers in
    let longer : length (innermost_first stand.places) ≡ length stand.places = length-map (reverse stand.places) place_of ∙ length-reverse stand.places in
    let begun = ap length first.are in
    record {
      there = λ c inside. known_there p c fit (stands_there p (reverse stand.places) c all (in_reverse stand.places c inside));
      some = omega (arith, longer, begun);
    }

pub may_be_node : (p : Prog) (limit : ℕ) (spot : Spot) → IsFit p → IsNode p limit spot → MayBeNode p spot
may_be_node p limit spot fit node = by spot.position refl
  where
    by : (position : Position) → spot.position ≡ position → MayStand p position
    by Begin is = _
    by (At stand) is = standing_node p limit spot stand fit node is
    by End is = _
