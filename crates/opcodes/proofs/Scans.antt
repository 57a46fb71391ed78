-- Steps of the search for the least place with a fault.
use Rattle.std.proofs.Common.{◌≡◌, ◌<◌, ◌≤◌, ◌+◌, ℕ, ℤ, pos, List, Option, Some, None, length, ◌⊎◌, inl, inr, refl, sym, ap, subst, ◌∙◌, arith}
use Rattle.std.specs.Prelude.{◌+ℤ◌, IfSome, IfNone}
use Rattle.std.specs.Option.{option_map}
use Rattle.opcodes.specs.declared.instruction.Instr.{Instr}
use Rattle.opcodes.specs.Instructions.{Decodes, Follows, FallsThrough, Successor, falls, jumps, jump_of, length_of}
use Rattle.std.proofs.lemmas.Bool.{cases_lt}
use Rattle.relations.specs.Path.{Walk, here, on}
use Rattle.relations.specs.Least.{IsLeast}
use Rattle.opcodes.specs.declared.reading.Misread.{Misread}
use Rattle.opcodes.specs.declared.reading.Misread.TheVariants.{Opcode, Cut}
use Rattle.opcodes.specs.Faults.{IsOutside, LeavesCode, LiesInside, HasFault, unknown, cut, leaves, inside}
use Rattle.opcodes.specs.Reached.{Reached}
use Rattle.opcodes.specs.Survey.{IsMisread}
use Rattle.opcodes.proofs.Unique.{decodes_once}
use Rattle.opcodes.proofs.Surveys.{mapped_some, misread_holds}
use Rattle.opcodes.specs.Scan.{IsTargetOutside, LeavesFrom, IsEndBefore}

target_cases : (size pc : ℕ) (instr : Instr) (fall jump : Option ℤ) (P : Type 0) (to : ℤ) →
    IfSome fall (λ z. FallsThrough instr × (z ≡ pos (pc + length_of instr))) → IfNone fall (FallsThrough instr → ⊥) →
    jump ≡ option_map (λ distance. pos pc +ℤ distance) (jump_of instr) →
    (IsTargetOutside size fall → P) → (IsTargetOutside size jump → P) → Successor pc instr to → IsOutside size to → P
target_cases size pc instr None jump P to some none is by_fall by_jump (falls through e) out = absurd (none through)
target_cases size pc instr (Some z) jump P to some none is by_fall by_jump (falls through e) out =
    by_fall (subst (IsOutside size) (e ∙ sym some.1) out)
target_cases size pc instr fall jump P to some none is by_fall by_jump (jumps d there e) out =
    by_jump (subst (IsTargetOutside size) (sym (is ∙ ap (option_map (λ distance. pos pc +ℤ distance)) there)) (subst (IsOutside size) e out))

-- the targets that the code looks at are the successors
pub target_outside : (size pc : ℕ) (instr : Instr) (fall jump : Option ℤ) (P : Type 0) →
    IfSome fall (λ z. FallsThrough instr × (z ≡ pos (pc + length_of instr))) → IfNone fall (FallsThrough instr → ⊥) →
    jump ≡ option_map (λ distance. pos pc +ℤ distance) (jump_of instr) →
    (IsTargetOutside size fall → P) → (IsTargetOutside size jump → P) → LeavesFrom size pc instr → P
target_outside size pc instr fall jump P some none is by_fall by_jump l = target_cases size pc instr fall jump P l.to some none is by_fall by_jump l.successor l.outside

pub jump_leaves : (size pc : ℕ) (instr : Instr) (jump : Option ℤ) →
    jump ≡ option_map (λ distance. pos pc +ℤ distance) (jump_of instr) → IsTargetOutside size jump → LeavesFrom size pc instr
jump_leaves size pc instr None is out = absurd out
jump_leaves size pc instr (Some z) is out =
    let there = mapped_some (jump_of instr) (λ distance. pos pc +ℤ distance) z (sym is) in
    record { to = z; successor = jumps there.0 there.1 there.2; outside = out }

-- a place below the end lies inside an earlier instruction, and no other does
pub lies_inside : (code : List ℕ) (pc end : ℕ) → IsEndBefore code pc end → pc < end → LiesInside code pc
lies_inside code pc end e lt =
    elim e.met [
      | inl none ↦ absurd (omega (arith, none))
      | inr m ↦ record { start = m.0; instr = m.1; reached = m.3.reached; decodes = m.3.decodes; earlier = m.2; inside = omega (arith, m.4) }
    ]

pub not_inside : (code : List ℕ) (pc end : ℕ) → IsEndBefore code pc end → end ≤ pc → LiesInside code pc → ⊥
not_inside code pc end e le i =
    omega (arith, e.covers i.start i.instr i.earlier (record { reached = i.reached; decodes = i.decodes }), i.inside)

pub leaves_code : (code : List ℕ) (pc : ℕ) (instr : Instr) → Decodes code pc instr → LeavesFrom (length code) pc instr → LeavesCode code pc
leaves_code code pc instr d l = record { instr = instr; decodes = d; to = l.to; successor = l.successor; outside = l.outside }

pub leaves_from : (code : List ℕ) (pc : ℕ) (instr : Instr) → Decodes code pc instr → LeavesCode code pc → LeavesFrom (length code) pc instr
leaves_from code pc instr d l =
    let P : Instr → Type 0 = λ i. Successor pc i l.to in
    record { to = l.to; successor = subst P (decodes_once code pc l.instr instr l.decodes d) l.successor; outside = l.outside }

-- an instruction that misses no target is no fault
pub no_fault : (code : List ℕ) (pc : ℕ) (instr : Instr) → Decodes code pc instr → (LeavesCode code pc ⊎ LiesInside code pc → ⊥) → HasFault code pc → ⊥
no_fault code pc instr d neither (unknown number r u) = misread_holds code pc (Opcode number) instr u d
no_fault code pc instr d neither (cut r c) = misread_holds code pc Cut instr c d
no_fault code pc instr d neither (leaves r l) = neither (inl l)
no_fault code pc instr d neither (inside r i) = neither (inr i)

pub misread_fault : (code : List ℕ) (pc : ℕ) (why : Misread) → Reached code pc → IsMisread code pc why → HasFault code pc
misread_fault code pc (Opcode number) r m = unknown number r m
misread_fault code pc Cut r m = cut r m

pub target_fault : (code : List ℕ) (pc : ℕ) → Reached code pc → LeavesCode code pc ⊎ LiesInside code pc → HasFault code pc
target_fault code pc r (inl l) = leaves r l
target_fault code pc r (inr i) = inside r i

pub fault_reached : (code : List ℕ) (pc : ℕ) → HasFault code pc → Reached code pc
fault_reached code pc (unknown number r u) = r
fault_reached code pc (cut r c) = r
fault_reached code pc (leaves r l) = r
fault_reached code pc (inside r i) = r

-- the instructions end behind the last one, where it lies inside none
pub end_more : (code : List ℕ) (pc end : ℕ) (instr : Instr) → IsEndBefore code pc end → Reached code pc → Decodes code pc instr →
    (HasFault code pc → ⊥) → IsEndBefore code (pc + 1) (pc + length_of instr)
end_more code pc end instr e r d faultless =
    let apart : end ≤ pc = elim (cases_lt pc end) [ inl lt ↦ absurd (faultless (inside r (lies_inside code pc end e lt))) | inr le ↦ le ] in
    record {
      covers = λ start i lt s. elim (cases_lt start pc) [
        | inl earlier ↦ omega (arith, e.covers start i earlier s, apart)
        | inr there ↦ (let same : start ≡ pc = omega arith in
            let P : ℕ → Type 0 = λ n. Decodes code n i in
            let one = decodes_once code pc i instr (subst P same s.decodes) d in
            omega (arith, ap length_of one, same))
      ];
      met = inr (pc, instr, omega arith, record { reached = r; decodes = d }, refl);
    }

-- a reached place lies in the code
walk_inside : (code : List ℕ) (a b : ℕ) → a < length code → Walk (Follows code) a b → b < length code
walk_inside code a b lt here = lt
walk_inside code a b lt (on {b = m} f w) = walk_inside code m b f.inside w

pub reached_inside : (code : List ℕ) (pc : ℕ) → 0 < length code → Reached code pc → pc < length code
reached_inside code pc lt r = walk_inside code 0 pc lt r

-- the place with a fault is the least, where those before it have none
pub least_fault : (code : List ℕ) (pc : ℕ) → HasFault code pc → ((m : ℕ) → m < pc → HasFault code m → ⊥) → IsLeast (HasFault code) pc
least_fault code pc h none = record {
  holds = h;
  least = λ m k. elim (cases_lt m pc) [ inl lt ↦ absurd (none m lt k) | inr le ↦ le ];
}
