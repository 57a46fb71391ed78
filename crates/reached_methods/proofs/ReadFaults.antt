-- What the refusals of a code say of its faults.
use Rattle.std.proofs.Common.{◌≡◌, ◌<◌, ◌⊎◌, inl, inr, ℕ, List, refl, sym, ap, subst, ◌∙◌, arith}
use Rattle.relations.specs.Least.{IsLeast}
use Rattle.opcodes.specs.Faults.{IsUnknown, IsCut, MissesTarget, HasFault, LeavesCode, LiesInside, unknown, cut, leaves, inside}
use Rattle.opcodes.specs.Reached.{Reached}
use Rattle.opcodes.proofs.Unique.{same_length, same_number}
use Rattle.reached_methods.specs.CodeFaults.{rank}
use Rattle.reached_methods.specs.FirstFault.{IsFirstOf, HasNone}
use Rattle.reached_methods.specs.Surveys.{HasReadFault, unknown_number, cut as cut_short, misses}
use Rattle.reached_methods.specs.declared.fault.Fault.{Fault}
use Rattle.reached_methods.specs.declared.refusal.CodeKind.{CodeKind}
use Rattle.reached_methods.specs.declared.refusal.CodeKind.TheVariants.{Opcode, CutInstruction, JumpTarget}
use Rattle.reached_methods.specs.declared.refusal.Detail.{Detail}
use Rattle.reached_methods.specs.declared.refusal.Detail.TheVariants.{Nothing, Number}

-- a reached place with a fault
reached_place : (code : List ℕ) (pc : ℕ) → HasFault code pc → Reached code pc
reached_place code pc (unknown n r u) = r
reached_place code pc (cut r c) = r
reached_place code pc (leaves r l) = r
reached_place code pc (inside r l) = r

misses_fault : (code : List ℕ) (pc : ℕ) → Reached code pc → LeavesCode code pc ⊎ LiesInside code pc → HasFault code pc
misses_fault code pc r (inl l) = leaves r l
misses_fault code pc r (inr l) = inside r l

place_fault : (code : List ℕ) (pc : ℕ) (kind : CodeKind) (detail : Detail) → HasReadFault code pc kind detail → HasFault code pc
place_fault code pc kind detail (unknown_number n r u k d) = unknown n r u
place_fault code pc kind detail (cut_short r c k d) = cut r c
place_fault code pc kind detail (misses r m k d) = misses_fault code pc r m.misses

unknown_decodes : (code : List ℕ) (pc n : ℕ) → IsUnknown code pc n → (m : MissesTarget code pc) → ⊥
unknown_decodes code pc n u m = u.unknown m.instr (same_number code pc _ _ m.decodes.number u.there)

unknown_cut : (code : List ℕ) (pc n : ℕ) → IsUnknown code pc n → IsCut code pc → ⊥
unknown_cut code pc n u c = u.unknown c.instr (same_number code pc _ _ c.there u.there)

cut_decodes : (code : List ℕ) (pc : ℕ) → IsCut code pc → MissesTarget code pc → ⊥
cut_decodes code pc c m =
    omega (arith, same_length c.instr m.instr (same_number code pc _ _ c.there m.decodes.number), c.beyond, m.decodes.whole)

-- the kinds at one place exclude each other
one_rank : (code : List ℕ) (pc : ℕ) (kind other : CodeKind) (detail other_detail : Detail) → HasReadFault code pc kind detail → HasReadFault code pc other other_detail →
    rank kind ≡ rank other
one_rank code pc kind other detail other_detail (unknown_number n r u k d) (unknown_number n' r' u' k' d') = ap rank k ∙ sym (ap rank k')
one_rank code pc kind other detail other_detail (unknown_number n r u k d) (cut_short r' c k' d') = absurd (unknown_cut code pc n u c)
one_rank code pc kind other detail other_detail (unknown_number n r u k d) (misses r' m k' d') = absurd (unknown_decodes code pc n u m)
one_rank code pc kind other detail other_detail (cut_short r c k d) (unknown_number n r' u k' d') = absurd (unknown_cut code pc n u c)
one_rank code pc kind other detail other_detail (cut_short r c k d) (cut_short r' c' k' d') = ap rank k ∙ sym (ap rank k')
one_rank code pc kind other detail other_detail (cut_short r c k d) (misses r' m k' d') = absurd (cut_decodes code pc c m)
one_rank code pc kind other detail other_detail (misses r m k d) (unknown_number n r' u k' d') = absurd (unknown_decodes code pc n u m)
one_rank code pc kind other detail other_detail (misses r m k d) (cut_short r' c k' d') = absurd (cut_decodes code pc c m)
one_rank code pc kind other detail other_detail (misses r m k d) (misses r' m' k' d') = ap rank k ∙ sym (ap rank k')

none_earlier : (code : List ℕ) (least pc : ℕ) (kind other : CodeKind) (detail other_detail : Detail) → IsLeast (HasFault code) least → HasReadFault code least kind detail →
    HasReadFault code pc other other_detail → (pc < least) ⊎ ((pc ≡ least) × (rank other < rank kind)) → ⊥
none_earlier code least pc kind other detail other_detail is_least here there (inl lt) =
    omega (arith, is_least.least pc (place_fault code pc other other_detail there))
none_earlier code least pc kind other detail other_detail is_least here there (inr h) =
    let P : ℕ → Type 0 = λ n. HasReadFault code n other other_detail in
    omega (arith, one_rank code least other kind other_detail detail (subst P h.0 there) here, h.1)

-- the fault at the least place is the first
pub first_read : (code : List ℕ) (fault : Fault) → IsLeast (HasFault code) fault.pc → HasReadFault code fault.pc fault.kind fault.detail → IsFirstOf (HasReadFault code) fault
first_read code fault is_least here = record {
  holds = here;
  first = λ pc kind detail there earlier. none_earlier code fault.pc pc fault.kind kind fault.detail detail is_least here there earlier;
}

pub refused_opcode : (code : List ℕ) (pc number : ℕ) → IsLeast (HasFault code) pc → IsUnknown code pc number →
    IsFirstOf (HasReadFault code) (record { pc = pc; kind = Opcode; detail = Number number })
refused_opcode code pc number is_least u =
    first_read code _ is_least (unknown_number number (reached_place code pc is_least.holds) u refl refl)

pub refused_cut : (code : List ℕ) (pc : ℕ) → IsLeast (HasFault code) pc → IsCut code pc →
    IsFirstOf (HasReadFault code) (record { pc = pc; kind = CutInstruction; detail = Nothing })
refused_cut code pc is_least c = first_read code _ is_least (cut_short (reached_place code pc is_least.holds) c refl refl)

pub refused_target : (code : List ℕ) (pc : ℕ) → IsLeast (HasFault code) pc → MissesTarget code pc →
    IsFirstOf (HasReadFault code) (record { pc = pc; kind = JumpTarget; detail = Nothing })
refused_target code pc is_least m = first_read code _ is_least (misses (reached_place code pc is_least.holds) m refl refl)

-- a code without faults
pub none_read : (code : List ℕ) → ((pc : ℕ) → HasFault code pc → ⊥) → HasNone (HasReadFault code)
none_read code none = record { none = λ pc kind detail f. none pc (place_fault code pc kind detail f) }
