-- No way through straight code takes a jump, so the bounds leave out nothing but wide ints.
use Rattle.std.proofs.Common.{refl, ◌≡◌, ◌↔◌, ◌+◌, ℕ, zero, suc, Bool, false, List, [], ◌∷◌, Some, None, slice_get, length, if◌then◌else◌, arith, sym, ◌∙◌, ap, subst}
use Rattle.std.proofs.lemmas.Option.{none-some, same_Some}
use Rattle.opcodes.specs.Instructions.{jump_of, length_of}
use Rattle.opcodes.specs.declared.instruction.Instr.{Instr}
use Rattle.opcodes.specs.declared.listed.Listed.{Listed}
use Rattle.program.specs.Bounds.{IsWhole, Place, Hop, IsRoute, backward_jumps, StandsAt, Successor, falls, jumps, calls, returns, ends}
use Rattle.program.specs.Program.{Prog}
use Rattle.program.specs.Straight.{IsStraight, IsStraightFrom}
use Rattle.program.specs.declared.method.Method.{Method}
use Rattle.program.specs.declared.method.Operand.{Operand}
use Rattle.program.specs.declared.stack_type.StackType.{StackType}
use Rattle.straight.proofs.UnderWay.{main_is}

-- no instruction of straight code is a jump
no_jump_at : (variables max_stack pc : ℕ) (types : List StackType) (items : List Listed) (names : List Operand) (j : ℕ) (x : Listed) → IsStraightFrom variables max_stack pc types items names →
    slice_get items j ≡ Some x → jump_of x.instr ≡ None
no_jump_at variables max_stack pc types [] names j x h is = absurd h
no_jump_at variables max_stack pc types (item ∷ []) [] j x h is = absurd h
no_jump_at variables max_stack pc types (item ∷ []) (o ∷ []) zero x h is = ap jump_of (ap (λ (y : Listed). y.instr) (sym (same_Some item x is)) ∙ h.returns)
no_jump_at variables max_stack pc types (item ∷ []) (o ∷ []) (suc j) x h is = absurd (none-some x is)
no_jump_at variables max_stack pc types (item ∷ []) (o ∷ q ∷ names) j x h is = absurd h
no_jump_at variables max_stack pc types (item ∷ next ∷ items) [] j x h is = absurd h
no_jump_at variables max_stack pc types (item ∷ next ∷ items) (o ∷ names) zero x (after, step, rest) is =
    ap (λ (y : Listed). jump_of y.instr) (sym (same_Some item x is)) ∙ step.goes_on.no_jump
no_jump_at variables max_stack pc types (item ∷ next ∷ items) (o ∷ names) (suc j) x (after, step, rest) is =
    no_jump_at variables max_stack (pc + length_of item.instr) after (next ∷ items) names j x rest is

no_jump : (p : Prog) (h : IsStraight p) (at : Place) (instr : Instr) (names : Operand) → StandsAt p at instr names → jump_of instr ≡ None
no_jump p h at instr names stands =
    no_jump_at (length p.variables) h.main.frame.max_stack 0 [] h.main.listing h.main.operands stands.instruction.place (record { pc = at.pc; instr = instr }) h.code
    (subst (λ (m : Method). slice_get m.listing stands.instruction.place ≡ Some (record { pc = at.pc; instr = instr })) (sym (main_is p h at.method stands.method stands.is_method)) stands.instruction.listed)

forward : (p : Prog) (h : IsStraight p) (s : List Place) (hop : Hop) → Successor p s hop → hop.backward ≡ false
forward p h s hop (falls at callers instr names is_s stands through nothing is) = ap (λ (x : Hop). x.backward) is
forward p h s hop (jumps at callers instr names distance to is_s stands jump target is) = absurd (none-some distance (sym (no_jump p h at instr names stands) ∙ jump))
forward p h s hop (calls at callers instr called is_s stands is) = ap (λ (x : Hop). x.backward) is
forward p h s hop (returns at caller callers instr call names called is_s stands return is_call is) = ap (λ (x : Hop). x.backward) is
forward p h s hop (ends at instr names is_s stands return is) = ap (λ (x : Hop). x.backward) is

no_backward : (p : Prog) (h : IsStraight p) (s t : List Place) (hops : List Hop) → IsRoute p s hops t → backward_jumps hops ≡ 0
no_backward p h s t [] route = refl
no_backward p h s t (hop ∷ hops) (first, route) = rw (forward p h s hop first) (no_backward p h hop.to t hops route)

pub is_whole : (p : Prog) (most width : ℕ) → IsStraight p → IsWhole p most width ↔ (width ≡ 32)
is_whole p most width h = (
  (λ whole. whole.wide),
  (λ wide. record { wide = wide; enough = λ k s t hops begins route. omega (arith, no_backward p h s t hops route) }),
)
