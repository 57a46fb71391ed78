-- What is known of a spot is one.
use Rattle.std.proofs.Common.{◌≡◌, ◌<◌, ℕ, List, [], ◌∷◌, Option, Some, None, slice_get, refl, sym, ap, ap₂, subst, ◌∙◌}
use native.Mathlib.Omega.{arith}
use Rattle.std.proofs.lemmas.Option.{same_Some}
use Rattle.opcodes.specs.Listing.{IsByPc}
use Rattle.opcodes.specs.declared.listed.Listed.{Listed}
use Rattle.program.specs.Program.{Prog, IsInstruction}
use Rattle.program.specs.declared.method.Frame.{Frame}
use Rattle.program.specs.declared.method.Method.{Method}
use Rattle.program.specs.declared.method.Operand.{Operand}
use Rattle.program.specs.declared.method.Operand.TheVariants as operand
use Rattle.thread_meaning.proofs.Unique.{one_instruction, one_method, one_place}
use Rattle.thread_meaning.specs.Paths.{IsOrdered}
use Rattle.code_paths.specs.declared.place.CodePlace.{CodePlace}
use Rattle.node_details.specs.Frames.{AreKnown, FrameThere, IsCalledFrame, IsKnown}

one_called : (p : Prog) (names : Operand) (a b : Option Frame) → IsOrdered p → IsCalledFrame p names a → IsCalledFrame p names b → a ≡ b
one_called p (operand.Method id) (Some a) (Some b) ordered one other =
    let same = one_method p id one.0 other.0 ordered.distinct one.1 other.1 in
    ap Some (one.2 ∙ ap (λ (m : Method). m.frame) same ∙ sym other.2)
one_called p (operand.Method id) (Some a) None ordered one other = absurd other
one_called p (operand.Method id) None b ordered one other = absurd one
one_called p (operand.Constant n) a b ordered one other = one ∙ sym other
one_called p (operand.Variable n) a b ordered one other = one ∙ sym other
one_called p (operand.Monitor n) a b ordered one other = one ∙ sym other
one_called p (operand.Make n) a b ordered one other = one ∙ sym other
one_called p (operand.Target n) a b ordered one other = one ∙ sym other
one_called p (operand.Wrap n) a b ordered one other = one ∙ sym other
one_called p (operand.Start n) a b ordered one other = one ∙ sym other
one_called p (operand.Join n) a b ordered one other = one ∙ sym other
one_called p (operand.Alive n) a b ordered one other = one ∙ sym other
one_called p operand.Out a b ordered one other = one ∙ sym other
one_called p operand.Print a b ordered one other = one ∙ sym other
one_called p operand.Nothing a b ordered one other = one ∙ sym other

pub one_known : (p : Prog) (at : CodePlace) (f g : FrameThere) → IsOrdered p → IsKnown p at f → IsKnown p at g → f ≡ g
one_known p at f g ordered a b =
    let P : Method → Type 0 = λ m. IsInstruction m at.pc g.instr g.names in
    let there : IsInstruction a.method at.pc g.instr g.names = subst P (sym methods) b.instruction in
    let same = one_instruction a.method at.pc f.instr g.instr f.names g.names by_pc a.instruction there in
    let frames : f.frame ≡ g.frame = a.frame ∙ ap (λ (m : Method). m.frame) methods ∙ sym b.frame in
    let called : f.called ≡ g.called = one_called p f.names f.called g.called ordered a.called (subst (λ (o : Operand). IsCalledFrame p o g.called) (sym same.names) b.called) in
    all_same frames same.instr same.names called states
  where
    methods : a.method ≡ b.method
    methods = one_method p at.method a.method b.method ordered.distinct a.is_method b.is_method

    by_pc : IsByPc a.method.listing
    by_pc = ordered.by_pc a.method a.is_method.reached

    places : a.instruction.place ≡ b.instruction.place
    places = one_place (λ (x y : Listed). x.pc < y.pc) a.method.listing a.instruction.place b.instruction.place
        (record { pc = at.pc; instr = f.instr }) (record { pc = at.pc; instr = g.instr }) by_pc a.instruction.listed
        (subst (λ (m : Method). slice_get m.listing b.instruction.place ≡ Some (record { pc = at.pc; instr = g.instr })) (sym methods) b.instruction.listed)
        (λ lt. omega arith) (λ lt. omega arith)

    states : f.state ≡ g.state
    states = same_Some f.state g.state (sym a.state ∙ ap (λ (m : Method). slice_get m.typed a.instruction.place) methods
        ∙ ap (λ (n : ℕ). slice_get b.method.typed n) places ∙ b.state)

    all_same : f.frame ≡ g.frame → f.instr ≡ g.instr → f.names ≡ g.names → f.called ≡ g.called → f.state ≡ g.state → f ≡ g
    all_same fr i o c s = λ t. record { frame = fr t; instr = i t; names = o t; called = c t; state = s t }

pub one_list_known : (p : Prog) (chain : List CodePlace) (fs gs : List FrameThere) → IsOrdered p → AreKnown p chain fs → AreKnown p chain gs → fs ≡ gs
one_list_known p [] [] [] ordered a b = refl
one_list_known p [] [] (g ∷ gs) ordered a b = absurd b
one_list_known p [] (f ∷ fs) gs ordered a b = absurd a
one_list_known p (c ∷ chain) [] gs ordered a b = absurd a
one_list_known p (c ∷ chain) (f ∷ fs) [] ordered a b = absurd b
one_list_known p (c ∷ chain) (f ∷ fs) (g ∷ gs) ordered a b = ap₂ (λ x xs. x ∷ xs) (one_known p c f g ordered a.0 b.0) (one_list_known p chain fs gs ordered a.1 b.1)
