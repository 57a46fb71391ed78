-- What is known at a place, from what is found there.
use Rattle.std.proofs.Common.{◌≡◌, ◌<◌, ℕ, Some, slice_get, sym, subst, ap, ◌∙◌}
use native.Mathlib.Omega.{arith}
use Rattle.opcodes.specs.declared.listed.Listed.{Listed}
use Rattle.program.specs.Accessors.{IsKnownIn, IsTypedIn}
use Rattle.program.specs.Program.{Prog}
use Rattle.program.specs.declared.method.Method.{Method}
use Rattle.program.specs.declared.method.Operand.{Operand}
use Rattle.program.specs.declared.value_type.TypedState.{TypedState}
use Rattle.code_paths.specs.declared.place.CodePlace.{CodePlace}
use Rattle.code_paths.proofs.Exact.{alone}
use Rattle.thread_meaning.proofs.Unique.{one_place}
use Rattle.thread_meaning.specs.Outcomes.{IsHere}
use Rattle.thread_meaning.specs.declared.code.Here.{Here}
use Rattle.node_details.specs.Frames.{IsCalledFrame, IsCalledThere, IsKnown, IsThere}

-- what is called is there
pub called_there : (p : Prog) (at : CodePlace) (here : Here) → IsHere p at.method at.pc here → IsThere p at → IsCalledThere p here.names
called_there p at here is there =
    let f = there.0 in
    let k = there.1 in
    let one = alone p at here f.instr f.names is (record { method = k.method; is_method = k.is_method; instruction = k.instruction }) in
    (f.called, subst (λ (n : Operand). IsCalledFrame p n f.called) one.names_is k.called)

-- something is known there
pub typed_there : (p : Prog) (at : CodePlace) (here : Here) → IsHere p at.method at.pc here → IsThere p at → IsKnownIn p at.method here.pc
typed_there p at here is there =
    let f = there.0 in
    let k = there.1 in (
      f.state,
      record {
        method = k.method;
        named = k.is_method;
        place = k.instruction.place;
        listed = (f.instr, k.instruction.listed ∙ ap (λ n. Some (record { pc = n; instr = f.instr })) (sym is.inside.pc_is));
        known = k.state;
      },
    )

-- the frame that is found
pub known_there : (p : Prog) (at : CodePlace) (here : Here) (called : _) (state : TypedState) → IsHere p at.method at.pc here →
    IsCalledFrame p here.names called → IsTypedIn p at.method here.pc state →
    IsKnown p at (record { frame = here.frame; instr = here.instr; names = here.names; called = called; state = state })
known_there p at here called state is calls typed = record {
  method = is.method;
  is_method = is.the_method.is_method;
  frame = is.inside.frame;
  instruction = is.inside.instruction;
  state = subst (λ (m : Method). slice_get m.typed is.inside.instruction.place ≡ Some state) (sym same_method)
      (subst (λ (n : ℕ). slice_get typed.method.typed n ≡ Some state) (sym same) typed.known);
  called = calls;
}
  where
    same_method : is.method ≡ typed.method
    same_method = is.the_method.only typed.method typed.named

    same : is.inside.instruction.place ≡ typed.place
    same = one_place (λ (x y : Listed). x.pc < y.pc) is.method.listing is.inside.instruction.place typed.place
        (record { pc = at.pc; instr = here.instr }) (record { pc = here.pc; instr = typed.listed.0 }) is.inside.by_pc is.inside.instruction.listed
        (subst (λ (m : Method). slice_get m.listing typed.place ≡ Some (record { pc = here.pc; instr = typed.listed.0 })) (sym same_method) typed.listed.1)
        (λ lt. (let e = is.inside.pc_is in omega arith)) (λ lt. (let e = is.inside.pc_is in omega arith))
