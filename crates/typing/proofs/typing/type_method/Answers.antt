use Rattle.std.proofs.Common.{◌≡◌, ◌<◌, ℕ, List, Option, Some, length, sym, subst, arith}
use Rattle.std.proofs.lemmas.Option.{slice_get-get_or}
use Rattle.opcodes.specs.declared.instruction.Instr.TheVariants.{Nop}
use Rattle.opcodes.specs.declared.listed.Listed.{Listed}
use Rattle.typing.specs.Levels.{kept_at}
use Rattle.typing.specs.Listings.{IsToldOf}
use Rattle.typing.specs.declared.joined.Joined.{Joined}
use Rattle.typing.proofs.Final.{all_kept, all_typed}
use Rattle.typing.proofs.typing.type_method.Goals as goal

pub told_states-requires : goal.told_states-requires
told_states-requires c =
    let m = c.args.method.now in
    let level = c.in_ok-states.ensures.ok in
    let P : List (Option Joined) → Type 0 = λ xs. (q : ℕ) → q < length xs → (x : Joined) × (kept_at xs q ≡ Some x) in
    let none : Listed = record { pc = 0; instr = Nop } in
    subst P (sym c.deref.ensures.value) (λ q lt. let inside : q < length m.listing = omega (arith, level.1.level.long) in
    all_kept m level.0 c.in_ok-states.states.items level.1 c.requires.symbols c.requires.reached q _ (slice_get-get_or m.listing q none inside))

pub returns-in-Ok-clause-ok : goal.returns-in-Ok-clause-ok
returns-in-Ok-clause-ok c =
    let m = c.args.method.now in
    let level = c.in_ok-states.ensures.ok in
    let P : List (Option Joined) → Type 0 = λ xs. IsToldOf xs (length xs) c.in-Ok.told in
    all_typed m level.0 c.in_ok-states.states.items c.in-Ok.told c.as_slice-by_pc.ensures.by_pc level.1 c.requires.symbols c.requires.reached (subst P c.deref.ensures.value c.in-Ok.ensures.ok)
