use Rattle.std.proofs.Common.{◌≡◌, ◌<◌, List, length, get_or, refl, subst, sym}
use Rattle.std.proofs.lemmas.Option.{slice_get-get_or}
use Rattle.opcodes.specs.declared.instruction.Instr.TheVariants.{Nop}
use Rattle.opcodes.specs.declared.listed.Listed.{Listed}
use Rattle.std.specs.List.{slice_get}
use Rattle.std.specs.Prelude.{Some}
use Rattle.typing.proofs.look.pc_at.Goals as goal

pub returns : goal.returns
returns c =
    let none : Listed = record { pc = 0; instr = Nop } in
    let P : List Listed → Type 0 = λ xs. (c.args.place < length xs) in
    let lt : c.args.place < length c.as_slice-listing.result.now = subst P (sym c.as_slice-listing.ensures.items) c.requires in
    let Q : List Listed → Type 0 = λ xs. slice_get xs c.args.place ≡ Some (get_or c.as_slice-listing.result.now c.args.place none) in
    (get_or c.as_slice-listing.result.now c.args.place none, subst Q c.as_slice-listing.ensures.items (slice_get-get_or c.as_slice-listing.result.now c.args.place none lt), refl, c.as_slice-listing.ensures.by_pc)
