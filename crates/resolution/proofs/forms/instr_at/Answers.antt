use Rattle.std.proofs.Common.{◌∙◌, sym}
use Rattle.std.proofs.lemmas.List.{get_or_default}
use Rattle.opcodes.specs.declared.instruction.Instr.TheVariants.{Nop}
use Rattle.opcodes.specs.declared.listed.Listed.{Listed}
use Rattle.opcodes.proofs.Searches.{none_there}
use Rattle.std.proofs.Common.{ap}
use Rattle.resolution.proofs.FormPlaces.{found_there, found_nowhere, nowhere_past, stands_there}
use Rattle.resolution.proofs.forms.instr_at.Goals as goal

pub returns-then-place-listing : goal.returns-then-place-listing
returns-then-place-listing c =
    found_nowhere c.args.listing.now c.args.pc
    (λ i. nowhere_past c.args.listing.now c.args.pc c.place_from-place.result i c.place_from-place.ensures.before c.if-place-listing.true)

pub returns-then-from-pc : goal.returns-then-from-pc
returns-then-from-pc c =
    let none : Listed = record { pc = 0; instr = Nop } in
    found_nowhere c.args.listing.now c.args.pc
    (λ i. none_there c.args.listing.now c.args.pc c.place_from-place.result i c.requires c.place_from-place.ensures.before c.place_from-place.ensures.behind
    (λ d same. c.if-from-pc.true (c.from.ensures ∙ ap (λ (l : Listed). l.pc) (get_or_default c.args.listing.now c.place_from-place.result none d c.if-place-listing.false) ∙ same)))

pub returns : goal.returns
returns c =
    let none : Listed = record { pc = 0; instr = Nop } in
    found_there c.args.listing.now c.args.pc _ c.requires
    (stands_there c.args.listing.now c.args.pc c.place_from-place.result none c.if-place-listing.false (sym c.from.ensures ∙ c.if-from-pc.false))
