-- Before the first place at `pc` or behind it all are before `pc`, and from it on none is: the instruction stands at that place.
use Rattle.std.proofs.Common.{◌≡◌, ◌<◌, ◌≤◌, ℕ, List, length, Some, slice_get, get_or, arith, ap, subst, inl, inr}
use Rattle.std.specs.List.{AllWithin}
use Rattle.std.proofs.lemmas.Bool.{cases_lt}
use Rattle.std.proofs.lemmas.Option.{get_or_from_slice_get, slice_get_within}
use Rattle.opcodes.specs.Listing.{IsByPc}
use Rattle.opcodes.specs.declared.listed.Listed.{Listed}
use Rattle.program.proofs.accessors.place_of.Goals as goal

same_place : (xs : List Listed) (item : Listed) (k place : ℕ) → IsByPc xs → AllWithin (λ l. l.pc < item.pc) xs 0 place →
    AllWithin (λ l. item.pc ≤ l.pc) xs place (length xs) → slice_get xs k ≡ Some item → k ≡ place
same_place xs item k place by_pc before behind is = elim (cases_lt k place) [
  | inl lt ↦ absurd (omega (arith, before k item (omega arith) lt, at))
  | inr le ↦ elim (cases_lt place k) [
    | inl lt ↦ absurd (omega (arith, by_pc place k item lt within, behind place item (omega arith) (omega (arith, lt, within)), at))
    | inr ge ↦ omega (arith, le, ge)
  ]
]
  where
    within : k < length xs
    within = slice_get_within xs k item is

    at : (get_or xs k item).pc ≡ item.pc
    at = ap (λ (l : Listed). l.pc) (get_or_from_slice_get xs k item item is)

pub returns : goal.returns
returns c =
    let (k, listed) = c.requires.stands in
    let (instr, is) = listed in (
      instr,
      subst (λ (i : ℕ). slice_get c.args.listing.now i ≡ Some (record { pc = c.args.pc; instr = instr }))
          (same_place c.args.listing.now (record { pc = c.args.pc; instr = instr }) k c.place_from.result c.requires.by_pc c.place_from.ensures.before c.place_from.ensures.behind is) is,
    )
