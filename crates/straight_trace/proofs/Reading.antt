-- The walk along the code that takes the values of the reads.
use Rattle.std.proofs.Common.{◌≡◌, ◌<◌, ◌≤◌, ◌+◌, ◌++◌, ℕ, ℤ, List, ◌∷◌, length, drop, get_or, sym, ◌∙◌, ap, subst, arith}
use Rattle.std.proofs.lemmas.List.{append_assoc, drop-drop, drop_more}
use Rattle.opcodes.specs.declared.listed.Listed.{Listed}
use Rattle.program.specs.declared.method.Operand.{Operand}
use Rattle.straight.specs.Doing.{doing_of}
use Rattle.straight_trace.specs.Reads.{move_of, used_by, read_by, reads_among}
use Rattle.straight_trace.specs.declared.reads.IntMove.{IntMove}
use Rattle.straight_trace.specs.declared.reads.IntMove.TheVariants as moves

few : (moved : IntMove) → used_by moved ≤ 1
few moves.Read = omega arith
few moves.Other = omega arith
few moves.None = omega arith

-- before the instruction at a place: what was read, and what the instructions behind it read of the ints that are left
pub record IsReading (items : List Listed) (names : List Operand) (place next : ℕ) (ints reads : List ℤ) : Type 0 where
  pub parts : reads ++ reads_among (drop place items) (drop place names) (drop next ints) ≡ reads_among items names ints
  pub near : next ≤ place

abbrev pub move_at : List Listed → List Operand → ℕ → Listed → Operand → IntMove
move_at items names place x y = move_of (doing_of (get_or items place x).instr (get_or names place y))

pub reading_goes : (items : List Listed) (names : List Operand) (place next next_after : ℕ) (ints reads reads_after : List ℤ) (x : Listed) (y : Operand) (moved : IntMove) → place < length items →
    place < length names → IsReading items names place next ints reads → moved ≡ move_at items names place x y → reads_after ≡ reads ++ read_by moved (drop next ints) →
    next_after ≡ next + used_by moved → IsReading items names (place + 1) next_after ints reads_after
reading_goes items names place next next_after ints reads reads_after x y moved in_items in_names h is picked used = record {
  parts = rw (picked, left) (append_assoc reads (read_by moved (drop next ints)) _ ∙ subst (λ (m : IntMove). reads ++ (read_by m (drop next ints) ++ reads_among (drop (place + 1) items) (drop (place + 1) names) (drop (used_by m) (drop next ints))) ≡ reads_among items names ints) (sym is) there);
  near = omega (arith, h.near, few moved, used);
}
  where
    left : drop next_after ints ≡ drop (used_by moved) (drop next ints)
    left = ap (λ (n : ℕ). drop n ints) used ∙ sym (drop-drop (used_by moved) next ints)

    items_are : drop place items ≡ get_or items place x ∷ drop (place + 1) items
    items_are = drop_more items place x in_items

    names_are : drop place names ≡ get_or names place y ∷ drop (place + 1) names
    names_are = drop_more names place y in_names

    there : reads ++ reads_among (get_or items place x ∷ drop (place + 1) items) (get_or names place y ∷ drop (place + 1) names) (drop next ints) ≡ reads_among items names ints
    there = subst (λ (ns : List Operand). reads ++ reads_among (get_or items place x ∷ drop (place + 1) items) ns (drop next ints) ≡ reads_among items names ints) names_are
        (subst (λ (xs : List Listed). reads ++ reads_among xs (drop place names) (drop next ints) ≡ reads_among items names ints) items_are h.parts)
