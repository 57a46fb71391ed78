-- Each read of straight code sees the last write before it, or the default write where there is none.
use Rattle.std.proofs.Common.{◌≡◌, ◌<◌, ◌≤◌, ◌+◌, ℕ, ℤ, List, ◌++◌, length, Some, None, Option, slice_get, refl, sym, ◌∙◌, ap, subst, arith, inl, inr, ◌⊎◌, Contains}
use Rattle.std.proofs.lemmas.List.{append_assoc}
use Rattle.std.proofs.lemmas.List.Elements.{Contains-append_left, Contains-append_cases}
use Rattle.opcodes.specs.declared.listed.Listed.{Listed}
use Rattle.program.specs.Program.{Prog}
use Rattle.program.specs.Straight.{AreApart, ChangesStack, constant, read, write, out, print}
use Rattle.program.specs.declared.kind.Kind.TheVariants as kind
use Rattle.program.specs.declared.method.Operand.{Operand}
use Rattle.program.specs.declared.program.Variable.{Variable}
use Rattle.program.specs.declared.stack_type.StackType.{StackType}
use Rattle.program.proofs.Lists.{contains_nil, contains_one}
use Rattle.action_orders.specs.declared.action.ActionOperand.{ActionOperand}
use Rattle.action_orders.specs.declared.action.ActionOperand.TheVariants as on
use Rattle.action_orders.specs.declared.action.Entry.{Entry}
use Rattle.action_orders.specs.declared.action.Note.TheVariants as note
use Rattle.straight.specs.Doing.{doing_of}
use Rattle.straight.specs.Meaning.{State, after, entry_at, cell_of, operand_of, named_by, top_of}
use Rattle.straight.specs.Walk.{IsReady}
use Rattle.straight.specs.declared.doing.Doing.{Doing}
use Rattle.straight.specs.declared.doing.Doing.TheVariants.{Push, Read, Write, PushOut, Print, Nothing}
use Rattle.straight.proofs.Known.{IsWriteTo, HasSource, Knows, PushesInt, knows_after, numbered}
use Rattle.straight.proofs.Rising.{Rising, rising_member}

-- among all entries, the write with this identifier is the last one to the variable before the read
abbrev pub SeesLast : List Entry → ℕ → ActionOperand → Option ℕ → Type 0
SeesLast all id o None = (x : Entry) → Contains all x → IsWriteTo o x → x.action.id < id → ⊥
SeesLast all id o (Some seen) = (w : Entry) × Contains all w × IsWriteTo o w × (w.action.id ≡ seen) × (seen < id) ×
    ((x : Entry) → Contains all x → IsWriteTo o x → x.action.id < id → x.action.id ≤ seen)

-- an entry of straight code that is neither the first nor the last
pub data IsMiddle (p : Prog) (n : Entry) : Type 0 where
  reads : (v : ℕ) (w : Variable) (seen : Option ℕ) → slice_get p.variables v ≡ Some w →
      n ≡ record { action = record { thread = 0; id = n.action.id; kind = kind.Read; operand = on.Variable w.class w.name }; note = note.Sees seen } → IsMiddle p n
  writes : (v : ℕ) (w : Variable) (value : ℤ) → slice_get p.variables v ≡ Some w →
      n ≡ record { action = record { thread = 0; id = n.action.id; kind = kind.Write; operand = on.Variable w.class w.name }; note = note.Stores value } → IsMiddle p n
  prints : n ≡ record { action = record { thread = 0; id = n.action.id; kind = kind.Print; operand = on.Nothing }; note = note.Nothing } → IsMiddle p n

-- what is known before an instruction comes with the entries that follow from there on
pub record Stands (p : Prog) (all : List Entry) (id : ℕ) (done rest : List Entry) (s : State) : Type 0 where
  pub knows : Knows p id done s
  pub parts : all ≡ done ++ rest
  pub rising : Rising id rest

-- a write before the instruction's place is done
write_done : (p : Prog) (all : List Entry) (id : ℕ) (done rest : List Entry) (s : State) (x : Entry) → Stands p all id done rest s → Contains all x → x.action.id < id → Contains done x
write_done p all id done rest s x h inside before = go (Contains-append_cases done rest x (subst (λ (xs : List Entry). Contains xs x) h.parts inside))
  where
    go : Contains done x ⊎ Contains rest x → Contains done x
    go (inl old) = old
    go (inr later) = absurd (omega (arith, before, rising_member id rest x h.rising later))

source_last : (p : Prog) (all : List Entry) (id : ℕ) (done rest : List Entry) (s : State) (o : ActionOperand) (seen : Option ℕ) (value : ℤ) → Stands p all id done rest s →
    HasSource done o seen value → SeesLast all id o seen
source_last p all id done rest s o None value h (zero_is, nothing) = λ x inside writes before. nothing x (write_done p all id done rest s x h inside before) writes
source_last p all id done rest s o (Some seen) value h (w, last) = (
  w,
  subst (λ (xs : List Entry). Contains xs w) (sym h.parts) (Contains-append_left done rest w last.inside),
  last.writes,
  last.named,
  omega (arith, h.knows.before w last.inside, last.named),
  λ x inside writes before. last.last x (write_done p all id done rest s x h inside before) writes,
)

-- what holds of a middle entry of the whole list
pub record IsPlaced (p : Prog) (all : List Entry) (n : Entry) : Type 0 where
  pub middle : IsMiddle p n
  pub sees : (o : ActionOperand) (seen : Option ℕ) → n.action.kind ≡ kind.Read → n.action.operand ≡ o → n.note ≡ note.Sees seen → SeesLast all n.action.id o seen

read_write : kind.Write ≡ kind.Read → ⊥
read_write e = cc

read_print : kind.Print ≡ kind.Read → ⊥
read_print e = cc

pub same_seen : (a b : Option ℕ) → note.Sees a ≡ note.Sees b → a ≡ b
same_seen a b e = cc

pub placed_at : (p : Prog) (all : List Entry) (id : ℕ) (done rest : List Entry) (s : State) (d : Doing) (n : Entry) → IsReady (length p.variables) s.stack d →
    Stands p all id done rest s → Contains (entry_at p id s d) n → IsPlaced p all n
placed_at p all id done rest s (Push k) n ready h inside = absurd (contains_nil n inside)
placed_at p all id done rest s (Read v) n ready h inside = go (numbered p v ready)
  where
    go : (w : Variable) × (slice_get p.variables v ≡ Some w) → IsPlaced p all n
    go (w, is) =
        let operand_is : operand_of p v ≡ on.Variable w.class w.name = ap named_by is in
        let here : Entry = record { action = record { thread = 0; id = id; kind = kind.Read; operand = operand_of p v }; note = note.Sees (cell_of s v).seen } in
        subst (IsPlaced p all) (contains_one here n inside) (record {
          middle = reads v w (cell_of s v).seen is (rw operand_is refl);
          sees = λ o seen is_kind is_operand is_note.
              subst (λ (x : ActionOperand). SeesLast all id x seen) (sym operand_is ∙ is_operand)
              (subst (λ (x : Option ℕ). SeesLast all id (on.Variable w.class w.name) x) (same_seen (cell_of s v).seen seen is_note)
              (source_last p all id done rest s (on.Variable w.class w.name) (cell_of s v).seen (cell_of s v).value h (h.knows.known v w is).source));
        })
placed_at p all id done rest s (Write v) n ready h inside = go (numbered p v ready.0)
  where
    go : (w : Variable) × (slice_get p.variables v ≡ Some w) → IsPlaced p all n
    go (w, is) =
        let operand_is : operand_of p v ≡ on.Variable w.class w.name = ap named_by is in
        let here : Entry = record { action = record { thread = 0; id = id; kind = kind.Write; operand = operand_of p v }; note = note.Stores (top_of s.stack) } in
        subst (IsPlaced p all) (contains_one here n inside) (record {
          middle = writes v w (top_of s.stack) is (rw operand_is refl);
          sees = λ o seen is_kind is_operand is_note. absurd (read_write is_kind);
        })
placed_at p all id done rest s PushOut n ready h inside = absurd (contains_nil n inside)
placed_at p all id done rest s Print n ready h inside =
    let here : Entry = record { action = record { thread = 0; id = id; kind = kind.Print; operand = on.Nothing }; note = note.Nothing } in
    subst (IsPlaced p all) (contains_one here n inside) (record {
      middle = prints refl;
      sees = λ o seen is_kind is_operand is_note. absurd (read_print is_kind);
    })
placed_at p all id done rest s Nothing n ready h inside = absurd (contains_nil n inside)

-- the int that a constant pushes is one
pub pushes_int : (item : Listed) (o : Operand) (before types : List StackType) → ChangesStack item.instr o before types → PushesInt (doing_of item.instr o)
pushes_int item o before types (constant n names_is is_int after_is) = rw names_is is_int
pushes_int item o before types (read index v instr_is names_is after_is) = rw (names_is, instr_is) tt
pushes_int item o before types (write index v instr_is names_is before_is) = rw (names_is, instr_is) tt
pushes_int item o before types (out index instr_is names_is after_is) = rw names_is tt
pushes_int item o before types (print names_is before_is) = rw names_is tt

-- after one more instruction
pub stands_after : (p : Prog) (all : List Entry) (id : ℕ) (done : List Entry) (s : State) (d : Doing) (later : List Entry) → AreApart p.variables → IsReady (length p.variables) s.stack d → PushesInt d →
    Rising (id + 1) later → Stands p all id done (entry_at p id s d ++ later) s → Stands p all (id + 1) (done ++ entry_at p id s d) later (after id s d)
stands_after p all id done s d later apart ready is_int rising h = record {
  knows = knows_after p id done s d apart ready is_int h.knows;
  parts = h.parts ∙ sym (append_assoc done (entry_at p id s d) later);
  rising = rising;
}
