-- Actions against single events.
use Rattle.std.proofs.Common.{◌≡◌, ◌↔◌, ℕ, ℤ, true, Bool, IsTrue, List, Some, Bor, Contains, slice_get, slice_index_or, refl, sym, ◌∙◌, ap, ap₂, subst, nat_eq, FitsSigned, of_z, to_z, w32}
use Rattle.std.proofs.lemmas.Bool.{eqb-true}
use Rattle.std.proofs.lemmas.Int.{to_z-of_z}
use Rattle.std.proofs.lemmas.Option.{same_Some}
use Rattle.program.proofs.Lists.{contains_at, place_of}
use Rattle.program.specs.Program.{Prog}
use Rattle.program.specs.declared.event.Event.TheVariants as event
use Rattle.program.specs.declared.program.Variable.{Variable}
use Rattle.action_orders.specs.declared.action.Action.{Action}
use Rattle.action_orders.specs.declared.action.ActionOperand.TheVariants as operand
use Rattle.action_orders.specs.declared.action.Entry.{Entry}
use Rattle.action_orders.specs.declared.action.Note.{Note}
use Rattle.action_orders.specs.declared.action.Note.TheVariants as note
use Rattle.action_orders.specs.Execution.{Exec}
use Rattle.action_orders.specs.Actions.{Of, Var, entries, var_of}
use Rattle.action_orders.specs.Runs.{Gets, HasEvent}
use Rattle.orders.specs.declared.answers.Orders.{Orders}
use Rattle.orders.specs.Flat.{IsOrdered}
use Rattle.orders.specs.Made.{IsMade}
use Rattle.orders.proofs.Places.{action_at, one}
use Rattle.orders.proofs.Said.{exec, prog}
use Rattle.orders.proofs.Sync.{id_place}
use Rattle.orders.proofs.Tabled.{at_number, number_at}
use Rattle.volatile_reads.proofs.Named.{one_note, one_variable}
use Rattle.volatile_reads.proofs.Placed.{read_entry}
use Rattle.thread_events.specs.Gotten.{GetsValue, is_read, is_write}
use Rattle.thread_events.specs.Named.{NamesVariable}
use Rattle.thread_events.proofs.Entries.{of_read, reads_of, writes_of}
use Rattle.thread_events.proofs.Reading.{one_value}

pub same_int : (x y : ℤ) → FitsSigned w32 x → FitsSigned w32 y → nat_eq (of_z w32 x) (of_z w32 y) ≡ true → x ≡ y
same_int x y fits also e = sym (to_z-of_z w32 x fits) ∙ ap (to_z w32) (eqb-true _ _ e) ∙ to_z-of_z w32 y also

-- ---- Variables by number

pub named : (p : Prog) (number : ℕ) (declared : Variable) (class name : List ℕ) (b : Bool) → slice_get p.variables number ≡ Some declared → class ≡ declared.class → (IsTrue b ↔ (name ≡ declared.name)) →
    IsTrue b ↔ NamesVariable p (operand.Variable class name) number
named p number declared class name b at class_is iff = (
  λ h. (var_of declared, (declared, at, refl), ap₂ operand.Variable class_is (iff.0 h)),
  λ (v, (other, there, is), o). iff.1 (let name_is : name ≡ v.name = cc in name_is ∙ sym (ap (λ (u : Var). u.name) is) ∙ ap (λ (d : Variable). d.name) (same_Some other declared (sym there ∙ at))),
)

-- ---- The entry with an identifier

pub entry_of_id : (o : Orders) (id place : ℕ) (x : Bor Entry) (n : Entry) → IsMade o → slice_get o.flat.ids.keys place ≡ Some id → x ≡ slice_index_or o.flat.entries.items place x → Contains (entries (exec o)) n → n.action.id ≡ id → x.now ≡ n
entry_of_id o id place x n made key is there named_id =
    let (a, at, same) = at_number o.flat place id made.tables key in
    let (found, act) = read_entry o place a x made at is in
    let (j, at_j) = place_of (entries (exec o)) n there in
    let places = id_place (prog o) (exec o) place j x.now.action n.action made.ordered (action_at (exec o) place x.now found) (action_at (exec o) j n at_j) (ap (λ (b : Action). b.id) act ∙ same ∙ sym named_id) in
    one (sym found ∙ ap (slice_get (entries (exec o))) places ∙ at_j)

pub known_entry : (o : Orders) (id : ℕ) (n : Entry) → IsMade o → Contains (entries (exec o)) n → n.action.id ≡ id → Contains o.flat.ids.keys id
known_entry o id n made there named_id =
    let (j, at_j) = place_of (entries (exec o)) n there in
    contains_at o.flat.ids.keys j id (number_at o.flat j n.action made.tables (action_at (exec o) j n at_j) ∙ ap Some named_id)

-- ---- Reads and writes

module _ (p : Prog) (e : Exec) (ord : IsOrdered p e) (n : Entry) (there : Contains (entries e) n) (number : ℕ) (value : ℤ) (b : Bool) where
  pub read_fits : (got : ℤ) → is_read n.action.kind ≡ true → NamesVariable p n.action.operand number → GetsValue e n got → (IsTrue b ↔ (got ≡ value)) → IsTrue b ↔ HasEvent p e n (event.Read number value)
  read_fits got is (v, variable_is, o) gets iff = (
    λ h. (let g : GetsValue e n value = subst (GetsValue e n) (iff.0 h) gets in
        let same : g.variable ≡ v = one_variable g.variable v (sym (of_read g.variable n.action g.read).1 ∙ o) in
        (v, variable_is, reads_of v n.action is o, subst (λ (u : Var). Gets e u (Of n.action) value) same g.gets)),
    λ (u, is_u, read, seen). iff.1 (one_value p e ord n got value there gets (record { variable = u; read = read; gets = seen })),
  )

  pub write_fits : is_write n.action.kind ≡ true → NamesVariable p n.action.operand number → (IsTrue b ↔ (n.note ≡ note.Stores value)) → IsTrue b ↔ HasEvent p e n (event.Write number value)
  write_fits is (v, variable_is, o) iff = (
    λ h. (v, variable_is, writes_of v n.action is o, subst (Contains (entries e)) (ap (λ (m : Note). record { action = n.action; note = m }) (iff.0 h)) there),
    λ (u, is_u, write, stores). iff.1 (let (i, at) = place_of (entries e) n there in one_note p e i n (note.Stores value) ord at stores),
  )
