-- The values that reads get, one by one.
use Rattle.std.proofs.Common.{◌≡◌, ℕ, ℤ, pos, true, Option, Some, None, Contains, slice_get, refl, sym, ◌∙◌, ap, subst}
use Rattle.program.proofs.Lists.{contains_at, place_of}
use Rattle.program.specs.Program.{Prog}
use Rattle.action_orders.specs.declared.action.Action.{Action}
use Rattle.action_orders.specs.declared.action.Entry.{Entry}
use Rattle.action_orders.specs.declared.action.Note.{Note}
use Rattle.action_orders.specs.declared.action.Note.TheVariants as note
use Rattle.action_orders.specs.Execution.{Exec}
use Rattle.action_orders.specs.Actions.{Act, Default, Of, Var, IsNamed, IsWrite, Sees, Stores, actions, entries}
use Rattle.orders.specs.Flat.{IsOrdered}
use Rattle.orders.proofs.Places.{action_at, at_of, entry_at}
use Rattle.orders.proofs.Sync.{has_id}
use Rattle.volatile_reads.proofs.Named.{named_once, one_note, one_variable, seen_named}
use Rattle.thread_events.specs.Gotten.{GetsValue, IsStoredBy, is_read, is_write}
use Rattle.thread_events.proofs.Entries.{fits, of_read, of_write, read_operand, reads_of, write_note}

module _ (p : Prog) (e : Exec) (ord : IsOrdered p e) where
  -- ---- What a write stores

  -- the write has an entry, which notes what it stores
  pub write_entry : (v : Var) (a : Action) → Contains (actions (entries e)) a → IsWrite v (Of a) → (x : ℤ) × Contains (entries e) (record { action = a; note = note.Stores x })
  write_entry v a there write =
      let (i, at) = at_of p e a there in
      let (m, is_m, act) = entry_at e i a at in
      let inside = contains_at (entries e) i m is_m in
      let (thread, own) = fits p e m ord inside in
      let (x, stores) = write_note m.action.kind m.note own.note (ap (λ (b : Action). is_write b.kind) act ∙ (of_write v a write).0) in
      (x, subst (λ (n : Entry). Contains (entries e) n) (same m a x act stores) inside)
    where
      same : (m : Entry) (a : Action) (x : ℤ) → m.action ≡ a → m.note ≡ note.Stores x → m ≡ record { action = a; note = note.Stores x }
      same m a x act stores = ap (λ (b : Action). record { action = b; note = m.note }) act ∙ ap (λ (n : Note). record { action = a; note = n }) stores

  -- the value that is stored under an identifier, or by default
  abbrev pub value_named : Option ℕ → ℤ → Type 0
  value_named None value = value ≡ pos 0
  value_named (Some id) value = IsStoredBy e id value

  named_stores : (v : Var) (seen : Option ℕ) (w : Act) (value : ℤ) → IsNamed e v seen w → IsWrite v w → value_named seen value → Stores e w value
  named_stores v None w value named write zero = subst (λ (x : Act). Stores e x value) (sym named) zero
  named_stores v (Some id) w value (a, there, named, is) write stored =
      let (x, entry) = write_entry v a there (subst (IsWrite v) is write) in
      let same : value ≡ x = stored (record { action = a; note = note.Stores x }) x entry named refl in
      subst (λ (y : Act). Stores e y value) (sym is) (subst (λ (y : ℤ). Contains (entries e) (record { action = a; note = note.Stores y })) (sym same) entry)

  -- ---- What a read gets

  pub gets : (n : Entry) (seen : Option ℕ) (value : ℤ) → Contains (entries e) n → ((w : Option ℕ) → n.note ≡ note.Sees w → seen ≡ w) → value_named seen value → is_read n.action.kind ≡ true → GetsValue e n value
  gets n seen value there noted stored is =
      let (i, at) = place_of (entries e) n there in
      let (thread, own) = fits p e n ord there in
      let (v, operand) = read_operand n.action.kind n.action.operand own.operand is in
      let read = reads_of v n.action is operand in
      let (w, sees, action, write) = (ord.form n.action.id).write n.action v (has_id e i n.action p (action_at e i n at)) read in
      record { variable = v; read = read; gets = (w, sees, named_stores v seen w value (seen_named p e i n v w seen ord at noted sees) write stored) }

  -- ---- Each read gets one value

  one_stored : (w : Act) (x y : ℤ) → Stores e w x → Stores e w y → x ≡ y
  one_stored (Default v) x y a b = a ∙ sym b
  one_stored (Of w) x y a b =
      let (j, at) = place_of (entries e) (record { action = w; note = note.Stores x }) a in
      let same : note.Stores x ≡ note.Stores y = one_note p e j (record { action = w; note = note.Stores x }) (note.Stores y) ord at b in
      cc

  pub one_value : (n : Entry) (x y : ℤ) → Contains (entries e) n → GetsValue e n x → GetsValue e n y → x ≡ y
  one_value n x y there a b =
      let (i, at) = place_of (entries e) n there in
      let vars : a.variable ≡ b.variable = one_variable a.variable b.variable (sym (of_read a.variable n.action a.read).1 ∙ (of_read b.variable n.action b.read).1) in
      go i at vars a.gets b.gets
    where
      go : (i : ℕ) → slice_get (entries e) i ≡ Some n → {u v : Var} → u ≡ v → (w : Act) × Sees e u (Of n.action) w × Stores e w x → (w : Act) × Sees e v (Of n.action) w × Stores e w y → x ≡ y
      go i at {u} {v} same (w, (s, there_s, operand, named), stores) (w', (s', there_s', operand', named'), stores') =
          let notes : note.Sees s ≡ note.Sees s' = sym (one_note p e i n (note.Sees s) ord at there_s) ∙ one_note p e i n (note.Sees s') ord at there_s' in
          let seen : s ≡ s' = cc in
          let writes : w ≡ w' = named_once p e v s' w w' ord (subst (λ (t : Option ℕ). IsNamed e v t w) seen (subst (λ (t : Var). IsNamed e t s w) same named)) named' in
          one_stored w' x y (subst (λ (z : Act). Stores e z x) writes stores) stores'
