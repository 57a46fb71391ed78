-- The facts that the passes gather are those that are so.
use Rattle.std.proofs.Common.{◌≡◌, ◌≤◌, ◌↔◌, ℕ, Bool, true, false, cond, List, [], ◌∷◌, Option, Some, Contains, length, filter, refl, sym, ◌∙◌, ap, subst, inl, inr, arith}
use Rattle.std.proofs.lemmas.Option.{slice_get_within}
use Rattle.program.proofs.Lists.{contains_at, contains_map, contains_mapped, contains_nil, contains_here, contains_later, contains_cases, place_of}
use Rattle.program.specs.Program.{Prog}
use Rattle.program.specs.declared.program.Variable.{Variable}
use Rattle.action_orders.specs.declared.action.Action.{Action}
use Rattle.action_orders.specs.declared.action.Entry.{Entry}
use Rattle.action_orders.specs.Execution.{Exec}
use Rattle.action_orders.specs.Actions.{Of, Var, IsWrite, entries, var_of}
use Rattle.action_orders.specs.WellFormed.{HasId}
use Rattle.entry_tables.specs.Added.{IsGiven, AreAdded}
use Rattle.execution_form.specs.Facts.{Stated, HasVariable, HasVolatile, HasMonitor, HasWrite, IsSo, AreFacts, variable_of, volatile_by, volatile_named, monitor_of}
use Rattle.execution_form.specs.Needs.{written_by, synced_by, sync_id, IsSyncId}
use Rattle.execution_form.proofs.Needing.{is_write, write_states, sync_is, is_sync}
use Rattle.execution_form.proofs.Forming.{has_id, entry_with}

one : {X : Type 0} {x y : X} → Some x ≡ Some y → x ≡ y
one e = cc

-- an item of the list gives this
given_at : {X T : Type 0} (given : X → Option T) (xs : List X) (x : X) (t : T) → Contains xs x → given x ≡ Some t → IsGiven given xs (length xs) t
given_at given xs x t there gives =
    let (k, at) = place_of xs x there in
    record { item = x; place = k; before = slice_get_within xs k x at; at = at; gives = gives }

given_there : {X T : Type 0} (given : X → Option T) (xs : List X) (i : ℕ) (t : T) → IsGiven given xs i t → (x : X) × Contains xs x × (given x ≡ Some t)
given_there given xs i t g = (g.item, contains_at xs g.place g.item g.at, g.gives)

-- ---- Volatile variables

kept : (xs : List Variable) (x : Variable) → Contains (filter (λ v. v.volatile) xs) x → Contains xs x × (x.volatile ≡ true)
kept [] x h = absurd (contains_nil x h)
kept (y ∷ xs) x h = go y.volatile refl (λ there. kept xs x there) h
  where
    go : (b : Bool) → y.volatile ≡ b → (Contains (filter (λ v. v.volatile) xs) x → Contains xs x × (x.volatile ≡ true)) →
        Contains (cond b (y ∷ filter (λ v. v.volatile) xs) (filter (λ v. v.volatile) xs)) x → Contains (y ∷ xs) x × (x.volatile ≡ true)
    go true e rest there = elim (contains_cases y x (filter (λ v. v.volatile) xs) there) [
      | inl same ↦ (subst (Contains (y ∷ xs)) same (contains_here y xs), sym (ap (λ (v : Variable). v.volatile) same) ∙ e)
      | inr later ↦ (let (inside, is) = rest later in (contains_later y x xs inside, is))
    ]
    go false e rest there = let (inside, is) = rest there in (contains_later y x xs inside, is)

not_both : (b : Bool) → b ≡ false → b ≡ true → ⊥
not_both b f t = cc

keeps : (xs : List Variable) (x : Variable) → Contains xs x → x.volatile ≡ true → Contains (filter (λ v. v.volatile) xs) x
keeps [] x h is = absurd (contains_nil x h)
keeps (y ∷ xs) x h is = go y.volatile refl (λ there. keeps xs x there is)
  where
    go : (b : Bool) → y.volatile ≡ b → (Contains xs x → Contains (filter (λ v. v.volatile) xs) x) → Contains (cond b (y ∷ filter (λ v. v.volatile) xs) (filter (λ v. v.volatile) xs)) x
    go true e rest = elim (contains_cases y x xs h) [
      | inl same ↦ subst (Contains (y ∷ filter (λ v. v.volatile) xs)) same (contains_here y (filter (λ v. v.volatile) xs))
      | inr later ↦ contains_later y x (filter (λ v. v.volatile) xs) (rest later)
    ]
    go false e rest = elim (contains_cases y x xs h) [
      | inl same ↦ (let never : ⊥ = not_both y.volatile e (ap (λ (v : Variable). v.volatile) same ∙ is) in absurd never)
      | inr later ↦ rest later
    ]

volatile_is : (b : Bool) (class name : List ℕ) (s : Stated) → volatile_by b class name ≡ Some s → (b ≡ true) × (HasVolatile class name ≡ s)
volatile_is true class name s e = (refl, one e)
volatile_is false class name s e = cc

-- ---- What the program has

variable_so : (p : Prog) (e : Exec) (s : Stated) → IsGiven variable_of p.variables (length p.variables) s → IsSo p e s
variable_so p e s g = let (v, there, is) = given_there variable_of p.variables (length p.variables) s g in subst (IsSo p e) (one is) (contains_mapped var_of p.variables v there)

volatile_so : (p : Prog) (e : Exec) (s : Stated) → IsGiven volatile_named p.variables (length p.variables) s → IsSo p e s
volatile_so p e s g =
    let (v, there, is) = given_there volatile_named p.variables (length p.variables) s g in
    let (volatile, same) = volatile_is v.volatile v.class v.name s is in
    subst (IsSo p e) same (contains_mapped var_of (filter (λ x. x.volatile) p.variables) v (keeps p.variables v there volatile))

monitor_so : (p : Prog) (e : Exec) (s : Stated) → IsGiven monitor_of p.monitors (length p.monitors) s → IsSo p e s
monitor_so p e s g = let (m, there, is) = given_there monitor_of p.monitors (length p.monitors) s g in subst (IsSo p e) (one is) there

write_so : (p : Prog) (e : Exec) (s : Stated) → IsGiven written_by (entries e) (length (entries e)) s → IsSo p e s
write_so p e s g =
    let (v, write, same) = write_states g.item.action s g.gives in
    subst (IsSo p e) (sym same) (g.item.action, has_id e g.place g.item g.at, write)

-- ---- All passes

pub record ArePassed (p : Prog) (ns : List Entry) (variable volatile monitor write : List Stated) : Type 0 where
  pub variables : AreAdded [] variable_of p.variables (length p.variables) variable
  pub volatiles : AreAdded variable volatile_named p.variables (length p.variables) volatile
  pub monitors : AreAdded volatile monitor_of p.monitors (length p.monitors) monitor
  pub writes : AreAdded monitor written_by ns (length ns) write

gathered : (p : Prog) (e : Exec) (a b c d : List Stated) → ArePassed p (entries e) a b c d → AreFacts p e d
gathered p e a b c d passed s = (to, from s)
  where
    first : Contains a s → IsSo p e s
    first h = elim ((passed.variables s).0 h) [ inl never ↦ absurd (contains_nil s never) | inr g ↦ variable_so p e s g ]

    second : Contains b s → IsSo p e s
    second h = elim ((passed.volatiles s).0 h) [ inl early ↦ first early | inr g ↦ volatile_so p e s g ]

    third : Contains c s → IsSo p e s
    third h = elim ((passed.monitors s).0 h) [ inl early ↦ second early | inr g ↦ monitor_so p e s g ]

    to : Contains d s → IsSo p e s
    to h = elim ((passed.writes s).0 h) [ inl early ↦ third early | inr g ↦ write_so p e s g ]

    from : (t : Stated) → IsSo p e t → Contains d t
    from (HasVariable class name) so =
        let (v, there, is) = contains_map var_of p.variables (record { class = class; name = name }) so in
        let gives : variable_of v ≡ Some (HasVariable class name) = ap (λ (w : Var). Some (HasVariable w.class w.name)) is in
        (passed.writes _).1 (inl ((passed.monitors _).1 (inl ((passed.volatiles _).1 (inl ((passed.variables _).1 (inr (given_at variable_of p.variables v (HasVariable class name) there gives))))))))
    from (HasVolatile class name) so =
        let (v, there, is) = contains_map var_of (filter (λ x. x.volatile) p.variables) (record { class = class; name = name }) so in
        let (inside, volatile) = kept p.variables v there in
        let gives : volatile_named v ≡ Some (HasVolatile class name) = ap (λ (x : Bool). volatile_by x v.class v.name) volatile ∙ ap (λ (w : Var). Some (HasVolatile w.class w.name)) is in
        (passed.writes _).1 (inl ((passed.monitors _).1 (inl ((passed.volatiles _).1 (inr (given_at volatile_named p.variables v (HasVolatile class name) inside gives))))))
    from (HasMonitor class) so = (passed.writes _).1 (inl ((passed.monitors _).1 (inr (given_at monitor_of p.monitors class (HasMonitor class) so refl))))
    from (HasWrite id class name) (x, has, write) =
        let n = entry_with e id x has in
        let gives : written_by n.entry ≡ Some (HasWrite id class name) =
        is_write n.entry.action (record { class = class; name = name }) (subst (λ (y : Action). IsWrite (record { class = class; name = name }) (Of y)) (sym n.action) write) ∙ ap (λ (i : ℕ). Some (HasWrite i class name)) n.named in
        (passed.writes _).1 (inr (given_at written_by (entries e) n.entry (HasWrite id class name) (contains_at (entries e) n.place n.entry n.at) gives))

pub are_facts : (p : Prog) (e : Exec) (ns : List Entry) (a b c d : List Stated) → ArePassed p ns a b c d → ns ≡ entries e → AreFacts p e d
are_facts p e ns a b c d passed same = gathered p e a b c d (subst (λ (xs : List Entry). ArePassed p xs a b c d) same passed)

-- ---- Identifiers of synchronization actions

pub are_sync : (e : Exec) (ids : List ℕ) (id : ℕ) (ns : List Entry) → AreAdded [] synced_by ns (length ns) ids → ns ≡ entries e → Contains ids id ↔ IsSyncId e id
are_sync e ids id ns added same = all (subst (λ (xs : List Entry). AreAdded [] synced_by xs (length xs) ids) same added)
  where
    all : AreAdded [] synced_by (entries e) (length (entries e)) ids → Contains ids id ↔ IsSyncId e id
    all h = (
      λ there. elim ((h id).0 there) [
        | inl never ↦ absurd (contains_nil id never)
        | inr g ↦ (let (sync, named) = sync_is g.item.action id g.gives in (g.item.action, subst (λ (i : ℕ). HasId e i g.item.action) named (has_id e g.place g.item g.at), sync))
      ],
      λ is. (let (a, has, sync) = is in let n = entry_with e id a has in
          let gives : synced_by n.entry ≡ Some id = ap (λ (x : Action). sync_id x) n.action ∙ is_sync a sync ∙ ap Some has.named in
          (h id).1 (inr (given_at synced_by (entries e) n.entry id (contains_at (entries e) n.place n.entry n.at) gives))),
    )

-- ---- A pass ends behind the last item

pub to_the_end : {X T : Type 0} (old : List T) (given : X → Option T) (xs : List X) (i : ℕ) (new : List T) → length xs ≤ i → AreAdded old given xs i new → AreAdded old given xs (length xs) new
to_the_end old given xs i new past added t = (
  λ h. elim ((added t).0 h) [ inl early ↦ inl early | inr g ↦ inr (record { item = g.item; place = g.place; before = slice_get_within xs g.place g.item g.at; at = g.at; gives = g.gives }) ],
  λ h. elim h [ inl early ↦ (added t).1 (inl early) | inr g ↦ (let below = g.before in (added t).1 (inr (record { item = g.item; place = g.place; before = omega arith; at = g.at; gives = g.gives }))) ],
)
