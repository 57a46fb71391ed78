-- The writes that are seen, by notes.
use Rattle.std.proofs.Common.{◌≡◌, ◌↔◌, ◌⊎◌, ℕ, List, Option, Some, None, IfNone, Bool, true, false, IsTrue, Contains, length, map, refl, sym, ◌∙◌, ap, subst, inl, inr}
use Rattle.program.proofs.Lists.{contains_at}
use Rattle.program.specs.declared.kind.Kind.{Kind}
use Rattle.program.specs.declared.kind.Kind.TheVariants.{Read, VolatileRead}
use Rattle.action_orders.specs.declared.action.Action.{Action}
use Rattle.action_orders.specs.declared.action.ActionOperand.{ActionOperand}
use Rattle.action_orders.specs.declared.action.ActionOperand.TheVariants.{Variable}
use Rattle.action_orders.specs.declared.action.ActionRef.TheVariants.{Id}
use Rattle.action_orders.specs.declared.action.Note.{Note}
use Rattle.action_orders.specs.declared.action.Note.TheVariants as note
use Rattle.action_orders.specs.Execution.{FitsKind, HasNote}
use Rattle.action_orders.specs.Actions.{Act, Default, Of, Var, IsAction, IsNamed, IsRead, Sees, entries, variable}
use Rattle.action_orders.specs.Actions as acts
use Rattle.action_orders.specs.Causality.{Condition1, IsIn}
use Rattle.orders.specs.declared.answers.Orders.{Orders}
use Rattle.orders.specs.Made.{IsMade, IsPlaced, HasNoPlace}
use Rattle.orders.specs.Tables.{action_of}
use Rattle.orders.proofs.Places.{is_action, at_of}
use Rattle.orders.proofs.Sync.{has_id, same_action}
use Rattle.orders.proofs.Said.{exec, prog, at_flat, not_true, var}
use Rattle.least_break.specs.Least.{IsScanned}
use Rattle.volatile_reads.proofs.Named.{one_note}
use Rattle.step_members.specs.declared.stage.Earlier.{Earlier}
use Rattle.step_members.specs.declared.stage.Stage.{Stage}
use Rattle.step_members.specs.declared.table.Member.{Member}
use Rattle.step_members.specs.AtActions.{Condition5At, IsLeastAction}
use Rattle.step_members.specs.Members.{AreMembers, HoldsAt, IsMember, id_of}
use Rattle.step_members.specs.Stages.{IsEarlier, IsStage, program_of, committed_of, step_of}
use Rattle.step_members.proofs.Membership.{committed_member}
use Rattle.step_members.proofs.Parts.{IsNotedAt, entry_fits}
use Rattle.step_members.proofs.Walking.{least_of_members}
use Rattle.same_notes.specs.Notes.{AreSeenAlike, IsOneAction, SeesAlike, SeesAlikeBefore, own_act, whole_act}
use Rattle.same_notes.proofs.Values.{note_fits}

one_sees : (p q : Option ℕ) → note.Sees p ≡ note.Sees q → p ≡ q
one_sees p q e = cc

one_act : (a b : Action) → Of a ≡ Of b → a ≡ b
one_act a b e = cc

no_default : (a : Action) (v : Var) → Of a ≡ Default v → ⊥
no_default a v e = cc

-- ---- One execution

-- what is seen is what the note says
sees_noted : (o : Orders) (i : ℕ) (p : Option ℕ) (v : Var) (w : Act) → IsMade o → IsNotedAt o i (note.Sees p) → Sees (exec o) v (Of (action_of o.flat i)) w ↔ (((action_of o.flat i).operand ≡ variable v) × IsNamed (exec o) v p w)
sees_noted o i p v w made at = (
  λ (seen, there, operand, named). (
    operand,
    subst (λ (q : Option ℕ). IsNamed (exec o) v q w) (sym (one_sees p seen (one_note (prog o) (exec o) i (record { action = action_of o.flat i; note = note.Sees p }) (note.Sees seen) made.ordered at there))) named,
  ),
  λ (operand, named). (p, contains_at (entries (exec o)) i (record { action = action_of o.flat i; note = note.Sees p }) at, operand, named),
)

read_by_kind : (k : Kind) (operand : ActionOperand) (p : Option ℕ) → HasNote k (note.Sees p) → FitsKind k operand → (v : Var) × (operand ≡ variable v) × ((k ≡ Read) ⊎ (k ≡ VolatileRead))
read_by_kind Read (Variable class name) p h g = (var class name, refl, inl refl)
read_by_kind VolatileRead (Variable class name) p h g = (var class name, refl, inr refl)
read_by_kind Read _ p h g = absurd g
read_by_kind VolatileRead _ p h g = absurd g
read_by_kind _ operand p h g = absurd h

-- an action that sees something is a read
pub reads_noted : (o : Orders) (i : ℕ) (p : Option ℕ) → IsMade o → IsNotedAt o i (note.Sees p) → (v : Var) × IsRead v (Of (action_of o.flat i))
reads_noted o i p made at =
    let a = action_of o.flat i in
    let (t, fits) = entry_fits (exec o) i (record { action = a; note = note.Sees p }) made.ordered.shape at in
    let (v, operand, kind) = read_by_kind a.kind a.operand p fits.note fits.operand in
    (v, elim kind [ inl is ↦ acts.plain (is, operand) | inr is ↦ acts.volatile (is, operand) ])

-- and a read sees something
sees_by_kind : (k : Kind) (x : Note) → (k ≡ Read) ⊎ (k ≡ VolatileRead) → HasNote k x → (p : Option ℕ) × (x ≡ note.Sees p)
sees_by_kind Read (note.Sees p) kind h = (p, refl)
sees_by_kind VolatileRead (note.Sees p) kind h = (p, refl)
sees_by_kind Read _ kind h = absurd h
sees_by_kind VolatileRead _ kind h = absurd h
sees_by_kind k x kind h = elim kind [ inl is ↦ cc | inr is ↦ cc ]

noted_reads : (o : Orders) (i : ℕ) (x : Note) (v : Var) → IsMade o → IsNotedAt o i x → IsRead v (Of (action_of o.flat i)) → (p : Option ℕ) × (x ≡ note.Sees p)
noted_reads o i x v made at (acts.plain is) = sees_by_kind (action_of o.flat i).kind x (inl is.0) (note_fits o i x made at)
noted_reads o i x v made at (acts.volatile is) = sees_by_kind (action_of o.flat i).kind x (inr is.0) (note_fits o i x made at)

pub once : (o : Orders) (a b : Action) → IsMade o → IsAction (prog o) (exec o) (Of a) → IsAction (prog o) (exec o) (Of b) → a.id ≡ b.id → a ≡ b
once o a b made in_a in_b same =
    let (i, at_i) = at_of (prog o) (exec o) a in_a in
    let (j, at_j) = at_of (prog o) (exec o) b in_b in
    same_action (prog o) (exec o) i j a b made.ordered at_i at_j same

-- ---- One identifier

placed : (o : Orders) (id i : ℕ) → IsMade o → IsPlaced o id i → IsAction (prog o) (exec o) (Of (action_of o.flat i))
placed o id i made is = is_action (prog o) (exec o) i (action_of o.flat i) (at_flat o i made is.inside)

pub one_exactly : (s : Stage) (id i j : ℕ) (x y : Action) (b : Bool) → IsStage s → IsPlaced s.whole.now id i → IsPlaced s.own.now id j → x ≡ action_of s.whole.now.flat i → y ≡ action_of s.own.now.flat j → (IsTrue b ↔ (x ≡ y)) → IsTrue b ↔ IsOneAction s id
one_exactly s id i j x y b stage in_whole in_own is_x is_y iff = (
  λ fits. record {
    action = action_of s.whole.now.flat i;
    named = in_whole.named;
    in_whole = placed s.whole.now id i stage.whole in_whole;
    in_own = subst (λ (z : Action). IsAction (prog s.own.now) (exec s.own.now) (Of z)) (sym is_y ∙ sym (iff.0 fits) ∙ is_x) (placed s.own.now id j stage.own in_own);
  },
  λ one. iff.1 (is_x ∙ sym (once s.whole.now one.action (action_of s.whole.now.flat i) stage.whole one.in_whole (placed s.whole.now id i stage.whole in_whole) (one.named ∙ sym in_whole.named))
      ∙ once s.own.now one.action (action_of s.own.now.flat j) stage.own one.in_own (placed s.own.now id j stage.own in_own) (one.named ∙ sym in_own.named) ∙ sym is_y),
)

absent : (o : Orders) (id : ℕ) (a : Action) → HasNoPlace o id → a.id ≡ id → IsAction (prog o) (exec o) (Of a) → ⊥
absent o id a none named action = let (i, at) = at_of (prog o) (exec o) a action in none i a at named

pub none_whole : (s : Stage) (id : ℕ) (n : Option ℕ) → IfNone n (HasNoPlace s.whole.now id) → n ≡ None → IsTrue false ↔ IsOneAction s id
none_whole s id None none is = (λ never. absurd (not_true false refl never), λ one. absurd (absent s.whole.now id one.action none one.named one.in_whole))
none_whole s id (Some i) none is = cc

pub none_own : (s : Stage) (id : ℕ) → HasNoPlace s.own.now id → IsTrue false ↔ IsOneAction s id
none_own s id none = (λ never. absurd (not_true false refl never), λ one. absurd (absent s.own.now id one.action none one.named one.in_own))

-- ---- Two notes

-- of two names in both executions
named_alike : (s : Stage) (v : Var) (p q : Option ℕ) → IsStage s → AreSeenAlike s (note.Sees p) (note.Sees q) → (w : Act) → IsNamed (exec s.own.now) v q w ↔ IsNamed (exec s.whole.now) v p w
named_alike s v None None stage alike w = (λ h. h, λ h. h)
named_alike s v (Some i) (Some j) stage (same, one) w = (
  λ (a, in_a, id_a, is). (let eq : a ≡ one.action = once s.own.now a one.action stage.own in_a one.in_own (id_a ∙ sym same ∙ sym one.named) in (one.action, one.in_whole, one.named, is ∙ ap Of eq)),
  λ (a, in_a, id_a, is). (let eq : a ≡ one.action = once s.whole.now a one.action stage.whole in_a one.in_whole (id_a ∙ sym one.named) in (one.action, one.in_own, one.named ∙ same, is ∙ ap Of eq)),
)
named_alike s v None (Some j) stage alike w = absurd alike
named_alike s v (Some i) None stage alike w = absurd alike

alike_named : (s : Stage) (v : Var) (p q : Option ℕ) (w : Act) → IsNamed (exec s.own.now) v q w → IsNamed (exec s.whole.now) v p w → AreSeenAlike s (note.Sees p) (note.Sees q)
alike_named s v None None w own whole = tt
alike_named s v (Some i) (Some j) w (b, in_b, id_b, is_b) (a, in_a, id_a, is_a) =
    let eq : a ≡ b = one_act a b (sym is_a ∙ is_b) in
    (sym id_a ∙ ap (λ (z : Action). z.id) eq ∙ id_b, record { action = a; named = id_a; in_whole = in_a; in_own = subst (λ (z : Action). IsAction (prog s.own.now) (exec s.own.now) (Of z)) (sym eq) in_b })
alike_named s v None (Some j) w (b, in_b, id_b, is_b) whole = absurd (no_default b v (sym is_b ∙ whole))
alike_named s v (Some i) None w own (a, in_a, id_a, is_a) = absurd (no_default a v (sym is_a ∙ own))

-- notes of which one names no write
unseen_alike : (s : Stage) (x y : Note) → ((p : Option ℕ) → x ≡ note.Sees p → ⊥) → AreSeenAlike s x y
unseen_alike s (note.Sees p) y never = absurd (never p refl)
unseen_alike s (note.Stores a) y never = tt
unseen_alike s note.Nothing y never = tt

sees_or : (x : Note) → ((p : Option ℕ) × (x ≡ note.Sees p)) ⊎ ((p : Option ℕ) → x ≡ note.Sees p → ⊥)
sees_or (note.Sees p) = inl (p, refl)
sees_or (note.Stores a) = inr (λ p e. cc)
sees_or note.Nothing = inr (λ p e. cc)

pub seen_exactly : (s : Stage) (m : Member) (x y : Note) (b : Bool) → IsStage s → IsMember s m → IsNotedAt s.whole.now m.whole x → IsNotedAt s.own.now m.own y → (IsTrue b ↔ AreSeenAlike s x y) → IsTrue b ↔ SeesAlike s m
seen_exactly s m x y b stage is_m at_x at_y iff = (λ fits. to (iff.0 fits), λ alike. iff.1 (from alike (sees_or x)))
  where
    own_read : (v : Var) → IsRead v (whole_act s m) → IsRead v (own_act s m)
    own_read v read = subst (λ (a : Action). IsRead v (Of a)) is_m.same read

    to : AreSeenAlike s x y → SeesAlike s m
    to alike v w read =
        let (p, is_x) = noted_reads s.whole.now m.whole x v stage.whole at_x read in
        let (q, is_y) = noted_reads s.own.now m.own y v stage.own at_y (own_read v read) in
        let named = named_alike s v p q stage (subst (AreSeenAlike s (note.Sees p)) is_y (subst (λ (n : Note). AreSeenAlike s n y) is_x alike)) w in
        let own = sees_noted s.own.now m.own q v w stage.own (subst (IsNotedAt s.own.now m.own) is_y at_y) in
        let whole = sees_noted s.whole.now m.whole p v w stage.whole (subst (IsNotedAt s.whole.now m.whole) is_x at_x) in
        let operands : (action_of s.whole.now.flat m.whole).operand ≡ (action_of s.own.now.flat m.own).operand = ap (λ (a : Action). a.operand) is_m.same in (
          λ h. (let both = own.0 h in whole.1 (operands ∙ both.0, named.0 both.1)),
          λ h. (let both = whole.0 h in own.1 (sym operands ∙ both.0, named.1 both.1)),
        )

    from : SeesAlike s m → ((p : Option ℕ) × (x ≡ note.Sees p)) ⊎ ((p : Option ℕ) → x ≡ note.Sees p → ⊥) → AreSeenAlike s x y
    from alike (inr never) = unseen_alike s x y never
    from alike (inl (p, is_x)) =
        let noted_x = subst (IsNotedAt s.whole.now m.whole) is_x at_x in
        let (v, read) = reads_noted s.whole.now m.whole p stage.whole noted_x in
        let (q, is_y) = noted_reads s.own.now m.own y v stage.own at_y (own_read v read) in
        let a = action_of s.own.now.flat m.own in
        let (w, sees, action, write) = (stage.own.ordered.form a.id).write a v (has_id (exec s.own.now) m.own a (prog s.own.now) (at_flat s.own.now m.own stage.own is_m.in_own)) (own_read v read) in
        let own = (sees_noted s.own.now m.own q v w stage.own (subst (IsNotedAt s.own.now m.own) is_y at_y)).0 sees in
        let whole = (sees_noted s.whole.now m.whole p v w stage.whole noted_x).0 ((alike v w read).0 sees) in
        subst (λ (n : Note). AreSeenAlike s n y) (sym is_x) (subst (AreSeenAlike s (note.Sees p)) (sym is_y) (alike_named s v p q w own.1 whole.1))

pub seen_before : (s : Stage) (e : Earlier) (m : Member) (id : ℕ) (b : Bool) → id ≡ id_of s m → Contains e.ids.keys id → (IsTrue b ↔ SeesAlike s m) → IsTrue b ↔ SeesAlikeBefore s e m
seen_before s e m id b is there iff = (λ fits _. iff.0 fits, λ alike. iff.1 (alike (subst (Contains e.ids.keys) is there)))

pub not_before : (s : Stage) (e : Earlier) (m : Member) (id : ℕ) → id ≡ id_of s m → (Contains e.ids.keys id → IsTrue false) → IsTrue true ↔ SeesAlikeBefore s e m
not_before s e m id is none = (λ _ there. absurd (not_true false refl (none (subst (Contains e.ids.keys) (sym is) there))), λ _. refl)

-- ---- The condition

pub no_read : (v u : Var) → IsRead v (Default u) → ⊥
no_read v u (acts.plain never) = never
no_read v u (acts.volatile never) = never

pub least_seen : (s : Stage) (e : Earlier) (ms : List Member) (result : Option ℕ) → IsStage s → IsEarlier s e → Condition1 (program_of s) (committed_of s) (step_of s) → AreMembers s (length s.own.now.flat.entries.items) ms →
    IsScanned (HoldsAt ms (SeesAlikeBefore s e)) (map (id_of s) ms) (length ms) result → IsLeastAction (Condition5At (program_of s) (committed_of s) e.names.now (step_of s)) result
least_seen s e ms result stage earlier present are scanned = record {
  defaults = λ u v w read. absurd (no_read v u read);
  least = least_of_members s (length s.own.now.flat.entries.items) ms (SeesAlikeBefore s e) (Condition5At (program_of s) (committed_of s) e.names.now (step_of s)) result are (λ m is_m. is_m.in_own) all one_of scanned;
}
  where
    all : (a : Action) → ((m : Member) → IsMember s m → action_of s.whole.now.flat m.whole ≡ a → SeesAlikeBefore s e m) → Condition5At (program_of s) (committed_of s) e.names.now (step_of s) (Of a)
    all a each v w read before =
        let (m, is_m, same) = committed_member s a stage present (record { action = before.action; member = earlier.grows (Id a.id) before.member }) in
        let own : action_of s.own.now.flat m.own ≡ a = sym is_m.same ∙ same in
        let listed : Contains e.ids.keys (id_of s m) = (earlier.ids (id_of s m)).1 (subst (λ (x : Action). Contains e.names.now (Id x.id)) (sym own) before.member) in
        let alike = each m is_m same listed v w (subst (λ (x : Action). IsRead v (Of x)) (sym same) read) in (
          λ h. subst (λ (x : Action). Sees (committed_of s) v (Of x) w) same (alike.0 (subst (λ (x : Action). Sees (exec s.own.now) v (Of x) w) (sym own) h)),
          λ h. subst (λ (x : Action). Sees (exec s.own.now) v (Of x) w) own (alike.1 (subst (λ (x : Action). Sees (committed_of s) v (Of x) w) (sym same) h)),
        )

    one_of : (m : Member) → IsMember s m → Condition5At (program_of s) (committed_of s) e.names.now (step_of s) (whole_act s m) → SeesAlikeBefore s e m
    one_of m is_m meets listed v w read =
        let before : IsIn (program_of s) (committed_of s) e.names.now (whole_act s m) = record {
          action = is_action (program_of s) (committed_of s) m.whole (action_of s.whole.now.flat m.whole) (at_flat s.whole.now m.whole stage.whole is_m.in_whole);
          member = subst (λ (x : Action). Contains e.names.now (Id x.id)) (sym is_m.same) ((earlier.ids (id_of s m)).0 listed);
        } in
        let both = meets v w read before in (
          λ h. both.0 (subst (λ (x : Action). Sees (exec s.own.now) v (Of x) w) (sym is_m.same) h),
          λ h. subst (λ (x : Action). Sees (exec s.own.now) v (Of x) w) is_m.same (both.1 h),
        )
