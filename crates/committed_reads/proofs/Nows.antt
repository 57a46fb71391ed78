-- Whether a write was committed before.
use Rattle.std.proofs.Common.{◌≡◌, ◌<◌, ◌⊎◌, ◌↔◌, ℕ, List, Option, Some, None, Bool, true, false, IsTrue, Contains, slice_index_or, length, refl, sym, ◌∙◌, ap, subst, inl, inr, Bor}
use Rattle.program.specs.Program.{Prog}
use Rattle.action_orders.specs.declared.action.Action.{Action}
use Rattle.action_orders.specs.declared.action.ActionRef.{ActionRef}
use Rattle.action_orders.specs.declared.action.ActionRef.TheVariants as refs
use Rattle.action_orders.specs.declared.action.ActionRef.TheVariants.{Id}
use Rattle.action_orders.specs.declared.action.Entry.{Entry}
use Rattle.action_orders.specs.Actions.{Act, Default, Of, Var, IsAction, Sees, name_of, variables}
use Rattle.action_orders.specs.Causality.{Condition1, IsIn}
use Rattle.orders.specs.declared.answers.Orders.{Orders}
use Rattle.orders.specs.Made.{IsMade, IsPlaced, HasNoPlace}
use Rattle.orders.specs.Tables.{action_of}
use Rattle.orders.proofs.Places.{is_action, at_of}
use Rattle.orders.proofs.Said.{exec, prog, at_flat, not_true, of_default, of_name, var}
use Rattle.step_members.specs.declared.stage.Earlier.{Earlier}
use Rattle.step_members.specs.declared.stage.Stage.{Stage}
use Rattle.step_members.specs.Stages.{IsEarlier, IsStage, program_of, committed_of, step_of}
use Rattle.same_notes.proofs.Writes.{once, reads_noted}
use Rattle.happens_before_reads.specs.Sights.{seen_name}
use Rattle.happens_before_reads.proofs.Naming.{numbered, one_read}
use Rattle.happens_before_reads.proofs.Seeing.{IsNotedAt, is_seen, noted_at, one_seen, name_seen, no_name}
use Rattle.committed_reads.specs.Defaults.{AreDefaults, IsDefaultNumber}
use Rattle.committed_reads.specs.Now.{IsActionOfEither, IsOneOf, SeesCommitted}
use Rattle.committed_reads.proofs.Firsts.{named_sees}

abbrev Was : Stage → Earlier → Act → Type 0
Was s e x = IsIn (program_of s) (committed_of s) e.names.now x

-- ---- By identifier

pub has_not : (s : Stage) (e : Earlier) (id : ℕ) (x : Act) → IsEarlier s e → name_of x ≡ Id id → (Contains e.ids.keys id → IsTrue false) → IsTrue false ↔ Was s e x
has_not s e id x earlier named none = (λ never. absurd (not_true false refl never), λ was. none ((earlier.ids id).1 (subst (Contains e.names.now) named was.member)))

pub has_place : (s : Stage) (e : Earlier) (id k : ℕ) (x : Act) → IsStage s → IsEarlier s e → Condition1 (program_of s) (committed_of s) (step_of s) → Contains e.ids.keys id → IsPlaced s.whole.now id k → IsActionOfEither s x → name_of x ≡ Id id → IsTrue true ↔ Was s e x
has_place s e id k x stage earlier present listed placed either named = (λ _. record { action = there either; member = subst (Contains e.names.now) (sym named) ((earlier.ids id).0 listed) }, λ _. refl)
  where
    there : IsActionOfEither s x → IsAction (program_of s) (committed_of s) x
    there (inl whole) = whole
    there (inr own) =
        let (a, is_a, id_a) = of_name x id named in
        let y = action_of s.whole.now.flat k in
        let in_y : IsAction (program_of s) (committed_of s) (Of y) = is_action (program_of s) (committed_of s) k y (at_flat s.whole.now k stage.whole placed.inside) in
        let member = subst (λ (n : ℕ). Contains e.names.now (Id n)) (sym placed.named) ((earlier.ids id).0 listed) in
        let own_y = present (Of y) (record { action = in_y; member = earlier.grows (Id y.id) member }) in
        let own_a : IsAction (prog s.own.now) (exec s.own.now) (Of a) = subst (IsAction (program_of s) (exec s.own.now)) is_a own in
        let same : y ≡ a = once s.own.now y a stage.own own_y own_a (placed.named ∙ sym id_a) in
        subst (IsAction (program_of s) (committed_of s)) (ap Of same ∙ sym is_a) in_y

pub has_nothing : (s : Stage) (e : Earlier) (id : ℕ) (x : Act) → HasNoPlace s.whole.now id → name_of x ≡ Id id → IsTrue false ↔ Was s e x
has_nothing s e id x none named = (
  λ never. absurd (not_true false refl never),
  λ was. (let (a, is_a, id_a) = of_name x id named in
      let (k, at) = at_of (program_of s) (committed_of s) a (subst (IsAction (program_of s) (committed_of s)) is_a was.action) in
      absurd (none k a at id_a)),
)

-- ---- By the number of a variable

pub one_of : (numbers : List ℕ) (k : ℕ) (n : Option ℕ) (b : Bool) → n ≡ Some k → (IsTrue b ↔ Contains numbers k) → IsTrue b ↔ IsOneOf numbers n
one_of numbers k n b is iff = (λ fits. (k, iff.0 fits, is), λ (c, there, same). iff.1 (subst (Contains numbers) (some_one c k (sym same ∙ is)) there))
  where
    some_one : (c d : ℕ) → Some c ≡ Some d → c ≡ d
    some_one c d e = cc

either_variable : (s : Stage) (v : Var) → IsStage s → IsActionOfEither s (Default v) → Contains (variables (program_of s)) v
either_variable s v stage (inl whole) = whole
either_variable s v stage (inr own) = own

pub default_was : (s : Stage) (e : Earlier) (numbers : List ℕ) (class name : List ℕ) (ref : ActionRef) (n : Option ℕ) (b : Bool) (x : Act) → IsStage s → AreDefaults s.whole.now e.names.now numbers → ref ≡ refs.Default class name → IsDefaultNumber s.whole.now ref n →
    (IsTrue b ↔ IsOneOf numbers n) → IsActionOfEither s x → name_of x ≡ ref → IsTrue b ↔ Was s e x
default_was s e numbers class name ref n b x stage defaults is number iff either named = (
  λ fits. (let (c, there, some) = iff.0 fits in
      let (d, is_d) = numbered s.whole.now v stage.whole variable in
      let other : n ≡ Some d = (number v d is_d).1 is in
      let same : c ≡ d = some_one c d (sym some ∙ other) in
      subst (Was s e) (sym is_x) (record { action = variable; member = (defaults v d is_d).0 (subst (Contains numbers) same there) })),
  λ was. (let (d, is_d) = numbered s.whole.now v stage.whole variable in
      iff.1 (d, (defaults v d is_d).1 (subst (λ (y : Act). Contains e.names.now (name_of y)) is_x was.member), (number v d is_d).1 is)),
)
  where
    v : Var
    v = var class name

    is_x : x ≡ Default (var class name)
    is_x = of_default x class name (named ∙ is)

    variable : Contains (variables (program_of s)) (var class name)
    variable = either_variable s (var class name) stage (subst (IsActionOfEither s) (of_default x class name (named ∙ is)) either)

    some_one : (c d : ℕ) → Some c ≡ Some d → c ≡ d
    some_one c d e = cc

-- ---- What is seen

made_either : (s : Stage) (o : Orders) → IsStage s → (o ≡ s.own.now) ⊎ (o ≡ s.whole.now) → IsMade o
made_either s o stage (inl is) = subst IsMade (sym is) stage.own
made_either s o stage (inr is) = subst IsMade (sym is) stage.whole

action_either : (s : Stage) (o : Orders) (x : Act) → IsStage s → (o ≡ s.own.now) ⊎ (o ≡ s.whole.now) → IsAction (prog o) (exec o) x → IsActionOfEither s x
action_either s o x stage (inl is) action = inr (subst (λ (p : Prog). IsAction p (exec s.own.now) x) stage.program (subst (λ (u : Orders). IsAction (prog u) (exec u) x) is action))
action_either s o x stage (inr is) action = inl (subst (λ (u : Orders). IsAction (prog u) (exec u) x) is action)

pub sees_nothing : (s : Stage) (e : Earlier) (o : Orders) (i : ℕ) (x : Bor Entry) (name : Option ActionRef) → IsStage s → (o ≡ s.own.now) ⊎ (o ≡ s.whole.now) → i < length o.flat.entries.items → x ≡ slice_index_or o.flat.entries.items i x →
    name ≡ seen_name x.now.note x.now.action.operand → name ≡ None → IsTrue true ↔ SeesCommitted s e o i
sees_nothing s e o i x name stage either within is names none =
    let made = made_either s o stage either in
    let (at, same) = noted_at o i x made within is in
    let empty : seen_name x.now.note (action_of o.flat i).operand ≡ None = ap (λ (a : Action). seen_name x.now.note a.operand) (sym same) ∙ sym names ∙ none in
    (λ _ v w read sees. absurd (no_name w (seen_name x.now.note (action_of o.flat i).operand) empty (name_seen o i x.now.note v w made at sees)), λ _. refl)

pub sees_exactly : (s : Stage) (e : Earlier) (o : Orders) (i : ℕ) (x : Bor Entry) (name : Option ActionRef) (ref : ActionRef) (b : Bool) → IsStage s → (o ≡ s.own.now) ⊎ (o ≡ s.whole.now) → i < length o.flat.entries.items → x ≡ slice_index_or o.flat.entries.items i x →
    name ≡ seen_name x.now.note x.now.action.operand → name ≡ Some ref → ((y : Act) → IsActionOfEither s y → name_of y ≡ ref → IsTrue b ↔ Was s e y) → IsTrue b ↔ SeesCommitted s e o i
sees_exactly s e o i x name ref b stage either within is names some decides =
    let made = made_either s o stage either in
    let (at, same) = noted_at o i x made within is in
    let found : seen_name x.now.note (action_of o.flat i).operand ≡ Some ref = ap (λ (a : Action). seen_name x.now.note a.operand) (sym same) ∙ sym names ∙ some in
    let (p, is_p) = named_sees x.now.note (action_of o.flat i).operand ref found in
    let (v, read) = reads_noted o i p made (subst (IsNotedAt o i) is_p at) in
    let seen = is_seen o i x.now.note v ref made within at read found in
    let iff = decides seen.write (action_either s o seen.write stage either seen.action) seen.is_named in (
      λ fits u w read_u sees. (let same_v : u ≡ v = one_read u v (action_of o.flat i) read_u read in
          let same_w : w ≡ seen.write = one_seen o i x.now.note v w seen.write made at (subst (λ (y : Var). Sees (exec o) y (Of (action_of o.flat i)) w) same_v sees) seen.sees in
          subst (Was s e) (sym same_w) (iff.0 fits)),
      λ all. iff.1 (all v seen.write read seen.sees),
    )
