-- A summary shows exactly the faults of the states that it describes, up to the first.
use Rattle.std.proofs.Common.{◌≡◌, ◌≢◌, ◌≤◌, ℕ, Bool, true, false, List, Option, Some, None, ◌⊎◌, inl, inr, refl, sym, ap, subst, subst₂, ◌∙◌, arith}
use Rattle.std.specs.Option.{option_and_then}
use Rattle.program.specs.declared.method.Frame.{Frame}
use Rattle.program.specs.declared.value_type.ValueType.{ValueType}
use Rattle.typing.specs.Changes.{Meeting, Misfits, NoLock, Changes, meeting, meets, loaded_slot, used_slot}
use Rattle.typing.specs.Describing.{FitsLocal, FitsStage, IsBelow, Clash, first, second, two, AttainsLocal, AttainsStage, Describes, FaultIn, fails, disagree}
use Rattle.typing.specs.Faults.{PastStack, PastLocals, MeetsUnheld, ReturnsHolding, MissesThread, MeetsUnready, LoadsTwo, rank_of}
use Rattle.typing.specs.Joining.{known}
use Rattle.typing.specs.Objects.{fresh_of, made_of}
use Rattle.typing.proofs.Objects.{fresh_not_made}
use Rattle.typing.specs.States.{FrameState, ThreadState}
use Rattle.typing.specs.States as state
use Rattle.typing.specs.Summaries.{Summary, summary_meets, MissesStage, MeetsMixed, Shows, IsFirstShown}
use Rattle.typing.specs.declared.change.ThreadChange.{ThreadChange}
use Rattle.typing.specs.declared.change.ThreadChange.TheVariants as thread
use Rattle.typing.specs.declared.deed.Deed.{Deed}
use Rattle.typing.specs.declared.deed.Deed.TheVariants as deed
use Rattle.typing.specs.declared.joined_type.JoinedType.{JoinedType}
use Rattle.typing.specs.declared.joined_type.JoinedType.TheVariants.{Known, Made}
use Rattle.typing.specs.declared.refusal.TypeKind.{TypeKind}
use Rattle.typing.specs.declared.refusal.TypeKind.TheVariants as kind
use Rattle.typing.specs.declared.stage.Stage.{Stage}
use Rattle.typing.proofs.Behind.{everywhere}

-- ---- Meetings

-- an instruction that loads a local without a type misfits
pub load_nothing : (r : Bool) (d : Deed) (slot : ℕ) (stack : List ValueType) → loaded_slot d ≡ Some slot → meeting r d None stack ≡ Misfits
load_nothing r (deed.Operate ints leaves_int) slot stack e = cc
load_nothing r (deed.Push t) slot stack e = cc
load_nothing r deed.Print slot stack e = cc
load_nothing r deed.Discard slot stack e = cc
load_nothing r deed.Double slot stack e = cc
load_nothing r deed.Exchange slot stack e = cc
load_nothing r (deed.LoadInt at) slot stack e = refl
load_nothing r (deed.LoadReference at) slot stack e = refl
load_nothing r (deed.StoreInt at) slot stack e = cc
load_nothing r (deed.StoreReference at) slot stack e = cc
load_nothing r (deed.Increment at) slot stack e = refl
load_nothing r deed.Enter slot stack e = cc
load_nothing r deed.Leave slot stack e = cc
load_nothing r (deed.Make k) slot stack e = cc
load_nothing r deed.Construct slot stack e = cc
load_nothing r (deed.MakeTarget k) slot stack e = cc
load_nothing r deed.ConstructTarget slot stack e = cc
load_nothing r deed.Wrap slot stack e = cc
load_nothing r deed.Start slot stack e = cc
load_nothing r deed.Join slot stack e = cc
load_nothing r deed.Ask slot stack e = cc
load_nothing r deed.Return slot stack e = cc
load_nothing r deed.ReturnInt slot stack e = cc
load_nothing r deed.Misplaced slot stack e = cc

-- what a local has that something is known of, if its type is known
known_or_none : (x : Option JoinedType) (v : Option ValueType) → FitsLocal x v → (known x ≡ None) ⊎ (v ≡ known x)
known_or_none None v f = inl refl
known_or_none (Some (Known t)) v f = inr f
known_or_none (Some (Made k)) v f = inl refl

-- what is loaded is what is known to be loaded, or nothing is known
loaded_same : (a : Summary) (s : FrameState) (o : Option ℕ) → IsBelow a s →
    (option_and_then s.local o ≡ option_and_then (λ slot. known (a.local slot)) o) ⊎ ((slot : ℕ) × (o ≡ Some slot) × (known (a.local slot) ≡ None))
loaded_same a s None h = inl refl
loaded_same a s (Some slot) h = elim (known_or_none (a.local slot) (s.local slot) (h.local slot)) [ inl none ↦ inr (slot, refl, none) | inr same ↦ inl same ]

-- nothing loaded that an instruction needs is a misfit
none_misfits : (r : Bool) (d : Deed) (a : Summary) (slot : ℕ) → loaded_slot d ≡ Some slot → known (a.local slot) ≡ None → summary_meets r d a ≡ Misfits
none_misfits r d a slot loads none =
    let nothing : option_and_then (λ n. known (a.local n)) (loaded_slot d) ≡ None = ap (option_and_then (λ n. known (a.local n))) loads ∙ none in
    ap (λ o. meeting r d o a.stack) nothing ∙ load_nothing r d slot a.stack loads

state_misfits : (r : Bool) (d : Deed) (s : FrameState) (slot : ℕ) → loaded_slot d ≡ Some slot → s.local slot ≡ None → meets r d s ≡ Misfits
state_misfits r d s slot loads none =
    ap (λ o. meeting r d o s.stack) (ap (option_and_then s.local) loads ∙ none) ∙ load_nothing r d slot s.stack loads

with_same : (r : Bool) (d : Deed) (a : Summary) (s : FrameState) → a.stacks_differ ≡ false → IsBelow a s →
    option_and_then s.local (loaded_slot d) ≡ option_and_then (λ slot. known (a.local slot)) (loaded_slot d) → meets r d s ≡ summary_meets r d a
with_same r d a s agree h same = ap (λ o. meeting r d o s.stack) same ∙ ap (meeting r d (option_and_then (λ slot. known (a.local slot)) (loaded_slot d))) (h.stack agree)

-- an instruction that doesn't misfit meets all states alike
pub same_meeting : (r : Bool) (d : Deed) (a : Summary) (s : FrameState) → a.stacks_differ ≡ false → summary_meets r d a ≢ Misfits → IsBelow a s → meets r d s ≡ summary_meets r d a
same_meeting r d a s agree fits h = elim (loaded_same a s (loaded_slot d) h) [
  | inl same ↦ with_same r d a s agree h same
  | inr none ↦ absurd (fits (none_misfits r d a none.0 none.1 none.2))
]

pub is_misfits : (m : Meeting) → (m ≡ Misfits) ⊎ (m ≢ Misfits)
is_misfits Misfits = inl refl
is_misfits NoLock = inr (λ e. cc)
is_misfits (Changes c) = inr (λ e. cc)

-- ---- Misfits

clash_faulty : (V : FrameState → Type 0) (f : Frame) (d : Deed) (slot : ℕ) → loaded_slot d ≡ Some slot → (s t : FrameState) → V s → V t → Clash (s.local slot) (t.local slot) → FaultIn V f d kind.TypeMisfit
clash_faulty V f d slot loads s t sv tv (first none) = fails s sv (state_misfits f.result d s slot loads none)
clash_faulty V f d slot loads s t sv tv (second none) = fails t tv (state_misfits f.result d t slot loads none)
clash_faulty V f d slot loads s t sv tv (two a b of_s of_t ne apart) =
    let P : Option ℕ → Type 0 = λ o. LoadsTwo o s t in disagree s t sv tv (inr (subst P (sym loads) (a, b, of_s, of_t, ne)))

loads_faulty : (V : FrameState → Type 0) (f : Frame) (d : Deed) (slot : ℕ) → loaded_slot d ≡ Some slot → (x : Option JoinedType) → known x ≡ None → AttainsLocal V slot x → FaultIn V f d kind.TypeMisfit
loads_faulty V f d slot loads None none h = clash_faulty V f d slot loads h.s h.t h.s_among h.t_among h.clash
loads_faulty V f d slot loads (Some (Known t)) none h = cc
loads_faulty V f d slot loads (Some (Made k)) none h =
    let P : Option ℕ → Type 0 = λ o. LoadsTwo o h.0.s h.1.s in
    disagree h.0.s h.1.s h.0.among h.1.among (inr (subst P (sym loads) (fresh_of k, made_of k, h.0.has, h.1.has, fresh_not_made k k)))

misfit_faulty : (V : FrameState → Type 0) (f : Frame) (d : Deed) (a : Summary) → Describes V a → a.stacks_differ ≡ false → summary_meets f.result d a ≡ Misfits → FaultIn V f d kind.TypeMisfit
misfit_faulty V f d a v agree misfits =
    let h = v.below v.state v.among in
    elim (loaded_same a v.state (loaded_slot d) h) [
      | inl same ↦ fails v.state v.among (with_same f.result d a v.state agree h same ∙ misfits)
      | inr none ↦ loads_faulty V f d none.0 none.1 (a.local none.0) none.2 (v.local none.0)
    ]

pub misfit_shown : (V : FrameState → Type 0) (f : Frame) (d : Deed) (a : Summary) → Describes V a → Shows f d a kind.TypeMisfit → (b : Bool) → a.stacks_differ ≡ b → FaultIn V f d kind.TypeMisfit
misfit_shown V f d a v h true is = let differ = v.stack is in disagree differ.s differ.t differ.s_among differ.t_among (inl differ.differ)
misfit_shown V f d a v (inl differ) false is = absurd (let wrong : ⊥ = cc in wrong)
misfit_shown V f d a v (inr misfits) false is = misfit_faulty V f d a v is misfits

-- the instruction doesn't misfit, and the stacks agree
pub record IsMeeting (r : Bool) (d : Deed) (a : Summary) : Type 0 where
  pub agree : a.stacks_differ ≡ false
  pub fits : summary_meets r d a ≢ Misfits

pub shows_or_meets : (f : Frame) (d : Deed) (a : Summary) (b : Bool) → a.stacks_differ ≡ b → Shows f d a kind.TypeMisfit ⊎ IsMeeting f.result d a
shows_or_meets f d a true is = inl (inl is)
shows_or_meets f d a false is = elim (is_misfits (summary_meets f.result d a)) [ inl misfits ↦ inl (inr misfits) | inr fits ↦ inr (record { agree = is; fits = fits }) ]

no_two : (a : Summary) (s t : FrameState) (o : Option ℕ) → IsBelow a s → IsBelow a t → ((slot : ℕ) → o ≡ Some slot → known (a.local slot) ≡ None → ⊥) → LoadsTwo o s t → ⊥
no_two a s t None hs ht fits loads = loads
no_two a s t (Some slot) hs ht fits loads =
    elim (known_or_none (a.local slot) (s.local slot) (hs.local slot)) [
      | inl none ↦ fits slot refl none
      | inr of_s ↦ elim (known_or_none (a.local slot) (t.local slot) (ht.local slot)) [
        | inl none ↦ fits slot refl none
        | inr of_t ↦ (let same : loads.0 ≡ loads.1 = cc (of_s, of_t, loads.2, loads.3) in loads.4 same)
      ]
    ]

no_misfit : (V : FrameState → Type 0) (f : Frame) (d : Deed) (a : Summary) → Describes V a → IsMeeting f.result d a → FaultIn V f d kind.TypeMisfit → ⊥
no_misfit V f d a v m (fails s sv misfits) = m.fits (sym (same_meeting f.result d a s m.agree m.fits (v.below s sv)) ∙ misfits)
no_misfit V f d a v m (disagree s t sv tv (inl differ)) = differ ((v.below s sv).stack m.agree ∙ sym ((v.below t tv).stack m.agree))
no_misfit V f d a v m (disagree s t sv tv (inr loads)) =
    no_two a s t (loaded_slot d) (v.below s sv) (v.below t tv) (λ slot is none. m.fits (none_misfits f.result d a slot is none)) loads

-- ---- Monitors

held_same : (a : Summary) (s : FrameState) → a.held_differs ≡ false → IsBelow a s → s.held ≡ a.held
held_same a s agree h = everywhere s.held a.held (h.held agree)

-- ---- Threads

misses_shown : (c : ThreadChange) (a : Summary) (s : FrameState) → IsBelow a s → MissesThread c s.thread → MissesStage c a.stage
misses_shown thread.Stays a s h wrong = wrong
misses_shown (thread.Makes k) a s h wrong = wrong
misses_shown (thread.Readies k) a s h wrong = wrong
misses_shown (thread.Starts k) a s h wrong = (h.stage k).unready wrong
misses_shown (thread.Joins k) a s h wrong = (h.stage k).unawaited wrong.0 wrong.1
misses_shown (thread.Asks k) a s h wrong = (h.stage k).unstarted wrong

-- some state misses the thread
pub record HasMiss (V : FrameState → Type 0) (c : ThreadChange) : Type 0 where
  pub s : FrameState
  pub among : V s
  pub misses : MissesThread c s.thread

misses_there : (V : FrameState → Type 0) (c : ThreadChange) (a : Summary) → Describes V a → MissesStage c a.stage → HasMiss V c
misses_there V thread.Stays a v wrong = absurd wrong
misses_there V (thread.Makes k) a v wrong = absurd wrong
misses_there V (thread.Readies k) a v wrong = absurd wrong
misses_there V (thread.Starts k) a v wrong = let h = (v.stage k).unready wrong in record { s = h.s; among = h.among; misses = h.has }
misses_there V (thread.Joins k) a v wrong = let h = (v.stage k).unawaited wrong in record { s = h.s; among = h.among; misses = h.has }
misses_there V (thread.Asks k) a v wrong = let h = (v.stage k).unstarted wrong in record { s = h.s; among = h.among; misses = h.has }

mixed_there : (V : FrameState → Type 0) (f : Frame) (d : Deed) (a : Summary) → Describes V a → ((s : FrameState) → V s → meets f.result d s ≡ summary_meets f.result d a) →
    (m : Meeting) → summary_meets f.result d a ≡ m → MeetsMixed m a.stage → FaultIn V f d kind.ThreadState
mixed_there V f d a v same Misfits is wrong = absurd wrong
mixed_there V f d a v same NoLock is wrong = absurd wrong
mixed_there V f d a v same (Changes c) is wrong =
    let h = misses_there V c.thread a v wrong in
    let P : Meeting → Type 0 = λ o. MeetsUnready o h.s.thread in
    fails h.s h.among (subst P (sym (same h.s h.among ∙ is)) h.misses)

unready_shown : (m : Meeting) (a : Summary) (s : FrameState) → IsBelow a s → MeetsUnready m s.thread → MeetsMixed m a.stage
unready_shown Misfits a s h wrong = wrong
unready_shown NoLock a s h wrong = wrong
unready_shown (Changes c) a s h wrong = misses_shown c.thread a s h wrong

-- ---- Each kind

held_there : (V : FrameState → Type 0) (f : Frame) (d : Deed) (a : Summary) → Describes V a → IsMeeting f.result d a →
    MeetsUnheld (summary_meets f.result d a) a.held ⊎ ReturnsHolding d a.held → (b : Bool) → a.held_differs ≡ b → FaultIn V f d kind.Unstructured
held_there V f d a v m wrong true is = let h = v.held is in disagree h.s h.t h.s_among h.t_among (h.monitor, h.differ)
held_there V f d a v m wrong false is =
    let h = v.below v.state v.among in
    let P : Meeting → (ℕ → ℕ) → Type 0 = λ o counts. MeetsUnheld o counts ⊎ ReturnsHolding d counts in
    fails v.state v.among (subst₂ P (sym (same_meeting f.result d a v.state m.agree m.fits h)) (sym (held_same a v.state is h)) wrong)

pub shown_faulty : (V : FrameState → Type 0) (f : Frame) (d : Deed) (a : Summary) (k : TypeKind) → Describes V a → IsMeeting f.result d a → Shows f d a k → FaultIn V f d k
shown_faulty V f d a kind.TypeMisfit v m shows = misfit_shown V f d a v shows a.stacks_differ refl
shown_faulty V f d a kind.StackDepth v m shows =
    let P : Meeting → Type 0 = λ o. PastStack f o ⊎ PastLocals f (used_slot d) in
    fails v.state v.among (subst P (sym (same_meeting f.result d a v.state m.agree m.fits (v.below v.state v.among))) shows)
shown_faulty V f d a kind.LockOperand v m shows = fails v.state v.among (same_meeting f.result d a v.state m.agree m.fits (v.below v.state v.among) ∙ shows)
shown_faulty V f d a kind.Unstructured v m (inl differ) = let h = v.held differ in disagree h.s h.t h.s_among h.t_among (h.monitor, h.differ)
shown_faulty V f d a kind.Unstructured v m (inr wrong) = held_there V f d a v m wrong a.held_differs refl
shown_faulty V f d a kind.ThreadState v m shows =
    mixed_there V f d a v (λ s among. same_meeting f.result d a s m.agree m.fits (v.below s among)) (summary_meets f.result d a) refl shows

held_shown : (V : FrameState → Type 0) (f : Frame) (d : Deed) (a : Summary) → Describes V a → IsMeeting f.result d a → FaultIn V f d kind.Unstructured →
    (b : Bool) → a.held_differs ≡ b → Shows f d a kind.Unstructured
held_shown V f d a v m fault true is = inl is
held_shown V f d a v m (fails s among wrong) false is =
    let h = v.below s among in
    let P : Meeting → (ℕ → ℕ) → Type 0 = λ o counts. MeetsUnheld o counts ⊎ ReturnsHolding d counts in
    inr (subst₂ P (same_meeting f.result d a s m.agree m.fits h) (held_same a s is h) wrong)
held_shown V f d a v m (disagree s t sv tv wrong) false is = absurd (wrong.1 ((v.below s sv).held is wrong.0 ∙ sym ((v.below t tv).held is wrong.0)))

pub faulty_shown : (V : FrameState → Type 0) (f : Frame) (d : Deed) (a : Summary) (k : TypeKind) → Describes V a → IsMeeting f.result d a → FaultIn V f d k → Shows f d a k
faulty_shown V f d a kind.TypeMisfit v m fault = absurd (no_misfit V f d a v m fault)
faulty_shown V f d a kind.StackDepth v m (fails s among wrong) =
    let P : Meeting → Type 0 = λ o. PastStack f o ⊎ PastLocals f (used_slot d) in
    subst P (same_meeting f.result d a s m.agree m.fits (v.below s among)) wrong
faulty_shown V f d a kind.StackDepth v m (disagree s t sv tv wrong) = absurd wrong
faulty_shown V f d a kind.LockOperand v m (fails s among wrong) = sym (same_meeting f.result d a s m.agree m.fits (v.below s among)) ∙ wrong
faulty_shown V f d a kind.LockOperand v m (disagree s t sv tv wrong) = absurd wrong
faulty_shown V f d a kind.Unstructured v m fault = held_shown V f d a v m fault a.held_differs refl
faulty_shown V f d a kind.ThreadState v m (fails s among wrong) =
    let P : Meeting → Type 0 = λ o. MeetsUnready o s.thread in
    unready_shown (summary_meets f.result d a) a s (v.below s among) (subst P (same_meeting f.result d a s m.agree m.fits (v.below s among)) wrong)
faulty_shown V f d a kind.ThreadState v m (disagree s t sv tv wrong) = absurd wrong

-- ---- The first kind

pub least_kind : (k : TypeKind) → rank_of k ≤ 0 → k ≡ kind.TypeMisfit
least_kind kind.TypeMisfit le = refl
least_kind kind.StackDepth le = absurd (omega arith)
least_kind kind.LockOperand le = absurd (omega arith)
least_kind kind.Unstructured le = absurd (omega arith)
least_kind kind.ThreadState le = absurd (omega arith)

-- the kind is of the states, and no earlier one is
pub record IsFirstFault (V : FrameState → Type 0) (f : Frame) (d : Deed) (k : TypeKind) : Type 0 where
  pub fault : FaultIn V f d k
  pub first : (other : TypeKind) → FaultIn V f d other → rank_of k ≤ rank_of other

pub first_is : (V : FrameState → Type 0) (f : Frame) (d : Deed) (a : Summary) (k : TypeKind) → Describes V a → IsFirstShown f d a (Some k) → IsFirstFault V f d k
first_is V f d a k v shown = elim (shows_or_meets f d a a.stacks_differ refl) [
  | inl misfit ↦ (let P : TypeKind → Type 0 = IsFirstFault V f d in
      subst P (sym (least_kind k (shown.1 kind.TypeMisfit misfit)))
      (record { fault = misfit_shown V f d a v misfit a.stacks_differ refl; first = λ other fault. omega arith }))
  | inr m ↦ record { fault = shown_faulty V f d a k v m shown.0; first = λ other fault. shown.1 other (faulty_shown V f d a other v m fault) }
]

pub none_is : (V : FrameState → Type 0) (f : Frame) (d : Deed) (a : Summary) → Describes V a → IsFirstShown f d a None → (k : TypeKind) → FaultIn V f d k → ⊥
none_is V f d a v shown k fault = elim (shows_or_meets f d a a.stacks_differ refl) [
  | inl misfit ↦ shown kind.TypeMisfit misfit
  | inr m ↦ shown k (faulty_shown V f d a k v m fault)
]
