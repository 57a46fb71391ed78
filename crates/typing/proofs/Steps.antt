-- From one level of the paths to the next.
use Rattle.std.proofs.Common.{◌≡◌, ◌<◌, ◌≤◌, ◌+◌, ℕ, zero, suc, pos, List, Bool, true, false, Option, Some, None, Contains, length, get_or, ◌⊎◌, inl, inr, refl, sym, ap, subst, ◌∙◌, arith, All, [], ◌∷◌, nat_eq, ◌||◌}
use Rattle.std.specs.List.{list_any, slice_get}
use Rattle.std.proofs.lemmas.Bool.{cases_lt, eqb-true}
use Rattle.std.proofs.lemmas.Option.{same_Some, slice_get_within, get_or_from_slice_get, slice_get_read}
use Rattle.opcodes.specs.Instructions.{Successor, falls, jumps}
use Rattle.opcodes.specs.Listing.{IsByPc}
use Rattle.opcodes.specs.declared.instruction.Instr.{Instr}
use Rattle.opcodes.specs.declared.listed.Listed.{Listed}
use Rattle.typing.specs.Changes.{Change, Meeting, Misfits, NoLock, Changes, meets, behind, held_behind}
use Rattle.typing.specs.Deeds.{deed_of}
use Rattle.typing.specs.Describing.{Describes, DescribesAt, IsBelow, FaultIn}
use Rattle.typing.specs.Describing as describing
use Rattle.typing.specs.Joining.{joined_locals_behind, stages_behind}
use Rattle.typing.specs.Levels.{StepsTo, StepsFrom, DoesAt, kept_at, IsArrival, HasArrival, EndsAt, StepsOn, Landed, stays, comes, ShowsAt, IsFirstAt, EndsBefore, IsUnlooked, IsLevel, IsDescribed, IsAdvancing}
use Rattle.typing.specs.Paths.{StandsIn, Does, Advances, Path, Within, PastEntry, EntryFails, HasFault, enters, fails, disagree, IsFaulty, IsFaultyAt, IsRefusal}
use Rattle.typing.specs.States.{FrameState}
use Rattle.typing.specs.Summaries.{Summary, summary_of, summary_meets, IsBehind, Shows}
use Rattle.typing.specs.declared.deed.Deed.{Deed}
use Rattle.typing.specs.declared.joined.Joined.{Joined}
use Rattle.typing.specs.declared.level.Arrival.{Arrival}
use Rattle.typing.specs.declared.refusal.TypeKind.{TypeKind}
use Rattle.typing.specs.declared.refusal.TypeKind.TheVariants as kind
use Rattle.typing.specs.declared.symbol.Symbol.{Symbol}
use Rattle.typing.specs.declared.untyped.UntypedMethod.{UntypedMethod}
use Rattle.typing.proofs.Covered.{covered}
use Rattle.typing.proofs.Keys.{either}
use Rattle.typing.proofs.Landing.{described_at_same}
use Rattle.typing.proofs.Faulty.{same_meeting, IsFirstFault, first_is, none_is}
use Rattle.typing.proofs.Image.{Image, behind_describes}
use Rattle.typing.proofs.Union.{Wider, wider_local, wider_stage, wider_stacks, wider_held, same_described}

-- ---- Sets that grow

-- what a kept summary says fits a state
abbrev pub Fits : Option Joined → FrameState → Type 0
Fits None s = ⊥
Fits (Some j) s = IsBelow (summary_of j) s

pub described_fits : (V : FrameState → Type 0) (o : Option Joined) → DescribesAt V o → (s : FrameState) → V s → Fits o s
described_fits V None h s among = h s among
described_fits V (Some j) h s among = h.below s among

-- what describes some states describes more, where it fits each of them
pub grown : (V W : FrameState → Type 0) (o : Option Joined) → Wider V W → ((s : FrameState) → W s → Fits o s) → DescribesAt V o → DescribesAt W o
grown V W None wider fits h = fits
grown V W (Some j) wider fits h = record {
  state = h.state;
  among = wider h.state h.among;
  below = fits;
  stack = λ e. wider_stacks V W wider (h.stack e);
  held = λ e. wider_held V W wider (h.held e);
  local = λ slot. wider_local V W wider slot ((summary_of j).local slot) (h.local slot);
  stage = λ k. wider_stage V W wider k ((summary_of j).stage k) (h.stage k);
}

-- ---- Places

-- a place of the code stands once in a listing
pub place_once : (xs : List Listed) (p q : ℕ) (a b : Listed) → IsByPc xs → slice_get xs p ≡ Some a → slice_get xs q ≡ Some b → a.pc ≡ b.pc → p ≡ q
place_once xs p q a b by_pc is_a is_b same =
    let in_p : p < length xs = slice_get_within xs p a is_a in
    let in_q : q < length xs = slice_get_within xs q b is_b in
    let at_p : (get_or xs p a).pc ≡ a.pc = ap (λ (l : Listed). l.pc) (get_or_from_slice_get xs p a a is_a) in
    let at_q : (get_or xs q a).pc ≡ b.pc = ap (λ (l : Listed). l.pc) (get_or_from_slice_get xs q b a is_b) in
    elim (cases_lt p q) [
      | inl lt ↦ absurd (let rises : (get_or xs p a).pc < (get_or xs q a).pc = by_pc p q a lt in_q in omega arith)
      | inr le ↦ elim (cases_lt q p) [
        | inl lt ↦ absurd (let rises : (get_or xs q a).pc < (get_or xs p a).pc = by_pc q p a lt in_p in omega arith)
        | inr other ↦ omega arith
      ]
    ]

-- places rise with places of the code
pub place_rises : (xs : List Listed) (p q : ℕ) (a b : Listed) → IsByPc xs → slice_get xs p ≡ Some a → slice_get xs q ≡ Some b → p ≤ q → a.pc ≤ b.pc
place_rises xs p q a b by_pc is_a is_b le =
    let in_q : q < length xs = slice_get_within xs q b is_b in
    let at_p : (get_or xs p a).pc ≡ a.pc = ap (λ (l : Listed). l.pc) (get_or_from_slice_get xs p a a is_a) in
    let at_q : (get_or xs q a).pc ≡ b.pc = ap (λ (l : Listed). l.pc) (get_or_from_slice_get xs q b a is_b) in
    elim (cases_lt p q) [
      | inl lt ↦ (let rises : (get_or xs p a).pc < (get_or xs q a).pc = by_pc p q a lt in_q in omega arith)
      | inr other ↦ (let same : p ≡ q = omega arith in
          let P : ℕ → Type 0 = λ n. slice_get xs n ≡ Some b in
          let equal : a ≡ b = same_Some a b (sym is_a ∙ subst P (sym same) is_b) in
          let e : a.pc ≡ b.pc = ap (λ (l : Listed). l.pc) equal in omega arith)
    ]

pub same_pos : (m n : ℕ) → pos m ≡ pos n → m ≡ n
same_pos m n e = cc

-- a successor in the code is a successor in the list
pub steps_from : (xs : List Listed) (at next : Listed) (q : ℕ) → slice_get xs q ≡ Some next → Successor at.pc at.instr (pos next.pc) → StepsFrom xs at q
steps_from xs at next q is (falls through e) = inl (through, (next, is, same_pos _ _ e))
steps_from xs at next q is (jumps d has e) = inr (d, next.pc, has, e, (next, is, refl))

pub from_steps : (xs : List Listed) (at next : Listed) (q : ℕ) → slice_get xs q ≡ Some next → StepsFrom xs at q → Successor at.pc at.instr (pos next.pc)
from_steps xs at next q is (inl f) =
    let e : next.pc ≡ f.1.0.pc = ap (λ (l : Listed). l.pc) (same_Some next f.1.0 (sym is ∙ f.1.1)) in
    falls f.0 (ap pos (e ∙ f.1.2))
from_steps xs at next q is (inr j) =
    let e : next.pc ≡ j.4.0.pc = ap (λ (l : Listed). l.pc) (same_Some next j.4.0 (sym is ∙ j.4.1)) in
    jumps j.0 j.2 (ap pos (e ∙ j.4.2) ∙ j.3)

later : (q x : ℕ) (xs : List ℕ) → Contains xs q → Contains (x ∷ xs) q
later q x xs h = (suc h.0, omega (arith, h.1), h.2)

or_cases : (a b : Bool) → (a || b) ≡ true → (a ≡ true) ⊎ (b ≡ true)
or_cases true b e = inl refl
or_cases false b e = inr e

-- a number in a list
pub any_contains : (q : ℕ) (xs : List ℕ) → list_any (nat_eq q) xs ≡ true → Contains xs q
any_contains q [] e = cc
any_contains q (x ∷ xs) e = elim (or_cases _ _ e) [ inl here ↦ (0, omega arith, sym (eqb-true q x here)) | inr there ↦ later q x xs (any_contains q xs there) ]

-- ---- What is behind

abbrev pub summary_behind : Change → Summary → Summary
summary_behind c a = record {
  local = joined_locals_behind c.local a.local;
  stack = c.stack;
  stacks_differ = false;
  held = held_behind c.held a.held;
  held_differs = false;
  stage = stages_behind c.thread a.stage;
}

is_behind : (c : Change) (a : Summary) → IsBehind c a (summary_behind c a)
is_behind c a = record {
  local = λ q. refl;
  stack = refl;
  stacks_agree = refl;
  held = λ q. refl;
  held_agrees = refl;
  stage = λ q. refl;
}

bool_false : (b : Bool) → (b ≡ true → ⊥) → b ≡ false
bool_false true h = absurd (h refl)
bool_false false h = refl

-- where nothing is wrong at a place, its instruction changes the states, and the paths agree
pub record IsCalm (m : UntypedMethod) (d : Deed) (a : Summary) : Type 0 where
  pub change : Change
  pub changes : summary_meets m.frame.result d a ≡ Changes change
  pub stacks : a.stacks_differ ≡ false
  pub held : a.held_differs ≡ false

calm_meeting : (m : UntypedMethod) (d : Deed) (a : Summary) (o : Meeting) → summary_meets m.frame.result d a ≡ o → a.stacks_differ ≡ false → a.held_differs ≡ false →
    ((k : TypeKind) → Shows m.frame d a k → ⊥) → IsCalm m d a
calm_meeting m d a Misfits is stacks held none = absurd (none kind.TypeMisfit (inr is))
calm_meeting m d a NoLock is stacks held none = absurd (none kind.LockOperand is)
calm_meeting m d a (Changes c) is stacks held none = record { change = c; changes = is; stacks = stacks; held = held }

pub calm : (m : UntypedMethod) (d : Deed) (a : Summary) → ((k : TypeKind) → Shows m.frame d a k → ⊥) → IsCalm m d a
calm m d a none = calm_meeting m d a _ refl (bool_false _ (λ e. none kind.TypeMisfit (inl e))) (bool_false _ (λ e. none kind.Unstructured (inl e))) none

change_once : (c e : Change) → Changes c ≡ Changes e → c ≡ e
change_once c e h = cc

-- all states of a place change alike
pub calm_meets : (m : UntypedMethod) (d : Deed) (a : Summary) (s : FrameState) → (calm : IsCalm m d a) → IsBelow a s → meets m.frame.result d s ≡ Changes calm.change
calm_meets m d a s k below =
    same_meeting m.frame.result d a s k.stacks (λ e. let wrong : ⊥ = cc (e, k.changes) in wrong) below ∙ k.changes

-- ---- Steps

does_at : (m : UntypedMethod) (p pc : ℕ) (instr : Instr) (symbol : Symbol) → StandsIn m p pc instr symbol → DoesAt m p (deed_of instr symbol)
does_at m p pc instr symbol stands = record { pc = pc; instr = instr; symbol = symbol; stands = stands; is_deed = refl }

-- a state behind a shorter path is that of a path of the level
earlier_on : (m : UntypedMethod) (most p q : ℕ) (symbol : Symbol) (at next : Listed) (j : Joined) (k : IsCalm m (deed_of at.instr symbol) (summary_of j)) →
    StandsIn m p at.pc at.instr symbol → slice_get m.listing q ≡ Some next → Successor at.pc at.instr (pos next.pc) →
    Describes (EndsBefore m most p) (summary_of j) → (s : FrameState) → EndsBefore m most p s → EndsAt m most q (behind k.change s)
earlier_on m most p q symbol at next j k stands is_next successor old s h =
    let Q : Listed → Type 0 = λ l. Path m h.steps l.pc s in
    let path : Path m h.steps at.pc s = subst Q (same_Some h.at at (sym h.listed ∙ stands.listed)) h.path in
    record {
      at = next;
      listed = is_next;
      within = record {
        steps = suc h.steps;
        few = omega (arith, h.fewer);
        path = (
          at.pc,
          s,
          path,
          record {
            place = p;
            instr = at.instr;
            symbol = symbol;
            stands = stands;
            change = k.change;
            changes = calm_meets m (deed_of at.instr symbol) (summary_of j) s k (old.below s h);
            result = refl;
            successor = successor;
          },
        );
      };
    }

-- a state that comes by one step more from a place that did not change fits what is kept where it comes to
pub unchanged_fits : (m : UntypedMethod) (most p q : ℕ) (instr : Instr) (symbol : Symbol) (at next : Listed) (j : Joined) (L : FrameState → Type 0) (o : Option Joined) (before w : FrameState) (change : Change) →
    StandsIn m p at.pc at.instr symbol → slice_get m.listing q ≡ Some next → Successor at.pc at.instr (pos next.pc) →
    IsCalm m (deed_of at.instr symbol) (summary_of j) →
    DescribesAt (EndsBefore m most p) (Some j) → DescribesAt (EndsAt m most p) (Some j) → Wider (EndsAt m most q) L → DescribesAt L o →
    EndsAt m most p before → meets m.frame.result (deed_of at.instr symbol) before ≡ Changes change → w ≡ behind change before → Fits o w
unchanged_fits m most p q instr symbol at next j L None before w change stands is_next successor k old new wider d among changes is_w =
    d (behind k.change old.state) (wider _ (earlier_on m most p q symbol at next j k stands is_next successor old old.state old.among))
unchanged_fits m most p q instr symbol at next j L (Some x) before w change stands is_next successor k old new wider d among changes is_w =
    let a = summary_of j in
    let b = summary_behind k.change a in
    let U : FrameState → Type 0 = Image (EndsBefore m most p) k.change in
    let W : FrameState → Type 0 = Image (EndsAt m most p) k.change in
    let du : Describes U b = behind_describes (EndsBefore m most p) k.change a b k.held (is_behind k.change a) old in
    let dw : Describes W b = behind_describes (EndsAt m most p) k.change a b k.held (is_behind k.change a) new in
    let equal : change ≡ k.change = change_once change k.change (sym changes ∙ calm_meets m (deed_of at.instr symbol) a before k (new.below before among)) in
    let P : Change → Type 0 = λ c. w ≡ behind c before in
    let in_w : W w = record { before = before; among = among; is_behind = subst P equal is_w } in
    let inside : Wider U L = λ u h. subst L (sym h.is_behind) (wider _ (earlier_on m most p q symbol at next j k stands is_next successor old h.before h.among)) in
    covered U L b (summary_of x) w du inside d (dw.below w in_w)

-- ---- Levels

ends_at : (m : UntypedMethod) (most pc : ℕ) (instr : Instr) (symbol : Symbol) (p steps : ℕ) (s : FrameState) → StandsIn m p pc instr symbol → steps ≤ most → Path m steps pc s → EndsAt m most p s
ends_at m most pc instr symbol p steps s stands few path = record {
  at = record { pc = pc; instr = instr };
  listed = stands.listed;
  within = record { steps = steps; few = few; path = path };
}

-- what is kept describes no faulty states
pub quiet_place : (m : UntypedMethod) (V : FrameState → Type 0) (states : List (Option Joined)) (p : ℕ) (d : Deed) → DoesAt m p d → (o : Option Joined) → kept_at states p ≡ o → DescribesAt V o →
    ((k : TypeKind) → ShowsAt m states p k → ⊥) → (s : FrameState) → V s → (k : TypeKind) → FaultIn V m.frame d k → ⊥
quiet_place m V states p d does None is h quiet s among k fault = h s among
quiet_place m V states p d does (Some j) is h quiet s among k fault =
    none_is V m.frame d (summary_of j) h (λ l shows. quiet l (record { state = j; kept = is; deed = d; does = does; shows = shows })) k fault

no_entry_fault : (m : UntypedMethod) (pc : ℕ) (k : TypeKind) → (PastEntry m → ⊥) → EntryFails m pc k → ⊥
no_entry_fault m pc kind.TypeMisfit fine e = e
no_entry_fault m pc kind.StackDepth fine e = fine e.1
no_entry_fault m pc kind.LockOperand fine e = e
no_entry_fault m pc kind.Unstructured fine e = e
no_entry_fault m pc kind.ThreadState fine e = e

abbrev pub does_in : (m : UntypedMethod) (pc : ℕ) (d : Deed) (x : Does m pc d) → DoesAt m x.place d
does_in m pc d x = record { pc = pc; instr = x.instr; symbol = x.symbol; stands = x.stands; is_deed = x.is_deed }

within_at : (m : UntypedMethod) (most pc : ℕ) (d : Deed) (x : Does m pc d) (s : FrameState) → Within m most pc s → EndsAt m most x.place s
within_at m most pc d x s w = ends_at m most pc x.instr x.symbol x.place w.steps s x.stands w.few w.path

-- a fault is one of the entry, or one of the states at a place of the list
pub fault_cases : (m : UntypedMethod) (most pc : ℕ) (k : TypeKind) → HasFault m most pc k →
    EntryFails m pc k ⊎ ((d : Deed) × (x : Does m pc d) × (s : FrameState) × EndsAt m most x.place s × FaultIn (EndsAt m most x.place) m.frame d k)
fault_cases m most pc k (enters e) = inl e
fault_cases m most pc k (fails d s x w f) = inr (d, x, s, within_at m most pc d x s w, describing.fails s (within_at m most pc d x s w) f)
fault_cases m most pc k (disagree d s t x v w f) =
    inr (d, x, s, within_at m most pc d x s v, describing.disagree s t (within_at m most pc d x s v) (within_at m most pc d x t w) f)

-- a fault at a place of the code is one of the states at the place of the list
pub fault_in : (m : UntypedMethod) (most pc : ℕ) (k : TypeKind) → (PastEntry m → ⊥) → HasFault m most pc k →
    (d : Deed) × (x : Does m pc d) × (s : FrameState) × EndsAt m most x.place s × FaultIn (EndsAt m most x.place) m.frame d k
fault_in m most pc k fine (enters e) = absurd (no_entry_fault m pc k fine e)
fault_in m most pc k fine (fails d s x w f) = (d, x, s, within_at m most pc d x s w, describing.fails s (within_at m most pc d x s w) f)
fault_in m most pc k fine (disagree d s t x v w f) =
    (d, x, s, within_at m most pc d x s v, describing.disagree s t (within_at m most pc d x s v) (within_at m most pc d x t w) f)

pub level_sound : (m : UntypedMethod) (most : ℕ) (states : List (Option Joined)) (changed : List ℕ) → IsLevel m most states changed → IsFaulty m most → ⊥
level_sound m most states changed l faulty =
    let f = fault_in m most faulty.pc faulty.k l.level.entry faulty.fault in
    quiet_place m (EndsAt m most f.1.place) states f.1.place f.0 (does_in m faulty.pc f.0 f.1) _ refl (l.level.described f.1.place) (l.sound f.1.place) f.2 f.3 faulty.k f.4

more_within : (m : UntypedMethod) (a b pc : ℕ) (s : FrameState) → a ≤ b → Within m a pc s → Within m b pc s
more_within m a b pc s le w = record { steps = w.steps; few = omega (arith, w.few); path = w.path }

more_fault : (m : UntypedMethod) (a b pc : ℕ) (k : TypeKind) → a ≤ b → HasFault m a pc k → HasFault m b pc k
more_fault m a b pc k le (enters e) = enters e
more_fault m a b pc k le (fails d s x w f) = fails d s x (more_within m a b pc s le w) f
more_fault m a b pc k le (disagree d s t x v w f) = disagree d s t x (more_within m a b pc s le v) (more_within m a b pc t le w) f

pub more_faulty : (m : UntypedMethod) (a b : ℕ) → a ≤ b → IsFaulty m a → IsFaulty m b
more_faulty m a b le f = record { pc = f.pc; k = f.k; fault = more_fault m a b f.pc f.k le f.fault }

-- all that landed at a place ends there
pub landed_ends : (m : UntypedMethod) (most : ℕ) (arrivals : List Arrival) (count q : ℕ) → Wider (Landed m most arrivals count q) (EndsAt m (most + 1) q)
landed_ends m most arrivals count q s (stays h) = record { at = h.at; listed = h.listed; within = more_within m most (most + 1) h.at.pc s (omega arith) h.within }
landed_ends m most arrivals count q s (comes k a lt is to h) = record {
  at = h.next;
  listed = h.is_next;
  within = record { steps = suc h.within.steps; few = omega (arith, h.within.few); path = (h.at.pc, h.before, h.within.path, h.advances) };
}

module _ (m : UntypedMethod) (most : ℕ) (states : List (Option Joined)) (changed : List ℕ) (arrivals : List Arrival) (l : IsLevel m most states changed)
    (whole : (p to : ℕ) → Contains changed p → StepsTo m.listing p to → HasArrival arrivals p to) where
  from_unchanged : (q : ℕ) (next : Listed) (o : Option Joined) (before w : FrameState) (from : ℕ) → slice_get m.listing q ≡ Some next → DescribesAt (Landed m most arrivals (length arrivals) q) o →
      (adv : Advances m from before next.pc w) → EndsAt m most adv.place before → list_any (nat_eq adv.place) changed ≡ false →
      (x : Option Joined) → kept_at states adv.place ≡ x → DescribesAt (EndsAt m most adv.place) x → DescribesAt (EndsBefore m most adv.place) x → Fits o w
  from_unchanged q next o before w from is_next d adv ends out None is new old = absurd (new before ends)
  from_unchanged q next o before w from is_next d adv ends out (Some j) is new old =
      let at : Listed = record { pc = from; instr = adv.instr } in
      let does = does_at m adv.place from adv.instr adv.symbol adv.stands in
      unchanged_fits m most adv.place q adv.instr adv.symbol at next j (Landed m most arrivals (length arrivals) q) o before w adv.change adv.stands is_next adv.successor
      (calm m (deed_of adv.instr adv.symbol) (summary_of j) (λ k shows. l.sound adv.place k (record { state = j; kept = is; deed = deed_of adv.instr adv.symbol; does = does; shows = shows })))
      old new (λ s h. stays h) d ends adv.changes adv.result

  from_changed : (q : ℕ) (next : Listed) (before w : FrameState) (from : ℕ) → slice_get m.listing q ≡ Some next →
      (adv : Advances m from before next.pc w) → Within m most from before → HasArrival arrivals adv.place q → Landed m most arrivals (length arrivals) q w
  from_changed q next before w from is_next adv within has =
      let is : slice_get arrivals has.among.0 ≡ Some has.arrival = slice_get_read arrivals (length arrivals) has.among.0 has.arrival refl has.among.1 (sym has.among.2) in
      let P : ℕ → Type 0 = λ n. StepsOn m most n q w in
      comes has.among.0 has.arrival has.among.1 is has.is_to (subst P (sym has.is_from) (record {
        at = record { pc = from; instr = adv.instr };
        listed = adv.stands.listed;
        next = next;
        is_next = is_next;
        before = before;
        within = within;
        advances = adv;
      }))

  later_fits : (q : ℕ) (o : Option Joined) → DescribesAt (Landed m most arrivals (length arrivals) q) o → (next : Listed) → slice_get m.listing q ≡ Some next →
      (steps : ℕ) → steps ≤ most + 1 → (w : FrameState) → Path m steps next.pc w → Fits o w
  later_fits q o d next is_next zero few w path =
      described_fits _ o d w (stays (record { at = next; listed = is_next; within = record { steps = 0; few = omega arith; path = path } }))
  later_fits q o d next is_next (suc k) few w path =
      let adv = path.3 in
      let few' : k ≤ most = omega arith in
      let within : Within m most path.0 path.1 = record { steps = k; few = few'; path = path.2 } in
      let ends = ends_at m most path.0 adv.instr adv.symbol adv.place k path.1 adv.stands few' path.2 in
      elim (either (list_any (nat_eq adv.place) changed)) [
        | inl listed ↦ (let at : Listed = record { pc = path.0; instr = adv.instr } in
            described_fits _ o d w (from_changed q next path.1 w path.0 is_next adv within
            (whole adv.place q (any_contains adv.place changed listed) (at, adv.stands.listed, steps_from m.listing at next q is_next adv.successor))))
        | inr out ↦ from_unchanged q next o path.1 w path.0 is_next d adv ends out _ refl (l.level.described adv.place) (l.level.old adv.place out)
      ]

  pub next_described : (q : ℕ) (o : Option Joined) → DescribesAt (Landed m most arrivals (length arrivals) q) o → DescribesAt (EndsAt m (most + 1) q) o
  next_described q o d = grown _ _ o (landed_ends m most arrivals (length arrivals) q)
      (λ w h. later_fits q o d h.at h.listed h.within.steps h.within.few w h.within.path) d

pub next_level : (m : UntypedMethod) (most : ℕ) (states states' : List (Option Joined)) (changed changed' : List ℕ) (arrivals : List Arrival) → IsLevel m most states changed →
    ((p to : ℕ) → Contains changed p → StepsTo m.listing p to → HasArrival arrivals p to) →
    ((q : ℕ) → DescribesAt (Landed m most arrivals (length arrivals) q) (kept_at states' q)) → length states' ≡ length states →
    ((q : ℕ) → list_any (nat_eq q) changed' ≡ false → kept_at states' q ≡ kept_at states q) →
    ((q : ℕ) → Contains changed' q → (q < length states) × ((x : Joined) × (kept_at states' q ≡ Some x))) → IsUnlooked m (most + 1) states' changed'
next_level m most states states' changed changed' arrivals l whole landed long same inside = record {
  long = long ∙ l.level.long;
  described = λ q. next_described m most states changed arrivals l whole q (kept_at states' q) (landed q);
  old = λ q out. subst (DescribesAt (EndsBefore m (most + 1) q)) (sym (same q out))
      (described_at_same (EndsAt m most q) (EndsBefore m (most + 1) q) (kept_at states q)
      (λ s h. record { at = h.at; listed = h.listed; steps = h.within.steps; fewer = omega (arith, h.within.few); path = h.within.path })
      (λ s h. record { at = h.at; listed = h.listed; within = record { steps = h.steps; few = omega (arith, h.fewer); path = h.path } })
      (l.level.described q));
  quiet = λ q k out shows. l.sound q k (record { state = shows.state; kept = sym (same q out) ∙ shows.kept; deed = shows.deed; does = shows.does; shows = shows.shows });
  entry = l.level.entry;
  earlier = λ shorter lt faulty. level_sound m most states changed l (more_faulty m shorter most (omega arith) faulty);
  inside = λ q h. let i = inside q h in (omega (arith, i.0, long), i.1);
}

-- nothing shown at the places that changed: nothing is wrong
pub looked : (m : UntypedMethod) (most : ℕ) (states : List (Option Joined)) (changed : List ℕ) → IsUnlooked m most states changed →
    ((q : ℕ) → Contains changed q → (k : TypeKind) → ShowsAt m states q k → ⊥) → IsLevel m most states changed
looked m most states changed u none = record {
  level = u;
  sound = λ q k shows. elim (either (list_any (nat_eq q) changed)) [
    | inl listed ↦ none q (any_contains q changed listed) k shows
    | inr out ↦ u.quiet q k out shows
  ];
}

-- ---- Refusals

within_out : (m : UntypedMethod) (most p : ℕ) (d : Deed) (does : DoesAt m p d) (s : FrameState) → EndsAt m most p s → Within m most does.pc s
within_out m most p d does s h =
    let P : Listed → Type 0 = λ l. Within m most l.pc s in
    subst P (same_Some _ _ (sym h.listed ∙ does.stands.listed)) h.within

-- a fault of the states of a place is one at its place of the code
pub fault_out : (m : UntypedMethod) (most p : ℕ) (k : TypeKind) (d : Deed) (does : DoesAt m p d) → FaultIn (EndsAt m most p) m.frame d k → HasFault m most does.pc k
fault_out m most p k d does (describing.fails s h f) =
    fails d s (record { place = p; instr = does.instr; symbol = does.symbol; stands = does.stands; is_deed = does.is_deed }) (within_out m most p d does s h) f
fault_out m most p k d does (describing.disagree s t h g f) =
    disagree d s t (record { place = p; instr = does.instr; symbol = does.symbol; stands = does.stands; is_deed = does.is_deed })
    (within_out m most p d does s h) (within_out m most p d does t g) f

-- one thing is done at a place
pub one_deed : (m : UntypedMethod) (p : ℕ) (d e : Deed) → DoesAt m p d → DoesAt m p e → d ≡ e
one_deed m p d e a b =
    let same_instr : a.instr ≡ b.instr = ap (λ (l : Listed). l.instr) (same_Some _ _ (sym a.stands.listed ∙ b.stands.listed)) in
    let same_symbol : a.symbol ≡ b.symbol = same_Some _ _ (sym a.stands.names ∙ b.stands.names) in
    a.is_deed ∙ ap (λ i. deed_of i a.symbol) same_instr ∙ ap (deed_of b.instr) same_symbol ∙ sym b.is_deed

-- a fault at the place of the code of a place of the list is one of its states
fault_here : (m : UntypedMethod) (most p : ℕ) (at : Listed) → IsByPc m.listing → (PastEntry m → ⊥) → slice_get m.listing p ≡ Some at → (d : Deed) → DoesAt m p d → (k : TypeKind) →
    HasFault m most at.pc k → FaultIn (EndsAt m most p) m.frame d k
fault_here m most p at by_pc entry is_at d does k fault =
    let f = fault_in m most at.pc k entry fault in
    let same_place : f.1.place ≡ p = place_once m.listing f.1.place p (record { pc = at.pc; instr = f.1.instr }) at by_pc f.1.stands.listed is_at refl in
    let P : ℕ → Type 0 = λ n. DoesAt m n f.0 in
    let same_deed : f.0 ≡ d = one_deed m p f.0 d (subst P same_place (does_in m at.pc f.0 f.1)) does in
    let Q : ℕ → Type 0 = λ n. FaultIn (EndsAt m most n) m.frame f.0 k in
    let R : Deed → Type 0 = λ x. FaultIn (EndsAt m most p) m.frame x k in
    subst R same_deed (subst Q same_place f.4)

least_place : (m : UntypedMethod) (most : ℕ) (states : List (Option Joined)) (changed : List ℕ) (p : ℕ) (at : Listed) → IsByPc m.listing → IsUnlooked m most states changed →
    slice_get m.listing p ≡ Some at → ((q : ℕ) → Contains changed q → q < p → (l : TypeKind) → ShowsAt m states q l → ⊥) → (pc : ℕ) → IsFaultyAt m most pc → at.pc ≤ pc
least_place m most states changed p at by_pc u is_at before pc faulty =
    let f = fault_in m most pc faulty.k u.entry faulty.fault in
    let q = f.1.place in
    elim (cases_lt q p) [
      | inl lt ↦ absurd (quiet_place m (EndsAt m most q) states q f.0 (does_in m pc f.0 f.1) _ refl (u.described q)
          (λ l shows. elim (either (list_any (nat_eq q) changed)) [
            | inl listed ↦ before q (any_contains q changed listed) lt l shows
            | inr out ↦ u.quiet q l out shows
          ]) f.2 f.3 faulty.k f.4)
      | inr le ↦ place_rises m.listing p q at (record { pc = pc; instr = f.1.instr }) by_pc is_at f.1.stands.listed le
    ]

pub first_refused : (m : UntypedMethod) (most : ℕ) (states : List (Option Joined)) (changed : List ℕ) (p : ℕ) (k : TypeKind) (at : Listed) → IsByPc m.listing → IsUnlooked m most states changed →
    slice_get m.listing p ≡ Some at → IsFirstAt m states p (Some k) →
    ((q : ℕ) → Contains changed q → q < p → (l : TypeKind) → ShowsAt m states q l → ⊥) → IsRefusal m k at.pc
first_refused m most states changed p k at by_pc u is_at here before =
    let j = here.0 in
    let d = here.1 in
    let does = here.3 in
    let V : FrameState → Type 0 = EndsAt m most p in
    let v : Describes V (summary_of j) = subst (DescribesAt V) here.2 (u.described p) in
    let f : IsFirstFault V m.frame d k = first_is V m.frame d (summary_of j) k v here.4 in
    let same_at : at ≡ record { pc = does.pc; instr = does.instr } = same_Some _ _ (sym is_at ∙ does.stands.listed) in
    let pc_is : does.pc ≡ at.pc = ap (λ (l : Listed). l.pc) (sym same_at) in
    let P : ℕ → Type 0 = λ n. HasFault m most n k in
    let fault : HasFault m most at.pc k = subst P pc_is (fault_out m most p k d does f.fault) in
    record {
      most = most;
      shortest = record {
        holds = record { pc = at.pc; k = k; fault = fault };
        least = λ n faulty. elim (cases_lt n most) [ inl lt ↦ absurd (u.earlier n lt faulty) | inr le ↦ le ];
      };
      least = record {
        holds = record { k = k; fault = fault };
        least = λ pc faulty. least_place m most states changed p at by_pc u is_at before pc faulty;
      };
      fault = fault;
      first = λ other fault'. f.first other (fault_here m most p at by_pc u.entry is_at d does other fault');
    }

-- ---- What the next level stands on

pub advancing : (m : UntypedMethod) (most : ℕ) (states : List (Option Joined)) (changed : List ℕ) → IsLevel m most states changed → (p : ℕ) → Contains changed p → IsAdvancing m states p
advancing m most states changed l p h =
    let i = l.level.inside p h in
    record {
      inside = omega (arith, i.0, l.level.long);
      state = i.1.0;
      kept = i.1.1;
      changing = λ d does. let k = calm m d (summary_of i.1.0) (λ t shows. l.sound p t (record { state = i.1.0; kept = i.1.1; deed = d; does = does; shows = shows })) in
          record { change = k.change; changes = k.changes };
    }

pub target_inside : (xs : List Listed) (p q : ℕ) → StepsTo xs p q → q < length xs
target_inside xs p q (at, is, inl f) = slice_get_within xs q f.1.0 f.1.1
target_inside xs p q (at, is, inr j) = slice_get_within xs q j.4.0 j.4.1

next_at : (xs : List Listed) (at : Listed) (q : ℕ) → StepsFrom xs at q → (next : Listed) × (slice_get xs q ≡ Some next)
next_at xs at q (inl f) = (f.1.0, f.1.1)
next_at xs at q (inr j) = (j.4.0, j.4.1)

-- one step from a place, whichever way it is told
advances_once : (m : UntypedMethod) (p : ℕ) (at : Listed) (d : Deed) (before : FrameState) (to : ℕ) (after : FrameState) → IsByPc m.listing → slice_get m.listing p ≡ Some at → DoesAt m p d →
    (adv : Advances m at.pc before to after) → meets m.frame.result d before ≡ Changes adv.change
advances_once m p at d before to after by_pc is_at does adv =
    let same_place : adv.place ≡ p = place_once m.listing adv.place p (record { pc = at.pc; instr = adv.instr }) at by_pc adv.stands.listed is_at refl in
    let P : ℕ → Type 0 = λ n. DoesAt m n (deed_of adv.instr adv.symbol) in
    let same_deed : deed_of adv.instr adv.symbol ≡ d = one_deed m p _ d (subst P same_place (does_at m adv.place at.pc adv.instr adv.symbol adv.stands)) does in
    ap (λ x. meets m.frame.result x before) (sym same_deed) ∙ adv.changes

pub arrival_described : (m : UntypedMethod) (most : ℕ) (states : List (Option Joined)) (changed : List ℕ) (a : Arrival) → IsByPc m.listing → IsLevel m most states changed → IsArrival m states a →
    Describes (StepsOn m most a.from a.to) (summary_of a.state)
arrival_described m most states changed a by_pc l is =
    let c = is.comes in
    let v : Describes (EndsAt m most a.from) (summary_of c.state) = subst (DescribesAt (EndsAt m most a.from)) c.kept (l.level.described a.from) in
    let k = calm m c.deed (summary_of c.state) (λ t shows. l.sound a.from t (record { state = c.state; kept = c.kept; deed = c.deed; does = c.does; shows = shows })) in
    let at = is.steps.0 in
    let next = next_at m.listing at a.to is.steps.2 in
    let successor = from_steps m.listing at next.0 a.to next.1 is.steps.2 in
    let f = c.follows in
    let same_at : at ≡ record { pc = c.does.pc; instr = c.does.instr } = same_Some _ _ (sym is.steps.1 ∙ c.does.stands.listed) in
    let instr_is : c.does.instr ≡ at.instr = ap (λ (x : Listed). x.instr) (sym same_at) in
    let deed_is : c.deed ≡ deed_of at.instr c.does.symbol = c.does.is_deed ∙ ap (λ i. deed_of i c.does.symbol) instr_is in
    let met : (s : FrameState) → EndsAt m most a.from s → meets m.frame.result c.deed s ≡ Changes f.change = λ s h.
    calm_meets m c.deed (summary_of c.state) s k (v.below s h) ∙ sym k.changes ∙ f.changes in
    same_described (Image (EndsAt m most a.from) f.change) (StepsOn m most a.from a.to) (summary_of a.state)
    (λ t h. record {
      at = at;
      listed = is.steps.1;
      next = next.0;
      is_next = next.1;
      before = h.before;
      within = (let P : Listed → Type 0 = λ x. Within m most x.pc h.before in subst P (same_Some _ _ (sym h.among.listed ∙ is.steps.1)) h.among.within);
      advances = record {
        place = a.from;
        instr = at.instr;
        symbol = c.does.symbol;
        stands = record { listed = is.steps.1; names = c.does.stands.names };
        change = f.change;
        changes = (let Q : Deed → Type 0 = λ x. meets m.frame.result x h.before ≡ Changes f.change in subst Q deed_is (met h.before h.among));
        result = h.is_behind;
        successor = successor;
      };
    })
    (λ t h. let ends : EndsAt m most a.from h.before = record { at = h.at; listed = h.listed; within = h.within } in
    let same_change : h.advances.change ≡ f.change = change_once _ _ (sym (advances_once m a.from h.at c.deed h.before h.next.pc t by_pc h.listed c.does h.advances) ∙ met h.before ends) in
    let R : Change → Type 0 = λ x. t ≡ behind x h.before in
    record { before = h.before; among = ends; is_behind = subst R same_change h.advances.result })
    (behind_describes (EndsAt m most a.from) f.change (summary_of c.state) (summary_of a.state) k.held f.behind v)

pub all_inside : (m : UntypedMethod) (states : List (Option Joined)) (arrivals : List Arrival) (size : ℕ) → length m.listing ≡ size → All (IsArrival m states) arrivals → All (λ a. a.to < size) arrivals
all_inside m states arrivals size same all = λ k d lt. let P : ℕ → Type 0 = λ n. (get_or arrivals k d).to < n in subst P same (target_inside m.listing _ _ (all k d lt).steps)

pub all_described : (m : UntypedMethod) (most : ℕ) (states : List (Option Joined)) (changed : List ℕ) (arrivals : List Arrival) → IsByPc m.listing → IsLevel m most states changed → All (IsArrival m states) arrivals →
    IsDescribed m most states arrivals
all_described m most states changed arrivals by_pc l all = record {
  places = l.level.described;
  arriving = λ k a is.
      let lt : k < length arrivals = slice_get_within arrivals k a is in
      arrival_described m most states changed a by_pc l (subst (IsArrival m states) (get_or_from_slice_get arrivals k a a is) (all k a lt));
}
