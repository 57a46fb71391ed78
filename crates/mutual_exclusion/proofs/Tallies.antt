-- One more action is counted.
use Rattle.std.proofs.Common.{◌≡◌, ◌<◌, ◌+◌, ◌&&◌, ℕ, Bool, true, false, List, Option, Some, None, slice_get, slice_index_or, length, take, nat_eq, eq-eqb, refl, sym, ◌∙◌, ap, subst, inl, inr}
use Rattle.std.specs.List.{count_by}
use Rattle.std.specs.Cmp.Lexicographic.{pointwise}
use Rattle.std.proofs.lemmas.Bool.{cases_Bool, eqb-true}
use Rattle.std.proofs.lemmas.Cmp.{nat_list_eq_equiv}
use Rattle.std.proofs.lemmas.Slice.Eq.{bytes_eq-Decides}
use Rattle.std.proofs.lemmas.List.Sums.{count_by_more_yes, count_by_more_no}
use Rattle.std.proofs.lemmas.Option.{slice_get_within, get_or_from_slice_get}
use Rattle.clocks.specs.declared.pass.Event.{Event}
use Rattle.program.specs.declared.kind.Kind.{Kind}
use Rattle.program.specs.declared.kind.Kind.TheVariants.{Lock, Unlock}
use Rattle.action_orders.specs.declared.action.Action.{Action}
use Rattle.action_orders.specs.declared.action.ActionOperand.{ActionOperand}
use Rattle.action_orders.specs.declared.action.ActionOperand.TheVariants.{Monitor}
use Rattle.action_orders.specs.Execution.{Exec}
use Rattle.action_orders.specs.WellFormed.{locks, unlocks, is_lock, is_unlock, is_monitor, sync_actions}
use Rattle.orders.specs.Symbols.{Symbol, OfMonitor, IsDistinct, taken_by, given_by}
use Rattle.orders.specs.Flat.{IsNumbered, IsEventOf}
use Rattle.orders.proofs.Places.{one}
use Rattle.mutual_exclusion.specs.declared.counts.Counts.{Counts}
use Rattle.mutual_exclusion.specs.Counts.{IsBumped, count_at}
use Rattle.mutual_exclusion.specs.Locking.{IsTally, lock_channel, unlock_channel}

-- ---- The counts

-- the channel is that of the monitors to which the action does this
pub record Does (does : List ℕ → ℕ → Action → Bool) (names : List Symbol) (a : Action) (channel : Option ℕ) : Type 0 where
  pub to : (c : ℕ) (m : List ℕ) → slice_get names c ≡ Some (OfMonitor m) → channel ≡ Some c → does m a.thread a ≡ true
  pub from : (c t : ℕ) (m : List ℕ) → slice_get names c ≡ Some (OfMonitor m) → does m t a ≡ true → (channel ≡ Some c) × (t ≡ a.thread)

pub tally_more : (e : Exec) (does : List ℕ → ℕ → Action → Bool) (names : List Symbol) (r : ℕ) (a : Action) (channel : Option ℕ) (old new : List Counts) → slice_get (sync_actions e) r ≡ Some a → Does does names a channel →
    IsBumped channel a.thread old new → IsTally e does names r old → IsTally e does names (r + 1) new
tally_more e does names r a channel old new at is bumped before = record { size = bumped.size ∙ before.size; counted = counted }
  where
    within : r < length (sync_actions e)
    within = slice_get_within (sync_actions e) r a at

    read : slice_index_or (sync_actions e) r a ≡ a
    read = get_or_from_slice_get (sync_actions e) r a a at

    counted : (c t : ℕ) (m : List ℕ) → slice_get names c ≡ Some (OfMonitor m) → count_at new c t ≡ count_by (does m t) (take (r + 1) (sync_actions e))
    counted c t m named = elim (cases_Bool (does m t a)) [
      | inl does_it ↦ (let (own, same) = is.from c t m named does_it in
          let more = count_by_more_yes (does m t) (sync_actions e) r a within (ap (does m t) read ∙ does_it) in
          let grown : count_at new c t ≡ count_at old c t + 1 = subst (λ (u : ℕ). count_at new c u ≡ count_at old c u + 1) (sym same) (bumped.own c own) in
          grown ∙ ap (λ (n : ℕ). n + 1) (before.counted c t m named) ∙ sym more)
      | inr other ↦ (let more = count_by_more_no (does m t) (sync_actions e) r a within (ap (does m t) read ∙ other) in
          let kept = bumped.others c t (λ own same. not_both (does m t a) (subst (λ (u : ℕ). does m u a ≡ true) (sym same) (is.to c m named own)) other) in
          kept ∙ before.counted c t m named ∙ sym more)
    ]
      where
        not_both : (b : Bool) → b ≡ true → b ≡ false → ⊥
        not_both b x y = cc

-- ---- Locks and unlocks

same_bytes : (a b : List ℕ) → pointwise nat_eq a b ≡ true → a ≡ b
same_bytes a b e = (bytes_eq-Decides a b).0 e

bytes_same : (a b : List ℕ) → a ≡ b → pointwise nat_eq a b ≡ true
bytes_same a b e = subst (λ (x : List ℕ). pointwise nat_eq a x ≡ true) e (nat_list_eq_equiv.refl a)

one_monitor : (m n : List ℕ) → OfMonitor m ≡ OfMonitor n → m ≡ n
one_monitor m n e = cc

numbered_at : (names : List Symbol) (s : Symbol) (n : Option ℕ) (c : ℕ) → IsNumbered names (Some s) n → n ≡ Some c → slice_get names c ≡ Some s
numbered_at names s n c is e = subst (IsNumbered names (Some s)) e is

own_number : (names : List Symbol) (s : Symbol) (n : Option ℕ) (c : ℕ) → IsDistinct names → IsNumbered names (Some s) n → slice_get names c ≡ Some s → n ≡ Some c
own_number names s None c distinct is named = absurd is
own_number names s (Some x) c distinct is named = ap Some (distinct x c s is named)

-- the test of a lock, and of an unlock, by its parts
abbrev acts_by : Bool → List ℕ → ℕ → ℕ → ActionOperand → Bool
acts_by b m k t o = b && nat_eq t k && is_monitor m o

acts_of : (m : List ℕ) (t : ℕ) → acts_by true m t t (Monitor m) ≡ true
acts_of m t = let own = eq-eqb t t refl in let same = bytes_same m m refl in rw (own, same) refl

pub record Acts (b : Bool) (m : List ℕ) (k t : ℕ) (o : ActionOperand) : Type 0 where
  pub does : b ≡ true
  pub own : k ≡ t
  pub monitor : o ≡ Monitor m

acted : (b : Bool) (m : List ℕ) (k t : ℕ) (o : ActionOperand) → acts_by b m k t o ≡ true → Acts b m k t o
acted false m k t o e = cc
acted true m k t o e = go (nat_eq t k) refl e
  where
    go : (own : Bool) → nat_eq t k ≡ own → (own && is_monitor m o) ≡ true → Acts true m k t o
    go false is h = cc
    go true is h = record { does = refl; own = sym (eqb-true t k is); monitor = monitor o h }
      where
        monitor : (x : ActionOperand) → is_monitor m x ≡ true → x ≡ Monitor m
        monitor (Monitor class) q = ap Monitor (same_bytes class m q)
        monitor _ q = cc

lock_to : (names : List Symbol) (k : Kind) (o : ActionOperand) (t : ℕ) (event : Event) (c : ℕ) (m : List ℕ) → IsNumbered names (taken_by k o t) event.takes → slice_get names c ≡ Some (OfMonitor m) → lock_channel k event ≡ Some c →
    acts_by (is_lock k) m t t o ≡ true
lock_to names Lock (Monitor class) t event c m is named e = subst (λ (x : List ℕ). acts_by true m t t (Monitor x) ≡ true) (one_monitor m class (one (sym named ∙ numbered_at names (OfMonitor class) event.takes c is e))) (acts_of m t)
lock_to names Lock o t event c m is named e = absurd (subst (IsNumbered names None) e is)
lock_to names _ o t event c m is named e = cc

pub locks_are : (names : List Symbol) (a : Action) (event : Event) → IsDistinct names → IsEventOf names a event → Does locks names a (lock_channel a.kind event)
locks_are names a event distinct is = record {
  to = λ c m named e. lock_to names a.kind a.operand a.thread event c m is.takes named e;
  from = λ c t m named e. let h = acted (is_lock a.kind) m t a.thread a.operand e in (from_kind a.kind a.operand c m h.does h.monitor is.takes named, h.own);
}
  where
    from_kind : (k : Kind) (o : ActionOperand) (c : ℕ) (m : List ℕ) → is_lock k ≡ true → o ≡ Monitor m → IsNumbered names (taken_by k o a.thread) event.takes → slice_get names c ≡ Some (OfMonitor m) → lock_channel k event ≡ Some c
    from_kind Lock o c m e f numbered named = own_number names (OfMonitor m) event.takes c distinct (subst (λ (x : ActionOperand). IsNumbered names (taken_by Lock x a.thread) event.takes) f numbered) named
    from_kind _ o c m e f numbered named = cc

unlock_to : (names : List Symbol) (k : Kind) (o : ActionOperand) (t : ℕ) (event : Event) (c : ℕ) (m : List ℕ) → IsNumbered names (given_by k o t) event.gives → slice_get names c ≡ Some (OfMonitor m) → unlock_channel k event ≡ Some c →
    acts_by (is_unlock k) m t t o ≡ true
unlock_to names Unlock (Monitor class) t event c m is named e = subst (λ (x : List ℕ). acts_by true m t t (Monitor x) ≡ true) (one_monitor m class (one (sym named ∙ numbered_at names (OfMonitor class) event.gives c is e))) (acts_of m t)
unlock_to names Unlock o t event c m is named e = absurd (subst (IsNumbered names None) e is)
unlock_to names _ o t event c m is named e = cc

pub unlocks_are : (names : List Symbol) (a : Action) (event : Event) → IsDistinct names → IsEventOf names a event → Does unlocks names a (unlock_channel a.kind event)
unlocks_are names a event distinct is = record {
  to = λ c m named e. unlock_to names a.kind a.operand a.thread event c m is.gives named e;
  from = λ c t m named e. let h = acted (is_unlock a.kind) m t a.thread a.operand e in (from_kind a.kind a.operand c m h.does h.monitor is.gives named, h.own);
}
  where
    from_kind : (k : Kind) (o : ActionOperand) (c : ℕ) (m : List ℕ) → is_unlock k ≡ true → o ≡ Monitor m → IsNumbered names (given_by k o a.thread) event.gives → slice_get names c ≡ Some (OfMonitor m) → unlock_channel k event ≡ Some c
    from_kind Unlock o c m e f numbered named = own_number names (OfMonitor m) event.gives c distinct (subst (λ (x : ActionOperand). IsNumbered names (given_by Unlock x a.thread) event.gives) f numbered) named
    from_kind _ o c m e f numbered named = cc

-- a lock of two monitors is of one
pub one_lock : (m n : List ℕ) (s t : ℕ) (a : Action) → locks m s a ≡ true → locks n t a ≡ true → m ≡ n
one_lock m n s t a e f = let h = acted (is_lock a.kind) m s a.thread a.operand e in let g = acted (is_lock a.kind) n t a.thread a.operand f in monitor (sym h.monitor ∙ g.monitor)
  where
    monitor : Monitor m ≡ Monitor n → m ≡ n
    monitor q = cc

-- the channel of a lock has the name of its monitor
pub lock_named : (names : List Symbol) (a : Action) (event : Event) (c : ℕ) → IsEventOf names a event → lock_channel a.kind event ≡ Some c → (m : List ℕ) × (slice_get names c ≡ Some (OfMonitor m))
lock_named names a event c is own = go a.kind a.operand is.takes own
  where
    go : (k : Kind) (o : ActionOperand) → IsNumbered names (taken_by k o a.thread) event.takes → lock_channel k event ≡ Some c → (m : List ℕ) × (slice_get names c ≡ Some (OfMonitor m))
    go Lock (Monitor class) numbered e = (class, numbered_at names (OfMonitor class) event.takes c numbered e)
    go Lock o numbered e = absurd (subst (IsNumbered names None) e numbered)
    go _ o numbered e = cc

-- and a lock has one
pub lock_channelled : (names : List Symbol) (a : Action) (event : Event) (m : List ℕ) (t : ℕ) → IsEventOf names a event → locks m t a ≡ true → lock_channel a.kind event ≡ None → ⊥
lock_channelled names a event m t is lock none = let h = acted (is_lock a.kind) m t a.thread a.operand lock in go a.kind a.operand h.does h.monitor is.takes none
  where
    go : (k : Kind) (o : ActionOperand) → is_lock k ≡ true → o ≡ Monitor m → IsNumbered names (taken_by k o a.thread) event.takes → lock_channel k event ≡ None → ⊥
    go Lock o e f numbered g = subst (IsNumbered names (Some (OfMonitor m))) g (subst (λ (x : ActionOperand). IsNumbered names (taken_by Lock x a.thread) event.takes) f numbered)
    go _ o e f numbered g = cc

-- and the channel of an unlock too
pub unlock_named : (names : List Symbol) (a : Action) (event : Event) (c : ℕ) → IsEventOf names a event → unlock_channel a.kind event ≡ Some c → (m : List ℕ) × (slice_get names c ≡ Some (OfMonitor m))
unlock_named names a event c is own = go a.kind a.operand is.gives own
  where
    go : (k : Kind) (o : ActionOperand) → IsNumbered names (given_by k o a.thread) event.gives → unlock_channel k event ≡ Some c → (m : List ℕ) × (slice_get names c ≡ Some (OfMonitor m))
    go Unlock (Monitor class) numbered e = (class, numbered_at names (OfMonitor class) event.gives c numbered e)
    go Unlock o numbered e = absurd (subst (IsNumbered names None) e numbered)
    go _ o numbered e = cc
