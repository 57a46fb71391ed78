-- Happens-before in an execution of a straight program: program order, and the default writes before it.
use Rattle.std.proofs.Common.{◌≡◌, ◌<◌, ℕ, zero, suc, List, [], ◌∷◌, ◌++◌, Some, slice_get, arith, refl, sym, ◌∙◌, subst, inl, inr, All, Contains}
use Rattle.std.proofs.lemmas.Option.{same_Some}
use Rattle.relations.specs.Path.{edge, more}
use Rattle.program.specs.Program.{Prog}
use Rattle.program.specs.Run.{events_of}
use Rattle.program.specs.declared.event.Event.{Event}
use Rattle.program.specs.declared.event.Event.TheVariants as event
use Rattle.program.specs.declared.kind.Kind.TheVariants as kind
use Rattle.program.proofs.Lists.{all_of, contains_at, slice_get_of}
use Rattle.action_orders.specs.declared.action.Entry.{Entry}
use Rattle.action_orders.specs.declared.execution.ThreadPart.{ThreadPart}
use Rattle.action_orders.specs.Execution.{Exec, IsEntryOf}
use Rattle.action_orders.specs.Actions.{Default, Of, Var, IsAction, thread_actions}
use Rattle.action_orders.specs.HappensBefore.{HappensBefore}
use Rattle.action_orders.specs.Runs.{HaveEvents, HasRun}
use Rattle.action_orders.specs.SynchronizesWith.{SynchronizesWith, default_first}
use Rattle.action_orders.specs.WellFormed.{IsWellFormed}
use Rattle.action_orders.proofs.CommitsItself.{thread_action}

-- the action at a place of a thread's list
pub action_at : (t : ThreadPart) (k : ℕ) (n : Entry) → slice_get t.entries k ≡ Some n → slice_get (thread_actions t) k ≡ Some n.action
action_at t k n is = slice_get_of (λ (x : Entry). x.action) t.entries k n is

-- an entry of a thread is an action of the execution
pub act_at : (p : Prog) (e : Exec) (t : ThreadPart) (k : ℕ) (n : Entry) → Contains e.threads t → slice_get t.entries k ≡ Some n → IsAction p e (Of n.action)
act_at p e t k n acts is = thread_action p e t n.action k acts (action_at t k n is)

-- program order is happens-before
pub ordered : (p : Prog) (e : Exec) (t : ThreadPart) (i j : ℕ) (m n : Entry) → Contains e.threads t → i < j → slice_get t.entries i ≡ Some m → slice_get t.entries j ≡ Some n →
    HappensBefore p e (Of m.action) (Of n.action)
ordered p e t i j m n acts before is_m is_n =
    edge (inl (t, acts, record { first = i; later = j; before = before; is_first = action_at t i m is_m; is_later = action_at t j n is_n }))

-- a thread's list begins with its first action
pub record HasFirst (entries : List Entry) : Type 0 where
  pub entry : Entry
  pub is_first : slice_get entries 0 ≡ Some entry
  pub kind : entry.action.kind ≡ kind.First

first_of_events : (p : Prog) (e : Exec) (ns : List Entry) (vs : List Event) → HaveEvents p e ns (event.First ∷ vs) → HasFirst ns
first_of_events p e [] vs h = absurd h
first_of_events p e (n ∷ ns) vs (h, later) = record { entry = n; is_first = refl; kind = h }

pub first_of : (p : Prog) (e : Exec) (t : ThreadPart) → IsWellFormed p e → Contains e.threads t → HasFirst t.entries
first_of p e t formed acts =
    let h : HasRun p e t = (formed.intra_thread t.thread).runs t acts refl in
    first_of_events p e t.entries (events_of h.moves ++ event.Last ∷ []) (subst (HaveEvents p e t.entries) h.runs.run.events_are h.runs.matched)

own_thread : (p : Prog) (e : Exec) (t : ThreadPart) (k : ℕ) (n : Entry) → IsWellFormed p e → Contains e.threads t → slice_get t.entries k ≡ Some n → n.action.thread ≡ t.thread
own_thread p e t k n formed acts is =
    (all_of (IsEntryOf t.thread) t.entries n (all_of (λ u. All (IsEntryOf u.thread) u.entries) e.threads t formed.shape.entries acts) (contains_at t.entries k n is)).own

-- a default write happens before each action of main
pub after_default : (p : Prog) (e : Exec) (t : ThreadPart) (k : ℕ) (n : Entry) (v : Var) → IsWellFormed p e → Contains e.threads t → IsAction p e (Default v) →
    slice_get t.entries k ≡ Some n → HappensBefore p e (Default v) (Of n.action)
after_default p e t k n v formed acts there is = go k is
  where
    first : HasFirst t.entries
    first = first_of p e t formed acts

    begins : SynchronizesWith p e (Default v) (Of first.entry.action)
    begins = default_first t.thread there (act_at p e t 0 first.entry acts first.is_first) tt (first.kind, own_thread p e t 0 first.entry formed acts first.is_first)

    go : (i : ℕ) → slice_get t.entries i ≡ Some n → HappensBefore p e (Default v) (Of n.action)
    go zero here = subst (λ (x : Entry). HappensBefore p e (Default v) (Of x.action)) (same_Some first.entry n (sym first.is_first ∙ here)) (edge (inr begins))
    go (suc i) here = more {b = Of first.entry.action} (inr begins) (ordered p e t 0 (suc i) first.entry n acts (omega arith) first.is_first here)
