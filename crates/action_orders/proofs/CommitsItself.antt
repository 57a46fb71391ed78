-- An execution whose reads see writes that happen before them commits itself.
use Rattle.std.proofs.Common.{◌≡◌, ℕ, List, [], ◌∷◌, Some, slice_get, refl, sym, subst, inl, inr, ◌⊎◌, Contains}
use Rattle.std.specs.List.{flat_map}
use Rattle.std.proofs.lemmas.List.Elements.{Contains-append_left, Contains-append_right}
use Rattle.relations.specs.Path.{edge, more}
use Rattle.program.proofs.Lists.{contains_nil, contains_at, contains_cases, contains_mapped, slice_get_mapped}
use Rattle.program.specs.Program.{Prog}
use Rattle.program.specs.declared.kind.Kind.{Kind}
use Rattle.program.specs.declared.kind.Kind.TheVariants.{Read, VolatileRead, Print}
use Rattle.action_orders.specs.declared.action.Action.{Action}
use Rattle.action_orders.specs.declared.action.ActionOperand.TheVariants.{Nothing}
use Rattle.action_orders.specs.declared.action.ActionRef.{ActionRef}
use Rattle.action_orders.specs.declared.action.Entry.{Entry}
use Rattle.action_orders.specs.declared.execution.ThreadPart.{ThreadPart}
use Rattle.action_orders.specs.Execution.{Exec}
use Rattle.action_orders.specs.Actions.{Act, Default, Of, Var, IsAction, Is, IsRead, plain, volatile, Sees, actions, entries, thread_actions, name_of}
use Rattle.action_orders.specs.Orders.{ProgramOrder}
use Rattle.action_orders.specs.SynchronizesWith.{unlock_lock, write_read, start_first, default_first, last_detect}
use Rattle.action_orders.specs.HappensBefore.{HappensBefore, IsEdge}
use Rattle.action_orders.specs.Causality.{IsIn, Conditions, Commits, NamesAll, IsProperSubset}
use Rattle.action_orders.specs.Laws.{ReadsNothing, NamesUnread, HasNames, CommitsItself, in_two_steps, in_one_step}

-- an entry of a thread is one of the execution
contains_flat : (ts : List ThreadPart) (t : ThreadPart) (n : Entry) → Contains ts t → Contains t.entries n → Contains (flat_map (λ u. u.entries) ts) n
contains_flat [] t n acts inside = absurd (contains_nil t acts)
contains_flat (u ∷ ts) t n acts inside = elim (contains_cases u t ts acts) [
  | inl e ↦ Contains-append_left u.entries (flat_map (λ u. u.entries) ts) n (subst (λ (w : ThreadPart). Contains w.entries n) (sym e) inside)
  | inr later ↦ Contains-append_right u.entries (flat_map (λ u. u.entries) ts) n (contains_flat ts t n later inside)
]

-- an action of a thread is one of the execution
pub thread_action : (p : Prog) (e : Exec) (t : ThreadPart) (a : Action) (place : ℕ) → Contains e.threads t → slice_get (thread_actions t) place ≡ Some a → IsAction p e (Of a)
thread_action p e t a place acts stands = go (slice_get_mapped (λ (n : Entry). n.action) t.entries place a stands)
  where
    go : (n : Entry) × (slice_get t.entries place ≡ Some n) × (n.action ≡ a) → Contains (actions (entries e)) a
    go (n, there, is) = subst (λ (b : Action). Contains (actions (entries e)) b) is
        (contains_mapped (λ (n : Entry). n.action) (entries e) n (contains_flat e.threads t n acts (contains_at t.entries place n there)))

order_source : (p : Prog) (e : Exec) (x y : Act) → ProgramOrder e x y → IsAction p e x
order_source p e (Default v) y order = absurd order
order_source p e (Of a) (Default v) order = absurd order
order_source p e (Of a) (Of b) (t, acts, before) = thread_action p e t a before.first acts before.is_first

edge_source : (p : Prog) (e : Exec) (x y : Act) → IsEdge p e x y → IsAction p e x
edge_source p e x y (inl order) = order_source p e x y order
edge_source p e x y (inr (unlock_lock m unlock lock order)) = order.left
edge_source p e x y (inr (write_read v write read order)) = order.left
edge_source p e x y (inr (start_first k act_x act_y start first)) = act_x
edge_source p e x y (inr (default_first k act_x act_y is_default first)) = act_x
edge_source p e x y (inr (last_detect k act_x act_y last detect)) = act_x

-- what happens before something is an action
pub source_is_action : (p : Prog) (e : Exec) (x y : Act) → HappensBefore p e x y → IsAction p e x
source_is_action p e x y (edge r) = edge_source p e x y r
source_is_action p e x y (more {b = m} r path) = edge_source p e x m r

read_print : (k : Kind) → k ≡ Print → k ≡ Read → ⊥
read_print k a b = cc

volatile_read_print : (k : Kind) → k ≡ Print → k ≡ VolatileRead → ⊥
volatile_read_print k a b = cc

-- a print reads nothing
pub print_reads_nothing : (x : Act) → Is Print Nothing x → ReadsNothing x
print_reads_nothing (Default w) is v read = absurd is
print_reads_nothing (Of a) is v (plain h) = read_print a.kind is.0 h.0
print_reads_nothing (Of a) is v (volatile h) = volatile_read_print a.kind is.0 h.0

in_all : (p : Prog) (e : Exec) (all : List ActionRef) (a : Act) → NamesAll p e all → IsAction p e a → IsIn p e all a
in_all p e all a is_all action = record { action = action; member = (is_all (name_of a)).1 (a, action, refl) }

in_unread : (p : Prog) (e : Exec) (unread : List ActionRef) (a : Act) → NamesUnread p e unread → IsAction p e a → ReadsNothing a → IsIn p e unread a
in_unread p e unread a is_unread action nothing = record { action = action; member = is_unread.each a action nothing }

-- a read is not among those that read nothing
no_read_in : (p : Prog) (e : Exec) (unread : List ActionRef) (v : Var) (r : Act) → HasNames p e → NamesUnread p e unread → IsAction p e r → IsRead v r → Contains unread (name_of r) → ⊥
no_read_in p e unread v r names is_unread action read member = go (is_unread.only (name_of r) member)
  where
    go : (a : Act) × IsAction p e a × ReadsNothing a × (name_of a ≡ name_of r) → ⊥
    go (a, act, nothing, named) = subst ReadsNothing (names a r act action named) nothing v read

no_members : (set : List ActionRef) (member : ActionRef) → Contains set member → IsProperSubset [] set
no_members set member is = record { each = λ a h. absurd (contains_nil a h); new = member; is_new = is; not_old = contains_nil member }

pub commits_in_two_steps : (p : Prog) (e : Exec) (unread all : List ActionRef) (v : Var) (r other : Act) → CommitsItself p e unread all →
    IsAction p e r → IsRead v r → IsAction p e other → ReadsNothing other → Commits p e (in_two_steps e unread all)
commits_in_two_steps p e unread all v r other c action read other_action other_nothing = record {
  chain = (no_members unread (name_of other) (c.is_unread.each other other_action other_nothing), (grows, c.is_all));
  conditions = (first, (second, tt));
}
  where
    inside : (a : ActionRef) → Contains unread a → Contains all a
    inside a h = go (c.is_unread.only a h)
      where
        go : (x : Act) × IsAction p e x × ReadsNothing x × (name_of x ≡ a) → Contains all a
        go (x, act, nothing, named) = (c.is_all a).1 (x, act, named)

    grows : IsProperSubset unread all
    grows = record {
      each = inside;
      new = name_of r;
      is_new = (c.is_all (name_of r)).1 (r, action, refl);
      not_old = no_read_in p e unread v r c.names c.is_unread action read;
    }

    first : Conditions p e [] (record { set = unread; execution = e }) (record { set = all; execution = e } ∷ [])
    first = record {
      condition1 = λ a h. h.action;
      condition2 = λ a b in_a in_b. ((λ h. h), (λ h. h));
      condition3 = λ a b in_a in_b. ((λ h. h), (λ h. h));
      condition4 = λ w value in_w. ((λ h. h), (λ h. h));
      condition5 = λ v' r' w is_read in_r. ((λ h. h), (λ h. h));
      condition6 = λ v' r' w is_read act outside sees. (c.earlier v' r' w is_read sees).0;
      condition7 = λ v' r' w is_read in_r outside sees. absurd (no_read_in p e unread v' r' c.names c.is_unread in_r.action is_read in_r.member);
      condition8 = λ x y z essential leads in_z. (essential.synchronizes, (essential.synchronizes, tt));
      condition9 = λ x y external before in_y. in_unread p e unread x c.is_unread (source_is_action p e x y before) (print_reads_nothing x external);
    }

    second : Conditions p e unread (record { set = all; execution = e }) []
    second = record {
      condition1 = λ a h. h.action;
      condition2 = λ a b in_a in_b. ((λ h. h), (λ h. h));
      condition3 = λ a b in_a in_b. ((λ h. h), (λ h. h));
      condition4 = λ w value in_w. ((λ h. h), (λ h. h));
      condition5 = λ v' r' w is_read in_r. ((λ h. h), (λ h. h));
      condition6 = λ v' r' w is_read act outside sees. (c.earlier v' r' w is_read sees).0;
      condition7 = λ v' r' w is_read in_r outside sees. in_unread p e unread w c.is_unread (seen v' r' w is_read sees).1 (seen v' r' w is_read sees).2;
      condition8 = λ x y z essential leads in_z. (essential.synchronizes, tt);
      condition9 = λ x y external before in_y. in_all p e all x c.is_all (source_is_action p e x y before);
    }
      where
        seen : (v' : Var) (r' w : Act) → IsRead v' r' → Sees e v' r' w ⊎ Sees e v' r' w → HappensBefore p e w r' × IsAction p e w × ReadsNothing w
        seen v' r' w is_read (inl sees) = c.earlier v' r' w is_read sees
        seen v' r' w is_read (inr sees) = c.earlier v' r' w is_read sees

pub commits_in_one_step : (p : Prog) (e : Exec) (all : List ActionRef) (other : Act) → NamesAll p e all → IsAction p e other →
    ((a : Act) → IsAction p e a → ReadsNothing a) → Commits p e (in_one_step e all)
commits_in_one_step p e all other is_all other_action nothing = record {
  chain = (no_members all (name_of other) ((is_all (name_of other)).1 (other, other_action, refl)), is_all);
  conditions = (
    record {
      condition1 = λ a h. h.action;
      condition2 = λ a b in_a in_b. ((λ h. h), (λ h. h));
      condition3 = λ a b in_a in_b. ((λ h. h), (λ h. h));
      condition4 = λ w value in_w. ((λ h. h), (λ h. h));
      condition5 = λ v r w is_read in_r. ((λ h. h), (λ h. h));
      condition6 = λ v r w is_read act outside sees. absurd (nothing r act v is_read);
      condition7 = λ v r w is_read in_r outside sees. absurd (nothing r in_r.action v is_read);
      condition8 = λ x y z essential leads in_z. (essential.synchronizes, tt);
      condition9 = λ x y external before in_y. in_all p e all x is_all (source_is_action p e x y before);
    },
    tt,
  );
}
