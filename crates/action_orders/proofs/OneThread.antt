-- Happens-before where one thread acts alone.
use Rattle.std.proofs.Common.{◌≡◌, ℕ, List, [], ◌∷◌, arith, refl, sym, ◌∙◌, ap, subst, inl, inr, Contains}
use Rattle.std.specs.List.{flat_map}
use Rattle.std.proofs.lemmas.List.{append-nil}
use Rattle.relations.specs.Places.{StandsBefore}
use Rattle.relations.proofs.Paths.{within}
use Rattle.program.proofs.Lists.{contains_one, contains_at}
use Rattle.program.specs.Program.{Prog}
use Rattle.program.specs.declared.kind.Kind.{Kind}
use Rattle.program.specs.declared.kind.Kind.TheVariants.{First, VolatileRead, Unlock, Start, Detect}
use Rattle.action_orders.specs.declared.action.Action.{Action}
use Rattle.action_orders.specs.declared.action.ActionOperand.{ActionOperand}
use Rattle.action_orders.specs.declared.action.Entry.{Entry}
use Rattle.action_orders.specs.declared.execution.ThreadPart.{ThreadPart}
use Rattle.action_orders.specs.Execution.{Exec}
use Rattle.action_orders.specs.Actions.{Act, Default, Of, Var, IsAction, Is, IsBy, IsDefault, actions, entries, thread_actions}
use Rattle.action_orders.specs.Orders.{ProgramOrder}
use Rattle.action_orders.specs.SynchronizesWith.{unlock_lock, write_read, start_first, default_first, last_detect}
use Rattle.action_orders.specs.HappensBefore.{HappensBefore, IsEdge}
use Rattle.action_orders.specs.Laws.{ActsAlone, AreDistinct, IsPlain, IsEarlier, default, stands}

-- the entries of one thread that acts alone are all entries
pub entries_alone : (e : Exec) (t : ThreadPart) → e.threads ≡ t ∷ [] → entries e ≡ t.entries
entries_alone e t alone = ap (λ (ts : List ThreadPart). flat_map (λ u. u.entries) ts) alone ∙ append-nil t.entries

pub action_alone : (p : Prog) (e : Exec) (t : ThreadPart) (a : Action) → e.threads ≡ t ∷ [] → IsAction p e (Of a) → Contains (thread_actions t) a
action_alone p e t a alone h = subst (λ (ns : List Entry). Contains (actions ns) a) (entries_alone e t alone) h

of_default : (a : Action) (v : Var) → Of a ≡ Default v → ⊥
of_default a v e = cc

of_same : (a b : Action) → Of a ≡ Of b → a ≡ b
of_same a b e = cc

earlier_trans : (p : Prog) (t : ThreadPart) (x y z : Act) → AreDistinct (thread_actions t) → IsEarlier p t x y → IsEarlier p t y z → IsEarlier p t x z
earlier_trans p t x y z distinct (default v b is_x is_y inside) (default w c is_y' is_z inside') = absurd (of_default b w (sym is_y ∙ is_y'))
earlier_trans p t x y z distinct (default v b is_x is_y inside) (stands b' c is_y' is_z after) =
    default v c is_x is_z (contains_at (thread_actions t) after.later c after.is_later)
earlier_trans p t x y z distinct (stands a b is_x is_y before) (default w c is_y' is_z inside') = absurd (of_default b w (sym is_y ∙ is_y'))
earlier_trans p t x y z distinct (stands a b is_x is_y before) (stands b' c is_y' is_z after) = stands a c is_x is_z (record {
  first = before.first;
  later = after.later;
  before = omega (arith, place, before.before, after.before);
  is_first = before.is_first;
  is_later = after.is_later;
})
  where
    place : before.later ≡ after.first
    place = distinct before.later after.first b b' before.is_later after.is_first (ap (λ (a' : Action). a'.id) (of_same b b' (sym is_y ∙ is_y')))

-- no action of the thread has a kind that is not plain
unplain : (p : Prog) (e : Exec) (t : ThreadPart) (k : Kind) (o : ActionOperand) (x : Act) → ActsAlone e t → IsAction p e x → Is k o x → (IsPlain k → ⊥) → ⊥
unplain p e t k o (Default v) alone action is never = is
unplain p e t k o (Of a) alone action is never =
    never (subst IsPlain is.0 (alone.plain a (action_alone p e t a alone.threads action)))

edge_default : (p : Prog) (e : Exec) (t : ThreadPart) (k : ℕ) (x y : Act) → ActsAlone e t → IsAction p e y → IsDefault x → IsBy First k y → IsEarlier p t x y
edge_default p e t k (Default v) (Of b) alone action is_default is_first = default v b refl refl (action_alone p e t b alone.threads action)
edge_default p e t k (Default v) (Default w) alone action is_default is_first = absurd is_first
edge_default p e t k (Of a) y alone action is_default is_first = absurd is_default

edge_order : (p : Prog) (e : Exec) (t : ThreadPart) (x y : Act) → ActsAlone e t → ProgramOrder e x y → IsEarlier p t x y
edge_order p e t (Default v) y alone order = absurd order
edge_order p e t (Of a) (Default v) alone order = absurd order
edge_order p e t (Of a) (Of b) alone (u, acts, before) = stands a b refl refl
    (subst (λ (u' : ThreadPart). StandsBefore (thread_actions u') a b) (sym (contains_one t u (subst (λ (ts : List ThreadPart). Contains ts u) alone.threads acts))) before)

edge_earlier : (p : Prog) (e : Exec) (t : ThreadPart) → ActsAlone e t → (x y : Act) → IsEdge p e x y → IsEarlier p t x y
edge_earlier p e t alone x y (inl order) = edge_order p e t x y alone order
edge_earlier p e t alone x y (inr (unlock_lock m unlock lock order)) = absurd (unplain p e t Unlock _ x alone order.left unlock (λ h. h))
edge_earlier p e t alone x y (inr (write_read v write read order)) = absurd (unplain p e t VolatileRead _ y alone order.right read (λ h. h))
edge_earlier p e t alone x y (inr (start_first k act_x act_y start first)) = absurd (unplain p e t Start _ x alone act_x start (λ h. h))
edge_earlier p e t alone x y (inr (default_first k act_x act_y is_default first)) = edge_default p e t k x y alone act_y is_default first
edge_earlier p e t alone x y (inr (last_detect k act_x act_y last detect)) = absurd (unplain p e t Detect _ y alone act_y detect (λ h. h))

pub alone_in_order : (p : Prog) (e : Exec) (t : ThreadPart) (x y : Act) → ActsAlone e t → HappensBefore p e x y → IsEarlier p t x y
alone_in_order p e t x y alone before =
    within (IsEdge p e) (IsEarlier p t) (edge_earlier p e t alone) (λ a b c. earlier_trans p t a b c alone.distinct) x y before
