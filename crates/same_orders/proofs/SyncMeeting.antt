-- The third condition, by members.
use Rattle.std.proofs.Common.{◌≡◌, ◌↔◌, ℕ, List, Option, Some, Contains, slice_get, length, map, refl, sym, ◌∙◌, ap, subst}
use Rattle.std.proofs.lemmas.List.{length-map}
use Rattle.std.proofs.lemmas.Option.{slice_get_within, get_or_from_slice_get}
use Rattle.relations.specs.Places.{StandsBefore}
use Rattle.program.proofs.Lists.{place_of, slice_get_of}
use Rattle.program.specs.Program.{Prog}
use Rattle.action_orders.specs.declared.action.Action.{Action}
use Rattle.action_orders.specs.declared.action.ActionRef.TheVariants.{Id}
use Rattle.action_orders.specs.Actions.{Act, Default, Of, Var, IsAction, name_of, volatiles}
use Rattle.action_orders.specs.Causality.{Condition1, IsIn}
use Rattle.action_orders.specs.Orders.{SyncOrder}
use Rattle.action_orders.specs.WellFormed.{IsSync}
use Rattle.orders.specs.declared.answers.Orders.{Orders}
use Rattle.orders.specs.Flat.{IsSyncAt, Relates}
use Rattle.orders.specs.Made.{IsMade}
use Rattle.orders.proofs.Places.{one, is_action, at_of}
use Rattle.orders.proofs.Sync.{is_sync, same_action, so_from, so_places, so_to, sync_of, who}
use Rattle.orders.proofs.Said.{exec, prog}
use Rattle.orders.proofs.Ordered.{So, so_default, default_so, so_defaults, so_never}
use Rattle.least_break.specs.Least.{IsScanned}
use Rattle.volatile_reads.proofs.Named.{act_once}
use Rattle.volatile_reads.proofs.Scanned.{least_of}
use Rattle.step_members.specs.declared.stage.Stage.{Stage}
use Rattle.step_members.specs.declared.table.Member.{Member}
use Rattle.step_members.specs.Stages.{IsStage, program_of, committed_of, step_of}
use Rattle.step_members.specs.AtActions.{Condition3At, IsLeastAction, WithId}
use Rattle.same_orders.specs.Synced.{AreSyncMembers, IsSyncMember, StandsAlike, sync_id}

-- ---- A relation of two names

acts_related : (o : Orders) (R : Act → Act → Type 0) (x y : Act) → IsMade o → IsAction (prog o) (exec o) x → IsAction (prog o) (exec o) y → Relates (prog o) (exec o) R (name_of x) (name_of y) → R x y
acts_related o R x y made in_x in_y h =
    let first = act_once (prog o) (exec o) h.first x made.ordered h.is_first in_x h.named_first in
    let second = act_once (prog o) (exec o) h.second y made.ordered h.is_second in_y h.named_second in
    subst (λ (z : Act). R z y) first (subst (R h.first) second h.related)

relates_acts : (o : Orders) (R : Act → Act → Type 0) (x y : Act) → IsAction (prog o) (exec o) x → IsAction (prog o) (exec o) y → R x y → Relates (prog o) (exec o) R (name_of x) (name_of y)
relates_acts o R x y in_x in_y related = record { first = x; second = y; is_first = in_x; is_second = in_y; named_first = refl; named_second = refl; related = related }

-- ---- Default writes

-- the default write stands before the action exactly where its variable is volatile and the action is listed
default_exactly : (o : Orders) (v : Var) (y : Action) → IsMade o → IsAction (prog o) (exec o) (Default v) → IsAction (prog o) (exec o) (Of y) → SyncOrder (prog o) (exec o) (Default v) (Of y) ↔ (Contains (volatiles (prog o)) v × Contains (exec o).so y.id)
default_exactly o v y made in_v in_y = (
  λ h. (let both = default_so o v.class v.name y.id (relates_acts o (So o) (Default v) (Of y) in_v in_y h) in (both.volatile, both.listed)),
  λ (volatile, listed). (let (r, at) = place_of (exec o).so y.id listed in acts_related o (So o) (Default v) (Of y) made in_v in_y (so_default o v.class v.name r y.id made volatile at)),
)

-- an action of both executions is listed in both
listed_both : (o u : Orders) (y : Action) → IsMade o → IsMade u → IsAction (prog u) (exec u) (Of y) → Contains (exec o).so y.id → IsAction (prog o) (exec o) (Of y) → Contains (exec u).so y.id
listed_both o u y made made_u in_u listed in_o =
    let (r, at) = place_of (exec o).so y.id listed in
    let (i, a, is_a, same) = who (prog o) (exec o) r y.id made.ordered at in
    let (k, at_k) = at_of (prog o) (exec o) y in_o in
    let alike : a ≡ y = same_action (prog o) (exec o) i k a y made.ordered is_a.at at_k same in
    let sync : IsSync y.kind = subst (λ (z : Action). IsSync z.kind) alike (is_sync (prog o) (exec o) r i a made.ordered is_a) in
    (made_u.ordered.form y.id).listed y (record { action = in_u; named = refl }) sync

-- ---- Both programs are one

own_so : (s : Stage) (x y : Act) → IsStage s → SyncOrder (prog s.own.now) (exec s.own.now) x y ↔ SyncOrder (program_of s) (exec s.own.now) x y
own_so s x y stage = (subst (λ (p : Prog). SyncOrder p (exec s.own.now) x y) stage.program, subst (λ (p : Prog). SyncOrder p (exec s.own.now) x y) (sym stage.program))

own_there : (s : Stage) (x : Act) → IsStage s → IsAction (program_of s) (exec s.own.now) x → IsAction (prog s.own.now) (exec s.own.now) x
own_there s x stage = subst (λ (p : Prog). IsAction p (exec s.own.now) x) (sym stage.program)

default_action : (s : Stage) (v : Var) (y : Action) → IsStage s → IsAction (program_of s) (committed_of s) (Default v) → IsAction (program_of s) (committed_of s) (Of y) → IsAction (program_of s) (exec s.own.now) (Of y) →
    SyncOrder (program_of s) (exec s.own.now) (Default v) (Of y) ↔ SyncOrder (program_of s) (committed_of s) (Default v) (Of y)
default_action s v y stage in_v in_y own_y =
    let own = default_exactly s.own.now v y stage.own (own_there s (Default v) stage in_v) (own_there s (Of y) stage own_y) in
    let whole = default_exactly s.whole.now v y stage.whole in_v in_y in
    let so = own_so s (Default v) (Of y) stage in (
      λ h. (let both = own.0 (so.1 h) in whole.1 (subst (λ (p : Prog). Contains (volatiles p) v) stage.program both.0, listed_both s.own.now s.whole.now y stage.own stage.whole in_y both.1 (own_there s (Of y) stage own_y))),
      λ h. (let both = whole.0 h in so.0 (own.1 (subst (λ (p : Prog). Contains (volatiles p) v) (sym stage.program) both.0, listed_both s.whole.now s.own.now y stage.whole stage.own (own_there s (Of y) stage own_y) both.1 in_y))),
    )

two_defaults : (s : Stage) (v w : Var) → IsStage s → IsAction (program_of s) (committed_of s) (Default v) → IsAction (program_of s) (committed_of s) (Default w) →
    SyncOrder (program_of s) (exec s.own.now) (Default v) (Default w) ↔ SyncOrder (program_of s) (committed_of s) (Default v) (Default w)
two_defaults s v w stage in_v in_w =
    let own_v = own_there s (Default v) stage in_v in
    let own_w = own_there s (Default w) stage in_w in
    let own = so_defaults s.own.now v w in
    let whole = so_defaults s.whole.now v w in
    let so = own_so s (Default v) (Default w) stage in (
      λ h. acts_related s.whole.now (So s.whole.now) (Default v) (Default w) stage.whole in_v in_w
          (whole.0 (subst (λ (p : Prog). StandsBefore (volatiles p) v w) stage.program (own.1 (relates_acts s.own.now (So s.own.now) (Default v) (Default w) own_v own_w (so.1 h))))),
      λ h. so.0 (acts_related s.own.now (So s.own.now) (Default v) (Default w) stage.own own_v own_w
          (own.0 (subst (λ (p : Prog). StandsBefore (volatiles p) v w) (sym stage.program) (whole.1 (relates_acts s.whole.now (So s.whole.now) (Default v) (Default w) in_v in_w h))))),
    )

before_no_default : (s : Stage) (x : Action) (w : Var) → IsStage s → IsAction (program_of s) (committed_of s) (Of x) → IsAction (program_of s) (exec s.own.now) (Of x) → IsAction (program_of s) (committed_of s) (Default w) →
    SyncOrder (program_of s) (exec s.own.now) (Of x) (Default w) ↔ SyncOrder (program_of s) (committed_of s) (Of x) (Default w)
before_no_default s x w stage in_x own_x in_w = (
  λ h. absurd (so_never s.own.now x.id w (relates_acts s.own.now (So s.own.now) (Of x) (Default w) (own_there s (Of x) stage own_x) (own_there s (Default w) stage in_w) ((own_so s (Of x) (Default w) stage).1 h))),
  λ h. absurd (so_never s.whole.now x.id w (relates_acts s.whole.now (So s.whole.now) (Of x) (Default w) in_x in_w h)),
)

defaults_meet : (s : Stage) (v : Var) → IsStage s → Condition1 (program_of s) (committed_of s) (step_of s) → Condition3At (program_of s) (committed_of s) (step_of s) (Default v)
defaults_meet s v stage present (Default w) in_v in_b = two_defaults s v w stage in_v.action in_b.action
defaults_meet s v stage present (Of y) in_v in_b = default_action s v y stage in_v.action in_b.action (present (Of y) in_b)

-- ---- Places of committed actions

-- the places of a committed synchronization action
pub record AreSyncPlaces (s : Stage) (x : Action) : Type 0 where
  pub member : Member
  pub is_member : IsSyncMember s member
  pub i : ℕ
  pub j : ℕ
  pub in_whole : IsSyncAt (exec s.whole.now) member.whole i x
  pub in_own : IsSyncAt (exec s.own.now) member.own j x

sync_places : (s : Stage) (x : Action) → IsStage s → Condition1 (program_of s) (committed_of s) (step_of s) → IsIn (program_of s) (committed_of s) s.names.now (Of x) → IsSync x.kind → AreSyncPlaces s x
sync_places s x stage present in_x sync =
    let (i, at_i) = at_of (program_of s) (committed_of s) x in_x.action in
    let (j, at_j) = at_of (program_of s) (exec s.own.now) x (present (Of x) in_x) in
    let (r, is_r) = sync_of (prog s.whole.now) (exec s.whole.now) i x stage.whole.ordered at_i sync in
    let (q, is_q) = sync_of (prog s.own.now) (exec s.own.now) j x stage.own.ordered at_j sync in
    record {
      member = record { whole = r; own = q };
      is_member = record { id = x.id; in_whole = is_r.listed; in_own = is_q.listed; listed = (stage.ids x.id).1 in_x.member };
      i = i;
      j = j;
      in_whole = is_r;
      in_own = is_q;
    }

-- and the action at the places of a member
member_places : (s : Stage) (m : Member) → IsStage s → Condition1 (program_of s) (committed_of s) (step_of s) → (is_m : IsSyncMember s m) → (x : Action) × (i : ℕ) × (j : ℕ) × IsSyncAt (exec s.whole.now) m.whole i x × IsSyncAt (exec s.own.now) m.own j x ×
    IsIn (program_of s) (committed_of s) s.names.now (Of x) × (x.id ≡ is_m.id)
member_places s m stage present is_m =
    let (i, x, is_x, id_x) = who (prog s.whole.now) (exec s.whole.now) m.whole is_m.id stage.whole.ordered is_m.in_whole in
    let in_x : IsIn (program_of s) (committed_of s) s.names.now (Of x) = record {
      action = is_action (program_of s) (committed_of s) i x is_x.at;
      member = subst (λ (n : ℕ). Contains s.names.now (Id n)) (sym id_x) ((stage.ids is_m.id).0 is_m.listed);
    } in
    let (j, at_j) = at_of (program_of s) (exec s.own.now) x (present (Of x) in_x) in
    (x, i, j, is_x, record { listed = is_m.in_own ∙ ap Some (sym id_x); at = at_j }, in_x, id_x)

-- ---- The condition

pub least_unlike : (s : Stage) (ms : List Member) (result : Option ℕ) → IsStage s → Condition1 (program_of s) (committed_of s) (step_of s) → AreSyncMembers s (length (exec s.own.now).so) ms → IsScanned (StandsAlike ms) (map (sync_id s) ms) (length ms) result →
    IsLeastAction (Condition3At (program_of s) (committed_of s) (step_of s)) result
least_unlike s ms result stage present are scanned = record {
  defaults = λ v. defaults_meet s v stage present;
  least = least_of (StandsAlike ms) (WithId (Condition3At (program_of s) (committed_of s) (step_of s))) (map (sync_id s) ms) result to from (subst (λ (n : ℕ). IsScanned (StandsAlike ms) (map (sync_id s) ms) n result) (sym (length-map ms (sync_id s))) scanned);
}
  where
    id_is : (m : Member) (is_m : IsSyncMember s m) → sync_id s m ≡ is_m.id
    id_is m is_m = get_or_from_slice_get (exec s.own.now).so m.own is_m.id 0 is_m.in_own

    placed : (m : Member) → IsSyncMember s m → Contains ms m
    placed m is_m = are.all m is_m (slice_get_within (exec s.own.now).so m.own is_m.id is_m.in_own)

    to : (id : ℕ) → ((k : ℕ) → slice_get (map (sync_id s) ms) k ≡ Some id → StandsAlike ms k) → WithId (Condition3At (program_of s) (committed_of s) (step_of s)) id
    to id all x named b in_x in_b = go b in_b
      where
        by_places : (y : Action) → AreSyncPlaces s x → AreSyncPlaces s y → SyncOrder (program_of s) (exec s.own.now) (Of x) (Of y) ↔ SyncOrder (program_of s) (committed_of s) (Of x) (Of y)
        by_places y a m =
            let (k, at_k) = place_of ms a.member (placed a.member a.is_member) in
            let (j, at_j) = place_of ms m.member (placed m.member m.is_member) in
            let same = id_is a.member a.is_member ∙ one (sym a.is_member.in_own ∙ a.in_own.listed) ∙ named in
            let iff = all k (slice_get_of (sync_id s) ms k a.member at_k ∙ ap Some same) j a.member m.member at_k at_j in
            let so = own_so s (Of x) (Of y) stage in (
              λ h. so_from (program_of s) (committed_of s) a.member.whole m.member.whole a.i m.i x y a.in_whole m.in_whole
                  (iff.0 (so_places (prog s.own.now) (exec s.own.now) a.member.own m.member.own a.j m.j x y stage.own.ordered a.in_own m.in_own (so.1 h))),
              λ h. so.0 (so_from (prog s.own.now) (exec s.own.now) a.member.own m.member.own a.j m.j x y a.in_own m.in_own
                  (iff.1 (so_places (program_of s) (committed_of s) a.member.whole m.member.whole a.i m.i x y stage.whole.ordered a.in_whole m.in_whole h))),
            )

        go : (z : Act) → IsIn (program_of s) (committed_of s) s.names.now z → SyncOrder (program_of s) (exec s.own.now) (Of x) z ↔ SyncOrder (program_of s) (committed_of s) (Of x) z
        go (Default w) in_z = before_no_default s x w stage in_x.action (present (Of x) in_x) in_z.action
        go (Of y) in_z = (
          λ h. (let so = so_to (prog s.own.now) (exec s.own.now) x y ((own_so s (Of x) (Of y) stage).1 h) in
              let first = is_sync (prog s.own.now) (exec s.own.now) so.first so.i x stage.own.ordered so.is_first in
              let later = is_sync (prog s.own.now) (exec s.own.now) so.later so.j y stage.own.ordered so.is_later in
              (by_places y (sync_places s x stage present in_x first) (sync_places s y stage present in_z later)).0 h),
          λ h. (let so = so_to (prog s.whole.now) (exec s.whole.now) x y h in
              let first = is_sync (prog s.whole.now) (exec s.whole.now) so.first so.i x stage.whole.ordered so.is_first in
              let later = is_sync (prog s.whole.now) (exec s.whole.now) so.later so.j y stage.whole.ordered so.is_later in
              (by_places y (sync_places s x stage present in_x first) (sync_places s y stage present in_z later)).1 h),
        )

    from : (k id : ℕ) → slice_get (map (sync_id s) ms) k ≡ Some id → WithId (Condition3At (program_of s) (committed_of s) (step_of s)) id → StandsAlike ms k
    from k id at meets j a m at_k at_j =
        let is_a = are.each k a at_k in
        let is_m = are.each j m at_j in
        let (x, i, i', whole_x, own_x, in_x, id_x) = member_places s a stage present is_a in
        let (y, l, l', whole_y, own_y, in_y, id_y) = member_places s m stage present is_m in
        let same : x.id ≡ id = id_x ∙ sym (id_is a is_a) ∙ one (sym (slice_get_of (sync_id s) ms k a at_k) ∙ at) in
        let iff = meets x same (Of y) in_x in_y in
        let so = own_so s (Of x) (Of y) stage in (
          λ below. so_places (program_of s) (committed_of s) a.whole m.whole i l x y stage.whole.ordered whole_x whole_y (iff.0 (so.0 (so_from (prog s.own.now) (exec s.own.now) a.own m.own i' l' x y own_x own_y below))),
          λ below. so_places (prog s.own.now) (exec s.own.now) a.own m.own i' l' x y stage.own.ordered own_x own_y (so.1 (iff.1 (so_from (program_of s) (committed_of s) a.whole m.whole i l x y whole_x whole_y below))),
        )
