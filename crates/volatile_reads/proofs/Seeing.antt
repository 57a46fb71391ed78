-- A volatile read agrees with the synchronization order exactly where it sees the last write.
use Rattle.std.proofs.Common.{◌≡◌, ◌+◌, ◌↔◌, ℕ, Option, Some, Contains, slice_get, arith, sym, ◌∙◌, ap, subst, inl, inr}
use Rattle.std.proofs.lemmas.Bool.{cases_order}
use Rattle.program.specs.Program.{Prog}
use Rattle.program.specs.Straight.{AreApart}
use Rattle.program.specs.declared.kind.Kind.TheVariants.{VolatileRead}
use Rattle.action_orders.specs.declared.action.Action.{Action}
use Rattle.action_orders.specs.declared.action.Entry.{Entry}
use Rattle.action_orders.specs.declared.action.Note.TheVariants as note
use Rattle.action_orders.specs.Execution.{Exec}
use Rattle.action_orders.specs.Actions.{Act, Of, Var, IsAction, Is, IsWrite, IsNamed, Sees, variable, volatiles, entries}
use Rattle.action_orders.specs.Actions as acts
use Rattle.action_orders.specs.WellFormed.{SeesBySyncOrder}
use Rattle.orders.specs.Flat.{IsOrdered, IsSyncAt}
use Rattle.orders.proofs.Places.{one}
use Rattle.orders.proofs.Sync.{has_id, same_action}
use Rattle.volatile_reads.specs.LastWrites.{IsPlaceOf, IsLastWrite, IsConsistentAtPlace, front}
use Rattle.volatile_reads.proofs.Named.{one_variable, read_no_write, named_once, one_name, seen_named}
use Rattle.volatile_reads.proofs.SyncPlaces.{order_to, order_from, act_at, sync_at, write_at}

-- the last write may be seen
last_seen : (p : Prog) (e : Exec) (v : Var) (s i : ℕ) (r : Action) (o : Option ℕ) → IsOrdered p e → AreApart p.variables → IsSyncAt e s i r → (last : IsLastWrite p e v s o) → SeesBySyncOrder p e v (Of r) last.write
last_seen p e v s i r o ord apart is last = record {
  not_later = λ so. let back = order_to p e (Of r) last.write (front p + s) last.place ord apart (sync_at p e s i r is) last.is_place so in let before = last.before in omega arith;
  none_between = λ other action write first second.
      let at : IsPlaceOf p e other first.before.later = record { action = action; at = first.before.is_later } in
      let after = order_to p e last.write other last.place first.before.later ord apart last.is_place at first in
      let before = order_to p e other (Of r) first.before.later (front p + s) ord apart at (sync_at p e s i r is) second in
      let most = last.last other first.before.later write at before in
      omega arith;
}

-- and no other
seen_last : (p : Prog) (e : Exec) (v : Var) (s i : ℕ) (r : Action) (w : Act) (o : Option ℕ) → IsOrdered p e → AreApart p.variables → Contains (volatiles p) v → IsSyncAt e s i r → Is VolatileRead (variable v) (Of r) →
    (last : IsLastWrite p e v s o) → IsAction p e w → IsWrite v w → SeesBySyncOrder p e v (Of r) w → w ≡ last.write
seen_last p e v s i r w o ord apart there is read last action write sees =
    let (n, at) = write_at p e v w ord there action write in
    elim (cases_order n last.place) [
      | inl eq ↦ act_at p e w last.write n last.place ord at last.is_place eq
      | inr (inl below) ↦ absurd (sees.none_between last.write last.is_place.action last.is_write (order_from p e w last.write n last.place at last.is_place below)
          (order_from p e last.write (Of r) last.place (front p + s) last.is_place (sync_at p e s i r is) last.before))
      | inr (inr above) ↦ elim (cases_order n (front p + s)) [
        | inl eq ↦ absurd (read_no_write v v r read (subst (IsWrite v) (act_at p e w (Of r) n (front p + s) ord at (sync_at p e s i r is) eq) write))
        | inr (inl before) ↦ (let most = last.last w n write at before in let never : ⊥ = omega arith in absurd never)
        | inr (inr after) ↦ absurd (sees.not_later (order_from p e (Of r) w (front p + s) n (sync_at p e s i r is) at after))
      ]
    ]

pub sees_last : (p : Prog) (e : Exec) (s i : ℕ) (n : Entry) (v : Var) (o seen : Option ℕ) → IsOrdered p e → AreApart p.variables → slice_get (entries e) i ≡ Some n → IsSyncAt e s i n.action → Is VolatileRead (variable v) (Of n.action) →
    IsLastWrite p e v s o → ((x : Option ℕ) → n.note ≡ note.Sees x → seen ≡ x) → (o ≡ seen) ↔ IsConsistentAtPlace p e s
sees_last p e s i n v o seen ord apart entry is read last reads = (to, from)
  where
    to : o ≡ seen → IsConsistentAtPlace p e s
    to same i' r v' w is_r read_r sees =
        let alike : r ≡ n.action = same_action p e i' i r n.action ord is_r.at is.at (one (sym is_r.listed ∙ is.listed)) in
        let one_var : v' ≡ v = one_variable v' v (sym read_r.1 ∙ ap (λ (a : Action). a.operand) alike ∙ read.1) in
        let sees_n : Sees e v (Of n.action) w = subst (λ (u : Var). Sees e u (Of n.action) w) one_var (subst (λ (a : Action). Sees e v' (Of a) w) alike sees) in
        let w_is : w ≡ last.write = named_once p e v seen w last.write ord (seen_named p e i n v w seen ord entry reads sees_n) (subst (λ (x : Option ℕ). IsNamed e v x last.write) same last.is_named) in
        let done : SeesBySyncOrder p e v (Of n.action) w = subst (SeesBySyncOrder p e v (Of n.action)) (sym w_is) (last_seen p e v s i n.action o ord apart is last) in
        subst (λ (u : Var). SeesBySyncOrder p e u (Of r) w) (sym one_var) (subst (λ (a : Action). SeesBySyncOrder p e v (Of a) w) (sym alike) done)

    from : IsConsistentAtPlace p e s → o ≡ seen
    from consistent =
        let has = has_id e i n.action p is.at in
        let there = (ord.form n.action.id).volatile n.action v has (inl read) in
        let (w, sees, action, write) = (ord.form n.action.id).write n.action v has (acts.volatile read) in
        let w_is = seen_last p e v s i n.action w o ord apart there is read last action write (consistent i n.action v w is read sees) in
        one_name e v o seen w (subst (IsNamed e v o) (sym w_is) last.is_named) (seen_named p e i n v w seen ord entry reads sees)
