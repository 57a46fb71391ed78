-- The last writes, place by place.
use Rattle.std.proofs.Common.{◌≡◌, ◌<◌, ◌≤◌, ◌+◌, ℕ, List, Option, Some, None, Contains, slice_get, slice_set, slice_index_or, length, arith, refl, sym, ◌∙◌, ap, ap₂, subst, inl, inr}
use Rattle.std.proofs.lemmas.Bool.{cases_eq}
use Rattle.std.proofs.lemmas.List.{length-set, get_or-set_same, get_or-set_other}
use Rattle.std.proofs.lemmas.Option.{slice_get_within}
use Rattle.clocks.specs.declared.pass.Event.{Event}
use Rattle.program.proofs.Lists.{place_of, slice_get_of}
use Rattle.program.specs.Program.{Prog}
use Rattle.program.specs.Straight.{AreApart}
use Rattle.action_orders.specs.declared.action.Action.{Action}
use Rattle.action_orders.specs.Execution.{Exec}
use Rattle.action_orders.specs.Actions.{Act, Of, Default, Var, IsAction, IsWrite, name_of, volatiles}
use Rattle.action_orders.specs.Actions as acts
use Rattle.orders.specs.Symbols.{Symbol, OfVariable, IsDistinct}
use Rattle.orders.specs.Flat.{IsOrdered, IsSyncAt, IsEventOf}
use Rattle.orders.proofs.Places.{one, is_action}
use Rattle.orders.proofs.Said.{var}
use Rattle.orders.proofs.Sync.{behind, is_sync}
use Rattle.volatile_reads.specs.LastWrites.{IsPlaceOf, IsLastWrite, AreLastWrites, front, with_last, write_channel}
use Rattle.volatile_reads.proofs.Named.{default_write}
use Rattle.volatile_reads.proofs.SyncPlaces.{defaults, names_once, act_at, sync_at, default_at}
use Rattle.volatile_reads.proofs.Channels.{channel_written, write_channelled}

-- before the first place it is the default write
pub last_default : (p : Prog) (e : Exec) (v : Var) → IsOrdered p e → AreApart p.variables → Contains (volatiles p) v → IsLastWrite p e v 0 None
last_default p e v ord apart there =
    let (k, at) = place_of (volatiles p) v there in
    record {
      write = Default v;
      place = k;
      is_write = acts.default refl;
      is_place = default_at p e v k at;
      is_named = refl;
      before = (let h = slice_get_within (defaults p) k (name_of (Default v)) (slice_get_of (λ v. name_of (Default v)) (volatiles p) k v at) in omega arith);
      last = λ x n write is below. most k at x n write is below;
    }
  where
    most : (k : ℕ) → slice_get (volatiles p) k ≡ Some v → (x : Act) (n : ℕ) → IsWrite v x → IsPlaceOf p e x n → n < front p + 0 → n ≤ k
    most k at (Default w) n write is below =
        let same = names_once p e n k (name_of (Default v)) ord apart (is.at ∙ ap (λ (u : Var). Some (name_of (Default u))) (default_write v w write)) (default_at p e v k at).at in
        omega arith
    most k at (Of b) n write is below = let (r, place, listed) = behind p e n b.id is.at in absurd (omega arith)

-- another action leaves it
pub last_kept : (p : Prog) (e : Exec) (v : Var) (s i : ℕ) (b : Action) (o : Option ℕ) → IsOrdered p e → IsSyncAt e s i b → (IsWrite v (Of b) → ⊥) → IsLastWrite p e v s o → IsLastWrite p e v (s + 1) o
last_kept p e v s i b o ord is other last = record {
  write = last.write;
  place = last.place;
  is_write = last.is_write;
  is_place = last.is_place;
  is_named = last.is_named;
  before = (let before = last.before in omega arith);
  last = λ x n write at below. elim (cases_eq n (front p + s)) [
    | inl eq ↦ absurd (other (subst (IsWrite v) (act_at p e x (Of b) n (front p + s) ord at (sync_at p e s i b is) eq) write))
    | inr apart ↦ last.last x n write at (omega arith)
  ];
}

-- a write becomes the last
pub last_written : (p : Prog) (e : Exec) (v : Var) (s i : ℕ) (b : Action) → IsSyncAt e s i b → IsWrite v (Of b) → IsLastWrite p e v (s + 1) (Some b.id)
last_written p e v s i b is write = record {
  write = Of b;
  place = front p + s;
  is_write = write;
  is_place = sync_at p e s i b is;
  is_named = (b, is_action p e i b is.at, refl, refl);
  before = omega arith;
  last = λ x n write' at below. omega arith;
}

-- ---- All variables

pub none_written : (p : Prog) (e : Exec) (names : List Symbol) (last : List (Option ℕ)) → IsOrdered p e → AreApart p.variables → length last ≡ length names → ((c : ℕ) (d : Option ℕ) → c < length last → slice_index_or last c d ≡ None) → AreLastWrites p e names 0 last
none_written p e names last ord apart size none = record {
  size = size;
  each = λ c v d named there. subst (IsLastWrite p e v 0) (sym (none c d (let h = slice_get_within names c (OfVariable v.class v.name) named in omega arith))) (last_default p e v ord apart there);
}

pub one_more : (p : Prog) (e : Exec) (names : List Symbol) (s i : ℕ) (b : Action) (x : Event) (last : List (Option ℕ)) → IsOrdered p e → IsDistinct names → IsSyncAt e s i b → IsEventOf names b x →
    AreLastWrites p e names s last → AreLastWrites p e names (s + 1) (with_last last (write_channel b.kind x) b.id)
one_more p e names s i b x last ord distinct is event before = go (write_channel b.kind x) refl
  where
    other : (c : ℕ) (v : Var) (d : Option ℕ) → slice_get names c ≡ Some (OfVariable v.class v.name) → Contains (volatiles p) v → (write_channel b.kind x ≡ Some c → ⊥) → IsLastWrite p e v (s + 1) (slice_index_or last c d)
    other c v d named there apart = last_kept p e v s i b _ ord is
        (λ write. let (k, at_k, is_k) = write_channelled names b x v event (is_sync p e s i b ord is) write in
        apart (at_k ∙ ap Some (distinct k c (OfVariable v.class v.name) is_k named)))
        (before.each c v d named there)

    own : (c : ℕ) (v : Var) → slice_get names c ≡ Some (OfVariable v.class v.name) → write_channel b.kind x ≡ Some c → IsLastWrite p e v (s + 1) (Some b.id)
    own c v named at =
        let (u, is_u, written) = channel_written names b x c event at in
        let same = one (sym is_u ∙ named) in
        let class : u.class ≡ v.class = cc in
        let name : u.name ≡ v.name = cc in
        last_written p e v s i b is (acts.volatile (written.0, written.1 ∙ ap₂ (λ (y z : List ℕ). acts.variable (var y z)) class name))

    go : (k : Option ℕ) → write_channel b.kind x ≡ k → AreLastWrites p e names (s + 1) (with_last last k b.id)
    go None at = record { size = before.size; each = λ c v d named there. other c v d named there (λ same. no_one c (sym at ∙ same)) }
      where
        no_one : (c : ℕ) → (let none : Option ℕ = None in none ≡ Some c) → ⊥
        no_one c e' = cc
    go (Some k) at = record {
      size = length-set last k (Some b.id) ∙ before.size;
      each = λ c v d named there. elim (cases_eq c k) [
        | inl eq ↦ subst (IsLastWrite p e v (s + 1)) (sym (ap (λ (n : ℕ). slice_index_or (slice_set last k (Some b.id)) n d) eq ∙ get_or-set_same last k (Some b.id) d
            (let h = slice_get_within names c (OfVariable v.class v.name) named in let size = before.size in omega arith)))
            (own c v named (at ∙ ap Some (sym eq)))
        | inr apart ↦ subst (IsLastWrite p e v (s + 1)) (sym (get_or-set_other last k c (Some b.id) d apart)) (other c v d named there (λ same. apart (one (sym same ∙ at))))
      ];
    }
