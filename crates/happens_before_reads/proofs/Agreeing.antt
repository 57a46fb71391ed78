-- What was read of the entry at a place.
use Rattle.std.proofs.Common.{◌≡◌, ◌<◌, ◌↔◌, ℕ, List, Option, Some, None, Bool, true, IsTrue, IfNone, All, slice_index_or, length, arith, refl, sym, ◌∙◌, ap, subst, Bor}
use Rattle.std.specs.List.Sorted.{IsNonDecreasingBy}
use Rattle.std.proofs.lemmas.Option.{slice_get_within}
use Rattle.action_orders.specs.declared.action.Action.{Action}
use Rattle.action_orders.specs.declared.action.ActionRef.{ActionRef}
use Rattle.action_orders.specs.declared.action.Entry.{Entry}
use Rattle.action_orders.specs.Actions.{Act, Of, Var, IsAction, IsRead, name_of}
use Rattle.orders.specs.declared.answers.Orders.{Orders}
use Rattle.orders.specs.Made.{IsMade}
use Rattle.orders.specs.Symbols.{OfVariable, symbols}
use Rattle.orders.proofs.Said.{exec, prog}
use Rattle.happens_before_reads.specs.Accesses.{IsNumberRead, ReadsNone}
use Rattle.happens_before_reads.specs.Sights.{IsConsistentAtPlace, IsRecent, seen_name}
use Rattle.happens_before_reads.specs.Writes.{AreWrites, AreAllWrites}
use Rattle.happens_before_reads.proofs.Seeing.{noted_at, reads_nothing, sees_nothing, consistent_exactly}

-- ---- The list of the writes to the read variable

pub read_within : (o : Orders) (n c : ℕ) (a : Action) (lists : List (List ℕ)) → IsNumberRead o a c → AreAllWrites o n lists → c < length lists
read_within o n c a lists (v, named, read) all = let h = slice_get_within (symbols o.variables) c (OfVariable v.class v.name) named in let size = all.size in omega arith

pub read_listed : (o : Orders) (n c : ℕ) (a : Action) (lists : List (List ℕ)) (places : List ℕ) → IsNumberRead o a c → AreAllWrites o n lists → ((d : List ℕ) → places ≡ slice_index_or lists c d) → (v : Var) × IsRead v (Of a) × AreWrites o v n places
read_listed o n c a lists places (v, named, read) all is = (v, read, subst (AreWrites o v n) (sym (is places)) (all.each c v places named))

pub listed_rising : (o : Orders) (n c : ℕ) (a : Action) (lists : List (List ℕ)) (places : List ℕ) → IsNumberRead o a c → AreAllWrites o n lists → ((d : List ℕ) → places ≡ slice_index_or lists c d) → IsNonDecreasingBy (λ k. k) places
listed_rising o n c a lists places number all is = let (v, read, listed) = read_listed o n c a lists places number all is in listed.rising

pub listed_below : (o : Orders) (n c : ℕ) (a : Action) (lists : List (List ℕ)) (places : List ℕ) → IsNumberRead o a c → AreAllWrites o n lists → ((d : List ℕ) → places ≡ slice_index_or lists c d) → All (λ k. k < n) places
listed_below o n c a lists places number all is = let (v, read, listed) = read_listed o n c a lists places number all is in listed.below

-- ---- Whether the entry agrees

holds : (P : Type 0) → P → IsTrue true ↔ P
holds P p = (λ is. p, λ q. refl)

pub unread : (o : Orders) (i : ℕ) (x : Bor Entry) (n : Option ℕ) → IsMade o → i < length o.flat.entries.items → x ≡ slice_index_or o.flat.entries.items i x → n ≡ None → IfNone n (ReadsNone o x.now.action) → IsTrue true ↔ IsConsistentAtPlace o i
unread o i x None made within is none reads = holds (IsConsistentAtPlace o i) (reads_nothing o i made within (subst (ReadsNone o) (noted_at o i x made within is).1 reads))
unread o i x (Some c) made within is none reads = cc

pub unseen : (o : Orders) (i : ℕ) (x : Bor Entry) (name : Option ActionRef) → IsMade o → i < length o.flat.entries.items → x ≡ slice_index_or o.flat.entries.items i x → name ≡ seen_name x.now.note x.now.action.operand → name ≡ None → IsTrue true ↔ IsConsistentAtPlace o i
unseen o i x name made within is names none =
    let (at, same) = noted_at o i x made within is in
    holds (IsConsistentAtPlace o i) (sees_nothing o i x.now.note made at (ap (λ (a : Action). seen_name x.now.note a.operand) (sym same) ∙ sym names ∙ none))

pub seen_exactly : (o : Orders) (i c : ℕ) (x : Bor Entry) (name : Option ActionRef) (ref : ActionRef) (lists : List (List ℕ)) (places : List ℕ) (b : Bool) → IsMade o → i < length o.flat.entries.items → x ≡ slice_index_or o.flat.entries.items i x →
    name ≡ seen_name x.now.note x.now.action.operand → name ≡ Some ref → IsNumberRead o x.now.action c → AreAllWrites o (length o.flat.entries.items) lists → ((d : List ℕ) → places ≡ slice_index_or lists c d) →
    ((y : Act) → IsAction (prog o) (exec o) y → name_of y ≡ ref → IsTrue b ↔ IsRecent o places y i) → IsTrue b ↔ IsConsistentAtPlace o i
seen_exactly o i c x name ref lists places b made within is names some number all list decides =
    let (at, same) = noted_at o i x made within is in
    let (v, read, listed) = read_listed o (length o.flat.entries.items) c x.now.action lists places number all list in
    consistent_exactly o i x.now.note v ref places b made within at (subst (λ (a : Action). IsRead v (Of a)) same read) (ap (λ (a : Action). seen_name x.now.note a.operand) (sym same) ∙ sym names ∙ some) listed decides
