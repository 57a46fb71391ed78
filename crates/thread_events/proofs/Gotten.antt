-- The values that the reads of a thread get, in order.
use Rattle.std.proofs.Common.{◌≡◌, ◌<◌, ◌+◌, ◌++◌, ℕ, ℤ, Bool, true, false, List, [], ◌∷◌, Contains, cond, length, take, slice_index_or, refl, sym, ◌∙◌, ap, subst, inl, inr}
use Rattle.std.proofs.lemmas.List.{append-nil, take_more}
use Rattle.std.proofs.lemmas.List.Elements.{filter-append}
use Rattle.std.specs.List.{filter_map}
use Rattle.program.proofs.Lists.{contains_cases, contains_here, contains_later}
use Rattle.program.specs.Program.{Prog}
use Rattle.program.specs.Run.{read_of}
use Rattle.program.specs.declared.event.Event.{Event}
use Rattle.program.specs.declared.event.Event.TheVariants as event
use Rattle.program.specs.declared.kind.Kind.{Kind}
use Rattle.program.specs.declared.kind.Kind.TheVariants as kind
use Rattle.action_orders.specs.declared.action.Entry.{Entry}
use Rattle.action_orders.specs.Execution.{Exec}
use Rattle.action_orders.specs.Actions.{entries}
use Rattle.action_orders.specs.Actions as acts
use Rattle.action_orders.specs.Runs.{HasEvent, HaveEvents}
use Rattle.orders.specs.Flat.{IsOrdered}
use Rattle.thread_events.specs.Gotten.{AreAmong, AreGotten, GetEach, GetsValue, IsOneMore, is_read, reads_among}
use Rattle.thread_events.proofs.Entries.{no_default, of_read}
use Rattle.thread_events.proofs.Reading.{one_value}

-- ---- One more action

each_more : (e : Exec) (ns : List Entry) (xs : List ℤ) (n : Entry) (x : ℤ) → GetEach e ns xs → GetsValue e n x → GetEach e (ns ++ n ∷ []) (xs ++ x ∷ [])
each_more e [] [] n x each gets = (gets, tt)
each_more e [] (y ∷ xs) n x each gets = absurd each
each_more e (m ∷ ns) [] n x each gets = absurd each
each_more e (m ∷ ns) (y ∷ xs) n x each gets = (each.0, each_more e ns xs n x each.1 gets)

reads_more : (ns : List Entry) (n : Entry) (b : Bool) → is_read n.action.kind ≡ b → reads_among (ns ++ n ∷ []) ≡ reads_among ns ++ cond b (n ∷ []) []
reads_more ns n b is = filter-append (λ (m : Entry). is_read m.action.kind) ns (n ∷ []) ∙ ap (λ (c : Bool). reads_among ns ++ cond c (n ∷ []) []) is

pub one_read : (e : Exec) (n : Entry) (x : ℤ) (old : List ℤ) → is_read n.action.kind ≡ true → GetsValue e n x → IsOneMore e n old (old ++ x ∷ [])
one_read e n x old is gets ns got = subst (λ (ms : List Entry). GetEach e ms (old ++ x ∷ [])) (sym (reads_more ns n true is)) (each_more e (reads_among ns) old n x got gets)

pub no_read : (e : Exec) (n : Entry) (old : List ℤ) → is_read n.action.kind ≡ false → IsOneMore e n old old
no_read e n old is ns got = subst (λ (ms : List Entry). GetEach e ms old) (sym (reads_more ns n false is ∙ append-nil (reads_among ns))) got

pub gotten_more : (e : Exec) (part : List Entry) (i : ℕ) (n : Entry) (old new : List ℤ) → i < length part → n ≡ slice_index_or part i n → AreGotten e (take i part) old → IsOneMore e n old new → AreGotten e (take (i + 1) part) new
gotten_more e part i n old new within is got more =
    subst (λ (ns : List Entry). AreGotten e ns new) (sym (take_more part i n within ∙ ap (λ (m : Entry). take i part ++ m ∷ []) (sym is))) (more (take i part) got)

-- ---- The values are determined

module _ (p : Prog) (e : Exec) (ord : IsOrdered p e) where
  one_each : (ns : List Entry) (xs ys : List ℤ) → AreAmong e ns → GetEach e ns xs → GetEach e ns ys → xs ≡ ys
  one_each [] [] [] among a b = refl
  one_each [] [] (y ∷ ys) among a b = absurd b
  one_each [] (x ∷ xs) ys among a b = absurd a
  one_each (n ∷ ns) [] ys among a b = absurd a
  one_each (n ∷ ns) (x ∷ xs) [] among a b = absurd b
  one_each (n ∷ ns) (x ∷ xs) (y ∷ ys) among a b =
      let first : x ≡ y = one_value p e ord n x y (among n (contains_here n ns)) a.0 b.0 in
      let rest : xs ≡ ys = one_each ns xs ys (λ m inside. among m (contains_later n m ns inside)) a.1 b.1 in
      cc

  reads_are_among : (ns : List Entry) → AreAmong e ns → AreAmong e (reads_among ns)
  reads_are_among [] among m inside = among m inside
  reads_are_among (n ∷ ns) among m inside = go (is_read n.action.kind) refl (reads_are_among ns (λ k there. among k (contains_later n k ns there)))
    where
      go : (b : Bool) → is_read n.action.kind ≡ b → AreAmong e (reads_among ns) → Contains (entries e) m
      go true is rest = elim (contains_cases n m (reads_among ns) (subst (λ (c : Bool). Contains (cond c (n ∷ reads_among ns) (reads_among ns)) m) is inside)) [
        | inl same ↦ subst (Contains (entries e)) same (among n (contains_here n ns))
        | inr later ↦ rest m later
      ]
      go false is rest = rest m (subst (λ (c : Bool). Contains (cond c (n ∷ reads_among ns) (reads_among ns)) m) is inside)

  pub one_list : (ns : List Entry) (xs ys : List ℤ) → AreAmong e ns → AreGotten e ns xs → AreGotten e ns ys → xs ≡ ys
  one_list ns xs ys among a b = one_each (reads_among ns) xs ys (reads_are_among ns among) a b

-- ---- The values of the events

module _ (p : Prog) (e : Exec) where
  first_in : (n : Entry) (ns : List Entry) → is_read n.action.kind ≡ true → reads_among (n ∷ ns) ≡ n ∷ reads_among ns
  first_in n ns is = ap (λ (b : Bool). cond b (n ∷ reads_among ns) (reads_among ns)) is

  first_out : (n : Entry) (ns : List Entry) (k : Kind) → n.action.kind ≡ k → is_read k ≡ false → reads_among (n ∷ ns) ≡ reads_among ns
  first_out n ns k is none = ap (λ (b : Bool). cond b (n ∷ reads_among ns) (reads_among ns)) (ap is_read is ∙ none)

  -- an event that is no read, and those behind it
  other : (n : Entry) (ns : List Entry) (values : List ℤ) (k : Kind) → n.action.kind ≡ k → is_read k ≡ false → AreGotten e ns values → AreGotten e (n ∷ ns) values
  other n ns values k is none rest = subst (λ (ms : List Entry). GetEach e ms values) (sym (first_out n ns k is none)) rest

  write_kind : (n : Entry) (number : ℕ) (value : ℤ) → HasEvent p e n (event.Write number value) → (k : Kind) × (n.action.kind ≡ k) × (is_read k ≡ false)
  write_kind n number value (v, named, acts.default is, stores) = let never : ⊥ = no_default v n.action is in absurd never
  write_kind n number value (v, named, acts.plain is, stores) = (kind.Write, is.0, refl)
  write_kind n number value (v, named, acts.volatile is, stores) = (kind.VolatileWrite, is.0, refl)

  -- the values that the events of a run read are those that the reads among its actions get
  pub gotten_events : (ns : List Entry) (vs : List Event) → HaveEvents p e ns vs → AreGotten e ns (filter_map read_of vs)
  gotten_events [] [] have = tt
  gotten_events [] (v ∷ vs) have = absurd have
  gotten_events (n ∷ ns) [] have = absurd have
  gotten_events (n ∷ ns) (event.First ∷ vs) have = other n ns (filter_map read_of vs) kind.First have.0 refl (gotten_events ns vs have.1)
  gotten_events (n ∷ ns) (event.Last ∷ vs) have = other n ns (filter_map read_of vs) kind.Last have.0 refl (gotten_events ns vs have.1)
  gotten_events (n ∷ ns) (event.Read number value ∷ vs) have =
      let (v, named, read, gets) = have.0 in
      subst (λ (ms : List Entry). GetEach e ms (value ∷ filter_map read_of vs)) (sym (first_in n ns (of_read v n.action read).0)) (record { variable = v; read = read; gets = gets }, gotten_events ns vs have.1)
  gotten_events (n ∷ ns) (event.Write number value ∷ vs) have =
      let (k, is, none) = write_kind n number value have.0 in
      other n ns (filter_map read_of vs) k is none (gotten_events ns vs have.1)
  gotten_events (n ∷ ns) (event.Lock number ∷ vs) have = let (class, named, is) = have.0 in other n ns (filter_map read_of vs) kind.Lock is.0 refl (gotten_events ns vs have.1)
  gotten_events (n ∷ ns) (event.Unlock number ∷ vs) have = let (class, named, is) = have.0 in other n ns (filter_map read_of vs) kind.Unlock is.0 refl (gotten_events ns vs have.1)
  gotten_events (n ∷ ns) (event.Start k ∷ vs) have = other n ns (filter_map read_of vs) kind.Start have.0.0 refl (gotten_events ns vs have.1)
  gotten_events (n ∷ ns) (event.Detect k ∷ vs) have = other n ns (filter_map read_of vs) kind.Detect have.0.0 refl (gotten_events ns vs have.1)
  gotten_events (n ∷ ns) (event.Print value ∷ vs) have = other n ns (filter_map read_of vs) kind.Print have.0 refl (gotten_events ns vs have.1)
