-- In a well-formed execution each default write happens before each action.
use Rattle.std.proofs.Common.{◌≡◌, ◌+◌, ℕ, List, [], ◌∷◌, Some, Contains, slice_get, arith, refl, sym, ◌∙◌, ap, subst, inl, inr}
use Rattle.std.proofs.lemmas.Bool.{cases_eq}
use Rattle.relations.specs.Path.{edge, more}
use Rattle.program.proofs.Lists.{all_of, contains_at, slice_get_of}
use Rattle.program.specs.Program.{Prog}
use Rattle.program.specs.declared.event.Event.{Event}
use Rattle.program.specs.declared.event.Event.TheVariants.{First}
use Rattle.program.specs.declared.kind.Kind.TheVariants as kind
use Rattle.action_orders.specs.declared.action.Action.{Action}
use Rattle.action_orders.specs.declared.action.Entry.{Entry}
use Rattle.action_orders.specs.declared.execution.ThreadPart.{ThreadPart}
use Rattle.action_orders.specs.Execution.{Exec, IsEntryOf}
use Rattle.action_orders.specs.Actions.{Default, Of, Var, IsAction, variables}
use Rattle.action_orders.specs.HappensBefore.{HappensBefore}
use Rattle.action_orders.specs.Runs.{HaveEvents}
use Rattle.action_orders.specs.SynchronizesWith.{SynchronizesWith, default_first}
use Rattle.action_orders.specs.WellFormed.{IsWellFormed}
use Rattle.step_members.proofs.Parts.{part_of}
use Rattle.orders.proofs.Places.{Own, one, entry_at, action_at, is_action, at_of, offset}

first_entry : (p : Prog) (e : Exec) (ns : List Entry) (rest : List Event) → HaveEvents p e ns (First ∷ rest) → (n : Entry) × (slice_get ns 0 ≡ Some n) × (n.action.kind ≡ kind.First)
first_entry p e [] rest have = absurd have
first_entry p e (n ∷ ns) rest have = (n, refl, have.0)

pub defaults_first : (p : Prog) (e : Exec) (v : Var) (a : Action) → IsWellFormed p e → Contains (variables p) v → IsAction p e (Of a) → HappensBefore p e (Default v) (Of a)
defaults_first p e v a formed there action =
    let (i, at_i) = at_of p e a action in
    let (n, is_n, act_n) = entry_at e i a at_i in
    let (t, inside, k, at_k) = part_of e.threads i n is_n in
    let run = (formed.intra_thread t.thread).runs t inside refl in
    let (m, at_0, first) = first_entry p e t.entries _ (subst (HaveEvents p e t.entries) run.runs.run.events_are run.runs.matched) in
    subst (λ (x : Action). HappensBefore p e (Default v) (Of x)) act_n (go t inside k n m at_k at_0 first)
  where
    starts : (t : ThreadPart) (m : Entry) → Contains e.threads t → slice_get t.entries 0 ≡ Some m → m.action.kind ≡ kind.First → SynchronizesWith p e (Default v) (Of m.action)
    starts t m inside at_0 first =
        let (o, at) = offset e.threads t inside in
        let own = (all_of (IsEntryOf t.thread) t.entries m (all_of Own e.threads t formed.shape.entries inside) (contains_at t.entries 0 m at_0)).own in
        default_first t.thread there (is_action p e (o + 0) m.action (action_at e (o + 0) m (at 0 m at_0))) tt (first, own)

    go : (t : ThreadPart) → Contains e.threads t → (k : ℕ) (n m : Entry) → slice_get t.entries k ≡ Some n → slice_get t.entries 0 ≡ Some m → m.action.kind ≡ kind.First → HappensBefore p e (Default v) (Of n.action)
    go t inside k n m at_k at_0 first = elim (cases_eq k 0) [
      | inl eq ↦ subst (λ (x : Entry). HappensBefore p e (Default v) (Of x.action)) (one (sym at_0 ∙ ap (slice_get t.entries) (sym eq) ∙ at_k)) (edge (inr (starts t m inside at_0 first)))
      | inr apart ↦ more (inr (starts t m inside at_0 first)) (edge (inl (
        t,
        inside,
        record {
          first = 0;
          later = k;
          before = omega arith;
          is_first = slice_get_of (λ (x : Entry). x.action) t.entries 0 m at_0;
          is_later = slice_get_of (λ (x : Entry). x.action) t.entries k n at_k;
        },
      )))
    ]
