-- Each read of a straight program sees the last write to its variable before it.
use Rattle.std.proofs.Common.{◌≡◌, ◌<◌, ℕ, Bool, true, false, List, [], ◌∷◌, Some, slice_get, arith, refl, sym, ◌∙◌, ap, subst, inl, inr, ◌⊎◌, Contains}
use Rattle.std.proofs.lemmas.Bool.{cases_order, false≢true}
use Rattle.std.proofs.lemmas.Option.{same_Some}
use Rattle.program.specs.Program.{Prog}
use Rattle.program.specs.Straight.{IsStraight}
use Rattle.program.specs.declared.kind.Kind.{Kind}
use Rattle.program.specs.declared.kind.Kind.TheVariants as kind
use Rattle.program.proofs.Lists.{contains_one, place_of, slice_get_mapped}
use Rattle.action_orders.specs.declared.action.Action.{Action}
use Rattle.action_orders.specs.declared.action.Entry.{Entry}
use Rattle.action_orders.specs.declared.execution.ThreadPart.{ThreadPart}
use Rattle.action_orders.specs.Execution.{Exec}
use Rattle.action_orders.specs.Actions.{Act, Default, Of, Var, IsAction, IsRead, IsWrite, Sees, thread_actions}
use Rattle.action_orders.specs.Actions as acts
use Rattle.action_orders.specs.WellFormed.{IsWellFormed, HasId, SeesByHappensBefore}
use Rattle.action_orders.proofs.OneThread.{action_alone}
use Rattle.straight_executions.specs.Laws.{IsMainAlone}
use Rattle.straight_executions.specs.LastWrites.{IsLastWrite, default, written}
use Rattle.straight_executions.proofs.Alone.{main_alone}
use Rattle.straight_executions.proofs.Once.{sees_once}
use Rattle.straight_executions.proofs.Order.{act_at, ordered, after_default}

-- ---- Kinds

abbrev pub is_write : Kind → Bool
is_write kind.Write = true
is_write kind.VolatileWrite = true
is_write _ = false

pub of_default : (a : Action) (v : Var) → Of a ≡ Default v → ⊥
of_default a v is = cc

write_kind : (v : Var) (a : Action) → IsWrite v (Of a) → is_write a.kind ≡ true
write_kind v a (acts.default is) = absurd (of_default a v is)
write_kind v a (acts.plain is) = ap is_write is.0
write_kind v a (acts.volatile is) = ap is_write is.0

-- an action of another kind writes nothing
pub writes_nothing : (a : Action) (k : Kind) → a.kind ≡ k → is_write k ≡ false → (v : Var) → IsWrite v (Of a) → ⊥
writes_nothing a k is none v write = false≢true (sym none ∙ ap is_write (sym is) ∙ write_kind v a write)

pub read_writes_nothing : (x : Var) (a : Action) → IsRead x (Of a) → (v : Var) → IsWrite v (Of a) → ⊥
read_writes_nothing x a (acts.plain is) = writes_nothing a kind.Read is.0 refl
read_writes_nothing x a (acts.volatile is) = writes_nothing a kind.VolatileRead is.0 refl

-- ---- The write that a read sees

-- the read at a place of main's list sees this write
pub record IsReadAt (p : Prog) (e : Exec) (t : ThreadPart) (place : ℕ) (n : Entry) (v : Var) (w : Act) : Type 0 where
  pub formed : IsWellFormed p e
  pub main : Contains e.threads t
  pub threads : e.threads ≡ t ∷ []
  pub here : slice_get t.entries place ≡ Some n
  pub read : IsRead v (Of n.action)
  pub action : IsAction p e w
  pub write : IsWrite v w
  pub sees : SeesByHappensBefore p e v (Of n.action) w

-- no write lies between the default write and the read
sees_default : (p : Prog) (e : Exec) (t : ThreadPart) (place : ℕ) (n : Entry) (v u : Var) → IsReadAt p e t place n v (Default u) → IsLastWrite t.entries place v (Default u)
sees_default p e t place n v u h = default (same h.write) (λ j m from to there write.
    h.sees.none_between (Of m.action) (act_at p e t j m h.main there) write (after_default p e t j m u h.formed h.main h.action there) (ordered p e t j place m n h.main to there h.here))
  where
    same : IsWrite v (Default u) → Default u ≡ Default v
    same (acts.default is) = is
    same (acts.plain never) = absurd never
    same (acts.volatile never) = absurd never

sees_written : (p : Prog) (e : Exec) (t : ThreadPart) (place at : ℕ) (n m : Entry) (v : Var) → slice_get t.entries at ≡ Some m → IsReadAt p e t place n v (Of m.action) → IsLastWrite t.entries place v (Of m.action)
sees_written p e t place at n m v there h = go (cases_order at place)
  where
    go : (at ≡ place) ⊎ ((at < place) ⊎ (place < at)) → IsLastWrite t.entries place v (Of m.action)
    go (inl is) = absurd (read_writes_nothing v n.action h.read v
        (subst (λ (x : Entry). IsWrite v (Of x.action)) (same_Some m n (sym there ∙ ap (λ (i : ℕ). slice_get t.entries i) is ∙ h.here)) h.write))
    go (inr (inr after)) = absurd (h.sees.not_later (ordered p e t place at n m h.main after h.here there))
    go (inr (inl before)) = written at m before there h.write refl (λ j o from to stands write.
        h.sees.none_between (Of o.action) (act_at p e t j o h.main stands) write (ordered p e t at j m o h.main (omega (arith, from)) there stands) (ordered p e t j place o n h.main to stands h.here))

sees_last : (p : Prog) (e : Exec) (t : ThreadPart) (place : ℕ) (n : Entry) (v : Var) (w : Act) → IsReadAt p e t place n v w → IsLastWrite t.entries place v w
sees_last p e t place n v (Default u) h = sees_default p e t place n v u h
sees_last p e t place n v (Of a) h = go (place_of (thread_actions t) a (action_alone p e t a h.threads h.action))
  where
    go : (at : ℕ) × (slice_get (thread_actions t) at ≡ Some a) → IsLastWrite t.entries place v (Of a)
    go (at, stands) = back (slice_get_mapped (λ (x : Entry). x.action) t.entries at a stands)
      where
        back : (m : Entry) × (slice_get t.entries at ≡ Some m) × (m.action ≡ a) → IsLastWrite t.entries place v (Of a)
        back (m, there, is) = subst (λ (x : Action). IsLastWrite t.entries place v (Of x)) is
            (sees_written p e t place at n m v there (subst (λ (x : Action). IsReadAt p e t place n v (Of x)) (sym is) h))

-- the one part of the execution
pub only_part : (p : Prog) (e : Exec) (t : ThreadPart) → IsStraight p → IsWellFormed p e → Contains e.threads t → e.threads ≡ t ∷ []
only_part p e t h formed acts =
    let alone : IsMainAlone e = main_alone p e h formed in
    alone.threads ∙ ap (λ (u : ThreadPart). u ∷ []) (contains_one alone.main t (subst (λ (ts : List ThreadPart). Contains ts t) alone.threads acts))

pub reads_see_last_writes : (p : Prog) (e : Exec) (t : ThreadPart) (place : ℕ) (n : Entry) (v : Var) (w : Act) → IsStraight p → IsWellFormed p e → Contains e.threads t →
    slice_get t.entries place ≡ Some n → IsRead v (Of n.action) → Sees e v (Of n.action) w → IsLastWrite t.entries place v w
reads_see_last_writes p e t place n v w h formed main here read sees = go ((formed.form n.action.id).write n.action v has read)
  where
    has : HasId e n.action.id n.action
    has = record { action = act_at p e t place n main here; named = refl }

    go : (x : Act) × Sees e v (Of n.action) x × IsAction p e x × IsWrite v x → IsLastWrite t.entries place v w
    go (x, sees_x, action, write) = let same : x ≡ w = sees_once p e v (Of n.action) x w formed sees_x sees in
        sees_last p e t place n v w (record {
          formed = formed;
          main = main;
          threads = only_part p e t h formed main;
          here = here;
          read = read;
          action = subst (IsAction p e) same action;
          write = subst (IsWrite v) same write;
          sees = formed.happens_before n.action.id v n.action w has read sees;
        })
