-- Main alone acts in a straight program.
use Rattle.std.proofs.Common.{◌≡◌, ◌<◌, ℕ, zero, suc, List, [], ◌∷◌, Some, slice_get, arith, refl, subst, Contains, AllPairs}
use Rattle.std.proofs.lemmas.Option.{none-some}
use Rattle.program.specs.Program.{Prog}
use Rattle.program.specs.Straight.{IsStraight}
use Rattle.program.specs.declared.method.MethodId.{MethodId}
use Rattle.program.proofs.Lists.{contains_nil, contains_here, contains_later}
use Rattle.action_orders.specs.declared.execution.ThreadPart.{ThreadPart}
use Rattle.action_orders.specs.Execution.{Exec}
use Rattle.action_orders.specs.Runs.{HasRun}
use Rattle.action_orders.specs.WellFormed.{IsWellFormed}
use Rattle.straight_executions.specs.Laws.{IsMainAlone}

one_place : {X : Type 0} (x y : X) (k : ℕ) → slice_get (x ∷ []) k ≡ Some y → k ≡ 0
one_place x y zero is = refl
one_place x y (suc k) is = absurd (none-some y is)

-- a thread that acts has an entry method, and main is the one thread
pub is_main : (p : Prog) (e : Exec) (t : ThreadPart) → IsStraight p → IsWellFormed p e → Contains e.threads t → t.thread ≡ 0
is_main p e t h formed acts =
    let run : HasRun p e t = (formed.intra_thread t.thread).runs t acts refl in
    one_place h.main.id run.runs.run.entry.id t.thread
    (subst (λ (ids : List MethodId). slice_get ids t.thread ≡ Some run.runs.run.entry.id) h.thread run.runs.run.entry.is_thread)

alone_in : (ts : List ThreadPart) (t : ThreadPart) → Contains ts t → AllPairs (λ s u. s.thread < u.thread) ts → ((u : ThreadPart) → Contains ts u → u.thread ≡ 0) →
    (u : ThreadPart) × (ts ≡ u ∷ []) × (u.thread ≡ 0)
alone_in [] t acts increasing main = absurd (contains_nil t acts)
alone_in (u ∷ []) t acts increasing main = (u, refl, main u (contains_here u []))
alone_in (u ∷ v ∷ ts) t acts increasing main =
    let above : u.thread < v.thread = increasing 0 1 u (omega arith) (omega arith) in
    absurd (omega (arith, above, main v (contains_later u v (v ∷ ts) (contains_here v ts))))

pub main_alone : (p : Prog) (e : Exec) → IsStraight p → IsWellFormed p e → IsMainAlone e
main_alone p e h formed = go (formed.intra_thread 0).acts
  where
    go : (t : ThreadPart) × Contains e.threads t × (t.thread ≡ 0) → IsMainAlone e
    go (t, acts, zero_is) = back (alone_in e.threads t acts formed.shape.increasing (λ u inside. is_main p e u h formed inside))
      where
        back : (u : ThreadPart) × (e.threads ≡ u ∷ []) × (u.thread ≡ 0) → IsMainAlone e
        back (u, threads, is) = record { main = u; threads = threads; is_main = is }
