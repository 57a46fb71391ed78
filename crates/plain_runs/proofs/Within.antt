-- A frame that runs around another calls it by some way.
use Rattle.std.proofs.Common.{ℕ, List, [], ◌∷◌, map, subst, inl, inr}
use Rattle.relations.specs.Path.{Path, edge, more}
use Rattle.program.proofs.Lists.{contains_at, contains_cases, contains_nil}
use Rattle.program.specs.Program.{Prog}
use Rattle.program.specs.Step.{Activation}
use Rattle.program.specs.declared.method.MethodId.{MethodId}
use Rattle.program.specs.declared.method.Operand.TheVariants as operand
use Rattle.thread_meaning.specs.Outcomes.{IsRunning, NoneTwice}
use Rattle.linked_laws.specs.Calls.{CallsIn}
use Rattle.typed_runs.specs.Types.{AreTypedFrames, AreWaiting, IsWaitingFrame}

module _ (p : Prog) where
  calls_in : (a : Activation) (held : ℕ → ℕ) (callee : MethodId) → IsWaitingFrame p a held callee → CallsIn p a.method callee
  calls_in a held callee w = record { method = w.method; is_method = w.is_method; call = contains_at w.method.operands w.place (operand.Method callee) w.names }

  append : {x y z : MethodId} → Path (CallsIn p) x y → CallsIn p y z → Path (CallsIn p) x z
  append (edge first) last = more first (edge last)
  append (more first rest) last = more first (append rest last)

  around_calls : (callee : MethodId) (callers : List Activation) (counts : List (ℕ → ℕ)) → AreWaiting p callee callers counts → (id : MethodId) → IsRunning callers id → Path (CallsIn p) id callee
  around_calls callee [] counts around id running = absurd (contains_nil id running)
  around_calls callee (a ∷ callers) [] around id running = absurd around
  around_calls callee (a ∷ callers) (held ∷ counts) around id running = elim (contains_cases a.method id (map (λ x. x.method) callers) running) [
    | inl same ↦ subst (λ (x : MethodId). Path (CallsIn p) x callee) same (edge (calls_in a held callee around.0))
    | inr outer ↦ append (around_calls a.method callers counts around.1 id outer) (calls_in a held callee around.0)
  ]

  module _ (none : (id : MethodId) → Path (CallsIn p) id id → ⊥) where
    around_plain : (callee : MethodId) (callers : List Activation) (counts : List (ℕ → ℕ)) → AreWaiting p callee callers counts → NoneTwice callers
    around_plain callee [] counts around = tt
    around_plain callee (a ∷ callers) [] around = absurd around
    around_plain callee (a ∷ callers) (held ∷ counts) around =
        (λ running. none a.method (around_calls a.method callers counts around.1 a.method running), around_plain a.method callers counts around.1)

    pub frames_plain : (s : List Activation) (counts : List (ℕ → ℕ)) → AreTypedFrames p s counts → NoneTwice s
    frames_plain [] counts frames = tt
    frames_plain (a ∷ callers) [] frames = absurd frames
    frames_plain (a ∷ callers) (held ∷ counts) frames =
        (λ running. none a.method (around_calls a.method callers counts frames.1 a.method running), around_plain a.method callers counts frames.1)
