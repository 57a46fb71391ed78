-- A frame that is met is the method's; where none of them is, the method isn't run.
use Rattle.std.proofs.Common.{◌≡◌, ◌<◌, ◌≤◌, ℕ, get_or, refl, length, List, ap, sym, subst, ◌∙◌, arith, Contains}
use Rattle.program.specs.Step.{Activation}
use Rattle.program.specs.declared.method.MethodId.{MethodId}
use Rattle.thread_meaning.specs.declared.frame.Frame.{Frame}
use Rattle.thread_meaning.specs.Outcomes.{IsRunning}
use Rattle.thread_meaning.proofs.Looking.{equal_ids}
use Rattle.thread_meaning.proofs.Running.{running_frame, frame_running}
use Rattle.thread_meaning.proofs.frames.Frames.is_running.Goals as goal

pub returns-then-eq : goal.returns-then-eq
returns-then-eq c =
    let there : Contains c.self.inside.items.items c.frame-item.result =
    subst (λ (xs : List Frame). Contains xs c.frame-item.result) c.deref-frame-items.ensures.value (c.loop-frame.frame-index, c.loop-frame-test.true, sym c.frame-item.is) in
    let running : IsRunning c.args.self.now c.frame-item.result.method = subst (λ (xs : List Activation). IsRunning xs c.frame-item.result.method) c.self.view_is (running_frame c.self.inside.items.items c.frame-item.result there) in
    (λ h. subst (λ (id : MethodId). IsRunning c.args.self.now id) (equal_ids c.frame-item.result.method c.args.id c.if-eq.ensures) running, λ h. refl)

none_there : (items met : List Frame) (id : MethodId) (bound : ℕ) → met ≡ items → length met ≤ bound →
    ((k : ℕ) (d : Frame) → k < bound → (get_or met k d).method ≡ id → ⊥) → (frame : Frame) × Contains items frame × (frame.method ≡ id) → ⊥
none_there items met id bound same all none (frame, (k, within, is), named) =
    none k frame (omega (arith, ap length same)) (ap (λ (x : List Frame). (get_or x k frame).method) same ∙ ap (λ (x : Frame). x.method) is ∙ named)

pub returns : goal.returns
returns c = (
  λ h. absurd (cc),
  λ h. absurd (none_there c.self.inside.items.items c.deref-frame-items.result.now c.args.id c.loop-frame.frame-index c.deref-frame-items.ensures.value
      (omega (arith, c.loop-frame-test.false)) c.loop-frame.invariant
      (frame_running c.self.inside.items.items c.args.id (subst (λ (xs : List Activation). IsRunning xs c.args.id) (sym c.self.view_is) h))),
)
