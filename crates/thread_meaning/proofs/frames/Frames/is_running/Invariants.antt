-- None of the frames met so far is the method's.
use Rattle.std.proofs.Common.{◌≡◌, ◌<◌, ℕ, get_or}
use Rattle.thread_meaning.specs.declared.frame.Frame.{Frame}
use Rattle.thread_meaning.proofs.frames.Frames.is_running.Given as goal

abbrev pub invariant-loop-frame : goal.invariant-loop-frame
invariant-loop-frame l = (k : ℕ) (d : Frame) → k < l.frame-index → (get_or l.frame-items k d).method ≡ l.id → ⊥
