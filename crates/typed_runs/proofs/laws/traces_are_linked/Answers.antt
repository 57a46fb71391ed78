-- Each thread has its entry, and from each state but the end a step leads on.
use Rattle.std.proofs.Common.{◌<◌, ℕ, ℤ, Bool, List, [], ◌∷◌, pos, length, refl, arith}
use Rattle.std.specs.Prelude.{All}
use Rattle.std.proofs.lemmas.Int.{ints}
use Rattle.class_format.specs.ClassText.{IsValid}
use Rattle.class_format.specs.declared.record.ClassRecord.{ClassRecord}
use Rattle.line_text.specs.declared.bounds.Bounds.{Bounds}
use Rattle.program.proofs.Lists.{contains_at, there_is}
use Rattle.program.specs.Program.{Prog}
use Rattle.program.specs.Run.{Move}
use Rattle.program.specs.Step.{Activation}
use Rattle.linking.specs.Linking.{IsProgramOf}
use Rattle.linked_laws.proofs.Entries.{entries_are_methods}
use Rattle.thread_meaning.specs.Outcomes.{NoStep}
use Rattle.thread_meaning.specs.Tracing.{Arrives, IsNotLinked, no_entry, no_step, within}
use Rattle.typed_runs.specs.Counts.{counts_after, nothing_held}
use Rattle.typed_runs.specs.Laws.{GoesOn, reads, steps}
use Rattle.typed_runs.proofs.Agreeing.{entry_frames, run_frames}
use Rattle.typed_runs.proofs.Going.{goes_on, never_within}
use Rattle.typed_runs.proofs.Stepping.{Frames}
use Rattle.typed_runs.proofs.laws.traces_are_linked.Goals as goal

stuck : (p : Prog) (ended : ℕ → Bool) (s : List Activation) → GoesOn p ended s → NoStep p ended s → ⊥
stuck p ended s (steps e t step) none = none e t step
stuck p ended s (reads v next step) none = none _ (next (pos 0)) (step (pos 0) (omega (arith, ints), omega (arith, ints)))

module _ (classes : List ClassRecord) (p : Prog) (k : ℕ) (ended : ℕ → Bool) (values : List ℤ) (bounds : Bounds) (is : IsProgramOf classes p) where
  frames : (moves : List Move) (s : List Activation) (left : List ℤ) (at : Arrives p k ended values bounds moves s left) → Frames classes p is s (counts_after at.start moves (nothing_held ∷ []))
  frames moves s left at = run_frames classes p is ended at.start s moves (nothing_held ∷ []) (entry_frames classes p is k at.start at.entry) at.leads

  linked : All IsValid classes → k < length p.threads → IsNotLinked p k ended values bounds → ⊥
  linked valid few (no_entry none) =
      let thread = there_is p.threads k few in
      let method = entries_are_methods classes p is thread.0 (contains_at p.threads k thread.0 thread.1) in
      none _ (record { id = thread.0; is_thread = thread.1; method = method.0; is_method = method.1; start = refl })
  linked valid few (no_step moves s left at some none) =
      stuck p ended s (goes_on classes p is valid ended s (counts_after at.start moves (nothing_held ∷ [])) (frames moves s left at) some) none
  linked valid few (within moves s left at itself) = never_within classes p is s (counts_after at.start moves (nothing_held ∷ [])) (frames moves s left at) itself

pub returns : goal.returns
returns c classes p k ended values bounds valid is few refused = linked classes p k ended values bounds is valid few refused
