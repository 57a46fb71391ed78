-- What main prints within bounds.
use Rattle.std.specs.Prelude.{◌≡◌, ◌≢◌, ℤ, List, Option, Some, None, Result, Ok, Err, All}
use Rattle.java_int.specs.JavaInt.{Fits}
use Rattle.line_text.specs.declared.bounds.Bounds.{Bounds}
use Rattle.straight.specs.declared.run.StraightRun.{StraightRun}
use Rattle.thread_meaning.specs.declared.end.TraceEnd.{TraceEnd}
use Rattle.thread_meaning.specs.declared.end.TraceEnd.TheVariants.{Memory}
use Rattle.thread_meaning.specs.declared.walk.Trace.{Trace}

-- where the ints of the run have the width, the values that it prints; where they have not, none
abbrev pub TellsPrinted : StraightRun → Bounds → Option (List ℤ) → Type 0
TellsPrinted run bounds (Some values) = (values ≡ run.printed) × All (Fits bounds.width) run.ints
TellsPrinted run bounds None = All (Fits bounds.width) run.ints → ⊥

-- what a trace prints, or none where it was refused for another reason than want of memory
abbrev pub IsPrintedBy : Result Trace TraceEnd → Option (List ℤ) → Type 0
IsPrintedBy (Ok traced) printed = printed ≡ Some traced.printed
IsPrintedBy (Err e) printed = (printed ≡ None) × (e ≢ Memory)
