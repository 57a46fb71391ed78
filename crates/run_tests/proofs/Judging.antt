-- What the calls ask of programs and executions.
use Rattle.std.proofs.Common.{◌≡◌, ℕ, false, List, Option, Some, None}
use Rattle.std.specs.Option.{is_some}
use Rattle.std.specs.Prelude.{All}
use Rattle.class_format.specs.ClassText.{IsValid}
use Rattle.class_format.specs.declared.record.ClassRecord.{ClassRecord}
use Rattle.least_break.specs.Least.{IsLeastBreak}
use Rattle.linked_laws.specs.Laws.{AreOrdered}
use Rattle.linking.specs.Linking.{IsProgramOf}
use Rattle.plain_runs.specs.Laws.{RunsArePlain}
use Rattle.program.specs.Program.{Prog}
use Rattle.thread_runs.specs.Sound.{HasSoundRuns}
use Rattle.typed_runs.specs.Laws.{TracesAreLinked}

-- the runs of a linked program are sound
pub sound : (classes : List ClassRecord) (p : Prog) → All IsValid classes → IsProgramOf classes p → AreOrdered → RunsArePlain → TracesAreLinked → HasSoundRuns p
sound classes p valid is ordered plain linked = record {
  ordered = ordered classes p is;
  plain = λ k ended start s moves entry leads. plain classes p k ended start s moves is entry leads;
  linked = λ k ended reads bounds few. linked classes p k ended reads bounds valid is few;
}

-- where no least number that breaks a condition was found, each meets it
pub each_meets : (P : ℕ → Type 0) (o : Option ℕ) → is_some o ≡ false → IsLeastBreak P o → (n : ℕ) → P n
each_meets P None none all = all
each_meets P (Some x) none first = cc
