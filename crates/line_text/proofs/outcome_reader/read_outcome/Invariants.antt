use Rattle.std.proofs.Common.{◌≡◌, take}
use Rattle.line_text.specs.OutcomeReading.{IsReading, text_of}
use Rattle.line_text.proofs.outcome_reader.read_outcome.Given as goal

abbrev pub invariant-loop-place : goal.invariant-loop-place
invariant-loop-place l = record {
  text : text_of l.reader ≡ take l.place l.bytes;
  reading : IsReading l.reader;
}
