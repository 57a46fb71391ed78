use Rattle.std.proofs.Common.{◌≡◌, take, arith, refl}
use Rattle.std.proofs.lemmas.Grind.{common_steps}
use Rattle.line_text.specs.OutcomeReading.{text_of}
use Rattle.line_text.proofs.FaultLaws.{fault-at, fault-end}
use Rattle.line_text.proofs.outcome_reader.read_outcome.Goals as goal

pub returns-in-Ok-false-clause-refused : goal.returns-in-Ok-false-clause-refused
returns-in-Ok-false-clause-refused c =
    rw (← c.as_bytes-bytes.ensures.value)
    (fault-at c.loop-place.reader c.as_bytes-bytes.result.now c.loop-place.place _ c.loop-place.invariant.reading c.loop-place.invariant.text
    c.loop-place-test.true refl (rw c.in-Ok-false.field-0-test at c.in-Ok-false.ensures))

pub returns-in-Ok-None-clause-refused : goal.returns-in-Ok-None-clause-refused
returns-in-Ok-None-clause-refused c =
    let whole : take c.loop-place.place c.as_bytes-bytes.result.now ≡ c.as_bytes-bytes.result.now = grind (arith, common_steps, c.loop-place-test.false) in
    let read : text_of c.loop-place.reader ≡ c.as_bytes-bytes.result.now = rw whole at c.loop-place.invariant.text in
    rw (← c.as_bytes-bytes.ensures.value)
    (fault-end c.loop-place.reader c.as_bytes-bytes.result.now c.loop-place.invariant.reading read
    (rw c.in-Ok-None.field-0-is at c.in-Ok-None.ensures))
