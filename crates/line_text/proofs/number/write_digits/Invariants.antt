use Rattle.std.proofs.Common.{◌*◌, ◌≡◌, ◌≤◌, ◌<◌, ◌^◌, ◌++◌, drop}
use Rattle.std.specs.Fmt.{decimal}
use Rattle.line_text.proofs.NumberLaws.{left_digits}
use Rattle.line_text.proofs.number.write_digits.Given as goal

abbrev pub invariant-loop-rest : goal.invariant-loop-rest
invariant-loop-rest l = record {
  some : 0 < l.place;
  within : l.place ≤ 39;
  few : l.rest * 10 < 10 ^ l.place;
  digits : decimal l.value ≡ left_digits l.rest ++ drop l.place l.buffer;
}

abbrev pub decreases-loop-rest : goal.decreases-loop-rest
decreases-loop-rest l = l.rest
