use Rattle.std.proofs.Common.{◌-◌, ◌≡◌, ◌≤◌, ◌<◌, ◌^◌, ◌++◌, take}
use Rattle.texts.specs.SevenBits.{groups}
use Rattle.texts.proofs.seven_bits.write_groups.Given as goal

abbrev pub invariant-loop-rest : goal.invariant-loop-rest
invariant-loop-rest l = record {
  within : l.len ≤ 9;
  few : l.rest < 128 ^ (10 - l.len);
  bytes : groups 10 l.number ≡ take l.len l.buffer ++ groups (10 - l.len) l.rest;
}

abbrev pub decreases-loop-rest : goal.decreases-loop-rest
decreases-loop-rest l = l.rest
