-- A set of eight bits has no bit from 32 on.
use Rattle.std.proofs.Common.{arith, ◌≡◌, ◌<◌, ◌≤◌, ◌^◌, ◌/◌, refl, rules}
use Rattle.std.proofs.lemmas.Bool.{le-ltb}
use Rattle.std.proofs.Math.Pow.{pow_mono}
use native.Mathlib.Nat.{div-eq_of_lt}
use Rattle.thread_meaning.proofs.decoding.has_ended.Goals as goal

pub returns-else-thread-lt32 : goal.returns-else-thread-lt32
returns-else-thread-lt32 c =
    let small : c.args.ended < 2 ^ 8 = search rules in
    let high : 2 ^ 8 ≤ 2 ^ c.args.thread = pow_mono {i = 8} {j = c.args.thread} (omega (arith, c.if-thread-lt32.false)) in
    let none : c.args.ended / 2 ^ c.args.thread ≡ 0 = div-eq_of_lt (omega (arith, small, high)) in
    rw (none, le-ltb c.args.thread 32 c.if-thread-lt32.false) refl
