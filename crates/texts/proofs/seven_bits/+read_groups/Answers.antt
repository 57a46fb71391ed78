use Rattle.std.proofs.Common.{◌+◌, ◌-◌, ◌^◌, arith}
use Rattle.texts.proofs.NumberLaws.{below-70, more-bytes, more-none, no-bytes-none, one-byte, one-byte-none, zero-none}
use Rattle.texts.proofs.seven_bits.+read_groups.Goals as goal

pub returns-in_err-first : goal.returns-in_err-first
returns-in_err-first t c = rw c.from_residual.ensures (no-bytes-none (128 ^ (c.args.more + 1)) c.args.bytes.now c.in_err-first.ensures.cases)

pub returns-then-first-lt128 : goal.returns-then-first-lt128
returns-then-first-lt128 t c = rw c.in_ok-first.ensures.cases.0 (one-byte c.in_ok-first.first.now c.in_ok-first.rest.now c.args.more c.if-first-lt128.true)

pub returns-then-more-eq0 : goal.returns-then-more-eq0
returns-then-more-eq0 t c = rw (c.in_ok-first.ensures.cases.0, c.if-more-eq0.true) (one-byte-none c.in_ok-first.first.now c.in_ok-first.rest.now c.if-first-lt128.false)

pub returns-in_err-high : goal.returns-in_err-high
returns-in_err-high t c =
    rw (c.from_residual-in_err-high.ensures, c.in_ok-first.ensures.cases.0)
    (more-none c.in_ok-first.first.now c.in_ok-first.rest.now c.args.more c.if-first-lt128.false (omega arith) c.in_err-high.ensures)

pub returns-then-high-eq0 : goal.returns-then-high-eq0
returns-then-high-eq0 t c =
    rw c.in_ok-first.ensures.cases.0
    (zero-none c.in_ok-first.first.now c.in_ok-first.rest.now (128 ^ (c.args.more - 1 + 1)) c.in_ok-high.len (128 ^ (c.args.more + 1)) c.in_ok-high.high
    c.if-first-lt128.false c.if-high-eq0.true c.in_ok-high.ensures)

pub overflow_mul-result : goal.overflow_mul-result
overflow_mul-result t c =
    let small = below-70 c.in_ok-high.high (c.args.more - 1) (omega (arith, c.requires)) c.in_ok-high.ensures.few in
    omega (arith, small)

pub overflow_add-result : goal.overflow_add-result
overflow_add-result t c =
    let small = below-70 c.in_ok-high.high (c.args.more - 1) (omega (arith, c.requires)) c.in_ok-high.ensures.few in
    let byte = rw c.in_ok-first.ensures.cases.0 at (c.type_inv.bytes 0) in
    omega (arith, small, byte)

pub returns : goal.returns
returns t c =
    let byte = rw c.in_ok-first.ensures.cases.0 at (c.type_inv.bytes 0) in
    rw c.in_ok-first.ensures.cases.0
    (more-bytes c.in_ok-first.first.now c.in_ok-first.rest.now c.args.more c.in_ok-high.high c.in_ok-high.len c.if-first-lt128.false (omega (arith, byte)) (omega arith) c.if-high-eq0.false c.in_ok-high.ensures)
