use Rattle.std.proofs.Common.{◌<◌, length, ℕ, arith}
use Rattle.std.proofs.lemmas.Option.{slice_get_within}
use borrow.Author.Count.{below_more}
use Rattle.typing.proofs.Led.{IsLed, all_led}
use Rattle.class_tests.proofs.types.reached.is_reached.Goals as goal

pub loop-place-preserved : goal.loop-place-preserved
loop-place-preserved c =
    let P : ℕ → Type 0 = λ q. 0 < q → IsLed c.args.listing.now q in
    below_more P c.loop-place.place c.loop-place.invariant (λ some. c.is_led_to.ensures c.if-not-is_led_to.false)

pub returns : goal.returns
returns c = λ t.
    let xs = c.args.listing.now in
    all_led xs (c.starts.ensures c.if-not-starts.false)
    (λ q l some is. let within : q < length xs = slice_get_within xs q l is in c.loop-place.invariant q (omega arith) some)
