use Rattle.std.proofs.Common.{◌≡◌, ◌≤◌, ◌<◌, ◌+◌, ◌-◌, ◌/◌, ◌%◌, ◌^◌, ◌++◌, ◌∷◌, [], ◌∙◌, ap, sym, arith, drop, length, set, List, ℕ}
use Rattle.std.proofs.lemmas.Grind.{common_steps}
use Rattle.std.proofs.Math.ListN.{length-set}
use Rattle.std.proofs.lemmas.List.{drop-set}
use Rattle.line_text.proofs.NumberLaws.{decimal-last, left_digits, left-few, left-room, left-step}
use Rattle.line_text.proofs.number.write_digits.Goals as goal

-- a digit that is written stands before those that were
written : (buffer : List ℕ) (place digit value : ℕ) → digit ≡ value → 0 < place → place ≤ length buffer
    → drop (place - 1) (set buffer (place - 1) digit) ≡ value ∷ drop place buffer
written buffer place digit value is some within =
    let here : place - 1 < length buffer = omega arith in
    let back : place - 1 + 1 ≡ place = omega arith in
    drop-set buffer (place - 1) digit here ∙ rw (back, is)

-- nothing stands past the end
past-end : (buffer : List ℕ) (place : ℕ) → length buffer ≡ place → drop place buffer ≡ []
past-end buffer place is = grind (arith, common_steps)

pub loop-rest-init : goal.loop-rest-init
loop-rest-init c =
    let small : c.args.value < 2 ^ 128 = c.ranges.value.fits in
    let few : c.args.value < 10 ^ 64 = omega (arith, small) in
    record {
      some = omega arith;
      within = omega arith;
      few = omega (arith, small);
      digits = decimal-last c.args.value few
          ∙ ap (λ (back : List ℕ). left_digits (c.args.value / 10) ++ back)
          (ap (λ (rest : List ℕ). (48 + c.args.value % 10) ∷ rest) (sym (past-end c.args.buffer.now 40 c.requires))
          ∙ sym (written c.args.buffer.now 40 c.digit.result (48 + c.args.value % 10) c.digit.ensures (omega arith) (omega (arith, c.requires))));
    }

pub loop-rest-preserved : goal.loop-rest-preserved
loop-rest-preserved c =
    let i = c.loop-rest.invariant in
    let room = left-room c.loop-rest.rest c.loop-rest.place c.loop-rest-test.true i.few in
    let few = left-few c.loop-rest.rest c.loop-rest.place i.within i.few in
    let long : c.loop-rest.place ≤ length c.loop-rest.buffer = omega (arith, length-set {A = ℕ}, i.within, c.requires, c.loop-rest.auto.buffer) in
    record {
      some = omega (arith, room.0);
      within = omega (arith, i.within);
      few = room.1;
      digits = i.digits
          ∙ left-step c.loop-rest.rest (drop c.loop-rest.place c.loop-rest.buffer) c.loop-rest-test.true few
          ∙ ap (λ (back : List ℕ). left_digits (c.loop-rest.rest / 10) ++ back)
          (sym (written c.loop-rest.buffer c.loop-rest.place c.digit-in-loop-rest.result (48 + c.loop-rest.rest % 10)
          c.digit-in-loop-rest.ensures i.some long));
    }
