use Rattle.std.proofs.Common.{◌≡◌, ◌+◌, ◌-◌, ◌/◌, ◌%◌, ◌<◌, ◌++◌, ◌∷◌, [], ◌∙◌, ap, sym, arith, length, set, take, List, ℕ}
use Rattle.std.proofs.lemmas.List.{append-nil}
use Rattle.texts.specs.SevenBits.{groups}
use Rattle.texts.proofs.GroupLaws.{groups-last, groups-more, rest-few, seven_bits-ten, written}
use Rattle.texts.proofs.seven_bits.write_groups.Goals as goal

pub loop-rest-init : goal.loop-rest-init
loop-rest-init c = record {
  within = omega arith;
  few = omega (arith, c.ranges.number.fits);
  bytes = refl-at (groups 10 c.args.number);
}
  where
    refl-at : (bytes : List ℕ) → bytes ≡ bytes
    refl-at bytes = λ i. bytes

pub loop-rest-preserved : goal.loop-rest-preserved
loop-rest-preserved c =
    let i = c.loop-rest.invariant in
    let room = rest-few c.loop-rest.rest (10 - c.loop-rest.len) c.loop-rest-test.true i.few in
    let left : 10 - c.loop-rest.len - 1 ≡ 10 - (c.loop-rest.len + 1) = omega arith in
    let long : c.loop-rest.len < length c.loop-rest.buffer = omega (arith, i.within, c.requires, c.loop-rest.auto.buffer) in
    record {
      within = omega (arith, room.0);
      few = rw (← left) room.1;
      bytes = i.bytes
          ∙ ap (λ (back : List ℕ). take c.loop-rest.len c.loop-rest.buffer ++ back)
          (groups-more (10 - c.loop-rest.len) c.loop-rest.rest (omega (arith, room.0)) c.loop-rest-test.true
          ∙ ap (λ k. (128 + c.loop-rest.rest % 128) ∷ groups k (c.loop-rest.rest / 128)) left)
          ∙ written c.loop-rest.buffer c.loop-rest.len (128 + c.loop-rest.rest % 128) (groups (10 - (c.loop-rest.len + 1)) (c.loop-rest.rest / 128)) long;
    }

pub returns-clause-bytes : goal.returns-clause-bytes
returns-clause-bytes c =
    let i = c.loop-rest.invariant in
    let long : c.loop-rest.len < length c.loop-rest.buffer = omega (arith, i.within, c.requires, c.loop-rest.auto.buffer) in
    sym (sym (seven_bits-ten c.args.number c.ranges.number.fits) ∙ i.bytes
    ∙ ap (λ (back : List ℕ). take c.loop-rest.len c.loop-rest.buffer ++ back)
    (groups-last (10 - c.loop-rest.len) c.loop-rest.rest (omega (arith, i.within)) c.loop-rest-test.false)
    ∙ written c.loop-rest.buffer c.loop-rest.len c.loop-rest.rest [] long
    ∙ append-nil (take (c.loop-rest.len + 1) (set c.loop-rest.buffer c.loop-rest.len c.loop-rest.rest)))
