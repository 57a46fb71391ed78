-- One more count is joined.
use Rattle.std.proofs.Common.{◌<◌, ◌∙◌, ℕ, arith, length, inl, inr}
use Rattle.std.proofs.lemmas.Bool.{cases_eq}
use Rattle.std.proofs.lemmas.List.{get_or-set_same, get_or-set_other, length-set}
use Rattle.clocks.proofs.clock.Clock.joined.Goals as goal

pub loop-t-preserved : goal.loop-t-preserved
loop-t-preserved c =
    let t : ℕ = c.loop-t.t in
    let size = c.loop-t.invariant.size in
    let inside : t < length c.loop-t.known = omega arith in
    record {
      size = length-set c.loop-t.known t c.max.result ∙ size;
      done = λ u h. elim (cases_eq u t) [
        | inl e ↦ (let same = get_or-set_same c.loop-t.known t c.max.result 0 inside in let before = c.loop-t.invariant.rest t (omega arith) in rw e (cc (c.max.ensures, same, before)))
        | inr apart ↦ rw (get_or-set_other c.loop-t.known t u c.max.result 0 apart) (c.loop-t.invariant.done u (omega arith))
      ];
      rest = λ u h. rw (get_or-set_other c.loop-t.known t u c.max.result 0 (omega arith)) (c.loop-t.invariant.rest u (omega arith));
    }
