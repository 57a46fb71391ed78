use Rattle.std.proofs.Common.{◌≡◌, ◌<◌, ℕ, Some, length, inl, inr, refl, sym, ap, subst, ◌∙◌, arith}
use Rattle.std.specs.List.{slice_get}
use Rattle.std.proofs.lemmas.Option.{slice_get_read}
use Rattle.typing.specs.Describing.{DescribesAt}
use Rattle.typing.specs.Levels.{Landed, kept_at}
use Rattle.typing.specs.declared.level.Arrival.{Arrival}
use Rattle.typing.proofs.Landing.{one_landed, first_landed, some_kept, changed_kept, unchanged_kept}
use Rattle.typing.proofs.Ranks.{lowered_more}
use Rattle.typing.proofs.level.absorb_all.Goals as goal

pub loop-arrival-init : goal.loop-arrival-init
loop-arrival-init c = record {
  long = refl;
  described = λ m most d q. first_landed m most c.args.arrivals.now q _ (d.places q);
  same = λ q h. refl;
  changed = λ q h. absurd (let lt : 0 < 0 = omega (arith, h.1, ap length c.new-changed.ensures.items) in omega arith);
  lowered = record { most = omega arith; sinks = λ some. absurd (let lt : 0 < 0 = omega (arith, some, ap length c.new-changed.ensures.items) in omega arith) };
}

pub loop-arrival-preserved : goal.loop-arrival-preserved
loop-arrival-preserved c =
    let b = c.arrival-item.result in
    let is_b : slice_get c.args.arrivals.now c.loop-arrival.arrival-index ≡ Some b =
    slice_get_read c.args.arrivals.now (length c.args.arrivals.now) c.loop-arrival.arrival-index b refl (omega arith) c.arrival-item.is in
    let old = kept_at c.loop-arrival.states.items in
    let new = kept_at c.absorb.new.states.items in
    let here = c.in_ok-is_changed.ensures.here in
    let others = c.in_ok-is_changed.ensures.others in
    record {
      long = c.absorb.ensures.long ∙ c.loop-arrival.invariant.long;
      described = λ m most d q. one_landed m most c.args.arrivals.now c.loop-arrival.arrival-index q b old new c.in_ok-is_changed.is_changed is_b
          (d.arriving c.loop-arrival.arrival-index b is_b) others here (c.loop-arrival.invariant.described m most d q);
      same = λ q h. let u = c.in_ok-note.ensures.unlisted q h in
          unchanged_kept q b.to old new _ c.in_ok-is_changed.is_changed others here u.1 ∙ c.loop-arrival.invariant.same q u.0;
      changed = λ q h. elim (c.in_ok-note.ensures.listed q h) [
        | inl before ↦ (let i = c.loop-arrival.invariant.changed q before in (i.0, some_kept q b.to old new _ c.in_ok-is_changed.is_changed others here i.1))
        | inr now ↦ (let P : ℕ → Type 0 = λ n. n < length c.args.states.now.items in (
          subst P (sym now.1) (let Q : Arrival → Type 0 = λ x. x.to < length c.args.states.now.items in subst Q (sym c.arrival-item.is) (c.requires c.loop-arrival.arrival-index b (omega arith))),
          changed_kept q b.to old new _ c.in_ok-is_changed.is_changed here now.0 now.1,
        ))
      ];
      lowered = lowered_more c.in_ok-is_changed.is_changed c.loop-arrival.changed.items _ _ _ _ c.loop-arrival.invariant.lowered c.in_ok-is_changed.ensures.down c.in_ok-note.ensures.some;
    }

pub returns-clause-described : goal.returns-clause-described
returns-clause-described c = λ m most d q.
    let P : ℕ → Type 0 = λ n. DescribesAt (Landed m most c.args.arrivals.now n q) (kept_at c.loop-arrival.states.items q) in
    let e : c.loop-arrival.arrival-index ≡ length c.args.arrivals.now = omega arith in
    subst P e (c.loop-arrival.invariant.described m most d q)
