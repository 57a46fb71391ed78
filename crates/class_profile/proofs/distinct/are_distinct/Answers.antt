-- A key that is not new is equal to an earlier one.
use Rattle.std.proofs.Common.{◌≡◌, ◌++◌, [], ◌∷◌, true, false, List, take, sym, ap, ◌∙◌, subst}
use Rattle.std.specs.List.{list_any}
use Rattle.class_profile.proofs.Pairs.{Apart, apart_with, not_apart}
use Rattle.class_profile.proofs.Places.{take_with}
use Rattle.class_profile.proofs.Told.{known_of, unknown_of, with_new}
use Rattle.class_profile.proofs.distinct.are_distinct.Goals as goal

pub returns-in-Ok-default-false-clause-told : goal.returns-in-Ok-default-false-clause-told
returns-in-Ok-default-false-clause-told g c =
    let w = c.in-Ok-default-false in
    let eq = g.K.PartialEq.eq in
    let ks = c.args.keys.now in
    let known = known_of _ w.field-0-1 w.ensures.added w.field-0-1-test in (
      λ passes. cc,
      λ apart. absurd (not_apart eq ks c.loop-key.key-index c.key-item.result c.loop-key-test.true c.key-item.is
          (subst (λ (seen : List g.row.K.Denot). list_any (eq c.key-item.result) seen ≡ true) c.loop-key.invariant.seen known) apart),
    )

pub loop-key-preserved : goal.loop-key-preserved
loop-key-preserved g c =
    let w = c.in-Ok-default-true in
    let eq = g.K.PartialEq.eq in
    let ks = c.args.keys.now in
    let i = c.loop-key.key-index in
    let y = c.key-item.result in
    let fresh = unknown_of _ w.field-0-1 w.ensures.added w.field-0-1-test in
    let next = take_with ks i y c.loop-key-test.true c.key-item.is in
    let so_far = c.loop-key.invariant.seen in
    record {
      seen = w.ensures.keys ∙ with_new _ c.loop-key.seen.keys y fresh ∙ ap (λ (seen : List g.row.K.Denot). seen ++ y ∷ []) so_far ∙ sym next;
      apart = subst (λ (seen : List g.row.K.Denot). Apart eq seen) (sym next)
          (apart_with eq y (take i ks) (subst (λ (seen : List g.row.K.Denot). list_any (eq y) seen ≡ false) so_far fresh) c.loop-key.invariant.apart);
    }
