-- Happens-before by the last synchronization action that is known.
use Rattle.std.proofs.Common.{◌∙◌, false, refl, ap, sym, subst, inl, arith, Some, le-leb}
use Rattle.std.proofs.lemmas.Bool.{leb-true}
use Rattle.std.proofs.lemmas.Option.{slice_get-get_or}
use Rattle.relations.specs.Path.{edge}
use Rattle.action_orders.specs.declared.action.Action.{Action}
use Rattle.clocks.specs.Events.{IsLastKnown, IsUnknown}
use Rattle.orders.proofs.Said.{stands_to, not_true, read_last, read_none, last_within, known_within, happens_known, happens_unknown, happens_never, listed}
use Rattle.orders.proofs.answers.Orders.happens_before.Goals as goal

pub returns-then-stands_before : goal.returns-then-stands_before
returns-then-stands_before c = (λ yes. edge (inl (c.stands_before.ensures.0 c.if-stands_before.true)), λ path. refl)

pub returns-in_default : goal.returns-in_default
returns-in_default c = (
  λ never. absurd (not_true false refl never),
  λ path. absurd (happens_never c.args.self.now c.args.i c.args.j c.requires.made c.requires.first c.requires.second (read_none c.args.self.now c.args.j c.index.result.now c.requires.made c.requires.second c.index.ensures c.in_default.is)
      (λ same order. not_true c.stands_before.result c.if-stands_before.false (c.stands_before.ensures.1 (stands_to c.args.self.now c.args.i c.args.j c.requires.made c.requires.first c.requires.second same order))) path),
)

pub last_known-requires-clause-second : goal.last_known-requires-clause-second
last_known-requires-clause-second c = last_within c.args.self.now c.args.j c.in-Some.last c.requires.made (read_last c.args.self.now c.args.j c.in-Some.last c.index.result.now c.requires.made c.requires.second c.index.ensures c.in-Some.is)

pub index-requires-in-Some-last_known : goal.index-requires-in-Some-last_known
index-requires-in-Some-last_known c = let within = known_within c.args.self.now c.action.result.now.thread c.in-Some.last c.in-Some-last_known.known c.requires.made c.in-Some-last_known.ensures.found in omega arith

pub returns-in-Some-last_known : goal.returns-in-Some-last_known
returns-in-Some-last_known c =
    let within = known_within c.args.self.now c.action.result.now.thread c.in-Some.last c.in-Some-last_known.known c.requires.made c.in-Some-last_known.ensures.found in
    let iff = happens_known c.args.self.now c.args.i c.args.j c.in-Some.last c.in-Some-last_known.known c.requires.made c.requires.first c.requires.second
    (read_last c.args.self.now c.args.j c.in-Some.last c.index.result.now c.requires.made c.requires.second c.index.ensures c.in-Some.is)
    (λ same order. not_true c.stands_before.result c.if-stands_before.false (c.stands_before.ensures.1 (stands_to c.args.self.now c.args.i c.args.j c.requires.made c.requires.first c.requires.second same order)))
    (subst (λ (a : Action). IsLastKnown (listed c.args.self.now) a.thread c.in-Some.last c.in-Some-last_known.known) c.action.ensures.same c.in-Some-last_known.ensures.found)
    c.index-in-Some-last_known.result.now (slice_get-get_or c.args.self.now.places.items c.in-Some-last_known.known c.index-in-Some-last_known.result.now within ∙ ap Some (sym c.index-in-Some-last_known.ensures)) in
    (λ yes. iff.0 (leb-true c.args.i c.index-in-Some-last_known.result.now yes), λ path. le-leb c.args.i c.index-in-Some-last_known.result.now (iff.1 path))

pub returns-in-None : goal.returns-in-None
returns-in-None c = (
  λ never. absurd (not_true false refl never),
  λ path. absurd (happens_unknown c.args.self.now c.args.i c.args.j c.in-Some.last c.requires.made c.requires.first c.requires.second
      (read_last c.args.self.now c.args.j c.in-Some.last c.index.result.now c.requires.made c.requires.second c.index.ensures c.in-Some.is)
      (λ same order. not_true c.stands_before.result c.if-stands_before.false (c.stands_before.ensures.1 (stands_to c.args.self.now c.args.i c.args.j c.requires.made c.requires.first c.requires.second same order)))
      (subst (λ (a : Action). IsUnknown (listed c.args.self.now) a.thread c.in-Some.last) c.action.ensures.same c.in-None.ensures.none) path),
)
