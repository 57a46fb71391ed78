use Rattle.std.proofs.Common.{◌≡◌, ◌+◌, ◌<◌, ◌⊎◌, ◌∙◌, inl, inr, zero, suc, ℕ, List, [], ◌∷◌, arith, ap, sym, subst, length, get_or}
use Rattle.conflict_analysis.specs.declared.hint.Hint.{Hint}
use Rattle.texts.proofs.TextLaws.{cause-failed}
use Rattle.search_log.specs.Names.{IsNumberedName, IsKnownName, hint_name}
use Rattle.search_log.proofs.Naming.{keeps-known, keeps-numbered, keeps-hint}
use Rattle.search_log.proofs.Pieces.{failed}
use Rattle.search_log.proofs.Putting.{rules-none, rules-then, breaks-after}
use Rattle.search_log.proofs.log.Log.number_all.Goals as goal

pub loop-hint-init : goal.loop-hint-init
loop-hint-init g c = record {
  put = rules-none _ _ _;
  numbered = λ k d below. absurd (omega (arith, below));
  kept = omega arith;
  rest = g.met.S.Sink.rest_refl _;
}

pub number-requires : goal.number-requires
number-requires g c =
    let known = subst (λ (h : Hint). IsKnownName c.args.formula.now (hint_name c.args.self.now h)) (sym c.hint-item.is) (c.requires c.loop-hint.hint-index c.hint-item.result (omega arith)) in
    keeps-known c.args.formula.now (hint_name c.args.self.now c.hint-item.result) (hint_name c.loop-hint.self c.hint-item.result)
    (keeps-hint c.args.self.now c.loop-hint.self c.hint-item.result c.loop-hint.invariant.put.keeps) known

pub returns-in_err-number-clause-put : goal.returns-in_err-number-clause-put
returns-in_err-number-clause-put g c =
    failed c.from_residual.result _ _ c.from_residual.ensures.0 (λ e. breaks-after c.args.formula.now _ _ _ _ _ c.loop-hint.invariant.put c.in_err-number.ensures.put)

pub returns-in_err-number-clause-cause : goal.returns-in_err-number-clause-cause
returns-in_err-number-clause-cause g c = cause-failed _ _ _ _ c.loop-hint.invariant.kept c.in_err-number.ensures.cause.kept c.in_err-number.ensures.cause.cause

pub returns-in_err-number-clause-rest : goal.returns-in_err-number-clause-rest
returns-in_err-number-clause-rest g c = g.met.S.Sink.rest_trans _ _ _ c.loop-hint.invariant.rest c.in_err-number.ensures.rest

-- the item in a place, whatever stands past the end
item-at : (hints : List Hint) (k : ℕ) (item d : Hint) → k < length hints → item ≡ get_or hints k item → get_or hints k d ≡ item
item-at [] k item d within is = absurd (omega (arith, within))
item-at (h ∷ hs) zero item d within is = sym is
item-at (h ∷ hs) (suc k) item d within is = item-at hs k item d (omega (arith, within)) is

earlier-or-here : (k i : ℕ) → k < i + 1 → (k < i) ⊎ (k ≡ i)
earlier-or-here k i below = grind arith

pub loop-hint-preserved : goal.loop-hint-preserved
loop-hint-preserved g c =
    let before = c.loop-hint.invariant in
    let step = c.in_ok-number.ensures.put in
    record {
      put = rules-then c.args.formula.now _ _ _ _ _ _ before.put step.0;
      numbered = λ k d below. elim (earlier-or-here k c.loop-hint.hint-index below) [
        | inl earlier ↦ keeps-numbered _ _ (keeps-hint c.loop-hint.self c.number.new.self (get_or c.args.hints.now k d) step.0.keeps) (before.numbered k d earlier)
        | inr here ↦ subst (λ (h : Hint). IsNumberedName (hint_name c.number.new.self h))
            (sym (ap (λ j. get_or c.args.hints.now j d) here ∙ item-at c.args.hints.now c.loop-hint.hint-index c.hint-item.result d (omega arith) c.hint-item.is)) step.1
      ];
      kept = omega (arith, before.kept, c.in_ok-number.ensures.cause.kept);
      rest = g.met.S.Sink.rest_trans _ _ _ before.rest c.in_ok-number.ensures.rest;
    }
