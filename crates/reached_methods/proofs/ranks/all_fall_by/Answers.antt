use Rattle.std.proofs.Common.{◌≡◌, ◌∙◌, List, Some, get_or, pos, refl, subst, sym, arith}
use Rattle.std.proofs.lemmas.Bool.{false≢true}
use Rattle.std.specs.Prelude.{All, slice_get}
use Rattle.std.proofs.lemmas.Option.{get_or_from_slice_get, slice_get-get_or, slice_get_read}
use Rattle.resolution.specs.declared.target.Target.{Target}
use Rattle.resolution.specs.declared.target.Target.TheVariants as named
use Rattle.reached_methods.specs.Ranks.{FallsBy}
use Rattle.reached_methods.specs.declared.survey.Surveyed.{Surveyed}
use Rattle.reached_methods.proofs.Searches.{call_here, named_in}
use Rattle.reached_methods.proofs.ranks.all_fall_by.Goals as goal

pub falls_by-requires-clause-known : goal.falls_by-requires-clause-known
falls_by-requires-clause-known c = λ called is.
    let s = c.index-surveys-at.result in
    let there : slice_get c.args.surveys.now c.args.at ≡ Some s = slice_get_read c.args.surveys.now _ c.args.at s refl c.requires.within c.index-surveys-at.is in
    let call = named_in s c.args.surveys.now c.args.at c.as_slice-targets.result.now c.loop-target.target-index (named.Constant (pos 0)) called c.index-surveys-at.is c.as_slice-targets.ensures c.loop-target-test.true is in
    c.requires.closed.closed s.method.id called (call_here c.args.surveys.now c.args.at s called there call)

pub returns-then-not-falls_by : goal.returns-then-not-falls_by
returns-then-not-falls_by c = (
  λ no. absurd (false≢true no),
  λ falls.
      let P : List Target → Type 0 = All (FallsBy c.args.surveys.now c.args.ranks.now c.args.at c.args.drop) in
      let s = get_or c.args.surveys.now c.args.at c.index-surveys-at.result in
      let all : P c.as_slice-targets.result.now =
      subst P (sym c.as_slice-targets.ensures) (falls s (slice_get-get_or c.args.surveys.now c.args.at c.index-surveys-at.result c.requires.within)) in
      let yes = c.falls_by.ensures.1 (all c.loop-target.target-index (named.Constant (pos 0)) c.loop-target-test.true) in
      sym c.if-not-falls_by.true ∙ yes,
)

pub returns : goal.returns
returns c =
    let P : List Target → Type 0 = All (FallsBy c.args.surveys.now c.args.ranks.now c.args.at c.args.drop) in
    let all : P c.as_slice-targets.result.now = λ k d lt. c.loop-target.invariant k d (omega arith) (omega (arith, lt, c.loop-target-test.false)) in (
      λ _ t t_there.
          let s = get_or c.args.surveys.now c.args.at c.index-surveys-at.result in
          let same : s ≡ t = get_or_from_slice_get c.args.surveys.now c.args.at t c.index-surveys-at.result t_there in
          subst (λ (x : Surveyed). P x.method.targets) same (subst P c.as_slice-targets.ensures all),
      λ _. refl,
    )
