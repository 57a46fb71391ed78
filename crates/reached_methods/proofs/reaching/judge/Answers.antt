use Rattle.std.proofs.Common.{List, subst, sym}
use Rattle.std.specs.Prelude.{All}
use Rattle.reached_methods.specs.Cycles.{AreClosed}
use Rattle.reached_methods.specs.Reaching.{HasAllTargets, IsClean}
use Rattle.reached_methods.specs.declared.survey.Surveyed.{Surveyed}
use Rattle.reached_methods.proofs.Reaches.{all_clean, all_targets, closed_surveys, reached_methods}
use Rattle.reached_methods.proofs.reaching.judge.Goals as goal

pub find_faulty-requires-clause-closed : goal.find_faulty-requires-clause-closed
find_faulty-requires-clause-closed c = subst AreClosed (sym c.as_slice.ensures.value) (closed_surveys c.args.classes.now c.args.main c.args.surveys.items c.requires.surveys)

pub find_faulty-requires-clause-same_lengths : goal.find_faulty-requires-clause-same_lengths
find_faulty-requires-clause-same_lengths c =
    let P : List Surveyed → Type 0 = All HasAllTargets in
    subst P (sym c.as_slice.ensures.value) (all_targets c.args.classes.now c.args.main c.args.surveys.items c.requires.surveys)

pub returns-in-Ok-clause-reached : goal.returns-in-Ok-clause-reached
returns-in-Ok-clause-reached c =
    let P : List Surveyed → Type 0 = λ xs. All (IsClean xs) xs in
    let clean = subst P c.as_slice.ensures.value (rw c.in-Ok-None.field-0-is at c.in-Ok-None.ensures) in
    reached_methods c.args.classes.now c.args.main c.args.surveys.items c.in-Ok.methods c.requires.surveys c.requires.by_place clean c.in-Ok.ensures

pub returns-in-Ok-clause-faultless : goal.returns-in-Ok-clause-faultless
returns-in-Ok-clause-faultless c =
    let P : List Surveyed → Type 0 = λ xs. All (IsClean xs) xs in
    let clean = subst P c.as_slice.ensures.value (rw c.in-Ok-None.field-0-is at c.in-Ok-None.ensures) in
    all_clean c.args.classes.now c.args.main c.args.surveys.items c.requires.surveys clean
