use Rattle.std.proofs.Common.{◌≡◌, Some, pos, ◌∙◌, refl}
use Rattle.std.specs.Prelude.{slice_get}
use Rattle.std.proofs.lemmas.Option.{slice_get_read}
use Rattle.relations.proofs.Paths.{walked}
use Rattle.resolution.specs.declared.target.Target.TheVariants as named
use Rattle.reached_methods.specs.Cycles.{CallsIn}
use Rattle.reached_methods.proofs.Searches.{call_here, from_start, from_within, keeps_on, marked_of, more_marked, named_in, step_done}
use Rattle.reached_methods.proofs.cycles.Search.step.Goals as goal

pub follow-requires-clause-known : goal.follow-requires-clause-known
follow-requires-clause-known c = λ called is.
    let s = c.index-surveys-from.result in
    let within = from_within c.args.surveys.now c.args.sought c.args.start c.args.self.now.marked.items c.args.self.now.waiting.items c.args.from c.requires.search in
    let there : slice_get c.args.surveys.now c.args.from ≡ Some s = slice_get_read c.args.surveys.now _ c.args.from s refl within c.index-surveys-from.is in
    let call = named_in s c.args.surveys.now c.args.from c.as_slice-target-items.result.now c.loop-target.target-index (named.Constant (pos 0)) called c.index-surveys-from.is c.as_slice-target-items.ensures c.loop-target-test.true is in
    c.requires.closed.closed s.method.id called (call_here c.args.surveys.now c.args.from s called there call)

pub follow-requires-clause-from_start : goal.follow-requires-clause-from_start
follow-requires-clause-from_start c = λ called is.
    let s = c.index-surveys-from.result in
    let within = from_within c.args.surveys.now c.args.sought c.args.start c.args.self.now.marked.items c.args.self.now.waiting.items c.args.from c.requires.search in
    let there : slice_get c.args.surveys.now c.args.from ≡ Some s = slice_get_read c.args.surveys.now _ c.args.from s refl within c.index-surveys-from.is in
    let call = named_in s c.args.surveys.now c.args.from c.as_slice-target-items.result.now c.loop-target.target-index (named.Constant (pos 0)) called c.index-surveys-from.is c.as_slice-target-items.ensures c.loop-target-test.true is in
    walked (CallsIn c.args.surveys.now) c.args.start s.method.id called
    (from_start c.args.surveys.now c.args.sought c.args.start c.args.self.now.marked.items c.args.self.now.waiting.items c.args.from s there c.requires.search)
    (call_here c.args.surveys.now c.args.from s called there call)

pub returns-then-branch-clause-found : goal.returns-then-branch-clause-found
returns-then-branch-clause-found c = λ _.
    let s = c.index-surveys-from.result in
    let within = from_within c.args.surveys.now c.args.sought c.args.start c.args.self.now.marked.items c.args.self.now.waiting.items c.args.from c.requires.search in
    let there : slice_get c.args.surveys.now c.args.from ≡ Some s = slice_get_read c.args.surveys.now _ c.args.from s refl within c.index-surveys-from.is in
    let call = named_in s c.args.surveys.now c.args.from c.as_slice-target-items.result.now c.loop-target.target-index (named.Constant (pos 0)) c.args.sought c.index-surveys-from.is c.as_slice-target-items.ensures c.loop-target-test.true
    (c.in_ok-follow.ensures.found c.if-branch.true) in
    walked (CallsIn c.args.surveys.now) c.args.start s.method.id c.args.sought
    (from_start c.args.surveys.now c.args.sought c.args.start c.args.self.now.marked.items c.args.self.now.waiting.items c.args.from s there c.requires.search)
    (call_here c.args.surveys.now c.args.from s c.args.sought there call)

pub loop-target-preserved : goal.loop-target-preserved
loop-target-preserved c = record {
  search = c.in_ok-follow.ensures.search c.if-branch.false;
  marked = more_marked c.args.surveys.now c.loop-target.self.marked.items c.follow.new.self.marked.items c.as_slice-target-items.result.now c.loop-target.target-index (named.Constant (pos 0))
      c.loop-target-test.true (c.in_ok-follow.ensures.kept c.if-branch.false) c.loop-target.invariant.marked (c.in_ok-follow.ensures.marked c.if-branch.false);
  kept = keeps_on c.args.surveys.now c.args.self.now.marked.items c.loop-target.self.marked.items c.follow.new.self.marked.items c.loop-target.invariant.kept (c.in_ok-follow.ensures.kept c.if-branch.false);
  work = c.in_ok-follow.ensures.work c.if-branch.false ∙ c.loop-target.invariant.work;
}

pub returns-clause-search : goal.returns-clause-search
returns-clause-search c = λ _.
    let s = c.index-surveys-from.result in
    let within = from_within c.args.surveys.now c.args.sought c.args.start c.args.self.now.marked.items c.args.self.now.waiting.items c.args.from c.requires.search in
    let there : slice_get c.args.surveys.now c.args.from ≡ Some s = slice_get_read c.args.surveys.now _ c.args.from s refl within c.index-surveys-from.is in
    step_done c.args.surveys.now c.args.sought c.args.start c.loop-target.self.marked.items c.loop-target.self.waiting.items c.args.from s c.requires.by_place there
    (marked_of s c.args.surveys.now c.args.from c.as_slice-target-items.result.now c.loop-target.target-index c.loop-target.self.marked.items c.index-surveys-from.is c.as_slice-target-items.ensures
    c.loop-target-test.false c.loop-target.invariant.marked)
    c.loop-target.invariant.search
