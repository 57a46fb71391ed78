use Rattle.std.proofs.Common.{◌≡◌, [], subst, arith}
use Rattle.std.proofs.lemmas.Grind.{common_steps}
use Rattle.program.specs.declared.method.MethodId.{MethodId}
use Rattle.relations.specs.Path.{Walk, here}
use Rattle.reached_methods.specs.Cycles.{CallsIn}
use Rattle.reached_methods.proofs.Searches.{started, marks_here, marks_kept, search_over}
use Rattle.reached_methods.proofs.cycles.Search.leads_to.Goals as goal

pub returns-then-is_method-clause-found : goal.returns-then-is_method-clause-found
returns-then-is_method-clause-found c = λ _.
    let P : MethodId → Type 0 = λ id. Walk (CallsIn c.args.surveys.now) c.args.start id in
    subst P (c.is_method.ensures.same.0 c.if-is_method.true) here

pub loop-from-init : goal.loop-from-init
loop-from-init c =
    let marks = c.in_ok-mark.ensures.marks in
    record {
      search = started c.args.surveys.now c.args.sought c.args.start c.args.self.now.marked.items c.args.self.now.waiting.items c.mark.new.self.marked.items c.mark.new.self.waiting.items
          (λ same. let yes = c.is_method.ensures.same.1 same in let no = c.if-is_method.false in cc) marks c.requires.idle;
      marked = marks_here c.args.surveys.now c.args.start c.args.self.now.marked.items c.args.self.now.waiting.items c.mark.new.self.marked.items c.mark.new.self.waiting.items c.requires.idle.same_length marks;
      kept = marks_kept c.args.surveys.now c.args.start c.args.self.now.marked.items c.args.self.now.waiting.items c.mark.new.self.marked.items c.mark.new.self.waiting.items c.requires.idle.same_length marks;
    }

pub returns-clause-idle : goal.returns-clause-idle
returns-clause-idle c = λ _.
    let was : c.loop-from.self.waiting.items ≡ [] = grind (arith, common_steps, c.in_default.ensures.items, c.in_default.not-Some) in
    let now_none : c.pop.new.self.items ≡ [] = grind (arith, common_steps, c.in_default.ensures.items, c.in_default.is) in
    search_over c.args.surveys.now c.args.sought c.args.start c.loop-from.self.marked.items c.pop.new.self.items now_none
    (rw now_none (rw was at c.loop-from.invariant.search))
