use Rattle.reached_methods.proofs.Searches.{marked_call, marked_search, marks_here, marks_kept}
use Rattle.reached_methods.proofs.cycles.Search.follow.Goals as goal

pub returns-in_ok-mark-in-Call-clause-search : goal.returns-in_ok-mark-in-Call-clause-search
returns-in_ok-mark-in-Call-clause-search c = λ _.
    marked_search c.args.surveys.now c.args.sought c.args.start c.in-Call.called c.args.self.now.marked.items c.args.self.now.waiting.items c.mark.new.self.marked.items c.mark.new.self.waiting.items c.args.from
    (λ same. let yes = c.is_method.ensures.same.1 same in let no = c.if-is_method.false in cc)
    (c.requires.from_start c.in-Call.called c.in-Call.is) c.in_ok-mark-in-Call.ensures.marks c.requires.search

pub returns-in_ok-mark-in-Call-clause-marked : goal.returns-in_ok-mark-in-Call-clause-marked
returns-in_ok-mark-in-Call-clause-marked c = λ _ called is.
    marked_call c.args.surveys.now c.mark.new.self.marked.items c.args.target c.in-Call.called called c.in-Call.is is
    (marks_here c.args.surveys.now c.in-Call.called c.args.self.now.marked.items c.args.self.now.waiting.items c.mark.new.self.marked.items c.mark.new.self.waiting.items c.requires.search.same_length c.in_ok-mark-in-Call.ensures.marks)

pub returns-in_ok-mark-in-Call-clause-kept : goal.returns-in_ok-mark-in-Call-clause-kept
returns-in_ok-mark-in-Call-clause-kept c = λ _.
    marks_kept c.args.surveys.now c.in-Call.called c.args.self.now.marked.items c.args.self.now.waiting.items c.mark.new.self.marked.items c.mark.new.self.waiting.items c.requires.search.same_length c.in_ok-mark-in-Call.ensures.marks
