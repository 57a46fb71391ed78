use Rattle.verdict.proofs.Told.{complete_decide, complete_show, tells, tells_of}
use Rattle.verdict.specs.declared.status.Status.TheVariants.{Allowed, Forbidden, Limit, Refused}
use Rattle.verdict.proofs.top_call.run.Goals as goal

pub returns-clause-allowed : goal.returns-clause-allowed
returns-clause-allowed g c =
    tells_of c.args.words.now (g.F.Files.content c.args.files.now) (g.F.Files.content c.find_answer-found.new.files)
    (g.F.Files.read_faults c.args.files.now) (g.F.Files.read_faults c.find_answer-found.new.files)
    (g.F.Files.write_faults c.args.files.now) (g.F.Files.write_faults c.find_answer-found.new.files)
    (g.S.Sink.faults c.args.out.now) (g.S.Sink.faults c.report.new.out) (g.S.Sink.held c.args.out.now) (g.S.Sink.held c.report.new.out)
    Allowed c.find_answer-found.result c.report.result c.find_answer-found.ensures.ok c.find_answer-found.ensures.cause c.report.ensures.put

pub returns-clause-forbidden : goal.returns-clause-forbidden
returns-clause-forbidden g c =
    tells_of c.args.words.now (g.F.Files.content c.args.files.now) (g.F.Files.content c.find_answer-found.new.files)
    (g.F.Files.read_faults c.args.files.now) (g.F.Files.read_faults c.find_answer-found.new.files)
    (g.F.Files.write_faults c.args.files.now) (g.F.Files.write_faults c.find_answer-found.new.files)
    (g.S.Sink.faults c.args.out.now) (g.S.Sink.faults c.report.new.out) (g.S.Sink.held c.args.out.now) (g.S.Sink.held c.report.new.out)
    Forbidden c.find_answer-found.result c.report.result c.find_answer-found.ensures.ok c.find_answer-found.ensures.cause c.report.ensures.put

pub returns-clause-refused : goal.returns-clause-refused
returns-clause-refused g c =
    tells_of c.args.words.now (g.F.Files.content c.args.files.now) (g.F.Files.content c.find_answer-found.new.files)
    (g.F.Files.read_faults c.args.files.now) (g.F.Files.read_faults c.find_answer-found.new.files)
    (g.F.Files.write_faults c.args.files.now) (g.F.Files.write_faults c.find_answer-found.new.files)
    (g.S.Sink.faults c.args.out.now) (g.S.Sink.faults c.report.new.out) (g.S.Sink.held c.args.out.now) (g.S.Sink.held c.report.new.out)
    Refused c.find_answer-found.result c.report.result c.find_answer-found.ensures.ok c.find_answer-found.ensures.cause c.report.ensures.put

pub returns-clause-limit : goal.returns-clause-limit
returns-clause-limit g c =
    tells_of c.args.words.now (g.F.Files.content c.args.files.now) (g.F.Files.content c.find_answer-found.new.files)
    (g.F.Files.read_faults c.args.files.now) (g.F.Files.read_faults c.find_answer-found.new.files)
    (g.F.Files.write_faults c.args.files.now) (g.F.Files.write_faults c.find_answer-found.new.files)
    (g.S.Sink.faults c.args.out.now) (g.S.Sink.faults c.report.new.out) (g.S.Sink.held c.args.out.now) (g.S.Sink.held c.report.new.out)
    Limit c.find_answer-found.result c.report.result c.find_answer-found.ensures.ok c.find_answer-found.ensures.cause c.report.ensures.put

pub returns-clause-complete_decide : goal.returns-clause-complete_decide
returns-clause-complete_decide g c =
    complete_decide c.args.words.now (g.F.Files.content c.args.files.now) (g.F.Files.content c.find_answer-found.new.files)
    (g.F.Files.read_faults c.args.files.now) (g.F.Files.read_faults c.find_answer-found.new.files)
    (g.F.Files.write_faults c.args.files.now) (g.F.Files.write_faults c.find_answer-found.new.files)
    (g.S.Sink.faults c.args.out.now) (g.S.Sink.faults c.report.new.out) (g.S.Sink.held c.args.out.now) (g.S.Sink.held c.report.new.out)
    c.one_record.ensures c.text_or_fault.ensures c.one_program.ensures c.program_or_refusal.ensures c.report.result
    (tells c.args.words.now (g.F.Files.content c.args.files.now) (g.F.Files.content c.find_answer-found.new.files)
    (g.F.Files.read_faults c.args.files.now) (g.F.Files.read_faults c.find_answer-found.new.files)
    (g.F.Files.write_faults c.args.files.now) (g.F.Files.write_faults c.find_answer-found.new.files)
    (g.S.Sink.faults c.args.out.now) (g.S.Sink.faults c.report.new.out) (g.S.Sink.held c.args.out.now) (g.S.Sink.held c.report.new.out)
    c.find_answer-found.result c.report.result c.find_answer-found.ensures.ok c.find_answer-found.ensures.cause c.report.ensures.put)

pub returns-clause-complete_show : goal.returns-clause-complete_show
returns-clause-complete_show g c =
    complete_show c.args.words.now (g.F.Files.content c.args.files.now) (g.F.Files.content c.find_answer-found.new.files)
    (g.F.Files.read_faults c.args.files.now) (g.F.Files.read_faults c.find_answer-found.new.files)
    (g.F.Files.write_faults c.args.files.now) (g.F.Files.write_faults c.find_answer-found.new.files)
    (g.S.Sink.faults c.args.out.now) (g.S.Sink.faults c.report.new.out) (g.S.Sink.held c.args.out.now) (g.S.Sink.held c.report.new.out)
    c.one_record.ensures c.text_or_fault.ensures c.program_or_refusal.ensures c.report.result
    (tells c.args.words.now (g.F.Files.content c.args.files.now) (g.F.Files.content c.find_answer-found.new.files)
    (g.F.Files.read_faults c.args.files.now) (g.F.Files.read_faults c.find_answer-found.new.files)
    (g.F.Files.write_faults c.args.files.now) (g.F.Files.write_faults c.find_answer-found.new.files)
    (g.S.Sink.faults c.args.out.now) (g.S.Sink.faults c.report.new.out) (g.S.Sink.held c.args.out.now) (g.S.Sink.held c.report.new.out)
    c.find_answer-found.result c.report.result c.find_answer-found.ensures.ok c.find_answer-found.ensures.cause c.report.ensures.put)
