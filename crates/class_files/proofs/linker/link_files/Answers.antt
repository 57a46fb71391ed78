-- What is said of the files that were read is said of the words.
use Rattle.std.proofs.Common.{List, ℕ, subst}
use Rattle.std.proofs.lemmas.Result.{err_from_is_err_and}
use Rattle.class_files.specs.SoFar.{AreAllClassesOf, HasMisformed}
use Rattle.class_files.proofs.Comes.{class_files, misformed, unlinked}
use Rattle.class_files.proofs.linker.link_files.Goals as goal

pub returns-in_err-classes-clause-refused : goal.returns-in_err-classes-clause-refused
returns-in_err-classes-clause-refused g c =
    let p = err_from_is_err_and c.from_residual-in_err-classes.result c.from_residual-in_err-classes.ensures.1 in
    rw (p.1, p.2) (misformed c.args.words.now (g.F.Files.content c.args.files.now) c.args.from c.in_ok-list.list c.in_ok-list.ensures.files
    (g.F.Files.read_faults c.args.files.now) (g.F.Files.read_faults c.read_files.new.files) c.in_err-classes.field-0.0
    (subst (λ (files : List (List ℕ)). HasMisformed files c.args.from c.in_err-classes.field-0.0) c.as_slice.ensures c.in_err-classes.ensures.refused))

pub returns-in_err-program-clause-refused : goal.returns-in_err-program-clause-refused
returns-in_err-program-clause-refused g c =
    let p = err_from_is_err_and c.from_residual-in_err-program.result c.from_residual-in_err-program.ensures.1 in
    rw (p.1, p.2) (unlinked c.args.words.now (g.F.Files.content c.args.files.now) c.args.from c.in_ok-classes.classes
    (g.F.Files.read_faults c.args.files.now) (g.F.Files.read_faults c.read_files.new.files) c.in_err-program.field-0.0
    (class_files c.args.words.now (g.F.Files.content c.args.files.now) c.args.from c.in_ok-list.list c.in_ok-list.ensures.files c.in_ok-classes.classes
    (subst (λ (files : List (List ℕ)). AreAllClassesOf files c.in_ok-classes.classes) c.as_slice.ensures c.in_ok-classes.ensures.classes))
    c.in_err-program.ensures.refused)

pub returns-clause-linked : goal.returns-clause-linked
returns-clause-linked g c = record {
  files = class_files c.args.words.now (g.F.Files.content c.args.files.now) c.args.from c.in_ok-list.list c.in_ok-list.ensures.files c.in_ok-classes.classes
      (subst (λ (files : List (List ℕ)). AreAllClassesOf files c.in_ok-classes.classes) c.as_slice.ensures c.in_ok-classes.ensures.classes);
  program = c.in_ok-program.ensures.program;
}
