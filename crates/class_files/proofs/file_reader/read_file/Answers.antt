-- The bytes that were read are the whole content, or show that it is too long.
use Rattle.std.proofs.Common.{List, ℕ, sym, subst, arith}
use Rattle.std.proofs.lemmas.Option.{IfSome_then}
use Rattle.class_files.specs.SoFar.{IsShortFile}
use Rattle.class_files.proofs.Limits.{long, short}
use Rattle.class_files.proofs.file_reader.read_file.Goals as goal

pub returns-then-len-gt-LIMIT-clause-refused : goal.returns-then-len-gt-LIMIT-clause-refused
returns-then-len-gt-LIMIT-clause-refused g c =
    IfSome_then (g.F.Files.content c.args.files.now c.args.name.now) c.in_ok-bytes.ensures.bytes
    (λ content is. long c.in_ok-bytes.bytes.items content is (omega arith))

pub returns-clause-file : goal.returns-clause-file
returns-clause-file g c =
    IfSome_then (g.F.Files.content c.args.files.now c.args.name.now) c.in_ok-bytes.ensures.bytes
    (λ content is. subst (λ (bytes : List ℕ). IsShortFile bytes content) (sym c.new.ensures) (short c.in_ok-bytes.bytes.items content is (omega arith)))
