use Rattle.std.proofs.Common.{◌≡◌, ◌<◌, ◌+◌, ◌-◌, length, drop, arith}
use Rattle.std.proofs.lemmas.List.{length-drop}
use Rattle.line_text.proofs.FileLaws.{files-miss, files-more, new-at}
use Rattle.line_text.proofs.command.check_files.Goals as goal

pub returns-then-at-from : goal.returns-then-at-from
returns-then-at-from c =
    let within : c.loop-at.at < length c.args.words.now = omega (arith, c.len-at-end.ensures) in
    files-miss c.args.least c.args.most c.args.from c.loop-at.at c.args.words.now c.loop-at.auto.at within c.loop-at.invariant.begun
    (λ few new. omega arith)

pub returns-then-not-is_new_file : goal.returns-then-not-is_new_file
returns-then-not-is_new_file c =
    let within : c.loop-at.at < length c.args.words.now = omega (arith, c.len-at-end.ensures) in
    files-miss c.args.least c.args.most c.args.from c.loop-at.at c.args.words.now c.loop-at.auto.at within c.loop-at.invariant.begun
    (λ few new. let passed = c.is_new_file.ensures.1 new in cc (passed, c.if-not-is_new_file.true))

pub loop-at-preserved : goal.loop-at-preserved
loop-at-preserved c =
    let within : c.loop-at.at < length c.args.words.now = omega (arith, c.len-at-end.ensures) in
    let inside : c.loop-at.at - c.args.from < length (drop c.args.from c.args.words.now) =
    omega (arith, within, c.loop-at.auto.at, length-drop c.args.from c.args.words.now) in
    let next : c.loop-at.at + 1 - c.args.from ≡ c.loop-at.at - c.args.from + 1 = omega (arith, c.loop-at.auto.at) in
    record {
      begun = rw next (files-more c.args.most (c.loop-at.at - c.args.from) (drop c.args.from c.args.words.now) c.loop-at.invariant.begun inside
          c.if-at-from.false (new-at c.args.words.now c.args.from c.loop-at.at c.loop-at.auto.at (c.is_new_file.ensures.0 c.if-not-is_new_file.false)));
      few = omega (arith, c.if-at-from.false);
    }
