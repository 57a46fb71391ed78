use Rattle.std.proofs.Common.{codes}
use Rattle.sequence_text.proofs.TextLaws.{first-failed, puts-four, second-failed, third-failed}
use Rattle.program_listing.specs.ListingText.{count_text}
use Rattle.program_listing.proofs.listing.put_counts.Goals as goal

pub returns-in_err-put_count-clause-bytes : goal.returns-in_err-put_count-clause-bytes
returns-in_err-put_count-clause-bytes g c =
    first-failed _ _ (count_text (codes "threads ") c.args.threads) (count_text (codes " variables ") c.args.variables)
    (count_text (codes " monitors ") c.args.monitors) (codes "\n") _
    c.from_residual.ensures.0 c.in_err-put_count.ensures.bytes

pub returns-in_err-put_count-2-clause-bytes : goal.returns-in_err-put_count-2-clause-bytes
returns-in_err-put_count-2-clause-bytes g c =
    second-failed _ _ _ (count_text (codes "threads ") c.args.threads) (count_text (codes " variables ") c.args.variables)
    (count_text (codes " monitors ") c.args.monitors) (codes "\n") _
    c.from_residual-in_err-put_count-2.ensures.0 c.in_ok-put_count.ensures.bytes c.in_err-put_count-2.ensures.bytes

pub returns-in_err-put_count-3-clause-bytes : goal.returns-in_err-put_count-3-clause-bytes
returns-in_err-put_count-3-clause-bytes g c =
    third-failed _ _ _ _ (count_text (codes "threads ") c.args.threads) (count_text (codes " variables ") c.args.variables)
    (count_text (codes " monitors ") c.args.monitors) (codes "\n") _
    c.from_residual-in_err-put_count-3.ensures.0 c.in_ok-put_count.ensures.bytes c.in_ok-put_count-2.ensures.bytes
    c.in_err-put_count-3.ensures.bytes

pub returns-clause-bytes : goal.returns-clause-bytes
returns-clause-bytes g c =
    puts-four _ _ _ _ _ (count_text (codes "threads ") c.args.threads) (count_text (codes " variables ") c.args.variables)
    (count_text (codes " monitors ") c.args.monitors) (codes "\n") _
    c.in_ok-put_count.ensures.bytes c.in_ok-put_count-2.ensures.bytes c.in_ok-put_count-3.ensures.bytes c.put_all.ensures.bytes
