-- What is kept where nothing was kept is below that.
use Rattle.std.proofs.Common.{◌<◌, Option, Some, sym, subst}
use Rattle.typing.proofs.Ranks.{summary_small}
use Rattle.typing.specs.Ranks.{place_rank}
use Rattle.typing.specs.Summaries.{summary_of}
use Rattle.typing.specs.declared.joined.Joined.{Joined}
use Rattle.typing.proofs.joined.merged.Goals as goal

pub returns-in_ok-copied-in-None-clause-sinks : goal.returns-in_ok-copied-in-None-clause-sinks
returns-in_ok-copied-in-None-clause-sinks c =
    let x : Joined = c.in_ok-copied-in-None.field-0 in
    let P : Option Joined → Type 0 = λ o. place_rank (Some x) < place_rank o in
    subst P (sym c.in-None.is) (summary_small (summary_of x))
