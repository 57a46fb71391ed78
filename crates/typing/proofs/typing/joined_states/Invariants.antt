-- A level that changes nothing is the last one; each other one lowers the rank.
use Rattle.std.proofs.Common.{ℕ, ◌+◌, ◌*◌}
use Rattle.typing.specs.Levels.{IsLevel}
use Rattle.typing.specs.Ranks.{states_rank}
use Rattle.typing.proofs.Ranks.{left_over}
use Rattle.typing.proofs.typing.joined_states.Given as goal

abbrev pub invariant-levels : goal.invariant-levels
invariant-levels l = (most : ℕ) × IsLevel l.method most l.states.items l.changed.items

abbrev pub decreases-levels : goal.decreases-levels
decreases-levels l = 2 * states_rank l.states.items + left_over l.changed.items
