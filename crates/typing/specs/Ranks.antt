-- How far what is kept can still sink. Each change of a place sinks, so the levels come to an end.
use Rattle.std.specs.Prelude.{◌≡◌, ◌≢◌, ◌<◌, ◌≤◌, ◌+◌, ◌*◌, ◌^◌, ℕ, zero, suc, Bool, true, false, List, Option, Some, None, length, sum_by}
use Rattle.typing.specs.Summaries.{Summary, summary_of}
use Rattle.typing.specs.declared.joined.Joined.{Joined}
use Rattle.typing.specs.declared.joined_type.JoinedType.{JoinedType}
use Rattle.typing.specs.declared.joined_type.JoinedType.TheVariants.{Known, Made}
use Rattle.typing.specs.declared.stage.Stage.{Stage}

-- two summaries differ in a local, a thread, the stack or a monitor, or in whether two paths do
pub data Differs (a b : Summary) : Type 0 where
  by_local : (slot : ℕ) → slot < 2 ^ 32 → a.local slot ≢ b.local slot → Differs a b
  by_stage : (k : ℕ) → k < 2 ^ 32 → a.stage k ≢ b.stage k → Differs a b
  by_stack : a.stack ≢ b.stack → Differs a b
  by_stacks_differ : a.stacks_differ ≢ b.stacks_differ → Differs a b
  by_held : (monitor : ℕ) → a.held monitor ≢ b.held monitor → Differs a b
  by_held_differs : a.held_differs ≢ b.held_differs → Differs a b

-- a type can become that of an object, constructed or not, and that nothing
abbrev pub local_rank : Option JoinedType → ℕ
local_rank (Some (Known t)) = 2
local_rank (Some (Made k)) = 1
local_rank None = 0

-- paths that agree can come to differ
abbrev pub agreement_rank : Bool → ℕ
agreement_rank true = 0
agreement_rank false = 1

-- each thing that is true of a thread on some path may come to be
abbrev pub stage_rank : Stage → ℕ
stage_rank a = agreement_rank a.unready + agreement_rank a.unstarted + agreement_rank a.unawaited

-- the sum over the first numbers
unfoldable pub total : (ℕ → ℕ) → ℕ → ℕ
total f zero = 0
total f (suc n) = f n + total f n

abbrev pub number_rank : Summary → ℕ → ℕ
number_rank a q = local_rank (a.local q) + stage_rank (a.stage q)

unfoldable pub summary_rank : Summary → ℕ
summary_rank a = total (number_rank a) (2 ^ 32) + agreement_rank a.stacks_differ + agreement_rank a.held_differs

-- a place that keeps nothing is above each that keeps something
abbrev pub place_rank : Option Joined → ℕ
place_rank None = 5 * 2 ^ 32 + 3
place_rank (Some x) = summary_rank (summary_of x)

abbrev pub states_rank : List (Option Joined) → ℕ
states_rank states = sum_by place_rank states

-- what a place keeps then, if it changes, is below what it kept before
abbrev pub Sinks : Option Joined → Option Joined → Type 0
Sinks old None = Unit {0}
Sinks old (Some y) = place_rank (Some y) < place_rank old

-- a change leads down, and without one all is as before
abbrev pub LeadsDown : Bool → ℕ → ℕ → Type 0
LeadsDown true old new = new < old
LeadsDown false old new = new ≡ old

-- nothing rises, and where places changed something sinks
pub record IsLowered (changed : List ℕ) (old new : ℕ) : Type 0 where
  pub most : new ≤ old
  pub sinks : 0 < length changed → new < old
