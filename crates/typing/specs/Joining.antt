-- What is kept of the states of all paths that come to one place.
use Rattle.std.specs.Prelude.{◌≡◌, ◌≢◌, ◌||◌, ℕ, true, false, Option, Some, None, nat_eq, if◌then◌else◌}
use Rattle.std.specs.Option.{option_map, unwrap_or}
use Rattle.std.specs.Ordering.{nat_cmp}
use Rattle.std.specs.BTreeMap.{BTreeMap, get}
use Rattle.program.specs.declared.value_type.ValueType.{ValueType}
use Rattle.typing.specs.Objects.{made_of, object_of, same_object, constructed}
use Rattle.typing.specs.declared.object.Object.{Object}
use Rattle.typing.specs.States.{ThreadState, with_value}
use Rattle.typing.specs.States as state
use Rattle.typing.specs.declared.change.LocalChange.{LocalChange}
use Rattle.typing.specs.declared.change.LocalChange.TheVariants as local
use Rattle.typing.specs.declared.change.ThreadChange.{ThreadChange}
use Rattle.typing.specs.declared.change.ThreadChange.TheVariants as thread
use Rattle.typing.specs.declared.joined_type.JoinedType.{JoinedType}
use Rattle.typing.specs.declared.joined_type.JoinedType.TheVariants.{Known, Made}
use Rattle.typing.specs.declared.stage.Stage.{Stage}

-- the object, constructed or not, that is in a local
abbrev pub joined_object : JoinedType → Option Object
joined_object (Known t) = object_of t
joined_object (Made o) = Some o

-- what is known of a local on the paths of two kinds: the same as on each; that it has one object; or nothing
pub data Joins (a b : JoinedType) (r : Option JoinedType) : Type 0 where
  same : a ≡ b → r ≡ Some a → Joins a b r
  made : (o : Object) → a ≢ b → joined_object a ≡ Some o → joined_object b ≡ Some o → r ≡ Some (Made o) → Joins a b r
  clash : a ≢ b → ((o : Object) → joined_object a ≡ Some o → joined_object b ≡ Some o → ⊥) → r ≡ None → Joins a b r

abbrev pub JoinsLocal : Option JoinedType → Option JoinedType → Option JoinedType → Type 0
JoinsLocal None b r = r ≡ None
JoinsLocal (Some a) None r = r ≡ None
JoinsLocal (Some a) (Some b) r = Joins a b r

-- what is known of a thread in one state
abbrev pub stage_of : ThreadState → Stage
stage_of state.Unmade = record { unready = true; unstarted = true; unawaited = true }
stage_of state.Fresh = record { unready = true; unstarted = true; unawaited = true }
stage_of state.Ready = record { unready = false; unstarted = true; unawaited = true }
stage_of state.Started = record { unready = true; unstarted = false; unawaited = false }
stage_of state.Joined = record { unready = true; unstarted = true; unawaited = false }
stage_of state.Asked = record { unready = true; unstarted = true; unawaited = true }

-- what is known of a thread on the paths of two kinds
abbrev pub either_stage : Stage → Stage → Stage
either_stage a b = record { unready = a.unready || b.unready; unstarted = a.unstarted || b.unstarted; unawaited = a.unawaited || b.unawaited }

-- the type that is known of a local
abbrev pub known : Option JoinedType → Option ValueType
known (Some (Known t)) = Some t
known (Some (Made k)) = None
known None = None

-- a constructor was called
abbrev pub constructed_local : Object → JoinedType → JoinedType
constructed_local o (Known t) = Known (constructed o t)
constructed_local o (Made q) = if same_object o q then Known (made_of q) else Made q

-- ---- What maps say at a number

abbrev pub local_at : BTreeMap ℕ JoinedType → ℕ → Option JoinedType
local_at m slot = get nat_cmp m slot

abbrev pub count_at : BTreeMap ℕ ℕ → ℕ → ℕ
count_at m monitor = unwrap_or (get nat_cmp m monitor) 0

abbrev pub stage_at : BTreeMap ℕ Stage → ℕ → Stage
stage_at m k = unwrap_or (get nat_cmp m k) (stage_of state.Unmade)

-- ---- Behind an instruction

abbrev pub joined_locals_behind : LocalChange → (ℕ → Option JoinedType) → ℕ → Option JoinedType
joined_locals_behind local.Stays locals = locals
joined_locals_behind (local.Stores slot t) locals = with_value locals slot (Some (Known t))
joined_locals_behind (local.Constructs o) locals = λ slot. option_map (constructed_local o) (locals slot)

abbrev pub stages_behind : ThreadChange → (ℕ → Stage) → ℕ → Stage
stages_behind thread.Stays stages = stages
stages_behind (thread.Makes k) stages = with_value stages k (stage_of state.Fresh)
stages_behind (thread.Readies k) stages = with_value stages k (stage_of state.Ready)
stages_behind (thread.Starts k) stages = with_value stages k (stage_of state.Started)
stages_behind (thread.Joins k) stages = with_value stages k (stage_of state.Joined)
stages_behind (thread.Asks k) stages = with_value stages k (stage_of state.Asked)
