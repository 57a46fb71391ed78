-- Objects that are made first and constructed then.
use Rattle.std.specs.Prelude.{ℕ, Bool, false, Option, Some, None, nat_eq, if◌then◌else◌}
use Rattle.program.specs.declared.value_type.ValueType.{ValueType}
use Rattle.program.specs.declared.value_type.ValueType.TheVariants as type
use Rattle.typing.specs.declared.object.Object.{Object}
use Rattle.typing.specs.declared.object.Object.TheVariants.{Thread, Target}

-- the type of an object before the constructor's call, and behind it
abbrev pub fresh_of : Object → ValueType
fresh_of (Thread k) = type.Fresh k
fresh_of (Target k) = type.FreshTarget k

abbrev pub made_of : Object → ValueType
made_of (Thread k) = type.Thread k
made_of (Target k) = type.Target k

-- the object, constructed or not, that has this type
abbrev pub object_of : ValueType → Option Object
object_of (type.Fresh k) = Some (Thread k)
object_of (type.Thread k) = Some (Thread k)
object_of (type.FreshTarget k) = Some (Target k)
object_of (type.Target k) = Some (Target k)
object_of _ = None

abbrev pub same_object : Object → Object → Bool
same_object (Thread j) (Thread k) = nat_eq j k
same_object (Target j) (Target k) = nat_eq j k
same_object _ _ = false

-- a type behind the constructor's call of an object
abbrev pub constructed : Object → ValueType → ValueType
constructed o (type.Fresh k) = if same_object o (Thread k) then type.Thread k else type.Fresh k
constructed o (type.FreshTarget k) = if same_object o (Target k) then type.Target k else type.FreshTarget k
constructed o t = t
