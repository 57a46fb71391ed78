-- The values of locals and of the stack, as the code holds them.
use Rattle.std.specs.Prelude.{ℕ, ℤ, Bool, true, false, Option, Some, None}
use Rattle.program.specs.Step.{JavaValue}
use Rattle.program.specs.Step as java
use Rattle.thread_meaning.specs.declared.value.Shape.{Shape}
use Rattle.thread_meaning.specs.declared.value.Shape.TheVariants.{Int, Out, Args, This, Monitor, Object, Target}

-- the value of this shape
abbrev pub value_of : Shape → JavaValue
value_of (Int n) = java.Int n
value_of Out = java.Out
value_of Args = java.Args
value_of This = java.This
value_of (Monitor m) = java.Monitor m
value_of (Object k) = java.Object k
value_of (Target k) = java.Target k

-- the shape of a value
abbrev pub shape_of : JavaValue → Shape
shape_of (java.Int n) = Int n
shape_of java.Out = Out
shape_of java.Args = Args
shape_of java.This = This
shape_of (java.Monitor m) = Monitor m
shape_of (java.Object k) = Object k
shape_of (java.Target k) = Target k

-- the int, where it is one
abbrev pub int_of : JavaValue → Option ℤ
int_of (java.Int n) = Some n
int_of _ = None

-- the monitor, the thread or the target, where it is the object of one
abbrev pub monitor_of : JavaValue → Option ℕ
monitor_of (java.Monitor m) = Some m
monitor_of _ = None

abbrev pub object_of : JavaValue → Option ℕ
object_of (java.Object k) = Some k
object_of _ = None

abbrev pub target_of : JavaValue → Option ℕ
target_of (java.Target k) = Some k
target_of _ = None

abbrev pub is_reference : JavaValue → Bool
is_reference (java.Int n) = false
is_reference _ = true
