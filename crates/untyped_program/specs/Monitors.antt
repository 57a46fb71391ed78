-- The monitors: those of the class objects that reached methods lock by name (docs/MODEL.md, "The program of the classes").
use Rattle.std.specs.Prelude.{◌&&◌, ◌++◌, ℕ, Bool, List, [], ◌∷◌, Option, Some, None, fold, position, slice_get, if◌then◌else◌}
use Rattle.std.specs.List.{filter_map, flat_map}
use Rattle.class_format.specs.declared.record.ClassRecord.{ClassRecord}
use Rattle.class_format.specs.declared.record.Member.{Member}
use Rattle.class_format.specs.declared.record.PoolEntry.{PoolEntry}
use Rattle.class_names.specs.Members.{static_flag, synchronized_flag}
use Rattle.class_names.specs.Names.{has_flag, same_text, class_name_of, name_of}
use Rattle.class_profile.specs.Texts.{with_text}
use Rattle.reached_methods.specs.declared.method.ReachedMethod.{ReachedMethod}
use Rattle.resolution.specs.declared.target.Target.{Target}
use Rattle.resolution.specs.declared.target.Target.TheVariants as target

-- a static synchronized method locks its class's object
abbrev pub locks_class : Member → Bool
locks_class m = has_flag m.flags static_flag && has_flag m.flags synchronized_flag

-- the name of the class whose object is named
abbrev pub class_named : List PoolEntry → Target → Option (List ℕ)
class_named pool (target.Class index) = Some (class_name_of pool index)
class_named pool t = None

abbrev pub own_name : ClassRecord → Option Member → List (List ℕ)
own_name class (Some m) = if locks_class m then name_of class ∷ [] else []
own_name class None = []

-- what a method of a class names: its own class where it locks it, and then what its instructions name, by place
abbrev pub names_in : Option ClassRecord → ℕ → List Target → List (List ℕ)
names_in (Some class) method_at targets = own_name class (slice_get class.methods method_at) ++ filter_map (class_named class.pool) targets
names_in None method_at targets = []

abbrev pub names_by : List ClassRecord → ReachedMethod → List (List ℕ)
names_by classes m = names_in (slice_get classes m.id.class) m.id.method m.targets

-- each name once, in the order of first appearance
abbrev pub monitors_of : List ClassRecord → List ReachedMethod → List (List ℕ)
monitors_of classes methods = fold with_text [] (flat_map (names_by classes) methods)

-- the number of a monitor: the place of its name
abbrev pub monitor_number : List (List ℕ) → List ℕ → Option ℕ
monitor_number monitors name = position (same_text name) monitors
