-- Static members by name and descriptor.
use Rattle.std.specs.Prelude.{◌&&◌, ℕ, Bool, List}
use Rattle.class_format.specs.declared.record.Member.{Member}
use Rattle.class_format.specs.declared.record.PoolEntry.{PoolEntry}
use Rattle.class_names.specs.Members.{member_name, member_descriptor, static_flag}
use Rattle.class_names.specs.Names.{has_flag, same_text}

-- a static member with this name and this descriptor
abbrev pub is_static_named : List PoolEntry → List ℕ → List ℕ → Member → Bool
is_static_named pool name descriptor m = has_flag m.flags static_flag && same_text name (member_name pool m) && same_text descriptor (member_descriptor pool m)
