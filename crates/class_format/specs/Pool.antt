-- The entries of a constant pool, by their numbers (JVMS 4.4).
use Rattle.std.specs.Prelude.{ℕ, zero, suc, Bool, true, false, List, Option, Some, None, codes, nat_eq, slice_get}
use lib.Pointwise.{pointwise}
use Rattle.class_format.specs.declared.record.PoolEntry.{PoolEntry}
use Rattle.class_format.specs.declared.record.PoolEntry.TheVariants.{Utf8, Long, Double, Class, NameAndType, Gap}

-- the entry with a number, counted from 1 (JVMS 4.1, "constant_pool")
abbrev pub entry_at : List PoolEntry → ℕ → Option PoolEntry
entry_at pool zero = None
entry_at pool (suc n) = slice_get pool n

abbrev pub is_utf8 : Option PoolEntry → Bool
is_utf8 (Some (Utf8 bytes)) = true
is_utf8 _ = false

abbrev pub is_class : Option PoolEntry → Bool
is_class (Some (Class name)) = true
is_class _ = false

abbrev pub is_name_and_type : Option PoolEntry → Bool
is_name_and_type (Some (NameAndType name descriptor)) = true
is_name_and_type _ = false

-- the name of the attribute that holds a method's instructions (JVMS 4.7.3)
abbrev pub code_name : List ℕ
code_name = codes "Code"

abbrev pub is_code_name : Option PoolEntry → Bool
is_code_name (Some (Utf8 bytes)) = pointwise nat_eq bytes code_name
is_code_name _ = false

-- What an index names: an entry of the tag that its place asks for.

abbrev pub names_utf8 : List PoolEntry → ℕ → Bool
names_utf8 pool index = is_utf8 (entry_at pool index)

abbrev pub names_class : List PoolEntry → ℕ → Bool
names_class pool index = is_class (entry_at pool index)

abbrev pub names_name_and_type : List PoolEntry → ℕ → Bool
names_name_and_type pool index = is_name_and_type (entry_at pool index)

abbrev pub names_code : List PoolEntry → ℕ → Bool
names_code pool index = is_code_name (entry_at pool index)

-- a long or a double takes two numbers (JVMS 4.4.5)
abbrev pub takes_two_numbers : PoolEntry → Bool
takes_two_numbers (Long high low) = true
takes_two_numbers (Double high low) = true
takes_two_numbers _ = false

abbrev pub is_gap : PoolEntry → Bool
is_gap Gap = true
is_gap _ = false
