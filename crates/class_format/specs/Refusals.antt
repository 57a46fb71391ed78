-- Which refusal bytes meet (docs/PROFILE.md, "Refusals of class files").
use Rattle.std.specs.Prelude.{ℕ, List, ⊤}
use Rattle.class_format.specs.declared.record.ClassRecord.{ClassRecord}
use Rattle.class_format.specs.declared.refusal.FormatRefusal.{FormatRefusal}
use Rattle.class_format.specs.declared.refusal.FormatRefusal.TheVariants.{Refused, Memory}
use Rattle.class_format.specs.ClassText.{ClassText}
use Rattle.class_format.specs.FirstFault.{ClassFault}

-- the first fault of bytes, by its kind and its place
abbrev pub IsFirstFault : List ℕ → ℕ → ℕ → Type 0
IsFirstFault bytes kind place = ClassFault bytes (record { kind = kind; place = place })

-- no record has these bytes as its text, and this is their first fault; want of memory has no cause
abbrev pub IsRefusedFor : List ℕ → FormatRefusal → Type 0
IsRefusedFor bytes (Refused kind place) = IsFirstFault bytes kind place × ((class : ClassRecord) → ClassText class bytes → ⊥)
IsRefusedFor bytes Memory = ⊤
