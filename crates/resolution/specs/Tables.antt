-- Look-ups in tables of places.
use Rattle.std.specs.Prelude.{◌≡◌, ◌&&◌, ℕ, Bool, ◌<◌, List, [], Option, length, position, slice_index_or}
use Rattle.class_format.specs.declared.record.ClassRecord.{ClassRecord}
use Rattle.class_format.specs.declared.record.Member.{Member}
use Rattle.class_format.specs.declared.record.PoolEntry.{PoolEntry}
use Rattle.indexmap.specs.IndexMap.{get_by}
use Rattle.class_names.specs.Names.{same_text}
use Rattle.resolution.specs.Places.{is_static_named}
use Rattle.resolution.specs.Resolution.{class_place}
use Rattle.resolution.specs.declared.index.Declared.{Declared}
use Rattle.resolution.specs.declared.places.Key.{Key}
use Rattle.resolution.specs.declared.places.Places.{Places}

-- the key has this name and this descriptor
abbrev pub is_key : List ℕ → List ℕ → Key → Bool
is_key name descriptor k = same_text name k.name.now && same_text descriptor k.descriptor.now

-- the place that a table has for a name and a descriptor
abbrev pub place_of : Places → List ℕ → List ℕ → Option ℕ
place_of places name descriptor = get_by (is_key name descriptor) places.first

-- the table finds the first static member with a name and a descriptor
abbrev pub FindsMembers : List PoolEntry → List Member → Places → Type 0
FindsMembers pool members places = (name descriptor : List ℕ) → place_of places name descriptor ≡ position (is_static_named pool name descriptor) members

-- the table finds the first class with a name
abbrev pub FindsClasses : List ClassRecord → Places → Type 0
FindsClasses classes places = (name : List ℕ) → place_of places name [] ≡ class_place classes name

-- the tables find what one class declares
pub record FindsDeclared (class : ClassRecord) (d : Declared) : Type 0 where
  pub fields : FindsMembers class.pool class.fields d.fields
  pub methods : FindsMembers class.pool class.methods d.methods

-- and what each class declares
pub record FindsMembersOf (classes : List ClassRecord) (declared : List Declared) : Type 0 where
  pub each : length declared ≡ length classes
  pub finds : (place : ℕ) (class : ClassRecord) (d : Declared) → place < length classes → FindsDeclared (slice_index_or classes place class) (slice_index_or declared place d)
