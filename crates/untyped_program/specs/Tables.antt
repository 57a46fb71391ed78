-- What the tables of fields hold.
use Rattle.std.specs.Prelude.{◌≡◌, ◌<◌, ◌+◌, ◌++◌, ℕ, Bool, false, true, List, [], ◌∷◌, Some, count_by, length, slice_get, slice_index_or, slice_set, take, if◌then◌else◌, ⊤}
use Rattle.class_format.specs.declared.record.ClassRecord.{ClassRecord}
use Rattle.class_format.specs.declared.record.Member.{Member}
use Rattle.program.specs.declared.program.Variable.{Variable}
use Rattle.reached_methods.specs.declared.method.ReachedMethod.{ReachedMethod}
use Rattle.resolution.specs.declared.target.Target.{Target}
use Rattle.resolution.specs.declared.target.Target.TheVariants as target
use Rattle.untyped_program.specs.Variables.{is_variable, variable_of, number_of}

-- ---- Marks: for each class, whether each field is a variable

-- the row of a class
abbrev pub row_of : List (List Bool) → ℕ → List Bool
row_of rows class_at = slice_index_or rows class_at []

abbrev pub is_marked : List (List Bool) → ℕ → ℕ → Bool
is_marked rows class_at field_at = slice_index_or (row_of rows class_at) field_at false

-- the rows have a mark for the field
pub record HasMark (rows : List (List Bool)) (class_at field_at : ℕ) : Type 0 where
  pub class : class_at < length rows
  pub field : field_at < length (row_of rows class_at)

-- the rows have a mark for the field, where one is named
abbrev pub HasMarkFor : List (List Bool) → Target → Type 0
HasMarkFor rows (target.Field class_at field_at) = HasMark rows class_at field_at
HasMarkFor rows t = ⊤

abbrev pub with_mark : List (List Bool) → ℕ → ℕ → List (List Bool)
with_mark rows class_at field_at = slice_set rows class_at (slice_set (row_of rows class_at) field_at true)

-- as many rows as before, each with as many marks
pub record HasShapeOf (rows others : List (List Bool)) : Type 0 where
  pub size : length others ≡ length rows
  pub widths : (class_at : ℕ) → length (row_of others class_at) ≡ length (row_of rows class_at)

-- a row for each class, with a mark for each field
pub record HasRows (classes : List ClassRecord) (rows : List (List Bool)) : Type 0 where
  pub size : length rows ≡ length classes
  pub widths : (class_at : ℕ) (class : ClassRecord) → slice_get classes class_at ≡ Some class → length (row_of rows class_at) ≡ length class.fields

-- the marks tell the variables
pub record AreMarks (classes : List ClassRecord) (methods : List ReachedMethod) (rows : List (List Bool)) : Type 0 where
  pub shape : HasRows classes rows
  pub marks : (class_at field_at : ℕ) → is_marked rows class_at field_at ≡ is_variable methods class_at field_at

-- ---- Marked variables

abbrev pub marked_in : ClassRecord → List Bool → List Member → List Variable
marked_in class (mark ∷ marks) (f ∷ fields) = if mark then variable_of class f ∷ marked_in class marks fields else marked_in class marks fields
marked_in class marks fields = []

abbrev pub marked_from : List (List Bool) → List ClassRecord → List Variable
marked_from (row ∷ rows) (class ∷ classes) = marked_in class row class.fields ++ marked_from rows classes
marked_from rows classes = []

-- ---- Numbers

-- the number that the table has for a field
abbrev pub number_in : List (List ℕ) → ℕ → ℕ → ℕ
number_in numbers class_at field_at = slice_index_or (slice_index_or numbers class_at []) field_at 0

-- numbers from a start, one for each mark: how many marks are set before it
pub record AreNumbersFrom (start : ℕ) (marks : List Bool) (numbers : List ℕ) : Type 0 where
  pub size : length numbers ≡ length marks
  pub counts : (place : ℕ) → place < length marks → slice_index_or numbers place 0 ≡ start + count_by (λ mark. mark) (take place marks)

-- numbers for each row, from the count of the marked variables before
pub record AreNumbers (classes : List ClassRecord) (rows : List (List Bool)) (numbers : List (List ℕ)) : Type 0 where
  pub size : length numbers ≡ length rows
  pub each : (class_at : ℕ) → class_at < length rows →
      AreNumbersFrom (length (marked_from (take class_at rows) (take class_at classes))) (row_of rows class_at) (slice_index_or numbers class_at [])

-- the table has the field, where one is named
abbrev pub HasNumberFor : List (List ℕ) → Target → Type 0
HasNumberFor numbers (target.Field class_at field_at) = (class_at < length numbers) × (field_at < length (slice_index_or numbers class_at []))
HasNumberFor numbers t = ⊤

-- the table tells the numbers of the fields
pub record TellsNumbers (classes : List ClassRecord) (methods : List ReachedMethod) (numbers : List (List ℕ)) : Type 0 where
  pub size : length numbers ≡ length classes
  pub widths : (class_at : ℕ) (class : ClassRecord) → slice_get classes class_at ≡ Some class → length (slice_index_or numbers class_at []) ≡ length class.fields
  pub told : (class_at field_at : ℕ) (class : ClassRecord) → slice_get classes class_at ≡ Some class → field_at < length class.fields →
      number_in numbers class_at field_at ≡ number_of classes methods class_at field_at
