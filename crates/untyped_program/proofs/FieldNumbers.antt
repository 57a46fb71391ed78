-- The numbers of marked fields are those of the variables.
use Rattle.std.proofs.Common.{◌≡◌, ◌<◌, ◌≤◌, ◌+◌, ℕ, Bool, false, List, [], length, take, get_or, count_by, Some, slice_get, arith, refl, sym, ap, ◌∙◌}
use Rattle.std.proofs.lemmas.List.{length-take, get_or-take}
use Rattle.std.proofs.lemmas.Option.{slice_get_within, slice_get_read}
use Rattle.class_format.specs.declared.record.ClassRecord.{ClassRecord}
use Rattle.reached_methods.specs.declared.method.ReachedMethod.{ReachedMethod}
use Rattle.untyped_program.specs.Tables.{AreMarks, AreNumbers, TellsNumbers, row_of, marked_from}
use Rattle.untyped_program.specs.Variables.{is_variable, variables_from, variables_of, number_of}
use Rattle.untyped_program.proofs.Counts.{count_is}
use Rattle.untyped_program.proofs.Variables.{TellFrom, rows_are}

module _ (classes : List ClassRecord) (methods : List ReachedMethod) (rows : List (List Bool)) (are : AreMarks classes methods rows) where
  -- of the first classes
  tell_first : (n : ℕ) → n ≤ length classes → TellFrom methods 0 (take n rows) (take n classes)
  tell_first n within =
      let size = are.shape.size in
      let rows_size : length (take n rows) ≡ n = omega (arith, length-take n rows) in
      let classes_size : length (take n classes) ≡ n = omega (arith, length-take n classes) in
      record {
        size = rows_size ∙ sym classes_size;
        widths = λ k class inside at. wide k class (omega arith) at;
        marks = λ k j inside. marked k j (omega arith);
      }
    where
      wide : (k : ℕ) (class : ClassRecord) → k < n → get_or (take n classes) k class ≡ class → length (get_or (take n rows) k []) ≡ length class.fields
      wide k class inside at =
          ap length (get_or-take n rows k [] inside)
          ∙ are.shape.widths k class (slice_get_read classes (length classes) k class refl (omega arith) (sym at ∙ get_or-take n classes k class inside))

      marked : (k j : ℕ) → k < n → get_or (get_or (take n rows) k []) j false ≡ is_variable methods (0 + k) j
      marked k j inside =
          let e : 0 + k ≡ k = omega arith in
          ap (λ (row : List Bool). get_or row j false) (get_or-take n rows k [] inside) ∙ are.marks k j ∙ ap (λ (i : ℕ). is_variable methods i j) (sym e)

  pub first_variables : (n : ℕ) → n ≤ length classes → marked_from (take n rows) (take n classes) ≡ variables_from methods 0 (take n classes)
  first_variables n within = rows_are methods 0 (take n rows) (take n classes) (tell_first n within)

  tell_all : TellFrom methods 0 rows classes
  tell_all = record {
    size = are.shape.size;
    widths = λ k class inside at. are.shape.widths k class (slice_get_read classes (length classes) k class refl inside (sym at));
    marks = λ k j inside. let e : 0 + k ≡ k = omega arith in are.marks k j ∙ ap (λ (i : ℕ). is_variable methods i j) (sym e);
  }

  pub all_variables : marked_from rows classes ≡ variables_of classes methods
  all_variables = rows_are methods 0 rows classes tell_all

  module _ (numbers : List (List ℕ)) (counted : AreNumbers classes rows numbers) where
    at_class : (class_at : ℕ) (class : ClassRecord) → slice_get classes class_at ≡ Some class → class_at < length rows
    at_class class_at class there = let size = are.shape.size in let within = slice_get_within classes class_at class there in omega arith

    told_at : (class_at field_at : ℕ) (class : ClassRecord) → slice_get classes class_at ≡ Some class → field_at < length class.fields →
        get_or (get_or numbers class_at []) field_at 0 ≡ number_of classes methods class_at field_at
    told_at class_at field_at class there inside =
        let within = slice_get_within classes class_at class there in
        let row = counted.each class_at (at_class class_at class there) in
        let wide = are.shape.widths class_at class there in
        row.counts field_at (omega arith)
        ∙ ap (λ (n : ℕ). n + count_by (λ m. m) (take field_at (row_of rows class_at))) (ap length (first_variables class_at (omega arith)))
        ∙ ap (λ (n : ℕ). length (variables_from methods 0 (take class_at classes)) + n)
        (count_is methods class_at (row_of rows class_at) (λ k. are.marks class_at k) field_at (omega arith))

    pub tells : TellsNumbers classes methods numbers
    tells = record {
      size = counted.size ∙ are.shape.size;
      widths = λ class_at class there. (counted.each class_at (at_class class_at class there)).size ∙ are.shape.widths class_at class there;
      told = told_at;
    }
