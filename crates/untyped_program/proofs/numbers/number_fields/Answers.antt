-- One more class.
use Rattle.std.proofs.Common.{◌≡◌, ◌<◌, ◌++◌, ℕ, Bool, List, [], ◌∷◌, length, get_or, take, refl, sym, ap, ◌∙◌, subst, arith, inl, inr, length-append}
use Rattle.std.proofs.lemmas.Bool.{cases_lt}
use Rattle.std.proofs.lemmas.List.{get_or_default, get_or_append_left}
use Rattle.std.proofs.lemmas.Option.{slice_get_read}
use Rattle.program.specs.declared.program.Variable.{Variable}
use Rattle.untyped_program.specs.Tables.{AreNumbersFrom, marked_in, marked_from, row_of}
use Rattle.untyped_program.proofs.Variables.{marked_from-more, at_end}
use Rattle.untyped_program.proofs.numbers.number_fields.Goals as goal

pub add_variables-requires : goal.add_variables-requires
add_variables-requires c =
    let rows = c.args.rows.now in
    let place = c.loop-place.place in
    let class = c.index-classes-place.result in
    let sizes = c.requires.size in
    let wide = c.requires.widths place class (slice_get_read c.args.classes.now (length c.args.classes.now) place class refl c.loop-place-test.true c.index-classes-place.is) in
    let within : place < length rows = let t = c.loop-place-test.true in omega arith in
    ap length (c.as_slice-marks.ensures ∙ c.index-rows-place.is ∙ get_or_default rows place c.index-rows-place.result [] within) ∙ wide

pub loop-place-preserved : goal.loop-place-preserved
loop-place-preserved c =
    let rows = c.args.rows.now in
    let classes = c.args.classes.now in
    let place = c.loop-place.place in
    let class = c.index-classes-place.result in
    let kept = c.loop-place.invariant in
    let numbers = c.loop-place.numbers.items in
    let row = c.in_ok-row.row in
    let sizes = c.requires.size in
    let inside : place < length classes = c.loop-place-test.true in
    let within : place < length rows = omega arith in
    let marks-are : c.as_slice-marks.result.now ≡ row_of rows place = c.as_slice-marks.ensures ∙ c.index-rows-place.is ∙ get_or_default rows place c.index-rows-place.result [] within in
    let more = marked_from-more place rows classes class within inside (sym c.index-classes-place.is) in
    let added : c.add_row.new.numbers.items ≡ numbers ++ row ∷ [] = c.in_ok-add_row.ensures in
    let here : AreNumbersFrom (length (marked_from (take place rows) (take place classes))) (row_of rows place) row =
    subst (λ (marks : List Bool). AreNumbersFrom (length (marked_from (take place rows) (take place classes))) marks row) marks-are
    (subst (λ (vs : List Variable). AreNumbersFrom (length vs) c.as_slice-marks.result.now row) kept.variables c.in_ok-row.ensures) in
    record {
      variables = c.in_ok-add_variables.ensures ∙ ap (λ (vs : List Variable). vs ++ marked_in class c.as_slice-marks.result.now class.fields) kept.variables
          ∙ ap (λ (marks : List Bool). marked_from (take place rows) (take place classes) ++ marked_in class marks class.fields) marks-are ∙ sym more;
      size = let long = ap length added in let size = kept.size in omega (arith, long, length-append numbers (row ∷ []), size);
      each = λ k below. subst (λ (ns : List (List ℕ)). AreNumbersFrom (length (marked_from (take k rows) (take k classes))) (row_of rows k) (get_or ns k [])) (sym added)
          (elim (cases_lt k place) [
            | inl lt ↦ subst (AreNumbersFrom (length (marked_from (take k rows) (take k classes))) (row_of rows k))
                (sym (get_or_append_left numbers (row ∷ []) [] k (let size = kept.size in omega arith))) (kept.each k lt)
            | inr ge ↦ (let same : place ≡ k = omega arith in
                let size = kept.size in
                subst (λ (n : ℕ). AreNumbersFrom (length (marked_from (take n rows) (take n classes))) (row_of rows n) (get_or (numbers ++ row ∷ []) n [])) same
                (subst (AreNumbersFrom (length (marked_from (take place rows) (take place classes))) (row_of rows place)) (sym (at_end numbers row place size)) here))
          ]);
    }
