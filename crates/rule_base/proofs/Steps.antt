-- The steps of the odometer over all rules.
use Rattle.std.proofs.Common.{◌≡◌, ℕ, zero, suc, ◌+◌, ◌-◌, ◌<◌, ◌≤◌, List, [], ◌∷◌, ◌++◌, length, refl, sym, add-one, arith, length-append, Bool, true, false, ◌&&◌, nat_lt, slice_get, Some, None, Option, unwrap_or}
use Rattle.std.specs.List.{list_all}
use Rattle.rule_base.specs.declared.question.Question.{Question}
use Rattle.rule_base.specs.declared.letter.Letter.{Letter}
use Rattle.rule_base.specs.Domains.{domain}
use Rattle.rule_base.specs.Tables.{letters_in, letters_of, has_letter, is_filled, is_row, are_rows}
use Rattle.rule_base.specs.Instances.{Rows, instance, all_instances, instances_from, instances_left, IsSpent, args_left, args_work, work_from, work_left}
use Rattle.rule_base.proofs.Left.{left-skip, left-push, left-take, left-pop, left-pop-none, left-done, left-done-none, left-all, sub_zero}
use Rattle.rule_base.proofs.Work.{work-skip, work-push, work-pop}

pub both : (a b : Bool) → (a && b) ≡ true → (a ≡ true) × (b ≡ true)
both true b h = (refl, h)
both false b h = cc

row_at : (rows : Rows) (d : List Letter) (n : ℕ) → list_all is_row rows ≡ true → n < length rows →
    is_row (unwrap_or (slice_get rows n) d) ≡ true
row_at [] d n h l = absurd (omega arith)
row_at (r ∷ rows) d zero h l = (both (is_row r) (list_all is_row rows) h).0
row_at (r ∷ rows) d (suc n) h l = row_at rows d n (both (is_row r) (list_all is_row rows) h).1 (omega arith)

positive : (row : List Letter) → has_letter row ≡ true → 0 < length (letters_in row)
positive [] h = cc
positive (letter ∷ row) h = rw h (omega arith)

-- every rule of the table has a letter
pub some_letters : (rows : Rows) (place : ℕ) → are_rows rows ≡ true → place < length rows →
    0 < length (letters_of rows place)
unfolding letters_of
some_letters rows place t h =
    let row = unwrap_or (slice_get rows place) [] in
    let parts = both (nat_lt (length row) 6 && has_letter row) (is_filled row) (row_at rows [] place t h) in
    positive row (both (nat_lt (length row) 6) (has_letter row) parts.0).1

module _ (about : Question) (rows : Rows) (number : ℕ) where
  pub instances-skip : (chosen : List ℕ) (l : Letter) (x : ℕ) →
      slice_get (letters_of rows number) (length chosen) ≡ Some l →
      x < (domain about l chosen).size → (domain about l chosen).fits x ≡ false →
      instances_left about rows number chosen x ≡ instances_left about rows number chosen (x + 1)
  unfolding instances_left
  instances-skip chosen l x e h f =
      rw (left-skip about (letters_of rows number) [] chosen l (domain about l chosen) x e refl h f) refl

  pub instances-push : (chosen : List ℕ) (l n : Letter) (x : ℕ) →
      slice_get (letters_of rows number) (length chosen) ≡ Some l →
      slice_get (letters_of rows number) (length chosen + 1) ≡ Some n →
      x < (domain about l chosen).size → (domain about l chosen).fits x ≡ true →
      instances_left about rows number chosen x ≡ instances_left about rows number (chosen ++ x ∷ []) 0
  unfolding instances_left
  instances-push chosen l n x e s h f =
      rw (left-push about (letters_of rows number) [] chosen l n (domain about l chosen) x e (rw add-one at s) refl h
      f) refl

  pub instances-take : (chosen : List ℕ) (l : Letter) (x : ℕ) →
      slice_get (letters_of rows number) (length chosen) ≡ Some l →
      slice_get (letters_of rows number) (length chosen + 1) ≡ None →
      x < (domain about l chosen).size → (domain about l chosen).fits x ≡ true →
      instances_left about rows number chosen x ≡ instance number (chosen
      ++ x ∷ []) ∷ instances_left about rows number chosen (x + 1)
  unfolding instances_left
  instances-take chosen l x e s h f =
      rw (left-take about (letters_of rows number) [] chosen l (domain about l chosen) x e (rw add-one at s) refl h
      f) refl

  at_end : (chosen : List ℕ) (a : ℕ) → length (chosen ++ a ∷ []) ≡ suc (length chosen)
  at_end chosen a = omega (arith, length-append chosen (a ∷ []))

  pop_at : (o : Option Letter) (chosen : List ℕ) (a x : ℕ) →
      slice_get (letters_of rows number) (suc (length chosen)) ≡ o → IsSpent about rows number (chosen ++ a ∷ []) x →
      args_left about (letters_of rows number) [] (chosen ++ a ∷ []) x
      ≡ args_left about (letters_of rows number) [] chosen (a + 1)
  pop_at None chosen a x e s = left-pop-none about (letters_of rows number) [] chosen a x e
  pop_at (Some l) chosen a x e s =
      left-pop about (letters_of rows number) [] chosen a l (domain about l (chosen ++ a ∷ [])) x e refl
      (s l (rw (at_end chosen a) e))

  pub instances-pop : (chosen : List ℕ) (a x : ℕ) → IsSpent about rows number (chosen ++ a ∷ []) x →
      instances_left about rows number (chosen ++ a ∷ []) x ≡ instances_left about rows number chosen (a + 1)
  unfolding instances_left
  instances-pop chosen a x s = rw (pop_at _ chosen a x refl s) refl

  done_at : (o : Option Letter) (x : ℕ) → slice_get (letters_of rows number) 0 ≡ o → IsSpent about rows number [] x →
      args_left about (letters_of rows number) [] [] x ≡ []
  done_at None x e s = left-done-none about (letters_of rows number) [] x e
  done_at (Some l) x e s = left-done about (letters_of rows number) [] l (domain about l []) x e refl (s l e)

no_row : (rows : Rows) (place : ℕ) → length rows ≤ place → slice_get rows place ≡ None
no_row [] place h = refl
no_row (r ∷ rows) zero h = absurd (omega arith)
no_row (r ∷ rows) (suc place) h = no_row rows place (omega arith)

-- past the table there is no letter
pub no_letters : (rows : Rows) (place : ℕ) → length rows ≤ place → letters_of rows place ≡ []
unfolding letters_of
no_letters rows place h = rw (no_row rows place h) refl

none_behind : (n place : ℕ) → place ≡ n → n - (place + 1) ≡ 0
none_behind n place h = omega arith

pub past_end : (about : Question) (rows : Rows) (number : ℕ) (chosen : List ℕ) (next : ℕ) → number ≡ length rows →
    instances_left about rows number chosen next ≡ []
unfolding instances_left instances_from
past_end about rows number chosen next h =
    rw (no_letters rows number (omega arith), none_behind (length rows) number h) refl

-- from a rule on, all instances are left before its first choice
pub from_start : (about : Question) (rows : Rows) (number m : ℕ) → are_rows rows ≡ true → number ≤ length rows →
    length rows - number ≡ m → instances_left about rows number [] 0 ≡ instances_from about rows number m
unfolding instances_left instances_from
from_start about rows number zero t h e = past_end about rows number [] 0 (omega arith)
from_start about rows number (suc m) t h e =
    let b : number < length rows = omega arith in
    let r : length rows - (number + 1) ≡ m = omega arith in
    rw (left-all about (letters_of rows number) (some_letters rows number t b), r) refl

pub instances-next : (about : Question) (rows : Rows) (number x : ℕ) → are_rows rows ≡ true → number < length rows →
    IsSpent about rows number [] x → instances_left about rows number [] x ≡ instances_left about rows (number + 1) [] 0
unfolding instances_left
instances-next about rows number x t h s =
    rw (done_at about rows number _ x refl s) (sym (from_start about rows (number + 1) _ t (omega arith) refl))

-- ---- work

module _ (about : Question) (rows : Rows) (number : ℕ) where
  pub work-on : (chosen : List ℕ) (l : Letter) (x : ℕ) → slice_get (letters_of rows number) (length chosen) ≡ Some l →
      x < (domain about l chosen).size →
      work_left about rows number chosen (x + 1) < work_left about rows number chosen x
  unfolding work_left
  work-on chosen l x e h = omega (
    arith,
    work-skip about (letters_of rows number) [] chosen l (domain about l chosen)
        x e refl h,
  )

  pub work-in : (chosen : List ℕ) (l n : Letter) (x : ℕ) → slice_get (letters_of rows number) (length chosen) ≡ Some l →
      slice_get (letters_of rows number) (length chosen + 1) ≡ Some n →
      x < (domain about l chosen).size → work_left about rows number (chosen
      ++ x ∷ []) 0 < work_left about rows number chosen x
  unfolding work_left
  work-in chosen l n x e s h = omega (
    arith,
    work-push about (letters_of rows number) [] chosen l n
        (domain about l chosen) x e (rw add-one at s) refl h,
  )

  pub work-out : (chosen : List ℕ) (a x : ℕ) →
      work_left about rows number chosen (a + 1) < work_left about rows number (chosen ++ a ∷ []) x
  unfolding work_left
  work-out chosen a x = omega (arith, work-pop about (letters_of rows number) [] chosen a x)

pub work-some : (about : Question) (letters : List Letter) (x : ℕ) → 0 < args_work about letters [] [] x
work-some about [] x = omega arith
work-some about (m ∷ letters) x = omega arith

last_work : (about : Question) (rows : Rows) (number : ℕ) → number ≡ length rows →
    args_work about (letters_of rows number) [] [] 0 ≡ 1
last_work about rows number h = rw (no_letters rows number (omega arith)) refl

next_work : (about : Question) (rows : Rows) (number m x : ℕ) → number < length rows → length rows - (number + 1) ≡ m →
    args_work about (letters_of rows (number + 1)) [] [] 0 + work_from about rows (number + 1 + 1) (m - 1)
    ≤ args_work about (letters_of rows number) [] [] x + work_from about rows (number + 1) m
next_work about rows number zero x h e =
    let z : work_from about rows (number + 1 + 1) (0 - 1) ≡ 0 = refl in
    omega (arith, last_work about rows (number + 1) (omega arith), work-some about (letters_of rows number) x, z)
next_work about rows number (suc m) x h e =
    let z : suc m - 1 ≡ m = omega arith in
    rw z (omega arith)

pub work-next : (about : Question) (rows : Rows) (number x : ℕ) → number < length rows →
    work_left about rows (number + 1) [] 0 < work_left about rows number [] x
unfolding work_left
work-next about rows number x h =
    let z : length rows - (number + 1 + 1) ≡ length rows - (number + 1) - 1 = omega arith in
    rw z (omega (arith, next_work about rows number (length rows - (number + 1)) x h refl))

pub all_left : (about : Question) (rows : Rows) → are_rows rows ≡ true →
    instances_left about rows 0 [] 0 ≡ all_instances about rows
unfolding all_instances
all_left about rows t = from_start about rows 0 (length rows) t (omega arith) (sub_zero (length rows))
