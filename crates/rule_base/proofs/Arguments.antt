-- Arguments one by one.
use Rattle.std.proofs.Common.{◌≡◌, ℕ, zero, suc, ◌+◌, ◌<◌, List, [], ◌∷◌, ◌++◌, length, drop, refl, sym, add-one, arith, Bool, true, false, ◌&&◌, nat_lt, slice_get, slice_index, Some, None}
use Rattle.rule_base.specs.declared.question.Question.{Question}
use Rattle.rule_base.specs.declared.letter.Letter.{Letter}
use Rattle.rule_base.specs.Domains.{domain}
use Rattle.rule_base.specs.Rules.{are_args}
use Rattle.rule_base.specs.Tables.{letters_of}
use Rattle.rule_base.specs.Instances.{Rows, is_instance}
use Rattle.rule_base.proofs.Left.{unpack}

module _ (about : Question) where
  -- whether the argument at a place is one of the letter, and the others follow it
  step_at : (letters : List Letter) (before args : List ℕ) (i : ℕ) (l : Letter) → slice_get letters i ≡ Some l →
      i < length args →
      are_args about (drop i letters) before (drop i args)
      ≡ (nat_lt (slice_index args i) (domain about l before).size && (domain about l before).fits
      (slice_index args i) && are_args about (drop (suc i) letters) (before
      ++ slice_index args i ∷ []) (drop (suc i) args))
  step_at [] before args i l e h = cc
  step_at (m ∷ letters) before [] i l e h = absurd (omega arith)
  step_at (m ∷ letters) before (x ∷ args) zero l e h = rw (unpack m l e) refl
  step_at (m ∷ letters) before (x ∷ args) (suc i) l e h = step_at letters before args i l e (omega arith)

  -- it is one of the letter
  pub args-passed : (letters : List Letter) (before args : List ℕ) (i n x : ℕ) (l : Letter) →
      Some l ≡ slice_get letters i → i < n → n ≡ length args →
      x ≡ slice_index args i → true ≡ (nat_lt x (domain about l before).size && (domain about l before).fits x) →
      are_args about (drop i letters) before (drop i args)
      ≡ are_args about (drop (i + 1) letters) (before ++ x ∷ []) (drop (i + 1) args)
  args-passed letters before args i n x l e h m v t =
      let s = rw (← v, ← t) at (step_at letters before args i l (sym e) (rw (← m) h)) in
      rw add-one s

  -- it is not
  pub args-failed : (letters : List Letter) (before args : List ℕ) (i n x : ℕ) (l : Letter) →
      Some l ≡ slice_get letters i → i < n → n ≡ length args →
      x ≡ slice_index args i → false ≡ (nat_lt x (domain about l before).size && (domain about l before).fits x) →
      are_args about (drop i letters) before (drop i args) ≡ false
  args-failed letters before args i n x l e h m v t = rw (
    ← v,
    ← t,
  ) at (step_at letters before args i l (sym e) (rw (← m) h))

  empty_false : (before args : List ℕ) (i : ℕ) → i < length args → are_args about [] before (drop i args) ≡ false
  empty_false before [] i h = absurd (omega arith)
  empty_false before (x ∷ args) zero h = refl
  empty_false before (x ∷ args) (suc i) h = empty_false before args i (omega arith)

  drop_all : (args : List ℕ) → drop (length args) args ≡ []
  drop_all [] = refl
  drop_all (x ∷ args) = drop_all args

  -- a letter is missing
  pub args-none : (letters : List Letter) (before args : List ℕ) (i : ℕ) → slice_get letters i ≡ None →
      i < length args → are_args about (drop i letters) before (drop i args) ≡ false
  args-none [] before [] i e h = absurd (omega arith)
  args-none [] before (x ∷ args) zero e h = refl
  args-none [] before (x ∷ args) (suc i) e h = empty_false before args i (omega arith)
  args-none (m ∷ letters) before [] i e h = absurd (omega arith)
  args-none (m ∷ letters) before (x ∷ args) zero e h = cc
  args-none (m ∷ letters) before (x ∷ args) (suc i) e h = args-none letters before args i e (omega arith)

  -- all letters are used up
  pub args-end : (letters : List Letter) (before args : List ℕ) → slice_get letters (length args) ≡ None →
      are_args about (drop (length args) letters) before (drop (length args) args) ≡ true
  args-end [] before [] e = refl
  args-end [] before (x ∷ args) e = rw (drop_all args) refl
  args-end (m ∷ letters) before [] e = cc
  args-end (m ∷ letters) before (x ∷ args) e = args-end letters before args e

  -- a letter is left over
  pub args-short : (letters : List Letter) (before args : List ℕ) (l : Letter) →
      slice_get letters (length args) ≡ Some l →
      are_args about (drop (length args) letters) before (drop (length args) args) ≡ false
  args-short [] before args l e = cc
  args-short (m ∷ letters) before [] l e = refl
  args-short (m ∷ letters) before (x ∷ args) l e = args-short letters before args l e

below_true : (m n : ℕ) → m < n → nat_lt m n ≡ true
below_true m n h = grind arith

pub numbered : (about : Question) (rows : Rows) (number : ℕ) (args : List ℕ) (r : Bool) → number < length rows →
    r ≡ are_args about (letters_of rows number) [] args → r ≡ is_instance about rows number args
numbered about rows number args r h e = rw (below_true number (length rows) h) e
