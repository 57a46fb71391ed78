-- The list of all instances has each instance, no other, and each once; proved once for all tables.
use Rattle.std.proofs.Common.{◌≡◌, ℕ, zero, suc, ◌+◌, ◌<◌, ◌≤◌, List, [], ◌∷◌, ◌++◌, length, map, refl, ap, sym, ◌∙◌, subst, append_assoc, append-nil, arith, Bool, true, false, ◌&&◌, cond, ◌⊎◌, inl, inr, nat_lt, slice_index}
use Rattle.std.specs.List.{flat_map}
use Rattle.rule_base.specs.declared.question.Question.{Question}
use Rattle.rule_base.specs.declared.letter.Letter.{Letter}
use Rattle.rule_base.specs.declared.instances.Instance.{Instance}
use Rattle.rule_base.specs.Domains.{passing, members, domain}
use Rattle.rule_base.specs.Rules.{all_args, are_args}
use Rattle.rule_base.specs.Tables.{letters_of}
use Rattle.rule_base.specs.Listing.{Among, Distinct}
use Rattle.rule_base.specs.Instances.{Rows, instance, instances_from, all_instances, is_instance}

pub both : (a b : Bool) → (a && b) ≡ true → (a ≡ true) × (b ≡ true)
both true b h = (refl, h)
both false b h = cc

pub both_of : (a b : Bool) → a ≡ true → b ≡ true → (a && b) ≡ true
both_of a b h i = rw (h, i) refl

pub lt_true : (m n : ℕ) → nat_lt m n ≡ true → m < n
lt_true m n h = grind arith

pub true_lt : (m n : ℕ) → m < n → nat_lt m n ≡ true
true_lt m n h = grind arith

-- the argument at the place after those before
pub at_length : (before args : List ℕ) (x : ℕ) → slice_index (before ++ (x ∷ args)) (length before) ≡ x
at_length [] args x = refl
at_length (y ∷ before) args x = at_length before args x

module _ {A : Type 0} where
  in_left : (x : A) (xs ys : List A) → Among x xs → Among x (xs ++ ys)
  in_left x (y ∷ xs) ys (inl h) = inl h
  in_left x (y ∷ xs) ys (inr h) = inr (in_left x xs ys h)
  in_left x [] ys h = absurd h

  in_right : (x : A) (xs ys : List A) → Among x ys → Among x (xs ++ ys)
  in_right x [] ys h = h
  in_right x (y ∷ xs) ys h = inr (in_right x xs ys h)

  more : (x y : A) (xs ys : List A) → Among x xs ⊎ Among x ys → Among x (y ∷ xs) ⊎ Among x ys
  more x y xs ys (inl h) = inl (inr h)
  more x y xs ys (inr h) = inr h

  in_either : (x : A) (xs ys : List A) → Among x (xs ++ ys) → Among x xs ⊎ Among x ys
  in_either x [] ys h = inr h
  in_either x (y ∷ xs) ys (inl h) = inl (inl h)
  in_either x (y ∷ xs) ys (inr h) = more x y xs ys (in_either x xs ys h)

  apart : (x : A) (xs ys : List A) → (Among x xs → ⊥) → (Among x ys → ⊥) → Among x xs ⊎ Among x ys → ⊥
  apart x xs ys h i (inl a) = h a
  apart x xs ys h i (inr a) = i a

  distinct_append : (xs ys : List A) → Distinct xs → Distinct ys → ((x : A) → Among x xs → Among x ys → ⊥) →
      Distinct (xs ++ ys)
  distinct_append [] ys d e h = e
  distinct_append (x ∷ xs) ys d e h = (
    (λ a. apart x xs ys d.0 (λ b. h x (inl refl) b) (in_either x xs ys a)),
    distinct_append xs ys d.1 e (λ y a b. h y (inr a) b),
  )

module _ {A B : Type 0} (f : A → List B) where
  in_flat : (x : A) (y : B) (xs : List A) → Among x xs → Among y (f x) → Among y (flat_map f xs)
  in_flat x y [] h i = absurd h
  in_flat x y (z ∷ xs) (inl e) i = in_left y (f z) (flat_map f xs) (let P : A → Type 0 = λ w. Among y (f w) in
      subst P e i)
  in_flat x y (z ∷ xs) (inr h) i = in_right y (f z) (flat_map f xs) (in_flat x y xs h i)

  flat_more : (y : B) (z : A) (xs : List A) → Among y (f z) ⊎ ((x : A) × Among x xs × Among y (f x)) →
      (x : A) × Among x (z ∷ xs) × Among y (f x)
  flat_more y z xs (inl h) = (z, inl refl, h)
  flat_more y z xs (inr r) = (r.0, inr r.1, r.2)

  flat_step : (y : B) (z : A) (xs : List A) → (Among y (flat_map f xs) → (x : A) × Among x xs × Among y (f x)) →
      Among y (f z) ⊎ Among y (flat_map f xs) → Among y (f z) ⊎ ((x : A) × Among x xs × Among y (f x))
  flat_step y z xs r (inl h) = inl h
  flat_step y z xs r (inr h) = inr (r h)

  flat_in : (y : B) (xs : List A) → Among y (flat_map f xs) → (x : A) × Among x xs × Among y (f x)
  flat_in y [] h = absurd h
  flat_in y (z ∷ xs) h = flat_more y z xs (flat_step y z xs (flat_in y xs) (in_either y (f z) (flat_map f xs) h))

  flat_distinct : (xs : List A) → Distinct xs → ((x : A) → Distinct (f x)) →
      ((x y : A) (z : B) → Among z (f x) → Among z (f y) → x ≡ y) → Distinct (flat_map f xs)
  flat_distinct [] d e h = tt
  flat_distinct (x ∷ xs) d e h = distinct_append (f x) (flat_map f xs) (e x) (flat_distinct xs d.1 e h)
      (λ z a b. let r = flat_in z xs b in d.0 (let P : A → Type 0 = λ w. Among w xs in
      subst P (sym (h x r.0 z a r.2)) r.1))

-- ---- the numbers of a domain

Within : (ℕ → Bool) → ℕ → ℕ → ℕ → Type 0
Within fits from n x = (from ≤ x) × (x < from + n) × (fits x ≡ true)

passing_at : (fits : ℕ → Bool) (from n x : ℕ) (b : Bool) → fits from ≡ b →
    (Among x (passing fits (from + 1) n) → Within fits (from + 1) n x) →
    Among x (cond b (from ∷ passing fits (from + 1) n) (passing fits (from + 1) n)) → Within fits from (suc n) x
unfolding Within
passing_at fits from n x true e r (inl h) = (omega arith, omega arith, ap fits h ∙ e)
passing_at fits from n x true e r (inr h) = let q = r h in (omega arith, omega arith, q.2)
passing_at fits from n x false e r h = let q = r h in (omega arith, omega arith, q.2)

passing_in : (fits : ℕ → Bool) (from n x : ℕ) → Among x (passing fits from n) → Within fits from n x
passing_in fits from zero x h = absurd h
passing_in fits from (suc n) x h = passing_at fits from n x (fits from) refl (passing_in fits (from + 1) n x) h

first_or_later : (from x : ℕ) → from ≤ x → (x ≡ from) ⊎ (from + 1 ≤ x)
first_or_later zero zero h = inl refl
first_or_later zero (suc x) h = inr (omega arith)
first_or_later (suc from) zero h = absurd (omega arith)
first_or_later (suc from) (suc x) h = next (first_or_later from x (omega arith))
  where
    next : (x ≡ from) ⊎ (from + 1 ≤ x) → (suc x ≡ suc from) ⊎ (suc from + 1 ≤ suc x)
    next (inl e) = inl (ap suc e)
    next (inr l) = inr (omega arith)

in_passing_at : (fits : ℕ → Bool) (from n x : ℕ) (b : Bool) → fits from ≡ b → fits x ≡ true →
    (x ≡ from) ⊎ (from + 1 ≤ x) → (from + 1 ≤ x → Among x (passing fits (from + 1) n)) →
    Among x (cond b (from ∷ passing fits (from + 1) n) (passing fits (from + 1) n))
in_passing_at fits from n x true e p (inl q) r = inl q
in_passing_at fits from n x true e p (inr l) r = inr (r l)
in_passing_at fits from n x false e p (inl q) r = let u : fits x ≡ fits from = ap fits q in cc
in_passing_at fits from n x false e p (inr l) r = r l

in_passing : (fits : ℕ → Bool) (from n x : ℕ) → from ≤ x → x < from + n → fits x ≡ true → Among x (passing fits from n)
in_passing fits from zero x h i e = absurd (omega arith)
in_passing fits from (suc n) x h i e =
    in_passing_at fits from n x (fits from) refl e (first_or_later from x h)
    (λ l. in_passing fits (from + 1) n x l (omega arith) e)

passing_once_at : (fits : ℕ → Bool) (from n : ℕ) (b : Bool) → Distinct (passing fits (from + 1) n) →
    Distinct (cond b (from ∷ passing fits (from + 1) n) (passing fits (from + 1) n))
unfolding Within
passing_once_at fits from n true d = ((λ a. let q = passing_in fits (from + 1) n from a in absurd (omega arith)), d)
passing_once_at fits from n false d = d

passing_once : (fits : ℕ → Bool) (from n : ℕ) → Distinct (passing fits from n)
passing_once fits from zero = tt
passing_once fits from (suc n) = passing_once_at fits from n (fits from) (passing_once fits (from + 1) n)

-- ---- the lists of arguments

module _ (about : Question) where
  args_are : (letters : List Letter) (before z : List ℕ) → Among z (all_args about letters before) →
      (rest : List ℕ) × (z ≡ before ++ rest) × (are_args about letters before rest ≡ true)
  unfolding Within
  args_are [] before z (inl e) = ([], e ∙ sym (append-nil before), refl)
  args_are [] before z (inr h) = absurd h
  args_are (l ∷ letters) before z h =
      let r = flat_in (λ x. all_args about letters (before ++ x ∷ [])) z (members (domain about l before)) h in
      let w = passing_in (domain about l before).fits 0 (domain about l before).size r.0 r.1 in
      let q = args_are letters (before ++ r.0 ∷ []) z r.2 in (
        r.0 ∷ q.0,
        q.1 ∙ append_assoc before (r.0 ∷ []) q.0,
        both_of _ _ (both_of _ _ (true_lt r.0 (domain about l before).size (omega arith)) w.2) q.2,
      )

  in_args : (letters : List Letter) (before rest : List ℕ) → are_args about letters before rest ≡ true →
      Among (before ++ rest) (all_args about letters before)
  in_args [] before [] h = inl (append-nil before)
  in_args [] before (x ∷ rest) h = cc
  in_args (l ∷ letters) before [] h = cc
  in_args (l ∷ letters) before (x ∷ rest) h =
      let a = both (nat_lt x (domain about l before).size && (domain about l before).fits x)
      (are_args about letters (before ++ x ∷ []) rest) h in
      let b = both (nat_lt x (domain about l before).size) ((domain about l before).fits x) a.0 in
      let lt : x < (domain about l before).size = lt_true _ _ b.0 in
      in_flat (λ x. all_args about letters (before ++ x ∷ [])) x (before
      ++ (x ∷ rest)) (members (domain about l before))
      (in_passing (domain about l before).fits 0 (domain about l before).size x (omega arith) (omega arith) b.1)
      (rw (append_assoc before (x ∷ []) rest) at (in_args letters (before ++ x ∷ []) rest a.1))

  args_once : (letters : List Letter) (before : List ℕ) → Distinct (all_args about letters before)
  args_once [] before = ((λ h. h), tt)
  args_once (l ∷ letters) before =
      flat_distinct (λ x. all_args about letters (before ++ x ∷ [])) (members (domain about l before))
      (passing_once (domain about l before).fits 0 (domain about l before).size)
      (λ x. args_once letters (before ++ x ∷ []))
      (λ x y z a b. let p = args_are letters (before ++ x ∷ []) z a in let q =
      args_are letters (before ++ y ∷ []) z b in
      sym (at_length before p.0 x) ∙ ap (λ (w : List ℕ). slice_index w (length before))
      (sym (p.1 ∙ append_assoc before (x ∷ []) p.0) ∙ (q.1 ∙ append_assoc before (y ∷ []) q.0))
      ∙ at_length before q.0 y)

-- ---- all rules

module _ {A B : Type 0} (f : A → B) where
  pub in_map : (x : A) (xs : List A) → Among x xs → Among (f x) (map f xs)
  in_map x [] h = absurd h
  in_map x (y ∷ xs) (inl e) = inl (ap f e)
  in_map x (y ∷ xs) (inr h) = inr (in_map x xs h)

  pub map_in : (y : B) (xs : List A) → Among y (map f xs) → (x : A) × Among x xs × (y ≡ f x)
  map_in y [] h = absurd h
  map_in y (x ∷ xs) (inl e) = (x, inl refl, e)
  map_in y (x ∷ xs) (inr h) = let r = map_in y xs h in (r.0, inr r.1, r.2)

  map_once : (xs : List A) → Distinct xs → ((x y : A) → f x ≡ f y → x ≡ y) → Distinct (map f xs)
  map_once [] d h = tt
  map_once (x ∷ xs) d h = (
    (λ a. let r = map_in (f x) xs a in
        d.0 (let P : A → Type 0 = λ w. Among w xs in subst P (sym (h x r.0 r.2)) r.1)),
    map_once xs d.1 h,
  )

module _ (about : Question) (rows : Rows) where
  Listed : ℕ → ℕ → Instance → Type 0
  Listed number m i = (number ≤ i.place) × (i.place < number + m)
      × (are_args about (letters_of rows i.place) [] i.choices ≡ true)

  here_listed : (number m : ℕ) (i : Instance) →
      Among i (map (instance number) (all_args about (letters_of rows number) [])) → Listed number (suc m) i
  unfolding Listed
  here_listed number m i h =
      let r = map_in (instance number) i (all_args about (letters_of rows number) []) h in
      let q = args_are about (letters_of rows number) [] r.0 r.1 in
      let n : i.place ≡ number = ap (λ j. j.place) r.2 in
      let a : i.choices ≡ q.0 = ap (λ j. j.choices) r.2 ∙ q.1 in
      (omega arith, omega arith, rw (n, a) q.2)

  later : (number m : ℕ) (i : Instance) → (Among i (instances_from about rows (number + 1) m) →
      Listed (number + 1) m i) →
      Among i (map (instance number) (all_args about (letters_of rows number) []))
      ⊎ Among i (instances_from about rows (number + 1) m) → Listed number (suc m) i
  unfolding Listed
  later number m i r (inl h) = here_listed number m i h
  later number m i r (inr h) = let q = r h in (omega arith, omega arith, q.2)

  listed : (number m : ℕ) (i : Instance) → Among i (instances_from about rows number m) → Listed number m i
  unfolding instances_from
  listed number zero i h = absurd h
  listed number (suc m) i h = later number m i (listed (number + 1) m i)
      (in_either i (map (instance number) (all_args about (letters_of rows number) []))
      (instances_from about rows (number + 1) m) h)

  in_list_at : (number m n : ℕ) (args : List ℕ) → (n ≡ number) ⊎ (number + 1 ≤ n) →
      are_args about (letters_of rows n) [] args ≡ true →
      (number + 1 ≤ n → Among (instance n args) (instances_from about rows (number + 1) m)) →
      Among (instance n args) (map (instance number) (all_args about (letters_of rows number) [])
      ++ instances_from about rows (number + 1) m)
  in_list_at number m n args (inl e) a r =
      let b = rw e at a in
      in_left (instance n args) (map (instance number) (all_args about (letters_of rows number) []))
      (instances_from about rows (number + 1) m)
      (rw e (in_map (instance number) args (all_args about (letters_of rows number) [])
      (in_args about (letters_of rows number) [] args b)))
  in_list_at number m n args (inr l) a r =
      in_right (instance n args) (map (instance number) (all_args about (letters_of rows number) []))
      (instances_from about rows (number + 1) m) (r l)

  in_list : (number m n : ℕ) (args : List ℕ) → number ≤ n → n < number + m →
      are_args about (letters_of rows n) [] args ≡ true → Among (instance n args) (instances_from about rows number m)
  unfolding instances_from
  in_list number zero n args h i a = absurd (omega arith)
  in_list number (suc m) n args h i a =
      in_list_at number m n args (first_or_later number n h) a (λ l. in_list (number + 1) m n args l (omega arith) a)

  once_from : (number m : ℕ) → Distinct (instances_from about rows number m)
  unfolding instances_from Listed
  once_from number zero = tt
  once_from number (suc m) =
      distinct_append (map (instance number) (all_args about (letters_of rows number) []))
      (instances_from about rows (number + 1) m)
      (map_once (instance number) (all_args about (letters_of rows number) [])
      (args_once about (letters_of rows number) []) (λ x y e. ap (λ j. j.choices) e))
      (once_from (number + 1) m)
      (λ i a b. let p = here_listed number 0 i a in let q = listed (number + 1) m i b in absurd (omega arith))

  -- what is listed is an instance
  pub listed_instance : (i : Instance) → Among i (all_instances about rows) →
      is_instance about rows i.place i.choices ≡ true
  unfolding all_instances Listed
  listed_instance i h = let q = listed 0 (length rows) i h in
      both_of _ _ (true_lt i.place (length rows) (omega arith)) q.2

  -- and each instance is listed
  pub instance_listed : (number : ℕ) (args : List ℕ) → is_instance about rows number args ≡ true →
      Among (instance number args) (all_instances about rows)
  unfolding all_instances
  instance_listed number args h =
      let b = both (nat_lt number (length rows)) (are_args about (letters_of rows number) [] args) h in
      let l : number < length rows = lt_true _ _ b.0 in
      in_list 0 (length rows) number args (omega arith) (omega arith) b.1

  -- once
  pub listed_once : Distinct (all_instances about rows)
  unfolding all_instances
  listed_once = once_from 0 (length rows)
