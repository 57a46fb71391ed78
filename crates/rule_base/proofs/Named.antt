-- Each instance of a table has its clause under its own rule; once for all tables.
use Rattle.std.proofs.Common.{◌≡◌, ◌≢◌, ℕ, zero, suc, ◌+◌, ◌<◌, List, [], ◌∷◌, length, map, refl, ap, sym, ◌∙◌, subst, arith, ◌⊎◌, inl, inr, slice_index_or}
use Rattle.std.specs.Prelude.{AllPairs, Contains}
use Rattle.var_names.specs.declared.args.Arg.TheVariants.{D, Number}
use Rattle.var_names.specs.declared.rule.Rule.{Rule}
use Rattle.var_names.specs.declared.var.Lit.{Lit}
use Rattle.var_names.specs.Formulas.{RuledClause}
use Rattle.rule_base.specs.declared.question.Question.{Question}
use Rattle.rule_base.specs.declared.instances.Instance.{Instance}
use Rattle.rule_base.specs.Instances.{IsInstance, Rows, all_instances, instance}
use Rattle.rule_base.specs.Listing.{Among, Distinct}
use Rattle.rule_base.specs.Naming.{Literals, NamesEach, NamesOnly, NamesOnce, named, named_instances, numbers, rule_of}
use Rattle.rule_base.proofs.EachOnce.{in_map, map_in, instance_listed, listed_instance, listed_once}

module _ {A : Type 0} where
  contains_of : (x : A) (xs : List A) → Among x xs → Contains xs x
  contains_of x [] h = absurd h
  contains_of x (y ∷ ys) (inl e) = (0, omega arith, sym e)
  contains_of x (y ∷ ys) (inr h) = let r = contains_of x ys h in (suc r.0, omega (arith, r.1), r.2)

  among_at : (x : A) (xs : List A) (k : ℕ) → k < length xs → slice_index_or xs k x ≡ x → Among x xs
  among_at x [] k h e = absurd (omega arith)
  among_at x (y ∷ ys) zero h e = inl (sym e)
  among_at x (y ∷ ys) (suc k) h e = inr (among_at x ys k (omega arith) e)

  among_item : (xs : List A) (k : ℕ) (d : A) → k < length xs → Among (slice_index_or xs k d) xs
  among_item [] k d h = absurd (omega arith)
  among_item (x ∷ xs) zero d h = inl refl
  among_item (x ∷ xs) (suc k) d h = inr (among_item xs k d (omega arith))

-- the choices, if these are numbers
unnumbered : (xs ys : List ℕ) → numbers xs ≡ numbers ys → xs ≡ ys
unnumbered [] [] e = refl
unnumbered [] (y ∷ ys) e = cc
unnumbered (x ∷ xs) [] e = cc
unnumbered (x ∷ xs) (y ∷ ys) e =
    let h : x ≡ y = cc in let t : numbers xs ≡ numbers ys = cc in rw (h, unnumbered xs ys t) refl

-- no number is the default write
pub number_at : (choices : List ℕ) (i : ℕ) → slice_index_or (numbers choices) i (Number 0) ≡ D → ⊥
number_at [] i e = cc
number_at (x ∷ xs) zero e = cc
number_at (x ∷ xs) (suc i) e = number_at xs i e

same_instance : (first : ℕ) (a b : Instance) → rule_of first a ≡ rule_of first b → a ≡ b
same_instance first a b e =
    let n : first + a.place ≡ first + b.place = ap (λ (r : Rule). r.number) e in
    let p : a.place ≡ b.place = omega arith in
    let c : a.choices ≡ b.choices = unnumbered a.choices b.choices (ap (λ (r : Rule). r.args) e) in
    let s : instance a.place a.choices ≡ instance b.place b.choices = rw (p, c) refl in s

same_rule : (a b : Rule) → a.number ≡ b.number → a.args ≡ b.args → a ≡ b
same_rule a b n h =
    let s : record { number = a.number; args = a.args } ≡ record { number = b.number; args = b.args } = rw (n, h) refl in s

module _ (first : ℕ) (literals : Literals) where
  apart_from : (a : Instance) (xs : List Instance) (c : RuledClause) → (Among a xs → ⊥) →
      (b : Instance) × Among b xs × (c ≡ named first literals b) → rule_of first a ≢ c.rule
  apart_from a xs c h r e =
      let s : rule_of first a ≡ rule_of first r.0 = e ∙ ap (λ (z : RuledClause). z.rule) r.2 in
      h (let P : Instance → Type 0 = λ w. Among w xs in subst P (sym (same_instance first a r.0 s)) r.1)

  pairs : (xs : List Instance) → Distinct xs → (i j : ℕ) (d : RuledClause) → i < j →
      j < length (map (named first literals) xs) →
      (slice_index_or (map (named first literals) xs) i d).rule
      ≢ (slice_index_or (map (named first literals) xs) j d).rule
  pairs [] u i j d h l = absurd (omega arith)
  pairs (x ∷ xs) u zero zero d h l = absurd (omega arith)
  pairs (x ∷ xs) u (suc i) zero d h l = absurd (omega arith)
  pairs (x ∷ xs) u (suc i) (suc j) d h l = pairs xs u.1 i j d (omega arith) (omega arith)
  pairs (x ∷ xs) u zero (suc j) d h l =
      let ys : List RuledClause = map (named first literals) xs in
      apart_from x xs (slice_index_or ys j d) u.0
      (map_in (named first literals) (slice_index_or ys j d) xs (among_item ys j d (omega arith)))

pub names_each : NamesEach
unfolding named_instances
names_each first q rows literals place args h =
    contains_of (named first literals (instance place args)) (map (named first literals) (all_instances q rows))
    (in_map (named first literals) (instance place args) (all_instances q rows) (instance_listed q rows place args h))

pub names_only : NamesOnly
unfolding named_instances
names_only first q rows literals clause h =
    let r = map_in (named first literals) clause (all_instances q rows)
    (among_at clause (map (named first literals) (all_instances q rows)) h.0 h.1 h.2) in
    (r.0, listed_instance q rows r.0 r.1, r.2)

pub names_once : NamesOnce
unfolding named_instances
names_once first q rows literals = λ i j d h l. pairs first literals (all_instances q rows) (listed_once q rows) i j d h l

-- ---- what a rule names

module _ (first : ℕ) (q : Question) (rows : Rows) (literals : Literals) (rule : Rule) where
  -- a rule whose arguments are no numbers, or whose number comes before the first, names nothing
  pub refused_arguments : ((choices : List ℕ) → rule.args ≡ numbers choices → ⊥) → (clause : List Lit) →
      Contains (named_instances first q rows literals) (record { rule = rule; literals = clause }) → ⊥
  refused_arguments h clause c =
      let r = names_only first q rows literals _ c in
      h r.0.choices (ap (λ (z : RuledClause). z.rule.args) r.2)

  pub refused_number : rule.number < first → (clause : List Lit) →
      Contains (named_instances first q rows literals) (record { rule = rule; literals = clause }) → ⊥
  refused_number h clause c =
      let r = names_only first q rows literals _ c in
      let e : rule.number ≡ first + r.0.place = ap (λ (z : RuledClause). z.rule.number) r.2 in
      absurd (omega arith)

  pub refused_instance : (place : ℕ) (choices : List ℕ) → rule.number ≡ first + place → rule.args ≡ numbers choices →
      (IsInstance q rows place choices → ⊥) → (clause : List Lit) →
      Contains (named_instances first q rows literals) (record { rule = rule; literals = clause }) → ⊥
  refused_instance place choices n a h clause c =
      let r = names_only first q rows literals _ c in
      let e : first + r.0.place ≡ first + place = sym (ap (λ (z : RuledClause). z.rule.number) r.2) ∙ n in
      let p : r.0.place ≡ place = omega arith in
      let s : r.0.choices ≡ choices =
      unnumbered r.0.choices choices (sym (ap (λ (z : RuledClause). z.rule.args) r.2) ∙ a) in
      h (rw (p, s) at r.1)

  pub found_instance : (place : ℕ) (choices : List ℕ) (clause : List Lit) → rule.number ≡ first + place →
      rule.args ≡ numbers choices → IsInstance q rows place choices → clause ≡ literals place choices →
      Contains (named_instances first q rows literals) (record { rule = rule; literals = clause })
  found_instance place choices clause n a h e =
      let s : rule ≡ rule_of first (instance place choices) = same_rule rule _ n a in
      rw (s, e) (names_each first q rows literals place choices h)
