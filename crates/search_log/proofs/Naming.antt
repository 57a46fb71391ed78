-- How names change.
use Rattle.std.proofs.Common.{◌≡◌, ◌≢◌, ◌+◌, ◌<◌, ◌≤◌, ◌^◌, ◌⊎◌, ◌∙◌, ℕ, zero, suc, List, [], ◌∷◌, inl, inr, refl, sym, subst, ap, arith, length, get_or, get_or-set_other}
use Rattle.std.specs.Prelude.{sum_by, slice_set, replicate}
use Rattle.std.proofs.Math.ListN.{length-set}
use Rattle.std.proofs.lemmas.List.{get_or-set_same, length-replicate}
use Rattle.std.proofs.lemmas.List.Sums.{sum_by-set, sum_by-cons, sum_by-le}
use Rattle.conflict_analysis.specs.declared.hint.Hint.{Hint}
use Rattle.var_names.specs.Formulas.{FormulaValue}
use Rattle.search_log.specs.declared.name.Name.{Name}
use Rattle.search_log.specs.declared.name.Name.TheVariants.{Unnamed, Ruled, Numbered}
use Rattle.search_log.specs.Names.{LogValue, IsSoundLog, name_at, clauses_of, one_if_ruled, with_name, IsNumberedName, IsKnownName, KeepsName, KeepsNames, IsLastUnnamed, hint_name, slot_of}

past : (names : List Name) (slot : ℕ) → length names ≤ slot → name_at names slot ≡ Unnamed
past [] slot more = refl
past (n ∷ ns) zero more = absurd (omega (arith, more))
past (n ∷ ns) (suc slot) more = past ns slot (omega (arith, more))

-- a slot with a name is one of the table
pub within-of : (names : List Name) (slot : ℕ) (name : Name) → name_at names slot ≡ name → (name ≡ Unnamed → ⊥) → slot < length names
within-of [] slot name is some = absurd (some (sym is))
within-of (n ∷ ns) zero name is some = omega arith
within-of (n ∷ ns) (suc slot) name is some = omega (arith, within-of ns slot name is some)

pub slot-cases : (i j : ℕ) → (i ≡ j) ⊎ (i ≢ j)
slot-cases i j = grind arith

pub name-set : (names : List Name) (slot : ℕ) (name : Name) → slot < length names → name_at (slice_set names slot name) slot ≡ name
name-set names slot name within = get_or-set_same names slot name Unnamed within

pub name-other : (names : List Name) (slot other : ℕ) (name : Name) → other ≢ slot → name_at (slice_set names slot name) other ≡ name_at names other
name-other names slot other name differs = get_or-set_other names slot other name Unnamed differs

numbered-one : (m n : ℕ) → Numbered m ≡ Numbered n → m ≡ n
numbered-one m n same = cc

-- the name in a slot becomes a new number, or the log goes on by a line
pub sound-numbered : (log : LogValue) (slot : ℕ) (derived instances number : ℕ) → IsSoundLog log → slot < length log.names
    → number ≤ derived + instances → log.derived + log.instances ≤ derived + instances → ((other : ℕ) → name_at log.names other ≡ Numbered number → ⊥)
    → instances + sum_by one_if_ruled (slice_set log.names slot (Numbered number)) ≤ length log.names → derived < 2 ^ 64
    → IsSoundLog (record { names = slice_set log.names slot (Numbered number); handles = log.handles; derived = derived; instances = instances })
sound-numbered log slot derived instances number is within upto more fresh once few = record {
  apart = apart;
  upto = reach;
  once = rw length-set once;
  few = rw length-set is.few;
  few_lines = few;
}
  where
    names : List Name
    names = log.names

    cases : (s n : ℕ) → name_at (slice_set log.names slot (Numbered number)) s ≡ Numbered n → ((s ≡ slot) × (n ≡ number)) ⊎ ((s ≢ slot) × (name_at log.names s ≡ Numbered n))
    cases s n at = by (slot-cases s slot)
      where
        by : (s ≡ slot) ⊎ (s ≢ slot) → ((s ≡ slot) × (n ≡ number)) ⊎ ((s ≢ slot) × (name_at log.names s ≡ Numbered n))
        by (inl same) = inl (same, numbered-one n number (sym at ∙ ap (name_at (slice_set log.names slot (Numbered number))) same ∙ name-set log.names slot (Numbered number) within))
        by (inr differs) = inr (differs, sym (name-other log.names slot s (Numbered number) differs) ∙ at)

    apart : (s o n : ℕ) → name_at (slice_set log.names slot (Numbered number)) s ≡ Numbered n → name_at (slice_set log.names slot (Numbered number)) o ≡ Numbered n → s ≡ o
    apart s o n a b = by (cases s n a) (cases o n b)
      where
        by : ((s ≡ slot) × (n ≡ number)) ⊎ ((s ≢ slot) × (name_at log.names s ≡ Numbered n)) → ((o ≡ slot) × (n ≡ number)) ⊎ ((o ≢ slot) × (name_at log.names o ≡ Numbered n)) → s ≡ o
        by (inl x) (inl y) = x.0 ∙ sym y.0
        by (inl x) (inr y) = absurd (fresh o (y.1 ∙ ap Numbered x.1))
        by (inr x) (inl y) = absurd (fresh s (x.1 ∙ ap Numbered y.1))
        by (inr x) (inr y) = is.apart s o n x.1 y.1

    reach : (s n : ℕ) → name_at (slice_set log.names slot (Numbered number)) s ≡ Numbered n → n ≤ derived + instances
    reach s n a = by (cases s n a)
      where
        by : ((s ≡ slot) × (n ≡ number)) ⊎ ((s ≢ slot) × (name_at log.names s ≡ Numbered n)) → n ≤ derived + instances
        by (inl x) = omega (arith, x.1, upto)
        by (inr y) = let old = is.upto s n y.1 in omega (arith, old, more)

ruled-fewer : (names : List Name) (slot place number : ℕ) → slot < length names → name_at names slot ≡ Ruled place
    → sum_by one_if_ruled (slice_set names slot (Numbered number)) + 1 ≡ sum_by one_if_ruled names
ruled-fewer names slot place number within is =
    let sums = sum_by-set one_if_ruled names slot (Numbered number) Unnamed within in
    let old : one_if_ruled (get_or names slot Unnamed) ≡ 1 = ap one_if_ruled is in
    omega (arith, sums, old)

unnamed-same : (names : List Name) (slot number : ℕ) → slot < length names → name_at names slot ≡ Unnamed
    → sum_by one_if_ruled (slice_set names slot (Numbered number)) ≡ sum_by one_if_ruled names
unnamed-same names slot number within is =
    let sums = sum_by-set one_if_ruled names slot (Numbered number) Unnamed within in
    let old : one_if_ruled (get_or names slot Unnamed) ≡ 0 = ap one_if_ruled is in
    omega (arith, sums, old)

pub ruled-within : (names : List Name) (slot place : ℕ) → name_at names slot ≡ Ruled place → slot < length names
ruled-within names slot place is = within-of names slot (Ruled place) is (λ never. let e : Ruled place ≡ Unnamed = never in cc)

-- a rule line gives a name its number
pub sound-rule : (log : LogValue) (slot place : ℕ) → IsSoundLog log → name_at log.names slot ≡ Ruled place
    → IsSoundLog (record { names = slice_set log.names slot (Numbered (log.derived + log.instances + 1)); handles = log.handles; derived = log.derived; instances = log.instances + 1 })
sound-rule log slot place is named =
    let within = ruled-within log.names slot place named in
    sound-numbered log slot log.derived (log.instances + 1) (log.derived + log.instances + 1) is within (omega arith) (omega arith)
    (λ other at. let upto = is.upto other (log.derived + log.instances + 1) at in absurd (omega (arith, upto)))
    (let fewer = ruled-fewer log.names slot place (log.derived + log.instances + 1) within named in omega (arith, fewer, is.once))
    is.few_lines

-- the last clause gets a name
pub sound-last : (log : LogValue) (slot : ℕ) → IsSoundLog log → slot < length log.names → name_at log.names slot ≡ Unnamed → IsLastUnnamed log
    → IsSoundLog (with_name log slot (Numbered (clauses_of log)))
sound-last log slot is within unnamed last =
    sound-numbered log slot log.derived log.instances (clauses_of log) is within (omega arith) (omega arith) last
    (let same = unnamed-same log.names slot (clauses_of log) within unnamed in omega (arith, same, is.once)) is.few_lines

-- a clause line is put
pub sound-line : (log : LogValue) → IsSoundLog log → log.derived + 1 < 2 ^ 64 → IsSoundLog (record log { derived = log.derived + 1 })
sound-line log is few = record {
  apart = is.apart;
  upto = λ slot number at. let upto = is.upto slot number at in omega (arith, upto);
  once = is.once;
  few = is.few;
  few_lines = few;
}

pub last-unnamed : (log : LogValue) → IsSoundLog log → IsLastUnnamed (record log { derived = log.derived + 1 })
last-unnamed log is = λ slot at. let upto = is.upto slot (log.derived + 1 + log.instances) at in absurd (omega (arith, upto))

-- a name that is no number takes the place of another
pub sound-other : (log : LogValue) (slot : ℕ) (name : Name) → IsSoundLog log → slot < length log.names → (IsNumberedName name → ⊥)
    → log.instances + sum_by one_if_ruled (slice_set log.names slot name) ≤ length log.names → IsSoundLog (with_name log slot name)
sound-other log slot name is within never once = record {
  apart = λ s o n a b. is.apart s o n (old s n a) (old o n b);
  upto = λ s n a. is.upto s n (old s n a);
  once = rw length-set once;
  few = rw length-set is.few;
  few_lines = is.few_lines;
}
  where
    old : (s n : ℕ) → name_at (slice_set log.names slot name) s ≡ Numbered n → name_at log.names s ≡ Numbered n
    old s n at = by (slot-cases s slot)
      where
        by : (s ≡ slot) ⊎ (s ≢ slot) → name_at log.names s ≡ Numbered n
        by (inl same) = absurd (never (subst IsNumberedName (sym (sym (name-set log.names slot name within) ∙ ap (name_at (slice_set log.names slot name)) (sym same) ∙ at)) tt))
        by (inr differs) = sym (name-other log.names slot s name differs) ∙ at

pub keeps-refl : (log : LogValue) → KeepsNames log log
keeps-refl log = record { each = λ slot. same (name_at log.names slot); handles = refl; slots = refl }
  where
    same : (name : Name) → KeepsName name name
    same Unnamed = refl
    same (Ruled place) = inl refl
    same (Numbered number) = refl

pub keeps-numbered : (old new : Name) → KeepsName old new → IsNumberedName old → IsNumberedName new
keeps-numbered Unnamed new keeps is = absurd is
keeps-numbered (Ruled place) new keeps is = absurd is
keeps-numbered (Numbered number) new keeps is = subst IsNumberedName (sym keeps) tt

pub keeps-known : (formula : FormulaValue) (old new : Name) → KeepsName old new → IsKnownName formula old → IsKnownName formula new
keeps-known formula Unnamed new keeps is = absurd is
keeps-known formula (Ruled place) Unnamed (inl same) is = absurd (cc)
keeps-known formula (Ruled place) Unnamed (inr none) is = absurd none
keeps-known formula (Ruled place) (Ruled other) (inl same) is = subst (IsKnownName formula) (sym same) is
keeps-known formula (Ruled place) (Ruled other) (inr none) is = absurd none
keeps-known formula (Ruled place) (Numbered number) keeps is = tt
keeps-known formula (Numbered number) new keeps is = subst (IsKnownName formula) (sym keeps) tt

keeps-then : (a b c : Name) → KeepsName a b → KeepsName b c → KeepsName a c
keeps-then Unnamed b c first second = by b first second
  where
    by : (b : Name) → b ≡ Unnamed → KeepsName b c → c ≡ Unnamed
    by Unnamed is keeps = keeps
    by (Ruled place) is keeps = absurd (cc)
    by (Numbered number) is keeps = absurd (cc)
keeps-then (Ruled place) Unnamed c (inl same) second = absurd (cc)
keeps-then (Ruled place) Unnamed c (inr none) second = absurd none
keeps-then (Ruled place) (Ruled other) c (inl same) (inl same') = inl (same' ∙ same)
keeps-then (Ruled place) (Ruled other) c (inl same) (inr is) = inr is
keeps-then (Ruled place) (Ruled other) c (inr none) second = absurd none
keeps-then (Ruled place) (Numbered number) c first second = inr (subst IsNumberedName (sym second) tt)
keeps-then (Numbered number) b c first second = by b first second
  where
    by : (b : Name) → b ≡ Numbered number → KeepsName b c → c ≡ Numbered number
    by Unnamed is keeps = absurd (cc)
    by (Ruled place) is keeps = absurd (cc)
    by (Numbered other) is keeps = keeps ∙ is

pub keeps-trans : (a b c : LogValue) → KeepsNames a b → KeepsNames b c → KeepsNames a c
keeps-trans a b c first second = record {
  each = λ slot. keeps-then (name_at a.names slot) (name_at b.names slot) (name_at c.names slot) (first.each slot) (second.each slot);
  handles = second.handles ∙ first.handles;
  slots = second.slots ∙ first.slots;
}

-- the name of a hint stays as the names do
pub keeps-hint : (old new : LogValue) (hint : Hint) → KeepsNames old new → KeepsName (hint_name old hint) (hint_name new hint)
keeps-hint old new hint keeps =
    subst (λ handles. KeepsName (hint_name old hint) (name_at new.names (slot_of handles hint))) (sym keeps.handles) (keeps.each (slot_of old.handles hint))

pub name-none : (count slot : ℕ) → name_at (replicate count Unnamed) slot ≡ Unnamed
name-none zero slot = refl
name-none (suc count) zero = refl
name-none (suc count) (suc slot) = name-none count slot

sum-none : (count : ℕ) → sum_by one_if_ruled (replicate count Unnamed) ≡ 0
sum-none zero = refl
sum-none (suc count) = let rest = sum-none count in let sum = sum_by-cons one_if_ruled Unnamed (replicate count Unnamed) in omega (arith, rest, sum)

pub sound-empty : (count handles : ℕ) → count < 2 ^ 34 → IsSoundLog (record { names = replicate count Unnamed; handles = handles; derived = 0; instances = 0 })
sound-empty count handles few = record {
  apart = λ s o n a b. absurd (let e : Unnamed ≡ Numbered n = sym (name-none count s) ∙ a in cc);
  upto = λ s n a. absurd (let e : Unnamed ≡ Numbered n = sym (name-none count s) ∙ a in cc);
  once = let none = sum-none count in omega (arith, none);
  few = rw length-replicate few;
  few_lines = omega arith;
}

one-at-most : (name : Name) → one_if_ruled name ≤ 1
one-at-most Unnamed = omega arith
one-at-most (Ruled place) = omega arith
one-at-most (Numbered number) = omega arith

ruled-few : (names : List Name) → sum_by one_if_ruled names ≤ length names
ruled-few names = let few = sum_by-le one_if_ruled 1 names (λ k d within. one-at-most (get_or names k d)) in omega (arith, few)

-- a clause of the formula gets a name, before any line
pub sound-ruled : (log : LogValue) (slot place : ℕ) → IsSoundLog log → slot < length log.names → name_at log.names slot ≡ Unnamed → log.instances ≡ 0
    → IsSoundLog (with_name log slot (Ruled place))
sound-ruled log slot place sound within unnamed none =
    sound-other log slot (Ruled place) sound within (λ h. h)
    (let few = ruled-few (slice_set log.names slot (Ruled place)) in
    let same : length (slice_set log.names slot (Ruled place)) ≡ length log.names = length-set log.names slot (Ruled place) in
    omega (arith, few, same, none))
