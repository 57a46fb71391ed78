-- A table with one more place.
use Rattle.std.proofs.Common.{◌≡◌, ◌&&◌, ℕ, Bool, true, false, cond, List, Option, Some, None, sym, ◌∙◌, ap₂, refl, if◌then◌else◌, Bor}
use Rattle.std.specs.Option.{is_some, option_copied, option_or}
use Rattle.class_names.specs.Names.{same_text}
use Rattle.resolution.proofs.SameTexts.{same_is, exchanged, both_true}

or_none : (o : Option ℕ) → option_or o None ≡ o
or_none None = refl
or_none (Some n) = refl

by_test : (test : Bool) (old new : Option ℕ) (place : ℕ) → (test ≡ true → old ≡ None) → new ≡ cond test (Some place) old →
    new ≡ option_or old (if test then Some place else None)
by_test true old new place none is = is ∙ rw (none refl) refl
by_test false old new place none is = is ∙ sym (or_none old)

-- a place for a name and a descriptor that had none
pub added : (before : List ℕ → List ℕ → Option ℕ) (name descriptor n d : List ℕ) (place : ℕ) (new : Option ℕ) → before name descriptor ≡ None →
    new ≡ cond (same_text name n && same_text descriptor d) (Some place) (before n d) →
    new ≡ option_or (before n d) (if same_text n name && same_text d descriptor then Some place else None)
added before name descriptor n d place new none is =
    by_test (same_text n name && same_text d descriptor) (before n d) new place
    (λ e. ap₂ before (same_is n name (both_true _ _ e).0) (same_is d descriptor (both_true _ _ e).1) ∙ none)
    (is ∙ ap₂ (λ x y. cond (x && y) (Some place) (before n d)) (exchanged name n) (exchanged descriptor d))

pub none_of : {T : Type 0} (o : Option (Bor T)) (b : Bool) → b ≡ is_some o → b ≡ false → option_copied o ≡ None
none_of None b e f = refl
none_of (Some x) b e f = cc
