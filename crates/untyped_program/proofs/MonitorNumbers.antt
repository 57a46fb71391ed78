-- The names of monitors have numbers.
use Rattle.std.proofs.Common.{◌≡◌, ◌++◌, ◌||◌, ℕ, Bool, true, false, List, [], ◌∷◌, IsSome, All, fold, length, get_or, position, refl, sym, ap, ◌∙◌, subst, if◌then◌else◌}
use Rattle.std.specs.List.{list_any, flat_map}
use Rattle.std.proofs.lemmas.List.Elements.{All-nil, All-cons, All-contains, All-weaker}
use Rattle.std.proofs.lemmas.List.Folds.{list_any-append}
use Rattle.std.proofs.lemmas.List.Sums.{fold-append}
use Rattle.std.proofs.lemmas.List.Quantifiers.{position-Some}
use Rattle.std.proofs.lemmas.Option.{slice_get_read}
use Rattle.class_format.specs.declared.record.ClassRecord.{ClassRecord}
use Rattle.class_names.specs.Names.{same_text}
use Rattle.class_profile.proofs.SameTexts.{same_is, same_itself}
use Rattle.class_profile.specs.Texts.{with_text}
use Rattle.reached_methods.specs.declared.method.ReachedMethod.{ReachedMethod}
use Rattle.untyped_program.specs.Known.{AreNumbered}
use Rattle.untyped_program.specs.Laws.{HasNumber, MonitorNumbersArePlaces}
use Rattle.untyped_program.specs.Monitors.{names_by, monitors_of, monitor_number}
use Rattle.untyped_program.proofs.KnownTargets.{from_some, some_position}

or_true : (b : Bool) → (b || true) ≡ true
or_true true = refl
or_true false = refl

or_first : (a b : Bool) → a ≡ true → (a || b) ≡ true
or_first a b is = ap (λ (x : Bool). x || b) is

abbrev has : List (List ℕ) → List ℕ → Bool
has texts name = list_any (same_text name) texts

kept_one : (texts : List (List ℕ)) (text name : List ℕ) (b : Bool) → has texts name ≡ true → has (if b then texts else texts ++ text ∷ []) name ≡ true
kept_one texts text name true is = is
kept_one texts text name false is = list_any-append (same_text name) texts (text ∷ []) ∙ or_first (has texts name) (has (text ∷ []) name) is

kept : (texts names : List (List ℕ)) (name : List ℕ) → has texts name ≡ true → has (fold with_text texts names) name ≡ true
kept texts [] name is = is
kept texts (n ∷ names) name is = kept (with_text texts n) names name (kept_one texts n name (has texts n) is)

added_one : (texts : List (List ℕ)) (name : List ℕ) (b : Bool) → has texts name ≡ b → has (if b then texts else texts ++ name ∷ []) name ≡ true
added_one texts name true is = is
added_one texts name false is =
    list_any-append (same_text name) texts (name ∷ []) ∙ ap (λ (x : Bool). has texts name || (x || false)) (same_itself name) ∙ or_true (has texts name)

added : (texts : List (List ℕ)) (name : List ℕ) → has (with_text texts name) name ≡ true
added texts name = added_one texts name (has texts name) refl

pub all_added : (texts names : List (List ℕ)) → All (λ name. has (fold with_text texts names) name ≡ true) names
all_added texts [] = All-nil (λ name. has (fold with_text texts []) name ≡ true)
all_added texts (n ∷ names) =
    All-cons (λ name. has (fold with_text (with_text texts n) names) name ≡ true) n names (kept (with_text texts n) names n (added texts n)) (all_added (with_text texts n) names)

module _ (classes : List ClassRecord) where
  grouped : (texts : List (List ℕ)) (methods : List ReachedMethod) →
      All (λ m. All (λ name. has (fold with_text texts (flat_map (names_by classes) methods)) name ≡ true) (names_by classes m)) methods
  grouped texts [] = All-nil (λ m. All (λ name. has texts name ≡ true) (names_by classes m))
  grouped texts (m ∷ methods) =
      let own = names_by classes m in
      let rest = flat_map (names_by classes) methods in
      let split = fold-append with_text texts own rest in
      let goes : List (List ℕ) → Type 0 = λ all. All (λ x. All (λ name. has all name ≡ true) (names_by classes x)) (m ∷ methods) in
      subst goes (sym split)
      (All-cons (λ x. All (λ name. has (fold with_text (fold with_text texts own) rest) name ≡ true) (names_by classes x)) m methods
      (All-weaker (λ name. has (fold with_text texts own) name ≡ true) (λ name. has (fold with_text (fold with_text texts own) rest) name ≡ true)
      (λ name is. kept (fold with_text texts own) rest name is) own (all_added texts own))
      (grouped (fold with_text texts own) methods))

  pub are_numbered : (methods : List ReachedMethod) → All (λ m. AreNumbered (monitors_of classes methods) (names_by classes m)) methods
  are_numbered methods =
      All-weaker (λ m. All (λ name. has (monitors_of classes methods) name ≡ true) (names_by classes m)) (λ m. AreNumbered (monitors_of classes methods) (names_by classes m))
      (λ m all. All-weaker (λ name. has (monitors_of classes methods) name ≡ true) (λ name. IsSome (monitor_number (monitors_of classes methods) name))
      (λ name is. some_position (same_text name) (monitors_of classes methods) is) (names_by classes m) all) methods (grouped [] methods)

-- ---- The monitor at a name's number

of_any : (texts : List (List ℕ)) (name : List ℕ) → has texts name ≡ true → HasNumber texts name
of_any texts name is =
    let found = from_some (position (same_text name) texts) (some_position (same_text name) texts is) in
    let first = position-Some (same_text name) texts found.0 name found.1 in
    let same : name ≡ get_or texts found.0 name = same_is name (get_or texts found.0 name) first.1 in
    record { number = found.0; number_is = found.1; there = slice_get_read texts (length texts) found.0 name refl first.0 same }

pub monitor_places : MonitorNumbersArePlaces
monitor_places classes methods name named =
    of_any (monitors_of classes methods) name
    (All-contains (λ n. has (monitors_of classes methods) n ≡ true) (flat_map (names_by classes) methods) name (all_added [] (flat_map (names_by classes) methods)) named)
