-- The names of the monitors.
use Rattle.std.proofs.Common.{◌≡◌, ◌≢◌, ◌++◌, ℕ, Bool, true, false, List, [], ◌∷◌, Option, Some, None, All, AllPairs, Contains, arith, length, ◌<◌, fold, get_or, slice_get, refl, sym, ◌∙◌, subst, if◌then◌else◌}
use Rattle.std.specs.List.{filter_map, flat_map, list_any}
use Rattle.std.proofs.lemmas.Bool.{false≢true}
use Rattle.std.proofs.lemmas.List.Elements.{All-nil, All-cons, All-append, All-head, All-tail}
use Rattle.std.proofs.lemmas.List.Folds.{list_any_at}
use Rattle.std.proofs.lemmas.List.Quantifiers.{all_pairs_push}
use Rattle.class_format.specs.declared.record.ClassRecord.{ClassRecord}
use Rattle.class_format.specs.declared.record.Member.{Member}
use Rattle.class_format.specs.declared.record.PoolEntry.{PoolEntry}
use Rattle.class_names.specs.Names.{name_of, same_text}
use Rattle.class_profile.proofs.SameTexts.{same_of}
use Rattle.class_profile.specs.Profile.{IsOfProfile}
use Rattle.class_profile.specs.Texts.{with_text}
use Rattle.class_profile.specs.declared.refusal.ClassKind.TheVariants.{NameForm}
use Rattle.program.proofs.Lists.{contains_here, contains_later}
use Rattle.program.specs.Names.{IsName}
use Rattle.program.specs.Program.{Prog}
use Rattle.program.specs.declared.method.MethodId.{MethodId}
use Rattle.reached_methods.specs.Reached.{IsReachedMethod, is_method}
use Rattle.reached_methods.specs.declared.method.ReachedMethod.{ReachedMethod}
use Rattle.resolution.specs.Resolution.{Names}
use Rattle.resolution.specs.declared.target.Target.{Target}
use Rattle.resolution.specs.declared.target.Target.TheVariants as target
use Rattle.untyped_program.specs.Monitors.{class_named, locks_class, monitors_of, names_by, names_in, own_name}
use Rattle.linking.specs.Linking.{IsProgramOf}
use Rattle.linked_laws.proofs.Instructions.{well_target}
use Rattle.linked_laws.proofs.Resolved.{WellNamed}

-- ---- Each name once

new_text : (texts : List (List ℕ)) (text : List ℕ) → list_any (same_text text) texts ≡ false → (k : ℕ) (d : List ℕ) → k < length texts → get_or texts k d ≢ text
new_text texts text is k d within same = false≢true (sym is ∙ list_any_at (same_text text) texts k d within (same_of text (get_or texts k d) (sym same)))

one_more : (texts : List (List ℕ)) (text : List ℕ) (b : Bool) → list_any (same_text text) texts ≡ b → AllPairs (λ a c. a ≢ c) texts → AllPairs (λ a c. a ≢ c) (if b then texts else texts ++ text ∷ [])
one_more texts text true is apart = apart
one_more texts text false is apart = all_pairs_push (λ a c. a ≢ c) texts text apart (new_text texts text is)

all_apart : (texts names : List (List ℕ)) → AllPairs (λ a c. a ≢ c) texts → AllPairs (λ a c. a ≢ c) (fold with_text texts names)
all_apart texts [] apart = apart
all_apart texts (name ∷ names) apart = all_apart (with_text texts name) names (one_more texts name (list_any (same_text name) texts) refl apart)

-- ---- What holds of each name

held_one : (P : List ℕ → Type 0) (texts : List (List ℕ)) (text : List ℕ) (b : Bool) → All P texts → P text → All P (if b then texts else texts ++ text ∷ [])
held_one P texts text true all one = all
held_one P texts text false all one = All-append P texts (text ∷ []) all (All-cons P text [] one (All-nil P))

held : (P : List ℕ → Type 0) (texts names : List (List ℕ)) → All P texts → All P names → All P (fold with_text texts names)
held P texts [] all more = all
held P texts (name ∷ names) all more =
    held P (with_text texts name) names (held_one P texts name (list_any (same_text name) texts) all (All-head P name names more)) (All-tail P name names more)

locked : (class : ClassRecord) (b : Bool) → IsName (name_of class) → All IsName (if b then name_of class ∷ [] else [])
locked class true is = All-cons IsName (name_of class) [] is (All-nil IsName)
locked class false is = All-nil IsName

own_spelt : (class : ClassRecord) (o : Option Member) → IsName (name_of class) → All IsName (own_name class o)
own_spelt class (Some m) is = locked class (locks_class m) is
own_spelt class None is = All-nil IsName

module _ (classes : List ClassRecord) (b : Bool) (pool : List PoolEntry) where
  named_spelt : (targets : List Target) → ((t : Target) → Contains targets t → WellNamed classes b pool (Names t)) → All IsName (filter_map (class_named pool) targets)
  named_spelt [] each = All-nil IsName
  named_spelt (target.Class index ∷ targets) each =
      All-cons IsName _ (filter_map (class_named pool) targets) (each (target.Class index) (contains_here (target.Class index) targets))
      (named_spelt targets (λ t inside. each t (contains_later (target.Class index) t targets inside)))
  named_spelt (x ∷ targets) each = named_spelt targets (λ t inside. each t (contains_later x t targets inside))

module _ (classes : List ClassRecord) (main : MethodId) (profile : IsOfProfile classes) where
  names_spelt : (r : ReachedMethod) → IsReachedMethod classes main r → All IsName (names_by classes r)
  names_spelt r reached =
      let there = reached.code.there.class_there in
      subst (λ (o : Option ClassRecord). All IsName (names_in o r.id.method r.targets)) (sym there)
      (All-append IsName (own_name reached.class (slice_get reached.class.methods r.id.method)) (filter_map (class_named reached.class.pool) r.targets)
      (own_spelt reached.class (slice_get reached.class.methods r.id.method) (profile NameForm r.id.class reached.class there).class_name)
      (named_spelt classes (is_method r.id main) reached.class.pool r.targets (well_target classes main r reached profile)))

  all_spelt : (methods : List ReachedMethod) → All (IsReachedMethod classes main) methods → All IsName (flat_map (names_by classes) methods)
  all_spelt [] all = All-nil IsName
  all_spelt (r ∷ methods) all =
      All-append IsName (names_by classes r) (flat_map (names_by classes) methods) (names_spelt r (All-head (IsReachedMethod classes main) r methods all))
      (all_spelt methods (All-tail (IsReachedMethod classes main) r methods all))

module _ (classes : List ClassRecord) (p : Prog) (is : IsProgramOf classes p) where
  monitors_are : p.monitors ≡ monitors_of classes is.is_untyped.methods
  monitors_are = is.monitors ∙ is.is_untyped.program.monitors

  pub monitors_are_apart : AllPairs (λ a c. a ≢ c) p.monitors
  monitors_are_apart =
      subst (AllPairs (λ a c. a ≢ c)) (sym monitors_are) (all_apart [] (flat_map (names_by classes) is.is_untyped.methods) (λ i j d before within. absurd (omega (arith, within))))

  pub monitors_are_spelt : All IsName p.monitors
  monitors_are_spelt =
      subst (All IsName) (sym monitors_are) (held IsName [] (flat_map (names_by classes) is.is_untyped.methods) (All-nil IsName)
      (all_spelt classes is.is_untyped.main is.is_untyped.has_main.profile is.is_untyped.methods is.is_untyped.reached.each))
