-- What is known of reached methods.
use Rattle.std.proofs.Common.{◌≡◌, ◌⊎◌, ◌&&◌, Bool, true, false, not, List, [], ◌∷◌, Option, Some, IsSome, All, codes, map, position, slice_get, refl, sym, ap, ◌∙◌, subst, inl, inr, if◌then◌else◌}
use Rattle.std.specs.List.{list_any}
use Rattle.std.specs.Option.{is_some}
use Rattle.std.proofs.lemmas.Bool.{false≢true}
use Rattle.std.proofs.lemmas.List.Elements.{All-nil, All-cons, All-weaker}
use Rattle.std.proofs.lemmas.List.Quantifiers.{position-Some}
use Rattle.std.proofs.lemmas.Option.{get_or_from_slice_get, same_Some}
use Rattle.relations.specs.Path.{Walk}
use Rattle.relations.specs.Path.Walk.{here, on}
use Rattle.class_format.specs.ClassText.{is_code}
use Rattle.class_format.specs.declared.record.ClassRecord.{ClassRecord}
use Rattle.class_format.specs.declared.record.Member.{Member}
use Rattle.class_names.specs.Members.{static_flag, synchronized_flag, member_name, member_descriptor}
use Rattle.class_names.specs.Names.{has_flag, same_text}
use Rattle.class_profile.specs.Profile.{IsOfProfile}
use Rattle.opcodes.specs.declared.listed.Listed.{Listed}
use Rattle.program.specs.declared.method.MethodId.{MethodId}
use Rattle.reached_methods.specs.Reached.{IsMethodAt, IsReached, IsReachedMethod, Leads, AreReachedMethods, is_method}
use Rattle.reached_methods.specs.Reached.Leads.{calls, makes}
use Rattle.reached_methods.specs.declared.method.ReachedMethod.{ReachedMethod}
use Rattle.resolution.specs.Resolution.{Resolved, Names, resolve}
use Rattle.resolution.specs.Targets.{is_run}
use Rattle.resolution.specs.Signatures.{signature_of}
use Rattle.resolution.specs.declared.target.Target.{Target}
use Rattle.resolution.specs.declared.target.Target.TheVariants as target
use Rattle.typing.specs.declared.untyped.Entry.TheVariants as entry
use Rattle.untyped_program.specs.Known.{IsKnown, IsKnownMethod, AreKnown}
use Rattle.untyped_program.specs.Methods.{entry_of, signature_by, signature_at, signature_in, signature_of_member}
use Rattle.untyped_program.proofs.KnownTargets.{resolved_known}
use Rattle.untyped_program.proofs.Places.{is_method_of}

second_of : (a b : Bool) → (a && b) ≡ true → b ≡ true
second_of true b is = is
second_of false b is = absurd (false≢true is)

first_of_two : (a b : Bool) → (a && b) ≡ true → a ≡ true
first_of_two true b is = refl
first_of_two false b is = is

not_not : (b : Bool) → not b ≡ true → b ≡ false
not_not true is = absurd (false≢true is)
not_not false is = refl

-- a walk ends where it begins, or with a last step
last_step : {A : Type 0} (R : A → A → Type 0) (a b : A) → Walk R a b → (a ≡ b) ⊎ ((c : A) × R c b)
last_step R a b here = inl refl
last_step R a b (on {b = m} step rest) = elim (last_step R m b rest) [
  | inl same ↦ inr (a, subst (R a) same step)
  | inr last ↦ inr last
]

-- the run()V of a class isn't static
run_unstatic : (class : ClassRecord) (m : Member) → is_run class.pool m ≡ true → has_flag m.flags static_flag ≡ false
run_unstatic class m is =
    let name = same_text (member_name class.pool m) (codes "run") in
    let descriptor = same_text (member_descriptor class.pool m) (codes "()V") in
    let unstatic = not (has_flag m.flags static_flag) in
    let unsynchronized = not (has_flag m.flags synchronized_flag) in
    not_not (has_flag m.flags static_flag)
    (second_of (name && descriptor) unstatic
    (first_of_two (name && descriptor && unstatic) unsynchronized
    (first_of_two (name && descriptor && unstatic && unsynchronized) (list_any is_code m.attributes) is)))

module _ (classes : List ClassRecord) (main : MethodId) (profile : IsOfProfile classes) where
  known_targets : (f : Listed → Resolved) (items : List Listed) (targets : List Target) → ((item : Listed) (t : Target) → f item ≡ Names t → IsKnown classes t) →
      map f items ≡ map Names targets → All (IsKnown classes) targets
  known_targets f [] [] each same = All-nil (IsKnown classes)
  known_targets f [] (t ∷ targets) each same = cc
  known_targets f (item ∷ items) [] each same = cc
  known_targets f (item ∷ items) (t ∷ targets) each same =
      let first : f item ≡ Names t = cc in
      let rest : map f items ≡ map Names targets = cc in
      All-cons (IsKnown classes) t targets (each item t first) (known_targets f items targets each rest)

  by_signature : (id : MethodId) (class : ClassRecord) (m : Member) → IsMethodAt classes id class m → (b : Bool) → IsSome (signature_at classes id) →
      IsSome (signature_by (entry_of b m) (member_descriptor class.pool m))
  by_signature id class m there true some = refl
  by_signature id class m there false some = go (has_flag m.flags static_flag) refl
    where
      is : IsSome (signature_of (member_descriptor class.pool m))
      is = sym (ap (λ (o : Option ClassRecord). is_some (signature_in o id.method)) there.class_there
          ∙ ap (λ (o : Option Member). is_some (signature_of_member class o)) there.method_there) ∙ some

      go : (b : Bool) → has_flag m.flags static_flag ≡ b → IsSome (signature_by (entry_of false m) (member_descriptor class.pool m))
      go true static = ap (λ (b : Bool). is_some (signature_by (if b then entry.Static else entry.Run) (member_descriptor class.pool m))) static ∙ is
      go false unstatic = ap (λ (b : Bool). is_some (signature_by (if b then entry.Static else entry.Run) (member_descriptor class.pool m))) unstatic

  by_run : (class : ClassRecord) (m : Member) → has_flag m.flags static_flag ≡ false → (b : Bool) → IsSome (signature_by (entry_of b m) (member_descriptor class.pool m))
  by_run class m unstatic true = refl
  by_run class m unstatic false = ap (λ (b : Bool). is_some (signature_by (if b then entry.Static else entry.Run) (member_descriptor class.pool m))) unstatic

  declared : (id : MethodId) (class : ClassRecord) (m : Member) → IsMethodAt classes id class m → IsReached classes main id →
      IsSome (signature_by (entry_of (is_method id main) m) (member_descriptor class.pool m))
  declared id class m there reached = elim (last_step (Leads classes main) main id reached) [
    | inl same ↦ ap (λ (b : Bool). is_some (signature_by (entry_of b m) (member_descriptor class.pool m))) (is_method_of id main (sym same))
    | inr last ↦ by_step last.0 last.1
  ]
    where
      by_step : (a : MethodId) → Leads classes main a id → IsSome (signature_by (entry_of (is_method id main) m) (member_descriptor class.pool m))
      by_step a (calls call) =
          by_signature id class m there (is_method id main)
          (resolved_known classes profile (is_method a main) call.call.class.pool call.call.listing call.pc call.instr (target.Call id) call.call.resolved)
      by_step a (makes is_main make) =
          let same_class : make.runs.class ≡ class = same_Some make.runs.class class (sym make.runs.class_there ∙ ap (slice_get classes) (sym make.runs.same_class) ∙ there.class_there) in
          let first : position (is_run class.pool) class.methods ≡ Some id.method = subst (λ (x : ClassRecord). position (is_run x.pool) x.methods ≡ Some id.method) same_class make.runs.first in
          let at = get_or_from_slice_get class.methods id.method m m there.method_there in
          by_run class m (run_unstatic class m (ap (is_run class.pool) (sym at) ∙ (position-Some (is_run class.pool) class.methods id.method m first).1)) (is_method id main)

  known_method : (m : ReachedMethod) → IsReachedMethod classes main m → IsKnownMethod classes main m
  known_method m reached = record {
    class = reached.class;
    method = reached.code.method;
    there = reached.code.there;
    body = reached.body;
    code = reached.code.code;
    declared = declared m.id reached.class reached.code.method reached.code.there reached.reached;
    targets = known_targets (λ item. resolve classes (is_method m.id main) reached.class.pool m.listing item) m.listing m.targets
        (λ item t same. resolved_known classes profile (is_method m.id main) reached.class.pool m.listing item.pc item.instr t same) reached.targets;
  }

  pub known_methods : (methods : List ReachedMethod) → AreReachedMethods classes main methods → AreKnown classes main methods
  known_methods methods reached = All-weaker (IsReachedMethod classes main) (IsKnownMethod classes main) known_method methods reached.each
