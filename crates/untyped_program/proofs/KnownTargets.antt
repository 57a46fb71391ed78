-- What is known of the targets of reached methods.
use Rattle.std.proofs.Common.{◌≡◌, ◌<◌, ◌+◌, ◌-◌, ◌&&◌, ℕ, Bool, true, false, cond, not, List, Option, Some, None, IsSome, Any, codes, if◌then◌else◌, length, position, slice_get, refl, sym, ap, ◌∙◌, subst, arith, inl, inr}
use Rattle.std.specs.List.{position_or_len, list_any}
use Rattle.std.specs.Option.{is_some, option_map}
use Rattle.std.proofs.lemmas.Bool.{false≢true, lt-ltb, cases_lt}
use Rattle.std.proofs.lemmas.Option.{slice_get_within, get_or_from_slice_get}
use Rattle.std.proofs.lemmas.List.Folds.{Any-from_list_any, list_any-from_Any}
use Rattle.std.proofs.lemmas.List.Quantifiers.{position-Some}
use Rattle.std.proofs.lemmas.List.Sums.{fails_before_first}
use Rattle.class_format.specs.ClassText.{is_code}
use Rattle.class_format.specs.Pool.{entry_at}
use Rattle.class_format.specs.declared.record.ClassRecord.{ClassRecord}
use Rattle.class_format.specs.declared.record.Member.{Member}
use Rattle.class_format.specs.declared.record.PoolEntry.{PoolEntry}
use Rattle.class_format.specs.declared.record.PoolEntry.TheVariants as entry
use Rattle.class_names.specs.Members.{static_flag, final_flag, synchronized_flag, thread_name, parent_name, member_name, member_descriptor, is_int, is_int_field}
use Rattle.class_names.specs.Names.{has_flag, same_text, text_of, Reference, field_at, method_at, is_system_out, is_println}
use Rattle.class_profile.proofs.SameTexts.{same_is, same_of}
use Rattle.class_profile.specs.Members.{HasPlainType}
use Rattle.class_profile.specs.Profile.{IsOfProfile}
use Rattle.class_profile.specs.Threads.{IsRun}
use Rattle.class_profile.specs.declared.refusal.ClassKind.TheVariants.{FieldType, ThreadClass, NameForm}
use Rattle.opcodes.specs.declared.instruction.Instr.{Instr}
use Rattle.opcodes.specs.declared.listed.Listed.{Listed}
use Rattle.opcodes.specs.declared.instruction.Instr.TheVariants.{IconstM1, Iconst0, Iconst1, Iconst2, Iconst3, Iconst4, Iconst5, Bipush, Sipush, Ldc, LdcW, Getstatic, Putstatic, Invokevirtual, Invokespecial, Invokestatic, New}
use Rattle.reached_methods.specs.Reached.{run_in, run_of}
use Rattle.resolution.specs.Resolution.{Resolved, Names, Unknown, Forbidden, Final, resolve_at, class_place, extends_thread, thread_at, thread_place, field_resolved, own_field, field_of_class, field_of, field_named, is_callable, method_resolved, own_method, method_of_class, method_of, static_call, is_called, is_bare, of_thread_class, of_thread, virtual_call, special_call, constructor_named, made_by, object_made, thread_run, class_made, constant_named, is_writable, method_spelling}
use Rattle.resolution.specs.Places.{is_static_named}
use Rattle.resolution.specs.Targets.{is_run, is_target, is_target_class, target_at, target_place, target_made, is_call, instr_at, made_name, special_name, form_at, form_before}
use Rattle.resolution.specs.Signatures.{signature_of}
use Rattle.resolution.specs.declared.signature.Signature.{Signature}
use Rattle.resolution.specs.declared.target.Target.{Target}
use Rattle.resolution.specs.declared.target.Target.TheVariants as target
use Rattle.program.specs.Names.{IsName}
use Rattle.program.specs.declared.method.MethodId.{MethodId}
use Rattle.untyped_program.specs.Known.{IsKnown, IsKnownField}
use Rattle.untyped_program.specs.Methods.{signature_at, signature_in, signature_of_member}

-- ---- Words

and_first : (a b : Bool) → (a && b) ≡ true → a ≡ true
and_first true b is = refl
and_first false b is = is

and_second : (a b : Bool) → (a && b) ≡ true → b ≡ true
and_second true b is = is
and_second false b is = absurd (false≢true is)

both : (a b : Bool) → a ≡ true → b ≡ true → (a && b) ≡ true
both a b first second = ap (λ (x : Bool). x && b) first ∙ second

not_false : (b : Bool) → b ≡ false → not b ≡ true
not_false b is = ap not is

-- a list that has an element that passes has a first one
pub some_position : {X : Type 0} (p : X → Bool) (xs : List X) → list_any p xs ≡ true → IsSome (position p xs)
some_position {X} p xs any = go (Any-from_list_any p xs any)
  where
    found : position_or_len p xs < length xs → IsSome (position p xs)
    found within = ap (λ (b : Bool). is_some (cond b (Some (position_or_len p xs)) None)) (lt-ltb (position_or_len p xs) (length xs) within)

    go : Any (λ x. p x ≡ true) xs → IsSome (position p xs)
    go (k, x, inside, is_x, passes) = elim (cases_lt (position_or_len p xs) (length xs)) [
      | inl lt ↦ found lt
      | inr le ↦ absurd (false≢true (sym (fails_before_first p xs k x (omega arith)) ∙ ap p is_x ∙ passes))
    ]

pub from_some : {X : Type 0} (o : Option X) → IsSome o → (x : X) × (o ≡ Some x)
from_some (Some x) is = (x, refl)
from_some None is = absurd (false≢true is)

run_passes : (pool : List PoolEntry) (m : Member) → IsRun pool m → is_run pool m ≡ true
run_passes pool m run =
    let name = same_of (member_name pool m) (codes "run") run.spelled.name_is in
    let descriptor = same_of (member_descriptor pool m) (codes "()V") run.spelled.descriptor_is in
    let unstatic = not_false (has_flag m.flags static_flag) run.of_objects in
    let unsynchronized = not_false (has_flag m.flags synchronized_flag) run.unsynchronized in
    let code = list_any-from_Any is_code m.attributes run.code in
    both (same_text (member_name pool m) (codes "run") && same_text (member_descriptor pool m) (codes "()V") &&
    not (has_flag m.flags static_flag) && not (has_flag m.flags synchronized_flag)) (list_any is_code m.attributes)
    (both (same_text (member_name pool m) (codes "run") && same_text (member_descriptor pool m) (codes "()V") && not (has_flag m.flags static_flag)) (not (has_flag m.flags synchronized_flag))
    (both (same_text (member_name pool m) (codes "run") && same_text (member_descriptor pool m) (codes "()V")) (not (has_flag m.flags static_flag))
    (both (same_text (member_name pool m) (codes "run")) (same_text (member_descriptor pool m) (codes "()V")) name descriptor) unstatic) unsynchronized) code

has_run : (pool : List PoolEntry) (methods : List Member) → Any (IsRun pool) methods → IsSome (position (is_run pool) methods)
has_run pool methods run = some_position (is_run pool) methods (go run)
  where
    go : Any (IsRun pool) methods → list_any (is_run pool) methods ≡ true
    go (k, m, inside, is_m, runs) = list_any-from_Any (is_run pool) methods (k, m, inside, is_m, run_passes pool m runs)

module _ (classes : List ClassRecord) (profile : IsOfProfile classes) where
  told : (a t : Target) → IsKnown classes a → Names a ≡ Names t → IsKnown classes t
  told a t known same = let e : a ≡ t = cc in subst (IsKnown classes) e known

  choice : (b : Bool) (a t : Target) (other : Resolved) → IsKnown classes a → (other ≡ Names t → IsKnown classes t) → (if b then Names a else other) ≡ Names t → IsKnown classes t
  choice true a t other known rest same = told a t known same
  choice false a t other known rest same = rest same

  -- ---- Constants

  constant_known : (pool : List PoolEntry) (index : ℕ) (e : Option PoolEntry) (t : Target) → constant_named pool index e ≡ Names t → IsKnown classes t
  constant_known pool index (Some (entry.Integer n)) t same = told (target.Constant _) t tt same
  constant_known pool index (Some (entry.Class name)) t same = choice (is_writable (text_of pool name)) (target.Class index) t (Unknown (Some (text_of pool name))) tt (λ e. cc) same
  constant_known pool index e t same = cc

  -- ---- Fields

  spelt : (class_at field_at : ℕ) (class : ClassRecord) (f : Member) → slice_get classes class_at ≡ Some class → slice_get class.fields field_at ≡ Some f →
      has_flag f.flags static_flag ≡ true → has_flag f.flags final_flag ≡ false → IsKnownField classes class_at field_at
  spelt class_at field_at class f class_there field_there static unfinal =
      let within = slice_get_within class.fields field_at f field_there in
      let at = get_or_from_slice_get class.fields field_at f f field_there in
      let names = profile NameForm class_at class class_there in
      let plain : HasPlainType class.pool f = subst (HasPlainType class.pool) at (profile FieldType class_at class class_there field_at f within) in
      let int = (plain static unfinal).int in
      record {
        class = class;
        class_there = class_there;
        field = f;
        field_there = field_there;
        spelt = record {
          class = names.class_name;
          name = subst (λ (m : Member). is_int_field class.pool m ≡ true → IsName (member_name class.pool m)) at (names.field_names field_at f within)
              (both (has_flag f.flags static_flag) (is_int class.pool f) static int);
        };
      }

  unfinal_field : (b : Bool) (class_at field_at : ℕ) (t : Target) → (b ≡ false → IsKnownField classes class_at field_at) → (if b then Final else Names (target.Field class_at field_at)) ≡ Names t → IsKnown classes t
  unfinal_field true class_at field_at t known same = cc
  unfinal_field false class_at field_at t known same = told (target.Field class_at field_at) t (known refl) same

  field_resolved_known : (class_at field_at : ℕ) (class : ClassRecord) (r : Reference) (o : Option Member) (t : Target) → slice_get classes class_at ≡ Some class →
      slice_get class.fields field_at ≡ o → position (is_static_named class.pool r.name r.descriptor) class.fields ≡ Some field_at → field_resolved class_at field_at o r ≡ Names t → IsKnown classes t
  field_resolved_known class_at field_at class r (Some f) t class_there field_there first same =
      let at = get_or_from_slice_get class.fields field_at f f field_there in
      let passes : is_static_named class.pool r.name r.descriptor f ≡ true = ap (is_static_named class.pool r.name r.descriptor) (sym at) ∙ (position-Some (is_static_named class.pool r.name r.descriptor) class.fields field_at f first).1 in
      unfinal_field (has_flag f.flags final_flag) class_at field_at t
      (λ unfinal. spelt class_at field_at class f class_there field_there (and_first (has_flag f.flags static_flag) (same_text r.name (member_name class.pool f))
      (and_first (has_flag f.flags static_flag && same_text r.name (member_name class.pool f)) (same_text r.descriptor (member_descriptor class.pool f)) passes)) unfinal) same
  field_resolved_known class_at field_at class r None t class_there field_there first same = cc

  own_field_known : (class_at : ℕ) (class : ClassRecord) (r : Reference) (o : Option ℕ) (t : Target) → slice_get classes class_at ≡ Some class →
      position (is_static_named class.pool r.name r.descriptor) class.fields ≡ o → own_field class_at class r o ≡ Names t → IsKnown classes t
  own_field_known class_at class r (Some place) t class_there first same = field_resolved_known class_at place class r (slice_get class.fields place) t class_there refl first same
  own_field_known class_at class r None t class_there first same = cc

  class_field_known : (class_at : ℕ) (r : Reference) (o : Option ClassRecord) (t : Target) → slice_get classes class_at ≡ o → field_of_class class_at o r ≡ Names t → IsKnown classes t
  class_field_known class_at r (Some class) t there same = own_field_known class_at class r (position (is_static_named class.pool r.name r.descriptor) class.fields) t there refl same
  class_field_known class_at r None t there same = cc

  field_of_known : (reads : Bool) (r : Reference) (o : Option ℕ) (t : Target) → field_of classes reads r o ≡ Names t → IsKnown classes t
  field_of_known reads r (Some place) t same = class_field_known place r (slice_get classes place) t refl same
  field_of_known reads r None t same = choice (reads && is_system_out r) target.Out t _ tt (λ e. cc) same

  field_known : (reads : Bool) (o : Option Reference) (t : Target) → field_named classes reads o ≡ Names t → IsKnown classes t
  field_known reads (Some r) t same = field_of_known reads r (class_place classes r.class) t same
  field_known reads None t same = cc

  -- ---- Calls of static methods

  callable : (m : Member) (o : Option Signature) → is_callable m o ≡ true → IsSome o
  callable m (Some s) is = refl
  callable m None is = is

  signed : (class_at method_at : ℕ) (class : ClassRecord) (m : Member) → slice_get classes class_at ≡ Some class → slice_get class.methods method_at ≡ Some m →
      IsSome (signature_of (member_descriptor class.pool m)) → IsSome (signature_at classes (record { class = class_at; method = method_at }))
  signed class_at method_at class m class_there method_there is =
      ap (λ (o : Option ClassRecord). is_some (signature_in o method_at)) class_there ∙ ap (λ (o : Option Member). is_some (signature_of_member class o)) method_there ∙ is

  call : (b : Bool) (id : MethodId) (t : Target) (name : List ℕ) → (b ≡ true → IsSome (signature_at classes id)) → (if b then Names (target.Call id) else Forbidden name) ≡ Names t → IsKnown classes t
  call true id t name known same = told (target.Call id) t (known refl) same
  call false id t name known same = cc

  method_resolved_known : (class_at method_at : ℕ) (class : ClassRecord) (r : Reference) (o : Option Member) (t : Target) → slice_get classes class_at ≡ Some class →
      slice_get class.methods method_at ≡ o → position (is_static_named class.pool r.name r.descriptor) class.methods ≡ Some method_at → method_resolved class.pool class_at method_at o r ≡ Names t → IsKnown classes t
  method_resolved_known class_at method_at class r (Some m) t class_there method_there first same =
      let at = get_or_from_slice_get class.methods method_at m m method_there in
      let passes : is_static_named class.pool r.name r.descriptor m ≡ true = ap (is_static_named class.pool r.name r.descriptor) (sym at) ∙ (position-Some (is_static_named class.pool r.name r.descriptor) class.methods method_at m first).1 in
      let alike : r.descriptor ≡ member_descriptor class.pool m =
      same_is r.descriptor (member_descriptor class.pool m) (and_second (has_flag m.flags static_flag && same_text r.name (member_name class.pool m)) (same_text r.descriptor (member_descriptor class.pool m)) passes) in
      call (is_callable m (signature_of r.descriptor)) (record { class = class_at; method = method_at }) t (method_spelling r)
      (λ may. signed class_at method_at class m class_there method_there (ap (λ (d : List ℕ). is_some (signature_of d)) (sym alike) ∙ callable m (signature_of r.descriptor) may)) same
  method_resolved_known class_at method_at class r None t class_there method_there first same = cc

  own_method_known : (class_at : ℕ) (class : ClassRecord) (r : Reference) (o : Option ℕ) (t : Target) → slice_get classes class_at ≡ Some class →
      position (is_static_named class.pool r.name r.descriptor) class.methods ≡ o → own_method class_at class r o ≡ Names t → IsKnown classes t
  own_method_known class_at class r (Some place) t class_there first same = method_resolved_known class_at place class r (slice_get class.methods place) t class_there refl first same
  own_method_known class_at class r None t class_there first same = cc

  class_method_known : (class_at : ℕ) (r : Reference) (o : Option ClassRecord) (t : Target) → slice_get classes class_at ≡ o → method_of_class class_at o r ≡ Names t → IsKnown classes t
  class_method_known class_at r (Some class) t there same = own_method_known class_at class r (position (is_static_named class.pool r.name r.descriptor) class.methods) t there refl same
  class_method_known class_at r None t there same = cc

  method_of_known : (r : Reference) (o : Option ℕ) (t : Target) → method_of classes r o ≡ Names t → IsKnown classes t
  method_of_known r (Some place) t same = class_method_known place r (slice_get classes place) t refl same
  method_of_known r None t same = cc

  static_known : (o : Option Reference) (t : Target) → static_call classes o ≡ Names t → IsKnown classes t
  static_known (Some r) t same = method_of_known r (class_place classes r.class) t same
  static_known None t same = cc

  -- ---- Calls on objects

  virtual_known : (main : Bool) (o : Option Reference) (t : Target) → virtual_call classes main o ≡ Names t → IsKnown classes t
  virtual_known main (Some r) t same =
      choice (is_println r) target.Print t _ tt
      (choice (main && is_bare (codes "start") r && of_thread classes r) target.Start t _ tt
      (choice (main && is_bare (codes "join") r && of_thread classes r) target.Join t _ tt
      (choice (main && is_called (codes "isAlive") (codes "()Z") r && of_thread classes r) target.Alive t _ tt (λ e. cc)))) same
  virtual_known main None t same = cc

  constructor_known : (main : Bool) (pool : List PoolEntry) (listing : List Listed) (pc : ℕ) (r : Reference) (t : Target) → constructor_named classes main pool listing pc r ≡ Names t → IsKnown classes t
  constructor_known true pool listing pc r t same =
      choice (is_bare (codes "<init>") r && of_thread_class classes r) target.Construct t _ tt
      (choice (is_some (form_before classes pool listing 8 pc)) target.ConstructTarget t _ tt
      (choice (is_some (form_before classes pool listing 11 pc)) target.Wrap t _ tt (λ e. cc))) same
  constructor_known false pool listing pc r t same = cc

  special_known : (main : Bool) (pool : List PoolEntry) (listing : List Listed) (pc : ℕ) (o : Option Reference) (t : Target) → special_call classes main pool listing pc o ≡ Names t → IsKnown classes t
  special_known main pool listing pc (Some r) t same = constructor_known main pool listing pc r t same
  special_known main pool listing pc None t same = cc

  -- ---- Threads

  run_found : (place : ℕ) (class : ClassRecord) → slice_get classes place ≡ Some class → IsSome (position (is_run class.pool) class.methods) → IsSome (run_of classes place)
  run_found place class there some =
      let found = from_some (position (is_run class.pool) class.methods) some in
      ap (λ (o : Option ClassRecord). is_some {T = MethodId} (run_in place o)) there
      ∙ ap (λ (o : Option ℕ). is_some {T = MethodId} (option_map (λ method_at. record { class = place; method = method_at }) o)) found.1

  thread_runs : (place : ℕ) (o : Option ClassRecord) → slice_get classes place ≡ o → extends_thread o ≡ true → IsSome (run_of classes place)
  thread_runs place (Some class) there extends =
      let thread = sym (same_is thread_name (parent_name class) extends) in
      run_found place class there (has_run class.pool class.methods ((profile ThreadClass place class there).thread thread).run)
  thread_runs place None there extends = absurd (false≢true extends)

  target_runs : (place : ℕ) (o : Option ClassRecord) → slice_get classes place ≡ o → is_target_class o ≡ true → IsSome (run_of classes place)
  target_runs place (Some class) there is = run_found place class there (some_position (is_run class.pool) class.methods (and_second _ (list_any (is_run class.pool) class.methods) is))
  target_runs place None there is = absurd (false≢true is)

  -- what is kept passes
  kept : (p : Option ClassRecord → Bool) (k place : ℕ) (b : Bool) → p (slice_get classes k) ≡ b → (if b then Some k else None) ≡ Some place → p (slice_get classes place) ≡ true
  kept p k place true passes e = let same : k ≡ place = cc in ap (λ (n : ℕ). p (slice_get classes n)) (sym same) ∙ passes
  kept p k place false passes e = cc

  thread_there : (o : Option ℕ) (place : ℕ) → thread_at classes o ≡ Some place → extends_thread (slice_get classes place) ≡ true
  thread_there (Some k) place is = kept extends_thread k place (extends_thread (slice_get classes k)) refl is
  thread_there None place is = cc

  target_there : (o : Option ℕ) (place : ℕ) → target_at classes o ≡ Some place → is_target_class (slice_get classes place) ≡ true
  target_there (Some k) place is = kept is_target_class k place (is_target_class (slice_get classes k)) refl is
  target_there None place is = cc

  if_some : (b : Bool) (o : Option ℕ) (place : ℕ) → (if b then o else None) ≡ Some place → o ≡ Some place
  if_some true o place is = is
  if_some false o place is = cc

  made_there : (name : Option (List ℕ)) (r : Option Reference) (place : ℕ) → target_made classes name r ≡ Some place → is_target_class (slice_get classes place) ≡ true
  made_there (Some name) r place is = target_there _ place (if_some (is_call name (codes "<init>") (codes "()V") r) (target_place classes name) place is)
  made_there None r place is = cc

  form_there : (pool : List PoolEntry) (listing : List Listed) (pc place : ℕ) → form_at classes pool listing pc ≡ Some place → is_target_class (slice_get classes place) ≡ true
  form_there pool listing pc place is =
      let name = made_name pool (instr_at listing (pc + 4)) in
      let call = special_name pool (instr_at listing (pc + 8)) in
      made_there name call place (if_some _ (target_made classes name call) place is)

  run_there : (b : Bool) (pool : List PoolEntry) (listing : List Listed) (pc : ℕ) (name : List ℕ) (place : ℕ) →
      (if b then form_at classes pool listing pc else thread_place classes name) ≡ Some place → IsSome (run_of classes place)
  run_there true pool listing pc name place is = target_runs place (slice_get classes place) refl (form_there pool listing pc place is)
  run_there false pool listing pc name place is = thread_runs place (slice_get classes place) refl (thread_there (class_place classes name) place is)

  made_known : (name : List ℕ) (o : Option ℕ) (in_form : Bool) (t : Target) → ((place : ℕ) → o ≡ Some place → IsSome (run_of classes place)) → made_by name o in_form ≡ Names t → IsKnown classes t
  made_known name (Some place) in_form t runs same = told (target.New place) t (runs place refl) same
  made_known name None true t runs same = told target.NewTarget t tt same
  made_known name None false t runs same = cc

  object_known : (main : Bool) (pool : List PoolEntry) (listing : List Listed) (pc : ℕ) (name : List ℕ) (t : Target) → object_made classes main pool listing pc name ≡ Names t → IsKnown classes t
  object_known true pool listing pc name t same =
      made_known name (thread_run classes pool listing pc name) (is_some (form_before classes pool listing 4 pc)) t (run_there (same_text name thread_name) pool listing pc name) same
  object_known false pool listing pc name t same = cc

  new_known : (main : Bool) (pool : List PoolEntry) (listing : List Listed) (pc : ℕ) (e : Option PoolEntry) (t : Target) → class_made classes main pool listing pc e ≡ Names t → IsKnown classes t
  new_known main pool listing pc (Some (entry.Class name)) t same = object_known main pool listing pc (text_of pool name) t same
  new_known main pool listing pc e t same = cc

  -- ---- All instructions

  pub resolved_known : (main : Bool) (pool : List PoolEntry) (listing : List Listed) (pc : ℕ) (instr : Instr) (t : Target) → resolve_at classes main pool listing pc instr ≡ Names t → IsKnown classes t
  resolved_known main pool listing pc IconstM1 t same = told (target.Constant _) t tt same
  resolved_known main pool listing pc Iconst0 t same = told (target.Constant _) t tt same
  resolved_known main pool listing pc Iconst1 t same = told (target.Constant _) t tt same
  resolved_known main pool listing pc Iconst2 t same = told (target.Constant _) t tt same
  resolved_known main pool listing pc Iconst3 t same = told (target.Constant _) t tt same
  resolved_known main pool listing pc Iconst4 t same = told (target.Constant _) t tt same
  resolved_known main pool listing pc Iconst5 t same = told (target.Constant _) t tt same
  resolved_known main pool listing pc (Bipush value) t same = told (target.Constant value) t tt same
  resolved_known main pool listing pc (Sipush value) t same = told (target.Constant value) t tt same
  resolved_known main pool listing pc (Ldc index) t same = constant_known pool index (entry_at pool index) t same
  resolved_known main pool listing pc (LdcW index) t same = constant_known pool index (entry_at pool index) t same
  resolved_known main pool listing pc (Getstatic index) t same = field_known true (field_at pool index) t same
  resolved_known main pool listing pc (Putstatic index) t same = field_known false (field_at pool index) t same
  resolved_known main pool listing pc (Invokevirtual index) t same = virtual_known main (method_at pool index) t same
  resolved_known main pool listing pc (Invokespecial index) t same = special_known main pool listing pc (method_at pool index) t same
  resolved_known main pool listing pc (Invokestatic index) t same = static_known (method_at pool index) t same
  resolved_known main pool listing pc (New index) t same = new_known main pool listing pc (entry_at pool index) t same
  resolved_known main pool listing pc instr t same = told target.Nothing t tt same
