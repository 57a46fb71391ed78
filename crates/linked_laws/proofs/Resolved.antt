-- What holds of each thing that an instruction names.
use Rattle.std.proofs.Common.{◌∙◌, arith, ◌^◌, ◌+◌, ◌-◌, suc, ltb, leb, length, get_or, codes, position, slice_get, slice_index, ◌≡◌, ◌<◌, ◌≤◌, ◌&&◌, ℕ, pos, negsuc, Bool, true, false, cond, List, Option, Some, None, refl, sym, ap, subst, if◌then◌else◌}
use Rattle.std.specs.Int.{w8, w16, w32, cast_signed}
use Rattle.std.specs.List.{list_all}
use Rattle.std.specs.Option.{is_some}
use Rattle.std.proofs.lemmas.Bool.{false≢true, leb-true, ltb-true, ltb-false}
use Rattle.std.proofs.lemmas.Bool.Decides.{nat_tests}
use Rattle.std.proofs.lemmas.Int.{ints}
use Rattle.std.proofs.lemmas.List.Sums.{AllPass-from_list_all}
use Rattle.class_format.specs.Pool.{entry_at}
use Rattle.class_format.specs.declared.record.ClassRecord.{ClassRecord}
use Rattle.class_format.specs.declared.record.Member.{Member}
use Rattle.class_format.specs.declared.record.PoolEntry.{PoolEntry}
use Rattle.class_format.specs.declared.record.PoolEntry.TheVariants as entry
use Rattle.class_names.specs.Members.{final_flag, static_flag, is_int, is_int_field, member_name, member_descriptor}
use Rattle.class_profile.specs.Members.{HasPlainType}
use Rattle.class_profile.specs.Profile.{IsOfProfile}
use Rattle.class_profile.specs.declared.refusal.ClassKind.TheVariants.{FieldType}
use Rattle.reached_methods.proofs.Lists.{all_at}
use Rattle.std.proofs.lemmas.List.Quantifiers.{position-Some}
use Rattle.std.proofs.lemmas.Option.{get_or_from_slice_get}
use Rattle.class_names.specs.Names.{has_flag, same_text, Reference, class_name_in, class_name_of, field_at, is_println, is_system_out, method_at, text_of}
use Rattle.opcodes.specs.Instructions.{Decodes, two_bytes}
use Rattle.opcodes.specs.declared.instruction.Instr.{Instr}
use Rattle.opcodes.specs.declared.instruction.Instr.TheVariants as instr
use Rattle.opcodes.specs.declared.listed.Listed.{Listed}
use Rattle.program.specs.Ints.{IsInt}
use Rattle.program.specs.Names.{IsName, IsNameByte}
use Rattle.program.specs.declared.method.MethodId.{MethodId}
use Rattle.resolution.specs.Resolution.{Resolved, Names, Unknown, Forbidden, Final, constant_named, is_writable, is_name_byte, resolve_at, field_named, field_of, field_of_class, own_field, field_resolved, field_spelling, static_call, method_of, method_of_class, own_method, method_resolved, method_spelling, is_callable, class_place, virtual_call, is_bare, is_called, of_thread, of_thread_class, special_call, made_by, main_made, class_made, thread_run}
use Rattle.resolution.specs.Places.{is_static_named}
use Rattle.resolution.specs.Signatures.{signature_of}
use Rattle.resolution.specs.Targets.{form_before}
use Rattle.resolution.specs.declared.target.Target.TheVariants as target

-- ---- Ints

chosen : (bound high n : ℕ) (b : Bool) → (b ≡ true → n < bound) → bound ≤ 2 ^ 31 → (b ≡ false → high < suc n + 2 ^ 31) → IsInt (cond b (pos n) (negsuc (high - suc n)))
chosen bound high n true small narrow past = let below = small refl in (omega (arith, ints), omega (arith, ints, below))
chosen bound high n false small narrow past = let above = past refl in (omega (arith, ints, above), omega (arith, ints))

four_bytes : (n : ℕ) → IsInt (cast_signed w32 n)
four_bytes n = chosen (2 ^ 31) (2 ^ 32) n (ltb n (2 ^ 31)) (ltb-true n (2 ^ 31)) (omega arith) (λ e. let past = ltb-false n (2 ^ 31) e in omega (arith, past))

one_byte : (n : ℕ) → IsInt (cast_signed w8 n)
one_byte n = chosen (2 ^ 7) (2 ^ 8) n (ltb n (2 ^ 7)) (ltb-true n (2 ^ 7)) (omega arith) (λ e. omega arith)

both_bytes : (n : ℕ) → IsInt (cast_signed w16 n)
both_bytes n = chosen (2 ^ 15) (2 ^ 16) n (ltb n (2 ^ 15)) (ltb-true n (2 ^ 15)) (omega arith) (λ e. omega arith)

-- ---- Names

pub and_first : (a b : Bool) → (a && b) ≡ true → a ≡ true
and_first true b is = refl
and_first false b is = is

pub and_second : (a b : Bool) → (a && b) ≡ true → b ≡ true
and_second true b is = is
and_second false b is = absurd (false≢true is)

name_byte : (b : ℕ) → is_name_byte b ≡ true → IsNameByte b
name_byte b is = record { printable = grind (arith, nat_tests); ascii = grind (arith, nat_tests); no_dot = grind (arith, nat_tests); no_semicolon = grind (arith, nat_tests); no_bracket = grind (arith, nat_tests) }

pub writable : (name : List ℕ) → is_writable name ≡ true → IsName name
writable name is =
    let sizes = and_first (ltb 0 (length name) && leb (length name) 200) (list_all is_name_byte name) is in
    let bytes = and_second (ltb 0 (length name) && leb (length name) 200) (list_all is_name_byte name) is in
    record {
      some = ltb-true 0 (length name) (and_first (ltb 0 (length name)) (leb (length name) 200) sizes);
      short = leb-true (length name) 200 (and_second (ltb 0 (length name)) (leb (length name) 200) sizes);
      bytes = λ k d within. name_byte (get_or name k d) (AllPass-from_list_all is_name_byte name bytes k d within);
    }

-- ---- What is named

-- a static field of a listed class that holds an int
pub record IsIntFieldAt (classes : List ClassRecord) (class_at field_at : ℕ) : Type 0 where
  pub class : ClassRecord
  pub class_there : slice_get classes class_at ≡ Some class
  pub field : Member
  pub field_there : slice_get class.fields field_at ≡ Some field
  pub int : is_int_field class.pool field ≡ true

-- a static method of a listed class
pub record IsStaticAt (classes : List ClassRecord) (id : MethodId) : Type 0 where
  pub class : ClassRecord
  pub class_there : slice_get classes id.class ≡ Some class
  pub method : Member
  pub method_there : slice_get class.methods id.method ≡ Some method
  pub static : has_flag method.flags static_flag ≡ true

-- a constant is an int, a field holds one, a class object has a name that can be written, a method that is called is static,
-- and main alone makes objects
abbrev pub WellNamed : List ClassRecord → Bool → List PoolEntry → Resolved → Type 0
WellNamed classes main pool (Names (target.Constant n)) = IsInt n
WellNamed classes main pool (Names (target.Field class_at field_at)) = IsIntFieldAt classes class_at field_at
WellNamed classes main pool (Names (target.Class index)) = IsName (class_name_of pool index)
WellNamed classes main pool (Names (target.Call id)) = IsStaticAt classes id
WellNamed classes main pool (Names (target.New class_at)) = main ≡ true
WellNamed classes main pool (Names target.NewTarget) = main ≡ true
WellNamed classes main pool r = Unit {0}

module _ (classes : List ClassRecord) (profile : IsOfProfile classes) (main : Bool) (pool : List PoolEntry) where
  either : (b : Bool) (x y : Resolved) → WellNamed classes main pool x → WellNamed classes main pool y → WellNamed classes main pool (if b then x else y)
  either true x y first second = first
  either false x y first second = second

  of_class : (index : ℕ) (name : List ℕ) (b : Bool) → is_writable name ≡ b → class_name_of pool index ≡ name → WellNamed classes main pool (if b then Names (target.Class index) else Unknown (Some name))
  of_class index name true is named = subst IsName (sym named) (writable name is)
  of_class index name false is named = tt

  of_constant : (index : ℕ) (o : Option PoolEntry) → entry_at pool index ≡ o → WellNamed classes main pool (constant_named pool index o)
  of_constant index (Some (entry.Integer n)) is = four_bytes n
  of_constant index (Some (entry.Class name)) is = of_class index (text_of pool name) (is_writable (text_of pool name)) refl (ap (class_name_in pool) is)
  of_constant index o is = tt

  int_field : (class_at field_at : ℕ) (class : ClassRecord) (f : Member) → slice_get classes class_at ≡ Some class → slice_get class.fields field_at ≡ Some f →
      has_flag f.flags static_flag ≡ true → has_flag f.flags final_flag ≡ false → IsIntFieldAt classes class_at field_at
  int_field class_at field_at class f class_there field_there static unfinal =
      let plain = all_at (HasPlainType class.pool) class.fields field_at f (profile FieldType class_at class class_there) field_there in
      record { class = class; class_there = class_there; field = f; field_there = field_there; int = ap (λ (b : Bool). b && is_int class.pool f) static ∙ (plain static unfinal).int }

  of_field : (reads : Bool) (o : Option Reference) → WellNamed classes main pool (field_named classes reads o)
  of_field reads None = tt
  of_field reads (Some r) = placed (class_place classes r.class)
    where
      unfinal : (class_at field_at : ℕ) (b : Bool) → (b ≡ false → IsIntFieldAt classes class_at field_at) → WellNamed classes main pool (if b then Final else Names (target.Field class_at field_at))
      unfinal class_at field_at true int = tt
      unfinal class_at field_at false int = int refl

      found : (class_at field_at : ℕ) (class : ClassRecord) (o : Option Member) → slice_get classes class_at ≡ Some class → slice_get class.fields field_at ≡ o →
          position (is_static_named class.pool r.name r.descriptor) class.fields ≡ Some field_at → WellNamed classes main pool (field_resolved class_at field_at o r)
      found class_at field_at class None class_there field_there first = tt
      found class_at field_at class (Some f) class_there field_there first =
          let at = get_or_from_slice_get class.fields field_at f f field_there in
          let test = is_static_named class.pool r.name r.descriptor in
          let passes = ap test (sym at) ∙ (position-Some test class.fields field_at f first).1 in
          let static = and_first (has_flag f.flags static_flag) (same_text r.name (member_name class.pool f))
          (and_first (has_flag f.flags static_flag && same_text r.name (member_name class.pool f)) (same_text r.descriptor (member_descriptor class.pool f)) passes) in
          unfinal class_at field_at (has_flag f.flags final_flag) (int_field class_at field_at class f class_there field_there static)

      own : (class_at : ℕ) (class : ClassRecord) (o : Option ℕ) → slice_get classes class_at ≡ Some class →
          position (is_static_named class.pool r.name r.descriptor) class.fields ≡ o → WellNamed classes main pool (own_field class_at class r o)
      own class_at class None class_there first = tt
      own class_at class (Some place) class_there first = found class_at place class (slice_get class.fields place) class_there refl first

      of_one : (place : ℕ) (o : Option ClassRecord) → slice_get classes place ≡ o → WellNamed classes main pool (field_of_class place o r)
      of_one place None there = tt
      of_one place (Some class) there = own place class (position (is_static_named class.pool r.name r.descriptor) class.fields) there refl

      placed : (o : Option ℕ) → WellNamed classes main pool (field_of classes reads r o)
      placed None = either (reads && is_system_out r) (Names target.Out) (Unknown (Some (field_spelling r))) tt tt
      placed (Some place) = of_one place (slice_get classes place) refl

  of_static : (o : Option Reference) → WellNamed classes main pool (static_call classes o)
  of_static None = tt
  of_static (Some r) = placed (class_place classes r.class)
    where
      found : (class_at method_at : ℕ) (class : ClassRecord) (o : Option Member) → slice_get classes class_at ≡ Some class → slice_get class.methods method_at ≡ o →
          position (is_static_named class.pool r.name r.descriptor) class.methods ≡ Some method_at → WellNamed classes main pool (method_resolved class.pool class_at method_at o r)
      found class_at method_at class None class_there method_there first = tt
      found class_at method_at class (Some m) class_there method_there first =
          let at = get_or_from_slice_get class.methods method_at m m method_there in
          let test = is_static_named class.pool r.name r.descriptor in
          let passes = ap test (sym at) ∙ (position-Some test class.methods method_at m first).1 in
          let static = and_first (has_flag m.flags static_flag) (same_text r.name (member_name class.pool m))
          (and_first (has_flag m.flags static_flag && same_text r.name (member_name class.pool m)) (same_text r.descriptor (member_descriptor class.pool m)) passes) in
          either (is_callable m (signature_of r.descriptor)) (Names (target.Call (record { class = class_at; method = method_at }))) (Forbidden (method_spelling r))
          (record { class = class; class_there = class_there; method = m; method_there = method_there; static = static }) tt

      own : (class_at : ℕ) (class : ClassRecord) (o : Option ℕ) → slice_get classes class_at ≡ Some class →
          position (is_static_named class.pool r.name r.descriptor) class.methods ≡ o → WellNamed classes main pool (own_method class_at class r o)
      own class_at class None class_there first = tt
      own class_at class (Some place) class_there first = found class_at place class (slice_get class.methods place) class_there refl first

      of_one : (place : ℕ) (o : Option ClassRecord) → slice_get classes place ≡ o → WellNamed classes main pool (method_of_class place o r)
      of_one place None there = tt
      of_one place (Some class) there = own place class (position (is_static_named class.pool r.name r.descriptor) class.methods) there refl

      placed : (o : Option ℕ) → WellNamed classes main pool (method_of classes r o)
      placed None = tt
      placed (Some place) = of_one place (slice_get classes place) refl

  of_virtual : (o : Option Reference) → WellNamed classes main pool (virtual_call classes main o)
  of_virtual None = tt
  of_virtual (Some r) =
      either (is_println r) _ _ tt (either (main && is_bare (codes "start") r && of_thread classes r) _ _ tt
      (either (main && is_bare (codes "join") r && of_thread classes r) _ _ tt
      (either (main && is_called (codes "isAlive") (codes "()Z") r && of_thread classes r) (Names target.Alive) (Forbidden (method_spelling r)) tt tt)))

  module _ (listing : List Listed) (pc : ℕ) where
    of_special : (o : Option Reference) → WellNamed classes main pool (special_call classes main pool listing pc o)
    of_special None = tt
    of_special (Some r) =
        either main _ (Forbidden (method_spelling r)) (either (is_bare (codes "<init>") r && of_thread_class classes r) _ _ tt
        (either (is_some (form_before classes pool listing 8 pc)) _ _ tt
        (either (is_some (form_before classes pool listing 11 pc)) (Names target.Wrap) (Forbidden (method_spelling r)) tt tt))) tt

    made : (name : List ℕ) (o : Option ℕ) (in_form : Bool) → main ≡ true → WellNamed classes main pool (made_by name o in_form)
    made name (Some place) in_form is = is
    made name None in_form is = either in_form (Names target.NewTarget) (Forbidden name) is tt

    of_name : (name : List ℕ) (b : Bool) → main ≡ b → WellNamed classes main pool (if b then main_made classes pool listing pc name else Forbidden name)
    of_name name true is = made name (thread_run classes pool listing pc name) (is_some (form_before classes pool listing 4 pc)) is
    of_name name false is = tt

    of_new : (o : Option PoolEntry) → WellNamed classes main pool (class_made classes main pool listing pc o)
    of_new (Some (entry.Class name)) = of_name (text_of pool name) main refl
    of_new o = tt

    pub well_named : (code : List ℕ) (at : ℕ) (i : Instr) → Decodes code at i → WellNamed classes main pool (resolve_at classes main pool listing pc i)
    well_named code at instr.IconstM1 decodes = (omega (arith, ints), omega (arith, ints))
    well_named code at instr.Iconst0 decodes = (omega (arith, ints), omega (arith, ints))
    well_named code at instr.Iconst1 decodes = (omega (arith, ints), omega (arith, ints))
    well_named code at instr.Iconst2 decodes = (omega (arith, ints), omega (arith, ints))
    well_named code at instr.Iconst3 decodes = (omega (arith, ints), omega (arith, ints))
    well_named code at instr.Iconst4 decodes = (omega (arith, ints), omega (arith, ints))
    well_named code at instr.Iconst5 decodes = (omega (arith, ints), omega (arith, ints))
    well_named code at (instr.Bipush value) decodes = subst IsInt (sym decodes.operands.0) (one_byte (slice_index code (at + 1)))
    well_named code at (instr.Sipush value) decodes = subst IsInt (sym decodes.operands.0) (both_bytes (two_bytes code (at + 1)))
    well_named code at (instr.Ldc index) decodes = of_constant index (entry_at pool index) refl
    well_named code at (instr.LdcW index) decodes = of_constant index (entry_at pool index) refl
    well_named code at (instr.Getstatic index) decodes = of_field true (field_at pool index)
    well_named code at (instr.Putstatic index) decodes = of_field false (field_at pool index)
    well_named code at (instr.Invokevirtual index) decodes = of_virtual (method_at pool index)
    well_named code at (instr.Invokespecial index) decodes = of_special (method_at pool index)
    well_named code at (instr.Invokestatic index) decodes = of_static (method_at pool index)
    well_named code at (instr.New index) decodes = of_new (entry_at pool index)
    well_named code at i decodes = tt
