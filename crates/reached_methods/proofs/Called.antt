-- Each method that is called or made has code.
use Rattle.std.proofs.Common.{◌≡◌, ◌<◌, ℕ, Bool, true, false, List, Option, Some, None, length, refl, sym, ap, subst, ◌∙◌, arith, ◌&&◌}
use Rattle.std.specs.Prelude.{slice_get, if◌then◌else◌, position, nat_lt, codes}
use Rattle.std.proofs.lemmas.Bool.Decides.{nat_tests}
use Rattle.std.specs.List.{position_or_len}
use Rattle.std.specs.Option.{is_some}
use Rattle.std.proofs.lemmas.List.Quantifiers.{position-Some}
use Rattle.std.proofs.lemmas.Option.{none-some, same_Some, get_or_from_slice_get}
use Rattle.relations.specs.Path.{Walk, here, on}
use Rattle.class_format.specs.Pool.{entry_at}
use Rattle.class_format.specs.declared.record.ClassRecord.{ClassRecord}
use Rattle.class_format.specs.declared.record.CodeBody.{CodeBody}
use Rattle.class_format.specs.declared.record.Member.{Member}
use Rattle.class_format.specs.declared.record.PoolEntry.{PoolEntry}
use Rattle.class_format.specs.declared.record.PoolEntry.TheVariants as entry
use Rattle.class_names.specs.Members.{final_flag, body_of}
use Rattle.class_names.specs.Names.{Reference, field_at, method_at, has_flag, text_of, is_println, is_system_out}
use Rattle.opcodes.specs.declared.instruction.Instr.{Instr}
use Rattle.opcodes.specs.declared.listed.Listed.{Listed}
use Rattle.opcodes.specs.declared.instruction.Instr.TheVariants.{Ldc, LdcW, Getstatic, Putstatic, Invokevirtual, Invokespecial, Invokestatic, New}
use Rattle.program.proofs.Lists.{there_is}
use Rattle.program.specs.declared.method.MethodId.{MethodId}
use Rattle.resolution.specs.Resolution.{Resolved, Names, Unknown, Forbidden, Final, resolve, constant_named, constructor_named, field_named, field_of, field_of_class, own_field, field_resolved, static_call, method_of, method_of_class, own_method, method_resolved, is_callable, virtual_call, is_called, is_bare, is_writable, of_thread, of_thread_class, field_spelling, special_call, class_made, class_place, method_spelling, resolve_at, made_by, object_made, thread_run}
use Rattle.resolution.specs.Targets.{form_before, is_run}
use Rattle.resolution.specs.Places.{is_static_named}
use Rattle.resolution.specs.Signatures.{signature_of}
use Rattle.resolution.specs.declared.signature.Signature.{Signature}
use Rattle.resolution.specs.declared.target.Target.TheVariants as target
use Rattle.reached_methods.specs.Reached.{IsRunOf, is_method, Leads, calls, makes}
use Rattle.reached_methods.specs.Surveys.{HasCode}
use Rattle.reached_methods.proofs.Codes.{coded}

-- the method that is called
abbrev call_in : Resolved → Option MethodId
call_in (Names (target.Call id)) = Some id
call_in _ = None

last_true : (a b : Bool) → (a && b) ≡ true → b ≡ true
last_true true b e = e
last_true false b e = absurd (cc)

code_there : (classes : List ClassRecord) (id : MethodId) (class : ClassRecord) (m : Member) → slice_get classes id.class ≡ Some class → slice_get class.methods id.method ≡ Some m →
    (body : CodeBody) × (body_of m ≡ Some body) → HasCode classes id
code_there classes id class m there method body = (class, body.0, record { method = m; there = record { class_there = there; method_there = method }; code = body.1 })

-- ---- Calls

either : (b : Bool) (r s : Resolved) (id : MethodId) (P : Type 0) → call_in (if b then r else s) ≡ Some id → (call_in r ≡ Some id → P) → (call_in s ≡ Some id → P) → P
either true r s id P e yes_case no_case = yes_case e
either false r s id P e yes_case no_case = no_case e

none_called : (id : MethodId) (P : Type 0) → ◌≡◌ {A = Option MethodId} None (Some id) → P
none_called id P e = absurd (none-some id e)

constants : (pool : List PoolEntry) (index : ℕ) (o : Option PoolEntry) (id : MethodId) (P : Type 0) → call_in (constant_named pool index o) ≡ Some id → P
constants pool index (Some (entry.Integer n)) id P e = none_called id P e
constants pool index (Some (entry.Class name)) id P e =
    either (is_writable (text_of pool name)) (Names (target.Class index)) (Unknown (Some (text_of pool name))) id P e (none_called id P) (none_called id P)
constants pool index (Some _) id P e = none_called id P e
constants pool index None id P e = none_called id P e

fields_resolved : (class_at field_at : ℕ) (o : Option Member) (r : Reference) (id : MethodId) (P : Type 0) → call_in (field_resolved class_at field_at o r) ≡ Some id → P
fields_resolved class_at field_at (Some f) r id P e =
    either (has_flag f.flags final_flag) Final (Names (target.Field class_at field_at)) id P e (none_called id P) (none_called id P)
fields_resolved class_at field_at None r id P e = none_called id P e

own_fields : (class_at : ℕ) (class : ClassRecord) (r : Reference) (o : Option ℕ) (id : MethodId) (P : Type 0) → call_in (own_field class_at class r o) ≡ Some id → P
own_fields class_at class r (Some place) id P e = fields_resolved class_at place (slice_get class.fields place) r id P e
own_fields class_at class r None id P e = none_called id P e

class_fields : (place : ℕ) (o : Option ClassRecord) (r : Reference) (id : MethodId) (P : Type 0) → call_in (field_of_class place o r) ≡ Some id → P
class_fields place (Some class) r id P e = own_fields place class r (position (is_static_named class.pool r.name r.descriptor) class.fields) id P e
class_fields place None r id P e = none_called id P e

fields_of : (classes : List ClassRecord) (reads : Bool) (r : Reference) (o : Option ℕ) (id : MethodId) (P : Type 0) → call_in (field_of classes reads r o) ≡ Some id → P
fields_of classes reads r (Some place) id P e = class_fields place (slice_get classes place) r id P e
fields_of classes reads r None id P e =
    either (reads && is_system_out r) (Names target.Out) (Unknown (Some (field_spelling r))) id P e (none_called id P) (none_called id P)

fields : (classes : List ClassRecord) (reads : Bool) (o : Option Reference) (id : MethodId) (P : Type 0) → call_in (field_named classes reads o) ≡ Some id → P
fields classes reads (Some r) id P e = fields_of classes reads r (class_place classes r.class) id P e
fields classes reads None id P e = none_called id P e

objects_by : (a b c d : Bool) (name : List ℕ) (id : MethodId) (P : Type 0) →
    call_in (if a then Names target.Print else if b then Names target.Start else if c then Names target.Join else if d then Names target.Alive else Forbidden name) ≡ Some id → P
objects_by true b c d name id P e = none_called id P e
objects_by false true c d name id P e = none_called id P e
objects_by false false true d name id P e = none_called id P e
objects_by false false false true name id P e = none_called id P e
objects_by false false false false name id P e = none_called id P e

objects : (classes : List ClassRecord) (main : Bool) (o : Option Reference) (id : MethodId) (P : Type 0) → call_in (virtual_call classes main o) ≡ Some id → P
objects classes main (Some r) id P e =
    objects_by (is_println r) (main && is_bare (codes "start") r && of_thread classes r) (main && is_bare (codes "join") r && of_thread classes r)
    (main && is_called (codes "isAlive") (codes "()Z") r && of_thread classes r) (method_spelling r) id P e
objects classes main None id P e = none_called id P e

constructors_by : (a b c : Bool) (name : List ℕ) (id : MethodId) (P : Type 0) →
    call_in (if a then Names target.Construct else if b then Names target.ConstructTarget else if c then Names target.Wrap else Forbidden name) ≡ Some id → P
constructors_by true b c name id P e = none_called id P e
constructors_by false true c name id P e = none_called id P e
constructors_by false false true name id P e = none_called id P e
constructors_by false false false name id P e = none_called id P e

constructors_in : (classes : List ClassRecord) (main : Bool) (pool : List PoolEntry) (listing : List Listed) (pc : ℕ) (r : Reference) (id : MethodId) (P : Type 0) →
    call_in (constructor_named classes main pool listing pc r) ≡ Some id → P
constructors_in classes true pool listing pc r id P e =
    constructors_by (is_bare (codes "<init>") r && of_thread_class classes r) (is_some (form_before classes pool listing 8 pc)) (is_some (form_before classes pool listing 11 pc)) (method_spelling r) id P e
constructors_in classes false pool listing pc r id P e = none_called id P e

constructors : (classes : List ClassRecord) (main : Bool) (pool : List PoolEntry) (listing : List Listed) (pc : ℕ) (o : Option Reference) (id : MethodId) (P : Type 0) →
    call_in (special_call classes main pool listing pc o) ≡ Some id → P
constructors classes main pool listing pc (Some r) id P e = constructors_in classes main pool listing pc r id P e
constructors classes main pool listing pc None id P e = none_called id P e

threads_made : (name : List ℕ) (o : Option ℕ) (in_form : Bool) (id : MethodId) (P : Type 0) → call_in (made_by name o in_form) ≡ Some id → P
threads_made name (Some place) in_form id P e = none_called id P e
threads_made name None true id P e = none_called id P e
threads_made name None false id P e = none_called id P e

objects_made : (classes : List ClassRecord) (main : Bool) (pool : List PoolEntry) (listing : List Listed) (pc : ℕ) (name : List ℕ) (id : MethodId) (P : Type 0) →
    call_in (object_made classes main pool listing pc name) ≡ Some id → P
objects_made classes true pool listing pc name id P e = threads_made name (thread_run classes pool listing pc name) (is_some (form_before classes pool listing 4 pc)) id P e
objects_made classes false pool listing pc name id P e = none_called id P e

classes_made : (classes : List ClassRecord) (main : Bool) (pool : List PoolEntry) (listing : List Listed) (pc : ℕ) (o : Option PoolEntry) (id : MethodId) (P : Type 0) →
    call_in (class_made classes main pool listing pc o) ≡ Some id → P
classes_made classes main pool listing pc (Some (entry.Class name)) id P e = objects_made classes main pool listing pc (text_of pool name) id P e
classes_made classes main pool listing pc (Some _) id P e = none_called id P e
classes_made classes main pool listing pc None id P e = none_called id P e

some_body : (o : Option CodeBody) → is_some o ≡ true → (body : CodeBody) × (o ≡ Some body)
some_body (Some body) e = (body, refl)
some_body None e = absurd (cc)

callable_code : (m : Member) (o : Option Signature) → is_callable m o ≡ true → (body : CodeBody) × (body_of m ≡ Some body)
callable_code m (Some signature) e = some_body (body_of m) e
callable_code m None e = absurd (cc)

called_code : (classes : List ClassRecord) (pool : List PoolEntry) (class_at method_at : ℕ) (class : ClassRecord) (m : Member) (b : Bool) (r : Reference) (id : MethodId) →
    slice_get classes class_at ≡ Some class → slice_get class.methods method_at ≡ Some m → is_callable m (signature_of r.descriptor) ≡ b →
    call_in (if b then Names (target.Call (record { class = class_at; method = method_at })) else Forbidden (method_spelling r)) ≡ Some id → HasCode classes id
called_code classes pool class_at method_at class m true r id there method callable e =
    subst (HasCode classes) (same_Some _ id e) (code_there classes (record { class = class_at; method = method_at }) class m there method (callable_code m (signature_of r.descriptor) callable))
called_code classes pool class_at method_at class m false r id there method callable e = none_called id (HasCode classes id) e

method_code : (classes : List ClassRecord) (pool : List PoolEntry) (class_at method_at : ℕ) (class : ClassRecord) (o : Option Member) (r : Reference) (id : MethodId) →
    slice_get classes class_at ≡ Some class → slice_get class.methods method_at ≡ o → call_in (method_resolved pool class_at method_at o r) ≡ Some id → HasCode classes id
method_code classes pool class_at method_at class (Some m) r id there method e =
    called_code classes pool class_at method_at class m (is_callable m (signature_of r.descriptor)) r id there method refl e
method_code classes pool class_at method_at class None r id there method e = none_called id (HasCode classes id) e

own_code : (classes : List ClassRecord) (class_at : ℕ) (class : ClassRecord) (r : Reference) (o : Option ℕ) (id : MethodId) → slice_get classes class_at ≡ Some class →
    call_in (own_method class_at class r o) ≡ Some id → HasCode classes id
own_code classes class_at class r (Some place) id there e = method_code classes class.pool class_at place class (slice_get class.methods place) r id there refl e
own_code classes class_at class r None id there e = none_called id (HasCode classes id) e

class_code : (classes : List ClassRecord) (place : ℕ) (o : Option ClassRecord) (r : Reference) (id : MethodId) → slice_get classes place ≡ o →
    call_in (method_of_class place o r) ≡ Some id → HasCode classes id
class_code classes place (Some class) r id there e = own_code classes place class r (position (is_static_named class.pool r.name r.descriptor) class.methods) id there e
class_code classes place None r id there e = none_called id (HasCode classes id) e

place_code : (classes : List ClassRecord) (r : Reference) (o : Option ℕ) (id : MethodId) → call_in (method_of classes r o) ≡ Some id → HasCode classes id
place_code classes r (Some place) id e = class_code classes place (slice_get classes place) r id refl e
place_code classes r None id e = none_called id (HasCode classes id) e

static_code : (classes : List ClassRecord) (o : Option Reference) (id : MethodId) → call_in (static_call classes o) ≡ Some id → HasCode classes id
static_code classes (Some r) id e = place_code classes r (class_place classes r.class) id e
static_code classes None id e = none_called id (HasCode classes id) e

call_code_in : (classes : List ClassRecord) (main : Bool) (pool : List PoolEntry) (listing : List Listed) (pc : ℕ) (instr : Instr) (id : MethodId) → call_in (resolve_at classes main pool listing pc instr) ≡ Some id → HasCode classes id
call_code_in classes main pool listing pc (Ldc index) id e = constants pool index (entry_at pool index) id (HasCode classes id) e
call_code_in classes main pool listing pc (LdcW index) id e = constants pool index (entry_at pool index) id (HasCode classes id) e
call_code_in classes main pool listing pc (Getstatic index) id e = fields classes true (field_at pool index) id (HasCode classes id) e
call_code_in classes main pool listing pc (Putstatic index) id e = fields classes false (field_at pool index) id (HasCode classes id) e
call_code_in classes main pool listing pc (Invokevirtual index) id e = objects classes main (method_at pool index) id (HasCode classes id) e
call_code_in classes main pool listing pc (Invokespecial index) id e = constructors classes main pool listing pc (method_at pool index) id (HasCode classes id) e
call_code_in classes main pool listing pc (Invokestatic index) id e = static_code classes (method_at pool index) id e
call_code_in classes main pool listing pc (New index) id e = classes_made classes main pool listing pc (entry_at pool index) id (HasCode classes id) e
call_code_in classes main pool listing pc _ id e = none_called id (HasCode classes id) e

pub call_code : (classes : List ClassRecord) (main : Bool) (pool : List PoolEntry) (listing : List Listed) (item : Listed) (id : MethodId) → resolve classes main pool listing item ≡ Names (target.Call id) → HasCode classes id
call_code classes main pool listing item id e = call_code_in classes main pool listing item.pc item.instr id (ap call_in e)

-- ---- Threads

within_some : {A : Type 0} (p : A → Bool) (xs : List A) (k : ℕ) (b : Bool) → nat_lt (position_or_len p xs) (length xs) ≡ b →
    (if b then Some (position_or_len p xs) else None) ≡ Some k → k < length xs
within_some p xs k true lt e = let same = same_Some _ k e in let inside : position_or_len p xs < length xs = grind (arith, nat_tests) in omega (arith, same, inside)
within_some p xs k false lt e = absurd (none-some k e)

within_by : {A : Type 0} (p : A → Bool) (xs : List A) (k : ℕ) → position p xs ≡ Some k → k < length xs
within_by p xs k e = within_some p xs k (nat_lt (position_or_len p xs) (length xs)) refl e

within_position : (class : ClassRecord) (id : MethodId) → position (is_run class.pool) class.methods ≡ Some id.method → id.method < length class.methods
within_position class id e = within_by (is_run class.pool) class.methods id.method e

run_code : (classes : List ClassRecord) (class_at : ℕ) (id : MethodId) → IsRunOf classes class_at id → HasCode classes id
run_code classes class_at id run =
    let P : ℕ → Type 0 = λ n. slice_get classes n ≡ Some run.class in
    let member = there_is run.class.methods id.method (within_position run.class id run.first) in
    let passes = (position-Some (is_run run.class.pool) run.class.methods id.method member.0 run.first).1 in
    let test : is_run run.class.pool member.0 ≡ true = ap (is_run run.class.pool) (sym (get_or_from_slice_get run.class.methods id.method member.0 member.0 member.1)) ∙ passes in
    code_there classes id run.class member.0 (subst P (sym run.same_class) run.class_there) member.1 (coded member.0.attributes (last_true _ _ test))

leads_code : (classes : List ClassRecord) (main a b : MethodId) → Leads classes main a b → HasCode classes b
leads_code classes main a b (calls c) = call_code classes (is_method a main) c.call.class.pool c.call.listing (record { pc = c.pc; instr = c.instr }) b c.call.resolved
leads_code classes main a b (makes same m) = run_code classes m.class_at b m.runs

-- what is led to from a method with code has code
pub walk_code : (classes : List ClassRecord) (main a b : MethodId) → HasCode classes a → Walk (Leads classes main) a b → HasCode classes b
walk_code classes main a b code here = code
walk_code classes main a b code (on {b = m} l w) = walk_code classes main m b (leads_code classes main a m l) w
