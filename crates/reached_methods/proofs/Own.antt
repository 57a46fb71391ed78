-- The faults that a method has without regard to other methods are those of its code, of its names and of its loops.
use Rattle.std.proofs.Common.{◌≡◌, ◌≢◌, ◌⊎◌, inl, inr, ℕ, Bool, true, false, List, Option, map, refl, sym, ap, ap₂, subst, ◌∙◌, arith}
use Rattle.std.specs.Prelude.{Any}
use Rattle.class_format.specs.declared.record.ClassRecord.{ClassRecord}
use Rattle.class_format.specs.declared.record.CodeBody.{CodeBody}
use Rattle.opcodes.specs.Instructions.{Decodes}
use Rattle.opcodes.specs.Listing.{StandsAt}
use Rattle.opcodes.specs.Reached.{Reached, IsListingOf}
use Rattle.opcodes.specs.declared.instruction.Instr.{Instr}
use Rattle.opcodes.specs.declared.instruction.Instr.TheVariants.{New}
use Rattle.opcodes.specs.declared.listed.Listed.{Listed}
use Rattle.program.specs.declared.method.MethodId.{MethodId}
use Rattle.resolution.specs.Resolution.{Resolved, Names, Unknown, Forbidden, Final, resolve}
use Rattle.resolution.specs.declared.target.Target.{Target}
use Rattle.reached_methods.specs.CodeFaults.{HasCodeFault, IsPlaceIn, JumpsOver, rank, unknown_number, cut, misses, unknown_name, forbidden, final, recursion, in_loop}
use Rattle.reached_methods.specs.FirstFault.{IsFirstOrNone, earlier_of}
use Rattle.reached_methods.specs.Reached.{HasCodeAt, IsInstructionAt, is_method}
use Rattle.reached_methods.specs.Surveys.{HasReadFault, HasNameFault, IsNameFault, HasLoopFault, HasLoopFaultIn, HasOwnFault, IsLooped, JumpsAcross, MakesObject, IsSurvey, IsSurveyed, target_of}
use Rattle.reached_methods.specs.Surveys as own
use Rattle.reached_methods.specs.declared.fault.Fault.{Fault}
use Rattle.reached_methods.specs.declared.refusal.CodeKind.{CodeKind}
use Rattle.reached_methods.specs.declared.refusal.CodeKind.TheVariants.{ThreadInLoop}
use Rattle.reached_methods.specs.declared.refusal.Detail.{Detail}
use Rattle.reached_methods.specs.declared.refusal.Detail.TheVariants.{Nothing}
use Rattle.opcodes.proofs.SameListing.{one_listing}
use Rattle.reached_methods.proofs.Codes.{same_class, same_code}
use Rattle.reached_methods.proofs.Leading.{is_itself, same_method}
use Rattle.reached_methods.proofs.FirstFaults.{merged}

-- a listed instruction is one of the method
pub listed_instruction : (classes : List ClassRecord) (main id : MethodId) (class : ClassRecord) (body : CodeBody) (listing : List Listed) (pc : ℕ) (instr : Instr) (names : Resolved) →
    HasCodeAt classes id class body → IsListingOf body.code listing → StandsAt listing pc instr → resolve classes (is_method id main) class.pool listing (record { pc = pc; instr = instr }) ≡ names →
    IsInstructionAt classes main id pc instr names
listed_instruction classes main id class body listing pc instr names code of there e = record {
  class = class;
  body = body;
  code = code;
  reached = of.reached pc instr there;
  decodes = of.decodes pc instr there;
  listing = listing;
  is_listing = of;
  resolved = e;
}

-- an instruction of the method is listed
pub instruction_listed : (classes : List ClassRecord) (main id : MethodId) (class : ClassRecord) (body : CodeBody) (listing : List Listed) (pc : ℕ) (instr : Instr) (names : Resolved) →
    HasCodeAt classes id class body → IsListingOf body.code listing → IsInstructionAt classes main id pc instr names → StandsAt listing pc instr
instruction_listed classes main id class body listing pc instr names code of i =
    let same = same_code classes id i.class class i.body body i.code code in
    let P : CodeBody → Type 0 = λ b. Reached b.code pc in
    let Q : CodeBody → Type 0 = λ b. Decodes b.code pc instr in
    of.whole pc instr (subst P same i.reached) (subst Q same i.decodes)

-- and names what it names by the pool of the method's class
pub instruction_names : (classes : List ClassRecord) (main id : MethodId) (class : ClassRecord) (body : CodeBody) (listing : List Listed) (pc : ℕ) (instr : Instr) (names : Resolved) →
    HasCodeAt classes id class body → IsListingOf body.code listing → IsInstructionAt classes main id pc instr names → resolve classes (is_method id main) class.pool listing (record { pc = pc; instr = instr }) ≡ names
instruction_names classes main id class body listing pc instr names code of i =
    let same : listing ≡ i.listing = one_listing body.code listing i.listing of
    (subst (λ (b : CodeBody). IsListingOf b.code i.listing) (same_code classes id i.class class i.body body i.code code) i.is_listing) in
    ap₂ (λ (c : ClassRecord) (xs : List Listed). resolve classes (is_method id main) c.pool xs (record { pc = pc; instr = instr })) (same_class classes id class i.class body i.body code i.code) same ∙ i.resolved

place_reached : (classes : List ClassRecord) (id : MethodId) (class : ClassRecord) (body : CodeBody) (pc : ℕ) (code : List ℕ) → HasCodeAt classes id class body →
    IsPlaceIn classes id pc code → code ≡ body.code
place_reached classes id class body pc code here p =
    sym p.code_is ∙ ap (λ (b : CodeBody). b.code) (same_code classes id p.class class p.body body p.has_code here)

place_here : (classes : List ClassRecord) (id : MethodId) (class : ClassRecord) (body : CodeBody) (pc : ℕ) → HasCodeAt classes id class body → Reached body.code pc →
    IsPlaceIn classes id pc body.code
place_here classes id class body pc here r = record { class = class; body = body; has_code = here; code_is = refl; reached = r }

not_15 : (kind : CodeKind) (n : ℕ) → rank kind ≡ n → n ≢ 15 → rank kind ≢ 15
not_15 kind n e other f = other (sym e ∙ f)

-- ---- The code

read_own : (classes : List ClassRecord) (main id : MethodId) (class : ClassRecord) (body : CodeBody) (pc : ℕ) (kind : CodeKind) (detail : Detail) → HasCodeAt classes id class body →
    HasReadFault body.code pc kind detail → HasOwnFault classes main id pc kind detail
read_own classes main id class body pc kind detail here (own.unknown_number n r u k d) = record {
  fault = unknown_number body.code n (place_here classes id class body pc here r) u k d;
  own = not_15 kind 9 (ap rank k) (λ e. omega (arith, e));
}
read_own classes main id class body pc kind detail here (own.cut r c k d) = record {
  fault = cut body.code (place_here classes id class body pc here r) c k d;
  own = not_15 kind 10 (ap rank k) (λ e. omega (arith, e));
}
read_own classes main id class body pc kind detail here (own.misses r m k d) = record {
  fault = misses body.code (place_here classes id class body pc here r) m k d;
  own = not_15 kind 11 (ap rank k) (λ e. omega (arith, e));
}

-- ---- Names

name_own_at : (classes : List ClassRecord) (main id : MethodId) (pc : ℕ) (kind : CodeKind) (detail : Detail) (instr : Instr) (r : Resolved) →
    IsInstructionAt classes main id pc instr r → IsNameFault r kind detail → HasOwnFault classes main id pc kind detail
name_own_at classes main id pc kind detail instr (Names t) i f = absurd f
name_own_at classes main id pc kind detail instr (Unknown name) i f = record {
  fault = unknown_name instr name i f.0 f.1;
  own = not_15 kind 12 (ap rank f.0) (λ e. omega (arith, e));
}
name_own_at classes main id pc kind detail instr (Forbidden name) i f = record {
  fault = forbidden instr name i f.0 f.1;
  own = not_15 kind 13 (ap rank f.0) (λ e. omega (arith, e));
}
name_own_at classes main id pc kind detail instr Final i f = record {
  fault = final instr i f.0 f.1;
  own = not_15 kind 14 (ap rank f.0) (λ e. omega (arith, e));
}

name_own : (classes : List ClassRecord) (main id : MethodId) (class : ClassRecord) (body : CodeBody) (listing : List Listed) (pc : ℕ) (kind : CodeKind) (detail : Detail) →
    HasCodeAt classes id class body → IsListingOf body.code listing → HasNameFault classes (is_method id main) class.pool listing listing pc kind detail →
    HasOwnFault classes main id pc kind detail
name_own classes main id class body listing pc kind detail here of f =
    name_own_at classes main id pc kind detail f.instr (resolve classes (is_method id main) class.pool listing (record { pc = pc; instr = f.instr }))
    (listed_instruction classes main id class body listing pc f.instr _ here of f.there refl) f.wrong

-- an instruction that is refused for its name is listed so
named_fault : (classes : List ClassRecord) (main id : MethodId) (class : ClassRecord) (body : CodeBody) (listing : List Listed) (pc : ℕ) (kind : CodeKind) (detail : Detail)
    (instr : Instr) (r : Resolved) → HasCodeAt classes id class body → IsListingOf body.code listing → IsInstructionAt classes main id pc instr r → IsNameFault r kind detail →
    HasNameFault classes (is_method id main) class.pool listing listing pc kind detail
named_fault classes main id class body listing pc kind detail instr r here of i f = record {
  instr = instr;
  there = instruction_listed classes main id class body listing pc instr r here of i;
  wrong = (let P : Resolved → Type 0 = λ n. IsNameFault n kind detail in
      subst P (sym (instruction_names classes main id class body listing pc instr r here of i)) f);
}

-- ---- Loops

made : (instr : Instr) → MakesObject instr → (index : ℕ) × (instr ≡ New index)
made (New index) m = (index, refl)
made _ m = absurd m

across : (classes : List ClassRecord) (main id : MethodId) (class : ClassRecord) (body : CodeBody) (listing : List Listed) (pc : ℕ) → HasCodeAt classes id class body →
    IsListingOf body.code listing → id ≡ main → Any (JumpsAcross pc) listing → JumpsOver classes main pc
across classes main id class body listing pc here of same a =
    let item = a.1 in
    let jump = a.4 in
    let P : MethodId → Type 0 = λ m. IsInstructionAt classes main m item.pc item.instr (resolve classes (is_method id main) class.pool listing item) in
    record {
      from = item.pc;
      instr = item.instr;
      names = resolve classes (is_method id main) class.pool listing item;
      reached = subst P same (listed_instruction classes main id class body listing item.pc item.instr _ here of (a.0, a.2, a.3) refl);
      distance = jump.distance;
      jumps = jump.jumps;
      behind = jump.behind;
      before = jump.before;
    }

loop_own : (classes : List ClassRecord) (main id : MethodId) (class : ClassRecord) (body : CodeBody) (listing : List Listed) (pc : ℕ) (kind : CodeKind) (detail : Detail) →
    HasCodeAt classes id class body → IsListingOf body.code listing → id ≡ main → HasLoopFault listing pc kind detail → HasOwnFault classes main id pc kind detail
loop_own classes main id class body listing pc kind detail here of same f =
    let index = made f.instr f.looped.makes in
    let P : Instr → Type 0 = λ i. IsInstructionAt classes main id pc i (resolve classes (is_method id main) class.pool listing (record { pc = pc; instr = f.instr })) in
    record {
      fault = in_loop index.0 (resolve classes (is_method id main) class.pool listing (record { pc = pc; instr = f.instr })) same
          (subst P index.1 (listed_instruction classes main id class body listing pc f.instr _ here of f.there refl))
          (across classes main id class body listing pc here of same f.looped.loop) f.kind_is f.detail_is;
      own = not_15 kind 16 (ap rank f.kind_is) (λ e. omega (arith, e));
    }

loop_in_own : (classes : List ClassRecord) (main id : MethodId) (class : ClassRecord) (body : CodeBody) (listing : List Listed) (pc : ℕ) (kind : CodeKind) (detail : Detail) (in_main : Bool) →
    is_method id main ≡ in_main → HasCodeAt classes id class body → IsListingOf body.code listing → HasLoopFaultIn in_main listing pc kind detail →
    HasOwnFault classes main id pc kind detail
loop_in_own classes main id class body listing pc kind detail true e here of f =
    loop_own classes main id class body listing pc kind detail here of (same_method id main e) f
loop_in_own classes main id class body listing pc kind detail false e here of f = absurd f

jumped : (classes : List ClassRecord) (main id : MethodId) (class : ClassRecord) (body : CodeBody) (listing : List Listed) (pc : ℕ) → HasCodeAt classes id class body →
    IsListingOf body.code listing → id ≡ main → JumpsOver classes main pc → Any (JumpsAcross pc) listing
jumped classes main id class body listing pc here of same j =
    let P : MethodId → Type 0 = λ m. IsInstructionAt classes main m j.from j.instr j.names in
    let there = instruction_listed classes main id class body listing j.from j.instr j.names here of (subst P (sym same) j.reached) in
    (there.0, record { pc = j.from; instr = j.instr }, there.1, there.2, record { distance = j.distance; jumps = j.jumps; behind = j.behind; before = j.before })

looped : (classes : List ClassRecord) (main id : MethodId) (class : ClassRecord) (body : CodeBody) (listing : List Listed) (pc index : ℕ) (kind : CodeKind) (detail : Detail) (names : Resolved) →
    HasCodeAt classes id class body → IsListingOf body.code listing → id ≡ main → IsInstructionAt classes main id pc (New index) names → JumpsOver classes main pc →
    kind ≡ ThreadInLoop → detail ≡ Nothing → HasLoopFaultIn (is_method id main) listing pc kind detail
looped classes main id class body listing pc index kind detail names here of same i j k d =
    let P : Bool → Type 0 = λ b. HasLoopFaultIn b listing pc kind detail in
    let main_is : true ≡ is_method id main = sym (is_itself id) ∙ ap (is_method id) same in
    subst P main_is (record {
      instr = New index;
      there = instruction_listed classes main id class body listing pc (New index) names here of i;
      looped = record { makes = tt; loop = jumped classes main id class body listing pc here of same j };
      kind_is = k;
      detail_is = d;
    })

-- ---- All of them

own_split : (classes : List ClassRecord) (main id : MethodId) (class : ClassRecord) (body : CodeBody) (listing : List Listed) (pc : ℕ) (kind : CodeKind) (detail : Detail) →
    HasCodeAt classes id class body → IsListingOf body.code listing → rank kind ≢ 15 → HasCodeFault classes main id pc kind detail →
    (HasReadFault body.code pc kind detail ⊎ HasNameFault classes (is_method id main) class.pool listing listing pc kind detail) ⊎ HasLoopFaultIn (is_method id main) listing pc kind detail
own_split classes main id class body listing pc kind detail here of other (unknown_number code n p u k d) =
    let e = place_reached classes id class body pc code here p in
    inl (inl (subst (λ (c : List ℕ). HasReadFault c pc kind detail) e (own.unknown_number n p.reached u k d)))
own_split classes main id class body listing pc kind detail here of other (cut code p c k d) =
    let e = place_reached classes id class body pc code here p in
    inl (inl (subst (λ (c : List ℕ). HasReadFault c pc kind detail) e (own.cut p.reached c k d)))
own_split classes main id class body listing pc kind detail here of other (misses code p m k d) =
    let e = place_reached classes id class body pc code here p in
    inl (inl (subst (λ (c : List ℕ). HasReadFault c pc kind detail) e (own.misses p.reached m k d)))
own_split classes main id class body listing pc kind detail here of other (unknown_name instr name i k d) =
    inl (inr (named_fault classes main id class body listing pc kind detail instr (Unknown name) here of i (k, d)))
own_split classes main id class body listing pc kind detail here of other (forbidden instr name i k d) =
    inl (inr (named_fault classes main id class body listing pc kind detail instr (Forbidden name) here of i (k, d)))
own_split classes main id class body listing pc kind detail here of other (final instr i k d) =
    inl (inr (named_fault classes main id class body listing pc kind detail instr Final here of i (k, d)))
own_split classes main id class body listing pc kind detail here of other (recursion instr called i w k d) = absurd (other (ap rank k))
own_split classes main id class body listing pc kind detail here of other (in_loop index names same i j k d) =
    inr (looped classes main id class body listing pc index kind detail names here of same i j k d)

-- the survey of a method
pub surveyed : (classes : List ClassRecord) (main id : MethodId) (class : ClassRecord) (body : CodeBody) (listing : List Listed) (targets : List Target) (read name loop : Option Fault) →
    HasCodeAt classes id class body → IsListingOf body.code listing →
    targets ≡ map (λ item. target_of (resolve classes (is_method id main) class.pool listing item)) listing →
    IsFirstOrNone (HasReadFault body.code) read → IsFirstOrNone (HasNameFault classes (is_method id main) class.pool listing listing) name →
    IsFirstOrNone (HasLoopFaultIn (is_method id main) listing) loop →
    IsSurveyed classes main (record { method = record { id = id; listing = listing; targets = targets }; fault = earlier_of (earlier_of read name) loop })
surveyed classes main id class body listing targets read name loop here of e first_read first_name first_loop =
    let Code = HasReadFault body.code in
    let Named = HasNameFault classes (is_method id main) class.pool listing listing in
    let Both : ℕ → CodeKind → Detail → Type 0 = λ pc kind detail. Code pc kind detail ⊎ Named pc kind detail in
    let Looped = HasLoopFaultIn (is_method id main) listing in
    record {
      survey = record { class = class; body = body; code = here; listing = of; targets = e };
      fault = merged Both Looped (HasOwnFault classes main id) (earlier_of read name) loop
          (λ pc kind detail h. elim h [
            | inl r ↦ read_own classes main id class body pc kind detail here r
            | inr n ↦ name_own classes main id class body listing pc kind detail here of n
          ])
          (λ pc kind detail h. loop_in_own classes main id class body listing pc kind detail (is_method id main) refl here of h)
          (λ pc kind detail f. own_split classes main id class body listing pc kind detail here of f.own f.fault)
          (merged Code Named Both read name (λ pc kind detail r. inl r) (λ pc kind detail n. inr n) (λ pc kind detail h. h) first_read first_name)
          first_loop;
    }

pub surveyed_so : (classes : List ClassRecord) (main id : MethodId) (class : ClassRecord) (body : CodeBody) (listing : List Listed) (targets : List Target) (read name loop : Option Fault)
    (bytes : List ℕ) (indexed : List ClassRecord) (in_main : Bool) (named_listing looped_listing : List Listed) (first fault : Option Fault) →
    bytes ≡ body.code → indexed ≡ classes → in_main ≡ is_method id main → named_listing ≡ listing → looped_listing ≡ listing →
    HasCodeAt classes id class body → IsListingOf bytes listing →
    targets ≡ map (λ item. target_of (resolve indexed in_main class.pool named_listing item)) named_listing →
    IsFirstOrNone (HasReadFault bytes) read → IsFirstOrNone (HasNameFault indexed in_main class.pool named_listing named_listing) name →
    IsFirstOrNone (HasLoopFaultIn in_main looped_listing) loop → first ≡ earlier_of read name → fault ≡ earlier_of first loop →
    IsSurveyed classes main (record { method = record { id = id; listing = listing; targets = targets }; fault = fault })
surveyed_so classes main id class body listing targets read name loop bytes indexed in_main named_listing looped_listing first fault
    same_bytes same_classes same_main same_named same_looped here of e first_read first_name first_loop e_first e_fault =
    let T : List ClassRecord → Bool → List Listed → List Target = λ cs m xs. map (λ (item : Listed). target_of (resolve cs m class.pool xs item)) xs in
    let L : List ℕ → Type 0 = λ b. IsListingOf b listing in
    let R : List ℕ → Type 0 = λ b. IsFirstOrNone (HasReadFault b) read in
    let N : List ClassRecord → Type 0 = λ cs. IsFirstOrNone (HasNameFault cs in_main class.pool named_listing named_listing) name in
    let M : Bool → Type 0 = λ m. IsFirstOrNone (HasNameFault classes m class.pool named_listing named_listing) name in
    let O : List Listed → Type 0 = λ xs. IsFirstOrNone (HasNameFault classes (is_method id main) class.pool xs xs) name in
    let P : Bool → Type 0 = λ m. IsFirstOrNone (HasLoopFaultIn m looped_listing) loop in
    let Q : List Listed → Type 0 = λ xs. IsFirstOrNone (HasLoopFaultIn (is_method id main) xs) loop in
    let F : Option Fault → Type 0 = λ f. IsSurveyed classes main (record { method = record { id = id; listing = listing; targets = targets }; fault = f }) in
    subst F (sym (e_fault ∙ ap (λ (f : Option Fault). earlier_of f loop) e_first))
    (surveyed classes main id class body listing targets read name loop here (subst L same_bytes of)
    (e ∙ ap (λ (cs : List ClassRecord). T cs in_main named_listing) same_classes ∙ ap (λ (m : Bool). T classes m named_listing) same_main ∙ ap (λ (xs : List Listed). T classes (is_method id main) xs) same_named)
    (subst R same_bytes first_read) (subst O same_named (subst M same_main (subst N same_classes first_name)))
    (subst Q same_looped (subst P same_main first_loop)))
