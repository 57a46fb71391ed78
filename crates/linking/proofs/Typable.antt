-- The reached methods of faultless classes can be typed.
use Rattle.std.proofs.Common.{◌≡◌, ◌<◌, ◌+◌, inl, inr, ℕ, suc, pos, List, [], ◌∷◌, Option, Some, length, get_or, refl, sym, ap, subst, ◌∙◌, arith}
use Rattle.std.specs.Prelude.{All, if◌then◌else◌}
use Rattle.std.specs.List.{AllByRecursion}
use Rattle.std.specs.Option.{option_or}
use Rattle.std.proofs.lemmas.List.{length-map}
use Rattle.std.proofs.lemmas.List.Elements.{All-from_recursion}
use Rattle.std.proofs.lemmas.Option.{none-some, same_Some, slice_get-get_or}
use Rattle.program.proofs.Lists.{there_is}
use Rattle.relations.specs.Path.{Walk, here, on}
use Rattle.class_format.specs.ClassText.{IsValid, IsMethod, IsCode, IsOfMethod, IsOfMethodOpen}
use Rattle.class_format.specs.declared.record.Attribute.{Attribute, out-Attribute}
use Rattle.class_format.specs.declared.record.Attribute.TheOpen.{Attribute-F, Code, Other}
use Rattle.class_format.specs.declared.record.ClassRecord.{ClassRecord}
use Rattle.class_format.specs.declared.record.CodeBody.{CodeBody}
use Rattle.class_format.specs.declared.record.PoolEntry.{PoolEntry}
use Rattle.class_names.specs.Members.{body_in_open, first_body}
use Rattle.opcodes.specs.Faults.{HasFault, unknown, cut, leaves, inside, IsUnknown, IsCut}
use Rattle.opcodes.specs.Instructions.{Follows}
use Rattle.opcodes.specs.Reached.{Reached}
use Rattle.opcodes.specs.declared.listed.Listed.{Listed}
use Rattle.program.specs.declared.method.MethodId.{MethodId}
use Rattle.reached_methods.specs.CodeFaults.{HasCodeFault, unknown_number, misses, IsPlaceIn, IsFaultless}
use Rattle.reached_methods.specs.CodeFaults as code_fault
use Rattle.reached_methods.specs.Reached.{AreReachedMethods, HasCodeAt, IsReached, IsReachedMethod}
use Rattle.reached_methods.specs.declared.method.ReachedMethod.{ReachedMethod}
use Rattle.reached_methods.specs.declared.refusal.CodeKind.{CodeKind}
use Rattle.reached_methods.specs.declared.refusal.CodeKind.TheVariants.{Opcode, CutInstruction, JumpTarget}
use Rattle.reached_methods.specs.declared.refusal.Detail.{Detail}
use Rattle.reached_methods.specs.declared.refusal.Detail.TheVariants.{Nothing, Number}
use Rattle.resolution.specs.Resolution.{Names}
use Rattle.resolution.specs.declared.target.Target.{Target}
use Rattle.typing.specs.Typing.{AllReached, IsListed}
use Rattle.typing.specs.declared.untyped.UntypedMethod.{UntypedMethod}
use Rattle.untyped_program.specs.Methods.{IsUntypedMethod, is_new, symbols_from}
use Rattle.untyped_program.specs.Untyped.{AreUntyped}
use Rattle.linking.specs.Phases.{CanBeTyped}
use Rattle.linking.proofs.Mains.{all_at}
use Rattle.linking.proofs.Readable.{all_reached, reads_at, start}

-- ---- Code of classes that have a text

first_open : (pool : List PoolEntry) (o : Attribute-F Attribute CodeBody) (rest : Option CodeBody) (body : CodeBody) → IsOfMethodOpen pool o →
    (rest ≡ Some body → IsCode pool body) → option_or (body_in_open o) rest ≡ Some body → IsCode pool body
first_open pool (Code b) rest body valid later e = subst (IsCode pool) (same_Some b body e) valid
first_open pool (Other n bytes) rest body valid later e = later e

first_valid : (pool : List PoolEntry) (attributes : List Attribute) (body : CodeBody) → AllByRecursion (IsOfMethod pool) attributes →
    first_body attributes ≡ Some body → IsCode pool body
first_valid pool [] body valid e = absurd (none-some body e)
first_valid pool (a ∷ attributes) body valid e =
    first_open pool (out-Attribute a) (first_body attributes) body valid.0 (first_valid pool attributes body valid.1) e

pub valid_code : (classes : List ClassRecord) (id : MethodId) (class : ClassRecord) (body : CodeBody) → All IsValid classes → HasCodeAt classes id class body →
    IsCode class.pool body
valid_code classes id class body valid code =
    let class_valid = all_at IsValid classes id.class class valid code.there.class_there in
    let method_valid = all_at (IsMethod class.pool) class.methods id.method code.method (All-from_recursion (IsMethod class.pool) class.methods class_valid.methods) code.there.method_there in
    first_valid class.pool code.method.attributes body method_valid.attributes code.code

-- ---- Code without faults

within : (code : List ℕ) {a b : ℕ} → a < length code → Walk (Follows code) a b → b < length code
within code first here = first
within code first (on edge rest) = within code edge.inside rest

module _ (classes : List ClassRecord) (main : MethodId) (faultless : IsFaultless classes main) where
  module _ (id : MethodId) (class : ClassRecord) (body : CodeBody) (is_reached : IsReached classes main id) (code : HasCodeAt classes id class body) (some : 0 < length body.code) where
    place : (pc : ℕ) → Reached body.code pc → IsPlaceIn classes id pc body.code
    place pc reached = record { class = class; body = body; has_code = code; code_is = refl; reached = reached }

    faulty : (pc : ℕ) (kind : CodeKind) (detail : Detail) → HasCodeFault classes main id pc kind detail → ⊥
    faulty pc kind detail fault = faultless id pc kind detail (record { reached = is_reached; fault = fault })

    known : (pc : ℕ) → Reached body.code pc → (number : ℕ) → IsUnknown body.code pc number → ⊥
    known pc reached number is = faulty pc Opcode (Number number) (unknown_number body.code number (place pc reached) is refl refl)

    uncut : (pc : ℕ) → Reached body.code pc → IsCut body.code pc → ⊥
    uncut pc reached is = faulty pc CutInstruction Nothing (code_fault.cut body.code (place pc reached) is refl refl)

    pub no_fault : (pc : ℕ) → HasFault body.code pc → ⊥
    no_fault pc (unknown number reached is) = known pc reached number is
    no_fault pc (cut reached is) = uncut pc reached is
    no_fault pc (leaves reached is) =
        faulty pc JumpTarget Nothing (misses body.code (place pc reached) (record { instr = is.instr; decodes = is.decodes; misses = inl is }) refl refl)
    no_fault pc (inside reached is) =
        let read = reads_at body.code pc (within body.code some reached) (known pc reached) (uncut pc reached) in
        faulty pc JumpTarget Nothing (misses body.code (place pc reached) (record { instr = read.0; decodes = read.1; misses = inr is }) refl refl)

  -- ---- Methods

  module _ (number : ℕ → ℕ → ℕ) (monitors : List (List ℕ)) where
    pub as_many_symbols : (pool : List PoolEntry) (made : ℕ) (targets : List Target) → length (symbols_from classes number monitors pool made targets) ≡ length targets
    as_many_symbols pool made [] = refl
    as_many_symbols pool made (t ∷ targets) = ap suc (as_many_symbols pool (made + (if is_new t then 1 else 0)) targets)

    can_be_typed : (m : ReachedMethod) (u : UntypedMethod) → All IsValid classes → IsReachedMethod classes main m → IsUntypedMethod classes main number monitors m u → CanBeTyped u
    can_be_typed m u valid is untyped =
        let some = (valid_code classes m.id is.class is.body valid is.code).some_code in
        let sound = no_fault m.id is.class is.body is.reached is.code some in
        record {
          named = sym (length-map u.symbols Some) ∙ ap length untyped.symbols ∙ as_many_symbols untyped.class.pool 0 m.targets ∙ sym (length-map m.targets Names)
              ∙ sym (ap length is.targets) ∙ length-map m.listing _ ∙ sym (ap length untyped.listing);
          start = subst (λ (l : List Listed). IsListed l (pos 0)) (sym untyped.listing) (start is.body.code sound m.listing is.listing some);
          reached = subst AllReached (sym untyped.listing) (all_reached is.body.code sound m.listing is.listing);
        }

    pub all_can_be_typed : (methods : List ReachedMethod) (us : List UntypedMethod) → All IsValid classes → AreReachedMethods classes main methods →
        AreUntyped classes main number monitors methods us → All CanBeTyped us
    all_can_be_typed methods us valid reached untyped k d inside_us =
        let size = untyped.same_length in
        let m = there_is methods k (omega (arith, inside_us, size)) in
        can_be_typed m.0 (get_or us k d) valid (all_at (IsReachedMethod classes main) methods k m.0 reached.each m.1)
        (untyped.each k m.0 (get_or us k d) m.1 (slice_get-get_or us k d inside_us))
