-- Classes meet at most one refusal, and none where they make a program.
use Rattle.std.proofs.Common.{◌≡◌, ◌≢◌, ◌<◌, ◌⊎◌, inl, inr, ℕ, List, Some, Option, slice_get, refl, sym, ap, ◌∙◌, subst, arith}
use Rattle.std.proofs.lemmas.Option.{same_Some}
use Rattle.class_format.specs.declared.record.ClassRecord.{ClassRecord}
use Rattle.class_profile.specs.Laws as profile
use Rattle.class_profile.specs.Profile.{IsFirstFault}
use Rattle.class_profile.specs.declared.refusal.ClassKind.{ClassKind}
use Rattle.program.specs.Program.{Prog}
use Rattle.program.specs.declared.method.MethodId.{MethodId}
use Rattle.reached_methods.specs.CodeFaults.{IsFirstCodeFault, IsFaultless}
use Rattle.reached_methods.specs.Laws as code
use Rattle.reached_methods.specs.declared.refusal.CodeKind.{CodeKind}
use Rattle.reached_methods.specs.declared.refusal.Detail.{Detail}
use Rattle.typing.specs.Laws as types
use Rattle.typing.specs.Paths.{IsRefusal}
use Rattle.typing.specs.declared.refusal.TypeKind.{TypeKind}
use Rattle.typing.specs.declared.untyped.UntypedMethod.{UntypedMethod}
use Rattle.untyped_program.specs.Laws.{OneUntypedProgram}
use Rattle.untyped_program.specs.Limits.{IsFirstPassed, rank}
use Rattle.untyped_program.specs.declared.refusal.LimitKind.{LimitKind}
use Rattle.untyped_program.specs.declared.refusal.LimitKind.TheVariants.{Threads, Variables, FrameSlots}
use Rattle.untyped_program.specs.declared.untyped.UntypedProgram.{UntypedProgram}
use Rattle.linking.specs.Linking.{HasMainOf, IsProgramOf, IsUntypedOf}
use Rattle.linking.specs.Refusals.{IsCodeRefusal, IsLimitRefusal, IsRefusedFor, IsSound, IsTypingRefusal}
use Rattle.linking.specs.declared.refusal.ProgramRefusal.{ProgramRefusal}
use Rattle.linking.specs.declared.refusal.ProgramRefusal.TheVariants.{Class, Code, Typing, Limit, Memory}
use Rattle.linking.proofs.OneProgram.{same_main, same_untyped}
use Rattle.linking.proofs.Phased.{all_sound}

-- a method that is refused is not sound
unsound : (u : UntypedMethod) (kind : TypeKind) (pc : ℕ) → IsRefusal u kind pc → IsSound u → ⊥
unsound u kind pc is sound = sound is.most (record { pc = pc; k = kind; fault = is.fault })

-- one place of two lists that are the same
one_there : (u v : UntypedProgram) (k l : ℕ) (m n : UntypedMethod) → u ≡ v → k ≡ l → slice_get u.methods k ≡ Some m → slice_get v.methods l ≡ Some n → m ≡ n
one_there u v k l m n same at m_there n_there =
    same_Some m n (sym m_there ∙ ap (λ (p : UntypedProgram). slice_get p.methods k) same ∙ ap (slice_get v.methods) at ∙ n_there)

-- kinds of limits of one rank
one_kind : (kind other : LimitKind) → rank kind ≡ rank other → kind ≡ other
one_kind Threads Threads same = refl
one_kind Threads Variables same = absurd (omega (arith, same))
one_kind Threads FrameSlots same = absurd (omega (arith, same))
one_kind Variables Threads same = absurd (omega (arith, same))
one_kind Variables Variables same = refl
one_kind Variables FrameSlots same = absurd (omega (arith, same))
one_kind FrameSlots Threads same = absurd (omega (arith, same))
one_kind FrameSlots Variables same = absurd (omega (arith, same))
one_kind FrameSlots FrameSlots same = refl

three_ways : (a b : ℕ) → (a < b) ⊎ ((a ≡ b) ⊎ (b < a))
three_ways a b = grind arith

one_limit : (p : UntypedProgram) (kind other : LimitKind) → IsFirstPassed p kind → IsFirstPassed p other → kind ≡ other
one_limit p kind other is also = elim (three_ways (rank kind) (rank other)) [
  | inl below ↦ absurd (also.first kind below is.passed)
  | inr (inl same) ↦ one_kind kind other same
  | inr (inr above) ↦ absurd (is.first other above also.passed)
]

module _ (none_of_profile : profile.NoFaultOfProfile) (none_first : code.NoFirstFault) (one_list : code.OneList) (one_untyped : OneUntypedProgram) (classes : List ClassRecord) where
  -- ---- Refusals of two phases

  no_class : (kind : ClassKind) (class : Option ℕ) (main : MethodId) → IsFirstFault classes kind class → HasMainOf classes main → ⊥
  no_class kind class main is has = none_of_profile classes kind class is has.profile

  no_code : (kind : CodeKind) (id : MethodId) (pc : ℕ) (detail : Detail) (u : UntypedProgram) → IsCodeRefusal classes kind id pc detail → IsUntypedOf classes u → ⊥
  no_code kind id pc detail u is untyped =
      let main : untyped.main ≡ is.main = same_main classes untyped.main is.main untyped.has_main is.has_main in
      none_first classes is.main id pc kind detail is.fault (subst (IsFaultless classes) main untyped.faultless)

  no_typing : (kind : TypeKind) (id : MethodId) (pc : ℕ) (u : UntypedProgram) → IsTypingRefusal classes kind id pc → IsUntypedOf classes u →
      ((k : ℕ) (m : UntypedMethod) → slice_get u.methods k ≡ Some m → IsSound m) → ⊥
  no_typing kind id pc u is untyped sound =
      let same = same_untyped one_list one_untyped classes is.untyped u is.is_untyped untyped in
      unsound is.method kind pc is.refusal (sound is.place is.method (ap (λ (p : UntypedProgram). slice_get p.methods is.place) (sym same) ∙ is.there))

  pub program_or_refusal : (p : Prog) (refusal : ProgramRefusal) → IsProgramOf classes p → refusal ≢ Memory → IsRefusedFor classes refusal → ⊥
  program_or_refusal p Memory is not_memory refused = not_memory refl
  program_or_refusal p (Class kind class) is not_memory refused = no_class kind class is.is_untyped.main refused is.is_untyped.has_main
  program_or_refusal p (Code kind id pc detail) is not_memory refused = no_code kind id pc detail is.untyped refused is.is_untyped
  program_or_refusal p (Typing kind id pc) is not_memory refused =
      no_typing kind id pc is.untyped refused is.is_untyped (all_sound is.untyped.methods p.methods is.typed)
  program_or_refusal p (Limit kind) is not_memory refused =
      let same = same_untyped one_list one_untyped classes refused.untyped is.untyped refused.is_untyped is.is_untyped in
      is.limits kind (subst (λ (u : UntypedProgram). IsFirstPassed u kind) same refused.passed).passed

  module _ (one_class : profile.OneFirstFault) (one_code : code.OneFirstFault) (one_type : types.OneRefusal) where
    -- ---- Refusals of one phase

    class_class : (kind other : ClassKind) (class named : Option ℕ) → IsFirstFault classes kind class → IsFirstFault classes other named → Class kind class ≡ Class other named
    class_class kind other class named is also =
        let same = one_class classes kind other class named is also in
        let one : kind ≡ other = same.0 in
        let two : class ≡ named = same.1 in
        cc

    code_code : (kind other : CodeKind) (id named : MethodId) (pc at : ℕ) (detail more : Detail) → IsCodeRefusal classes kind id pc detail → IsCodeRefusal classes other named at more →
        Code kind id pc detail ≡ Code other named at more
    code_code kind other id named pc at detail more is also =
        let main : also.main ≡ is.main = same_main classes also.main is.main also.has_main is.has_main in
        let same = one_code classes is.main id named pc at kind other detail more is.fault
        (subst (λ (m : MethodId). IsFirstCodeFault classes m named at other more) main also.fault) in
        let one : kind ≡ other = same.kind_is in
        let two : id ≡ named = same.method in
        let three : pc ≡ at = same.place in
        let four : detail ≡ more = same.detail_is in
        cc

    typing_typing : (kind other : TypeKind) (id named : MethodId) (pc at : ℕ) → IsTypingRefusal classes kind id pc → IsTypingRefusal classes other named at →
        Typing kind id pc ≡ Typing other named at
    typing_typing kind other id named pc at is also = by_place (three_ways is.place also.place)
      where
        same : is.untyped ≡ also.untyped
        same = same_untyped one_list one_untyped classes is.untyped also.untyped is.is_untyped also.is_untyped

        by_place : (is.place < also.place) ⊎ ((is.place ≡ also.place) ⊎ (also.place < is.place)) → Typing kind id pc ≡ Typing other named at
        by_place (inl below) =
            absurd (unsound is.method kind pc is.refusal (also.before is.place is.method below (ap (λ (p : UntypedProgram). slice_get p.methods is.place) (sym same) ∙ is.there)))
        by_place (inr (inr above)) =
            absurd (unsound also.method other at also.refusal (is.before also.place also.method above (ap (λ (p : UntypedProgram). slice_get p.methods also.place) same ∙ also.there)))
        by_place (inr (inl place)) =
            let method : is.method ≡ also.method = one_there is.untyped also.untyped is.place also.place is.method also.method same place is.there also.there in
            let refusal = one_type also.method kind other pc at (subst (λ (m : UntypedMethod). IsRefusal m kind pc) method is.refusal) also.refusal in
            let one : kind ≡ other = refusal.0 in
            let two : id ≡ named = is.named ∙ ap (λ (m : UntypedMethod). m.id) method ∙ sym also.named in
            let three : pc ≡ at = refusal.1 in
            cc

    limit_limit : (kind other : LimitKind) → IsLimitRefusal classes kind → IsLimitRefusal classes other → Limit kind ≡ Limit other
    limit_limit kind other is also =
        let same = same_untyped one_list one_untyped classes is.untyped also.untyped is.is_untyped also.is_untyped in
        ap (λ (k : LimitKind). Limit k) (one_limit also.untyped kind other (subst (λ (p : UntypedProgram). IsFirstPassed p kind) same is.passed) also.passed)

    -- ---- All of them

    pub one_refusal : (first second : ProgramRefusal) → first ≢ Memory → second ≢ Memory → IsRefusedFor classes first → IsRefusedFor classes second → first ≡ second
    one_refusal Memory second first_is second_is is also = absurd (first_is refl)
    one_refusal (Class kind class) Memory first_is second_is is also = absurd (second_is refl)
    one_refusal (Class kind class) (Class other named) first_is second_is is also = class_class kind other class named is also
    one_refusal (Class kind class) (Code other id pc detail) first_is second_is is also = absurd (no_class kind class also.main is also.has_main)
    one_refusal (Class kind class) (Typing other id pc) first_is second_is is also = absurd (no_class kind class also.is_untyped.main is also.is_untyped.has_main)
    one_refusal (Class kind class) (Limit other) first_is second_is is also = absurd (no_class kind class also.is_untyped.main is also.is_untyped.has_main)
    one_refusal (Code kind id pc detail) Memory first_is second_is is also = absurd (second_is refl)
    one_refusal (Code kind id pc detail) (Class other class) first_is second_is is also = absurd (no_class other class is.main also is.has_main)
    one_refusal (Code kind id pc detail) (Code other named at more) first_is second_is is also = code_code kind other id named pc at detail more is also
    one_refusal (Code kind id pc detail) (Typing other named at) first_is second_is is also = absurd (no_code kind id pc detail also.untyped is also.is_untyped)
    one_refusal (Code kind id pc detail) (Limit other) first_is second_is is also = absurd (no_code kind id pc detail also.untyped is also.is_untyped)
    one_refusal (Typing kind id pc) Memory first_is second_is is also = absurd (second_is refl)
    one_refusal (Typing kind id pc) (Class other class) first_is second_is is also = absurd (no_class other class is.is_untyped.main also is.is_untyped.has_main)
    one_refusal (Typing kind id pc) (Code other named at detail) first_is second_is is also = absurd (no_code other named at detail is.untyped also is.is_untyped)
    one_refusal (Typing kind id pc) (Typing other named at) first_is second_is is also = typing_typing kind other id named pc at is also
    one_refusal (Typing kind id pc) (Limit other) first_is second_is is also = absurd (no_typing kind id pc also.untyped is also.is_untyped also.sound)
    one_refusal (Limit kind) Memory first_is second_is is also = absurd (second_is refl)
    one_refusal (Limit kind) (Class other class) first_is second_is is also = absurd (no_class other class is.is_untyped.main also is.is_untyped.has_main)
    one_refusal (Limit kind) (Code other named at detail) first_is second_is is also = absurd (no_code other named at detail is.untyped also is.is_untyped)
    one_refusal (Limit kind) (Typing other named at) first_is second_is is also = absurd (no_typing other named at is.untyped also is.is_untyped is.sound)
    one_refusal (Limit kind) (Limit other) first_is second_is is also = limit_limit kind other is also
