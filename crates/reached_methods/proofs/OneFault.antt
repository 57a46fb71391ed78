-- A program has at most one first fault.
use Rattle.std.proofs.Common.{◌≡◌, ◌≢◌, ◌<◌, ◌⊎◌, inl, inr, ℕ, List, Option, refl, sym, ap, ap₂, subst, ◌∙◌, arith}
use Rattle.std.proofs.lemmas.Bool.{cases_lt}
use Rattle.class_format.specs.declared.record.ClassRecord.{ClassRecord}
use Rattle.class_format.specs.declared.record.CodeBody.{CodeBody}
use Rattle.opcodes.specs.Faults.{IsUnknown}
use Rattle.opcodes.specs.Instructions.{Decodes}
use Rattle.opcodes.specs.declared.instruction.Instr.{Instr}
use Rattle.opcodes.proofs.Unique.{decodes_once, same_number}
use Rattle.program.specs.declared.method.MethodId.{MethodId}
use Rattle.resolution.specs.Resolution.{Resolved, Unknown, Forbidden, resolve}
use Rattle.reached_methods.specs.CodeFaults.{HasCodeFault, IsFirstCodeFault, IsPlaceIn, earlier_method, earlier_place, earlier_kind, rank, name_detail, unknown_number, cut, misses, unknown_name, forbidden, final, recursion, in_loop}
use Rattle.reached_methods.specs.Laws.{IsSameFault}
use Rattle.reached_methods.specs.Reached.{IsBefore, IsInstructionAt, is_method}
use Rattle.reached_methods.specs.declared.refusal.CodeKind.{CodeKind}
use Rattle.reached_methods.specs.declared.refusal.CodeKind.TheVariants.{Opcode, CutInstruction, JumpTarget, UnknownName, ForbiddenCall, FinalAccess, Recursion, ThreadInLoop}
use Rattle.reached_methods.specs.declared.refusal.Detail.{Detail}
use Rattle.reached_methods.specs.declared.refusal.Detail.TheVariants.{Nothing, Number, Name}
use Rattle.opcodes.specs.Reached.{IsListingOf}
use Rattle.opcodes.specs.declared.listed.Listed.{Listed}
use Rattle.opcodes.proofs.SameListing.{one_listing}
use Rattle.reached_methods.proofs.Codes.{same_class, same_code}

-- ---- Kinds

same_kind : (a b : CodeKind) → rank a ≡ rank b → a ≡ b
same_kind Opcode Opcode e = refl
same_kind CutInstruction CutInstruction e = refl
same_kind JumpTarget JumpTarget e = refl
same_kind UnknownName UnknownName e = refl
same_kind ForbiddenCall ForbiddenCall e = refl
same_kind FinalAccess FinalAccess e = refl
same_kind Recursion Recursion e = refl
same_kind ThreadInLoop ThreadInLoop e = refl
same_kind _ _ e = absurd (omega (arith, e))

-- ---- Details

-- an instruction names one thing
one_name : (classes : List ClassRecord) (main id : MethodId) (pc : ℕ) (i j : Instr) (r s : Resolved) → IsInstructionAt classes main id pc i r → IsInstructionAt classes main id pc j s → r ≡ s
one_name classes main id pc i j r s a b =
    let class = same_class classes id a.class b.class a.body b.body a.code b.code in
    let body = same_code classes id a.class b.class a.body b.body a.code b.code in
    let instr = decodes_once b.body.code pc i j (subst (λ (c : CodeBody). Decodes c.code pc i) body a.decodes) b.decodes in
    let listing : a.listing ≡ b.listing = one_listing b.body.code a.listing b.listing (subst (λ (c : CodeBody). IsListingOf c.code a.listing) body a.is_listing) b.is_listing in
    sym a.resolved ∙ ap₂ (λ (c : ClassRecord) (k : Instr). resolve classes (is_method id main) c.pool a.listing (record { pc = pc; instr = k })) class instr
    ∙ ap (λ (xs : List Listed). resolve classes (is_method id main) b.class.pool xs (record { pc = pc; instr = j })) listing ∙ b.resolved

one_number : (classes : List ClassRecord) (id : MethodId) (pc : ℕ) (c d : List ℕ) (m n : ℕ) → IsPlaceIn classes id pc c → IsPlaceIn classes id pc d → IsUnknown c pc m → IsUnknown d pc n → m ≡ n
one_number classes id pc c d m n p q u v =
    let body = same_code classes id p.class q.class p.body q.body p.has_code q.has_code in
    let same : c ≡ d = sym p.code_is ∙ ap (λ (b : CodeBody). b.code) body ∙ q.code_is in
    same_number d pc m n (subst (λ (x : List ℕ). IsUnknown x pc m) same u).there v.there

clash : {P : Type 0} (kind : CodeKind) (m n : ℕ) → rank kind ≡ m → rank kind ≡ n → m ≢ n → P
clash kind m n e f other = absurd (other (sym e ∙ f))

of_number : (classes : List ClassRecord) (main id : MethodId) (pc : ℕ) (kind : CodeKind) (detail : Detail) (c : List ℕ) (m : ℕ) → IsPlaceIn classes id pc c → IsUnknown c pc m → rank kind ≡ 9 →
    HasCodeFault classes main id pc kind detail → detail ≡ Number m
of_number classes main id pc kind detail c m p u is (unknown_number d n q v k e) = e ∙ ap Number (one_number classes id pc d c n m q p v u)
of_number classes main id pc kind detail c m p u is (cut d q v k e) = clash kind 9 10 is (ap rank k) (λ x. omega (arith, x))
of_number classes main id pc kind detail c m p u is (misses d q v k e) = clash kind 9 11 is (ap rank k) (λ x. omega (arith, x))
of_number classes main id pc kind detail c m p u is (unknown_name instr name i k e) = clash kind 9 12 is (ap rank k) (λ x. omega (arith, x))
of_number classes main id pc kind detail c m p u is (forbidden instr name i k e) = clash kind 9 13 is (ap rank k) (λ x. omega (arith, x))
of_number classes main id pc kind detail c m p u is (final instr i k e) = clash kind 9 14 is (ap rank k) (λ x. omega (arith, x))
of_number classes main id pc kind detail c m p u is (recursion instr called i w k e) = clash kind 9 15 is (ap rank k) (λ x. omega (arith, x))
of_number classes main id pc kind detail c m p u is (in_loop index names same i j k e) = clash kind 9 16 is (ap rank k) (λ x. omega (arith, x))

of_unknown : (classes : List ClassRecord) (main id : MethodId) (pc : ℕ) (kind : CodeKind) (detail : Detail) (j : Instr) (o : Option (List ℕ)) → IsInstructionAt classes main id pc j (Unknown o) → rank kind ≡ 12 →
    HasCodeFault classes main id pc kind detail → detail ≡ name_detail o
of_unknown classes main id pc kind detail j o a is (unknown_number d n q v k e) = clash kind 12 9 is (ap rank k) (λ x. omega (arith, x))
of_unknown classes main id pc kind detail j o a is (cut d q v k e) = clash kind 12 10 is (ap rank k) (λ x. omega (arith, x))
of_unknown classes main id pc kind detail j o a is (misses d q v k e) = clash kind 12 11 is (ap rank k) (λ x. omega (arith, x))
of_unknown classes main id pc kind detail j o a is (unknown_name instr name i k e) =
    let named = one_name classes main id pc instr j (Unknown name) (Unknown o) i a in
    let same : name ≡ o = cc in e ∙ ap name_detail same
of_unknown classes main id pc kind detail j o a is (forbidden instr name i k e) = clash kind 12 13 is (ap rank k) (λ x. omega (arith, x))
of_unknown classes main id pc kind detail j o a is (final instr i k e) = clash kind 12 14 is (ap rank k) (λ x. omega (arith, x))
of_unknown classes main id pc kind detail j o a is (recursion instr called i w k e) = clash kind 12 15 is (ap rank k) (λ x. omega (arith, x))
of_unknown classes main id pc kind detail j o a is (in_loop index names same i w k e) = clash kind 12 16 is (ap rank k) (λ x. omega (arith, x))

of_forbidden : (classes : List ClassRecord) (main id : MethodId) (pc : ℕ) (kind : CodeKind) (detail : Detail) (j : Instr) (o : List ℕ) → IsInstructionAt classes main id pc j (Forbidden o) → rank kind ≡ 13 →
    HasCodeFault classes main id pc kind detail → detail ≡ Name o
of_forbidden classes main id pc kind detail j o a is (unknown_number d n q v k e) = clash kind 13 9 is (ap rank k) (λ x. omega (arith, x))
of_forbidden classes main id pc kind detail j o a is (cut d q v k e) = clash kind 13 10 is (ap rank k) (λ x. omega (arith, x))
of_forbidden classes main id pc kind detail j o a is (misses d q v k e) = clash kind 13 11 is (ap rank k) (λ x. omega (arith, x))
of_forbidden classes main id pc kind detail j o a is (unknown_name instr name i k e) = clash kind 13 12 is (ap rank k) (λ x. omega (arith, x))
of_forbidden classes main id pc kind detail j o a is (forbidden instr name i k e) =
    let named = one_name classes main id pc instr j (Forbidden name) (Forbidden o) i a in
    let same : name ≡ o = cc in e ∙ ap Name same
of_forbidden classes main id pc kind detail j o a is (final instr i k e) = clash kind 13 14 is (ap rank k) (λ x. omega (arith, x))
of_forbidden classes main id pc kind detail j o a is (recursion instr called i w k e) = clash kind 13 15 is (ap rank k) (λ x. omega (arith, x))
of_forbidden classes main id pc kind detail j o a is (in_loop index names same i w k e) = clash kind 13 16 is (ap rank k) (λ x. omega (arith, x))

-- the other kinds have no detail
of_nothing : (classes : List ClassRecord) (main id : MethodId) (pc : ℕ) (kind : CodeKind) (detail : Detail) → rank kind ≢ 9 → rank kind ≢ 12 → rank kind ≢ 13 →
    HasCodeFault classes main id pc kind detail → detail ≡ Nothing
of_nothing classes main id pc kind detail no9 no12 no13 (unknown_number d n q v k e) = absurd (no9 (ap rank k))
of_nothing classes main id pc kind detail no9 no12 no13 (cut d q v k e) = e
of_nothing classes main id pc kind detail no9 no12 no13 (misses d q v k e) = e
of_nothing classes main id pc kind detail no9 no12 no13 (unknown_name instr name i k e) = absurd (no12 (ap rank k))
of_nothing classes main id pc kind detail no9 no12 no13 (forbidden instr name i k e) = absurd (no13 (ap rank k))
of_nothing classes main id pc kind detail no9 no12 no13 (final instr i k e) = e
of_nothing classes main id pc kind detail no9 no12 no13 (recursion instr called i w k e) = e
of_nothing classes main id pc kind detail no9 no12 no13 (in_loop index names same i w k e) = e

plain : (classes : List ClassRecord) (main id : MethodId) (pc : ℕ) (kind : CodeKind) (detail other : Detail) (n : ℕ) → rank kind ≡ n → n ≢ 9 → n ≢ 12 → n ≢ 13 → detail ≡ Nothing →
    HasCodeFault classes main id pc kind other → detail ≡ other
plain classes main id pc kind detail other n is no9 no12 no13 e g =
    e ∙ sym (of_nothing classes main id pc kind other (λ x. no9 (sym is ∙ x)) (λ x. no12 (sym is ∙ x)) (λ x. no13 (sym is ∙ x)) g)

same_detail : (classes : List ClassRecord) (main id : MethodId) (pc : ℕ) (kind : CodeKind) (detail other : Detail) → HasCodeFault classes main id pc kind detail →
    HasCodeFault classes main id pc kind other → detail ≡ other
same_detail classes main id pc kind detail other (unknown_number c m p u k e) g = e ∙ sym (of_number classes main id pc kind other c m p u (ap rank k) g)
same_detail classes main id pc kind detail other (cut c p v k e) g = plain classes main id pc kind detail other 10 (ap rank k) (λ x. omega (arith, x)) (λ x. omega (arith, x)) (λ x. omega (arith, x)) e g
same_detail classes main id pc kind detail other (misses c p v k e) g = plain classes main id pc kind detail other 11 (ap rank k) (λ x. omega (arith, x)) (λ x. omega (arith, x)) (λ x. omega (arith, x)) e g
same_detail classes main id pc kind detail other (unknown_name instr name i k e) g = e ∙ sym (of_unknown classes main id pc kind other instr name i (ap rank k) g)
same_detail classes main id pc kind detail other (forbidden instr name i k e) g = e ∙ sym (of_forbidden classes main id pc kind other instr name i (ap rank k) g)
same_detail classes main id pc kind detail other (final instr i k e) g = plain classes main id pc kind detail other 14 (ap rank k) (λ x. omega (arith, x)) (λ x. omega (arith, x)) (λ x. omega (arith, x)) e g
same_detail classes main id pc kind detail other (recursion instr called i w k e) g = plain classes main id pc kind detail other 15 (ap rank k) (λ x. omega (arith, x)) (λ x. omega (arith, x)) (λ x. omega (arith, x)) e g
same_detail classes main id pc kind detail other (in_loop index names same i j k e) g = plain classes main id pc kind detail other 16 (ap rank k) (λ x. omega (arith, x)) (λ x. omega (arith, x)) (λ x. omega (arith, x)) e g

-- ---- Places

-- one stands before the other, or they are one
compared : (a b : MethodId) → (IsBefore a b ⊎ IsBefore b a) ⊎ (a ≡ b)
compared a b = elim (cases_lt a.class b.class) [
  | inl lt ↦ inl (inl (inl lt))
  | inr ge ↦ elim (cases_lt b.class a.class) [
    | inl gt ↦ inl (inr (inl gt))
    | inr le ↦ (let class : a.class ≡ b.class = omega arith in elim (cases_lt a.method b.method) [
      | inl lt ↦ inl (inl (inr (class, lt)))
      | inr ge' ↦ elim (cases_lt b.method a.method) [
        | inl gt ↦ inl (inr (inr (sym class, gt)))
        | inr le' ↦ (let method : a.method ≡ b.method = omega arith in
            inr (ap₂ (λ (c m : ℕ). let id : MethodId = record { class = c; method = m } in id) class method))
      ]
    ])
  ]
]

numbers : (m n : ℕ) → ((m < n) ⊎ (n < m)) ⊎ (m ≡ n)
numbers m n = elim (cases_lt m n) [
  | inl lt ↦ inl (inl lt)
  | inr ge ↦ elim (cases_lt n m) [ inl gt ↦ inl (inr gt) | inr le ↦ inr (omega arith) ]
]

same_fault : (classes : List ClassRecord) (main id other : MethodId) (pc other_pc : ℕ) (kind other_kind : CodeKind) (detail other_detail : Detail) →
    IsFirstCodeFault classes main id pc kind detail → IsFirstCodeFault classes main other other_pc other_kind other_detail → id ≡ other → pc ≡ other_pc → kind ≡ other_kind →
    IsSameFault id pc kind detail other other_pc other_kind other_detail
same_fault classes main id other pc other_pc kind other_kind detail other_detail f g method place is =
    let P : MethodId → Type 0 = λ i. HasCodeFault classes main i pc kind detail in
    let Q : ℕ → Type 0 = λ n. HasCodeFault classes main other n kind detail in
    let R : CodeKind → Type 0 = λ k. HasCodeFault classes main other other_pc k detail in
    record {
      method = method;
      place = place;
      kind_is = is;
      detail_is = same_detail classes main other other_pc other_kind detail other_detail (subst R is (subst Q place (subst P method f.fault.fault))) g.fault.fault;
    }

pub one_first : (classes : List ClassRecord) (main id other : MethodId) (pc other_pc : ℕ) (kind other_kind : CodeKind) (detail other_detail : Detail) →
    IsFirstCodeFault classes main id pc kind detail → IsFirstCodeFault classes main other other_pc other_kind other_detail →
    IsSameFault id pc kind detail other other_pc other_kind other_detail
one_first classes main id other pc other_pc kind other_kind detail other_detail f g = elim (compared id other) [
  | inl apart ↦ elim apart [
    | inl before ↦ absurd (g.first id pc kind detail f.fault (earlier_method before))
    | inr after ↦ absurd (f.first other other_pc other_kind other_detail g.fault (earlier_method after))
  ]
  | inr method ↦ elim (numbers pc other_pc) [
    | inl apart ↦ elim apart [
      | inl before ↦ absurd (g.first id pc kind detail f.fault (earlier_place method before))
      | inr after ↦ absurd (f.first other other_pc other_kind other_detail g.fault (earlier_place (sym method) after))
    ]
    | inr place ↦ elim (numbers (rank kind) (rank other_kind)) [
      | inl apart ↦ elim apart [
        | inl before ↦ absurd (g.first id pc kind detail f.fault (earlier_kind method place before))
        | inr after ↦ absurd (f.first other other_pc other_kind other_detail g.fault (earlier_kind (sym method) (sym place) after))
      ]
      | inr is ↦ same_fault classes main id other pc other_pc kind other_kind detail other_detail f g method place (same_kind kind other_kind is)
    ]
  ]
]
