-- Each place at which a path of a method ends is that of an instruction of it.
use Rattle.std.proofs.Common.{zero, suc, ◌≡◌, ◌<◌, ◌+ℤ◌, ℕ, ℤ, pos, negsuc, List, [], ◌∷◌, Some, length, slice_get, refl, sym, ap, subst, ◌∙◌, arith, inl, inr}
use Rattle.std.specs.Prelude.{All}
use Rattle.std.proofs.lemmas.Bool.{cases_lt}
use Rattle.std.proofs.lemmas.Int.{ints}
use Rattle.std.proofs.lemmas.List.{length-map}
use Rattle.std.proofs.lemmas.Option.{none-some, same_Some, slice_get_within}
use Rattle.class_format.specs.ClassText.{IsValid}
use Rattle.class_format.specs.declared.record.ClassRecord.{ClassRecord}
use Rattle.opcodes.specs.Faults.{HasFault, leaves}
use Rattle.opcodes.specs.Instructions.{Decodes, Follows, Successor, jump_of, jumps}
use Rattle.opcodes.specs.Reached.{Reached}
use Rattle.opcodes.specs.declared.instruction.Instr.{Instr}
use Rattle.opcodes.specs.declared.listed.Listed.{Listed}
use Rattle.program.proofs.Lists.{contains_at, place_of, there_is}
use Rattle.program.specs.Program.{Prog, IsInstruction}
use Rattle.program.specs.declared.method.Method.{Method}
use Rattle.program.specs.declared.method.MethodId.{MethodId}
use Rattle.program.specs.declared.method.Operand.{Operand}
use Rattle.program.specs.declared.value_type.TypedState.{TypedState}
use Rattle.relations.proofs.Paths.{walked}
use Rattle.relations.specs.Path.{here}
use Rattle.resolution.specs.Resolution.{Names}
use Rattle.typing.specs.Paths.{Path}
use Rattle.typing.specs.States.{FrameState}
use Rattle.typing.specs.declared.symbol.Symbol.{Symbol}
use Rattle.untyped_program.specs.Monitors.{monitors_of}
use Rattle.untyped_program.specs.Variables.{number_of}
use Rattle.linking.proofs.Readable.{stands}
use Rattle.linking.proofs.Typable.{as_many_symbols, no_fault, valid_code}
use Rattle.linking.specs.Linking.{IsProgramOf}
use Rattle.linking.specs.Operands.{operand_of, operands_of, top_of}
use Rattle.linked_laws.proofs.Methods.{Comes}

-- ---- Places of faultless code

module _ (code : List ℕ) (sound : (pc : ℕ) → HasFault code pc → ⊥) where
  -- a successor is a place of the code
  stays_inside : (pc to : ℕ) (i : Instr) → Reached code pc → Decodes code pc i → Successor pc i (pos to) → to < length code
  stays_inside pc to i reached decodes successor = elim (cases_lt to (length code)) [
    | inl within ↦ within
    | inr beyond ↦ absurd (sound pc (leaves reached (record { instr = i; decodes = decodes; to = pos to; successor = successor; outside = inr (omega (arith, ints, beyond)) })))
  ]

  -- a jump has its target
  target_in : (pc : ℕ) (i : Instr) (distance : ℤ) → Reached code pc → Decodes code pc i → jump_of i ≡ Some distance → (n : ℕ) × (pos n ≡ pos pc +ℤ distance)
  target_in pc i distance reached decodes jump = pick (pos pc +ℤ distance) refl
    where
      pick : (z : ℤ) → z ≡ pos pc +ℤ distance → (n : ℕ) × (pos n ≡ pos pc +ℤ distance)
      pick (pos n) is = (n, is)
      pick (negsuc n) is = absurd (sound pc (leaves reached (record { instr = i; decodes = decodes; to = negsuc n; successor = jumps distance jump is; outside = inl (omega (arith, ints)) })))

-- ---- Operands by place

operand_there : (items : List Listed) (symbols : List Symbol) (states : List TypedState) (k : ℕ) (item : Listed) (s : Symbol) (state : TypedState) → slice_get items k ≡ Some item →
    slice_get symbols k ≡ Some s → slice_get states k ≡ Some state → slice_get (operands_of items symbols states) k ≡ Some (operand_of item.instr s (top_of state))
operand_there [] symbols states k item s state one two three = absurd (none-some item one)
operand_there (x ∷ items) [] states k item s state one two three = absurd (none-some s two)
operand_there (x ∷ items) (y ∷ symbols) [] k item s state one two three = absurd (none-some state three)
operand_there (x ∷ items) (y ∷ symbols) (z ∷ states) zero item s state one two three =
    let first : x ≡ item = same_Some x item one in
    let second : y ≡ s = same_Some y s two in
    let third : z ≡ state = same_Some z state three in
    λ i. Some (operand_of (first i).instr (second i) (top_of (third i)))
operand_there (x ∷ items) (y ∷ symbols) (z ∷ states) (suc k) item s state one two three = operand_there items symbols states k item s state one two three

module _ (classes : List ClassRecord) (p : Prog) (is : IsProgramOf classes p) (valid : All IsValid classes) (m : Method) (from : Comes classes p is m) where
  abbrev main : MethodId
  main = is.is_untyped.main

  abbrev bytes : List ℕ
  bytes = from.reached.body.code

  some : 0 < length bytes
  some = (valid_code classes from.r.id from.reached.class from.reached.body valid from.reached.code).some_code

  sound : (pc : ℕ) → HasFault bytes pc → ⊥
  sound = no_fault classes main is.is_untyped.faultless from.r.id from.reached.class from.reached.body from.reached.reached from.reached.code some

  -- the code at a place of the listing
  pub decodes_at : (place pc : ℕ) (i : Instr) → slice_get from.u.listing place ≡ Some (record { pc = pc; instr = i }) → Decodes bytes pc i
  decodes_at place pc i there =
      from.reached.listing.decodes pc i (contains_at from.r.listing place (record { pc = pc; instr = i }) (ap (λ (l : List Listed). slice_get l place) (sym from.untyped.listing) ∙ there))

  pub reaches : (steps pc : ℕ) (s : FrameState) → Path from.u steps pc s → Reached bytes pc × (pc < length bytes)
  reaches zero pc s path =
      subst (λ (n : ℕ). Reached bytes n × (n < length bytes)) (sym path.0) (here, some)
  reaches (suc steps) pc s (before, state, path, step) =
      let earlier = reaches steps before state path in
      let decodes = decodes_at step.place before step.instr step.stands.listed in
      let inside = stays_inside bytes sound before pc step.instr earlier.0 decodes step.successor in
      (walked (Follows bytes) 0 before pc earlier.0 (record { instr = step.instr; decodes = decodes; successor = step.successor; inside = inside }), inside)

  pub target_of : (pc : ℕ) (i : Instr) (distance : ℤ) → Reached bytes pc → Decodes bytes pc i → jump_of i ≡ Some distance → (n : ℕ) × (pos n ≡ pos pc +ℤ distance)
  target_of pc i distance reached decodes jump = target_in bytes sound pc i distance reached decodes jump

  -- the instruction at which a path ends, with what it names
  pub record Found (pc : ℕ) : Type 0 where
    pub i : Instr
    pub names : Operand
    pub instruction : IsInstruction m pc i names

  pub found_at : (steps pc : ℕ) (s : FrameState) → Path from.u steps pc s → Found pc
  found_at steps pc s path =
      let at = reaches steps pc s path in
      let standing = stands bytes sound from.r.listing from.reached.listing pc at.0 at.1 in
      let item : Listed = record { pc = pc; instr = standing.0 } in
      let k = place_of from.r.listing item standing.1 in
      let there : slice_get from.u.listing k.0 ≡ Some item = ap (λ (l : List Listed). slice_get l k.0) from.untyped.listing ∙ k.1 in
      let within = slice_get_within from.u.listing k.0 item there in
      let whole = from.typed.typing.whole in
      let many : length from.u.symbols ≡ length from.u.listing =
      sym (length-map from.u.symbols Some) ∙ ap length from.untyped.symbols
      ∙ as_many_symbols classes main is.is_untyped.faultless (number_of classes is.is_untyped.methods) (monitors_of classes is.is_untyped.methods) from.untyped.class.pool 0 from.r.targets
      ∙ sym (length-map from.r.targets Names) ∙ sym (ap length from.reached.targets) ∙ length-map from.r.listing _ ∙ sym (ap length from.untyped.listing) in
      let s = there_is from.u.symbols k.0 (omega (arith, within, many)) in
      let state = there_is m.typed k.0 (omega (arith, within, whole)) in
      record {
        i = standing.0;
        names = operand_of standing.0 s.0 (top_of state.0);
        instruction = record {
          place = k.0;
          listed = ap (λ (l : List Listed). slice_get l k.0) from.typed.listing ∙ there;
          names = ap (λ (l : List Operand). slice_get l k.0) from.typed.operands ∙ operand_there from.u.listing from.u.symbols m.typed k.0 item s.0 state.0 there s.1 state.1;
        };
      }
