-- Frames still match their paths behind a step.
use Rattle.std.proofs.Common.{suc, int_le, int_lt, neg_ℤ, ◌^◌, ◌&&◌, ◌+ℤ◌, ◌≡◌, ◌≤◌, ◌+◌, ◌++◌, ◌⊎◌, ℕ, ℤ, Bool, true, false, List, [], ◌∷◌, Option, Some, length, nat_lt, reverse, slice_get, refl, sym, ap, subst, ◌∙◌, arith, inl, inr, pos, Contains, if◌then◌else◌}
use Rattle.std.proofs.lemmas.Bool.{lt-ltb, ltb-true}
use Rattle.std.proofs.lemmas.Int.{ints}
use Rattle.std.proofs.lemmas.List.{length-reverse}
use Rattle.std.proofs.lemmas.Option.{none-some, same_Some}
use Rattle.class_format.specs.declared.record.ClassRecord.{ClassRecord}
use Rattle.opcodes.specs.Instructions.{FallsThrough, Successor, falls, jumps, jump_of, length_of}
use Rattle.opcodes.specs.declared.instruction.Instr.{Instr}
use Rattle.opcodes.specs.declared.instruction.Instr.TheVariants as instr
use Rattle.program.proofs.Lists.{contains_cases, contains_here, contains_later, contains_nil}
use Rattle.program.specs.Ints.{IsInt}
use Rattle.program.specs.Program.{Prog, IsInstruction, IsMethod}
use Rattle.program.specs.Step.{Activation, Effect, JavaValue, Step, entered_with}
use Rattle.program.specs.Step as java
use Rattle.program.specs.declared.event.Event.{Event}
use Rattle.program.specs.declared.event.Event.TheVariants as event
use Rattle.program.specs.declared.method.Method.{Method}
use Rattle.program.specs.declared.method.MethodId.{MethodId}
use Rattle.program.specs.declared.method.Operand.{Operand}
use Rattle.program.specs.declared.method.Operand.TheVariants as operand
use Rattle.program.specs.declared.value_type.ValueType.{ValueType}
use Rattle.program.specs.declared.value_type.ValueType.TheVariants as type
use Rattle.thread_meaning.specs.Changes as acting
use Rattle.thread_meaning.specs.Changes.{change_of, in_int_range}
use Rattle.thread_meaning.specs.Doings.{doing_of}
use Rattle.thread_meaning.specs.Outcomes.{Outcome}
use Rattle.thread_meaning.specs.Paths.{IsOrdered}
use Rattle.thread_meaning.specs.Outcomes as outcome
use Rattle.thread_meaning.specs.declared.doing.Doing.{Doing}
use Rattle.thread_meaning.specs.declared.doing.Doing.TheVariants as doing
use Rattle.thread_meaning.proofs.Acting.{kept}
use Rattle.thread_meaning.proofs.Normal.{Normal, normal}
use Rattle.thread_meaning.proofs.Running.{contains_reversed}
use Rattle.thread_meaning.proofs.Unique.{one_instruction, one_method}
use Rattle.typing.specs.Changes.{Change, Changes, behind, below_ints, meets, pushes_result}
use Rattle.typing.specs.Changes as typing
use Rattle.typing.specs.Deeds.{deed_of}
use Rattle.typing.specs.States.{FrameState}
use Rattle.typing.specs.Typing.{Arrives}
use Rattle.typing.specs.declared.change.HeldChange.TheVariants as held
use Rattle.typing.specs.declared.change.LocalChange.TheVariants as local
use Rattle.typing.specs.declared.change.ThreadChange.TheVariants as thread
use Rattle.typing.specs.declared.symbol.Symbol.{Symbol}
use Rattle.typing.specs.declared.symbol.Symbol.TheVariants as symbol
use Rattle.linking.specs.Linking.{IsProgramOf}
use Rattle.linking.specs.Operands.{operand_of}
use Rattle.linked_laws.proofs.Methods.{Comes, comes}
use Rattle.linked_laws.proofs.Ordered.{are_ordered}
use Rattle.linked_laws.proofs.Ranged.{SymbolFits, symbols_fit}
use Rattle.typed_runs.specs.Counts.{counts_behind, held_after, innermost_after, nothing_held, without_innermost}
use Rattle.typed_runs.specs.Types.{AreTyped}
use Rattle.typed_runs.proofs.Called.{called_is}
use Rattle.typed_runs.proofs.Jumping.{jump_lands}
use Rattle.typed_runs.proofs.Acts.{Kind, kind, stays, reads, calls, returns, returns_int}
use Rattle.typed_runs.proofs.Acts as kinds
use Rattle.typed_runs.proofs.Matching.{Pair, pair}
use Rattle.typed_runs.proofs.Standing.{Meets, Place, Standing, called_entered, does_at, further, meets_at, place_at}
use Rattle.typed_runs.proofs.Values.{AreInts, IntsAbove, ints_above}
use Rattle.typed_runs.proofs.Yielding.{Matches, with_result}

-- ---- Arguments

split : (xs rest : List JavaValue) (below : List ValueType) → IntsAbove (length xs) (xs ++ rest) below → AreInts xs × AreTyped rest below
split [] rest below above = (tt, above)
split (java.Int n ∷ xs) rest below above = split xs rest below above
split (x ∷ xs) rest below above = absurd above

are_ints : (xs : List JavaValue) → ((v : JavaValue) → Contains xs v → AreInts (v ∷ [])) → AreInts xs
are_ints [] each = tt
are_ints (java.Int n ∷ xs) each = are_ints xs (λ v there. each v (contains_later (java.Int n) v xs there))
are_ints (x ∷ xs) each = absurd (each x (contains_here x xs))

one_int : (xs : List JavaValue) (v : JavaValue) → AreInts xs → Contains xs v → AreInts (v ∷ [])
one_int [] v ints there = absurd (contains_nil v there)
one_int (java.Int n ∷ xs) v ints there = elim (contains_cases (java.Int n) v xs there) [
  | inl same ↦ subst (λ (x : JavaValue). AreInts (x ∷ [])) same tt
  | inr later ↦ one_int xs v ints later
]
one_int (x ∷ xs) v ints there = absurd ints

ints_reversed : (xs : List JavaValue) → AreInts (reverse xs) → AreInts xs
ints_reversed xs ints = are_ints xs (λ v there. one_int (reverse xs) v ints (contains_reversed xs v there))

-- the arguments of a call, and what is below them
taken_off : (count : ℕ) (arguments rest stack : List JavaValue) (ts below : List ValueType) → stack ≡ reverse arguments ++ rest → length arguments ≡ count → AreTyped stack ts →
    below_ints count ts ≡ Some below → AreInts arguments × AreTyped rest below
taken_off count arguments rest stack ts below stack_is many typed is =
    let size : count ≡ length (reverse arguments) = sym (length-reverse arguments ∙ many) in
    let above = subst (λ (n : ℕ). IntsAbove n (reverse arguments ++ rest) below) size
    (subst (λ (vs : List JavaValue). IntsAbove count vs below) stack_is (ints_above count stack ts below typed is)) in
    let both = split (reverse arguments) rest below above in
    (ints_reversed arguments both.0, both.1)

-- ---- Counts

not_below : (n m : ℕ) → m ≤ n → nat_lt n m ≡ false
not_below n m least = pick (nat_lt n m) refl
  where
    pick : (b : Bool) → nat_lt n m ≡ b → nat_lt n m ≡ false
    pick true is = absurd (let less = ltb-true n m is in omega (arith, less, least))
    pick false is = is

counts_by : (b c : Bool) (before after : ℕ) (e : Option Event) (counts : List (ℕ → ℕ)) → nat_lt before after ≡ b → nat_lt after before ≡ c →
    counts_behind before after e counts ≡ (if b then nothing_held ∷ counts else if c then without_innermost counts else innermost_after e counts)
counts_by b c before after e counts first second =
    ap (λ (x : Bool). if x then nothing_held ∷ counts else if nat_lt after before then without_innermost counts else innermost_after e counts) first
    ∙ ap (λ (x : Bool). if b then nothing_held ∷ counts else if x then without_innermost counts else innermost_after e counts) second

staying : (n : ℕ) (e : Option Event) (counts : List (ℕ → ℕ)) → counts_behind n n e counts ≡ innermost_after e counts
staying n e counts = counts_by false false n n e counts (not_below n n (omega arith)) (not_below n n (omega arith))

entering : (n : ℕ) (e : Option Event) (counts : List (ℕ → ℕ)) → counts_behind n (suc n) e counts ≡ nothing_held ∷ counts
entering n e counts = counts_by true false n (suc n) e counts (lt-ltb n (suc n) (omega arith)) (not_below (suc n) n (omega arith))

leaving : (n : ℕ) (e : Option Event) (counts : List (ℕ → ℕ)) → counts_behind (suc n) n e counts ≡ without_innermost counts
leaving n e counts = counts_by false true (suc n) n e counts (not_below (suc n) n (omega arith)) (lt-ltb n (suc n) (omega arith))

in_range : (n : ℤ) → IsInt n → in_int_range n ≡ true
in_range n (low, high) = both (int_le (neg_ℤ (pos (2 ^ 31))) n) (int_lt n (pos (2 ^ 31))) refl refl
  where
    both : (s t : Bool) → int_le (neg_ℤ (pos (2 ^ 31))) n ≡ s → int_lt n (pos (2 ^ 31)) ≡ t → (s && t) ≡ true
    both true true is_low is_high = refl
    both true false is_low is_high = absurd (omega (arith, ints))
    both false t is_low is_high = absurd (omega (arith, ints))

-- ---- What an instruction is not

no_change_reads : (v next : ℕ) (a : Activation) (e : Doing) (x : acting.Change) → e ≡ doing.Read v → change_of e next a ≡ Some x → ⊥
no_change_reads v next a e x is has = none-some x (sym (ap (λ (d : Doing). change_of d next a) is) ∙ has)

no_change_calls : (id : MethodId) (next : ℕ) (a : Activation) (e : Doing) (x : acting.Change) → e ≡ doing.Call id → change_of e next a ≡ Some x → ⊥
no_change_calls id next a e x is has = none-some x (sym (ap (λ (d : Doing). change_of d next a) is) ∙ has)

no_change_returns : (next : ℕ) (a : Activation) (e : Doing) (x : acting.Change) → e ≡ doing.Return → change_of e next a ≡ Some x → ⊥
no_change_returns next a e x is has = none-some x (sym (ap (λ (d : Doing). change_of d next a) is) ∙ has)

no_change_returns_int : (next : ℕ) (a : Activation) (e : Doing) (x : acting.Change) → e ≡ doing.ReturnInt → change_of e next a ≡ Some x → ⊥
no_change_returns_int next a e x is has = none-some x (sym (ap (λ (d : Doing). change_of d next a) is) ∙ has)

module _ (result : Bool) (max next : ℕ) (a : Activation) (count : ℕ → ℕ) (s : FrameState) (i : Instr) (name : Symbol) (c : Change) (e : Doing) where
  -- a read pushes an int
  pub as_read : (v : ℕ) → Kind result max next a count s i name c e → e ≡ doing.Read v → FallsThrough i × (pushes_result true (below_ints 0 s.stack) ≡ Changes c)
  as_read v (stays through y) is = absurd (no_change_reads v next a e y.change is y.is)
  as_read v (kinds.jumps t distance jump through e_is met) is = absurd (let never : doing.Jump t distance ≡ doing.Read v = sym e_is ∙ is in cc)
  as_read v (reads w through e_is met) is = (through, met)
  as_read v (calls index id parameters leaves i_is named e_is met) is = absurd (let never : doing.Call id ≡ doing.Read v = sym e_is ∙ is in cc)
  as_read v (returns e_is met) is = absurd (let never : doing.Return ≡ doing.Read v = sym e_is ∙ is in cc)
  as_read v (returns_int e_is met) is = absurd (let never : doing.ReturnInt ≡ doing.Read v = sym e_is ∙ is in cc)

  pub record Calling (callee : MethodId) : Type 0 where
    pub index : ℕ
    pub parameters : ℕ
    pub leaves : Bool
    pub instr_is : i ≡ instr.Invokestatic index
    pub named : name ≡ symbol.Call callee parameters leaves
    pub met : pushes_result leaves (below_ints parameters s.stack) ≡ Changes c

  pub as_call : (callee : MethodId) → Kind result max next a count s i name c e → e ≡ doing.Call callee → Calling callee
  as_call callee (stays through y) is = absurd (no_change_calls callee next a e y.change is y.is)
  as_call callee (kinds.jumps t distance jump through e_is met) is = absurd (let never : doing.Jump t distance ≡ doing.Call callee = sym e_is ∙ is in cc)
  as_call callee (reads v through e_is met) is = absurd (let never : doing.Read v ≡ doing.Call callee = sym e_is ∙ is in cc)
  as_call callee (calls index id parameters leaves i_is named e_is met) is =
      let both : doing.Call id ≡ doing.Call callee = sym e_is ∙ is in
      let same : id ≡ callee = cc in
      record { index = index; parameters = parameters; leaves = leaves; instr_is = i_is; named = named ∙ ap (λ (x : MethodId). symbol.Call x parameters leaves) same; met = met }
  as_call callee (returns e_is met) is = absurd (let never : doing.Return ≡ doing.Call callee = sym e_is ∙ is in cc)
  as_call callee (returns_int e_is met) is = absurd (let never : doing.ReturnInt ≡ doing.Call callee = sym e_is ∙ is in cc)

  without_result : (b : Bool) (ts : List ValueType) → typing.returns_nothing b ts ≡ Changes c → b ≡ false
  without_result true ts met = absurd cc
  without_result false ts met = refl

  with_int : (b : Bool) (ts : List ValueType) → typing.returns_int b ts ≡ Changes c → b ≡ true
  with_int true ts met = refl
  with_int false ts met = absurd cc

  pub as_return : Kind result max next a count s i name c e → e ≡ doing.Return → result ≡ false
  as_return (stays through y) is = absurd (no_change_returns next a e y.change is y.is)
  as_return (kinds.jumps t distance jump through e_is met) is = absurd (let never : doing.Jump t distance ≡ doing.Return = sym e_is ∙ is in cc)
  as_return (reads v through e_is met) is = absurd (let never : doing.Read v ≡ doing.Return = sym e_is ∙ is in cc)
  as_return (calls index id parameters leaves i_is named e_is met) is = absurd (let never : doing.Call id ≡ doing.Return = sym e_is ∙ is in cc)
  as_return (returns e_is met) is = without_result result s.stack met
  as_return (returns_int e_is met) is = absurd (let never : doing.ReturnInt ≡ doing.Return = sym e_is ∙ is in cc)

  pub as_return_int : Kind result max next a count s i name c e → e ≡ doing.ReturnInt → result ≡ true
  as_return_int (stays through y) is = absurd (no_change_returns_int next a e y.change is y.is)
  as_return_int (kinds.jumps t distance jump through e_is met) is = absurd (let never : doing.Jump t distance ≡ doing.ReturnInt = sym e_is ∙ is in cc)
  as_return_int (reads v through e_is met) is = absurd (let never : doing.Read v ≡ doing.ReturnInt = sym e_is ∙ is in cc)
  as_return_int (calls index id parameters leaves i_is named e_is met) is = absurd (let never : doing.Call id ≡ doing.ReturnInt = sym e_is ∙ is in cc)
  as_return_int (returns e_is met) is = absurd (let never : doing.Return ≡ doing.ReturnInt = sym e_is ∙ is in cc)
  as_return_int (returns_int e_is met) is = with_int result s.stack met

-- what an equal meeting leaves
stack_left : (leaves : Bool) (rest : List ValueType) (c : Change) → pushes_result leaves (Some rest) ≡ Changes c →
    c ≡ record { stack = if leaves then type.Int ∷ rest else rest; local = local.Stays; held = held.Stays; thread = thread.Stays }
stack_left true rest c met = let same : record { stack = type.Int ∷ rest; local = local.Stays; held = held.Stays; thread = thread.Stays } ≡ c = cc in sym same
stack_left false rest c met = let same : record { stack = rest; local = local.Stays; held = held.Stays; thread = thread.Stays } ≡ c = cc in sym same

-- ---- Frames

module _ (classes : List ClassRecord) (p : Prog) (is : IsProgramOf classes p) where
  -- a frame waits for a method that it calls
  pub record Waits (a : Activation) (count : ℕ → ℕ) (callee : MethodId) : Type 0 where
    pub m : Method
    pub is_m : IsMethod p a.method m
    pub from : Comes classes p is m
    pub s : FrameState
    pub arrives : Arrives from.u a.pc s
    pub i : Instr
    pub names : Operand
    pub at : Place classes p is m from a.pc i names s
    pub index : ℕ
    pub instr_is : i ≡ instr.Invokestatic index
    pub names_are : names ≡ operand.Method callee
    pub parameters : ℕ
    pub leaves : Bool
    pub named : at.symbol ≡ symbol.Call callee parameters leaves
    pub rest : List ValueType
    pub below : below_ints parameters s.stack ≡ Some rest
    pub matches : Matches from.u.frame.max_locals a count (record s { stack = rest })

  -- the outermost method returns nothing
  abbrev pub IsOutermost : MethodId → Type 0
  IsOutermost id = (m : Method) → IsMethod p id m → m.frame.result ≡ false

  abbrev pub Around : MethodId → List Activation → List (ℕ → ℕ) → Type 0
  Around callee [] [] = IsOutermost callee
  Around callee (a ∷ callers) (count ∷ counts) = Waits a count callee × Around a.method callers counts
  Around callee _ _ = ⊥

  abbrev pub Frames : List Activation → List (ℕ → ℕ) → Type 0
  Frames [] [] = Unit {0}
  Frames (a ∷ callers) (count ∷ counts) = Standing classes p is a count × Around a.method callers counts
  Frames _ _ = ⊥

  -- the innermost frame, and what its instruction does
  module _ (ended : ℕ → Bool) (a : Activation) (count : ℕ → ℕ) (st : Standing classes p is a count) (i : Instr) (names : Operand) (instruction : IsInstruction st.m a.pc i names) where
    pub at : Place classes p is st.m st.from a.pc i names st.s
    at = place_at classes p is st.m st.from a.pc i names st.s instruction st.arrives

    pub does : Meets st.from.u (deed_of i at.symbol) st.s
    does = meets_at st.from.u st.m.typed st.from.typed.typing a.pc (deed_of i at.symbol) st.s (does_at classes p is st.m st.from a.pc i names st.s at) st.arrives

    pub the_kind : Kind st.from.u.frame.result st.from.u.frame.max_locals (a.pc + length_of i) a count st.s i at.symbol does.change (doing_of ended i names)
    the_kind =
        kind st.from.u.frame.result st.from.u.frame.max_locals (a.pc + length_of i) a count st.s st.matches i at.symbol does.change (deed_of i at.symbol) (doing_of ended i names) does.is does.inside
        (subst (λ (o : Operand). Pair st.s.stack i at.symbol (deed_of i at.symbol) (doing_of ended i o)) at.named (pair ended st.s.stack i at.symbol))
        (λ n named. in_range n (subst (λ (x : Symbol). SymbolFits p x) named (symbols_fit classes p is st.m st.from at.place at.symbol at.stands.names)))

    -- the frame goes on in its method
    pub moved : (b : Activation) (next_count : ℕ → ℕ) → Matches st.from.u.frame.max_locals b next_count (behind does.change st.s) → b.method ≡ a.method → Successor a.pc i (pos b.pc) →
        Standing classes p is b next_count
    moved b next_count matches same successor = record {
      m = st.m;
      is_m = subst (λ (id : MethodId). IsMethod p id st.m) (sym same) st.is_m;
      from = st.from;
      s = behind does.change st.s;
      arrives = further classes p is st.m st.from a.pc b.pc i names st.s at does.change st.arrives does.is successor;
      matches = matches;
    }

    falling : (to : ℕ) → FallsThrough i → to ≡ a.pc + length_of i → Successor a.pc i (pos to)
    falling to through same = falls through (ap pos same)

    landing : (conditional : Type 0) (distance : ℤ) (to : ℕ) → jump_of i ≡ Some distance → (conditional → FallsThrough i) → ((to ≡ a.pc + length_of i) × conditional) ⊎ (pos to ≡ pos a.pc +ℤ distance) →
        Successor a.pc i (pos to)
    landing conditional distance to jump through (inl next) = falling to (through next.1) next.0
    landing conditional distance to jump through (inr far) = jumps distance jump far

    pub inside_stands : (b : Activation) (e : Effect) → change_of (doing_of ended i names) (a.pc + length_of i) a ≡ Some (record { effect = e; after = b }) → Standing classes p is b (held_after e.event count)
    inside_stands b e changed = by the_kind
      where
        x : acting.Change
        x = record { effect = e; after = b }

        same : b.method ≡ a.method
        same = (kept (doing_of ended i names) (a.pc + length_of i) a x changed).method

        by : Kind st.from.u.frame.result st.from.u.frame.max_locals (a.pc + length_of i) a count st.s i at.symbol does.change (doing_of ended i names) → Standing classes p is b (held_after e.event count)
        by (stays through y) =
            let one : y.change ≡ x = same_Some y.change x (sym y.is ∙ changed) in
            moved b (held_after e.event count) (subst (λ (z : acting.Change). Matches st.from.u.frame.max_locals z.after (held_after z.effect.event count) (behind does.change st.s)) one y.matches)
            same (falling b.pc through (ap (λ (z : acting.Change). z.after.pc) (sym one) ∙ y.goes))
        by (kinds.jumps t distance jump through e_is met) =
            let lands = jump_lands a.method a.pc (a.pc + length_of i) st.from.u.frame.max_locals a.locals count st.s.local st.s.held st.matches.locals st.matches.room st.matches.held t distance a.stack st.s.stack
            st.s.thread does.change x st.matches.stack met (ap (λ (d : Doing). change_of d (a.pc + length_of i) a) (sym e_is) ∙ changed) in
            moved b (held_after e.event count) lands.matches same (landing _ distance b.pc jump through lands.place)
        by (reads v through e_is met) = absurd (no_change_reads v (a.pc + length_of i) a (doing_of ended i names) x e_is changed)
        by (calls index id parameters leaves i_is named e_is met) = absurd (no_change_calls id (a.pc + length_of i) a (doing_of ended i names) x e_is changed)
        by (returns e_is met) = absurd (no_change_returns (a.pc + length_of i) a (doing_of ended i names) x e_is changed)
        by (returns_int e_is met) = absurd (no_change_returns_int (a.pc + length_of i) a (doing_of ended i names) x e_is changed)

    pub read_stands : (v : ℕ) (n : ℤ) → doing_of ended i names ≡ doing.Read v → Standing classes p is (record a { pc = a.pc + length_of i; stack = java.Int n ∷ a.stack }) count
    read_stands v n e_is =
        let both = as_read st.from.u.frame.result st.from.u.frame.max_locals (a.pc + length_of i) a count st.s i at.symbol does.change (doing_of ended i names) v the_kind e_is in
        let left = stack_left true st.s.stack does.change both.1 in
        moved (record a { pc = a.pc + length_of i; stack = java.Int n ∷ a.stack }) count
        (subst (λ (c : Change). Matches st.from.u.frame.max_locals (record a { pc = a.pc + length_of i; stack = java.Int n ∷ a.stack }) count (behind c st.s)) (sym left)
        (record { stack = (tt, st.matches.stack); locals = st.matches.locals; room = st.matches.room; held = st.matches.held }))
        refl (falling (a.pc + length_of i) both.0 refl)

    pub record Entered (called : Method) (arguments rest : List JavaValue) : Type 0 where
      pub inner : Standing classes p is (entered_with called arguments) nothing_held
      pub outer : Waits (record a { stack = rest }) count called.id

    pub call_stands : (called : Method) (arguments rest : List JavaValue) → doing_of ended i names ≡ doing.Call called.id → IsMethod p called.id called → length arguments ≡ called.frame.parameters →
        a.stack ≡ reverse arguments ++ rest → Entered called arguments rest
    call_stands called arguments rest e_is is_called many stack_is =
        let call = as_call st.from.u.frame.result st.from.u.frame.max_locals (a.pc + length_of i) a count st.s i at.symbol does.change (doing_of ended i names) called.id the_kind e_is in
        with_result call.leaves (below_ints call.parameters st.s.stack) does.change (λ y. Entered called arguments rest) call.met (λ below below_is.
        let from = comes classes p is called is_called.reached in
        let facts = called_is classes p is st.m st.from at.place called.id call.parameters call.leaves (at.stands.names ∙ ap Some call.named) called is_called from in
        let off = taken_off call.parameters arguments rest a.stack st.s.stack below stack_is (many ∙ facts.parameters_are) st.matches.stack below_is in
        record {
          inner = called_entered classes p is called is_called from arguments facts.entry_is many off.0;
          outer = record {
            m = st.m;
            is_m = st.is_m;
            from = st.from;
            s = st.s;
            arrives = st.arrives;
            i = i;
            names = names;
            at = at;
            index = call.index;
            instr_is = call.instr_is;
            names_are = sym at.named ∙ ap (λ (j : Instr). operand_of j at.symbol (slice_get st.s.stack 0)) call.instr_is
                ∙ ap (λ (x : Symbol). operand_of (instr.Invokestatic call.index) x (slice_get st.s.stack 0)) call.named;
            parameters = call.parameters;
            leaves = call.leaves;
            named = call.named;
            rest = below;
            below = below_is;
            matches = record { stack = off.1; locals = st.matches.locals; room = st.matches.room; held = st.matches.held };
          };
        })

  -- ---- A frame that waited goes on

  pub resumes : (caller : Activation) (count : ℕ → ℕ) (callee : MethodId) (w : Waits caller count callee) (values : List JavaValue) (to : ℕ) → to ≡ caller.pc + length_of w.i →
      AreTyped values (if w.leaves then type.Int ∷ w.rest else w.rest) → Standing classes p is (record caller { pc = to; stack = values }) count
  resumes caller count callee w values to to_is typed =
      let does = meets_at w.from.u w.m.typed w.from.typed.typing caller.pc (deed_of w.i w.at.symbol) w.s (does_at classes p is w.m w.from caller.pc w.i w.names w.s w.at) w.arrives in
      let by_instr = subst (λ (j : Instr). meets w.from.u.frame.result (deed_of j w.at.symbol) w.s ≡ Changes does.change) w.instr_is does.is in
      let met = subst (λ (x : Symbol). meets w.from.u.frame.result (deed_of (instr.Invokestatic w.index) x) w.s ≡ Changes does.change) w.named by_instr in
      let left = stack_left w.leaves w.rest does.change (ap (pushes_result w.leaves) (sym w.below) ∙ met) in
      record {
        m = w.m;
        is_m = w.is_m;
        from = w.from;
        s = behind does.change w.s;
        arrives = further classes p is w.m w.from caller.pc to w.i w.names w.s w.at does.change w.arrives does.is (falls (subst FallsThrough (sym w.instr_is) tt) (ap pos to_is));
        matches = subst (λ (c : Change). Matches w.from.u.frame.max_locals (record caller { pc = to; stack = values }) count (behind c w.s)) (sym left)
            (record { stack = typed; locals = w.matches.locals; room = w.matches.room; held = w.matches.held });
      }

  ordered : IsOrdered p
  ordered = are_ordered classes p is

  pub only : (id : MethodId) (m n : Method) → IsMethod p id m → IsMethod p id n → m ≡ n
  only id m n one other = one_method p id m n ordered.distinct one other

  -- what a call leaves is what its method returns
  leaves_as : (caller : Activation) (count : ℕ → ℕ) (a : Activation) (inner : ℕ → ℕ) (w : Waits caller count a.method) (st : Standing classes p is a inner) → st.from.u.frame.result ≡ w.leaves
  leaves_as caller count a inner w st =
      let facts = called_is classes p is w.m w.from w.at.place a.method w.parameters w.leaves (w.at.stands.names ∙ ap Some w.named) st.m st.is_m st.from in
      ap (λ f. f.result) (sym st.from.typed.frame) ∙ facts.result_is

  same_call : (caller : Activation) (count : ℕ → ℕ) (callee : MethodId) (w : Waits caller count callee) (calling : Method) (call : Instr) (called : Operand) → IsMethod p caller.method calling →
      IsInstruction calling caller.pc call called → call ≡ w.i
  same_call caller count callee w calling call called is_calling is_call =
      let same = only caller.method calling w.m is_calling w.is_m in
      let here = subst (λ (x : Method). IsInstruction x caller.pc call called) same is_call in
      (one_instruction w.m caller.pc call w.i called w.names (ordered.by_pc w.m w.is_m.reached) here (record { place = w.at.place; listed = w.at.listed; names = w.at.operand })).instr

  none_left : (id : MethodId) (counts : List (ℕ → ℕ)) → Around id [] counts → Frames [] counts
  none_left id [] around = tt
  none_left id (x ∷ counts) around = absurd around

  -- ---- One step

  module _ (ended : ℕ → Bool) (a : Activation) (count : ℕ → ℕ) (st : Standing classes p is a count) (i : Instr) (names : Operand) (instruction : IsInstruction st.m a.pc i names) (counts : List (ℕ → ℕ)) where
    abbrev Behind : List Activation → Effect → List Activation → Type 0
    Behind callers e t = Frames t (counts_behind (suc (length callers)) (length t) e.event (count ∷ counts))

    abbrev Here : MethodId → List Activation → Type 0
    Here id callers = Around id callers counts

    ends_frames : (callers : List Activation) (e : Effect) → callers ≡ [] → Here a.method callers → Behind callers e []
    ends_frames callers e none around =
        subst (λ (cs : List Activation). Here a.method cs → Behind cs e []) (sym none)
        (λ (here : Here a.method []). subst (Frames []) (sym (leaving 0 e.event (count ∷ counts))) (none_left a.method counts here)) around

    returns_to : (result : List JavaValue) (callers others : List Activation) (caller : Activation) (calling : Method) (call : Instr) (called : Operand) (e : Effect) → callers ≡ caller ∷ others →
        IsMethod p caller.method calling → IsInstruction calling caller.pc call called → (leaves : Bool) → st.from.u.frame.result ≡ leaves →
        ((rest : List ValueType) → AreTyped caller.stack rest → AreTyped (result ++ caller.stack) (if leaves then type.Int ∷ rest else rest)) → Here a.method callers →
        Behind callers e (record caller { pc = caller.pc + length_of call; stack = result ++ caller.stack } ∷ others)
    returns_to result callers others caller calling call called e callers_are is_calling is_call leaves result_is typed around =
        subst (λ (cs : List Activation). Here a.method cs → Behind cs e (next ∷ others)) (sym callers_are)
        (λ (here : Here a.method (caller ∷ others)). subst (Frames (next ∷ others)) (sym (leaving (suc (length others)) e.event (count ∷ counts))) (inner counts here)) around
      where
        next : Activation
        next = record caller { pc = caller.pc + length_of call; stack = result ++ caller.stack }

        inner : (cs : List (ℕ → ℕ)) → Around a.method (caller ∷ others) cs → Frames (next ∷ others) cs
        inner [] here = absurd here
        inner (outer ∷ cs) here =
            let w = here.0 in
            let same = leaves_as caller outer a count w st in (
              resumes caller outer a.method w (result ++ caller.stack) (caller.pc + length_of call)
                  (ap (λ (j : Instr). caller.pc + length_of j) (same_call caller outer a.method w calling call called is_calling is_call))
                  (subst (λ (b : Bool). AreTyped (result ++ caller.stack) (if b then type.Int ∷ w.rest else w.rest)) (sym result_is ∙ same) (typed w.rest w.matches.stack)),
              here.1,
            )

    frames_behind : (monitor : Option ℕ) (callers : List Activation) (e : Effect) (t : List Activation) → Here a.method callers →
        Outcome p monitor (doing_of ended i names) (a.pc + length_of i) a callers e t → Behind callers e t
    frames_behind monitor callers e t around (outcome.inside b changed goes) =
        let same = (kept (doing_of ended i names) (a.pc + length_of i) a (record { effect = e; after = b }) changed).method in
        subst (Behind callers e) (sym goes)
        (subst (Frames (b ∷ callers)) (sym (staying (suc (length callers)) e.event (count ∷ counts)))
        (inside_stands ended a count st i names instruction b e changed, subst (λ (id : MethodId). Here id callers) (sym same) around))
    frames_behind monitor callers e t around (outcome.reads v n is_int doing_is effect goes) =
        subst (Behind callers e) (sym goes)
        (subst (λ (f : Effect). Behind callers f (record a { pc = a.pc + length_of i; stack = java.Int n ∷ a.stack } ∷ callers)) (sym effect)
        (subst (Frames (record a { pc = a.pc + length_of i; stack = java.Int n ∷ a.stack } ∷ callers)) (sym (staying (suc (length callers)) (Some (event.Read v n)) (count ∷ counts)))
        (read_stands ended a count st i names instruction v n doing_is, around)))
    frames_behind monitor callers e t around (outcome.calls id called arguments rest doing_is is_called many stack_is effect goes) =
        let entered = call_stands ended a count st i names instruction called arguments rest (doing_is ∙ ap doing.Call (sym is_called.named)) (record { reached = is_called.reached; named = refl }) many stack_is in
        subst (Behind callers e) (sym goes)
        (subst (Frames (entered_with called arguments ∷ record a { stack = rest } ∷ callers)) (sym (entering (suc (length callers)) e.event (count ∷ counts)))
        (entered.inner, (entered.outer, around)))
    frames_behind monitor callers e t around (outcome.ends doing_is none effect goes) = subst (Behind callers e) (sym goes) (ends_frames callers e none around)
    frames_behind monitor callers e t around (outcome.returns caller others calling call called doing_is callers_are is_calling is_call effect goes) =
        subst (Behind callers e) (sym goes)
        (returns_to [] callers others caller calling call called e callers_are is_calling is_call false
        (as_return st.from.u.frame.result st.from.u.frame.max_locals (a.pc + length_of i) a count st.s i (at ended a count st i names instruction).symbol (does ended a count st i names instruction).change (doing_of ended i names)
        (the_kind ended a count st i names instruction) doing_is)
        (λ rest typed. typed) around)
    frames_behind monitor callers e t around (outcome.returns_int n below caller others calling call called doing_is stack_is callers_are is_calling is_call effect goes) =
        subst (Behind callers e) (sym goes)
        (returns_to (java.Int n ∷ []) callers others caller calling call called e callers_are is_calling is_call true
        (as_return_int st.from.u.frame.result st.from.u.frame.max_locals (a.pc + length_of i) a count st.s i (at ended a count st i names instruction).symbol (does ended a count st i names instruction).change (doing_of ended i names)
        (the_kind ended a count st i names instruction) doing_is)
        (λ rest typed. (tt, typed)) around)

  pub step_frames : (ended : ℕ → Bool) (s t : List Activation) (e : Effect) (counts : List (ℕ → ℕ)) → Frames s counts → Step p ended s e t → Frames t (counts_behind (length s) (length t) e.event counts)
  step_frames ended s t e counts frames step =
      let n = normal p ended s e t step in
      subst (λ (x : List Activation). Frames t (counts_behind (length x) (length t) e.event counts)) (sym n.stands) (one n counts (subst (λ (x : List Activation). Frames x counts) n.stands frames))
    where
      one : (n : Normal p ended s e t) (counts : List (ℕ → ℕ)) → Frames (n.top ∷ n.callers) counts → Frames t (counts_behind (suc (length n.callers)) (length t) e.event counts)
      one n [] frames = absurd frames
      one n (count ∷ counts) frames =
          let st = frames.0 in
          let same = only n.top.method n.method st.m n.is_method st.is_m in
          frames_behind ended n.top count st n.instr n.names (subst (λ (x : Method). IsInstruction x n.top.pc n.instr n.names) same n.instruction) counts n.method.frame.monitor n.callers e t frames.1 n.outcome
