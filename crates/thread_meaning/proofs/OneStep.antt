-- A step is determined by its state, and by the value that it reads.
use Rattle.std.proofs.Common.{◌≡◌, ◌+◌, ◌++◌, ◌⊎◌, ℕ, ℤ, Bool, List, [], ◌∷◌, Option, Some, None, length, reverse, refl, sym, ap, subst, ◌∙◌, inl, inr, arith, false}
use Rattle.std.proofs.lemmas.List.{length-reverse, reverse-reverse}
use Rattle.std.proofs.lemmas.Option.{none-some, same_Some}
use Rattle.std.specs.Option.{option_map}
use Rattle.opcodes.specs.Instructions.{length_of}
use Rattle.opcodes.specs.Listing.{IsByPc}
use Rattle.opcodes.specs.declared.instruction.Instr.{Instr}
use Rattle.program.specs.Program.{Prog, IsMethod, IsInstruction}
use Rattle.program.specs.Step.{JavaValue, Activation, Effect, Step, shows, Int}
use Rattle.program.specs.declared.event.Event.TheVariants as event
use Rattle.program.specs.declared.method.Method.{Method}
use Rattle.program.specs.declared.method.MethodId.{MethodId}
use Rattle.program.specs.declared.method.Operand.{Operand}
use Rattle.thread_meaning.specs.Changes.{Change, change_of}
use Rattle.thread_meaning.specs.Doings.{doing_of}
use Rattle.thread_meaning.specs.Paths.{IsOrdered, read_in}
use Rattle.thread_meaning.specs.declared.doing.Doing.{Doing}
use Rattle.thread_meaning.specs.Outcomes.{Outcome, inside, reads, calls, ends, returns, returns_int}
use Rattle.thread_meaning.proofs.Normal.{Normal, normal}
use Rattle.thread_meaning.proofs.Unique.{SameInstruction, one_method, one_instruction}

-- both read, and lead to one state where they read the same
pub record BothRead (e f : Effect) (t u : List Activation) : Type 0 where
  pub variable : ℕ
  pub first : ℤ
  pub second : ℤ
  pub first_is : e ≡ shows (event.Read variable first) (first ∷ [])
  pub second_is : f ≡ shows (event.Read variable second) (second ∷ [])
  pub same : first ≡ second → t ≡ u

abbrev pub Alike : Effect → Effect → List Activation → List Activation → Type 0
Alike e f t u = ((e ≡ f) × (t ≡ u)) ⊎ BothRead e f t u

append_same : {X : Type 0} (xs ys vs ws : List X) → length xs ≡ length ys → xs ++ vs ≡ ys ++ ws → (xs ≡ ys) × (vs ≡ ws)
append_same [] [] vs ws same h = (refl, h)
append_same [] (y ∷ ys) vs ws same h = absurd (omega (arith, same))
append_same (x ∷ xs) [] vs ws same h = absurd (omega (arith, same))
append_same {X} (x ∷ xs) (y ∷ ys) vs ws same h = go (append_same xs ys vs ws (omega (arith, same)) (cc))
  where
    go : (xs ≡ ys) × (vs ≡ ws) → (x ∷ xs ≡ y ∷ ys) × (vs ≡ ws)
    go r = let first : x ≡ y = cc in (cc, r.1)

reversed_same : (xs ys : List JavaValue) → reverse xs ≡ reverse ys → xs ≡ ys
reversed_same xs ys h = sym (reverse-reverse xs) ∙ ap reverse h ∙ reverse-reverse ys

-- two lists of arguments with one count on one stack
same_arguments : (stack xs ys vs ws : List JavaValue) → length xs ≡ length ys → stack ≡ reverse xs ++ vs → stack ≡ reverse ys ++ ws → (xs ≡ ys) × (vs ≡ ws)
same_arguments stack xs ys vs ws same is_x is_y = go (append_same (reverse xs) (reverse ys) vs ws (length-reverse xs ∙ same ∙ sym (length-reverse ys)) (sym is_x ∙ is_y))
  where
    go : (reverse xs ≡ reverse ys) × (vs ≡ ws) → (xs ≡ ys) × (vs ≡ ws)
    go r = (reversed_same xs ys r.0, r.1)

-- a method and an instruction at a frame are those of an equal frame
pub record SamePlace (m n : Method) (i j : Instr) (o q : Operand) : Type 0 where
  pub method : m ≡ n
  pub instr : i ≡ j
  pub names : o ≡ q

pub same_place : (p : Prog) (a b : Activation) (m n : Method) (i j : Instr) (o q : Operand) → ((x : Method) → IsMethod p a.method x → m ≡ x) → IsByPc m.listing → a ≡ b → IsMethod p a.method m → IsMethod p b.method n →
    IsInstruction m a.pc i o → IsInstruction n b.pc j q → SamePlace m n i j o q
same_place p a b m n i j o q only by_pc same is_m is_n at_m at_n = record { method = method; instr = instruction.instr; names = instruction.names }
  where
    method : m ≡ n
    method = only n (subst (λ (x : Activation). IsMethod p x.method n) (sym same) is_n)

    instruction : SameInstruction i j o q
    instruction =
        one_instruction m a.pc i j o q by_pc at_m
        (subst (λ (x : Activation). IsInstruction m x.pc j q) (sym same) (subst (λ (x : Method). IsInstruction x b.pc j q) (sym method) at_n))

-- no change by a read, a call or a return
no_change : (d d' : Doing) (behind : ℕ) (a : Activation) (c : Change) → change_of d behind a ≡ Some c → d ≡ d' → change_of d' behind a ≡ None → ⊥
no_change d d' behind a c h is none = none-some c (sym none ∙ ap (λ (x : Doing). change_of x behind a) (sym is) ∙ h)

returned_same : (c c' : Activation) (others others' : List Activation) (i i' : Instr) → c ≡ c' → others ≡ others' → i ≡ i' →
    record c { pc = c.pc + length_of i } ∷ others ≡ record c' { pc = c'.pc + length_of i' } ∷ others'
returned_same c c' others others' i i' cs os is =
    ap (λ (x : Activation). record x { pc = x.pc + length_of i } ∷ others) cs ∙ ap (λ (x : Instr). record c' { pc = c'.pc + length_of x } ∷ others) is ∙
    ap (λ (x : List Activation). record c' { pc = c'.pc + length_of i' } ∷ x) os

returned_int_same : (c c' : Activation) (others others' : List Activation) (i i' : Instr) (n n' : ℤ) → c ≡ c' → others ≡ others' → i ≡ i' → n ≡ n' →
    record c { pc = c.pc + length_of i; stack = Int n ∷ c.stack } ∷ others ≡ record c' { pc = c'.pc + length_of i'; stack = Int n' ∷ c'.stack } ∷ others'
returned_int_same c c' others others' i i' n n' cs os is ns =
    ap (λ (x : Activation). record x { pc = x.pc + length_of i; stack = Int n ∷ x.stack } ∷ others) cs ∙
    ap (λ (x : Instr). record c' { pc = c'.pc + length_of x; stack = Int n ∷ c'.stack } ∷ others) is ∙
    ap (λ (x : List Activation). record c' { pc = c'.pc + length_of i'; stack = Int n ∷ c'.stack } ∷ x) os ∙
    ap (λ (x : ℤ). record c' { pc = c'.pc + length_of i'; stack = Int x ∷ c'.stack } ∷ others') ns

one_outcome : (p : Prog) (m : Option ℕ) (d : Doing) (behind : ℕ) (a : Activation) (callers : List Activation) (e f : Effect) (t u : List Activation) → IsOrdered p →
    Outcome p m d behind a callers e t → Outcome p m d behind a callers f u → Alike e f t u
one_outcome p m d behind a callers e f t u ordered (inside b h goes) (inside b' h' goes') = inl (ap (λ (c : Change). c.effect) same, goes ∙ ap (λ (c : Change). c.after ∷ callers) same ∙ sym goes')
  where
    same : ◌≡◌ {A = Change} (record { effect = e; after = b }) (record { effect = f; after = b' })
    same = same_Some _ _ (sym h ∙ h')
one_outcome p m d behind a callers e f t u ordered (reads v n fits does is goes) (reads w n' fits' does' is' goes') =
    let vw : v ≡ w = cc in
    inr (record { variable = v; first = n; second = n'; first_is = is; second_is = is' ∙ ap (λ (x : ℕ). shows (event.Read x n') (n' ∷ [])) (sym vw); same = λ same. cc })
one_outcome p m d behind a callers e f t u ordered (calls id called arguments rest does is_called count stack is goes) (calls id' called' arguments' rest' does' is_called' count' stack' is' goes') =
    let ids : id ≡ id' = cc in
    let methods : called ≡ called' = one_method p id called called' ordered.distinct is_called (subst (λ (x : MethodId). IsMethod p x called') (sym ids) is_called') in
    let stacks = same_arguments a.stack arguments arguments' rest rest' (count ∙ ap (λ (x : Method). x.frame.parameters) methods ∙ sym count') stack stack' in
    inl (is ∙ ap (λ (x : Method). record { event = option_map event.Lock x.frame.monitor; ints = []; backward = false }) methods ∙ sym is', cc)
one_outcome p m d behind a callers e f t u ordered (ends does alone is goes) (ends does' alone' is' goes') = inl (is ∙ sym is', goes ∙ sym goes')
one_outcome p m d behind a callers e f t u ordered (returns caller others calling call called does under is_calling at is goes) (returns caller' others' calling' call' called' does' under' is_calling' at' is' goes') =
    let callers_same : caller ≡ caller' = cc in
    let others_same : others ≡ others' = cc in
    let place = same_place p caller caller' calling calling' call call' called called' (λ x is_x. one_method p caller.method calling x ordered.distinct is_calling is_x) (ordered.by_pc calling is_calling.reached) callers_same is_calling is_calling' at at' in
    inl (is ∙ sym is', goes ∙ returned_same caller caller' others others' call call' callers_same others_same place.instr ∙ sym goes')
one_outcome p m d behind a callers e f t u ordered (returns_int n below caller others calling call called does stack under is_calling at is goes) (returns_int n' below' caller' others' calling' call' called' does' stack' under' is_calling' at' is' goes') =
    let callers_same : caller ≡ caller' = cc in
    let others_same : others ≡ others' = cc in
    let ints_same : n ≡ n' = cc in
    let place = same_place p caller caller' calling calling' call call' called called' (λ x is_x. one_method p caller.method calling x ordered.distinct is_calling is_x) (ordered.by_pc calling is_calling.reached) callers_same is_calling is_calling' at at' in
    inl (
      is ∙ ap (λ (x : ℤ). record { event = option_map event.Unlock m; ints = x ∷ []; backward = false }) ints_same ∙ sym is',
      goes ∙ returned_int_same caller caller' others others' call call' n n' callers_same others_same place.instr ints_same ∙ sym goes',
    )
one_outcome p m d behind a callers e f t u ordered (inside b h goes) (reads v' n' fits' does' is' goes') = absurd (no_change d _ behind a _ h does' refl)
one_outcome p m d behind a callers e f t u ordered (inside b h goes) (calls id' called' arguments' rest' does' is_called' count' stack' is' goes') = absurd (no_change d _ behind a _ h does' refl)
one_outcome p m d behind a callers e f t u ordered (inside b h goes) (ends does' alone' is' goes') = absurd (no_change d _ behind a _ h does' refl)
one_outcome p m d behind a callers e f t u ordered (inside b h goes) (returns caller' others' calling' call' called' does' under' is_calling' at' is' goes') = absurd (no_change d _ behind a _ h does' refl)
one_outcome p m d behind a callers e f t u ordered (inside b h goes) (returns_int n' below' caller' others' calling' call' called' does' stack' under' is_calling' at' is' goes') = absurd (no_change d _ behind a _ h does' refl)
one_outcome p m d behind a callers e f t u ordered (reads v n fits does is goes) (inside b' h' goes') = absurd (no_change d _ behind a _ h' does refl)
one_outcome p m d behind a callers e f t u ordered (reads v n fits does is goes) (calls id' called' arguments' rest' does' is_called' count' stack' is' goes') = absurd (cc)
one_outcome p m d behind a callers e f t u ordered (reads v n fits does is goes) (ends does' alone' is' goes') = absurd (cc)
one_outcome p m d behind a callers e f t u ordered (reads v n fits does is goes) (returns caller' others' calling' call' called' does' under' is_calling' at' is' goes') = absurd (cc)
one_outcome p m d behind a callers e f t u ordered (reads v n fits does is goes) (returns_int n' below' caller' others' calling' call' called' does' stack' under' is_calling' at' is' goes') = absurd (cc)
one_outcome p m d behind a callers e f t u ordered (calls id called arguments rest does is_called count stack is goes) (inside b' h' goes') = absurd (no_change d _ behind a _ h' does refl)
one_outcome p m d behind a callers e f t u ordered (calls id called arguments rest does is_called count stack is goes) (reads v' n' fits' does' is' goes') = absurd (cc)
one_outcome p m d behind a callers e f t u ordered (calls id called arguments rest does is_called count stack is goes) (ends does' alone' is' goes') = absurd (cc)
one_outcome p m d behind a callers e f t u ordered (calls id called arguments rest does is_called count stack is goes) (returns caller' others' calling' call' called' does' under' is_calling' at' is' goes') = absurd (cc)
one_outcome p m d behind a callers e f t u ordered (calls id called arguments rest does is_called count stack is goes) (returns_int n' below' caller' others' calling' call' called' does' stack' under' is_calling' at' is' goes') = absurd (cc)
one_outcome p m d behind a callers e f t u ordered (ends does alone is goes) (inside b' h' goes') = absurd (no_change d _ behind a _ h' does refl)
one_outcome p m d behind a callers e f t u ordered (ends does alone is goes) (reads v' n' fits' does' is' goes') = absurd (cc)
one_outcome p m d behind a callers e f t u ordered (ends does alone is goes) (calls id' called' arguments' rest' does' is_called' count' stack' is' goes') = absurd (cc)
one_outcome p m d behind a callers e f t u ordered (ends does alone is goes) (returns caller' others' calling' call' called' does' under' is_calling' at' is' goes') = absurd (cc)
one_outcome p m d behind a callers e f t u ordered (ends does alone is goes) (returns_int n' below' caller' others' calling' call' called' does' stack' under' is_calling' at' is' goes') = absurd (cc)
one_outcome p m d behind a callers e f t u ordered (returns caller others calling call called does under is_calling at is goes) (inside b' h' goes') = absurd (no_change d _ behind a _ h' does refl)
one_outcome p m d behind a callers e f t u ordered (returns caller others calling call called does under is_calling at is goes) (reads v' n' fits' does' is' goes') = absurd (cc)
one_outcome p m d behind a callers e f t u ordered (returns caller others calling call called does under is_calling at is goes) (calls id' called' arguments' rest' does' is_called' count' stack' is' goes') = absurd (cc)
one_outcome p m d behind a callers e f t u ordered (returns caller others calling call called does under is_calling at is goes) (ends does' alone' is' goes') = absurd (cc)
one_outcome p m d behind a callers e f t u ordered (returns caller others calling call called does under is_calling at is goes) (returns_int n' below' caller' others' calling' call' called' does' stack' under' is_calling' at' is' goes') = absurd (cc)
one_outcome p m d behind a callers e f t u ordered (returns_int n below caller others calling call called does stack under is_calling at is goes) (inside b' h' goes') = absurd (no_change d _ behind a _ h' does refl)
one_outcome p m d behind a callers e f t u ordered (returns_int n below caller others calling call called does stack under is_calling at is goes) (reads v' n' fits' does' is' goes') = absurd (cc)
one_outcome p m d behind a callers e f t u ordered (returns_int n below caller others calling call called does stack under is_calling at is goes) (calls id' called' arguments' rest' does' is_called' count' stack' is' goes') = absurd (cc)
one_outcome p m d behind a callers e f t u ordered (returns_int n below caller others calling call called does stack under is_calling at is goes) (ends does' alone' is' goes') = absurd (cc)
one_outcome p m d behind a callers e f t u ordered (returns_int n below caller others calling call called does stack under is_calling at is goes) (returns caller' others' calling' call' called' does' under' is_calling' at' is' goes') = absurd (cc)

-- two steps from one state are equal, or both read
pub alike : (p : Prog) (ended : ℕ → Bool) (s t u : List Activation) (e f : Effect) → IsOrdered p → Step p ended s e t → Step p ended s f u → Alike e f t u
alike p ended s t u e f ordered x y = go (normal p ended s e t x) (normal p ended s f u y)
  where
    go : Normal p ended s e t → Normal p ended s f u → Alike e f t u
    go m n =
        let stacks : m.top ∷ m.callers ≡ n.top ∷ n.callers = sym m.stands ∙ n.stands in
        let tops : m.top ≡ n.top = cc in
        let callers : m.callers ≡ n.callers = cc in
        let place = same_place p m.top n.top m.method n.method m.instr n.instr m.names n.names (λ x is_x. one_method p m.top.method m.method x ordered.distinct m.is_method is_x) (ordered.by_pc m.method m.is_method.reached) tops m.is_method n.is_method m.instruction n.instruction in
        one_outcome p m.method.frame.monitor (doing_of ended m.instr m.names) (m.top.pc + length_of m.instr) m.top m.callers e f t u ordered m.outcome
        (subst (λ (c : List Activation). Outcome p m.method.frame.monitor (doing_of ended m.instr m.names) (m.top.pc + length_of m.instr) m.top c f u) (sym callers)
        (subst (λ (a : Activation). Outcome p m.method.frame.monitor (doing_of ended m.instr m.names) (a.pc + length_of m.instr) a n.callers f u) (sym tops)
        (subst (λ (o : Operand). Outcome p m.method.frame.monitor (doing_of ended m.instr o) (n.top.pc + length_of m.instr) n.top n.callers f u) (sym place.names)
        (subst (λ (i : Instr). Outcome p m.method.frame.monitor (doing_of ended i n.names) (n.top.pc + length_of i) n.top n.callers f u) (sym place.instr)
        (subst (λ (w : Method). Outcome p w.frame.monitor (doing_of ended n.instr n.names) (n.top.pc + length_of n.instr) n.top n.callers f u) (sym place.method) n.outcome)))))

pub one_step : (p : Prog) (ended : ℕ → Bool) (s t u : List Activation) (e f : Effect) → IsOrdered p → Step p ended s e t → Step p ended s f u → read_in e ≡ read_in f → (e ≡ f) × (t ≡ u)
one_step p ended s t u e f ordered x y same = go (alike p ended s t u e f ordered x y)
  where
    go : Alike e f t u → (e ≡ f) × (t ≡ u)
    go (inl r) = r
    go (inr r) =
        let ints : r.first ≡ r.second = same_Some r.first r.second (ap read_in (sym r.first_is) ∙ same ∙ ap read_in r.second_is) in
        (r.first_is ∙ ap (λ (n : ℤ). shows (event.Read r.variable n) (n ∷ [])) ints ∙ sym r.second_is, r.same ints)
