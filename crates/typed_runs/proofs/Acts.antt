-- What an instruction does to a frame: it stays in the frame, jumps, reads, calls or returns.
use Rattle.std.proofs.Common.{◌≡◌, ◌≤◌, ℕ, ℤ, Bool, true, false, List, ◌∷◌, Some, refl, sym, ap, subst, ◌∙◌}
use Rattle.std.specs.Option.{option_and_then}
use Rattle.opcodes.specs.Instructions.{FallsThrough, jump_of}
use Rattle.opcodes.specs.declared.instruction.Instr.{Instr}
use Rattle.opcodes.specs.declared.instruction.Instr.TheVariants as instr
use Rattle.program.specs.Step.{Activation}
use Rattle.program.specs.declared.method.MethodId.{MethodId}
use Rattle.program.specs.declared.value_type.ValueType.{ValueType}
use Rattle.program.specs.Step as java
use Rattle.program.specs.declared.value_type.ValueType.TheVariants as type
use Rattle.thread_meaning.specs.Changes.{in_int_range}
use Rattle.thread_meaning.specs.Doings.{condition}
use Rattle.thread_meaning.specs.declared.doing.Test.{Test}
use Rattle.thread_meaning.specs.declared.doing.Doing.{Doing}
use Rattle.thread_meaning.specs.declared.doing.Doing.TheVariants as doing
use Rattle.typing.specs.Changes.{Change, Changes, behind, below_ints, loaded_slot, meeting, pushes_result, used_slot}
use Rattle.typing.specs.Changes as typing
use Rattle.typing.specs.Deeds.{tested_ints}
use Rattle.typing.specs.States.{FrameState}
use Rattle.typing.specs.declared.change.ThreadChange.TheVariants as thread
use Rattle.typing.specs.declared.deed.Deed.{Deed}
use Rattle.typing.specs.declared.deed.Deed.TheVariants as deed
use Rattle.typing.specs.declared.symbol.Symbol.{Symbol}
use Rattle.typing.specs.declared.symbol.Symbol.TheVariants as symbol
use Rattle.typed_runs.specs.Types.{AreTyped}
use Rattle.typed_runs.proofs.Matching as matching
use Rattle.typed_runs.proofs.Matching.{IsConditional, Pair}
use Rattle.typed_runs.proofs.Yielding.{Matches, Yields, ask_yields, combined, applied, constant_yields, construct_target_yields, construct_yields, discard_yields, double_yields, exchange_yields, increment_yields, join_yields, load_int_yields, load_reference_yields, lock_yields, made_yields, nothing_yields, print_yields, put_yields, start_yields, store_int_yields, store_reference_yields, taken, unlock_yields, wrap_yields, written}

pub data Kind (result : Bool) (max next : ℕ) (a : Activation) (count : ℕ → ℕ) (s : FrameState) (i : Instr) (name : Symbol) (c : Change) (e : Doing) : Type 0 where
  stays : FallsThrough i → Yields e next max a count (behind c s) → Kind result max next a count s i name c e
  jumps : (t : Test) (distance : ℤ) → jump_of i ≡ Some distance → (IsConditional t → FallsThrough i) → e ≡ doing.Jump t distance →
      pushes_result false (below_ints (tested_ints (condition t)) s.stack) ≡ Changes c → Kind result max next a count s i name c e
  reads : (v : ℕ) → FallsThrough i → e ≡ doing.Read v → pushes_result true (below_ints 0 s.stack) ≡ Changes c → Kind result max next a count s i name c e
  calls : (index : ℕ) (id : MethodId) (parameters : ℕ) (leaves : Bool) → i ≡ instr.Invokestatic index → name ≡ symbol.Call id parameters leaves → e ≡ doing.Call id →
      pushes_result leaves (below_ints parameters s.stack) ≡ Changes c → Kind result max next a count s i name c e
  returns : e ≡ doing.Return → typing.returns_nothing result s.stack ≡ Changes c → Kind result max next a count s i name c e
  returns_int : e ≡ doing.ReturnInt → typing.returns_int result s.stack ≡ Changes c → Kind result max next a count s i name c e

module _ (result : Bool) (max next : ℕ) (a : Activation) (count : ℕ → ℕ) (s : FrameState) (m : Matches max a count s) (i : Instr) (name : Symbol) (c : Change) (d : Deed) (e : Doing)
    (met : meeting result d (option_and_then s.local (loaded_slot d)) s.stack ≡ Changes c)
    (inside : (slot : ℕ) → used_slot d ≡ Some slot → max ≤ slot → ⊥) where
  as_deed : (x : Deed) → d ≡ x → meeting result x (option_and_then s.local (loaded_slot x)) s.stack ≡ Changes c
  as_deed x is = subst (λ (y : Deed). meeting result y (option_and_then s.local (loaded_slot y)) s.stack ≡ Changes c) is met

  abbrev K : Type 0
  K = Kind result max next a count s i name c e

  done : (x : Doing) → e ≡ x → FallsThrough i → Yields x next max a count (behind c s) → K
  done x is falls yields = stays falls (subst (λ (y : Doing). Yields y next max a count (behind c s)) (sym is) yields)

  -- the stack has this type on top
  topped : (ts : List ValueType) → s.stack ≡ ts → AreTyped a.stack ts
  topped ts is = subst (AreTyped a.stack) is m.stack

  within : (slot : ℕ) (x : Deed) → d ≡ x → used_slot x ≡ Some slot → max ≤ slot → ⊥
  within slot x is used = inside slot (ap used_slot is ∙ used)

  pub kind : Pair s.stack i name d e → ((n : ℤ) → name ≡ symbol.Constant n → in_int_range n ≡ true) → K
  kind (matching.unfit never) fits = absurd (never result (option_and_then s.local (loaded_slot d)) c met)
  kind (matching.constant n named falls d_is e_is) fits = done (doing.Push n) e_is falls (constant_yields a.method a.pc next max a.locals count s.local s.held m.locals m.room m.held a.stack s.stack s.thread m.stack c n (fits n named) (as_deed (deed.Operate 0 true) d_is))
  kind (matching.puts v t has falls d_is e_is) fits = done (doing.Put v) e_is falls (put_yields a.method a.pc next max a.locals count s.local s.held m.locals m.room m.held a.stack s.stack s.thread m.stack c v t has (as_deed (deed.Push t) d_is))
  kind (matching.reads v falls d_is e_is) fits = reads v falls e_is (as_deed (deed.Operate 0 true) d_is)
  kind (matching.writes v falls d_is e_is) fits =
      done (doing.Write v) e_is falls (taken a.method a.pc next max a.locals count s.local s.held m.locals m.room m.held a.stack s.stack s.thread m.stack c 1 false (doing.Write v) (as_deed (deed.Operate 1 false) d_is) (λ rest above. written a.method a.pc next max a.locals count s.local s.held m.locals m.room m.held v a.stack rest s.thread above))
  kind (matching.prints falls d_is e_is) fits = done doing.Print e_is falls (print_yields a.method a.pc next max a.locals count s.local s.held m.locals m.room m.held s.thread c a.stack s.stack m.stack (as_deed deed.Print d_is))
  kind (matching.nothing falls d_is e_is) fits = done doing.Nothing e_is falls (nothing_yields a.method a.pc next max a.locals count s.local s.held m.locals m.room m.held a.stack s.stack s.thread m.stack c (as_deed (deed.Operate 0 false) d_is))
  kind (matching.discards falls d_is e_is) fits = done doing.Discard e_is falls (discard_yields a.method a.pc next max a.locals count s.local s.held m.locals m.room m.held s.thread c a.stack s.stack m.stack (as_deed deed.Discard d_is))
  kind (matching.doubles falls d_is e_is) fits = done doing.Double e_is falls (double_yields a.method a.pc next max a.locals count s.local s.held m.locals m.room m.held s.thread c a.stack s.stack m.stack (as_deed deed.Double d_is))
  kind (matching.exchanges falls d_is e_is) fits = done doing.Exchange e_is falls (exchange_yields a.method a.pc next max a.locals count s.local s.held m.locals m.room m.held s.thread c a.stack s.stack m.stack (as_deed deed.Exchange d_is))
  kind (matching.loads_int slot falls d_is e_is) fits = done (doing.LoadInt slot) e_is falls (load_int_yields a.method a.pc next max a.locals count s.local s.held m.locals m.room m.held s.thread c a.stack s.stack slot m.stack (as_deed (deed.LoadInt slot) d_is))
  kind (matching.loads_reference slot falls d_is e_is) fits =
      done (doing.LoadReference slot) e_is falls (load_reference_yields a.method a.pc next max a.locals count s.local s.held m.locals m.room m.held s.thread c a.stack s.stack slot m.stack (as_deed (deed.LoadReference slot) d_is))
  kind (matching.stores_int slot falls d_is e_is) fits =
      done (doing.StoreInt slot) e_is falls (store_int_yields a.method a.pc next max a.locals count s.local s.held m.locals m.room m.held s.thread c a.stack s.stack slot (within slot (deed.StoreInt slot) d_is refl) m.stack (as_deed (deed.StoreInt slot) d_is))
  kind (matching.stores_reference slot falls d_is e_is) fits =
      done (doing.StoreReference slot) e_is falls (store_reference_yields a.method a.pc next max a.locals count s.local s.held m.locals m.room m.held s.thread c a.stack s.stack slot (within slot (deed.StoreReference slot) d_is refl) m.stack (as_deed (deed.StoreReference slot) d_is))
  kind (matching.increments slot delta falls d_is e_is) fits =
      done (doing.Increment slot delta) e_is falls (increment_yields a.method a.pc next max a.locals count s.local s.held m.locals m.room m.held s.thread c a.stack s.stack slot delta (within slot (deed.Increment slot) d_is refl) m.stack (as_deed (deed.Increment slot) d_is))
  kind (matching.applies u falls d_is e_is) fits =
      done (doing.Unary u) e_is falls (taken a.method a.pc next max a.locals count s.local s.held m.locals m.room m.held a.stack s.stack s.thread m.stack c 1 true (doing.Unary u) (as_deed (deed.Operate 1 true) d_is) (λ rest above. applied a.method a.pc next max a.locals count s.local s.held m.locals m.room m.held u a.stack rest s.thread above))
  kind (matching.combines b falls d_is e_is) fits =
      done (doing.Binary b) e_is falls (taken a.method a.pc next max a.locals count s.local s.held m.locals m.room m.held a.stack s.stack s.thread m.stack c 2 true (doing.Binary b) (as_deed (deed.Operate 2 true) d_is) (λ rest above. combined a.method a.pc next max a.locals count s.local s.held m.locals m.room m.held b a.stack rest s.thread above))
  kind (matching.jumps t distance jump falls d_is e_is) fits = jumps t distance jump falls e_is (as_deed (deed.Operate (tested_ints (condition t)) false) d_is)
  kind (matching.locks n rest types falls d_is e_is) fits =
      done (doing.Lock n) e_is falls (lock_yields a.method a.pc next max a.locals count s.local s.held m.locals m.room m.held s.thread c a.stack n rest (topped (type.Lock n ∷ rest) types) (subst (λ ts. typing.enters ts ≡ Changes c) types (as_deed deed.Enter d_is)))
  kind (matching.unlocks n rest types falls d_is e_is) fits =
      done (doing.Unlock n) e_is falls (unlock_yields a.method a.pc next max a.locals count s.local s.held m.locals m.room m.held s.thread c a.stack n rest (topped (type.Lock n ∷ rest) types) (subst (λ ts. typing.exits ts ≡ Changes c) types (as_deed deed.Leave d_is)))
  kind (matching.makes k falls d_is e_is) fits =
      done (doing.Put (java.Object k)) e_is falls (made_yields a.method a.pc next max a.locals count s.local s.held m.locals m.room m.held a.stack s.stack s.thread m.stack c (java.Object k) (type.Fresh k) (thread.Makes k) refl (as_deed (deed.Make k) d_is))
  kind (matching.makes_target k falls d_is e_is) fits =
      done (doing.Put (java.Target k)) e_is falls (put_yields a.method a.pc next max a.locals count s.local s.held m.locals m.room m.held a.stack s.stack s.thread m.stack c (java.Target k) (type.FreshTarget k) refl (as_deed (deed.MakeTarget k) d_is))
  kind (matching.constructs k rest types falls d_is e_is) fits =
      done (doing.Construct k) e_is falls (construct_yields a.method a.pc next max a.locals count s.local s.held m.locals m.room m.held s.thread c a.stack k rest (topped (type.Fresh k ∷ rest) types) (subst (λ ts. typing.constructs ts ≡ Changes c) types (as_deed deed.Construct d_is)))
  kind (matching.constructs_target k rest types falls d_is e_is) fits =
      done (doing.ConstructTarget k) e_is falls
      (construct_target_yields a.method a.pc next max a.locals count s.local s.held m.locals m.room m.held s.thread c a.stack k rest (topped (type.FreshTarget k ∷ rest) types) (subst (λ ts. typing.constructs_target ts ≡ Changes c) types (as_deed deed.ConstructTarget d_is)))
  kind (matching.wraps k rest types falls d_is e_is) fits =
      done (doing.Wrap k) e_is falls (wrap_yields a.method a.pc next max a.locals count s.local s.held m.locals m.room m.held s.thread c a.stack k rest (topped (type.Target k ∷ rest) types) (subst (λ ts. typing.wraps ts ≡ Changes c) types (as_deed deed.Wrap d_is)))
  kind (matching.starts k rest types falls d_is e_is) fits =
      done (doing.Start k) e_is falls (start_yields a.method a.pc next max a.locals count s.local s.held m.locals m.room m.held s.thread c a.stack k rest (topped (type.Thread k ∷ rest) types) (subst (λ ts. typing.starts ts ≡ Changes c) types (as_deed deed.Start d_is)))
  kind (matching.joins k rest types falls d_is e_is) fits =
      done (doing.Join k) e_is falls (join_yields a.method a.pc next max a.locals count s.local s.held m.locals m.room m.held s.thread c a.stack k rest (topped (type.Thread k ∷ rest) types) (subst (λ ts. typing.joins ts ≡ Changes c) types (as_deed deed.Join d_is)))
  kind (matching.asks k ended rest types falls d_is e_is) fits =
      done (doing.Ask k ended) e_is falls (ask_yields a.method a.pc next max a.locals count s.local s.held m.locals m.room m.held s.thread c a.stack k ended rest (topped (type.Thread k ∷ rest) types) (subst (λ ts. typing.asks ts ≡ Changes c) types (as_deed deed.Ask d_is)))
  kind (matching.calls index id parameters leaves is named falls d_is e_is) fits = calls index id parameters leaves is named e_is (as_deed (deed.Operate parameters leaves) d_is)
  kind (matching.returns d_is e_is) fits = returns e_is (as_deed deed.Return d_is)
  kind (matching.returns_int d_is e_is) fits = returns_int e_is (as_deed deed.ReturnInt d_is)
