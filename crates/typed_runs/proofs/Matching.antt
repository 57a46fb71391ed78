-- What an instruction does to types, and what it does to values.
use Rattle.std.proofs.Common.{◌≡◌, ℕ, ℤ, Bool, true, false, List, ◌∷◌, Option, Some, slice_get, refl}
use Rattle.opcodes.specs.Instructions.{FallsThrough, jump_of}
use Rattle.opcodes.specs.declared.instruction.Instr.{Instr}
use Rattle.opcodes.specs.declared.instruction.Instr.TheVariants as instr
use Rattle.program.specs.Step.{JavaValue}
use Rattle.program.specs.Step as java
use Rattle.program.specs.declared.method.MethodId.{MethodId}
use Rattle.program.specs.declared.value_type.ValueType.{ValueType}
use Rattle.program.specs.declared.value_type.ValueType.TheVariants as type
use Rattle.thread_meaning.specs.Doings.{condition, doing_of}
use Rattle.thread_meaning.specs.declared.doing.Unary.{Unary}
use Rattle.thread_meaning.specs.declared.doing.Unary.TheVariants as unary
use Rattle.thread_meaning.specs.declared.doing.Binary.{Binary}
use Rattle.thread_meaning.specs.declared.doing.Binary.TheVariants as binary
use Rattle.thread_meaning.specs.declared.doing.Comparison.TheVariants as comparison
use Rattle.thread_meaning.specs.declared.doing.Test.{Test}
use Rattle.thread_meaning.specs.declared.doing.Test.TheVariants as test
use Rattle.thread_meaning.specs.declared.doing.Doing.{Doing}
use Rattle.thread_meaning.specs.declared.doing.Doing.TheVariants as doing
use Rattle.typing.specs.Changes.{Change, Changes, meeting}
use Rattle.typing.specs.Deeds.{deed_of, tested_ints}
use Rattle.typing.specs.declared.deed.Deed.{Deed}
use Rattle.typing.specs.declared.deed.Deed.TheVariants as deed
use Rattle.typing.specs.declared.symbol.Symbol.{Symbol}
use Rattle.typing.specs.declared.symbol.Symbol.TheVariants as symbol
use Rattle.linking.specs.Operands.{operand_of}
use Rattle.typed_runs.specs.Types.{HasType}

-- the jump may go on to the next instruction
abbrev pub IsConditional : Test → Type 0
IsConditional test.Always = ⊥
IsConditional _ = Unit {0}

-- what is done to types and to values, with these types on the stack
pub data Pair (types : List ValueType) (i : Instr) (s : Symbol) (d : Deed) (e : Doing) : Type 0 where
  -- no path goes on there
  unfit : ((result : Bool) (loaded : Option ValueType) (c : Change) → meeting result d loaded types ≡ Changes c → ⊥) → Pair types i s d e
  constant : (n : ℤ) → s ≡ symbol.Constant n → FallsThrough i → d ≡ deed.Operate 0 true → e ≡ doing.Push n → Pair types i s d e
  puts : (v : JavaValue) (t : ValueType) → HasType v t → FallsThrough i → d ≡ deed.Push t → e ≡ doing.Put v → Pair types i s d e
  reads : (v : ℕ) → FallsThrough i → d ≡ deed.Operate 0 true → e ≡ doing.Read v → Pair types i s d e
  writes : (v : ℕ) → FallsThrough i → d ≡ deed.Operate 1 false → e ≡ doing.Write v → Pair types i s d e
  prints : FallsThrough i → d ≡ deed.Print → e ≡ doing.Print → Pair types i s d e
  nothing : FallsThrough i → d ≡ deed.Operate 0 false → e ≡ doing.Nothing → Pair types i s d e
  discards : FallsThrough i → d ≡ deed.Discard → e ≡ doing.Discard → Pair types i s d e
  doubles : FallsThrough i → d ≡ deed.Double → e ≡ doing.Double → Pair types i s d e
  exchanges : FallsThrough i → d ≡ deed.Exchange → e ≡ doing.Exchange → Pair types i s d e
  loads_int : (slot : ℕ) → FallsThrough i → d ≡ deed.LoadInt slot → e ≡ doing.LoadInt slot → Pair types i s d e
  loads_reference : (slot : ℕ) → FallsThrough i → d ≡ deed.LoadReference slot → e ≡ doing.LoadReference slot → Pair types i s d e
  stores_int : (slot : ℕ) → FallsThrough i → d ≡ deed.StoreInt slot → e ≡ doing.StoreInt slot → Pair types i s d e
  stores_reference : (slot : ℕ) → FallsThrough i → d ≡ deed.StoreReference slot → e ≡ doing.StoreReference slot → Pair types i s d e
  increments : (slot : ℕ) (delta : ℤ) → FallsThrough i → d ≡ deed.Increment slot → e ≡ doing.Increment slot delta → Pair types i s d e
  applies : (u : Unary) → FallsThrough i → d ≡ deed.Operate 1 true → e ≡ doing.Unary u → Pair types i s d e
  combines : (b : Binary) → FallsThrough i → d ≡ deed.Operate 2 true → e ≡ doing.Binary b → Pair types i s d e
  jumps : (t : Test) (distance : ℤ) → jump_of i ≡ Some distance → (IsConditional t → FallsThrough i) → d ≡ deed.Operate (tested_ints (condition t)) false → e ≡ doing.Jump t distance → Pair types i s d e
  locks : (m : ℕ) (rest : List ValueType) → types ≡ type.Lock m ∷ rest → FallsThrough i → d ≡ deed.Enter → e ≡ doing.Lock m → Pair types i s d e
  unlocks : (m : ℕ) (rest : List ValueType) → types ≡ type.Lock m ∷ rest → FallsThrough i → d ≡ deed.Leave → e ≡ doing.Unlock m → Pair types i s d e
  makes : (k : ℕ) → FallsThrough i → d ≡ deed.Make k → e ≡ doing.Put (java.Object k) → Pair types i s d e
  makes_target : (k : ℕ) → FallsThrough i → d ≡ deed.MakeTarget k → e ≡ doing.Put (java.Target k) → Pair types i s d e
  constructs : (k : ℕ) (rest : List ValueType) → types ≡ type.Fresh k ∷ rest → FallsThrough i → d ≡ deed.Construct → e ≡ doing.Construct k → Pair types i s d e
  constructs_target : (k : ℕ) (rest : List ValueType) → types ≡ type.FreshTarget k ∷ rest → FallsThrough i → d ≡ deed.ConstructTarget → e ≡ doing.ConstructTarget k → Pair types i s d e
  wraps : (k : ℕ) (rest : List ValueType) → types ≡ type.Target k ∷ rest → FallsThrough i → d ≡ deed.Wrap → e ≡ doing.Wrap k → Pair types i s d e
  starts : (k : ℕ) (rest : List ValueType) → types ≡ type.Thread k ∷ rest → FallsThrough i → d ≡ deed.Start → e ≡ doing.Start k → Pair types i s d e
  joins : (k : ℕ) (rest : List ValueType) → types ≡ type.Thread k ∷ rest → FallsThrough i → d ≡ deed.Join → e ≡ doing.Join k → Pair types i s d e
  asks : (k : ℕ) (ended : Bool) (rest : List ValueType) → types ≡ type.Thread k ∷ rest → FallsThrough i → d ≡ deed.Ask → e ≡ doing.Ask k ended → Pair types i s d e
  calls : (index : ℕ) (id : MethodId) (parameters : ℕ) (result : Bool) → i ≡ instr.Invokestatic index → s ≡ symbol.Call id parameters result → FallsThrough i → d ≡ deed.Operate parameters result → e ≡ doing.Call id → Pair types i s d e
  returns : d ≡ deed.Return → e ≡ doing.Return → Pair types i s d e
  returns_int : d ≡ deed.ReturnInt → e ≡ doing.ReturnInt → Pair types i s d e

misplaced : (types : List ValueType) (i : Instr) (s : Symbol) (e : Doing) → Pair types i s deed.Misplaced e
misplaced types i s e = unfit (λ result loaded c met. cc)

module _ (ended : ℕ → Bool) where
  abbrev Of : List ValueType → Instr → Symbol → Type 0
  Of types i s = Pair types i s (deed_of i s) (doing_of ended i (operand_of i s (slice_get types 0)))

  constants : (types : List ValueType) (i : Instr) (n : ℤ) → Of types i (symbol.Constant n)
  constants types instr.IconstM1 n = constant n refl tt refl refl
  constants types instr.Iconst0 n = constant n refl tt refl refl
  constants types instr.Iconst1 n = constant n refl tt refl refl
  constants types instr.Iconst2 n = constant n refl tt refl refl
  constants types instr.Iconst3 n = constant n refl tt refl refl
  constants types instr.Iconst4 n = constant n refl tt refl refl
  constants types instr.Iconst5 n = constant n refl tt refl refl
  constants types (instr.Bipush value) n = constant n refl tt refl refl
  constants types (instr.Sipush value) n = constant n refl tt refl refl
  constants types (instr.Ldc index) n = constant n refl tt refl refl
  constants types (instr.LdcW index) n = constant n refl tt refl refl
  constants types i n = misplaced types _ _ _

  accesses : (types : List ValueType) (i : Instr) (v : ℕ) → Of types i (symbol.Variable v)
  accesses types (instr.Getstatic index) v = reads v tt refl refl
  accesses types (instr.Putstatic index) v = writes v tt refl refl
  accesses types i v = misplaced types _ _ _

  outs : (types : List ValueType) (i : Instr) → Of types i symbol.Out
  outs types (instr.Getstatic index) = puts java.Out type.Out tt tt refl refl
  outs types i = misplaced types _ _ _

  printing : (types : List ValueType) (i : Instr) → Of types i symbol.Print
  printing types (instr.Invokevirtual index) = prints tt refl refl
  printing types i = misplaced types _ _ _

  monitors : (types : List ValueType) (i : Instr) (m : ℕ) → Of types i (symbol.Monitor m)
  monitors types (instr.Ldc index) m = puts (java.Monitor m) (type.Lock m) refl tt refl refl
  monitors types (instr.LdcW index) m = puts (java.Monitor m) (type.Lock m) refl tt refl refl
  monitors types i m = misplaced types _ _ _

  making : (types : List ValueType) (i : Instr) (k : ℕ) → Of types i (symbol.Make k)
  making types (instr.New index) k = makes k tt refl refl
  making types i k = misplaced types _ _ _

  making_targets : (types : List ValueType) (i : Instr) (k : ℕ) → Of types i (symbol.MakeTarget k)
  making_targets types (instr.New index) k = makes_target k tt refl refl
  making_targets types i k = misplaced types _ _ _

  constructing : (types : List ValueType) (i : Instr) → Of types i symbol.Construct
  constructing (type.Fresh k ∷ rest) (instr.Invokespecial index) = constructs k rest refl tt refl refl
  constructing types (instr.Invokespecial index) = unfit (λ result loaded c met. cc)
  constructing types i = misplaced types _ _ _

  constructing_targets : (types : List ValueType) (i : Instr) → Of types i symbol.ConstructTarget
  constructing_targets (type.FreshTarget k ∷ rest) (instr.Invokespecial index) = constructs_target k rest refl tt refl refl
  constructing_targets types (instr.Invokespecial index) = unfit (λ result loaded c met. cc)
  constructing_targets types i = misplaced types _ _ _

  wrapping : (types : List ValueType) (i : Instr) → Of types i symbol.Wrap
  wrapping (type.Target k ∷ rest) (instr.Invokespecial index) = wraps k rest refl tt refl refl
  wrapping types (instr.Invokespecial index) = unfit (λ result loaded c met. cc)
  wrapping types i = misplaced types _ _ _

  starting : (types : List ValueType) (i : Instr) → Of types i symbol.Start
  starting (type.Thread k ∷ rest) (instr.Invokevirtual index) = starts k rest refl tt refl refl
  starting types (instr.Invokevirtual index) = unfit (λ result loaded c met. cc)
  starting types i = misplaced types _ _ _

  joining : (types : List ValueType) (i : Instr) → Of types i symbol.Join
  joining (type.Thread k ∷ rest) (instr.Invokevirtual index) = joins k rest refl tt refl refl
  joining types (instr.Invokevirtual index) = unfit (λ result loaded c met. cc)
  joining types i = misplaced types _ _ _

  asking : (types : List ValueType) (i : Instr) → Of types i symbol.Alive
  asking (type.Thread k ∷ rest) (instr.Invokevirtual index) = asks k (ended k) rest refl tt refl refl
  asking types (instr.Invokevirtual index) = unfit (λ result loaded c met. cc)
  asking types i = misplaced types _ _ _

  calling : (types : List ValueType) (i : Instr) (id : MethodId) (parameters : ℕ) (result : Bool) → Of types i (symbol.Call id parameters result)
  calling types (instr.Invokestatic index) id parameters result = calls index id parameters result refl refl tt refl refl
  calling types i id parameters result = misplaced types _ _ _

  entering : (types : List ValueType) → Of types instr.Monitorenter symbol.Nothing
  entering (type.Lock m ∷ rest) = locks m rest refl tt refl refl
  entering types = unfit (λ result loaded c met. cc)

  exiting : (types : List ValueType) → Of types instr.Monitorexit symbol.Nothing
  exiting (type.Lock m ∷ rest) = unlocks m rest refl tt refl refl
  exiting types = unfit (λ result loaded c met. cc)

  own : (types : List ValueType) (i : Instr) → Of types i symbol.Nothing
  own types instr.Monitorenter = entering types
  own types instr.Monitorexit = exiting types
  own types instr.Nop = nothing tt refl refl
  own types instr.Pop = discards tt refl refl
  own types instr.Dup = doubles tt refl refl
  own types instr.Swap = exchanges tt refl refl
  own types instr.Return = returns refl refl
  own types instr.Ireturn = returns_int refl refl
  own types (instr.Iload slot) = loads_int slot tt refl refl
  own types instr.Iload0 = loads_int 0 tt refl refl
  own types instr.Iload1 = loads_int 1 tt refl refl
  own types instr.Iload2 = loads_int 2 tt refl refl
  own types instr.Iload3 = loads_int 3 tt refl refl
  own types (instr.Aload slot) = loads_reference slot tt refl refl
  own types instr.Aload0 = loads_reference 0 tt refl refl
  own types instr.Aload1 = loads_reference 1 tt refl refl
  own types instr.Aload2 = loads_reference 2 tt refl refl
  own types instr.Aload3 = loads_reference 3 tt refl refl
  own types (instr.Istore slot) = stores_int slot tt refl refl
  own types instr.Istore0 = stores_int 0 tt refl refl
  own types instr.Istore1 = stores_int 1 tt refl refl
  own types instr.Istore2 = stores_int 2 tt refl refl
  own types instr.Istore3 = stores_int 3 tt refl refl
  own types (instr.Astore slot) = stores_reference slot tt refl refl
  own types instr.Astore0 = stores_reference 0 tt refl refl
  own types instr.Astore1 = stores_reference 1 tt refl refl
  own types instr.Astore2 = stores_reference 2 tt refl refl
  own types instr.Astore3 = stores_reference 3 tt refl refl
  own types (instr.Iinc slot delta) = increments slot delta tt refl refl
  own types instr.Ineg = applies unary.Negate tt refl refl
  own types instr.I2b = applies unary.ToByte tt refl refl
  own types instr.I2c = applies unary.ToChar tt refl refl
  own types instr.I2s = applies unary.ToShort tt refl refl
  own types instr.Iadd = combines binary.Add tt refl refl
  own types instr.Isub = combines binary.Subtract tt refl refl
  own types instr.Imul = combines binary.Multiply tt refl refl
  own types instr.Ishl = combines binary.ShiftLeft tt refl refl
  own types instr.Ishr = combines binary.ShiftRight tt refl refl
  own types instr.Iushr = combines binary.ShiftRightUnsigned tt refl refl
  own types instr.Iand = combines binary.And tt refl refl
  own types instr.Ior = combines binary.Or tt refl refl
  own types instr.Ixor = combines binary.ExclusiveOr tt refl refl
  own types (instr.Ifeq distance) = jumps (test.WithZero comparison.Equal) distance refl (λ c. tt) refl refl
  own types (instr.Ifne distance) = jumps (test.WithZero comparison.NotEqual) distance refl (λ c. tt) refl refl
  own types (instr.Iflt distance) = jumps (test.WithZero comparison.Less) distance refl (λ c. tt) refl refl
  own types (instr.Ifge distance) = jumps (test.WithZero comparison.GreaterOrEqual) distance refl (λ c. tt) refl refl
  own types (instr.Ifgt distance) = jumps (test.WithZero comparison.Greater) distance refl (λ c. tt) refl refl
  own types (instr.Ifle distance) = jumps (test.WithZero comparison.LessOrEqual) distance refl (λ c. tt) refl refl
  own types (instr.IfIcmpeq distance) = jumps (test.OfTwo comparison.Equal) distance refl (λ c. tt) refl refl
  own types (instr.IfIcmpne distance) = jumps (test.OfTwo comparison.NotEqual) distance refl (λ c. tt) refl refl
  own types (instr.IfIcmplt distance) = jumps (test.OfTwo comparison.Less) distance refl (λ c. tt) refl refl
  own types (instr.IfIcmpge distance) = jumps (test.OfTwo comparison.GreaterOrEqual) distance refl (λ c. tt) refl refl
  own types (instr.IfIcmpgt distance) = jumps (test.OfTwo comparison.Greater) distance refl (λ c. tt) refl refl
  own types (instr.IfIcmple distance) = jumps (test.OfTwo comparison.LessOrEqual) distance refl (λ c. tt) refl refl
  own types (instr.Goto distance) = jumps test.Always distance refl (λ c. c) refl refl
  own types i = misplaced types _ _ _

  pub pair : (types : List ValueType) (i : Instr) (s : Symbol) → Of types i s
  pair types i (symbol.Constant n) = constants types i n
  pair types i (symbol.Variable v) = accesses types i v
  pair types i symbol.Out = outs types i
  pair types i symbol.Print = printing types i
  pair types i (symbol.Monitor m) = monitors types i m
  pair types i (symbol.Make k) = making types i k
  pair types i symbol.Construct = constructing types i
  pair types i (symbol.MakeTarget k) = making_targets types i k
  pair types i symbol.ConstructTarget = constructing_targets types i
  pair types i symbol.Wrap = wrapping types i
  pair types i symbol.Start = starting types i
  pair types i symbol.Join = joining types i
  pair types i symbol.Alive = asking types i
  pair types i (symbol.Call id parameters result) = calling types i id parameters result
  pair types i symbol.Nothing = own types i
