-- A call of the program is a call among the reached methods.
use Rattle.std.proofs.Common.{◌≡◌, ℕ, List, Some, slice_get, refl, sym, ap, ◌∙◌, subst, Option}
use Rattle.relations.specs.Path.{Path, Walk, edge, more, here, on}
use Rattle.class_format.specs.declared.record.ClassRecord.{ClassRecord}
use Rattle.opcodes.specs.declared.instruction.Instr.{Instr}
use Rattle.opcodes.specs.declared.instruction.Instr.TheVariants.{Monitorenter, Monitorexit}
use Rattle.opcodes.specs.declared.listed.Listed.{Listed}
use Rattle.program.proofs.Lists.{place_of}
use Rattle.program.specs.Program.{Prog}
use Rattle.program.specs.declared.method.MethodId.{MethodId}
use Rattle.program.specs.declared.method.Operand.TheVariants as operand
use Rattle.program.specs.declared.method.Operand.{Operand}
use Rattle.program.specs.declared.value_type.ValueType.{ValueType}
use Rattle.program.specs.declared.value_type.ValueType.TheVariants as type
use Rattle.reached_methods.specs.CodeFaults as fault
use Rattle.reached_methods.specs.Reached.{Calls, IsReached, Leads, IsInstructionAt, is_method, resolved_of}
use Rattle.reached_methods.specs.Reached as reach
use Rattle.reached_methods.specs.declared.refusal.CodeKind.TheVariants.{Recursion}
use Rattle.reached_methods.specs.declared.refusal.Detail.TheVariants.{Nothing}
use Rattle.resolution.specs.declared.signature.Signature.{Signature}
use Rattle.resolution.specs.declared.target.Target.{Target}
use Rattle.resolution.specs.declared.target.Target.TheVariants as target
use Rattle.typing.specs.declared.symbol.Symbol.{Symbol}
use Rattle.typing.specs.declared.symbol.Symbol.TheVariants as symbol
use Rattle.untyped_program.specs.Methods.{called, symbol_of, signature_at}
use Rattle.untyped_program.specs.Monitors.{monitor_number, monitors_of}
use Rattle.class_names.specs.Names.{class_name_of}
use Rattle.class_format.specs.declared.record.PoolEntry.{PoolEntry}
use Rattle.relations.proofs.Paths.{walked}
use Rattle.std.specs.Option.{option_map}
use Rattle.std.specs.Prelude.{Bool, None}
use Rattle.untyped_program.specs.Variables.{number_of}
use Rattle.linking.specs.Linking.{IsProgramOf}
use Rattle.linking.specs.Operands.{operand_of, named, constructed, started, joined, asked, target_constructed, wrapped, monitor_in, top_of}
use Rattle.linked_laws.specs.Calls.{CallsIn, IsAmong}
use Rattle.linked_laws.proofs.Listed.{operand_at, target_at}
use Rattle.linked_laws.proofs.Instructions.{instruction_at}
use Rattle.linked_laws.proofs.Methods.{comes, id_is, is_among}

-- ---- What is no call

no_call_constructs : (top : Option ValueType) (id : MethodId) → constructed top ≡ operand.Method id → ⊥
no_call_constructs (Some (type.Fresh k)) id e = cc
no_call_constructs top id e = cc

no_call_starts : (top : Option ValueType) (id : MethodId) → started top ≡ operand.Method id → ⊥
no_call_starts (Some (type.Thread k)) id e = cc
no_call_starts top id e = cc

no_call_joins : (top : Option ValueType) (id : MethodId) → joined top ≡ operand.Method id → ⊥
no_call_joins (Some (type.Thread k)) id e = cc
no_call_joins top id e = cc

no_call_asks : (top : Option ValueType) (id : MethodId) → asked top ≡ operand.Method id → ⊥
no_call_asks (Some (type.Thread k)) id e = cc
no_call_asks top id e = cc

no_call_targets : (top : Option ValueType) (id : MethodId) → target_constructed top ≡ operand.Method id → ⊥
no_call_targets (Some (type.FreshTarget k)) id e = cc
no_call_targets top id e = cc

no_call_wraps : (top : Option ValueType) (id : MethodId) → wrapped top ≡ operand.Method id → ⊥
no_call_wraps (Some (type.Target k)) id e = cc
no_call_wraps top id e = cc

no_call_locks : (top : Option ValueType) (id : MethodId) → monitor_in top ≡ operand.Method id → ⊥
no_call_locks (Some (type.Lock m)) id e = cc
no_call_locks top id e = cc

-- the symbol of a call of the method
abbrev IsCall : Symbol → MethodId → Type 0
IsCall s id = (parameters : ℕ) × (result : Bool) × (s ≡ symbol.Call id parameters result)

call_named : (s : Symbol) (top : Option ValueType) (id : MethodId) → named s top ≡ operand.Method id → IsCall s id
call_named (symbol.Call method parameters result) top id e =
    let same : method ≡ id = cc in (parameters, result, ap (λ (x : MethodId). symbol.Call x parameters result) same)
call_named symbol.Construct top id e = absurd (no_call_constructs top id e)
call_named symbol.ConstructTarget top id e = absurd (no_call_targets top id e)
call_named symbol.Wrap top id e = absurd (no_call_wraps top id e)
call_named symbol.Start top id e = absurd (no_call_starts top id e)
call_named symbol.Join top id e = absurd (no_call_joins top id e)
call_named symbol.Alive top id e = absurd (no_call_asks top id e)
call_named s top id e = cc

call_operand : (i : Instr) (s : Symbol) (top : Option ValueType) (id : MethodId) → operand_of i s top ≡ operand.Method id → IsCall s id
call_operand Monitorenter s top id e = absurd (no_call_locks top id e)
call_operand Monitorexit s top id e = absurd (no_call_locks top id e)
call_operand i s top id e = call_named s top id e

-- ---- The target of a call

of_class : (o : Option ℕ) (id : MethodId) (parameters : ℕ) (result : Bool) → option_map symbol.Monitor o ≡ Some (symbol.Call id parameters result) → ⊥
of_class None id parameters result e = cc
of_class (Some n) id parameters result e = cc

of_call : (o : Option Signature) (method id : MethodId) (parameters : ℕ) (result : Bool) → option_map (called method) o ≡ Some (symbol.Call id parameters result) → method ≡ id
of_call None method id parameters result e = cc
of_call (Some signature) method id parameters result e = cc

module _ (classes : List ClassRecord) (number : ℕ → ℕ → ℕ) (monitors : List (List ℕ)) (pool : List PoolEntry) where
  call_target : (made : ℕ) (t : Target) (id : MethodId) (parameters : ℕ) (result : Bool) → symbol_of classes number monitors pool made t ≡ Some (symbol.Call id parameters result) → t ≡ target.Call id
  call_target made (target.Class index) id parameters result e = absurd (of_class (monitor_number monitors (class_name_of pool index)) id parameters result e)
  call_target made (target.Call method) id parameters result e = ap target.Call (of_call (signature_at classes method) method id parameters result e)
  call_target made t id parameters result e = cc

-- ---- Calls

module _ (classes : List ClassRecord) (p : Prog) (is : IsProgramOf classes p) where
  pub calls : (caller id : MethodId) → CallsIn p caller id → Calls classes is.is_untyped.main caller id
  calls caller id call =
      let c = comes classes p is call.method call.is_method.reached in
      let at = place_of call.method.operands (operand.Method id) call.call in
      let k = at.0 in
      let operands = ap (λ (l : List Operand). slice_get l k) (sym c.typed.operands) ∙ at.1 in
      let o = operand_at c.u.listing c.u.symbols call.method.typed k (operand.Method id) operands in
      let s = call_operand o.item.instr o.s (top_of o.state) id o.is in
      let t = target_at classes (number_of classes is.is_untyped.methods) (monitors_of classes is.is_untyped.methods) c.untyped.class.pool 0 c.u.symbols c.r.targets k o.s c.untyped.symbols o.s_there in
      let is_call = call_target classes (number_of classes is.is_untyped.methods) (monitors_of classes is.is_untyped.methods) c.untyped.class.pool t.made t.t id s.0 s.1 (t.is ∙ ap Some s.2) in
      let found = instruction_at classes is.is_untyped.main c.r c.reached k o.item (target.Call id) (ap (λ (l : List Listed). slice_get l k) (sym c.untyped.listing) ∙ o.item_there) (t.there ∙ ap Some is_call) in
      let name : c.r.id ≡ caller = sym (id_is classes p is call.method c) ∙ call.is_method.named in
      subst (λ (x : MethodId). Calls classes is.is_untyped.main x id) name (record { pc = o.item.pc; instr = o.item.instr; call = found })

  reached_caller : (caller id : MethodId) → CallsIn p caller id → IsReached classes is.is_untyped.main caller
  reached_caller caller id call =
      let c = comes classes p is call.method call.is_method.reached in
      subst (IsReached classes is.is_untyped.main) (sym (id_is classes p is call.method c) ∙ call.is_method.named) c.reached.reached

  pub called_are_methods : (caller id : MethodId) → CallsIn p caller id → IsAmong p id
  called_are_methods caller id call =
      is_among classes p is id (walked (Leads classes is.is_untyped.main) is.is_untyped.main caller id (reached_caller caller id call) (reach.calls (calls caller id call)))

  -- ---- No cycle

  walk_of : {a b : MethodId} → Path (CallsIn p) a b → Walk (Calls classes is.is_untyped.main) a b
  walk_of {a = a} {b = b} (edge call) = on (calls a b call) here
  walk_of {a = a} (more {b = m} call rest) = on (calls a m call) (walk_of rest)

  back : (id called : MethodId) → CallsIn p id called → Walk (Calls classes is.is_untyped.main) called id → ⊥
  back id called call walk =
      let c = calls id called call in
      is.is_untyped.faultless id c.pc Recursion Nothing (record { reached = reached_caller id called call; fault = fault.recursion c.instr called c.call walk refl refl })

  pub none_calls_itself : (id : MethodId) → Path (CallsIn p) id id → ⊥
  none_calls_itself id (edge call) = back id id call here
  none_calls_itself id (more {b = m} call rest) = back id m call (walk_of rest)
