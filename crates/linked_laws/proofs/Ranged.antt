-- The numbers in what instructions name are in range.
use Rattle.std.proofs.Common.{◌≡◌, ◌<◌, ◌≤◌, ◌+◌, ℕ, Bool, true, false, List, [], ◌∷◌, Option, Some, None, All, Contains, length, slice_get, refl, sym, ap, ◌∙◌, subst, arith, if◌then◌else◌}
use Rattle.std.specs.Option.{option_map}
use Rattle.std.proofs.lemmas.Bool.Decides.{nat_tests}
use Rattle.std.proofs.lemmas.List.Folds.{list_any_at}
use Rattle.std.proofs.lemmas.List.Quantifiers.{position-Some}
use Rattle.std.proofs.lemmas.Option.{none-some, same_Some, slice_get_within}
use Rattle.class_format.specs.declared.record.ClassRecord.{ClassRecord}
use Rattle.class_format.specs.declared.record.PoolEntry.{PoolEntry}
use Rattle.class_names.specs.Names.{class_name_of, same_text}
use Rattle.opcodes.specs.declared.instruction.Instr.{Instr}
use Rattle.opcodes.specs.declared.instruction.Instr.TheVariants.{Monitorenter, Monitorexit}
use Rattle.opcodes.specs.declared.listed.Listed.{Listed}
use Rattle.program.proofs.Lists.{all_from, all_of, contains_at, place_of}
use Rattle.program.specs.Ints.{IsInt}
use Rattle.program.specs.Program.{Prog}
use Rattle.program.specs.declared.method.Method.{Method}
use Rattle.program.specs.declared.method.MethodId.{MethodId}
use Rattle.program.specs.declared.method.Operand.{Operand}
use Rattle.program.specs.declared.value_type.TypedState.{TypedState}
use Rattle.program.specs.declared.value_type.ValueType.{ValueType}
use Rattle.program.specs.declared.value_type.ValueType.TheVariants as type
use Rattle.reached_methods.specs.Reached.{Calls, IsReachedMethod, Leads, is_method}
use Rattle.reached_methods.specs.Reached as reach
use Rattle.reached_methods.specs.declared.method.ReachedMethod.{ReachedMethod}
use Rattle.relations.proofs.Paths.{walked}
use Rattle.resolution.specs.Resolution.{Names}
use Rattle.resolution.specs.declared.signature.Signature.{Signature}
use Rattle.resolution.specs.declared.target.Target.{Target}
use Rattle.resolution.specs.declared.target.Target.TheVariants as target
use Rattle.typing.specs.Objects.{constructed, same_object}
use Rattle.typing.specs.declared.object.Object.{Object}
use Rattle.typing.specs.declared.object.Object.TheVariants as object
use Rattle.typing.specs.declared.symbol.Symbol.{Symbol}
use Rattle.typing.specs.declared.symbol.Symbol.TheVariants as symbol
use Rattle.untyped_program.proofs.FieldPlaces.{field_places}
use Rattle.untyped_program.specs.Methods.{called, is_new, signature_at, symbol_of}
use Rattle.untyped_program.specs.Monitors.{monitor_number, monitors_of}
use Rattle.untyped_program.specs.Variables.{is_field, is_named, is_variable, number_of, variable_of, variables_of}
use Rattle.linking.specs.Linking.{IsProgramOf}
use Rattle.linking.specs.Operands as operands
use Rattle.linking.specs.Operands.{operand_of, named, monitor_in, top_of}
use Rattle.linked_laws.specs.Calls.{IsAmong}
use Rattle.linked_laws.specs.Ranges.{IsInRange}
use Rattle.linked_laws.proofs.Instructions.{instruction_of, well_target}
use Rattle.linked_laws.proofs.Listed.{operand_at, target_at}
use Rattle.linked_laws.proofs.Made.{made_in, of_main, thread_count}
use Rattle.linked_laws.proofs.Methods.{Comes, comes, is_among}
use Rattle.linked_laws.proofs.Resolved.{IsIntFieldAt, WellNamed}
use Rattle.linked_laws.proofs.TypesOnPaths.{IsKept, OneGood, StackGood, SymbolGood, path_good}

-- ---- Types, symbols and operands

module _ (p : Prog) where
  abbrev pub TypeFits : ValueType → Type 0
  TypeFits (type.Lock m) = m < length p.monitors
  TypeFits (type.Fresh k) = k < length p.threads
  TypeFits (type.Thread k) = k < length p.threads
  TypeFits (type.FreshTarget k) = k < length p.threads
  TypeFits (type.Target k) = k < length p.threads
  TypeFits t = Unit {0}

  abbrev pub SymbolFits : Symbol → Type 0
  SymbolFits (symbol.Constant n) = IsInt n
  SymbolFits (symbol.Variable v) = v < length p.variables
  SymbolFits (symbol.Monitor m) = m < length p.monitors
  SymbolFits (symbol.Make k) = k < length p.threads
  SymbolFits (symbol.MakeTarget k) = k < length p.threads
  SymbolFits (symbol.Call id parameters result) = IsAmong p id
  SymbolFits s = Unit {0}

  made_fits : (b : Bool) (k : ℕ) → k < length p.threads → TypeFits (if b then type.Thread k else type.Fresh k)
  made_fits true k fits = fits
  made_fits false k fits = fits

  made_target_fits : (b : Bool) (k : ℕ) → k < length p.threads → TypeFits (if b then type.Target k else type.FreshTarget k)
  made_target_fits true k fits = fits
  made_target_fits false k fits = fits

  constructed_fits : (o : Object) (t : ValueType) → TypeFits t → TypeFits (constructed o t)
  constructed_fits o (type.Fresh k) fits = made_fits (same_object o (object.Thread k)) k fits
  constructed_fits o (type.FreshTarget k) fits = made_target_fits (same_object o (object.Target k)) k fits
  constructed_fits o type.Int fits = fits
  constructed_fits o type.Out fits = fits
  constructed_fits o type.Args fits = fits
  constructed_fits o type.This fits = fits
  constructed_fits o (type.Lock m) fits = fits
  constructed_fits o (type.Thread k) fits = fits
  constructed_fits o (type.Target k) fits = fits

  pub kept : IsKept TypeFits
  kept = record { int = tt; out = tt; args = tt; this = tt; constructs = constructed_fits }

  brought_in : (s : Symbol) → SymbolFits s → SymbolGood TypeFits s
  brought_in (symbol.Monitor m) fits = fits
  brought_in (symbol.Make k) fits = fits
  brought_in (symbol.MakeTarget k) fits = fits
  brought_in s fits = tt

  constructs_fit : (top : Option ValueType) → OneGood TypeFits top → IsInRange p (operands.constructed top)
  constructs_fit (Some (type.Fresh k)) fits = fits
  constructs_fit top fits = tt

  targets_fit : (top : Option ValueType) → OneGood TypeFits top → IsInRange p (operands.target_constructed top)
  targets_fit (Some (type.FreshTarget k)) fits = fits
  targets_fit top fits = tt

  wraps_fit : (top : Option ValueType) → OneGood TypeFits top → IsInRange p (operands.wrapped top)
  wraps_fit (Some (type.Target k)) fits = fits
  wraps_fit top fits = tt

  starts_fit : (top : Option ValueType) → OneGood TypeFits top → IsInRange p (operands.started top)
  starts_fit (Some (type.Thread k)) fits = fits
  starts_fit top fits = tt

  joins_fit : (top : Option ValueType) → OneGood TypeFits top → IsInRange p (operands.joined top)
  joins_fit (Some (type.Thread k)) fits = fits
  joins_fit top fits = tt

  asks_fit : (top : Option ValueType) → OneGood TypeFits top → IsInRange p (operands.asked top)
  asks_fit (Some (type.Thread k)) fits = fits
  asks_fit top fits = tt

  locks_fit : (top : Option ValueType) → OneGood TypeFits top → IsInRange p (monitor_in top)
  locks_fit (Some (type.Lock m)) fits = fits
  locks_fit top fits = tt

  named_fits : (s : Symbol) (top : Option ValueType) → SymbolFits s → OneGood TypeFits top → IsInRange p (named s top)
  named_fits (symbol.Constant n) top s t = s
  named_fits (symbol.Variable v) top s t = s
  named_fits symbol.Out top s t = tt
  named_fits symbol.Print top s t = tt
  named_fits (symbol.Monitor m) top s t = s
  named_fits (symbol.Make k) top s t = s
  named_fits symbol.Construct top s t = constructs_fit top t
  named_fits (symbol.MakeTarget k) top s t = s
  named_fits symbol.ConstructTarget top s t = targets_fit top t
  named_fits symbol.Wrap top s t = wraps_fit top t
  named_fits symbol.Start top s t = starts_fit top t
  named_fits symbol.Join top s t = joins_fit top t
  named_fits symbol.Alive top s t = asks_fit top t
  named_fits (symbol.Call method parameters result) top s t = s
  named_fits symbol.Nothing top s t = tt

  pub operand_fits : (i : Instr) (s : Symbol) (top : Option ValueType) → SymbolFits s → OneGood TypeFits top → IsInRange p (operand_of i s top)
  operand_fits Monitorenter s top fits t = locks_fit top t
  operand_fits Monitorexit s top fits t = locks_fit top t
  operand_fits i s top fits t = named_fits s top fits t

-- ---- Symbols of a linked program

module _ (classes : List ClassRecord) (p : Prog) (is : IsProgramOf classes p) where
  variables_are : p.variables ≡ variables_of classes is.is_untyped.methods
  variables_are = is.variables ∙ is.is_untyped.program.variables

  monitors_are : p.monitors ≡ monitors_of classes is.is_untyped.methods
  monitors_are = is.monitors ∙ is.is_untyped.program.monitors

  module _ (r : ReachedMethod) (inside : Contains is.is_untyped.methods r) where
    reached : IsReachedMethod classes is.is_untyped.main r
    reached = all_of (IsReachedMethod classes is.is_untyped.main) is.is_untyped.methods r is.is_untyped.reached.each inside

    is_field_itself : (c f : ℕ) → is_field c f (target.Field c f) ≡ true
    is_field_itself c f = grind (arith, nat_tests)

    marked : (c f : ℕ) → Contains r.targets (target.Field c f) → is_variable is.is_untyped.methods c f ≡ true
    marked c f (k, within, here) =
        let named = list_any_at (is_field c f) r.targets k (target.Field c f) within (ap (is_field c f) here ∙ is_field_itself c f) in
        list_any_at (λ (x : ReachedMethod). is_named x.targets c f) is.is_untyped.methods inside.0 r inside.1 (ap (λ (x : ReachedMethod). is_named x.targets c f) inside.2 ∙ named)

    field_fits : (c f : ℕ) → Contains r.targets (target.Field c f) → IsIntFieldAt classes c f → number_of classes is.is_untyped.methods c f < length p.variables
    field_fits c f there field =
        let at = field_places classes is.is_untyped.methods c f field.class field.field field.class_there field.field_there (marked c f there) in
        let within = slice_get_within (variables_of classes is.is_untyped.methods) (number_of classes is.is_untyped.methods c f) (variable_of field.class field.field) at in
        let same = ap length variables_are in
        omega (arith, within, same)

    monitor_fits : (name : List ℕ) (o : Option ℕ) (s : Symbol) → monitor_number (monitors_of classes is.is_untyped.methods) name ≡ o → option_map symbol.Monitor o ≡ Some s → SymbolFits p s
    monitor_fits name None s found e = absurd (none-some s e)
    monitor_fits name (Some n) s found e =
        let within = (position-Some (same_text name) (monitors_of classes is.is_untyped.methods) n name found).0 in
        let same = ap length monitors_are in
        let fits : n < length p.monitors = omega (arith, within, same) in
        subst (SymbolFits p) (same_Some (symbol.Monitor n) s e) fits

    call_fits : (id : MethodId) (o : Option Signature) (s : Symbol) → Contains r.targets (target.Call id) → option_map (called id) o ≡ Some s → SymbolFits p s
    call_fits id None s there e = absurd (none-some s e)
    call_fits id (Some signature) s there e =
        let call = instruction_of classes is.is_untyped.main r reached (target.Call id) there in
        let leads = reach.calls (record { pc = call.0.pc; instr = call.0.instr; call = call.1 }) in
        let among = is_among classes p is id (walked (Leads classes is.is_untyped.main) is.is_untyped.main r.id id reached.reached leads) in
        subst (SymbolFits p) (same_Some (called id signature) s e) among

    few_made : is_method r.id is.is_untyped.main ≡ true → 1 + made_in r.targets ≤ length p.threads
    few_made main =
        let count = thread_count classes p is in
        let same = ap made_in (of_main is.is_untyped.main is.is_untyped.methods r is.is_untyped.reached.by_place inside main) in
        omega (arith, count, same)

    symbol_fits : (pool : List PoolEntry) (made : ℕ) (t : Target) (s : Symbol) → Contains r.targets t → WellNamed classes (is_method r.id is.is_untyped.main) reached.class.pool (Names t) →
        made + (if is_new t then 1 else 0) ≤ made_in r.targets → symbol_of classes (number_of classes is.is_untyped.methods) (monitors_of classes is.is_untyped.methods) pool made t ≡ Some s → SymbolFits p s
    symbol_fits pool made (target.Constant n) s there well few e = subst (SymbolFits p) (same_Some _ s e) well
    symbol_fits pool made (target.Class index) s there well few e =
        monitor_fits (class_name_of pool index) (monitor_number (monitors_of classes is.is_untyped.methods) (class_name_of pool index)) s refl e
    symbol_fits pool made (target.Field c f) s there well few e =
        let fits : SymbolFits p (symbol.Variable (number_of classes is.is_untyped.methods c f)) = field_fits c f there well in subst (SymbolFits p) (same_Some _ s e) fits
    symbol_fits pool made (target.New class_at) s there well few e =
        let room = few_made well in
        let fits : SymbolFits p (symbol.Make (made + 1)) = omega (arith, room, few) in subst (SymbolFits p) (same_Some _ s e) fits
    symbol_fits pool made target.NewTarget s there well few e =
        let room = few_made well in
        let fits : SymbolFits p (symbol.MakeTarget made) = omega (arith, room, few) in subst (SymbolFits p) (same_Some _ s e) fits
    symbol_fits pool made (target.Call id) s there well few e = call_fits id (signature_at classes id) s there e
    symbol_fits pool made target.Out s there well few e = subst (SymbolFits p) (same_Some symbol.Out s e) tt
    symbol_fits pool made target.Print s there well few e = subst (SymbolFits p) (same_Some symbol.Print s e) tt
    symbol_fits pool made target.Construct s there well few e = subst (SymbolFits p) (same_Some symbol.Construct s e) tt
    symbol_fits pool made target.ConstructTarget s there well few e = subst (SymbolFits p) (same_Some symbol.ConstructTarget s e) tt
    symbol_fits pool made target.Wrap s there well few e = subst (SymbolFits p) (same_Some symbol.Wrap s e) tt
    symbol_fits pool made target.Start s there well few e = subst (SymbolFits p) (same_Some symbol.Start s e) tt
    symbol_fits pool made target.Join s there well few e = subst (SymbolFits p) (same_Some symbol.Join s e) tt
    symbol_fits pool made target.Alive s there well few e = subst (SymbolFits p) (same_Some symbol.Alive s e) tt
    symbol_fits pool made target.Nothing s there well few e = subst (SymbolFits p) (same_Some symbol.Nothing s e) tt

  -- each symbol of a method
  pub symbols_fit : (m : Method) (c : Comes classes p is m) (k : ℕ) (s : Symbol) → slice_get c.u.symbols k ≡ Some s → SymbolFits p s
  symbols_fit m c k s there =
      let inside = contains_at is.is_untyped.methods c.place c.r c.r_there in
      let t = target_at classes (number_of classes is.is_untyped.methods) (monitors_of classes is.is_untyped.methods) c.untyped.class.pool 0 c.u.symbols c.r.targets k s c.untyped.symbols there in
      let named = contains_at c.r.targets k t.t t.there in
      let few = t.few in
      symbol_fits c.r inside c.untyped.class.pool t.made t.t s named
      (well_target classes is.is_untyped.main c.r (reached c.r inside) is.is_untyped.has_main.profile t.t named) (omega (arith, few)) t.is

  first_fits : (stack : List ValueType) → StackGood (TypeFits p) stack → OneGood (TypeFits p) (slice_get stack 0)
  first_fits [] good = tt
  first_fits (t ∷ stack) good = good.0

  top_fits : (m : Method) (c : Comes classes p is m) (k : ℕ) (item : Listed) (state : TypedState) → slice_get c.u.listing k ≡ Some item → slice_get m.typed k ≡ Some state → OneGood (TypeFits p) (top_of state)
  top_fits m c k item state item_there state_there =
      let typed = c.typed.typing.typed k item state item_there state_there in
      let s = typed.is_reached.0 in
      let path = typed.is_reached.1 in
      let good = path_good (TypeFits p) (kept p) c.u (λ i x there. brought_in p x (symbols_fit m c i x there)) path.steps item.pc s path.path in
      subst (λ (stack : List ValueType). OneGood (TypeFits p) (slice_get stack 0)) (typed.stack s path) (first_fits s.stack good.stack)

  pub operands_are_in_range : (m : Method) → Contains p.methods m → All (IsInRange p) m.operands
  operands_are_in_range m inside = all_from (IsInRange p) m.operands each
    where
      each : (o : Operand) → Contains m.operands o → IsInRange p o
      each o there =
          let c = comes classes p is m inside in
          let at = place_of m.operands o there in
          let k = at.0 in
          let found = operand_at c.u.listing c.u.symbols m.typed k o (ap (λ (l : List Operand). slice_get l k) (sym c.typed.operands) ∙ at.1) in
          subst (IsInRange p) found.is
          (operand_fits p found.item.instr found.s (top_of found.state) (symbols_fit m c k found.s found.s_there) (top_fits m c k found.item found.state found.item_there found.state_there))
