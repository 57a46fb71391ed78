-- The methods that are called, and those with which threads begin.
use Rattle.std.proofs.Common.{◌≡◌, ◌≢◌, ◌&&◌, ℕ, zero, suc, Bool, true, false, List, ◌∷◌, Option, Some, None, Contains, codes, map, slice_get, not, refl, sym, ap, subst, ◌∙◌, if◌then◌else◌}
use Rattle.std.proofs.lemmas.Bool.{false≢true}
use Rattle.std.proofs.lemmas.List.Quantifiers.{position-Some}
use Rattle.std.proofs.lemmas.Option.{get_or_from_slice_get, none-some, same_Some}
use Rattle.std.specs.Option.{option_map}
use Rattle.std.specs.List.{filter_map, list_any}
use Rattle.class_format.specs.ClassText.{is_code}
use Rattle.class_format.specs.declared.record.ClassRecord.{ClassRecord}
use Rattle.class_format.specs.declared.record.Member.{Member}
use Rattle.class_format.specs.declared.record.PoolEntry.{PoolEntry}
use Rattle.class_names.specs.Members.{member_descriptor, member_name, static_flag, synchronized_flag}
use Rattle.class_names.specs.Names.{class_name_of, has_flag, same_text}
use Rattle.program.proofs.Lists.{contains_at, slice_get_mapped, slice_get_of}
use Rattle.program.specs.Program.{Prog, IsMethod}
use Rattle.program.specs.declared.method.Method.{Method}
use Rattle.program.specs.declared.method.MethodId.{MethodId}
use Rattle.reached_methods.proofs.Leading.{is_itself, run_is, same_method}
use Rattle.reached_methods.specs.Reached.{IsMethodAt, is_method, run_of}
use Rattle.resolution.specs.Signatures.{signature_of}
use Rattle.resolution.specs.Targets.{is_run}
use Rattle.resolution.specs.declared.signature.Signature.{Signature}
use Rattle.resolution.specs.declared.target.Target.{Target}
use Rattle.resolution.specs.declared.target.Target.TheVariants as target
use Rattle.typing.specs.declared.symbol.Symbol.TheVariants as symbol
use Rattle.typing.specs.declared.untyped.Entry.{Entry}
use Rattle.typing.specs.declared.untyped.Entry.TheVariants as entry
use Rattle.untyped_program.specs.Methods.{called, entry_of, signature_at, signature_by, signature_in, signature_of_member, symbol_of}
use Rattle.untyped_program.specs.Monitors.{monitor_number, monitors_of}
use Rattle.untyped_program.specs.Threads.{class_made, main_targets}
use Rattle.untyped_program.specs.Variables.{number_of}
use Rattle.linking.specs.Linking.{IsProgramOf}
use Rattle.linked_laws.proofs.Instructions.{well_target}
use Rattle.linked_laws.proofs.Listed.{target_at}
use Rattle.linked_laws.proofs.Methods.{Comes, id_is}
use Rattle.linked_laws.proofs.Resolved.{and_first, and_second}

-- ---- What a call names

of_class : (o : Option ℕ) (id : MethodId) (parameters : ℕ) (result : Bool) → option_map symbol.Monitor o ≡ Some (symbol.Call id parameters result) → ⊥
of_class None id parameters result e = cc
of_class (Some n) id parameters result e = cc

-- the target of a call, and the signature of the method
record IsCallOf (classes : List ClassRecord) (t : Target) (id : MethodId) (parameters : ℕ) (result : Bool) : Type 0 where
  names : t ≡ target.Call id
  signature : signature_at classes id ≡ Some (record { parameters = parameters; result = result })

of_call : (classes : List ClassRecord) (method id : MethodId) (parameters : ℕ) (result : Bool) (o : Option Signature) → signature_at classes method ≡ o →
    option_map (called method) o ≡ Some (symbol.Call id parameters result) → IsCallOf classes (target.Call method) id parameters result
of_call classes method id parameters result None is e = cc
of_call classes method id parameters result (Some signature) is e =
    let same : method ≡ id = cc in
    let takes : signature.parameters ≡ parameters = cc in
    let leaves : signature.result ≡ result = cc in
    record {
      names = ap target.Call same;
      signature = ap (signature_at classes) (sym same) ∙ is ∙ (λ i. Some (record { parameters = takes i; result = leaves i }));
    }

call_of : (classes : List ClassRecord) (number : ℕ → ℕ → ℕ) (monitors : List (List ℕ)) (pool : List PoolEntry) (made : ℕ) (t : Target) (id : MethodId) (parameters : ℕ) (result : Bool) →
    symbol_of classes number monitors pool made t ≡ Some (symbol.Call id parameters result) → IsCallOf classes t id parameters result
call_of classes number monitors pool made (target.Class index) id parameters result e = absurd (of_class (monitor_number monitors (class_name_of pool index)) id parameters result e)
call_of classes number monitors pool made (target.Call method) id parameters result e = of_call classes method id parameters result (signature_at classes method) refl e
call_of classes number monitors pool made t id parameters result e = cc

-- ---- Methods of one place

same_member : (classes : List ClassRecord) (id : MethodId) (class other : ClassRecord) (m n : Member) → slice_get classes id.class ≡ Some class → slice_get class.methods id.method ≡ Some m →
    slice_get classes id.class ≡ Some other → slice_get other.methods id.method ≡ Some n → m ≡ n
same_member classes id class other m n class_there m_there other_there n_there =
    let same : class ≡ other = same_Some class other (sym class_there ∙ other_there) in
    same_Some m n (sym m_there ∙ ap (λ (x : ClassRecord). slice_get x.methods id.method) same ∙ n_there)

same_pool : (classes : List ClassRecord) (id : MethodId) (class other : ClassRecord) → slice_get classes id.class ≡ Some class → slice_get classes id.class ≡ Some other → class ≡ other
same_pool classes id class other there also = same_Some class other (sym there ∙ also)

module _ (classes : List ClassRecord) (p : Prog) (is : IsProgramOf classes p) where
  abbrev pub main : MethodId
  main = is.is_untyped.main

  -- main can't be called: its descriptor has no signature of ints
  main_uncalled : (signature : Signature) → signature_at classes main ≡ Some signature → ⊥
  main_uncalled signature has =
      let at = is.is_untyped.has_main.is_main.main in
      let none : signature_at classes main ≡ None =
      ap (λ (o : Option ClassRecord). signature_in o main.method) at.class_there ∙ ap (signature_of_member at.class) at.method_there ∙ ap signature_of at.main.spelled.descriptor_is in
      none-some signature (sym none ∙ has)

  -- a method of the program under this name
  pub record IsCalled (id : MethodId) (parameters : ℕ) (result : Bool) (m : Method) (c : Comes classes p is m) : Type 0 where
    pub entry_is : c.u.entry ≡ entry.Static
    pub parameters_are : m.frame.parameters ≡ parameters
    pub result_is : m.frame.result ≡ result

  entry_static : (b : Bool) (m : Member) → b ≡ false → has_flag m.flags static_flag ≡ true → entry_of b m ≡ entry.Static
  entry_static b m other static = ap (λ (x : Bool). entry_of x m) other ∙ ap (λ (x : Bool). if x then entry.Static else entry.Run) static

  is_not : (b : Bool) → (b ≡ true → ⊥) → b ≡ false
  is_not true never = absurd (never refl)
  is_not false never = refl

  pub called_is : (caller : Method) (from : Comes classes p is caller) (k : ℕ) (id : MethodId) (parameters : ℕ) (result : Bool) → slice_get from.u.symbols k ≡ Some (symbol.Call id parameters result) →
      (m : Method) → IsMethod p id m → (c : Comes classes p is m) → IsCalled id parameters result m c
  called_is caller from k id parameters result there m is_m c =
      let t = target_at classes (number_of classes is.is_untyped.methods) (monitors_of classes is.is_untyped.methods) from.untyped.class.pool 0 from.u.symbols from.r.targets k
      (symbol.Call id parameters result) from.untyped.symbols there in
      let call = call_of classes (number_of classes is.is_untyped.methods) (monitors_of classes is.is_untyped.methods) from.untyped.class.pool t.made t.t id parameters result t.is in
      let well = well_target classes main from.r from.reached is.is_untyped.has_main.profile (target.Call id) (subst (Contains from.r.targets) call.names (contains_at from.r.targets k t.t t.there)) in
      let name : c.r.id ≡ id = sym (id_is classes p is m c) ∙ is_m.named in
      let here = subst (λ (x : MethodId). IsMethodAt classes x c.untyped.class c.untyped.method) name c.untyped.there in
      let member = same_member classes id c.untyped.class well.class c.untyped.method well.method here.class_there here.method_there well.class_there well.method_there in
      let static : has_flag c.untyped.method.flags static_flag ≡ true = ap (λ (x : Member). has_flag x.flags static_flag) member ∙ well.static in
      let other : is_method c.r.id main ≡ false = is_not (is_method c.r.id main) (λ same.
      main_uncalled (record { parameters = parameters; result = result }) (ap (signature_at classes) (sym (same_method c.r.id main same) ∙ name) ∙ call.signature)) in
      let begins : c.u.entry ≡ entry.Static = c.untyped.entry ∙ entry_static (is_method c.r.id main) c.untyped.method other static in
      let declared = subst (λ (x : Entry). signature_by x (member_descriptor c.untyped.class.pool c.untyped.method) ≡ Some c.untyped.signature) begins c.untyped.declared in
      let at : signature_at classes id ≡ signature_of (member_descriptor c.untyped.class.pool c.untyped.method) =
      ap (λ (o : Option ClassRecord). signature_in o id.method) here.class_there ∙ ap (signature_of_member c.untyped.class) here.method_there in
      let signature : c.untyped.signature ≡ record { parameters = parameters; result = result } =
      same_Some c.untyped.signature (record { parameters = parameters; result = result }) (sym declared ∙ sym at ∙ call.signature) in
      let frame = c.typed.frame ∙ c.untyped.frame in
      record {
        entry_is = begins;
        parameters_are = ap (λ f. f.parameters) frame ∙ ap (λ (x : Signature). x.parameters) signature;
        result_is = ap (λ f. f.result) frame ∙ ap (λ (x : Signature). x.result) signature;
      }

  -- ---- Entries

  pub main_begins : (m : Method) → IsMethod p main m → (c : Comes classes p is m) → c.u.entry ≡ entry.Main
  main_begins m is_m c =
      let name : c.r.id ≡ main = sym (id_is classes p is m c) ∙ is_m.named in
      c.untyped.entry ∙ ap (λ (b : Bool). entry_of b c.untyped.method) (ap (λ (x : MethodId). is_method x main) name ∙ is_itself main)

  run_unstatic : (pool : List PoolEntry) (m : Member) → is_run pool m ≡ true → has_flag m.flags static_flag ≡ false
  run_unstatic pool m runs =
      let a = has_flag m.flags static_flag in
      opposite a (and_second (same_text (member_name pool m) (codes "run") && same_text (member_descriptor pool m) (codes "()V")) (not a)
      (and_first (same_text (member_name pool m) (codes "run") && same_text (member_descriptor pool m) (codes "()V") && not a) (not (has_flag m.flags synchronized_flag))
      (and_first (same_text (member_name pool m) (codes "run") && same_text (member_descriptor pool m) (codes "()V") && not a && not (has_flag m.flags synchronized_flag)) (list_any is_code m.attributes) runs)))
    where
      opposite : (b : Bool) → not b ≡ true → b ≡ false
      opposite true e = absurd (false≢true e)
      opposite false e = refl

  pub run_begins : (id : MethodId) (class_at : ℕ) → run_of classes class_at ≡ Some id → (m : Method) → IsMethod p id m → (c : Comes classes p is m) → c.u.entry ≡ entry.Run
  run_begins id class_at run m is_m c =
      let runs = (run_is classes class_at id).1 run in
      let name : c.r.id ≡ id = sym (id_is classes p is m c) ∙ is_m.named in
      let here = subst (λ (x : MethodId). IsMethodAt classes x c.untyped.class c.untyped.method) name c.untyped.there in
      let class : c.untyped.class ≡ runs.class = same_Some c.untyped.class runs.class (sym here.class_there ∙ ap (slice_get classes) runs.same_class ∙ runs.class_there) in
      let there : slice_get runs.class.methods id.method ≡ Some c.untyped.method = ap (λ (x : ClassRecord). slice_get x.methods id.method) (sym class) ∙ here.method_there in
      let at = get_or_from_slice_get runs.class.methods id.method c.untyped.method c.untyped.method there in
      let passes = ap (is_run runs.class.pool) (sym at) ∙ (position-Some (is_run runs.class.pool) runs.class.methods id.method c.untyped.method runs.first).1 in
      let unstatic = run_unstatic runs.class.pool c.untyped.method passes in
      let main_at = is.is_untyped.has_main.is_main.main in
      let other : is_method c.r.id main ≡ false = is_not (is_method c.r.id main) (λ same.
      let as_main = subst (λ (x : MethodId). IsMethodAt classes x c.untyped.class c.untyped.method) (same_method c.r.id main same) c.untyped.there in
      let member = same_member classes main c.untyped.class main_at.class c.untyped.method main_at.method as_main.class_there as_main.method_there main_at.class_there main_at.method_there in
      false≢true (sym unstatic ∙ ap (λ (x : Member). has_flag x.flags static_flag) member ∙ main_at.main.static)) in
      c.untyped.entry ∙ ap (λ (b : Bool). entry_of b c.untyped.method) other ∙ ap (λ (b : Bool). if b then entry.Static else entry.Run) unstatic

  -- the entry of a thread: main's, or a run()V
  pub data Begins (k : ℕ) (id : MethodId) : Type 0 where
    by_main : k ≡ 0 → id ≡ main → Begins k id
    by_run : (j class_at : ℕ) → k ≡ suc j → run_of classes class_at ≡ Some id → Begins k id

  pub begins : (k : ℕ) (id : MethodId) → slice_get p.threads k ≡ Some id → Begins k id
  begins k id there = pick k (ap (λ (l : List (Option MethodId)). slice_get l k) (sym (ap (map Some) is.threads ∙ is.is_untyped.program.threads)) ∙ slice_get_of Some p.threads k id there)
    where
      pick : (k : ℕ) → slice_get (Some main ∷ map (run_of classes) (filter_map class_made (main_targets main is.is_untyped.methods))) k ≡ Some (Some id) → Begins k id
      pick zero at = by_main refl (let same : main ≡ id = cc in sym same)
      pick (suc j) at =
          let found = slice_get_mapped (run_of classes) (filter_map class_made (main_targets main is.is_untyped.methods)) j (Some id) at in
          by_run j found.0 refl found.2

  plain_signature : (e : Entry) (descriptor : List ℕ) (signature : Signature) → e ≢ entry.Static → signature_by e descriptor ≡ Some signature → signature.result ≡ false
  plain_signature entry.Main descriptor signature other is = let same : record { parameters = 1; result = false } ≡ signature = same_Some _ signature is in ap (λ (x : Signature). x.result) (sym same)
  plain_signature entry.Run descriptor signature other is = let same : record { parameters = 1; result = false } ≡ signature = same_Some _ signature is in ap (λ (x : Signature). x.result) (sym same)
  plain_signature entry.Static descriptor signature other is = absurd (other refl)

  -- the entry of a thread returns nothing
  pub returns_nothing : (k : ℕ) (id : MethodId) (m : Method) → IsMethod p id m → (c : Comes classes p is m) → Begins k id → m.frame.result ≡ false
  returns_nothing k id m is_m c kind =
      ap (λ f. f.result) (c.typed.frame ∙ c.untyped.frame) ∙ plain_signature c.u.entry (member_descriptor c.untyped.class.pool c.untyped.method) c.untyped.signature (unstatic kind) c.untyped.declared
    where
      unstatic : Begins k id → c.u.entry ≢ entry.Static
      unstatic (by_main first main_is) same = let never : entry.Main ≡ entry.Static = sym (main_begins m (record { reached = is_m.reached; named = is_m.named ∙ main_is }) c) ∙ same in cc
      unstatic (by_run j class_at later run) same = let never : entry.Run ≡ entry.Static = sym (run_begins id class_at run m is_m c) ∙ same in cc
