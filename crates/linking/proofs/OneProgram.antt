-- Classes make at most one program.
use Rattle.std.proofs.Common.{◌≡◌, ℕ, List, Some, slice_get, sym, ap, ◌∙◌, subst, arith}
use Rattle.std.proofs.lemmas.Option.{slice_get_within}
use Rattle.program.proofs.Lists.{same_at_places, there_is}
use Rattle.class_format.specs.declared.record.ClassRecord.{ClassRecord}
use Rattle.opcodes.specs.declared.listed.Listed.{Listed}
use Rattle.program.specs.Program.{Prog}
use Rattle.program.specs.declared.method.Frame.{Frame}
use Rattle.program.specs.declared.method.Method.{Method}
use Rattle.program.specs.declared.method.MethodId.{MethodId}
use Rattle.program.specs.declared.method.Operand.{Operand}
use Rattle.program.specs.declared.program.Variable.{Variable}
use Rattle.program.specs.declared.value_type.TypedState.{TypedState}
use Rattle.reached_methods.specs.Laws.{OneList}
use Rattle.reached_methods.specs.Reached.{AreReachedMethods}
use Rattle.reached_methods.specs.declared.method.ReachedMethod.{ReachedMethod}
use Rattle.typing.specs.Laws.{OneTyping}
use Rattle.typing.specs.declared.untyped.UntypedMethod.{UntypedMethod}
use Rattle.untyped_program.specs.Laws.{OneUntypedProgram}
use Rattle.untyped_program.specs.Untyped.{IsUntypedProgram}
use Rattle.untyped_program.specs.declared.untyped.UntypedProgram.{UntypedProgram}
use Rattle.linking.specs.Laws.{OneProgram}
use Rattle.linking.specs.Linking.{AreTypedMethods, HasMainOf, IsTypedMethod, IsUntypedOf}
use Rattle.linking.specs.Operands.{operands_of}

-- ---- Main

one_id : (a b c d : ℕ) → a ≡ c → b ≡ d → ◌≡◌ {A = MethodId} (record { class = a; method = b }) (record { class = c; method = d })
one_id a b c d class method = cc

pub same_main : (classes : List ClassRecord) (main other : MethodId) → HasMainOf classes main → HasMainOf classes other → main ≡ other
same_main classes main other is also =
    let same = is.is_main.only other.class other.method also.is_main.main in
    one_id main.class main.method other.class other.method (sym same.0) (sym same.1)

-- ---- Before typing

pub same_untyped : OneList → OneUntypedProgram → (classes : List ClassRecord) (u v : UntypedProgram) → IsUntypedOf classes u → IsUntypedOf classes v → u ≡ v
same_untyped one_list one_untyped classes u v is also =
    let main : also.main ≡ is.main = same_main classes also.main is.main also.has_main is.has_main in
    let methods : also.methods ≡ is.methods = one_list classes is.main also.methods is.methods (subst (λ (m : MethodId). AreReachedMethods classes m also.methods) main also.reached) is.reached in
    one_untyped classes is.main is.methods u v is.program
    (subst (λ (ms : List ReachedMethod). IsUntypedProgram classes is.main ms v) methods (subst (λ (m : MethodId). IsUntypedProgram classes m also.methods v) main also.program))

-- ---- Typed

one_method : (i j : MethodId) (f g : Frame) (l n : List Listed) (o q : List Operand) (s t : List TypedState) → i ≡ j → f ≡ g → l ≡ n → o ≡ q → s ≡ t →
    ◌≡◌ {A = Method} (record { id = i; frame = f; listing = l; operands = o; typed = s }) (record { id = j; frame = g; listing = n; operands = q; typed = t })
one_method i j f g l n o q s t id frame listing operands typed = cc

same_typed : OneTyping → (u : UntypedMethod) (m n : Method) → IsTypedMethod u m → IsTypedMethod u n → m ≡ n
same_typed one_typing u m n is also =
    let typed : m.typed ≡ n.typed = one_typing u m.typed n.typed is.typing also.typing in
    one_method m.id n.id m.frame n.frame m.listing n.listing m.operands n.operands m.typed n.typed (is.id ∙ sym also.id) (is.frame ∙ sym also.frame)
    (is.listing ∙ sym also.listing) (is.operands ∙ ap (operands_of u.listing u.symbols) typed ∙ sym also.operands) typed

same_methods : OneTyping → (us : List UntypedMethod) (ms ns : List Method) → AreTypedMethods us ms → AreTypedMethods us ns → ms ≡ ns
same_methods one_typing us ms ns are also = same_at_places ms ns (are.same_length ∙ sym also.same_length) each
  where
    each : (k : ℕ) (m n : Method) → slice_get ms k ≡ Some m → slice_get ns k ≡ Some n → m ≡ n
    each k m n m_there n_there =
        let within = slice_get_within ms k m m_there in
        let size = are.same_length in
        let u = there_is us k (omega (arith, within, size)) in
        same_typed one_typing u.0 m n (are.each k u.0 m u.1 m_there) (also.each k u.0 n u.1 n_there)

-- ---- The program

one_whole : (v w : List Variable) (m n : List (List ℕ)) (s t : List MethodId) (x y : List Method) → v ≡ w → m ≡ n → s ≡ t → x ≡ y →
    ◌≡◌ {A = Prog} (record { variables = v; monitors = m; threads = s; methods = x }) (record { variables = w; monitors = n; threads = t; methods = y })
one_whole v w m n s t x y variables monitors threads methods = cc

pub one_program : OneList → OneUntypedProgram → OneTyping → OneProgram
one_program one_list one_untyped one_typing classes first second is also =
    let untyped : also.untyped ≡ is.untyped = same_untyped one_list one_untyped classes also.untyped is.untyped also.is_untyped is.is_untyped in
    let methods = same_methods one_typing is.untyped.methods first.methods second.methods is.typed
    (subst (λ (u : UntypedProgram). AreTypedMethods u.methods second.methods) untyped also.typed) in
    one_whole first.variables second.variables first.monitors second.monitors first.threads second.threads first.methods second.methods
    (is.variables ∙ sym (ap (λ (u : UntypedProgram). u.variables) untyped) ∙ sym also.variables)
    (is.monitors ∙ sym (ap (λ (u : UntypedProgram). u.monitors) untyped) ∙ sym also.monitors)
    (is.threads ∙ sym (ap (λ (u : UntypedProgram). u.threads) untyped) ∙ sym also.threads) methods
