-- Reached methods make at most one program.
use Rattle.std.proofs.Common.{◌≡◌, ℕ, List, [], ◌∷◌, Some, map, slice_get, refl, sym, ap, ◌∙◌, arith}
use Rattle.std.proofs.lemmas.Option.{same_Some, slice_get_within}
use Rattle.program.proofs.Lists.{same_at_places, there_is}
use Rattle.class_format.specs.declared.record.ClassRecord.{ClassRecord}
use Rattle.class_format.specs.declared.record.CodeBody.{CodeBody}
use Rattle.class_format.specs.declared.record.Member.{Member}
use Rattle.class_names.specs.Members.{body_of, member_descriptor}
use Rattle.opcodes.specs.declared.listed.Listed.{Listed}
use Rattle.program.specs.declared.method.Frame.{Frame}
use Rattle.program.specs.declared.method.MethodId.{MethodId}
use Rattle.program.specs.declared.program.Variable.{Variable}
use Rattle.reached_methods.specs.Reached.{is_method}
use Rattle.reached_methods.specs.declared.method.ReachedMethod.{ReachedMethod}
use Rattle.resolution.specs.declared.signature.Signature.{Signature}
use Rattle.typing.specs.declared.symbol.Symbol.{Symbol}
use Rattle.typing.specs.declared.untyped.Entry.{Entry}
use Rattle.typing.specs.declared.untyped.UntypedMethod.{UntypedMethod}
use Rattle.untyped_program.specs.Laws.{OneUntypedProgram}
use Rattle.untyped_program.specs.Methods.{IsUntypedMethod, entry_of, frame_of, own_monitor, signature_by, symbols_from}
use Rattle.untyped_program.specs.Monitors.{monitors_of}
use Rattle.untyped_program.specs.Untyped.{AreUntyped}
use Rattle.untyped_program.specs.Variables.{number_of}
use Rattle.untyped_program.specs.declared.untyped.UntypedProgram.{UntypedProgram}

same_listed : {X : Type 0} (xs ys : List X) → map Some xs ≡ map Some ys → xs ≡ ys
same_listed [] [] same = refl
same_listed [] (y ∷ ys) same = cc
same_listed (x ∷ xs) [] same = cc
same_listed (x ∷ xs) (y ∷ ys) same =
    let first : x ≡ y = cc in
    let tails : map Some xs ≡ map Some ys = cc in
    let rest = same_listed xs ys tails in
    cc

one_method : (i j : MethodId) (e f : Entry) (x y : Frame) (l n : List Listed) (s t : List Symbol) → i ≡ j → e ≡ f → x ≡ y → l ≡ n → s ≡ t →
    ◌≡◌ {A = UntypedMethod} (record { id = i; entry = e; frame = x; listing = l; symbols = s }) (record { id = j; entry = f; frame = y; listing = n; symbols = t })
one_method i j e f x y l n s t id entry frame listing symbols = cc

one_program : (v w : List Variable) (m n : List (List ℕ)) (s t : List MethodId) (x y : List UntypedMethod) → v ≡ w → m ≡ n → s ≡ t → x ≡ y →
    ◌≡◌ {A = UntypedProgram} (record { variables = v; monitors = m; threads = s; methods = x }) (record { variables = w; monitors = n; threads = t; methods = y })
one_program v w m n s t x y variables monitors threads methods = cc

module _ (classes : List ClassRecord) (main : MethodId) (number : ℕ → ℕ → ℕ) (monitors : List (List ℕ)) where
  same_untyped : (m : ReachedMethod) (u v : UntypedMethod) → IsUntypedMethod classes main number monitors m u → IsUntypedMethod classes main number monitors m v → u ≡ v
  same_untyped m u v is other =
      let class : is.class ≡ other.class = same_Some is.class other.class (sym is.there.class_there ∙ other.there.class_there) in
      let method : is.method ≡ other.method = same_Some is.method other.method
      (sym is.there.method_there ∙ ap (λ (c : ClassRecord). slice_get c.methods m.id.method) class ∙ other.there.method_there) in
      let body : is.body ≡ other.body = same_Some is.body other.body (sym is.code ∙ ap body_of method ∙ other.code) in
      let entry : u.entry ≡ v.entry = is.entry ∙ ap (entry_of (is_method m.id main)) method ∙ sym other.entry in
      let descriptor = ap (λ (c : ClassRecord). member_descriptor c.pool is.method) class ∙ ap (member_descriptor other.class.pool) method in
      let signature : is.signature ≡ other.signature = same_Some is.signature other.signature
      (sym is.declared ∙ ap (λ (e : Entry). signature_by e (member_descriptor is.class.pool is.method)) entry ∙ ap (signature_by v.entry) descriptor ∙ other.declared) in
      let frame : u.frame ≡ v.frame = is.frame ∙ ap (λ (b : CodeBody). frame_of b is.signature (own_monitor is.class is.method monitors)) body
      ∙ ap (λ (s : Signature). frame_of other.body s (own_monitor is.class is.method monitors)) signature
      ∙ ap (λ (c : ClassRecord). frame_of other.body other.signature (own_monitor c is.method monitors)) class
      ∙ ap (λ (x : Member). frame_of other.body other.signature (own_monitor other.class x monitors)) method ∙ sym other.frame in
      let symbols : u.symbols ≡ v.symbols = same_listed u.symbols v.symbols
      (is.symbols ∙ ap (λ (c : ClassRecord). symbols_from classes number monitors c.pool 0 m.targets) class ∙ sym other.symbols) in
      one_method u.id v.id u.entry v.entry u.frame v.frame u.listing v.listing u.symbols v.symbols (is.id ∙ sym other.id) entry frame (is.listing ∙ sym other.listing) symbols

  same_methods : (methods : List ReachedMethod) (us vs : List UntypedMethod) → AreUntyped classes main number monitors methods us → AreUntyped classes main number monitors methods vs → us ≡ vs
  same_methods methods us vs are others = same_at_places us vs (are.same_length ∙ sym others.same_length) each
    where
      each : (k : ℕ) (u v : UntypedMethod) → slice_get us k ≡ Some u → slice_get vs k ≡ Some v → u ≡ v
      each k u v u_there v_there =
          let within = slice_get_within us k u u_there in
          let size = are.same_length in
          let m = there_is methods k (omega (arith, within, size)) in
          same_untyped m.0 u v (are.each k m.0 u m.1 u_there) (others.each k m.0 v m.1 v_there)

pub one_untyped : OneUntypedProgram
one_untyped classes main methods first second is other =
    one_program first.variables second.variables first.monitors second.monitors first.threads second.threads first.methods second.methods
    (is.variables ∙ sym other.variables) (is.monitors ∙ sym other.monitors) (same_listed first.threads second.threads (is.threads ∙ sym other.threads))
    (same_methods classes main (number_of classes methods) (monitors_of classes methods) methods first.methods second.methods is.untyped other.untyped)
