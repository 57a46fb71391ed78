-- The methods have each its name, and their instructions stand by place.
use Rattle.std.proofs.Common.{◌≡◌, ◌≢◌, ◌<◌, ℕ, List, Contains, AllPairs, get_or, length, sym, ap, ◌∙◌, subst, inl, inr, arith}
use Rattle.std.proofs.lemmas.Option.{slice_get-get_or, get_or_from_slice_get}
use Rattle.program.proofs.Lists.{there_is}
use Rattle.class_format.specs.declared.record.ClassRecord.{ClassRecord}
use Rattle.opcodes.specs.Listing.{IsByPc}
use Rattle.program.specs.Program.{Prog}
use Rattle.program.specs.declared.method.Method.{Method}
use Rattle.program.specs.declared.method.MethodId.{MethodId}
use Rattle.reached_methods.specs.Reached.{IsBefore}
use Rattle.typing.specs.declared.untyped.UntypedMethod.{UntypedMethod}
use Rattle.untyped_program.proofs.Spelt.{stay_by_place}
use Rattle.untyped_program.specs.Monitors.{monitors_of}
use Rattle.untyped_program.specs.Variables.{number_of}
use Rattle.linking.specs.Linking.{IsProgramOf}
use Rattle.thread_meaning.specs.Paths.{IsOrdered}
use Rattle.linked_laws.proofs.Methods.{comes}

apart : (a b : MethodId) → IsBefore a b → a ≢ b
apart a b (inl earlier) same = let e : a.class ≡ b.class = ap (λ (x : MethodId). x.class) same in omega (arith, earlier, e)
apart a b (inr earlier) same = let e : a.method ≡ b.method = ap (λ (x : MethodId). x.method) same in let below = earlier.1 in omega (arith, below, e)

module _ (classes : List ClassRecord) (p : Prog) (is : IsProgramOf classes p) where
  named : (k : ℕ) (d : Method) (v : UntypedMethod) → k < length p.methods → (get_or p.methods k d).id ≡ (get_or is.untyped.methods k v).id
  named k d v within =
      let typed = is.typed.same_length in
      let u = there_is is.untyped.methods k (omega (arith, within, typed)) in
      (is.typed.each k u.0 (get_or p.methods k d) u.1 (slice_get-get_or p.methods k d within)).id
      ∙ ap (λ (x : UntypedMethod). x.id) (sym (get_or_from_slice_get is.untyped.methods k u.0 v u.1))

  distinct : AllPairs (λ m n. m.id ≢ n.id) p.methods
  distinct i j d before within same =
      let typed = is.typed.same_length in
      let u = there_is is.untyped.methods i (omega (arith, before, within, typed)) in
      let by_place = stay_by_place classes is.is_untyped.main (number_of classes is.is_untyped.methods) (monitors_of classes is.is_untyped.methods) is.is_untyped.methods is.untyped.methods
      is.is_untyped.reached.by_place is.is_untyped.program.untyped i j u.0 before (omega (arith, within, typed)) in
      apart (get_or is.untyped.methods i u.0).id (get_or is.untyped.methods j u.0).id by_place
      (sym (named i d u.0 (omega (arith, before, within))) ∙ same ∙ named j d u.0 within)

  by_pc : (m : Method) → Contains p.methods m → IsByPc m.listing
  by_pc m inside =
      let c = comes classes p is m inside in
      subst IsByPc (sym (c.typed.listing ∙ c.untyped.listing)) c.reached.listing.by_pc

  pub are_ordered : IsOrdered p
  are_ordered = record { distinct = distinct; by_pc = by_pc }
