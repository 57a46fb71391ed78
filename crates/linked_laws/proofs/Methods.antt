-- A method of a linked program, before it was typed, and as it was reached.
use Rattle.std.proofs.Common.{◌≡◌, ℕ, List, Some, Contains, slice_get, ◌∙◌, arith}
use Rattle.std.proofs.lemmas.Option.{slice_get_within}
use Rattle.program.proofs.Lists.{place_of, there_is, contains_at, contains_map}
use Rattle.class_format.specs.declared.record.ClassRecord.{ClassRecord}
use Rattle.program.specs.Program.{Prog}
use Rattle.program.specs.declared.method.Method.{Method}
use Rattle.program.specs.declared.method.MethodId.{MethodId}
use Rattle.reached_methods.specs.Reached.{IsReached, IsReachedMethod}
use Rattle.reached_methods.specs.declared.method.ReachedMethod.{ReachedMethod}
use Rattle.reached_methods.proofs.Lists.{all_at}
use Rattle.typing.specs.declared.untyped.UntypedMethod.{UntypedMethod}
use Rattle.untyped_program.specs.Methods.{IsUntypedMethod}
use Rattle.untyped_program.specs.Monitors.{monitors_of}
use Rattle.untyped_program.specs.Variables.{number_of}
use Rattle.linking.specs.Linking.{IsProgramOf, IsTypedMethod}
use Rattle.linked_laws.specs.Calls.{IsAmong}

module _ (classes : List ClassRecord) (p : Prog) (is : IsProgramOf classes p) where
  -- where the method comes from
  pub record Comes (m : Method) : Type 0 where
    pub place : ℕ
    pub r : ReachedMethod
    pub r_there : slice_get is.is_untyped.methods place ≡ Some r
    pub u : UntypedMethod
    pub u_there : slice_get is.untyped.methods place ≡ Some u
    pub reached : IsReachedMethod classes is.is_untyped.main r
    pub untyped : IsUntypedMethod classes is.is_untyped.main (number_of classes is.is_untyped.methods) (monitors_of classes is.is_untyped.methods) r u
    pub typed : IsTypedMethod u m

  at_place : (k : ℕ) (m : Method) (r : ReachedMethod) (u : UntypedMethod) → slice_get is.is_untyped.methods k ≡ Some r → slice_get is.untyped.methods k ≡ Some u → slice_get p.methods k ≡ Some m → Comes m
  at_place k m r u r_there u_there m_there = record {
    place = k;
    r = r;
    r_there = r_there;
    u = u;
    u_there = u_there;
    reached = all_at (IsReachedMethod classes is.is_untyped.main) is.is_untyped.methods k r is.is_untyped.reached.each r_there;
    untyped = is.is_untyped.program.untyped.each k r u r_there u_there;
    typed = is.typed.each k u m u_there m_there;
  }

  pub comes : (m : Method) → Contains p.methods m → Comes m
  comes m inside =
      let at = place_of p.methods m inside in
      let k = at.0 in
      let within = slice_get_within p.methods k m at.1 in
      let typed = is.typed.same_length in
      let untyped = is.is_untyped.program.untyped.same_length in
      let u = there_is is.untyped.methods k (omega (arith, within, typed)) in
      let r = there_is is.is_untyped.methods k (omega (arith, within, typed, untyped)) in
      at_place k m r.0 u.0 r.1 u.1 at.1

  -- the names of the methods are those of the reached ones
  pub id_is : (m : Method) (c : Comes m) → m.id ≡ c.r.id
  id_is m c = c.typed.id ∙ c.untyped.id

  named_at : (k : ℕ) (m : Method) (r : ReachedMethod) (u : UntypedMethod) → slice_get is.is_untyped.methods k ≡ Some r → slice_get is.untyped.methods k ≡ Some u → slice_get p.methods k ≡ Some m → m.id ≡ r.id
  named_at k m r u r_there u_there m_there = (is.typed.each k u m u_there m_there).id ∙ (is.is_untyped.program.untyped.each k r u r_there u_there).id

  -- a reached method is one of the program
  pub is_among : (id : MethodId) → IsReached classes is.is_untyped.main id → IsAmong p id
  is_among id reached =
      let found = contains_map (λ (r : ReachedMethod). r.id) is.is_untyped.methods id (is.is_untyped.reached.whole id reached) in
      let at = place_of is.is_untyped.methods found.0 found.1 in
      let k = at.0 in
      let within = slice_get_within is.is_untyped.methods k found.0 at.1 in
      let typed = is.typed.same_length in
      let untyped = is.is_untyped.program.untyped.same_length in
      let u = there_is is.untyped.methods k (omega (arith, within, untyped)) in
      let m = there_is p.methods k (omega (arith, within, typed, untyped)) in
      (m.0, record { reached = contains_at p.methods k m.0 m.1; named = named_at k m.0 found.0 u.0 at.1 u.1 m.1 ∙ found.2 })
