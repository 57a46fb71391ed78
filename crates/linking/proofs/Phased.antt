-- The refusals of the last two phases are those of the classes.
use Rattle.std.proofs.Common.{◌≡◌, ℕ, List, Some, slice_get, arith}
use Rattle.std.proofs.lemmas.Option.{slice_get_within}
use Rattle.program.proofs.Lists.{there_is}
use Rattle.class_format.specs.declared.record.ClassRecord.{ClassRecord}
use Rattle.program.specs.declared.method.Method.{Method}
use Rattle.typing.specs.declared.untyped.UntypedMethod.{UntypedMethod}
use Rattle.untyped_program.specs.declared.untyped.UntypedProgram.{UntypedProgram}
use Rattle.linking.specs.Linking.{AreTypedMethods, IsUntypedOf}
use Rattle.linking.specs.Phases.{IsFirstRefusalOf, IsLimitOf}
use Rattle.linking.specs.Refusals.{IsRefusedFor, IsSound}
use Rattle.linking.specs.declared.refusal.ProgramRefusal.{ProgramRefusal}
use Rattle.linking.specs.declared.refusal.ProgramRefusal.TheVariants.{Class, Code, Typing, Limit, Memory}

-- methods that have types are sound
pub all_sound : (us : List UntypedMethod) (ms : List Method) → AreTypedMethods us ms → (k : ℕ) (u : UntypedMethod) → slice_get us k ≡ Some u → IsSound u
all_sound us ms are k u there =
    let inside = slice_get_within us k u there in
    let size = are.same_length in
    let m = there_is ms k (omega (arith, inside, size)) in
    (are.each k u m.0 there m.1).typing.sound

module _ (classes : List ClassRecord) (untyped : UntypedProgram) (is_untyped : IsUntypedOf classes untyped) where
  pub refused_by_types : (refusal : ProgramRefusal) → IsFirstRefusalOf untyped.methods refusal → IsRefusedFor classes refusal
  refused_by_types (Typing kind id pc) is = record {
    untyped = untyped;
    is_untyped = is_untyped;
    place = is.place;
    method = is.method;
    there = is.there;
    named = is.named;
    refusal = is.refusal;
    before = is.before;
  }
  refused_by_types Memory is = tt
  refused_by_types (Class kind class) is = absurd is
  refused_by_types (Code kind id pc detail) is = absurd is
  refused_by_types (Limit kind) is = absurd is

  pub refused_by_limits : (ms : List Method) → AreTypedMethods untyped.methods ms → (refusal : ProgramRefusal) → IsLimitOf untyped refusal → IsRefusedFor classes refusal
  refused_by_limits ms are (Limit kind) is = record {
    untyped = untyped;
    is_untyped = is_untyped;
    sound = all_sound untyped.methods ms are;
    passed = is;
  }
  refused_by_limits ms are Memory is = tt
  refused_by_limits ms are (Class kind class) is = absurd is
  refused_by_limits ms are (Code kind id pc detail) is = absurd is
  refused_by_limits ms are (Typing kind id pc) is = absurd is
