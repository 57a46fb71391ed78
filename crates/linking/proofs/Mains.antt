-- Main has code, and its place is small.
use Rattle.std.proofs.Common.{◌≡◌, ◌<◌, ◌^◌, ℕ, zero, suc, true, List, [], ◌∷◌, Option, Some, length, get_or, refl, ap, subst, ◌∙◌, arith}
use Rattle.std.specs.Prelude.{All, Any, slice_get}
use Rattle.std.specs.Option.{option_or}
use Rattle.std.proofs.lemmas.Option.{slice_get_within, get_or_from_slice_get}
use Rattle.class_format.specs.ClassText.{IsValid, is_code, is_code_open}
use Rattle.class_format.specs.declared.record.Attribute.{Attribute, out-Attribute}
use Rattle.class_format.specs.declared.record.Attribute.TheOpen.{Attribute-F, Code, Other}
use Rattle.class_format.specs.declared.record.ClassRecord.{ClassRecord}
use Rattle.class_format.specs.declared.record.CodeBody.{CodeBody}
use Rattle.class_names.specs.Members.{body_in_open, first_body}
use Rattle.class_profile.specs.Members.{IsMainAt}
use Rattle.program.specs.declared.method.MethodId.{MethodId}
use Rattle.reached_methods.specs.Surveys.{HasCode}

-- what holds of each item holds of that at a place
pub all_at : {A : Type 0} (P : A → Type 0) (xs : List A) (k : ℕ) (x : A) → All P xs → slice_get xs k ≡ Some x → P x
all_at P xs k x all there = subst P (get_or_from_slice_get xs k x x there) (all k x (slice_get_within xs k x there))

coded_open : (o : Attribute-F Attribute CodeBody) (rest : Option CodeBody) → is_code_open o ≡ true → (body : CodeBody) × (option_or (body_in_open o) rest ≡ Some body)
coded_open (Code b) rest e = (b, refl)
coded_open (Other n bytes) rest e = absurd (cc)

later_open : (o : Attribute-F Attribute CodeBody) (rest : Option CodeBody) → (body : CodeBody) × (rest ≡ Some body) → (body : CodeBody) × (option_or (body_in_open o) rest ≡ Some body)
later_open (Code b) rest later = (b, refl)
later_open (Other n bytes) rest later = later

coded_at : (attributes : List Attribute) (k : ℕ) (a : Attribute) → k < length attributes → get_or attributes k a ≡ a → is_code a ≡ true →
    (body : CodeBody) × (first_body attributes ≡ Some body)
coded_at [] k a within is code = absurd (omega (arith, within))
coded_at (x ∷ attributes) zero a within is code = coded_open (out-Attribute x) (first_body attributes) (ap is_code is ∙ code)
coded_at (x ∷ attributes) (suc k) a within is code = later_open (out-Attribute x) (first_body attributes) (coded_at attributes k a (omega (arith, within)) is code)

-- a Code attribute gives a code
coded : (attributes : List Attribute) → Any (λ a. is_code a ≡ true) attributes → (body : CodeBody) × (first_body attributes ≡ Some body)
coded attributes (k, a, within, is, code) = coded_at attributes k a within is code

module _ (classes : List ClassRecord) (id : MethodId) (main : IsMainAt classes id.class id.method) where
  pub has_code : HasCode classes id
  has_code =
      let body = coded main.method.attributes main.main.code in
      (main.class, body.0, record { method = main.method; there = record { class_there = main.class_there; method_there = main.method_there }; code = body.1 })

  pub class_within : id.class < length classes
  class_within = slice_get_within classes id.class main.class main.class_there

  pub few_methods : All IsValid classes → id.method < 2 ^ 16
  few_methods valid =
      let few = (all_at IsValid classes id.class main.class valid main.class_there).method_count in
      let within = slice_get_within main.class.methods id.method main.method main.method_there in
      omega (arith, few, within)
