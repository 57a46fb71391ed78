-- The code of a method.
use Rattle.std.proofs.Common.{◌≡◌, Bool, true, List, [], ◌∷◌, Option, Some, refl, sym, ap, subst, ◌∙◌}
use Rattle.std.specs.Prelude.{All, slice_get, ◌||◌}
use Rattle.std.specs.List.{AllByRecursion, list_any}
use Rattle.std.specs.Option.{option_or}
use Rattle.std.proofs.lemmas.List.Elements.{All-from_recursion}
use Rattle.std.proofs.lemmas.Option.{none-some, same_Some}
use Rattle.class_format.specs.ClassText.{IsValid, IsMethod, IsCode, IsOfMethod, IsOfMethodOpen, is_code, is_code_open}
use Rattle.class_format.specs.declared.record.Attribute.{Attribute, out-Attribute}
use Rattle.class_format.specs.declared.record.Attribute.TheOpen.{Attribute-F, Code, Other}
use Rattle.class_format.specs.declared.record.ClassRecord.{ClassRecord}
use Rattle.class_format.specs.declared.record.CodeBody.{CodeBody}
use Rattle.class_format.specs.declared.record.PoolEntry.{PoolEntry}
use Rattle.class_names.specs.Members.{body_in_open, first_body, body_of}
use Rattle.program.specs.declared.method.MethodId.{MethodId}
use Rattle.reached_methods.specs.Reached.{HasCodeAt}
use Rattle.reached_methods.proofs.Lists.{all_at}

-- a method has one class and one code
pub same_class : (classes : List ClassRecord) (id : MethodId) (class other : ClassRecord) (body code : CodeBody) →
    HasCodeAt classes id class body → HasCodeAt classes id other code → class ≡ other
same_class classes id class other body code h k = same_Some class other (sym h.there.class_there ∙ k.there.class_there)

pub same_code : (classes : List ClassRecord) (id : MethodId) (class other : ClassRecord) (body code : CodeBody) →
    HasCodeAt classes id class body → HasCodeAt classes id other code → body ≡ code
same_code classes id class other body code h k =
    let same = same_class classes id class other body code h k in
    let method = same_Some h.method k.method (sym h.there.method_there ∙ ap (λ (c : ClassRecord). slice_get c.methods id.method) same ∙ k.there.method_there) in
    same_Some body code (sym h.code ∙ ap body_of method ∙ k.code)

first_open : (pool : List PoolEntry) (o : Attribute-F Attribute CodeBody) (rest : Option CodeBody) (body : CodeBody) → IsOfMethodOpen pool o →
    (rest ≡ Some body → IsCode pool body) → option_or (body_in_open o) rest ≡ Some body → IsCode pool body
first_open pool (Code b) rest body valid later e = subst (IsCode pool) (same_Some b body e) valid
first_open pool (Other n bytes) rest body valid later e = later e

first_valid : (pool : List PoolEntry) (attributes : List Attribute) (body : CodeBody) → AllByRecursion (IsOfMethod pool) attributes →
    first_body attributes ≡ Some body → IsCode pool body
first_valid pool [] body valid e = absurd (none-some body e)
first_valid pool (a ∷ attributes) body valid e =
    first_open pool (out-Attribute a) (first_body attributes) body valid.0 (first_valid pool attributes body valid.1) e

-- the code of a method of a class that has a text
pub valid_code : (classes : List ClassRecord) (id : MethodId) (class : ClassRecord) (body : CodeBody) → All IsValid classes → HasCodeAt classes id class body →
    IsCode class.pool body
valid_code classes id class body valid h =
    let class_valid = all_at IsValid classes id.class class valid h.there.class_there in
    let method_valid = all_at (IsMethod class.pool) class.methods id.method h.method (All-from_recursion (IsMethod class.pool) class.methods class_valid.methods) h.there.method_there in
    first_valid class.pool h.method.attributes body method_valid.attributes h.code

coded_open : (o : Attribute-F Attribute CodeBody) (rest : Option CodeBody) (any : Bool) → (any ≡ true → (body : CodeBody) × (rest ≡ Some body)) →
    (is_code_open o || any) ≡ true → (body : CodeBody) × (option_or (body_in_open o) rest ≡ Some body)
coded_open (Code b) rest any later e = (b, refl)
coded_open (Other n bytes) rest any later e = later e

-- a Code attribute gives a code
pub coded : (attributes : List Attribute) → list_any is_code attributes ≡ true → (body : CodeBody) × (first_body attributes ≡ Some body)
coded [] e = absurd (cc)
coded (a ∷ attributes) e = coded_open (out-Attribute a) (first_body attributes) (list_any is_code attributes) (coded attributes) e
