-- Texts that are those of no literal.
use Rattle.std.proofs.Common.{◌≡◌, ◌≢◌, ◌++◌, ◌≤◌, ◌∙◌, ◌&&◌, ℕ, Bool, true, false, ap, sym, subst, arith, refl, length, take, drop, List, [], ◌∷◌, nat_eq}
use Rattle.std.specs.Prelude.{IsTrue}
use Rattle.std.specs.List.{flat_map, list_all}
use Rattle.std.proofs.lemmas.Bool.{eqb-true}
use Rattle.std.proofs.lemmas.List.{take-append-drop}
use Rattle.var_names.specs.declared.args.Arg.{Arg}
use Rattle.var_names.specs.declared.family.Family.{Family}
use Rattle.var_names.specs.declared.var.Lit.{Lit}
use Rattle.var_names.specs.Arguments.{is_number}
use Rattle.var_names.specs.Families.{arity}
use Rattle.var_names.specs.LiteralText.{dotted, family_name, literal_text, sign_text}
use Rattle.var_names.specs.Readable.{HasNoArguments, IsDotFree, IsDotted, IsLiteral, ReadsArguments}
use Rattle.var_names.specs.Variables.{is_variable, needs_numbers}
use Rattle.var_names.proofs.FamilyLaws.{few-arguments, name-free, same-family}
use Rattle.var_names.proofs.ReadingLaws.{arguments-dotted, arguments-one, same-word}

-- a text that is no literal's
abbrev pub IsNoLiteral : List ℕ → Type 0
IsNoLiteral text = (lit : Lit) → IsLiteral lit → text ≢ literal_text lit

front-true : (a b : Bool) → IsTrue (a && b) → a ≡ true
front-true true b both = refl
front-true false b both = absurd (cc)

-- a literal has as many arguments as its family takes
pub many : (lit : Lit) → IsLiteral lit → length lit.var.args ≡ arity lit.var.family
many lit is =
    eqb-true (length lit.var.args) (arity lit.var.family)
    (front-true (nat_eq (length lit.var.args) (arity lit.var.family)) (list_all is_number (needs_numbers lit.var.family lit.var.args)) is.variable)

pub few : (lit : Lit) → IsLiteral lit → length lit.var.args ≤ 5
few lit is = omega (arith, many lit is, few-arguments lit.var.family)

module _ (text rest : List ℕ) (sign : ℕ) (end : ℕ) (is : text ≡ sign ∷ rest) (word : IsDotFree (take end rest)) (ends : IsDotted (drop end rest)) where
  parts : (lit : Lit) → text ≡ literal_text lit → (take end rest ≡ family_name lit.var.family) × (drop end rest ≡ flat_map dotted lit.var.args)
  parts lit same =
      let behind : rest ≡ family_name lit.var.family ++ flat_map dotted lit.var.args = cc in
      same-word (take end rest) (drop end rest) (family_name lit.var.family) (flat_map dotted lit.var.args) word (name-free lit.var.family) ends
      (arguments-dotted lit.var.args) (take-append-drop end rest ∙ behind)

  pub no-family : ((family : Family) → take end rest ≢ family_name family) → IsNoLiteral text
  no-family none lit literal same = none lit.var.family (parts lit same).0

  pub no-arguments : HasNoArguments (drop end rest) [] → IsNoLiteral text
  no-arguments none lit literal same = none lit.var.args literal.arguments (omega (arith, few lit literal)) (parts lit same).1

  pub no-variable : (family : Family) (args : List Arg) → take end rest ≡ family_name family → ReadsArguments (drop end rest) [] args
      → ¬ (IsTrue (is_variable family args)) → IsNoLiteral text
  no-variable family args name read none lit literal same =
      let found = parts lit same in
      let same_family : lit.var.family ≡ family = same-family lit.var.family family (sym found.0 ∙ name) in
      let same_args : lit.var.args ≡ args = arguments-one lit.var.args read.more literal.arguments read.fit (sym found.1 ∙ read.text_of) ∙ sym read.all_of in
      none (subst (λ (f : Family). IsTrue (is_variable f args)) same_family
      (subst (λ (xs : List Arg). IsTrue (is_variable lit.var.family xs)) same_args literal.variable))

  pub read-literal : (positive : Bool) (family : Family) (args : List Arg) → sign ≡ sign_text positive → take end rest ≡ family_name family
      → ReadsArguments (drop end rest) [] args
      → text ≡ literal_text (record { var = record { family = family; args = args }; positive = positive })
  read-literal positive family args sign_is name read =
      let behind : rest ≡ family_name family ++ flat_map dotted args =
      sym (take-append-drop end rest)
      ∙ ap (λ (front : List ℕ). front ++ drop end rest) name
      ∙ ap (λ (back : List ℕ). family_name family ++ back) (read.text_of ∙ ap (flat_map dotted) (sym read.all_of)) in
      is ∙ ap (λ (first : ℕ). first ∷ rest) sign_is ∙ ap (λ (back : List ℕ). sign_text positive ∷ back) behind

sign-one : (a b : Bool) → sign_text a ≡ sign_text b → a ≡ b
sign-one true true same = refl
sign-one true false same = absurd (omega (arith, same))
sign-one false true same = absurd (omega (arith, same))
sign-one false false same = refl

pub text-one : (a b : Lit) → IsLiteral a → IsLiteral b → literal_text a ≡ literal_text b → a ≡ b
text-one a b literal_a literal_b same =
    let signs : sign_text a.positive ≡ sign_text b.positive = cc in
    let rest : family_name a.var.family ++ flat_map dotted a.var.args ≡ family_name b.var.family ++ flat_map dotted b.var.args = cc in
    let words = same-word (family_name a.var.family) (flat_map dotted a.var.args) (family_name b.var.family) (flat_map dotted b.var.args)
    (name-free a.var.family) (name-free b.var.family) (arguments-dotted a.var.args) (arguments-dotted b.var.args) rest in
    let positive = sign-one a.positive b.positive signs in
    let family = same-family a.var.family b.var.family words.0 in
    let args = arguments-one a.var.args b.var.args literal_a.arguments literal_b.arguments words.1 in
    λ i. record { var = record { family = family i; args = args i }; positive = positive i }
