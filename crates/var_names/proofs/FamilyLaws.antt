-- The families one by one.
use Rattle.std.proofs.Common.{◌≡◌, ◌≢◌, ◌<◌, ◌-◌, ◌∙◌, ℕ, ap, sym, refl, lit<, lit≤, ◌≤◌, get_or, nat_eq, List, [], ◌∷◌, Option, Some, None, if◌then◌else◌}
use lib.Pointwise.{pointwise}
use Rattle.std.specs.Prelude.{All, IfNone, IfSome, MatchOption}
use Rattle.var_names.specs.declared.family.TheConstants.{FAMILIES}
use Rattle.var_names.specs.declared.family.Family.{Family}
use Rattle.var_names.specs.declared.family.Family.TheVariants.{On, Go, Sl, Re, Ca, Pr, Se, So, Hb, Vi, Id, Co, Hx, Ph, Sx, Ps, Wx, Pw, Pb, No, Pa, Cn, Ss, Bt, Ne, Ox, Ob}
use Rattle.var_names.specs.Families.{arity}
use Rattle.var_names.specs.LiteralText.{family_name, family_number}
use Rattle.var_names.specs.Readable.{IsDotFree}
use Rattle.var_names.proofs.ReadingLaws.{dot_free-test}

-- each family stands in the list of all
place-of : (family : Family) → (k : ℕ) × (k < 27) × ((d : Family) → get_or FAMILIES k d ≡ family)
place-of On = (0, lit< tt, λ d. refl)
place-of Go = (1, lit< tt, λ d. refl)
place-of Sl = (2, lit< tt, λ d. refl)
place-of Re = (3, lit< tt, λ d. refl)
place-of Ca = (4, lit< tt, λ d. refl)
place-of Pr = (5, lit< tt, λ d. refl)
place-of Se = (6, lit< tt, λ d. refl)
place-of So = (7, lit< tt, λ d. refl)
place-of Hb = (8, lit< tt, λ d. refl)
place-of Vi = (9, lit< tt, λ d. refl)
place-of Id = (10, lit< tt, λ d. refl)
place-of Co = (11, lit< tt, λ d. refl)
place-of Hx = (12, lit< tt, λ d. refl)
place-of Ph = (13, lit< tt, λ d. refl)
place-of Sx = (14, lit< tt, λ d. refl)
place-of Ps = (15, lit< tt, λ d. refl)
place-of Wx = (16, lit< tt, λ d. refl)
place-of Pw = (17, lit< tt, λ d. refl)
place-of Pb = (18, lit< tt, λ d. refl)
place-of No = (19, lit< tt, λ d. refl)
place-of Pa = (20, lit< tt, λ d. refl)
place-of Cn = (21, lit< tt, λ d. refl)
place-of Ss = (22, lit< tt, λ d. refl)
place-of Bt = (23, lit< tt, λ d. refl)
place-of Ne = (24, lit< tt, λ d. refl)
place-of Ox = (25, lit< tt, λ d. refl)
place-of Ob = (26, lit< tt, λ d. refl)

none-of_all : (text : List ℕ) → All (λ family. text ≢ family_name family) FAMILIES → (family : Family) → text ≢ family_name family
none-of_all text all family same =
    let place = place-of family in
    all place.0 family place.1 (same ∙ ap family_name (sym (place.2 family)))

-- the family of a word
by_name : List Family → List ℕ → Option Family
by_name [] word = None
by_name (family ∷ families) word = if pointwise nat_eq (family_name family) word then Some family else by_name families word

named : (family : Family) → by_name FAMILIES (family_name family) ≡ Some family
unfolding by_name
named On = refl
named Go = refl
named Sl = refl
named Re = refl
named Ca = refl
named Pr = refl
named Se = refl
named So = refl
named Hb = refl
named Vi = refl
named Id = refl
named Co = refl
named Hx = refl
named Ph = refl
named Sx = refl
named Ps = refl
named Wx = refl
named Pw = refl
named Pb = refl
named No = refl
named Pa = refl
named Cn = refl
named Ss = refl
named Bt = refl
named Ne = refl
named Ox = refl
named Ob = refl

pub same-family : (f g : Family) → family_name f ≡ family_name g → f ≡ g
same-family f g same =
    let both : Some f ≡ Some g = sym (named f) ∙ ap (by_name FAMILIES) same ∙ named g in
    cc (both)

pub name-free : (family : Family) → IsDotFree (family_name family)
name-free On = dot_free-test (family_name On) refl
name-free Go = dot_free-test (family_name Go) refl
name-free Sl = dot_free-test (family_name Sl) refl
name-free Re = dot_free-test (family_name Re) refl
name-free Ca = dot_free-test (family_name Ca) refl
name-free Pr = dot_free-test (family_name Pr) refl
name-free Se = dot_free-test (family_name Se) refl
name-free So = dot_free-test (family_name So) refl
name-free Hb = dot_free-test (family_name Hb) refl
name-free Vi = dot_free-test (family_name Vi) refl
name-free Id = dot_free-test (family_name Id) refl
name-free Co = dot_free-test (family_name Co) refl
name-free Hx = dot_free-test (family_name Hx) refl
name-free Ph = dot_free-test (family_name Ph) refl
name-free Sx = dot_free-test (family_name Sx) refl
name-free Ps = dot_free-test (family_name Ps) refl
name-free Wx = dot_free-test (family_name Wx) refl
name-free Pw = dot_free-test (family_name Pw) refl
name-free Pb = dot_free-test (family_name Pb) refl
name-free No = dot_free-test (family_name No) refl
name-free Pa = dot_free-test (family_name Pa) refl
name-free Cn = dot_free-test (family_name Cn) refl
name-free Ss = dot_free-test (family_name Ss) refl
name-free Bt = dot_free-test (family_name Bt) refl
name-free Ne = dot_free-test (family_name Ne) refl
name-free Ox = dot_free-test (family_name Ox) refl
name-free Ob = dot_free-test (family_name Ob) refl

pub few-arguments : (family : Family) → arity family ≤ 4
few-arguments On = lit≤ tt
few-arguments Go = lit≤ tt
few-arguments Sl = lit≤ tt
few-arguments Re = lit≤ tt
few-arguments Ca = lit≤ tt
few-arguments Pr = lit≤ tt
few-arguments Se = lit≤ tt
few-arguments So = lit≤ tt
few-arguments Hb = lit≤ tt
few-arguments Vi = lit≤ tt
few-arguments Id = lit≤ tt
few-arguments Co = lit≤ tt
few-arguments Hx = lit≤ tt
few-arguments Ph = lit≤ tt
few-arguments Sx = lit≤ tt
few-arguments Ps = lit≤ tt
few-arguments Wx = lit≤ tt
few-arguments Pw = lit≤ tt
few-arguments Pb = lit≤ tt
few-arguments No = lit≤ tt
few-arguments Pa = lit≤ tt
few-arguments Cn = lit≤ tt
few-arguments Ss = lit≤ tt
few-arguments Bt = lit≤ tt
few-arguments Ne = lit≤ tt
few-arguments Ox = lit≤ tt
few-arguments Ob = lit≤ tt

pub found-or : (text : List ℕ) (result : Option Family) → IfSome result (λ family. text ≡ family_name family)
    → IfNone result (All (λ family. text ≢ family_name family) FAMILIES)
    → MatchOption result ((family : Family) → text ≢ family_name family) (λ family. text ≡ family_name family)
found-or text (Some family) found none = found
found-or text None found none = none-of_all text none

-- the family of a number
at-number : (family d : Family) → get_or FAMILIES (family_number family - 1) d ≡ family
at-number On d = refl
at-number Go d = refl
at-number Sl d = refl
at-number Re d = refl
at-number Ca d = refl
at-number Pr d = refl
at-number Se d = refl
at-number So d = refl
at-number Hb d = refl
at-number Vi d = refl
at-number Id d = refl
at-number Co d = refl
at-number Hx d = refl
at-number Ph d = refl
at-number Sx d = refl
at-number Ps d = refl
at-number Wx d = refl
at-number Pw d = refl
at-number Pb d = refl
at-number No d = refl
at-number Pa d = refl
at-number Cn d = refl
at-number Ss d = refl
at-number Bt d = refl
at-number Ne d = refl
at-number Ox d = refl
at-number Ob d = refl

pub same-number : (f g : Family) → family_number f ≡ family_number g → f ≡ g
same-number f g same = sym (at-number f f) ∙ ap (λ n. get_or FAMILIES (n - 1) f) same ∙ at-number g f
