-- Literals for each number of a domain.
use Rattle.std.proofs.Common.{◌≡◌, ℕ, ◌+◌, ◌-◌, ◌<◌, List, [], ◌∷◌, ◌++◌, map, sym, append_assoc, Bool, true, false}
use Rattle.var_names.specs.declared.var.Lit.{Lit}
use Rattle.rule_base.specs.Domains.{passing}
use Rattle.rule_base.proofs.Left.{passing-skip, passing-take}

pub each-skip : (f : ℕ → Lit) (fits : ℕ → Bool) (x s n : ℕ) (out rhs : List Lit) → x < n → n ≡ s → false ≡ fits x →
    out ++ map f (passing fits x (s - x)) ≡ rhs → out ++ map f (passing fits (x + 1) (s - (x + 1))) ≡ rhs
each-skip f fits x s n out rhs h v e p = rw (passing-skip fits x s (rw (← v) h) (sym e)) at p

pub each-take : (f : ℕ → Lit) (fits : ℕ → Bool) (x s n : ℕ) (out new rhs : List Lit) → x < n → n ≡ s → true ≡ fits x → new ≡ out ++ f x ∷ [] →
    out ++ map f (passing fits x (s - x)) ≡ rhs → new ++ map f (passing fits (x + 1) (s - (x + 1))) ≡ rhs
each-take f fits x s n out new rhs h v e w p =
    let q = rw (passing-take fits x s (rw (← v) h) (sym e)) at p in
    rw (w, append_assoc) q
