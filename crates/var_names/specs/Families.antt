-- The families of variables.
use Rattle.std.specs.Prelude.{ℕ, Bool, true, false}
use Rattle.var_names.specs.declared.family.Family.{Family}
use Rattle.var_names.specs.declared.family.Family.TheVariants.{On, Go, Sl, Pr, Se, Vi, Co, Wx, Pw, Cn, Bt, Ne}

-- how many arguments the variables of a family have
abbrev pub arity : Family → ℕ
arity On = 2
arity Go = 2
arity Pr = 2
arity Co = 2
arity Cn = 2
arity Ne = 2
arity Sl = 4
arity Vi = 4
arity Bt = 4
arity _ = 3

-- whether the last argument may be the default write
abbrev pub takes_default : Family → Bool
takes_default Se = true
takes_default Wx = true
takes_default Pw = true
takes_default _ = false
