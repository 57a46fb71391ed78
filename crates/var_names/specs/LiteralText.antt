-- The texts of variables and literals: version 1 in words, version 2 in bytes.
use Rattle.std.specs.Prelude.{◌++◌, ◌*◌, ◌+◌, ℕ, true, false, Bool, codes, List, ◌∷◌}
use Rattle.std.specs.Fmt.{decimal}
use Rattle.std.specs.List.{flat_map}
use Rattle.texts.specs.SevenBits.{seven_bits}
use Rattle.var_names.specs.declared.args.Arg.{Arg}
use Rattle.var_names.specs.declared.args.Arg.TheVariants.{Number, D}
use Rattle.var_names.specs.declared.family.Family.{Family}
use Rattle.var_names.specs.declared.family.Family.TheVariants.{On, Go, Sl, Re, Ca, Pr, Se, So, Hb, Vi, Id, Co, Hx, Ph, Sx, Ps, Wx, Pw, Pb, No, Pa, Cn, Ss, Bt, Ne, Ox, Ob}
use Rattle.var_names.specs.declared.var.Lit.{Lit}
use Rattle.var_names.specs.Variables.{Variable}

abbrev pub family_name : Family → List ℕ
family_name On = codes "on"
family_name Go = codes "go"
family_name Sl = codes "sl"
family_name Re = codes "re"
family_name Ca = codes "ca"
family_name Pr = codes "pr"
family_name Se = codes "se"
family_name So = codes "so"
family_name Hb = codes "hb"
family_name Vi = codes "vi"
family_name Id = codes "id"
family_name Co = codes "co"
family_name Hx = codes "hx"
family_name Ph = codes "ph"
family_name Sx = codes "sx"
family_name Ps = codes "ps"
family_name Wx = codes "wx"
family_name Pw = codes "pw"
family_name Pb = codes "pb"
family_name No = codes "no"
family_name Pa = codes "pa"
family_name Cn = codes "cn"
family_name Ss = codes "ss"
family_name Bt = codes "bt"
family_name Ne = codes "ne"
family_name Ox = codes "ox"
family_name Ob = codes "ob"

-- the families by number, from 1 on
abbrev pub family_number : Family → ℕ
family_number On = 1
family_number Go = 2
family_number Sl = 3
family_number Re = 4
family_number Ca = 5
family_number Pr = 6
family_number Se = 7
family_number So = 8
family_number Hb = 9
family_number Vi = 10
family_number Id = 11
family_number Co = 12
family_number Hx = 13
family_number Ph = 14
family_number Sx = 15
family_number Ps = 16
family_number Wx = 17
family_number Pw = 18
family_number Pb = 19
family_number No = 20
family_number Pa = 21
family_number Cn = 22
family_number Ss = 23
family_number Bt = 24
family_number Ne = 25
family_number Ox = 26
family_number Ob = 27

-- an argument: decimal digits, or d
abbrev pub argument_text : Arg → List ℕ
argument_text (Number n) = decimal n
argument_text D = codes "d"

-- an argument with a point before it
abbrev pub dotted : Arg → List ℕ
dotted argument = 46 ∷ argument_text argument

-- a variable: its family and its arguments, joined by points
abbrev pub variable_text : Variable → List ℕ
variable_text variable = family_name variable.family ++ flat_map dotted variable.args

abbrev pub sign_text : Bool → ℕ
sign_text true = 43
sign_text false = 45

-- a literal: a sign and its variable
abbrev pub literal_text : Lit → List ℕ
literal_text literal = sign_text literal.positive ∷ variable_text literal.var

-- the number of an argument in version 2: one more than a number, or 0
abbrev pub argument_number : Arg → ℕ
argument_number (Number n) = n + 1
argument_number D = 0

abbrev pub argument_bytes : Arg → List ℕ
argument_bytes argument = seven_bits (argument_number argument)

abbrev pub sign_number : Bool → ℕ
sign_number true = 1
sign_number false = 0

-- a literal in version 2: a byte of its family and sign, and its arguments
abbrev pub literal_bytes : Lit → List ℕ
literal_bytes literal =
    (2 * family_number literal.var.family + sign_number literal.positive) ∷ flat_map argument_bytes literal.var.args
