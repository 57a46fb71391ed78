-- What can be read: variables of the 27 families whose arguments fit.
use Rattle.std.specs.Prelude.{◌++◌, ◌+◌, ◌<◌, ◌≡◌, ◌≢◌, ◌≤◌, ◌^◌, ℕ, take, IsTrue, List, [], ◌∷◌, length, ⊤}
use Rattle.std.specs.List.{AllByRecursion, flat_map}
use Rattle.var_names.specs.declared.args.Arg.{Arg}
use Rattle.var_names.specs.declared.args.Arg.TheVariants.{Number, D}
use Rattle.var_names.specs.declared.var.Lit.{Lit}
use Rattle.var_names.specs.LiteralText.{argument_bytes, dotted, literal_bytes}
use Rattle.var_names.specs.Variables.{is_variable}

-- a number below 2 ^ 32, or the default write
abbrev pub IsArgument : Arg → Type 0
IsArgument (Number n) = n < 2 ^ 32
IsArgument D = ⊤

abbrev pub AreArguments : List Arg → Type 0
AreArguments arguments = AllByRecursion IsArgument arguments

-- a literal of a variable that there is
pub record IsLiteral (literal : Lit) : Type 0 where
  pub variable : IsTrue (is_variable literal.var.family literal.var.args)
  pub arguments : AreArguments literal.var.args

-- a text without a point
abbrev pub IsDotFree : List ℕ → Type 0
IsDotFree [] = ⊤
IsDotFree (byte ∷ bytes) = (byte ≢ 46) × IsDotFree bytes

-- a text that is empty or begins with a point
abbrev pub IsDotted : List ℕ → Type 0
IsDotted [] = ⊤
IsDotted (byte ∷ bytes) = byte ≡ 46

-- the text begins with an argument behind a point, and goes on with nothing or a point
pub record ReadsArgument (text : List ℕ) (argument : Arg) (rest : List ℕ) : Type 0 where
  pub fits : IsArgument argument
  pub text_of : text ≡ dotted argument ++ rest
  pub ends : IsDotted rest

-- the text begins with no argument behind a point
abbrev pub HasNoArgument : List ℕ → Type 0
HasNoArgument text = (argument : Arg) (rest : List ℕ) → IsArgument argument → IsDotted rest → text ≢ dotted argument ++ rest

-- the text is that of further arguments
pub record ReadsArguments (text : List ℕ) (before all : List Arg) : Type 0 where
  pub more : List Arg
  pub all_of : all ≡ before ++ more
  pub text_of : text ≡ flat_map dotted more
  pub fit : AreArguments more

-- the text is that of no further arguments
abbrev pub HasNoArguments : List ℕ → List Arg → Type 0
HasNoArguments text before =
    (more : List Arg) → AreArguments more → length before + length more ≤ 5 → text ≢ flat_map dotted more

-- bytes that begin with a literal, which takes so many of them
pub record ReadsLiteral (bytes : List ℕ) (literal : Lit) (len : ℕ) : Type 0 where
  pub fits : IsLiteral literal
  pub within : len ≤ length bytes
  pub bytes_of : take len bytes ≡ literal_bytes literal

-- bytes that begin with no literal
abbrev pub HasNoLiteral : List ℕ → Type 0
HasNoLiteral bytes = (literal : Lit) (rest : List ℕ) → IsLiteral literal → bytes ≢ literal_bytes literal ++ rest

-- bytes that begin with these arguments, which take so many of them
pub record ReadsArgumentBytes (bytes : List ℕ) (arguments : List Arg) (len : ℕ) : Type 0 where
  pub within : len ≤ length bytes
  pub bytes_of : take len bytes ≡ flat_map argument_bytes arguments
  pub fit : AreArguments arguments

-- so many further arguments were read
pub record ReadsMore (bytes : List ℕ) (count : ℕ) (before all : List Arg) (len : ℕ) : Type 0 where
  pub more : List Arg
  pub count_of : length more ≡ count
  pub all_of : all ≡ before ++ more
  pub read : ReadsArgumentBytes bytes more len

-- bytes that do not begin with so many arguments
abbrev pub HasNotSoMany : List ℕ → ℕ → Type 0
HasNotSoMany bytes count = (more : List Arg) (rest : List ℕ) → length more ≡ count → AreArguments more → bytes ≢ flat_map argument_bytes more ++ rest
