-- Names that can be written in the texts: 1 to 200 printable bytes without '.', ';' and '[' (docs/TEXTS.md, "Names").
use Rattle.std.specs.Prelude.{◌≢◌, ◌<◌, ◌≤◌, ℕ, List, length, All}

pub record IsNameByte (b : ℕ) : Type 0 where
  pub printable : 0x21 ≤ b
  pub ascii : b ≤ 0x7e
  pub no_dot : b ≢ 0x2e
  pub no_semicolon : b ≢ 0x3b
  pub no_bracket : b ≢ 0x5b

pub record IsName (name : List ℕ) : Type 0 where
  pub some : 0 < length name
  pub short : length name ≤ 200
  pub bytes : All IsNameByte name
