-- The bounds of a question.
use Rattle.std.specs.Prelude.{◌≤◌}
use Rattle.line_text.specs.declared.bounds.Bounds.{Bounds}

-- at most 255 backward jumps, and ints of 2 to 32 bits
pub record IsBounds (bounds : Bounds) : Type 0 where
  pub jumps : bounds.jumps ≤ 255
  pub narrowest : 2 ≤ bounds.width
  pub widest : bounds.width ≤ 32
