-- One byte more than the limit shows whether a content is too long.
use Rattle.std.proofs.Common.{◌≡◌, ◌<◌, ◌≤◌, ◌+◌, ℕ, List, length, take, ap, sym, ◌∙◌, arith}
use Rattle.std.proofs.lemmas.List.{length-take, take_all}
use Rattle.class_files.specs.Input.{limit}
use Rattle.class_files.specs.SoFar.{IsShortFile}

beyond : (n : ℕ) (bytes content : List ℕ) → bytes ≡ take (n + 1) content → n < length bytes → n < length content
beyond n bytes content is more = let e = ap length is ∙ length-take (n + 1) content in omega (arith, e)

within : (n : ℕ) (bytes content : List ℕ) → bytes ≡ take (n + 1) content → length bytes ≤ n → length content ≤ n
within n bytes content is few = let e = ap length is ∙ length-take (n + 1) content in omega (arith, e)

-- more bytes than the limit come of a content that is too long
pub long : (bytes content : List ℕ) → bytes ≡ take (limit + 1) content → limit < length bytes → limit < length content
long bytes content is more = beyond limit bytes content is more

-- no more bytes than the limit are the whole content
pub short : (bytes content : List ℕ) → bytes ≡ take (limit + 1) content → length bytes ≤ limit → IsShortFile bytes content
short bytes content is few = let fits = within limit bytes content is few in record {
  whole = sym (is ∙ take_all (limit + 1) content (omega (arith, fits)));
  short = fits;
}
