-- What is told of the file that a word names.
use Rattle.std.proofs.Common.{ℕ, List, slice_get}
use Rattle.std.proofs.lemmas.Option.{IfSome_then}
use Rattle.class_files.specs.Input.{Contents, WhereTold}

-- what follows from what is told
pub where_told : (words : List (List ℕ)) (contents : Contents) (word : ℕ) (P Q : List ℕ → Type 0) → WhereTold words contents word P →
    ((bytes : List ℕ) → P bytes → Q bytes) → WhereTold words contents word Q
where_told words contents word P Q told then = IfSome_then (slice_get words word) told (λ name inner. IfSome_then (contents name) inner then)
