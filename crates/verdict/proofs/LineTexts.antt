-- The texts of lines, piece by piece.
use Rattle.std.proofs.Common.{◌≡◌, ◌++◌, ℕ, List, [], Option, Result, codes, append_assoc, append-nil, subst}
use Rattle.ports.specs.Growth.{PutsAll}

-- pieces one after the other are the line
pub same_text : {A E : Type 0} (old new : Option (List ℕ)) (result : Result A E) (text line : List ℕ) → text ≡ line → PutsAll old new result text → PutsAll old new result line
same_text old new result text line same puts = subst (λ (bytes : List ℕ). PutsAll old new result bytes) same puts

pub five_pieces : (a b c d e : List ℕ) → a ++ (b ++ (c ++ (d ++ (e ++ [])))) ≡ a ++ b ++ c ++ d ++ e
five_pieces a b c d e = simp (append_assoc, append-nil)

pub ten_pieces : (a b c d e f g h i j : List ℕ) → a ++ (b ++ (c ++ (d ++ (e ++ (f ++ (g ++ (h ++ (i ++ (j ++ []))))))))) ≡ a ++ b ++ c ++ d ++ e ++ f ++ g ++ h ++ i ++ j
ten_pieces a b c d e f g h i j = simp (append_assoc, append-nil)

pub verdict_pieces : (verdict jumps width whole budget : List ℕ) →
    verdict ++ (codes "bounds jumps " ++ (jumps ++ (codes " width " ++ (width ++ (codes " whole " ++ (whole ++ (codes "\nbudget " ++ (budget ++ (codes "\n" ++ [])))))))))
    ≡ verdict ++ (codes "bounds jumps " ++ jumps ++ codes " width " ++ width ++ codes " whole " ++ whole ++ codes "\n") ++ (codes "budget " ++ budget ++ codes "\n")
verdict_pieces verdict jumps width whole budget = simp (append_assoc, append-nil)
