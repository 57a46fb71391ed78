use Rattle.std.proofs.Common.{◌≡◌, ◌++◌, ◌∷◌, [], ℕ, List, refl}
use Rattle.texts.specs.SevenBits.{seven_bits}
use Rattle.conflict_analysis.specs.declared.hint.Hint.{Hint}
use Rattle.var_names.specs.Formulas.{FormulaValue}
use Rattle.var_names.specs.LiteralNumbers.{lit_of}
use Rattle.var_names.specs.LiteralText.{literal_bytes}
use Rattle.refutation_lines.specs.LineText.{counted, line_bytes}
use Rattle.search_log.proofs.Pieces.{middle, three, counted-map, puts-same}
use Rattle.search_log.specs.Names.{LogValue, hint_number}
use Rattle.search_log.specs.Lines.{clause_line}
use Rattle.search_log.proofs.log.Log.put_line.Goals as goal

text-is : (formula : FormulaValue) (log : LogValue) (literals : List ℕ) (hints : List Hint)
    → (2 ∷ []) ++ counted (λ n. literal_bytes (lit_of formula.variables n)) literals ++ counted (λ h. seven_bits (hint_number log h)) hints ≡ line_bytes (clause_line formula log literals hints)
text-is formula log literals hints = rw (counted-map literal_bytes (lit_of formula.variables) literals, counted-map seven_bits (hint_number log) hints) refl

pub returns-in_err-put_counted-clause-bytes : goal.returns-in_err-put_counted-clause-bytes
returns-in_err-put_counted-clause-bytes g c =
    let f = c.args.formula.now in
    let log = c.args.self.now in
    puts-same _ _ _ _ _ (text-is f log c.args.literals.now c.args.hints.now)
    (middle _ _ _ (2 ∷ []) (counted (λ n. literal_bytes (lit_of f.variables n)) c.args.literals.now) (counted (λ h. seven_bits (hint_number log h)) c.args.hints.now) _
    c.from_residual-in_err-put_counted.ensures.0 c.in_ok-put_all.ensures.bytes c.in_err-put_counted.ensures.bytes)

pub returns-clause-bytes : goal.returns-clause-bytes
returns-clause-bytes g c =
    let f = c.args.formula.now in
    let log = c.args.self.now in
    puts-same _ _ _ _ _ (text-is f log c.args.literals.now c.args.hints.now)
    (three _ _ _ _ (2 ∷ []) (counted (λ n. literal_bytes (lit_of f.variables n)) c.args.literals.now) (counted (λ h. seven_bits (hint_number log h)) c.args.hints.now) _
    c.in_ok-put_all.ensures.bytes c.in_ok-put_counted.ensures.bytes c.put_counted-2.ensures.bytes)
