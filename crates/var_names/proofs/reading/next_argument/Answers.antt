use Rattle.std.proofs.Common.{◌≡◌, ◌∷◌, ◌∙◌, ap, sym, ℕ, take, drop}
use Rattle.std.proofs.lemmas.List.{take-append-drop}
use Rattle.var_names.proofs.ReadingLaws.{no-argument}
use Rattle.var_names.proofs.reading.next_argument.Goals as goal

pub returns-in_err-read_argument : goal.returns-in_err-read_argument
returns-in_err-read_argument c =
    let rest = c.in_ok-first.rest.now in
    let end = c.word_end-end.result in
    let text : c.args.text.now ≡ 46 ∷ rest = c.in_ok-first.ensures.cases.0 ∙ ap (λ (first : ℕ). first ∷ rest) c.if-first-ne46.false in
    rw (c.from_residual-in_err-read_argument.ensures, text)
    (no-argument rest (take end rest) (drop end rest) c.word_end-end.ensures.word c.word_end-end.ensures.rest
    (sym (take-append-drop end rest)) c.in_err-read_argument.ensures)
