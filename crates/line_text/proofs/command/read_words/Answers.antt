use Rattle.std.proofs.Common.{◌≡◌, slice_get, Some, rules, sym}
use Rattle.std.proofs.lemmas.Result.{MatchResult-weaker}
use Rattle.line_text.specs.Fields.{check_allowed, check_forbidden, decide, generate, name_of, show}
use Rattle.line_text.proofs.CommandLaws.{no-name, stuck-refused, unlike-name}
use Rattle.line_text.proofs.command.read_words.Goals as goal

pub returns-in_default-clause-refused : goal.returns-in_default-clause-refused
returns-in_default-clause-refused c = no-name c.args.words.now (λ kind same. let none = c.in_default.ensures.value in cc (none, same))

pub returns-then-eq-clause-refused : goal.returns-then-eq-clause-refused
returns-then-eq-clause-refused c =
    let named : slice_get c.args.words.now 0 ≡ Some (name_of decide) = search rules in
    MatchResult-weaker c.read_decide.result c.read_decide.ensures (λ command line. tt) (λ refusal stuck. stuck-refused decide c.args.words.now refusal named stuck)

pub returns-then-eq-2-clause-refused : goal.returns-then-eq-2-clause-refused
returns-then-eq-2-clause-refused c =
    let named : slice_get c.args.words.now 0 ≡ Some (name_of check_allowed) = search rules in
    MatchResult-weaker c.read_check_allowed.result c.read_check_allowed.ensures (λ command line. tt)
    (λ refusal stuck. stuck-refused check_allowed c.args.words.now refusal named stuck)

pub returns-then-eq-3-clause-refused : goal.returns-then-eq-3-clause-refused
returns-then-eq-3-clause-refused c =
    let named : slice_get c.args.words.now 0 ≡ Some (name_of check_forbidden) = search rules in
    MatchResult-weaker c.read_check_forbidden.result c.read_check_forbidden.ensures (λ command line. tt)
    (λ refusal stuck. stuck-refused check_forbidden c.args.words.now refusal named stuck)

pub returns-then-eq-4-clause-refused : goal.returns-then-eq-4-clause-refused
returns-then-eq-4-clause-refused c =
    let named : slice_get c.args.words.now 0 ≡ Some (name_of show) = search rules in
    MatchResult-weaker c.read_show.result c.read_show.ensures (λ command line. tt)
    (λ refusal stuck. stuck-refused show c.args.words.now refusal named stuck)

pub returns-then-eq-5-clause-refused : goal.returns-then-eq-5-clause-refused
returns-then-eq-5-clause-refused c =
    let named : slice_get c.args.words.now 0 ≡ Some (name_of generate) = search rules in
    MatchResult-weaker c.read_generate.result c.read_generate.ensures (λ command line. tt)
    (λ refusal stuck. stuck-refused generate c.args.words.now refusal named stuck)

pub returns-clause-refused : goal.returns-clause-refused
returns-clause-refused c =
    let named = c.in-Some.ensures.value in
    no-name c.args.words.now (λ kind. elim kind as (λ k. slice_get c.args.words.now 0 ≡ Some (name_of k) → ⊥) [
      | decide ↦ unlike-name c.args.words.now c.in-Some.name.now (name_of decide) named (sym c.if-eq.ensures)
      | check_allowed ↦ unlike-name c.args.words.now c.in-Some.name.now (name_of check_allowed) named (sym c.if-eq-2.ensures)
      | check_forbidden ↦ unlike-name c.args.words.now c.in-Some.name.now (name_of check_forbidden) named (sym c.if-eq-3.ensures)
      | show ↦ unlike-name c.args.words.now c.in-Some.name.now (name_of show) named (sym c.if-eq-4.ensures)
      | generate ↦ unlike-name c.args.words.now c.in-Some.name.now (name_of generate) named (sym c.if-eq-5.ensures)
    ])
