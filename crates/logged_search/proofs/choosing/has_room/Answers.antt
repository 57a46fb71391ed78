use Rattle.std.proofs.Common.{◌≡◌, ◌-◌, ◌≤◌, true, false, inl, inr, arith}
use Rattle.std.proofs.lemmas.Bool.Decides.{leb_tells}
use Rattle.logged_search.proofs.Used.{all-used}
use Rattle.logged_search.proofs.choosing.has_room.Goals as goal

pub returns : goal.returns
returns c = λ is full.
    let fits : c.args.literals ≤ c.args.words - c.used-used.result - 3 = elim (leb_tells c.args.literals (c.args.words - c.used-used.result - 3)) [
      | inl within ↦ within.1
      | inr above ↦ absurd (let no : false ≡ true = cc in (let never : ⊥ = cc in never))
    ] in
    elim full [
      | inl short ↦ omega (arith, short, fits, c.if-free-lt3.false, c.if-words-used.false, c.used-used.ensures.used, c.requires.words)
      | inr all ↦ (let used = all-used c.args.pool.now.clauses all in
          let none : c.args.spare ≡ 0 = omega (arith, used, c.requires.spare) in
          c.if-spare-eq0.false none)
    ]
