-- What lines that are put one after another make of the clauses.
use Rattle.std.proofs.Common.{◌≡◌, ◌≢◌, ◌++◌, ◌+◌, ◌*◌, ◌/◌, ◌<◌, ◌⊎◌, ◌∙◌, ℕ, zero, suc, List, [], ◌∷◌, Option, Some, inl, inr, refl, sym, subst, ap, arith, map, length, get_or}
use Rattle.std.specs.Prelude.{slice_set, All, AllPairs}
use Rattle.std.specs.List.{flat_map}
use Rattle.std.proofs.lemmas.List.{length-append, length-map}
use Rattle.ports.specs.Growth.{Grows, GrowsByPrefix}
use Rattle.ports.proofs.GrowthLaws.{grows-nothing, grows-then, prefix-then}
use Rattle.literals.specs.Literal.{variable_of}
use Rattle.conflict_analysis.specs.declared.hint.Hint.{Hint}
use Rattle.var_names.specs.declared.rule.Rule.{Rule}
use Rattle.var_names.specs.declared.var.Lit.{Lit}
use Rattle.var_names.specs.Formulas.{FormulaValue, RuledClause, NamesClause}
use Rattle.var_names.specs.LiteralNumbers.{lit_of, no_variable}
use Rattle.var_names.specs.Variables.{Variable}
use Rattle.refutation_lines.specs.declared.line.Line.TheVariants.{Instance}
use Rattle.refutation_lines.specs.LineText.{line_bytes}
use Rattle.refutation_lines.specs.Refutations.{IsClause}
use Rattle.numbered_hints.specs.ByLiteral.{literals_of}
use Rattle.search_log.specs.declared.name.Name.{Name}
use Rattle.search_log.specs.declared.name.Name.TheVariants.{Unnamed, Ruled, Numbered}
use Rattle.search_log.specs.Names.{LogValue, IsSoundLog, name_at, clauses_of, IsNamed, IsNumbered, IsRuled, AreNamed, HasNumber, IsNumberedName, KeepsName, KeepsNames, hint_name, hint_number, number_in, slot_of}
use Rattle.search_log.specs.Lines.{IsCurrent, LeadTo, StayNamed, PutsRules, BreaksOff, BreaksOffAt, PutsClause, IsDerived, AreApart, clause_line}
use Rattle.search_log.proofs.Following.{AreNumbered, follows-numbers}
use Rattle.search_log.proofs.Clauses.{live-more, live-last, live-cases, below-more, literals-more, steps-append, rules-append, ends-after, flat-append, flat-one, one-clause}
use Rattle.search_log.proofs.Naming.{keeps-refl, keeps-trans, name-set, name-other, slot-cases, ruled-within}

-- a name stays that of its clause when a clause is added
pub named-more : (formula : FormulaValue) (clauses : List (Option (List ℕ))) (last : Option (List ℕ)) (name : Name) (literals : List ℕ)
    → IsNamed formula clauses name literals → IsNamed formula (clauses ++ last ∷ []) name literals
named-more formula clauses last Unnamed literals is = is
named-more formula clauses last (Ruled place) literals is = is
named-more formula clauses last (Numbered number) literals is = record { written = is.written; live = live-more clauses last number is.written is.live; same = is.same }

pub stay-refl : (formula : FormulaValue) (log : LogValue) (clauses : List (Option (List ℕ))) → StayNamed formula log log clauses clauses
stay-refl formula log clauses slot literals is = is

-- nothing is put
pub rules-none : (formula : FormulaValue) (log : LogValue) (held : Option (List ℕ)) → PutsRules formula log log held held
rules-none formula log held = record {
  lines = [];
  rules = tt;
  grows = grows-nothing held;
  continued = λ clauses current. record { after = clauses; leads = refl; current = current; stay = stay-refl formula log clauses };
  names = λ clauses current number written live. inl live;
  keeps = keeps-refl log;
  derived = refl;
}

-- rule lines after rule lines
pub rules-then : (formula : FormulaValue) (a b c : LogValue) (h h' h'' : Option (List ℕ)) → PutsRules formula a b h h' → PutsRules formula b c h' h'' → PutsRules formula a c h h''
rules-then formula a b c h h' h'' first second = record {
  lines = first.lines ++ second.lines;
  rules = rules-append first.lines second.lines first.rules second.rules;
  grows = rw (flat-append line_bytes first.lines second.lines) (grows-then h h' h'' (flat_map line_bytes first.lines) (flat_map line_bytes second.lines) first.grows second.grows);
  continued = λ clauses current.
      let one = first.continued clauses current in
      let two = second.continued one.after one.current in
      record {
        after = two.after;
        leads = steps-append formula.clauses (literals_of formula.variables clauses) (literals_of formula.variables one.after) (literals_of formula.variables two.after) first.lines second.lines one.leads two.leads;
        current = two.current;
        stay = λ slot literals is. two.stay slot literals (one.stay slot literals is);
      };
  names = λ clauses current number written live.
      let one = first.continued clauses current in
      elim (second.names one.after one.current number written live) [
        | inl before ↦ elim (first.names clauses current number written before) [
          | inl earlier ↦ inl earlier
          | inr named ↦ inr (named.0, kept (name_at b.names named.0) (name_at c.names named.0) number named.1 (second.keeps.each named.0))
        ]
        | inr named ↦ inr named
      ];
  keeps = keeps-trans a b c first.keeps second.keeps;
  derived = second.derived ∙ first.derived;
}
  where
    kept : (old new : Name) (number : ℕ) → old ≡ Numbered number → KeepsName old new → new ≡ Numbered number
    kept Unnamed new number is keeps = absurd (cc)
    kept (Ruled place) new number is keeps = absurd (cc)
    kept (Numbered other) new number is keeps = keeps ∙ is

-- a fault after rule lines
pub breaks-after : (formula : FormulaValue) (a b : LogValue) (h h' h'' : Option (List ℕ)) → PutsRules formula a b h h' → BreaksOff formula b h' h'' → BreaksOff formula a h h''
breaks-after formula a b h h' h'' first breaks = record {
  lines = first.lines ++ breaks.lines;
  ends = ends-after first.lines breaks.lines first.rules breaks.ends;
  grows = rw (flat-append line_bytes first.lines breaks.lines) (prefix-then h h' h'' (flat_map line_bytes first.lines) (flat_map line_bytes breaks.lines) first.grows breaks.grows);
  leads = λ clauses current.
      let one = first.continued clauses current in
      let two = breaks.leads one.after one.current in
      (two.0, steps-append formula.clauses (literals_of formula.variables clauses) (literals_of formula.variables one.after) (literals_of formula.variables two.0) first.lines breaks.lines one.leads two.1);
}

-- the log after a rule line
abbrev pub ruled_log : LogValue → ℕ → LogValue
ruled_log log slot = record {
  names = slice_set log.names slot (Numbered (log.derived + log.instances + 1));
  handles = log.handles;
  derived = log.derived;
  instances = log.instances + 1;
}

module _ (formula : FormulaValue) (log : LogValue) (slot place : ℕ) (numbers : List ℕ) (rule : Rule) (names : NamesClause formula place numbers)
    (ruled : names.clause.rule ≡ rule) (named : name_at log.names slot ≡ Ruled place) where
  rule-leads : (clauses : List (Option (List ℕ))) → LeadTo formula clauses (Instance rule ∷ []) (clauses ++ Some numbers ∷ [])
  rule-leads clauses = (
    literals_of formula.variables (clauses ++ Some numbers ∷ []),
    (map (lit_of formula.variables) numbers, (place, slice_get_place, is_there), literals-more formula.variables clauses numbers),
    refl,
  )
    where
      slice_get_place : place < length formula.clauses
      slice_get_place = Rattle.std.proofs.lemmas.Option.slice_get_within formula.clauses place names.clause names.found

      clause_is : names.clause ≡ record { rule = rule; literals = map (lit_of formula.variables) numbers }
      clause_is =
          let first : names.clause ≡ record { rule = rule; literals = names.clause.literals } = ap (λ (r : Rule). let c : RuledClause = record { rule = r; literals = names.clause.literals } in c) ruled in
          first ∙ ap (λ (ls : List Lit). let c : RuledClause = record { rule = rule; literals = ls } in c) (sym names.numbered.named)

      is_there : get_or formula.clauses place (record { rule = rule; literals = map (lit_of formula.variables) numbers }) ≡ record { rule = rule; literals = map (lit_of formula.variables) numbers }
      is_there = Rattle.std.proofs.lemmas.Option.get_or_from_slice_get formula.clauses place names.clause (record { rule = rule; literals = map (lit_of formula.variables) numbers }) names.found ∙ clause_is

  rule-stay : (clauses : List (Option (List ℕ))) → IsCurrent formula log clauses → StayNamed formula log (ruled_log log slot) clauses (clauses ++ Some numbers ∷ [])
  rule-stay clauses current other literals is = by (slot-cases other slot)
    where
      number : ℕ
      number = log.derived + log.instances + 1

      here : IsNamed formula clauses (Ruled place) literals → IsNumbered (clauses ++ Some numbers ∷ []) (log.derived + log.instances + 1) literals
      here was = record {
        written = numbers;
        live = live-last clauses numbers (log.derived + log.instances + 1) (omega (arith, current.count));
        same = subst (λ (xs : List ℕ). Rattle.search_log.specs.Names.SameLiterals xs literals) (one-clause formula place was.numbers numbers current.apart was.clause names) was.same;
      }

      by : (other ≡ slot) ⊎ (other ≢ slot) → IsNamed formula (clauses ++ Some numbers ∷ []) (name_at (ruled_log log slot).names other) literals
      by (inl same) =
          let was : IsNamed formula clauses (Ruled place) literals = subst (λ (n : Name). IsNamed formula clauses n literals) (ap (name_at log.names) same ∙ named) is in
          let now : name_at (ruled_log log slot).names other ≡ Numbered (log.derived + log.instances + 1) =
          ap (name_at (ruled_log log slot).names) same ∙ name-set log.names slot (Numbered (log.derived + log.instances + 1)) (ruled-within log.names slot place named) in
          subst (λ (n : Name). IsNamed formula (clauses ++ Some numbers ∷ []) n literals) (sym now) (here was)
      by (inr differs) =
          subst (λ (n : Name). IsNamed formula (clauses ++ Some numbers ∷ []) n literals) (sym (name-other log.names slot other (Numbered (log.derived + log.instances + 1)) differs))
          (named-more formula clauses (Some numbers) (name_at log.names other) literals is)

  rule-keeps : KeepsNames log (ruled_log log slot)
  rule-keeps = record {
    each = λ other. by other (slot-cases other slot);
    handles = refl;
    slots = Rattle.std.proofs.Math.ListN.length-set log.names slot (Numbered (log.derived + log.instances + 1));
  }
    where
      to-number : (old new : Name) → old ≡ Ruled place → IsNumberedName new → KeepsName old new
      to-number Unnamed new is numbered = absurd (cc)
      to-number (Ruled p) new is numbered = inr numbered
      to-number (Numbered n) new is numbered = absurd (cc)

      same-name : (old new : Name) → new ≡ old → KeepsName old new
      same-name Unnamed new is = is
      same-name (Ruled p) new is = inl is
      same-name (Numbered n) new is = is

      by : (other : ℕ) → (other ≡ slot) ⊎ (other ≢ slot) → KeepsName (name_at log.names other) (name_at (ruled_log log slot).names other)
      by other (inl same) = to-number (name_at log.names other) (name_at (ruled_log log slot).names other) (ap (name_at log.names) same ∙ named)
          (subst IsNumberedName (sym (ap (name_at (ruled_log log slot).names) same ∙ name-set log.names slot (Numbered (log.derived + log.instances + 1)) (ruled-within log.names slot place named))) tt)
      by other (inr differs) = same-name (name_at log.names other) (name_at (ruled_log log slot).names other) (name-other log.names slot other (Numbered (log.derived + log.instances + 1)) differs)

  pub rule-put : (h h' : Option (List ℕ)) → Grows h h' (line_bytes (Instance rule)) → PutsRules formula log (ruled_log log slot) h h'
  rule-put h h' grows = record {
    lines = Instance rule ∷ [];
    rules = (tt, tt);
    grows = rw (flat-one line_bytes (Instance rule)) grows;
    continued = λ clauses current. record {
      after = clauses ++ Some numbers ∷ [];
      leads = rule-leads clauses;
      current = record {
        count = length-append clauses (Some numbers ∷ []) ∙ omega (arith, current.count);
        below = below-more (2 * length formula.variables) clauses numbers current.below names.numbered.below;
        apart = current.apart;
      };
      stay = rule-stay clauses current;
    };
    names = λ clauses current number written live. elim (live-cases clauses (Some numbers) number written live) [
      | inl before ↦ inl before
      | inr last ↦ inr (slot, name-set log.names slot (Numbered (log.derived + log.instances + 1)) (ruled-within log.names slot place named) ∙ ap Numbered (omega (arith, last, current.count)))
    ];
    keeps = rule-keeps;
    derived = refl;
  }

  pub rule-numbered : IsNumberedName (name_at (ruled_log log slot).names slot)
  rule-numbered = subst IsNumberedName (sym (name-set log.names slot (Numbered (log.derived + log.instances + 1)) (ruled-within log.names slot place named))) tt

  pub rule-breaks : (h h' : Option (List ℕ)) → GrowsByPrefix h h' (line_bytes (Instance rule)) → BreaksOff formula log h h'
  rule-breaks h h' part = record {
    lines = Instance rule ∷ [];
    ends = tt;
    grows = rw (flat-one line_bytes (Instance rule)) part;
    leads = λ clauses current. (clauses ++ Some numbers ∷ [], rule-leads clauses);
  }

-- the names of hints that all are numbers
numbers-of : (formula : FormulaValue) (clauses : List (Option (List ℕ))) (log : LogValue) (hints : List Hint) (meanings : List (List ℕ)) → All (λ hint. IsNumberedName (hint_name log hint)) hints
    → AreNamed formula clauses log hints meanings → AreNumbered clauses (map (hint_number log) hints) meanings
numbers-of formula clauses log [] [] all named = tt
numbers-of formula clauses log [] (m ∷ ms) all named = named
numbers-of formula clauses log (h ∷ hs) [] all named = named
numbers-of formula clauses log (h ∷ hs) (m ∷ ms) all named =
    (one (hint_name log h) (all 0 h (omega arith)) named.0, numbers-of formula clauses log hs ms (λ k d within. all (suc k) d (omega (arith, within))) named.1)
  where
    one : (name : Name) → IsNumberedName name → IsNamed formula clauses name m → IsNumbered clauses (number_in name) m
    one Unnamed is named = absurd is
    one (Ruled place) is named = absurd is
    one (Numbered number) is named = named

stay-named : (formula : FormulaValue) (old new : LogValue) (clauses after : List (Option (List ℕ))) (hints : List Hint) (meanings : List (List ℕ)) → new.handles ≡ old.handles
    → StayNamed formula old new clauses after → AreNamed formula clauses old hints meanings → AreNamed formula after new hints meanings
stay-named formula old new clauses after [] [] same stay named = tt
stay-named formula old new clauses after [] (m ∷ ms) same stay named = named
stay-named formula old new clauses after (h ∷ hs) [] same stay named = named
stay-named formula old new clauses after (h ∷ hs) (m ∷ ms) same stay named = (
  subst (λ handles. IsNamed formula after (name_at new.names (slot_of handles h)) m) (sym same) (stay (slot_of old.handles h) m named.0),
  stay-named formula old new clauses after hs ms same stay named.1,
)

map-at : (variables : List Variable) (xs : List ℕ) (k : ℕ) (d : Lit) → k < length xs → get_or (map (lit_of variables) xs) k d ≡ lit_of variables (get_or xs k 0)
map-at variables [] k d within = absurd (omega (arith, within))
map-at variables (x ∷ xs) zero d within = refl
map-at variables (x ∷ xs) (suc k) d within = map-at variables xs k d (omega (arith, within))

-- literals of different variables
is-clause : (variables : List Variable) (xs : List ℕ) → AllPairs ◌≢◌ variables → All (λ n. n < 2 * length variables) xs → AreApart xs → IsClause (map (lit_of variables) xs)
unfolding variable_of
is-clause variables xs apart below differ = λ i j d less within same.
    let inside : j < length xs = subst (λ n. j < n) (length-map xs (lit_of variables)) within in
    let before : i < length xs = omega (arith, less, inside) in
    let var : lit_of variables (get_or xs i 0) ≡ get_or (map (lit_of variables) xs) i d = sym (map-at variables xs i d before) in
    let var' : lit_of variables (get_or xs j 0) ≡ get_or (map (lit_of variables) xs) j d = sym (map-at variables xs j d inside) in
    let same' : get_or variables (get_or xs i 0 / 2) no_variable ≡ get_or variables (get_or xs j 0 / 2) no_variable =
    ap (λ (l : Lit). l.var) var ∙ same ∙ sym (ap (λ (l : Lit). l.var) var') in
    let low = below i 0 before in
    let low' = below j 0 inside in
    differ i j 0 less inside (one-place variables (get_or xs i 0 / 2) (get_or xs j 0 / 2) apart (omega (arith, low)) (omega (arith, low')) same')
  where
    split : (m n : ℕ) → (m < n) ⊎ ((n < m) ⊎ (m ≡ n))
    split m n = grind arith

    one-place : (variables : List Variable) (i j : ℕ) → AllPairs ◌≢◌ variables → i < length variables → j < length variables → get_or variables i no_variable ≡ get_or variables j no_variable → i ≡ j
    one-place variables i j apart in_i in_j same = by (split i j)
      where
        by : (i < j) ⊎ ((j < i) ⊎ (i ≡ j)) → i ≡ j
        by (inl less) = absurd (apart i j no_variable less in_j same)
        by (inr (inl more)) = absurd (apart j i no_variable more in_i (sym same))
        by (inr (inr is)) = is

-- the log after a clause line
abbrev pub derived_log : LogValue → LogValue
derived_log log = record log { derived = log.derived + 1 }

module _ (formula : FormulaValue) (old mid : LogValue) (literals : List ℕ) (hints : List Hint) (h h' : Option (List ℕ)) (below : All (λ n. n < 2 * length formula.variables) literals)
    (differ : AreApart literals) (all : All (λ hint. IsNumberedName (hint_name mid hint)) hints) (first : PutsRules formula old mid h h') where
  line-leads : (clauses : List (Option (List ℕ))) (is : IsDerived formula old clauses literals hints)
      → LeadTo formula (first.continued clauses is.current).after (clause_line formula mid literals hints ∷ []) ((first.continued clauses is.current).after ++ Some literals ∷ [])
  line-leads clauses is =
      let one = first.continued clauses is.current in (
        literals_of formula.variables (one.after ++ Some literals ∷ []),
        (
          is-clause formula.variables literals one.current.apart below differ,
          follows-numbers formula.variables one.after literals (map (hint_number mid) hints) is.meanings one.current.apart one.current.below below
              (numbers-of formula one.after mid hints is.meanings all (stay-named formula old mid clauses one.after hints is.meanings first.keeps.handles one.stay is.named)) is.follows,
          literals-more formula.variables one.after literals,
        ),
        refl,
      )

  both-lead : (clauses : List (Option (List ℕ))) (is : IsDerived formula old clauses literals hints)
      → LeadTo formula clauses (first.lines ++ clause_line formula mid literals hints ∷ []) ((first.continued clauses is.current).after ++ Some literals ∷ [])
  both-lead clauses is =
      let one = first.continued clauses is.current in
      steps-append formula.clauses (literals_of formula.variables clauses) (literals_of formula.variables one.after) (literals_of formula.variables (one.after ++ Some literals ∷ []))
      first.lines (clause_line formula mid literals hints ∷ []) one.leads (line-leads clauses is)

  text-both : flat_map line_bytes (first.lines ++ clause_line formula mid literals hints ∷ []) ≡ flat_map line_bytes first.lines ++ line_bytes (clause_line formula mid literals hints)
  text-both = flat-append line_bytes first.lines (clause_line formula mid literals hints ∷ [])
      ∙ ap (λ (back : List ℕ). flat_map line_bytes first.lines ++ back) (flat-one line_bytes (clause_line formula mid literals hints))

  pub line-put : (h'' : Option (List ℕ)) → Grows h' h'' (line_bytes (clause_line formula mid literals hints)) → PutsClause formula old (derived_log mid) h h'' literals hints
  line-put h'' grows = record {
    rules = first.lines;
    are_rules = first.rules;
    grows = rw text-both (grows-then h h' h'' (flat_map line_bytes first.lines) (line_bytes (clause_line formula mid literals hints)) first.grows grows);
    continued = λ clauses is.
        let one = first.continued clauses is.current in
        record {
          after = one.after ++ Some literals ∷ [];
          leads = both-lead clauses is;
          current = record {
            count = length-append one.after (Some literals ∷ []) ∙ omega (arith, one.current.count);
            below = below-more (2 * length formula.variables) one.after literals one.current.below below;
            apart = one.current.apart;
          };
          stay = λ slot meaning named. named-more formula one.after (Some literals) (name_at mid.names slot) meaning (one.stay slot meaning named);
        };
    numbered = λ clauses is.
        let one = first.continued clauses is.current in
        record {
          written = literals;
          live = live-last one.after literals (mid.derived + 1 + mid.instances) (omega (arith, one.current.count));
          same = λ x. ((λ i. i), (λ i. i));
        };
    names = λ clauses is number written live.
        let one = first.continued clauses is.current in
        elim (live-cases one.after (Some literals) number written live) [
          | inl before ↦ inr (first.names clauses is.current number written before)
          | inr last ↦ inl (omega (arith, last, one.current.count))
        ];
    keeps = record { each = first.keeps.each; handles = first.keeps.handles; slots = first.keeps.slots };
    derived = ap (λ n. n + 1) first.derived;
  }

  pub line-breaks : (h'' : Option (List ℕ)) → GrowsByPrefix h' h'' (line_bytes (clause_line formula mid literals hints)) → BreaksOffAt formula old h h'' literals hints
  line-breaks h'' part = record {
    lines = first.lines ++ clause_line formula mid literals hints ∷ [];
    ends = ends-after first.lines (clause_line formula mid literals hints ∷ []) first.rules tt;
    grows = rw text-both (prefix-then h h' h'' (flat_map line_bytes first.lines) (line_bytes (clause_line formula mid literals hints)) first.grows part);
    leads = λ clauses is. ((first.continued clauses is.current).after ++ Some literals ∷ [], both-lead clauses is);
  }

-- a fault amid the rule lines of a clause
pub breaks-at : (formula : FormulaValue) (log : LogValue) (h h' : Option (List ℕ)) (literals : List ℕ) (hints : List Hint) → BreaksOff formula log h h' → BreaksOffAt formula log h h' literals hints
breaks-at formula log h h' literals hints breaks = record {
  lines = breaks.lines;
  ends = breaks.ends;
  grows = breaks.grows;
  leads = λ clauses is. breaks.leads clauses is.current;
}
