-- Lines one after another, up to the clause without literals.
use Rattle.std.proofs.Common.{suc, ◌≡◌, ◌++◌, ◌+◌, ◌∙◌, inl, inr, ℕ, Bool, true, false, ap, sym, subst, arith, refl, length, List, [], ◌∷◌, Option, Some, None, append_assoc}
use Rattle.std.specs.Prelude.{All, IsTrue}
use Rattle.std.specs.List.{flat_map}
use Rattle.std.proofs.lemmas.List.{length-append}
use Rattle.std.proofs.lemmas.List.Elements.{All-push}
use Rattle.sources.specs.Leaving.{IsAtEnd, Takes}
use Rattle.var_names.specs.Formulas.{RuledClause}
use Rattle.refutation_lines.specs.declared.line.Line.{Line}
use Rattle.refutation_lines.specs.declared.line.Line.TheVariants.{Instance, Clause, Deletion}
use Rattle.refutation_lines.specs.LineText.{header_bytes, line_bytes, text_2}
use Rattle.refutation_lines.specs.Propagation.{Clauses}
use Rattle.refutation_lines.specs.Refutations.{EndsAtEmpty, IsEmptyClause, IsRefutation, Steps, StepsAlong}
use Rattle.token_reader.specs.declared.bytes.ReadRefusal.{ReadRefusal}
use Rattle.token_reader.specs.declared.bytes.ReadRefusal.TheVariants.{Long as TooLong, Failed, Memory as NoRoom}
use Rattle.refutation_items.specs.declared.refusal.CheckRefusal.{CheckRefusal}
use Rattle.refutation_items.specs.declared.refusal.CheckRefusal.TheVariants.{NotRefuted, Long, Read, Memory}
use Rattle.refutation_items.specs.declared.refusal.LineRefusal.{LineRefusal}
use Rattle.refutation_items.specs.Refusals.{at_line, IsNotRefutedFor, IsRefusedFor}
use Rattle.refutation_items.specs.declared.refusal.Reason.{Reason}
use Rattle.refutation_items.specs.Parts.{GoesOn, LacksHeader}
use Rattle.refutation_items.proofs.Refusing.{not-refuted, takes-as, takes-then, told-behind}
use Rattle.bytes_check.specs.Items.{IsWrongItem}
use Rattle.bytes_check.specs.Taken.{TakesItem}
use Rattle.bytes_check.specs.Texts.{AtLine, IsFirstFault, TakesRefutation}
use Rattle.bytes_check.proofs.Announced.{flat_map-push}

along-more : (instances : List RuledClause) (old : Clauses) (lines : List Line) (now new : Clauses) (line : Line) → StepsAlong instances old lines now
    → Steps instances now line new → StepsAlong instances old (lines ++ line ∷ []) new
along-more instances old [] now new line is steps = (new, subst (λ (cs : Clauses). Steps instances cs line new) is steps, refl)
along-more instances old (first ∷ lines) now new line along steps =
    (along.0, along.1, along-more instances along.0 lines now new line along.2 steps)

ends-at : (lines : List Line) (line : Line) → All (λ good. ¬ (IsEmptyClause good)) lines → EndsAtEmpty (lines ++ line ∷ [])
ends-at [] line all = tt
ends-at (first ∷ []) line all = (all 0 first (omega arith), tt)
ends-at (first ∷ next ∷ lines) line all = (all 0 first (omega arith), ends-at (next ∷ lines) line (λ k d within. all (suc k) d (omega (arith, within))))

text-more : (steps : ℕ) (lines : List Line) (line : Line) → text_2 steps lines ++ line_bytes line ≡ text_2 steps (lines ++ line ∷ [])
text-more steps lines line =
    append_assoc (header_bytes steps) (flat_map line_bytes lines) (line_bytes line)
    ∙ ap (λ (back : List ℕ). header_bytes steps ++ back) (sym (flat_map-push line_bytes lines line))

-- the good lines that were taken
pub record LinesSoFar (instances : List RuledClause) (steps : ℕ) (old now : Option (List ℕ)) (line : ℕ) (clauses : Clauses) : Type 0 where
  pub lines : List Line
  pub along : StepsAlong instances [] lines clauses
  pub not_empty : All (λ good. ¬ (IsEmptyClause good)) lines
  pub taken : Takes old now (text_2 steps lines)
  pub line_of : line ≡ length lines + 2

nil-behind : (xs : List ℕ) → xs ++ [] ≡ xs
nil-behind [] = refl
nil-behind (x ∷ xs) = ap (λ (ys : List ℕ). x ∷ ys) (nil-behind xs)

pub no-lines : (instances : List RuledClause) (steps : ℕ) (old now : Option (List ℕ)) (clauses : Clauses) → clauses ≡ [] → Takes old now (header_bytes steps)
    → LinesSoFar instances steps old now 2 clauses
no-lines instances steps old now clauses none takes = record {
  lines = [];
  along = none;
  not_empty = λ k d within. absurd (omega arith);
  taken = takes-as old now (header_bytes steps) (text_2 steps []) (sym (nil-behind (header_bytes steps))) takes;
  line_of = refl;
}

not-true : (b : Bool) → b ≡ false → ¬ (IsTrue b)
not-true b is holds = absurd (cc (is, holds))

pub one-line : (instances : List RuledClause) (steps : ℕ) (old now next : Option (List ℕ)) (line : ℕ) (clauses made : Clauses) (empty : Bool)
    → LinesSoFar instances steps old now line clauses → TakesItem instances now next clauses made empty → empty ≡ false
    → LinesSoFar instances steps old next (line + 1) made
one-line instances steps old now next line clauses made empty before takes is = record {
  lines = before.lines ++ takes.line ∷ [];
  along = along-more instances [] before.lines clauses made takes.line before.along takes.steps;
  not_empty = All-push (λ good. ¬ (IsEmptyClause good)) before.lines takes.line before.not_empty (λ none. not-true empty is (takes.emptiness.1 none));
  taken = takes-as old next (text_2 steps before.lines ++ line_bytes takes.line) (text_2 steps (before.lines ++ takes.line ∷ []))
      (text-more steps before.lines takes.line) (takes-then old now next (text_2 steps before.lines) (line_bytes takes.line) before.taken takes.taken);
  line_of = let long = length-append before.lines (takes.line ∷ []) in omega (arith, before.line_of, long);
}

-- the last line, and that it is the last of a refutation
last-of : (lines : List Line) (line : Line) → IsEmptyClause line → (hints : List ℕ) × (lines ++ line ∷ [] ≡ lines ++ Clause [] hints ∷ [])
last-of lines (Instance rule) none = absurd none
last-of lines (Clause literals hints) none = (hints, ap (λ ls. lines ++ Clause ls hints ∷ []) none)
last-of lines (Deletion numbers) none = absurd none

module _ (instances : List RuledClause) (steps : ℕ) (old now next : Option (List ℕ)) (line : ℕ) (clauses made : Clauses) (empty : Bool)
    (before : LinesSoFar instances steps old now line clauses) (takes : TakesItem instances now next clauses made empty) (is : empty ≡ true) where
  pub is-refutation : IsRefutation instances (before.lines ++ takes.line ∷ [])
  is-refutation =
      let last = last-of before.lines takes.line (takes.emptiness.0 is) in
      record {
        log = record {
          clauses = made;
          steps = along-more instances [] before.lines clauses made takes.line before.along takes.steps;
          ends = ends-at before.lines takes.line before.not_empty;
        };
        before = before.lines;
        hints = last.0;
        last = last.1;
      }

  pub took-all : Takes old next (text_2 steps (before.lines ++ takes.line ∷ []))
  took-all =
      takes-as old next (text_2 steps before.lines ++ line_bytes takes.line) (text_2 steps (before.lines ++ takes.line ∷ []))
      (text-more steps before.lines takes.line) (takes-then old now next (text_2 steps before.lines) (line_bytes takes.line) before.taken takes.taken)

  pub refuted : (final : Option (List ℕ)) → final ≡ next → IsAtEnd final → TakesRefutation instances steps old final
  refuted final same end = record {
    lines = before.lines ++ takes.line ∷ [];
    refutation = is-refutation;
    taken = subst (λ (left : Option (List ℕ)). Takes old left (text_2 steps (before.lines ++ takes.line ∷ []))) (sym same) took-all;
    at_end = end;
  }

  pub goes-on : (bytes : List ℕ) (reason : Reason) → GoesOn bytes reason → IsFirstFault instances steps (text_2 steps (before.lines ++ takes.line ∷ []) ++ bytes) (line + 1) reason
  goes-on bytes reason more = inr (inr (record {
    lines = before.lines ++ takes.line ∷ [];
    rest = bytes;
    refutation = is-refutation;
    begins = refl;
    more = more.0;
    line_of = let long = length-append before.lines (takes.line ∷ []) in omega (arith, before.line_of, long);
    form = more.1;
  }))

pub no-header : (instances : List RuledClause) (steps : ℕ) (bytes : List ℕ) (reason : Reason) → LacksHeader steps bytes reason → IsFirstFault instances steps bytes 1 reason
no-header instances steps bytes reason lacks = inl (lacks.0, refl, lacks.1)

pub wrong-item : (instances : List RuledClause) (steps : ℕ) (old now : Option (List ℕ)) (line : ℕ) (clauses : Clauses)
    (before : LinesSoFar instances steps old now line clauses) (bytes : List ℕ) (reason : Reason) → IsWrongItem instances clauses bytes reason
    → IsFirstFault instances steps (text_2 steps before.lines ++ bytes) line reason
wrong-item instances steps old now line clauses before bytes reason wrong = inr (inl (record {
  lines = before.lines;
  clauses = clauses;
  rest = bytes;
  begins = refl;
  along = before.along;
  not_empty = before.not_empty;
  line_of = before.line_of;
  wrong = wrong;
}))

-- the refusal of a line is that of the text at the line
pub at-this-line : (causes : ReadRefusal → Type 0) (left : Option (List ℕ)) (F : List ℕ → Reason → Type 0) (line : ℕ) (refusal : LineRefusal)
    → IsRefusedFor causes left F refusal → IsNotRefutedFor causes left (AtLine line F) (at_line refusal line)
at-this-line causes left F line refusal refused = not-refuted causes left F (AtLine line F) line refusal (λ bytes reason wrong. (refl, wrong)) refused

-- a text is refused behind what was taken
pub not-refuted-behind : (inner outer : ReadRefusal → Type 0) (a b : Option (List ℕ)) (x : List ℕ) (F G : List ℕ → ℕ → Reason → Type 0) (refusal : CheckRefusal)
    → Takes a b x → ((read : ReadRefusal) → inner read → outer read)
    → ((bytes : List ℕ) (line : ℕ) (reason : Reason) → F bytes line reason → G (x ++ bytes) line reason)
    → IsNotRefutedFor inner b F refusal → IsNotRefutedFor outer a G refusal
not-refuted-behind inner outer a b x F G (NotRefuted line reason) takes causes means refused =
    told-behind a b x (λ bytes. F bytes line reason) (λ bytes. G bytes line reason) takes (λ bytes wrong. means bytes line reason wrong) refused
not-refuted-behind inner outer a b x F G Long takes causes means refused = causes TooLong refused
not-refuted-behind inner outer a b x F G Read takes causes means refused = causes Failed refused
not-refuted-behind inner outer a b x F G Memory takes causes means refused = causes NoRoom refused

pub not-refuted-first : (causes : ReadRefusal → Type 0) (a : Option (List ℕ)) (F G : List ℕ → ℕ → Reason → Type 0) (refusal : CheckRefusal)
    → ((bytes : List ℕ) (line : ℕ) (reason : Reason) → F bytes line reason → G bytes line reason)
    → IsNotRefutedFor causes a F refusal → IsNotRefutedFor causes a G refusal
not-refuted-first causes None F G (NotRefuted line reason) means refused = refused
not-refuted-first causes (Some bytes) F G (NotRefuted line reason) means refused = means bytes line reason refused
not-refuted-first causes a F G Long means refused = refused
not-refuted-first causes a F G Read means refused = refused
not-refuted-first causes a F G Memory means refused = refused

pub no-header-at : (instances : List RuledClause) (steps : ℕ) (bytes : List ℕ) (line : ℕ) (reason : Reason) → AtLine 1 (LacksHeader steps) bytes line reason
    → IsFirstFault instances steps bytes line reason
no-header-at instances steps bytes line reason at = inl (at.1.0, at.0, at.1.1)

pub wrong-item-at : (instances : List RuledClause) (steps : ℕ) (old now : Option (List ℕ)) (line : ℕ) (clauses : Clauses)
    (before : LinesSoFar instances steps old now line clauses) (bytes : List ℕ) (at : ℕ) (reason : Reason) → AtLine line (IsWrongItem instances clauses) bytes at reason
    → IsFirstFault instances steps (text_2 steps before.lines ++ bytes) at reason
wrong-item-at instances steps old now line clauses before bytes at reason wrong =
    subst (λ (n : ℕ). IsFirstFault instances steps (text_2 steps before.lines ++ bytes) n reason) (sym wrong.0)
    (wrong-item instances steps old now line clauses before bytes reason wrong.1)

pub goes-on-at : (instances : List RuledClause) (steps : ℕ) (old now next : Option (List ℕ)) (line : ℕ) (clauses made : Clauses) (empty : Bool)
    (before : LinesSoFar instances steps old now line clauses) (takes : TakesItem instances now next clauses made empty) → empty ≡ true
    → (bytes : List ℕ) (at : ℕ) (reason : Reason) → AtLine (line + 1) GoesOn bytes at reason
    → IsFirstFault instances steps (text_2 steps (before.lines ++ takes.line ∷ []) ++ bytes) at reason
goes-on-at instances steps old now next line clauses made empty before takes is bytes at reason more =
    subst (λ (n : ℕ). IsFirstFault instances steps (text_2 steps (before.lines ++ takes.line ∷ []) ++ bytes) n reason) (sym more.0)
    (goes-on instances steps old now next line clauses made empty before takes is bytes reason more.1)
