-- What the words of a line name.
use Rattle.std.proofs.Common.{◌≡◌, ◌++◌, ◌+◌, ◌∙◌, ℕ, ap, sym, subst, arith, refl, length, map, List, [], ◌∷◌, None}
use Rattle.std.proofs.lemmas.List.{length-append, length-map, map-append}
use Rattle.var_names.specs.declared.args.Arg.{Arg}
use Rattle.var_names.specs.Readable.{AreArguments, IsArgument}
use Rattle.refutation_steps.specs.RuleWords.{NamesArgument, NamesArguments, NamesNumber, NamesRule}

fit-ends : (front : List Arg) (last : Arg) → AreArguments (front ++ last ∷ []) → AreArguments front × IsArgument last
fit-ends [] last fit = (tt, fit.0)
fit-ends (argument ∷ front) last fit = let rest = fit-ends front last fit.1 in ((fit.0, rest.0), rest.1)

module _ {W : Type 0} (spell : Arg → W) where
  -- the last of some arguments, and those before it
  record Ends (words : List W) (word : W) (arguments : List Arg) : Type 0 where
    front : List Arg
    last : Arg
    all_of : arguments ≡ front ++ last ∷ []
    words_of : words ≡ map spell front
    word_of : word ≡ spell last

  ends : (words : List W) (word : W) (arguments : List Arg) → words ++ word ∷ [] ≡ map spell arguments → Ends words word arguments
  ends [] word [] same = absurd (cc)
  ends [] word (argument ∷ []) same = record { front = []; last = argument; all_of = refl; words_of = refl; word_of = cc }
  ends [] word (argument ∷ next ∷ arguments) same = absurd (cc)
  ends (first ∷ words) word [] same = absurd (cc)
  ends (first ∷ words) word (argument ∷ arguments) same =
      let found = ends words word arguments (cc) in
      record {
        front = argument ∷ found.front;
        last = found.last;
        all_of = ap (λ (xs : List Arg). argument ∷ xs) found.all_of;
        words_of = let here : first ≡ spell argument = cc in let rest = found.words_of in λ i. here i ∷ rest i;
        word_of = found.word_of;
      }

  pub none-before : (words : List W) (word : W) → NamesArguments spell words None → NamesArguments spell (words ++ word ∷ []) None
  none-before words word none = λ arguments few fit same.
      let found = ends words word arguments same in
      let long : length arguments ≡ length found.front + 1 = ap length found.all_of ∙ length-append found.front (found.last ∷ []) in
      none found.front (omega (arith, few, long)) (fit-ends found.front found.last (subst AreArguments found.all_of fit)).0 found.words_of

  pub none-here : (words : List W) (word : W) → NamesArgument spell word None → NamesArguments spell (words ++ word ∷ []) None
  none-here words word none = λ arguments few fit same.
      let found = ends words word arguments same in
      none found.last (fit-ends found.front found.last (subst AreArguments found.all_of fit)).1 found.word_of

  pub too-many : (words : List W) (word : W) (arguments : List Arg) → words ≡ map spell arguments → length arguments ≡ 5
      → NamesArguments spell (words ++ word ∷ []) None
  too-many words word arguments named five = λ others few fit same.
      let found = ends words word others same in
      let long : length others ≡ length found.front + 1 = ap length found.all_of ∙ length-append found.front (found.last ∷ []) in
      let front : length found.front ≡ length words = sym (length-map found.front spell) ∙ ap length (sym found.words_of) in
      let many : length words ≡ length arguments = ap length named ∙ length-map arguments spell in
      omega (arith, few, long, front, many, five)

  pub one-more : (words : List W) (word : W) (arguments : List Arg) (argument : Arg) → words ≡ map spell arguments → word ≡ spell argument
      → words ++ word ∷ [] ≡ map spell (arguments ++ argument ∷ [])
  one-more words word arguments argument named is =
      let here : word ∷ [] ≡ spell argument ∷ [] = ap (λ (w : W). w ∷ []) is in
      (λ i. named i ++ here i) ∙ sym (map-append spell arguments (argument ∷ []))

  module _ {V : Type 0} (spell_number : ℕ → V) where
    pub no-number : (word : V) (words : List W) → NamesNumber spell_number word None → NamesRule spell_number spell word words None
    no-number word words none = λ rule is are. none rule.number is.number are.0

    pub no-arguments : (word : V) (words : List W) → NamesArguments spell words None → NamesRule spell_number spell word words None
    no-arguments word words none = λ rule is are. none rule.args is.few is.arguments are.1
