-- The tables of one more class.
use Rattle.std.proofs.Common.{◌≡◌, ◌<◌, ◌≤◌, ◌+◌, ◌++◌, ◌⊎◌, inl, inr, ℕ, List, [], ◌∷◌, length, get_or, sym, ◌∙◌, ap, subst, subst₂, arith}
use Rattle.std.proofs.lemmas.Bool.{cases_lt}
use Rattle.std.proofs.lemmas.List.{length-append}
use Rattle.std.proofs.Math.ListN.{get_or-append}
use Rattle.std.proofs.Math.Seq.{get_or-append_seam}
use Rattle.class_format.specs.declared.record.ClassRecord.{ClassRecord}
use Rattle.resolution.specs.Tables.{FindsDeclared, FindsMembersOf}
use Rattle.resolution.specs.declared.index.Declared.{Declared}

module _ (cs : List ClassRecord) (ds : List Declared) (c : ClassRecord) (d : Declared) (before : FindsMembersOf cs ds) (here : FindsDeclared c d) where
  finds_before : (place : ℕ) (e : ClassRecord) (f : Declared) → place < length cs → FindsDeclared (get_or (cs ++ c ∷ []) place e) (get_or (ds ++ d ∷ []) place f)
  finds_before place e f within =
      subst₂ FindsDeclared (sym (get_or-append cs (c ∷ []) e place within)) (sym (get_or-append ds (d ∷ []) f place (subst (λ n. place < n) (sym before.each) within))) (before.finds place e f within)

  finds_here : (e : ClassRecord) (f : Declared) → FindsDeclared (get_or (cs ++ c ∷ []) (length cs) e) (get_or (ds ++ d ∷ []) (length cs) f)
  finds_here e f =
      subst₂ FindsDeclared (sym (get_or-append_seam cs c [] e)) (sym (ap (λ n. get_or (ds ++ d ∷ []) n f) (sym before.each) ∙ get_or-append_seam ds d [] f)) here

  at_place : (place : ℕ) (e : ClassRecord) (f : Declared) → place < length (cs ++ c ∷ []) → (place < length cs) ⊎ (length cs ≤ place) →
      FindsDeclared (get_or (cs ++ c ∷ []) place e) (get_or (ds ++ d ∷ []) place f)
  at_place place e f within (inl earlier) = finds_before place e f earlier
  at_place place e f within (inr later) =
      subst (λ n. FindsDeclared (get_or (cs ++ c ∷ []) n e) (get_or (ds ++ d ∷ []) n f)) (is_last place (subst (λ n. place < n) (length-append cs (c ∷ [])) within) later) (finds_here e f)
    where
      is_last : (place : ℕ) → place < length cs + 1 → length cs ≤ place → length cs ≡ place
      is_last place a b = omega (arith, a, b)

  pub with_one : FindsMembersOf (cs ++ c ∷ []) (ds ++ d ∷ [])
  with_one = record {
    each = length-append ds (d ∷ []) ∙ ap (λ n. n + 1) before.each ∙ sym (length-append cs (c ∷ []));
    finds = λ place e f within. at_place place e f within (cases_lt place (length cs));
  }
