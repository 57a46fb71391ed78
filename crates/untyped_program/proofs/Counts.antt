-- The variables among the first fields of a class, counted by marks.
use Rattle.std.proofs.Common.{◌≡◌, ◌<◌, ◌≤◌, ◌+◌, ℕ, zero, suc, Bool, true, false, cond, List, length, take, get_or, count_by, arith, refl, ap, ◌∙◌}
use Rattle.std.proofs.lemmas.List.Sums.{count_by_more_yes, count_by_more_no}
use Rattle.reached_methods.specs.declared.method.ReachedMethod.{ReachedMethod}
use Rattle.untyped_program.specs.Variables.{is_variable, count_in}

pub marked_more : (marks : List Bool) (k : ℕ) (b : Bool) → k < length marks → get_or marks k false ≡ b → count_by (λ m. m) (take (k + 1) marks) ≡ count_by (λ m. m) (take k marks) + cond b 1 0
marked_more marks k true within is = count_by_more_yes (λ m. m) marks k false within is
marked_more marks k false within is = count_by_more_no (λ m. m) marks k false within is ∙ omega arith

pub count_is : (methods : List ReachedMethod) (class_at : ℕ) (marks : List Bool) → ((k : ℕ) → get_or marks k false ≡ is_variable methods class_at k) →
    (k : ℕ) → k ≤ length marks → count_by (λ m. m) (take k marks) ≡ count_in methods class_at k
count_is methods class_at marks tell zero within = refl
count_is methods class_at marks tell (suc k) within =
    let before = count_is methods class_at marks tell k (omega arith) in
    let step = marked_more marks k (is_variable methods class_at k) (omega arith) (tell k) in
    let e : suc k ≡ k + 1 = omega arith in
    ap (λ n. count_by (λ m. m) (take n marks)) e ∙ step ∙ ap (λ n. n + cond (is_variable methods class_at k) 1 0) before
