-- How many threads main makes.
use Rattle.std.proofs.Common.{◌≡◌, ◌+◌, ◌⊎◌, inl, inr, ℕ, suc, Bool, true, false, cond, List, [], ◌∷◌, Some, AllPairs, Contains, find, length, map, refl, sym, ap, ◌∙◌, subst, arith, if◌then◌else◌}
use Rattle.std.specs.List.{filter_map}
use Rattle.std.proofs.lemmas.Bool.{false≢true}
use Rattle.std.proofs.lemmas.List.{length-map}
use Rattle.class_format.specs.declared.record.ClassRecord.{ClassRecord}
use Rattle.program.proofs.Lists.{contains_cases, contains_nil}
use Rattle.program.specs.Program.{Prog}
use Rattle.program.specs.declared.method.MethodId.{MethodId}
use Rattle.reached_methods.proofs.Leading.{same_method}
use Rattle.reached_methods.specs.Reached.{IsBefore, is_method, run_of}
use Rattle.reached_methods.specs.declared.method.ReachedMethod.{ReachedMethod}
use Rattle.resolution.specs.declared.target.Target.{Target}
use Rattle.resolution.specs.declared.target.Target.TheVariants as target
use Rattle.untyped_program.specs.Methods.{is_new}
use Rattle.untyped_program.specs.Threads.{class_made, main_targets, targets_in}
use Rattle.linking.specs.Linking.{IsProgramOf}

-- how many threads the instructions of a list make
abbrev pub made_in : List Target → ℕ
made_in targets = length (filter_map class_made targets)

pub made_more : (t : Target) (targets : List Target) → made_in (t ∷ targets) ≡ (if is_new t then 1 else 0) + made_in targets
made_more (target.New class_at) targets = omega arith
made_more t targets = omega arith

not_itself : (a b : MethodId) → IsBefore a b → a ≡ b → ⊥
not_itself a b (inl earlier) same = let e : a.class ≡ b.class = ap (λ (x : MethodId). x.class) same in omega (arith, earlier, e)
not_itself a b (inr earlier) same = let e : a.method ≡ b.method = ap (λ (x : MethodId). x.method) same in let below = earlier.1 in omega (arith, below, e)

-- the first method of a list stands before each other one
first_before : (m r : ReachedMethod) (methods : List ReachedMethod) → AllPairs (λ a b. IsBefore a.id b.id) (m ∷ methods) → Contains methods r → IsBefore m.id r.id
first_before m r methods by_place (k, within, is) = subst (λ (x : ReachedMethod). IsBefore m.id x.id) is (by_place 0 (suc k) r (omega arith) (omega arith))

-- the targets of main are those of the method that is main
pub of_main : (main : MethodId) (methods : List ReachedMethod) (r : ReachedMethod) → AllPairs (λ a b. IsBefore a.id b.id) methods → Contains methods r → is_method r.id main ≡ true →
    main_targets main methods ≡ r.targets
of_main main [] r by_place inside is = absurd (contains_nil r inside)
of_main main (m ∷ methods) r by_place inside is =
    pick (of_main main methods r (λ i j d before within. by_place (suc i) (suc j) d (omega (arith, before)) (omega (arith, within)))) (is_method m.id main) refl (contains_cases m r methods inside)
  where
    pick : (Contains methods r → is_method r.id main ≡ true → main_targets main methods ≡ r.targets) → (b : Bool) → is_method m.id main ≡ b → (m ≡ r) ⊎ Contains methods r →
        targets_in (cond b (Some m) (find (λ x. is_method x.id main) methods)) ≡ r.targets
    pick later true here (inl same) = ap (λ (x : ReachedMethod). x.targets) same
    pick later true here (inr there) = absurd (not_itself m.id r.id (first_before m r methods by_place there) (same_method m.id main here ∙ sym (same_method r.id main is)))
    pick later false here (inl same) = absurd (false≢true (sym here ∙ ap (λ (x : ReachedMethod). is_method x.id main) same ∙ is))
    pick later false here (inr there) = later there is

module _ (classes : List ClassRecord) (p : Prog) (is : IsProgramOf classes p) where
  -- main, and one thread for each new
  pub thread_count : length p.threads ≡ 1 + made_in (main_targets is.is_untyped.main is.is_untyped.methods)
  thread_count =
      let made = filter_map class_made (main_targets is.is_untyped.main is.is_untyped.methods) in
      let same = ap length (ap (map Some) is.threads ∙ is.is_untyped.program.threads) in
      let left = length-map p.threads Some in
      let right = length-map made (run_of classes) in
      omega (arith, same, left, right)
