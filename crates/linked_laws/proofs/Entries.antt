-- The entries of threads are methods of the program.
use Rattle.std.proofs.Common.{◌≡◌, ℕ, Bool, true, false, cond, List, [], ◌∷◌, Option, Some, Contains, find, map, refl, ap, ◌∙◌, subst, inl, inr}
use Rattle.std.specs.List.{filter_map}
use Rattle.std.proofs.lemmas.Option.{same_Some}
use Rattle.relations.specs.Path.{here, on}
use Rattle.class_format.specs.declared.record.ClassRecord.{ClassRecord}
use Rattle.program.proofs.Lists.{contains_cases, contains_here, contains_later, contains_map, contains_mapped, contains_nil, all_of}
use Rattle.program.specs.Program.{Prog}
use Rattle.program.specs.declared.method.MethodId.{MethodId}
use Rattle.reached_methods.proofs.Leading.{run_is, same_method}
use Rattle.reached_methods.specs.Reached.{IsInstructionAt, IsReached, IsReachedMethod, is_method, run_of}
use Rattle.reached_methods.specs.Reached as reach
use Rattle.reached_methods.specs.declared.method.ReachedMethod.{ReachedMethod}
use Rattle.resolution.specs.Resolution.{Names}
use Rattle.resolution.specs.declared.target.Target.{Target}
use Rattle.resolution.specs.declared.target.Target.TheVariants as target
use Rattle.untyped_program.specs.Threads.{class_made, main_targets, targets_in, threads_of}
use Rattle.linking.specs.Linking.{IsProgramOf}
use Rattle.linked_laws.specs.Calls.{IsAmong}
use Rattle.linked_laws.proofs.Instructions.{instruction_of}
use Rattle.linked_laws.proofs.Methods.{is_among}

-- the new that makes a thread of a class
made_by : (targets : List Target) (class_at : ℕ) → Contains (filter_map class_made targets) class_at → Contains targets (target.New class_at)
made_by [] class_at inside = absurd (contains_nil class_at inside)
made_by (target.New c ∷ targets) class_at inside = elim (contains_cases c class_at (filter_map class_made targets) inside) [
  | inl same ↦ subst (λ (n : ℕ). Contains (target.New c ∷ targets) (target.New n)) same (contains_here (target.New c) targets)
  | inr later ↦ contains_later (target.New c) (target.New class_at) targets (made_by targets class_at later)
]
made_by (t ∷ targets) class_at inside = contains_later t (target.New class_at) targets (made_by targets class_at inside)

-- the method of main that has a target of main
record IsOfMain (main : MethodId) (methods : List ReachedMethod) (t : Target) : Type 0 where
  r : ReachedMethod
  inside : Contains methods r
  is_main : r.id ≡ main
  named : Contains r.targets t

of_main : (main : MethodId) (methods : List ReachedMethod) (t : Target) → Contains (main_targets main methods) t → IsOfMain main methods t
of_main main [] t inside = absurd (contains_nil t inside)
of_main main (m ∷ methods) t inside = pick (of_main main methods t) (is_method m.id main) refl inside
  where
    pick : (Contains (main_targets main methods) t → IsOfMain main methods t) → (b : Bool) → is_method m.id main ≡ b → Contains (targets_in (cond b (Some m) (find (λ x. is_method x.id main) methods))) t → IsOfMain main (m ∷ methods) t
    pick others true is here_inside = record { r = m; inside = contains_here m methods; is_main = same_method m.id main is; named = here_inside }
    pick others false is there_inside =
        let rest = others there_inside in
        record { r = rest.r; inside = contains_later m rest.r methods rest.inside; is_main = rest.is_main; named = rest.named }

module _ (classes : List ClassRecord) (p : Prog) (is : IsProgramOf classes p) where
  by_run : (id : MethodId) (class_at : ℕ) → Contains (filter_map class_made (main_targets is.is_untyped.main is.is_untyped.methods)) class_at → run_of classes class_at ≡ Some id →
      IsReached classes is.is_untyped.main id
  by_run id class_at inside run =
      let m = of_main is.is_untyped.main is.is_untyped.methods (target.New class_at) (made_by (main_targets is.is_untyped.main is.is_untyped.methods) class_at inside) in
      let reached = all_of (IsReachedMethod classes is.is_untyped.main) is.is_untyped.methods m.r is.is_untyped.reached.each m.inside in
      let made = instruction_of classes is.is_untyped.main m.r reached (target.New class_at) m.named in
      on (reach.makes refl (record {
        pc = made.0.pc;
        instr = made.0.instr;
        class_at = class_at;
        made = subst (λ (x : MethodId). IsInstructionAt classes is.is_untyped.main x made.0.pc made.0.instr (Names (target.New class_at))) m.is_main made.1;
        runs = (run_is classes class_at id).1 run;
      })) here

  reached : (id : MethodId) → Contains (threads_of classes is.is_untyped.main is.is_untyped.methods) (Some id) → IsReached classes is.is_untyped.main id
  reached id inside =
      let made = filter_map class_made (main_targets is.is_untyped.main is.is_untyped.methods) in
      elim (contains_cases (Some is.is_untyped.main) (Some id) (map (run_of classes) made) inside) [
        | inl same ↦ subst (IsReached classes is.is_untyped.main) (same_Some is.is_untyped.main id same) here
        | inr later ↦ (let found = contains_map (run_of classes) made (Some id) later in by_run id found.0 found.1 found.2)
      ]

  pub entries_are_methods : (id : MethodId) → Contains p.threads id → IsAmong p id
  entries_are_methods id inside =
      let listed = contains_mapped Some p.threads id inside in
      let same = ap (map Some) is.threads ∙ is.is_untyped.program.threads in
      is_among classes p is id (reached id (subst (λ (l : List (Option MethodId)). Contains l (Some id)) same listed))
