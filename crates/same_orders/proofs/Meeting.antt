-- The second condition, by members.
use Rattle.std.proofs.Common.{◌≡◌, ◌↔◌, ℕ, Option, refl, sym, ◌∙◌, ap, subst}
use Rattle.program.specs.Program.{Prog}
use Rattle.action_orders.specs.declared.action.Action.{Action}
use Rattle.action_orders.specs.Actions.{Act, Default, Of, Var}
use Rattle.action_orders.specs.Causality.{Condition1, IsIn}
use Rattle.action_orders.specs.HappensBefore.{HappensBefore}
use Rattle.orders.specs.Tables.{action_of}
use Rattle.orders.proofs.Said.{exec, prog, at_flat, before_default}
use Rattle.orders.proofs.Tabled.{few_at}
use Rattle.least_break.specs.Least.{IsLeastBreak}
use Rattle.step_members.specs.declared.stage.Stage.{Stage}
use Rattle.step_members.specs.declared.table.Member.{Member}
use Rattle.step_members.specs.Stages.{IsStage, program_of, committed_of, step_of}
use Rattle.step_members.specs.AtActions.{Condition2At, IsLeastAction, WithId}
use Rattle.step_members.proofs.Membership.{committed_member, member_committed}
use Rattle.same_orders.specs.Happening.{AreDefaultsFirst, Happens, HappensAlikeBelow}
use Rattle.same_orders.proofs.Alike.{least_same}

abbrev Own : Stage → Act → Act → Type 0
Own s = HappensBefore (program_of s) (exec s.own.now)

abbrev Whole : Stage → Act → Act → Type 0
Whole s = HappensBefore (program_of s) (committed_of s)

-- ---- By places

own_at : (s : Stage) (a b : Member) (x y : Action) → IsStage s → action_of s.own.now.flat a.own ≡ x → action_of s.own.now.flat b.own ≡ y → Happens s.own.now a.own b.own ↔ Own s (Of x) (Of y)
own_at s a b x y stage is_x is_y = (
  λ h. subst (λ (p : Prog). HappensBefore p (exec s.own.now) (Of x) (Of y)) stage.program (subst (λ (z : Action). HappensBefore (prog s.own.now) (exec s.own.now) (Of x) (Of z)) is_y
      (subst (λ (z : Action). HappensBefore (prog s.own.now) (exec s.own.now) (Of z) (Of (action_of s.own.now.flat b.own))) is_x h)),
  λ h. subst (λ (z : Action). HappensBefore (prog s.own.now) (exec s.own.now) (Of z) (Of (action_of s.own.now.flat b.own))) (sym is_x)
      (subst (λ (z : Action). HappensBefore (prog s.own.now) (exec s.own.now) (Of x) (Of z)) (sym is_y) (subst (λ (p : Prog). HappensBefore p (exec s.own.now) (Of x) (Of y)) (sym stage.program) h)),
)

whole_at : (s : Stage) (a b : Member) (x y : Action) → action_of s.whole.now.flat a.whole ≡ x → action_of s.whole.now.flat b.whole ≡ y → Happens s.whole.now a.whole b.whole ↔ Whole s (Of x) (Of y)
whole_at s a b x y is_x is_y = (
  λ h. subst (λ (z : Action). Whole s (Of x) (Of z)) is_y (subst (λ (z : Action). Whole s (Of z) (Of (action_of s.whole.now.flat b.whole))) is_x h),
  λ h. subst (λ (z : Action). Whole s (Of z) (Of (action_of s.whole.now.flat b.whole))) (sym is_x) (subst (λ (z : Action). Whole s (Of x) (Of z)) (sym is_y) h),
)

-- ---- Default writes

own_never : (s : Stage) (x : Act) (v : Var) → IsStage s → Own s x (Default v) → ⊥
own_never s x v stage h = before_default (program_of s) (exec s.own.now) x (Default v) v stage.own.ordered.shape refl h

whole_never : (s : Stage) (x : Act) (v : Var) → IsStage s → Whole s x (Default v) → ⊥
whole_never s x v stage h = before_default (program_of s) (committed_of s) x (Default v) v stage.whole.ordered.shape refl h

defaults_meet : (s : Stage) (v : Var) → IsStage s → Condition1 (program_of s) (committed_of s) (step_of s) → AreDefaultsFirst (program_of s) (committed_of s) → AreDefaultsFirst (program_of s) (exec s.own.now) → Condition2At (program_of s) (committed_of s) (step_of s) (Default v)
defaults_meet s v stage present first own_first (Default w) in_v in_b = (λ h. absurd (own_never s (Default v) w stage h), λ h. absurd (whole_never s (Default v) w stage h))
defaults_meet s v stage present first own_first (Of y) in_v in_b = (λ _. first v y in_v.action in_b.action, λ _. own_first v y in_v.action (present (Of y) in_b))

-- ---- The condition

pub least_unlike : (s : Stage) (result : Option ℕ) → IsStage s → Condition1 (program_of s) (committed_of s) (step_of s) → AreDefaultsFirst (program_of s) (committed_of s) → AreDefaultsFirst (program_of s) (exec s.own.now) →
    IsLeastBreak (HappensAlikeBelow s 8) result → IsLeastAction (Condition2At (program_of s) (committed_of s) (step_of s)) result
least_unlike s result stage present first own_first least = record {
  defaults = λ v. defaults_meet s v stage present first own_first;
  least = least_same (HappensAlikeBelow s 8) (WithId (Condition2At (program_of s) (committed_of s) (step_of s))) result to from least;
}
  where
    to : (id : ℕ) → HappensAlikeBelow s 8 id → WithId (Condition2At (program_of s) (committed_of s) (step_of s)) id
    to id alike x named b in_x in_b = go b in_b
      where
        go : (z : Act) → IsIn (program_of s) (committed_of s) s.names.now z → Own s (Of x) z ↔ Whole s (Of x) z
        go (Default w) in_z = (λ h. absurd (own_never s (Of x) w stage h), λ h. absurd (whole_never s (Of x) w stage h))
        go (Of y) in_z =
            let (a, is_a, at_a) = committed_member s x stage present in_x in
            let (m, is_m, at_m) = committed_member s y stage present in_z in
            let own_a : action_of s.own.now.flat a.own ≡ x = sym is_a.same ∙ at_a in
            let own_m : action_of s.own.now.flat m.own ≡ y = sym is_m.same ∙ at_m in
            let few = few_at s.own.now.flat m.own (action_of s.own.now.flat m.own) stage.own.tables (at_flat s.own.now m.own stage.own is_m.in_own) in
            let both = alike a m is_a is_m (ap (λ (z : Action). z.id) own_a ∙ named) few in
            let own = own_at s a m x y stage own_a own_m in
            let whole = whole_at s a m x y at_a at_m in
            (λ h. whole.0 (both.0 (own.1 h)), λ h. own.0 (both.1 (whole.1 h)))

    from : (id : ℕ) → WithId (Condition2At (program_of s) (committed_of s) (step_of s)) id → HappensAlikeBelow s 8 id
    from id meets a b is_a is_b id_a below =
        let x = action_of s.whole.now.flat a.whole in
        let y = action_of s.whole.now.flat b.whole in
        let both = meets x (ap (λ (z : Action). z.id) is_a.same ∙ id_a) (Of y) (member_committed s a stage is_a) (member_committed s b stage is_b) in
        let own = own_at s a b x y stage (sym is_a.same) (sym is_b.same) in
        (λ h. both.0 (own.0 h), λ h. own.1 (both.1 h))
