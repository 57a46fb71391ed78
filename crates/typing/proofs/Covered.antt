-- Where a summary describes some states and more, it fits what another summary of fewer of them fits.
use Rattle.std.proofs.Common.{◌≡◌, ◌≢◌, ℕ, Bool, true, false, Option, Some, None, ◌⊎◌, inl, inr, refl, sym, ap, subst, ◌∙◌}
use Rattle.std.proofs.lemmas.Option.{same_Some}
use Rattle.program.specs.declared.value_type.ValueType.{ValueType}
use Rattle.typing.specs.Describing.{FitsLocal, FitsStage, IsBelow, Clash, first, second, two, AttainsLocal, AttainsStage, Describes}
use Rattle.typing.specs.Objects.{fresh_of, made_of, object_of}
use Rattle.typing.specs.declared.object.Object.{Object}
use Rattle.typing.proofs.Objects.{object_fresh, object_made, fresh_not_made, fresh_once}
use Rattle.typing.specs.States.{FrameState, ThreadState}
use Rattle.typing.specs.Summaries.{Summary}
use Rattle.typing.specs.declared.joined_type.JoinedType.{JoinedType}
use Rattle.typing.specs.declared.joined_type.JoinedType.TheVariants.{Known, Made}
use Rattle.typing.specs.declared.stage.Stage.{Stage}
use Rattle.typing.proofs.Union.{Wider}

-- two that fit one known thing don't clash
pub no_clash : (y : JoinedType) (v w : Option ValueType) → FitsLocal (Some y) v → FitsLocal (Some y) w → Clash v w → ⊥
no_clash (Known t) v w f g (first e) = cc
no_clash (Known t) v w f g (second e) = cc
no_clash (Known t) v w f g (two a b of_v of_w ne apart) = let same : a ≡ b = cc in ne same
no_clash (Made k) v w (inl f) g (first e) = cc
no_clash (Made k) v w (inr f) g (first e) = cc
no_clash (Made k) v w f (inl g) (second e) = cc
no_clash (Made k) v w f (inr g) (second e) = cc
no_clash (Made k) v w (inl f) (inl g) (two a b of_v of_w ne apart) = let same : a ≡ b = cc in ne same
no_clash (Made k) v w (inr f) (inr g) (two a b of_v of_w ne apart) = let same : a ≡ b = cc in ne same
no_clash (Made k) v w (inl f) (inr g) (two a b of_v of_w ne apart) =
    let is_a : a ≡ fresh_of k = cc in let is_b : b ≡ made_of k = cc in apart k (ap object_of is_a ∙ object_fresh k) (ap object_of is_b ∙ object_made k)
no_clash (Made k) v w (inr f) (inl g) (two a b of_v of_w ne apart) =
    let is_a : a ≡ made_of k = cc in let is_b : b ≡ fresh_of k = cc in apart k (ap object_of is_a ∙ object_made k) (ap object_of is_b ∙ object_fresh k)

-- what fits both of an object's types is that object's
both_fit : (y : JoinedType) (j : Object) (w : Option ValueType) → FitsLocal (Some y) (Some (fresh_of j)) → FitsLocal (Some y) (Some (made_of j)) → FitsLocal (Some (Made j)) w → FitsLocal (Some y) w
both_fit (Known t) j w f g h = absurd (fresh_not_made j j (same_Some _ _ (f ∙ sym g)))
both_fit (Made k) j w (inr f) g h = absurd (fresh_not_made j k (same_Some _ _ f))
both_fit (Made k) j w (inl f) g h = let P : Object → Type 0 = λ n. FitsLocal (Some (Made n)) w in subst P (fresh_once j k (same_Some _ _ f)) h

local_covered : (U : FrameState → Type 0) (slot : ℕ) (x y : Option JoinedType) (w : Option ValueType) → AttainsLocal U slot x →
    (u : FrameState) → U u → FitsLocal x (u.local slot) → ((s : FrameState) → U s → FitsLocal y (s.local slot)) → FitsLocal x w → FitsLocal y w
local_covered U slot x None w h u among fx fy fw = tt
local_covered U slot None (Some y) w h u among fx fy fw = absurd (no_clash y (h.s.local slot) (h.t.local slot) (fy h.s h.s_among) (fy h.t h.t_among) h.clash)
local_covered U slot (Some (Known t)) (Some y) w h u among fx fy fw = subst (FitsLocal (Some y)) (fx ∙ sym fw) (fy u among)
local_covered U slot (Some (Made j)) (Some y) w h u among fx fy fw =
    both_fit y j w (subst (FitsLocal (Some y)) h.0.has (fy h.0.s h.0.among)) (subst (FitsLocal (Some y)) h.1.has (fy h.1.s h.1.among)) fw

stage_covered : (U : FrameState → Type 0) (k : ℕ) (x y : Stage) (w : ThreadState) → AttainsStage U k x → ((s : FrameState) → U s → FitsStage y (s.thread k)) → FitsStage x w → FitsStage y w
stage_covered U k x y w h fy fw = record {
  unready = λ other. let there = h.unready (fw.unready other) in (fy there.s there.among).unready there.has;
  unstarted = λ other. let there = h.unstarted (fw.unstarted other) in (fy there.s there.among).unstarted there.has;
  unawaited = λ other apart. let there = h.unawaited (fw.unawaited other apart) in (fy there.s there.among).unawaited there.has.0 there.has.1;
}

stack_covered : (U V : FrameState → Type 0) (a b : Summary) (w : FrameState) → Describes U a → Wider U V → Describes V b → IsBelow a w → b.stacks_differ ≡ false →
    (x : Bool) → a.stacks_differ ≡ x → w.stack ≡ b.stack
stack_covered U V a b w du wider dv h agree true is =
    let d = du.stack is in
    absurd (d.differ ((dv.below d.s (wider d.s d.s_among)).stack agree ∙ sym ((dv.below d.t (wider d.t d.t_among)).stack agree)))
stack_covered U V a b w du wider dv h agree false is =
    h.stack is ∙ sym ((du.below du.state du.among).stack is) ∙ (dv.below du.state (wider du.state du.among)).stack agree

held_covered : (U V : FrameState → Type 0) (a b : Summary) (w : FrameState) → Describes U a → Wider U V → Describes V b → IsBelow a w → b.held_differs ≡ false →
    (m : ℕ) (x : Bool) → a.held_differs ≡ x → w.held m ≡ b.held m
held_covered U V a b w du wider dv h agree m true is =
    let d = du.held is in
    absurd (d.differ ((dv.below d.s (wider d.s d.s_among)).held agree d.monitor ∙ sym ((dv.below d.t (wider d.t d.t_among)).held agree d.monitor)))
held_covered U V a b w du wider dv h agree m false is =
    h.held is m ∙ sym ((du.below du.state du.among).held is m) ∙ (dv.below du.state (wider du.state du.among)).held agree m

-- a state that fits a summary of some of the states fits a summary of all of them
pub covered : (U V : FrameState → Type 0) (a b : Summary) (w : FrameState) → Describes U a → Wider U V → Describes V b → IsBelow a w → IsBelow b w
covered U V a b w du wider dv h = record {
  stack = λ agree. stack_covered U V a b w du wider dv h agree a.stacks_differ refl;
  held = λ agree m. held_covered U V a b w du wider dv h agree m a.held_differs refl;
  local = λ slot. local_covered U slot (a.local slot) (b.local slot) (w.local slot) (du.local slot) du.state du.among ((du.below du.state du.among).local slot)
      (λ s in_u. (dv.below s (wider s in_u)).local slot) (h.local slot);
  stage = λ k. stage_covered U k (a.stage k) (b.stage k) (w.thread k) (du.stage k)
      (λ s in_u. (dv.below s (wider s in_u)).stage k) (h.stage k);
}
