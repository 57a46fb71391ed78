-- The join of two summaries describes the states of both.
use Rattle.std.proofs.Common.{◌||◌, ◌≡◌, ◌≢◌, ℕ, Bool, true, false, Option, Some, None, ◌⊎◌, inl, inr, refl, sym, ap, subst, ◌∙◌}
use Rattle.std.proofs.lemmas.Option.{same_Some}
use Rattle.program.specs.declared.value_type.ValueType.{ValueType}
use Rattle.program.specs.declared.value_type.ValueType.TheVariants as type
use Rattle.typing.specs.Describing.{FitsLocal, FitsStage, IsBelow, two, HasLocal, AttainsLocal, HasThread, AttainsStage, DifferInStack, DifferInHeld, Describes}
use Rattle.typing.specs.Joining.{Joins, JoinsLocal, either_stage, joined_object}
use Rattle.typing.specs.Joining as joining
use Rattle.typing.specs.Objects.{fresh_of, made_of, object_of}
use Rattle.typing.specs.declared.object.Object.{Object}
use Rattle.typing.specs.declared.object.Object.TheVariants.{Thread, Target}
use Rattle.typing.proofs.Objects.{object_fresh, fresh_once}
use Rattle.typing.specs.States.{FrameState, ThreadState}
use Rattle.typing.specs.States as state
use Rattle.typing.specs.Summaries.{Summary, JoinsSummaries}
use Rattle.typing.specs.declared.joined_type.JoinedType.{JoinedType}
use Rattle.typing.specs.declared.joined_type.JoinedType.TheVariants.{Known, Made}
use Rattle.typing.specs.declared.stage.Stage.{Stage}

-- the states of both
abbrev pub Either : (FrameState → Type 0) → (FrameState → Type 0) → FrameState → Type 0
Either V W s = V s ⊎ W s

-- ---- Locals

-- a type of an object is that before or behind the constructor's call
pub of_object : (t : ValueType) (o : Object) → object_of t ≡ Some o → (t ≡ fresh_of o) ⊎ (t ≡ made_of o)
of_object type.Int o e = cc
of_object type.Out o e = cc
of_object type.Args o e = cc
of_object type.This o e = cc
of_object (type.Lock m) o e = cc
of_object (type.Fresh k) o e = inl (ap fresh_of (same_Some (Thread k) o e))
of_object (type.Thread k) o e = inr (ap made_of (same_Some (Thread k) o e))
of_object (type.FreshTarget k) o e = inl (ap fresh_of (same_Some (Target k) o e))
of_object (type.Target k) o e = inr (ap made_of (same_Some (Target k) o e))

made_fits : (a : JoinedType) (k : Object) (v : Option ValueType) → joined_object a ≡ Some k → FitsLocal (Some a) v → FitsLocal (Some (Made k)) v
made_fits (Known t) k v e f = elim (of_object t k e) [ inl fresh ↦ inl (f ∙ ap Some fresh) | inr made ↦ inr (f ∙ ap Some made) ]
made_fits (Made j) k v e f = let P : Object → Type 0 = λ n. FitsLocal (Some (Made n)) v in
    let same : j ≡ k = cc in subst P same f

joins_left : (a b : JoinedType) (r : Option JoinedType) (v : Option ValueType) → Joins a b r → FitsLocal (Some a) v → FitsLocal r v
joins_left a b r v (joining.same e is) f = let P : Option JoinedType → Type 0 = λ o. FitsLocal o v in subst P (sym is) f
joins_left a b r v (joining.made k ne of_a of_b is) f = let P : Option JoinedType → Type 0 = λ o. FitsLocal o v in subst P (sym is) (made_fits a k v of_a f)
joins_left a b r v (joining.clash ne apart is) f = let P : Option JoinedType → Type 0 = λ o. FitsLocal o v in subst P (sym is) tt

joins_right : (a b : JoinedType) (r : Option JoinedType) (v : Option ValueType) → Joins a b r → FitsLocal (Some b) v → FitsLocal r v
joins_right a b r v (joining.same e is) f = let P : Option JoinedType → Type 0 = λ o. FitsLocal o v in subst P (sym (is ∙ ap Some e)) f
joins_right a b r v (joining.made k ne of_a of_b is) f = let P : Option JoinedType → Type 0 = λ o. FitsLocal o v in subst P (sym is) (made_fits b k v of_b f)
joins_right a b r v (joining.clash ne apart is) f = let P : Option JoinedType → Type 0 = λ o. FitsLocal o v in subst P (sym is) tt

local_left : (a b r : Option JoinedType) (v : Option ValueType) → JoinsLocal a b r → FitsLocal a v → FitsLocal r v
local_left None b r v is f = let P : Option JoinedType → Type 0 = λ o. FitsLocal o v in subst P (sym is) tt
local_left (Some a) None r v is f = let P : Option JoinedType → Type 0 = λ o. FitsLocal o v in subst P (sym is) tt
local_left (Some a) (Some b) r v j f = joins_left a b r v j f

local_right : (a b r : Option JoinedType) (v : Option ValueType) → JoinsLocal a b r → FitsLocal b v → FitsLocal r v
local_right None b r v is f = let P : Option JoinedType → Type 0 = λ o. FitsLocal o v in subst P (sym is) tt
local_right (Some a) None r v is f = let P : Option JoinedType → Type 0 = λ o. FitsLocal o v in subst P (sym is) tt
local_right (Some a) (Some b) r v j f = joins_right a b r v j f

-- the sets grow
abbrev pub Wider : (FrameState → Type 0) → (FrameState → Type 0) → Type 0
Wider V W = (s : FrameState) → V s → W s

pub wider_local : (V W : FrameState → Type 0) → Wider V W → (slot : ℕ) (a : Option JoinedType) → AttainsLocal V slot a → AttainsLocal W slot a
wider_local V W w slot None h = record { s = h.s; t = h.t; s_among = w h.s h.s_among; t_among = w h.t h.t_among; clash = h.clash }
wider_local V W w slot (Some (Known t)) h = tt
wider_local V W w slot (Some (Made k)) h = (record { s = h.0.s; among = w h.0.s h.0.among; has = h.0.has }, record { s = h.1.s; among = w h.1.s h.1.among; has = h.1.has })

wider_thread : (V W : FrameState → Type 0) → Wider V W → (k : ℕ) (P : ThreadState → Type 0) → HasThread V k P → HasThread W k P
wider_thread V W w k P h = record { s = h.s; among = w h.s h.among; has = h.has }

pub wider_stage : (V W : FrameState → Type 0) → Wider V W → (k : ℕ) (a : Stage) → AttainsStage V k a → AttainsStage W k a
wider_stage V W w k a h = record {
  unready = λ e. wider_thread V W w k (λ v. v ≢ state.Ready) (h.unready e);
  unstarted = λ e. wider_thread V W w k (λ v. v ≢ state.Started) (h.unstarted e);
  unawaited = λ e. wider_thread V W w k (λ v. (v ≢ state.Started) × (v ≢ state.Joined)) (h.unawaited e);
}

-- a type that some state has where this is known
abbrev rep : JoinedType → ValueType
rep (Known t) = t
rep (Made k) = fresh_of k

has_rep : (V : FrameState → Type 0) (slot : ℕ) (a : JoinedType) → AttainsLocal V slot (Some a) → (s : FrameState) → V s → FitsLocal (Some a) (s.local slot) → HasLocal V slot (Some (rep a))
has_rep V slot (Known t) h s among f = record { s = s; among = among; has = f }
has_rep V slot (Made k) h s among f = h.0

rep_object : (a : JoinedType) → object_of (rep a) ≡ joined_object a
rep_object (Known t) = refl
rep_object (Made k) = object_fresh k

rep_differ : (a b : JoinedType) → a ≢ b → ((k : Object) → joined_object a ≡ Some k → joined_object b ≡ Some k → ⊥) → rep a ≢ rep b
rep_differ (Known t) (Known u) ne apart e = ne (ap Known e)
rep_differ (Known t) (Made k) ne apart e = apart k (ap object_of e ∙ object_fresh k) refl
rep_differ (Made k) (Known u) ne apart e = apart k refl (ap object_of (sym e) ∙ object_fresh k)
rep_differ (Made j) (Made k) ne apart e = apart k (ap Some (fresh_once j k e)) refl

both_known : (V W : FrameState → Type 0) (slot : ℕ) (k : Object) (t u : ValueType) → t ≢ u → (t ≡ fresh_of k) ⊎ (t ≡ made_of k) → (u ≡ fresh_of k) ⊎ (u ≡ made_of k) →
    (x y : FrameState) → Either V W x → Either V W y → x.local slot ≡ Some t → y.local slot ≡ Some u → AttainsLocal (Either V W) slot (Some (Made k))
both_known V W slot k t u ne (inl a) (inl b) x y in_x in_y of_x of_y = absurd (ne (a ∙ sym b))
both_known V W slot k t u ne (inl a) (inr b) x y in_x in_y of_x of_y =
    (record { s = x; among = in_x; has = of_x ∙ ap Some a }, record { s = y; among = in_y; has = of_y ∙ ap Some b })
both_known V W slot k t u ne (inr a) (inl b) x y in_x in_y of_x of_y =
    (record { s = y; among = in_y; has = of_y ∙ ap Some b }, record { s = x; among = in_x; has = of_x ∙ ap Some a })
both_known V W slot k t u ne (inr a) (inr b) x y in_x in_y of_x of_y = absurd (ne (a ∙ sym b))

-- where two differ that have one object, both of its types are there
both_made : (V W : FrameState → Type 0) (slot : ℕ) (k : Object) (a b : JoinedType) → a ≢ b → joined_object a ≡ Some k → joined_object b ≡ Some k →
    AttainsLocal V slot (Some a) → AttainsLocal W slot (Some b) → HasLocal V slot (Some (rep a)) → HasLocal W slot (Some (rep b)) →
    AttainsLocal (Either V W) slot (Some (Made k))
both_made V W slot k (Made j) b ne of_a of_b in_v in_w rep_v rep_w =
    let same : j ≡ k = cc in
    let P : Object → Type 0 = λ n. AttainsLocal (Either V W) slot (Some (Made n)) in
    subst P same (wider_local V (Either V W) (λ s h. inl h) slot (Some (Made j)) in_v)
both_made V W slot k (Known t) (Made j) ne of_a of_b in_v in_w rep_v rep_w =
    let same : j ≡ k = cc in
    let P : Object → Type 0 = λ n. AttainsLocal (Either V W) slot (Some (Made n)) in
    subst P same (wider_local W (Either V W) (λ s h. inr h) slot (Some (Made j)) in_w)
both_made V W slot k (Known t) (Known u) ne of_a of_b in_v in_w rep_v rep_w =
    both_known V W slot k t u (λ e. ne (ap Known e)) (of_object t k of_a) (of_object u k of_b) (rep_v.s) (rep_w.s) (inl rep_v.among) (inr rep_w.among) rep_v.has rep_w.has

joins_attained : (V W : FrameState → Type 0) (slot : ℕ) (a b : JoinedType) (r : Option JoinedType) → Joins a b r →
    AttainsLocal V slot (Some a) → AttainsLocal W slot (Some b) → HasLocal V slot (Some (rep a)) → HasLocal W slot (Some (rep b)) → AttainsLocal (Either V W) slot r
joins_attained V W slot a b r (joining.same e is) in_v in_w rep_v rep_w =
    subst (AttainsLocal (Either V W) slot) (sym is) (wider_local V (Either V W) (λ s h. inl h) slot (Some a) in_v)
joins_attained V W slot a b r (joining.made k ne of_a of_b is) in_v in_w rep_v rep_w =
    subst (AttainsLocal (Either V W) slot) (sym is) (both_made V W slot k a b ne of_a of_b in_v in_w rep_v rep_w)
joins_attained V W slot a b r (joining.clash ne apart is) in_v in_w rep_v rep_w =
    subst (AttainsLocal (Either V W) slot) (sym is) (record {
      s = rep_v.s;
      t = rep_w.s;
      s_among = inl rep_v.among;
      t_among = inr rep_w.among;
      clash = two (rep a) (rep b) rep_v.has rep_w.has (rep_differ a b ne apart) (λ k of_a of_b. apart k (sym (rep_object a) ∙ of_a) (sym (rep_object b) ∙ of_b));
    })

-- ---- Threads

or_left : (x y : Bool) → x ≡ true → (x || y) ≡ true
or_left true y e = refl
or_left false y e = cc

or_right : (x y : Bool) → y ≡ true → (x || y) ≡ true
or_right true y e = refl
or_right false y e = e

or_either : (x y : Bool) → (x || y) ≡ true → (x ≡ true) ⊎ (y ≡ true)
or_either true y e = inl refl
or_either false y e = inr e

stage_left : (a b : Stage) (v : ThreadState) → FitsStage a v → FitsStage (either_stage a b) v
stage_left a b v f = record {
  unready = λ other. or_left a.unready b.unready (f.unready other);
  unstarted = λ other. or_left a.unstarted b.unstarted (f.unstarted other);
  unawaited = λ other apart. or_left a.unawaited b.unawaited (f.unawaited other apart);
}

stage_right : (a b : Stage) (v : ThreadState) → FitsStage b v → FitsStage (either_stage a b) v
stage_right a b v f = record {
  unready = λ other. or_right a.unready b.unready (f.unready other);
  unstarted = λ other. or_right a.unstarted b.unstarted (f.unstarted other);
  unawaited = λ other apart. or_right a.unawaited b.unawaited (f.unawaited other apart);
}

-- what is so on some path of two kinds is so on one of the first or on one of the second
thread_either : (V W : FrameState → Type 0) (k : ℕ) (P : ThreadState → Type 0) (x y : Bool) → (x ≡ true → HasThread V k P) → (y ≡ true → HasThread W k P) → (x || y) ≡ true → HasThread (Either V W) k P
thread_either V W k P x y in_v in_w e = elim (or_either x y e) [
  | inl h ↦ wider_thread V (Either V W) (λ s h. inl h) k P (in_v h)
  | inr h ↦ wider_thread W (Either V W) (λ s h. inr h) k P (in_w h)
]

stage_attained : (V W : FrameState → Type 0) (k : ℕ) (a b : Stage) → AttainsStage V k a → AttainsStage W k b → AttainsStage (Either V W) k (either_stage a b)
stage_attained V W k a b in_v in_w = record {
  unready = thread_either V W k (λ v. v ≢ state.Ready) a.unready b.unready in_v.unready in_w.unready;
  unstarted = thread_either V W k (λ v. v ≢ state.Started) a.unstarted b.unstarted in_v.unstarted in_w.unstarted;
  unawaited = thread_either V W k (λ v. (v ≢ state.Started) × (v ≢ state.Joined)) a.unawaited b.unawaited in_v.unawaited in_w.unawaited;
}

local_attained : (V W : FrameState → Type 0) (slot : ℕ) (a b r : Option JoinedType) → JoinsLocal a b r → AttainsLocal V slot a → AttainsLocal W slot b →
    (s t : FrameState) → V s → W t → FitsLocal a (s.local slot) → FitsLocal b (t.local slot) → AttainsLocal (Either V W) slot r
local_attained V W slot None b r is in_v in_w s t sv tw fs ft =
    subst (AttainsLocal (Either V W) slot) (sym is) (wider_local V (Either V W) (λ s h. inl h) slot None in_v)
local_attained V W slot (Some a) None r is in_v in_w s t sv tw fs ft =
    subst (AttainsLocal (Either V W) slot) (sym is) (wider_local W (Either V W) (λ s h. inr h) slot None in_w)
local_attained V W slot (Some a) (Some b) r j in_v in_w s t sv tw fs ft =
    joins_attained V W slot a b r j in_v in_w (has_rep V slot a in_v s sv fs) (has_rep W slot b in_w t tw ft)

-- ---- Summaries

below_left : (a b c : Summary) (s : FrameState) → JoinsSummaries a b c → IsBelow a s → IsBelow c s
below_left a b c s j h = record {
  stack = λ agree. h.stack ((j.stacks_agree agree).0) ∙ sym j.stack;
  held = λ agree m. h.held ((j.held_agrees agree).0) m ∙ sym (j.held m);
  local = λ slot. local_left (a.local slot) (b.local slot) (c.local slot) (s.local slot) (j.local slot) (h.local slot);
  stage = λ k. let P : Stage → Type 0 = λ o. FitsStage o (s.thread k) in subst P (sym (j.stage k)) (stage_left (a.stage k) (b.stage k) (s.thread k) (h.stage k));
}

below_right : (a b c : Summary) (s : FrameState) → JoinsSummaries a b c → IsBelow b s → IsBelow c s
below_right a b c s j h = record {
  stack = λ agree. let all = j.stacks_agree agree in h.stack all.1 ∙ sym all.2 ∙ sym j.stack;
  held = λ agree m. let all = j.held_agrees agree in h.held all.1 m ∙ sym (all.2 m) ∙ sym (j.held m);
  local = λ slot. local_right (a.local slot) (b.local slot) (c.local slot) (s.local slot) (j.local slot) (h.local slot);
  stage = λ k. let P : Stage → Type 0 = λ o. FitsStage o (s.thread k) in subst P (sym (j.stage k)) (stage_right (a.stage k) (b.stage k) (s.thread k) (h.stage k));
}

pub wider_stacks : (V W : FrameState → Type 0) → Wider V W → DifferInStack V → DifferInStack W
wider_stacks V W w h = record { s = h.s; t = h.t; s_among = w h.s h.s_among; t_among = w h.t h.t_among; differ = h.differ }

pub wider_held : (V W : FrameState → Type 0) → Wider V W → DifferInHeld V → DifferInHeld W
wider_held V W w h = record { s = h.s; t = h.t; s_among = w h.s h.s_among; t_among = w h.t h.t_among; monitor = h.monitor; differ = h.differ }

-- two summaries with different stacks
stacks_apart : (V W : FrameState → Type 0) (a b : Summary) → Describes V a → Describes W b → a.stack ≢ b.stack → (x y : Bool) → a.stacks_differ ≡ x → b.stacks_differ ≡ y →
    DifferInStack (Either V W)
stacks_apart V W a b v w ne true y of_a of_b = wider_stacks V (Either V W) (λ s h. inl h) (v.stack of_a)
stacks_apart V W a b v w ne false true of_a of_b = wider_stacks W (Either V W) (λ s h. inr h) (w.stack of_b)
stacks_apart V W a b v w ne false false of_a of_b = record {
  s = v.state;
  t = w.state;
  s_among = inl v.among;
  t_among = inr w.among;
  differ = λ e. ne (sym ((v.below v.state v.among).stack of_a) ∙ e ∙ (w.below w.state w.among).stack of_b);
}

held_apart : (V W : FrameState → Type 0) (a b : Summary) → Describes V a → Describes W b → (m : ℕ) → a.held m ≢ b.held m → (x y : Bool) → a.held_differs ≡ x → b.held_differs ≡ y →
    DifferInHeld (Either V W)
held_apart V W a b v w m ne true y of_a of_b = wider_held V (Either V W) (λ s h. inl h) (v.held of_a)
held_apart V W a b v w m ne false true of_a of_b = wider_held W (Either V W) (λ s h. inr h) (w.held of_b)
held_apart V W a b v w m ne false false of_a of_b = record {
  s = v.state;
  t = w.state;
  s_among = inl v.among;
  t_among = inr w.among;
  monitor = m;
  differ = λ e. ne (sym ((v.below v.state v.among).held of_a m) ∙ e ∙ (w.below w.state w.among).held of_b m);
}

pub joined_describes : (V W : FrameState → Type 0) (a b c : Summary) → JoinsSummaries a b c → Describes V a → Describes W b → Describes (Either V W) c
joined_describes V W a b c j v w = record {
  state = v.state;
  among = inl v.among;
  below = λ s h. elim h [ inl in_v ↦ below_left a b c s j (v.below s in_v) | inr in_w ↦ below_right a b c s j (w.below s in_w) ];
  stack = λ differ. elim (j.stacks_differ differ) [
    | inl in_a ↦ wider_stacks V (Either V W) (λ s h. inl h) (v.stack in_a)
    | inr others ↦ elim others [
      | inl in_b ↦ wider_stacks W (Either V W) (λ s h. inr h) (w.stack in_b)
      | inr ne ↦ stacks_apart V W a b v w ne a.stacks_differ b.stacks_differ refl refl
    ]
  ];
  held = λ differ. elim (j.held_differs differ) [
    | inl in_a ↦ wider_held V (Either V W) (λ s h. inl h) (v.held in_a)
    | inr others ↦ elim others [
      | inl in_b ↦ wider_held W (Either V W) (λ s h. inr h) (w.held in_b)
      | inr ne ↦ held_apart V W a b v w ne.0 ne.1 a.held_differs b.held_differs refl refl
    ]
  ];
  local = λ slot. local_attained V W slot (a.local slot) (b.local slot) (c.local slot) (j.local slot) (v.local slot) (w.local slot) v.state w.state v.among w.among
      ((v.below v.state v.among).local slot) ((w.below w.state w.among).local slot);
  stage = λ k. subst (AttainsStage (Either V W) k) (sym (j.stage k)) (stage_attained V W k (a.stage k) (b.stage k) (v.stage k) (w.stage k));
}

-- sets of the same states are described alike
pub same_described : (V W : FrameState → Type 0) (a : Summary) → Wider V W → Wider W V → Describes V a → Describes W a
same_described V W a wider back v = record {
  state = v.state;
  among = wider v.state v.among;
  below = λ s h. v.below s (back s h);
  stack = λ e. wider_stacks V W wider (v.stack e);
  held = λ e. wider_held V W wider (v.held e);
  local = λ slot. wider_local V W wider slot (a.local slot) (v.local slot);
  stage = λ k. wider_stage V W wider k (a.stage k) (v.stage k);
}
