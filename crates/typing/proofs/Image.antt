-- The summary behind an instruction describes the states behind it.
use Rattle.std.proofs.Common.{◌≡◌, ◌≢◌, ℕ, Bool, true, false, Option, Some, None, nat_eq, cond, ◌⊎◌, inl, inr, refl, sym, ap, subst, ◌∙◌}
use Rattle.std.specs.Option.{option_map}
use Rattle.program.specs.declared.value_type.ValueType.{ValueType}
use Rattle.program.specs.declared.value_type.ValueType.TheVariants as type
use Rattle.typing.specs.Changes.{Change, behind, locals_behind, held_behind, threads_behind}
use Rattle.typing.specs.Describing.{FitsLocal, FitsStage, IsBelow, Clash, first, second, two, HasLocal, HasClash, AttainsLocal, HasThread, AttainsStage, Describes}
use Rattle.typing.specs.Joining.{stage_of, joined_locals_behind, stages_behind, constructed_local}
use Rattle.typing.specs.Objects.{fresh_of, made_of, object_of, same_object, constructed}
use Rattle.typing.specs.declared.object.Object.{Object}
use Rattle.typing.specs.declared.object.Object.TheVariants.{Thread, Target}
use Rattle.typing.specs.States.{FrameState, ThreadState, with_value}
use Rattle.typing.specs.States as state
use Rattle.typing.specs.Summaries.{Summary, IsBehind}
use Rattle.typing.specs.declared.change.LocalChange.{LocalChange}
use Rattle.typing.specs.declared.change.LocalChange.TheVariants as local
use Rattle.typing.specs.declared.change.ThreadChange.{ThreadChange}
use Rattle.typing.specs.declared.change.ThreadChange.TheVariants as thread
use Rattle.typing.specs.declared.joined_type.JoinedType.{JoinedType}
use Rattle.typing.specs.declared.joined_type.JoinedType.TheVariants.{Known, Made}
use Rattle.typing.specs.declared.stage.Stage.{Stage}
use Rattle.typing.proofs.Behind.{everywhere}
use Rattle.typing.proofs.Objects.{object_fresh, object_made, constructed_fresh, constructed_made}

-- the states behind a change
pub record Image (V : FrameState → Type 0) (c : Change) (t : FrameState) : Type 0 where
  pub before : FrameState
  pub among : V before
  pub is_behind : t ≡ behind c before

image : (V : FrameState → Type 0) (c : Change) (s : FrameState) → V s → Image V c (behind c s)
image V c s among = record { before = s; among = among; is_behind = refl }

-- ---- Locals

-- a constructor's call changes no type's object
object_kept_at : (q : Object) (b : Bool) → object_of (cond b (made_of q) (fresh_of q)) ≡ Some q
object_kept_at q true = object_made q
object_kept_at q false = object_fresh q

object_kept : (o : Object) (t : ValueType) → object_of (constructed o t) ≡ object_of t
object_kept o type.Int = refl
object_kept o type.Out = refl
object_kept o type.Args = refl
object_kept o type.This = refl
object_kept o (type.Lock m) = refl
object_kept o (type.Fresh k) = object_kept_at (Thread k) (same_object o (Thread k))
object_kept o (type.Thread k) = refl
object_kept o (type.FreshTarget k) = object_kept_at (Target k) (same_object o (Target k))
object_kept o (type.Target k) = refl

-- a type either is none of an object, and stays, or it is one
object_or_same : (o : Object) (t : ValueType) → (constructed o t ≡ t) ⊎ ((q : Object) × (object_of t ≡ Some q))
object_or_same o type.Int = inl refl
object_or_same o type.Out = inl refl
object_or_same o type.Args = inl refl
object_or_same o type.This = inl refl
object_or_same o (type.Lock m) = inl refl
object_or_same o (type.Fresh k) = inr (Thread k, refl)
object_or_same o (type.Thread k) = inl refl
object_or_same o (type.FreshTarget k) = inr (Target k, refl)
object_or_same o (type.Target k) = inl refl

kept_apart : (k : Object) (t u : ValueType) → t ≢ u → ((j : Object) → object_of t ≡ Some j → object_of u ≡ Some j → ⊥) → constructed k t ≢ constructed k u
kept_apart k t u ne apart e =
    let same = sym (object_kept k t) ∙ ap object_of e ∙ object_kept k u in
    elim (object_or_same k t) [
      | inr has ↦ apart has.0 has.1 (sym same ∙ has.1)
      | inl t_stays ↦ elim (object_or_same k u) [
        | inr has ↦ apart has.0 (same ∙ has.1) has.1
        | inl u_stays ↦ ne (sym t_stays ∙ e ∙ u_stays)
      ]
    ]

clash_kept : (k : Object) (v w : Option ValueType) → Clash v w → Clash (option_map (constructed k) v) (option_map (constructed k) w)
clash_kept k v w (first e) = first (ap (option_map (constructed k)) e)
clash_kept k v w (second e) = second (ap (option_map (constructed k)) e)
clash_kept k v w (two t u of_v of_w ne apart) = two (constructed k t) (constructed k u) (ap (option_map (constructed k)) of_v) (ap (option_map (constructed k)) of_w)
    (kept_apart k t u ne apart) (λ j of_t of_u. apart j (sym (object_kept k t) ∙ of_t) (sym (object_kept k u) ∙ of_u))

made_fits_at : (k j : Object) (b : Bool) → same_object k j ≡ b → FitsLocal (Some (cond b (Known (made_of j)) (Made j))) (Some (cond b (made_of j) (fresh_of j)))
made_fits_at k j true e = refl
made_fits_at k j false e = inl refl

made_stays_at : (k j : Object) (b : Bool) → FitsLocal (Some (cond b (Known (made_of j)) (Made j))) (Some (made_of j))
made_stays_at k j true = refl
made_stays_at k j false = inr refl

constructed_fits : (k : Object) (a : Option JoinedType) (v : Option ValueType) → FitsLocal a v → FitsLocal (option_map (constructed_local k) a) (option_map (constructed k) v)
constructed_fits k None v f = tt
constructed_fits k (Some (Known t)) v f = ap (option_map (constructed k)) f
constructed_fits k (Some (Made j)) v (inl f) =
    let P : Option ValueType → Type 0 = λ o. FitsLocal (Some (constructed_local k (Made j))) (option_map (constructed k) o) in
    subst P (sym f) (subst (λ o. FitsLocal (Some (constructed_local k (Made j))) (Some o)) (sym (constructed_fresh k j)) (made_fits_at k j (same_object k j) refl))
constructed_fits k (Some (Made j)) v (inr f) =
    let P : Option ValueType → Type 0 = λ o. FitsLocal (Some (constructed_local k (Made j))) (option_map (constructed k) o) in
    subst P (sym f) (subst (λ o. FitsLocal (Some (constructed_local k (Made j))) (Some o)) (sym (constructed_made k j)) (made_stays_at k j (same_object k j)))

-- a choice of two values has what both have
with_fits : {X Y : Type 0} (R : X → Y → Type 0) (b : Bool) (x x' : X) (y y' : Y) → R x y → R x' y' → R (cond b x x') (cond b y y')
with_fits R true x x' y y' h h' = h
with_fits R false x x' y y' h h' = h'

behind_fits : (c : LocalChange) (f : ℕ → Option JoinedType) (g : ℕ → Option ValueType) → ((slot : ℕ) → FitsLocal (f slot) (g slot)) →
    (slot : ℕ) → FitsLocal (joined_locals_behind c f slot) (locals_behind c g slot)
behind_fits local.Stays f g h slot = h slot
behind_fits (local.Stores at t) f g h slot = with_fits FitsLocal (nat_eq at slot) (Some (Known t)) (f slot) (Some t) (g slot) refl (h slot)
behind_fits (local.Constructs k) f g h slot = constructed_fits k (f slot) (g slot) (h slot)

-- a local that has this has it behind the change too
has_behind : (V : FrameState → Type 0) (c : Change) (slot : ℕ) (v w : Option ValueType) → HasLocal V slot v →
    ((s : FrameState) → s.local slot ≡ v → locals_behind c.local s.local slot ≡ w) → HasLocal (Image V c) slot w
has_behind V c slot v w h keeps = record { s = behind c h.s; among = image V c h.s h.among; has = keeps h.s h.has }

clash_behind : (V : FrameState → Type 0) (c : Change) (slot : ℕ) → HasClash V slot →
    ((s t : FrameState) → Clash (s.local slot) (t.local slot) → Clash (locals_behind c.local s.local slot) (locals_behind c.local t.local slot)) → HasClash (Image V c) slot
clash_behind V c slot h keeps = record {
  s = behind c h.s;
  t = behind c h.t;
  s_among = image V c h.s h.s_among;
  t_among = image V c h.t h.t_among;
  clash = keeps h.s h.t h.clash;
}

-- where a change leaves a local alone, what was attained is
attained_same : (V : FrameState → Type 0) (c : Change) (slot : ℕ) (a : Option JoinedType) → ((s : FrameState) → locals_behind c.local s.local slot ≡ s.local slot) →
    AttainsLocal V slot a → AttainsLocal (Image V c) slot a
attained_same V c slot None same h = clash_behind V c slot h
    (λ s t clash. let P : Option ValueType → Type 0 = λ o. Clash o (locals_behind c.local t.local slot) in
    subst P (sym (same s)) (subst (Clash (s.local slot)) (sym (same t)) clash))
attained_same V c slot (Some (Known t)) same h = tt
attained_same V c slot (Some (Made k)) same h = (has_behind V c slot _ _ h.0 (λ s e. same s ∙ e), has_behind V c slot _ _ h.1 (λ s e. same s ∙ e))

stored_attained : (V : FrameState → Type 0) (c : Change) (at slot : ℕ) (t : ValueType) (a : Option JoinedType) (b : Bool) → nat_eq at slot ≡ b →
    ((s : FrameState) → locals_behind c.local s.local slot ≡ cond b (Some t) (s.local slot)) →
    AttainsLocal V slot a → AttainsLocal (Image V c) slot (cond b (Some (Known t)) a)
stored_attained V c at slot t a true e is h = tt
stored_attained V c at slot t a false e is h = attained_same V c slot a is h

made_attained : (V : FrameState → Type 0) (c : Change) (slot : ℕ) (k j : Object) (b : Bool) → same_object k j ≡ b →
    ((s : FrameState) → locals_behind c.local s.local slot ≡ option_map (constructed k) (s.local slot)) →
    AttainsLocal V slot (Some (Made j)) → AttainsLocal (Image V c) slot (Some (cond b (Known (made_of j)) (Made j)))
made_attained V c slot k j true e is h = tt
made_attained V c slot k j false e is h = (
  has_behind V c slot _ _ h.0 (λ s f. is s ∙ ap (option_map (constructed k)) f ∙ ap Some (constructed_fresh k j) ∙ ap (λ b. Some (cond b (made_of j) (fresh_of j))) e),
  has_behind V c slot _ _ h.1 (λ s f. is s ∙ ap (option_map (constructed k)) f ∙ ap Some (constructed_made k j)),
)

constructed_attained : (V : FrameState → Type 0) (c : Change) (slot : ℕ) (k : Object) (a : Option JoinedType) →
    ((s : FrameState) → locals_behind c.local s.local slot ≡ option_map (constructed k) (s.local slot)) →
    AttainsLocal V slot a → AttainsLocal (Image V c) slot (option_map (constructed_local k) a)
constructed_attained V c slot k None is h = clash_behind V c slot h
    (λ s t clash. let P : Option ValueType → Type 0 = λ o. Clash o (locals_behind c.local t.local slot) in
    subst P (sym (is s)) (subst (Clash (option_map (constructed k) (s.local slot))) (sym (is t)) (clash_kept k _ _ clash)))
constructed_attained V c slot k (Some (Known t)) is h = tt
constructed_attained V c slot k (Some (Made j)) is h = made_attained V c slot k j (same_object k j) refl is h

behind_attained : (V : FrameState → Type 0) (c : Change) (l : LocalChange) → c.local ≡ l → (f : ℕ → Option JoinedType) (slot : ℕ) →
    AttainsLocal V slot (f slot) → AttainsLocal (Image V c) slot (joined_locals_behind l f slot)
behind_attained V c local.Stays is f slot h = attained_same V c slot (f slot) (λ s. ap (λ l. locals_behind l s.local slot) is) h
behind_attained V c (local.Stores at t) is f slot h =
    stored_attained V c at slot t (f slot) (nat_eq at slot) refl (λ s. ap (λ l. locals_behind l s.local slot) is) h
behind_attained V c (local.Constructs k) is f slot h = constructed_attained V c slot k (f slot) (λ s. ap (λ l. locals_behind l s.local slot) is) h

-- ---- Threads

-- what is known of a thread in one state is what is so in that state
pub stage_fits : (v : ThreadState) → FitsStage (stage_of v) v
stage_fits state.Unmade = record { unready = λ _. refl; unstarted = λ _. refl; unawaited = λ _ _. refl }
stage_fits state.Fresh = record { unready = λ _. refl; unstarted = λ _. refl; unawaited = λ _ _. refl }
stage_fits state.Ready = record { unready = λ other. absurd (other refl); unstarted = λ _. refl; unawaited = λ _ _. refl }
stage_fits state.Started = record { unready = λ _. refl; unstarted = λ other. absurd (other refl); unawaited = λ other _. absurd (other refl) }
stage_fits state.Joined = record { unready = λ _. refl; unstarted = λ _. refl; unawaited = λ _ other. absurd (other refl) }
stage_fits state.Asked = record { unready = λ _. refl; unstarted = λ _. refl; unawaited = λ _ _. refl }

not_ready : (v : ThreadState) → (stage_of v).unready ≡ true → v ≢ state.Ready
not_ready v h e = let P : ThreadState → Type 0 = λ w. (stage_of w).unready ≡ true in let wrong : false ≡ true = subst P e h in cc

not_started : (v : ThreadState) → (stage_of v).unstarted ≡ true → v ≢ state.Started
not_started v h e = let P : ThreadState → Type 0 = λ w. (stage_of w).unstarted ≡ true in let wrong : false ≡ true = subst P e h in cc

not_awaited : (v : ThreadState) → (stage_of v).unawaited ≡ true → (v ≢ state.Started) × (v ≢ state.Joined)
not_awaited v h =
    let P : ThreadState → Type 0 = λ w. (stage_of w).unawaited ≡ true in
    (λ e. let wrong : false ≡ true = subst P e h in cc, λ e. let wrong : false ≡ true = subst P e h in cc)

-- what is known of a thread in one state is attained in that state
pub one_attained : (V : FrameState → Type 0) (k : ℕ) (s : FrameState) → V s → AttainsStage V k (stage_of (s.thread k))
one_attained V k s among = record {
  unready = λ e. record { s = s; among = among; has = not_ready (s.thread k) e };
  unstarted = λ e. record { s = s; among = among; has = not_started (s.thread k) e };
  unawaited = λ e. record { s = s; among = among; has = not_awaited (s.thread k) e };
}

stages_fit : (c : ThreadChange) (f : ℕ → Stage) (g : ℕ → ThreadState) → ((k : ℕ) → FitsStage (f k) (g k)) → (k : ℕ) → FitsStage (stages_behind c f k) (threads_behind c g k)
stages_fit thread.Stays f g h k = h k
stages_fit (thread.Makes j) f g h k = with_fits FitsStage (nat_eq j k) (stage_of state.Fresh) (f k) state.Fresh (g k) (stage_fits state.Fresh) (h k)
stages_fit (thread.Readies j) f g h k = with_fits FitsStage (nat_eq j k) (stage_of state.Ready) (f k) state.Ready (g k) (stage_fits state.Ready) (h k)
stages_fit (thread.Starts j) f g h k = with_fits FitsStage (nat_eq j k) (stage_of state.Started) (f k) state.Started (g k) (stage_fits state.Started) (h k)
stages_fit (thread.Joins j) f g h k = with_fits FitsStage (nat_eq j k) (stage_of state.Joined) (f k) state.Joined (g k) (stage_fits state.Joined) (h k)
stages_fit (thread.Asks j) f g h k = with_fits FitsStage (nat_eq j k) (stage_of state.Asked) (f k) state.Asked (g k) (stage_fits state.Asked) (h k)

-- a thread in such a state is so behind a change that leaves it alone
thread_behind : (V : FrameState → Type 0) (c : Change) (k : ℕ) (P : ThreadState → Type 0) → ((s : FrameState) → threads_behind c.thread s.thread k ≡ s.thread k) → HasThread V k P → HasThread (Image V c) k P
thread_behind V c k P is h = record { s = behind c h.s; among = image V c h.s h.among; has = subst P (sym (is h.s)) h.has }

stage_same : (V : FrameState → Type 0) (c : Change) (k : ℕ) (a : Stage) → ((s : FrameState) → threads_behind c.thread s.thread k ≡ s.thread k) → AttainsStage V k a → AttainsStage (Image V c) k a
stage_same V c k a is h = record {
  unready = λ e. thread_behind V c k (λ v. v ≢ state.Ready) is (h.unready e);
  unstarted = λ e. thread_behind V c k (λ v. v ≢ state.Started) is (h.unstarted e);
  unawaited = λ e. thread_behind V c k (λ v. (v ≢ state.Started) × (v ≢ state.Joined)) is (h.unawaited e);
}

stage_turned : (V : FrameState → Type 0) (c : Change) (k : ℕ) (a : Stage) (v : ThreadState) (b : Bool) (s : FrameState) → V s →
    ((s : FrameState) → threads_behind c.thread s.thread k ≡ cond b v (s.thread k)) → AttainsStage V k a → AttainsStage (Image V c) k (cond b (stage_of v) a)
stage_turned V c k a v true s among is h = let P : ThreadState → Type 0 = λ w. AttainsStage (Image V c) k (stage_of w) in subst P (is s) (one_attained (Image V c) k (behind c s) (image V c s among))
stage_turned V c k a v false s among is h = stage_same V c k a is h

stages_attained : (V : FrameState → Type 0) (c : Change) (l : ThreadChange) → c.thread ≡ l → (f : ℕ → Stage) (k : ℕ) (s : FrameState) → V s →
    AttainsStage V k (f k) → AttainsStage (Image V c) k (stages_behind l f k)
stages_attained V c thread.Stays is f k s among h = stage_same V c k (f k) (λ s. ap (λ l. threads_behind l s.thread k) is) h
stages_attained V c (thread.Makes j) is f k s among h = stage_turned V c k (f k) state.Fresh (nat_eq j k) s among (λ s. ap (λ l. threads_behind l s.thread k) is) h
stages_attained V c (thread.Readies j) is f k s among h = stage_turned V c k (f k) state.Ready (nat_eq j k) s among (λ s. ap (λ l. threads_behind l s.thread k) is) h
stages_attained V c (thread.Starts j) is f k s among h = stage_turned V c k (f k) state.Started (nat_eq j k) s among (λ s. ap (λ l. threads_behind l s.thread k) is) h
stages_attained V c (thread.Joins j) is f k s among h = stage_turned V c k (f k) state.Joined (nat_eq j k) s among (λ s. ap (λ l. threads_behind l s.thread k) is) h
stages_attained V c (thread.Asks j) is f k s among h = stage_turned V c k (f k) state.Asked (nat_eq j k) s among (λ s. ap (λ l. threads_behind l s.thread k) is) h

-- ---- Summaries

below_behind : (c : Change) (a b : Summary) (s : FrameState) → a.held_differs ≡ false → IsBehind c a b → IsBelow a s → IsBelow b (behind c s)
below_behind c a b s agree i h = record {
  stack = λ _. sym i.stack;
  held = λ _ m. ap (λ f. held_behind c.held f m) (everywhere s.held a.held (h.held agree)) ∙ sym (i.held m);
  local = λ slot. let P : Option JoinedType → Type 0 = λ o. FitsLocal o (locals_behind c.local s.local slot) in
      subst P (sym (i.local slot)) (behind_fits c.local a.local s.local h.local slot);
  stage = λ k. let P : Stage → Type 0 = λ o. FitsStage o (threads_behind c.thread s.thread k) in
      subst P (sym (i.stage k)) (stages_fit c.thread a.stage s.thread h.stage k);
}

false_true : (b : Bool) → b ≡ false → b ≡ true → ⊥
false_true b f t = cc

pub behind_describes : (V : FrameState → Type 0) (c : Change) (a b : Summary) → a.held_differs ≡ false → IsBehind c a b → Describes V a → Describes (Image V c) b
behind_describes V c a b agree i v = record {
  state = behind c v.state;
  among = image V c v.state v.among;
  below = λ t h. subst (IsBelow b) (sym h.is_behind) (below_behind c a b h.before agree i (v.below h.before h.among));
  stack = λ e. absurd (false_true b.stacks_differ i.stacks_agree e);
  held = λ e. absurd (false_true b.held_differs i.held_agrees e);
  local = λ slot. subst (AttainsLocal (Image V c) slot) (sym (i.local slot)) (behind_attained V c c.local refl a.local slot (v.local slot));
  stage = λ k. subst (AttainsStage (Image V c) k) (sym (i.stage k)) (stages_attained V c c.thread refl a.stage k v.state v.among (v.stage k));
}
