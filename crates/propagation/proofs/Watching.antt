-- The watches of one clause.
use Rattle.std.proofs.Common.{◌≡◌, ◌≢◌, ℕ, ◌≤◌, ◌<◌, length, get_or, arith, ◌⊎◌, inl, inr, List, ◌∷◌, refl, sym, ◌∙◌, ap, subst}
use Rattle.std.proofs.lemmas.Bool.{cases_eq}
use Rattle.std.proofs.lemmas.Bool.Decides.{leb_tells}
use Rattle.clause_pool.specs.PoolValue.{IsIn, IsWatched}
use Rattle.literals.specs.Literal.{opposite_of}
use Rattle.literals.specs.Propagation.{IsTrueIn, IsFalseIn, IsConsistent, HasNoValueIn}
use Rattle.literals.proofs.Opposites.{opposite-opposite}
use Rattle.literals.proofs.Members.{IsIn-place, place-IsIn}
use Rattle.trail.specs.Steps.{HasValue}
use Rattle.trail.specs.declared.step.Value.{Value}
use Rattle.trail.specs.declared.step.Value.TheVariants.{Open, True, False}
use Rattle.propagation.specs.Watches.{WatchesHold}

-- no literal but two is watched
pub two_watches : (ls : List ℕ) (a b m : ℕ) → IsWatched ls a → IsWatched ls b → a ≢ b → IsWatched ls m → (m ≡ a) ⊎ (m ≡ b)
two_watches ls a b m wa wb ne wm = elim wa.side [
  | inl a0 ↦ elim wb.side [
    | inl b0 ↦ absurd (ne (sym a0 ∙ b0))
    | inr b1 ↦ elim wm.side [ inl m0 ↦ inl (sym m0 ∙ a0) | inr m1 ↦ inr (sym m1 ∙ b1) ]
  ]
  | inr a1 ↦ elim wb.side [
    | inl b0 ↦ elim wm.side [ inl m0 ↦ inr (sym m0 ∙ b0) | inr m1 ↦ inl (sym m1 ∙ a1) ]
    | inr b1 ↦ absurd (ne (sym a1 ∙ b1))
  ]
]

-- more literals are true
pub WatchesHold-more : (done trail after ls : List ℕ) → ((x : ℕ) → IsIn x trail → IsIn x after) → WatchesHold done trail ls → WatchesHold done after ls
WatchesHold-more done trail after ls more h one other wo wt ne is_false = more other (h one other wo wt ne is_false)

-- a literal that became true, where the clause doesn't watch its opposite
pub WatchesHold-unwatched : (done trail ls : List ℕ) (p : ℕ) → (IsWatched ls (opposite_of p) → ⊥) → WatchesHold done trail ls → WatchesHold (p ∷ done) trail ls
WatchesHold-unwatched done trail ls p out h one other wo wt ne is_false = elim is_false [
  | inl e ↦ absurd (out (subst (IsWatched ls) (sym (opposite-opposite one) ∙ ap opposite_of e) wo))
  | inr old ↦ h one other wo wt ne old
]

-- where the other watched literal is true
pub WatchesHold-true : (done trail ls : List ℕ) (literal other : ℕ) → IsWatched ls literal → IsWatched ls other → other ≢ literal → ((x : ℕ) → IsIn x done → IsIn x trail) → IsConsistent trail → IsTrueIn trail other → WatchesHold done trail ls
WatchesHold-true done trail ls literal other wl wo ne among fine is_true a b wa wb differ is_false =
    elim (two_watches ls literal other a wl wo (λ e. ne (sym e)) wa) [
      | inl a_is ↦ elim (two_watches ls literal other b wl wo (λ e. ne (sym e)) wb) [
        | inl b_is ↦ absurd (differ (a_is ∙ sym b_is))
        | inr b_is ↦ subst (IsTrueIn trail) (sym b_is) is_true
      ]
      | inr a_is ↦ absurd (fine other is_true (among (opposite_of other) (subst (IsFalseIn done) a_is is_false)))
    ]

-- where another literal, which isn't false, is watched in place of a false one
pub WatchesHold-moved : (done trail whole ls ms : List ℕ) (literal moved other : ℕ) → ((m : ℕ) → IsWatched ms m → (m ≡ moved) ⊎ (m ≡ other)) → IsWatched ls literal → IsWatched ls other → other ≢ literal → ((x : ℕ) → IsIn x done → IsIn x whole) → ((x : ℕ) → IsIn x trail → IsIn x whole) → IsConsistent whole → IsFalseIn whole literal → (IsFalseIn whole moved → ⊥) → WatchesHold done trail ls → WatchesHold done trail ms
WatchesHold-moved done trail whole ls ms literal moved other now wl wo ne done_among trail_among fine is_false not_false h a b wa wb differ a_false =
    elim (now a wa) [
      | inl a_is ↦ absurd (not_false (done_among (opposite_of moved) (subst (IsFalseIn done) a_is a_false)))
      | inr a_is ↦ absurd (fine literal (trail_among literal (h other literal wo wl ne (subst (IsFalseIn done) a_is a_false))) is_false)
    ]

pub watched_member : (ls : List ℕ) (l : ℕ) → IsWatched ls l → IsIn l ls
watched_member ls l w = elim w.side [
  | inl e ↦ subst (λ x. IsIn x ls) e (IsIn-place ls 0 (omega (arith, w.two)))
  | inr e ↦ subst (λ x. IsIn x ls) e (IsIn-place ls 1 (omega (arith, w.two)))
]

-- all literals are false but the other watched one
pub others_false : (trail ls : List ℕ) (literal other : ℕ) → IsWatched ls literal → IsWatched ls other → other ≢ literal → IsFalseIn trail literal → ((k : ℕ) → 2 ≤ k → k < length ls → IsFalseIn trail (get_or ls k 0)) → (x : ℕ) → IsIn x ls → x ≢ other → IsFalseIn trail x
others_false trail ls literal other wl wo ne is_false rest x i apart =
    let at = place-IsIn ls x i in
    elim (leb_tells 2 at.0) [
      | inl behind ↦ subst (IsFalseIn trail) at.2 (rest at.0 behind.1 at.1)
      | inr front ↦
          (let side : (get_or ls 0 0 ≡ x) ⊎ (get_or ls 1 0 ≡ x) = elim (cases_eq at.0 0) [
            | inl zero_at ↦ inl (ap (λ k. get_or ls k 0) (sym zero_at) ∙ at.2)
            | inr more ↦ inr (ap (λ k. get_or ls k 0) (let one : 1 ≡ at.0 = omega (arith, front.1, more) in one) ∙ at.2)
          ] in
          elim (two_watches ls literal other x wl wo (λ e. ne (sym e)) (record { two = wl.two; side = side })) [
            | inl same ↦ subst (IsFalseIn trail) (sym same) is_false
            | inr same ↦ absurd (apart same)
          ])
    ]

pub open_from : (trail : List ℕ) (l : ℕ) (v : Value) → HasValue trail l v → v ≢ True → v ≢ False → HasNoValueIn trail l
open_from trail l Open h p q = h
open_from trail l True h p q = absurd (p refl)
open_from trail l False h p q = absurd (q refl)

pub not_false_from : (trail : List ℕ) (l : ℕ) (v : Value) → IsConsistent trail → HasValue trail l v → (v ≡ Open) ⊎ (v ≡ True) → IsFalseIn trail l → ⊥
not_false_from trail l v fine h is is_false = elim is [
  | inl e ↦ (let none : HasNoValueIn trail l = subst (HasValue trail l) e h in none.not_false is_false)
  | inr e ↦ fine l (subst (HasValue trail l) e h) is_false
]
