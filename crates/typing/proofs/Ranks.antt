-- What is kept sinks.
use Rattle.std.proofs.Common.{◌≡◌, ◌≢◌, ◌<◌, ◌≤◌, ◌+◌, ◌*◌, ◌^◌, ◌||◌, ℕ, zero, suc, Bool, true, false, List, [], ◌∷◌, Option, Some, None, length, ◌⊎◌, inl, inr, refl, sym, ap, subst, arith, ◌∙◌}
use Rattle.std.proofs.lemmas.Bool.{cases_eq}
use Rattle.std.proofs.lemmas.Option.{same_Some}
use Rattle.typing.specs.Joining.{Joins, JoinsLocal, either_stage, joined_object}
use Rattle.typing.specs.Joining as joining
use Rattle.typing.specs.Ranks.{Differs, by_local, by_stage, by_stack, by_stacks_differ, by_held, by_held_differs, local_rank, stage_rank, agreement_rank, total, number_rank, summary_rank, LeadsDown, IsLowered}
use Rattle.typing.specs.declared.object.Object.{Object}
use Rattle.typing.specs.Summaries.{Summary, JoinsSummaries}
use Rattle.typing.specs.declared.joined_type.JoinedType.{JoinedType}
use Rattle.typing.specs.declared.joined_type.JoinedType.TheVariants.{Known, Made}
use Rattle.typing.specs.declared.stage.Stage.{Stage}

-- ---- Locals

some_local : (a : JoinedType) → 1 ≤ local_rank (Some a)
some_local (Known t) = omega arith
some_local (Made k) = omega arith

two_kinds : (a b : JoinedType) (r : Option JoinedType) → Joins a b r → local_rank r ≤ local_rank (Some a)
two_kinds a b r (joining.same e is) = let P : Option JoinedType → Type 0 = λ o. local_rank o ≤ local_rank (Some a) in subst P (sym is) (omega arith)
two_kinds a b r (joining.made k ne first second is) = let P : Option JoinedType → Type 0 = λ o. local_rank o ≤ local_rank (Some a) in subst P (sym is) (some_local a)
two_kinds a b r (joining.clash ne apart is) = let P : Option JoinedType → Type 0 = λ o. local_rank o ≤ local_rank (Some a) in subst P (sym is) (omega arith)

pub local_most : (a b r : Option JoinedType) → JoinsLocal a b r → local_rank r ≤ local_rank a
local_most None b r is = let P : Option JoinedType → Type 0 = λ o. local_rank o ≤ 0 in subst P (sym is) (omega arith)
local_most (Some a) None r is = let P : Option JoinedType → Type 0 = λ o. local_rank o ≤ local_rank (Some a) in subst P (sym is) (omega arith)
local_most (Some a) (Some b) r j = two_kinds a b r j

turns_made : (a : JoinedType) (k : Object) → joined_object a ≡ Some k → Some (Made k) ≢ Some a → local_rank (Some (Made k)) < local_rank (Some a)
turns_made (Known t) k is other = omega arith
turns_made (Made j) k is other = absurd (other (ap (λ n. Some (Made n)) (sym (same_Some j k is))))

two_less : (a b : JoinedType) (r : Option JoinedType) → Joins a b r → r ≢ Some a → local_rank r < local_rank (Some a)
two_less a b r (joining.same e is) other = absurd (other is)
two_less a b r (joining.made k ne first second is) other =
    let P : Option JoinedType → Type 0 = λ o. o ≢ Some a → local_rank o < local_rank (Some a) in subst P (sym is) (turns_made a k first) other
two_less a b r (joining.clash ne apart is) other =
    let P : Option JoinedType → Type 0 = λ o. local_rank o < local_rank (Some a) in
    let some = some_local a in
    subst P (sym is) (omega arith)

pub local_less : (a b r : Option JoinedType) → JoinsLocal a b r → r ≢ a → local_rank r < local_rank a
local_less None b r is other = absurd (other is)
local_less (Some a) None r is other =
    let P : Option JoinedType → Type 0 = λ o. local_rank o < local_rank (Some a) in
    let some = some_local a in
    subst P (sym is) (omega arith)
local_less (Some a) (Some b) r j other = two_less a b r j other

-- ---- Agreement

pub agreement_most : (a c : Bool) → (c ≡ false → a ≡ false) → agreement_rank c ≤ agreement_rank a
agreement_most a true h = omega arith
agreement_most true false h = absurd (let wrong : true ≡ false = h refl in cc)
agreement_most false false h = omega arith

pub agreement_less : (a c : Bool) → (c ≡ false → a ≡ false) → c ≢ a → agreement_rank c < agreement_rank a
agreement_less true true h other = absurd (other refl)
agreement_less false true h other = omega arith
agreement_less true false h other = absurd (let wrong : true ≡ false = h refl in cc)
agreement_less false false h other = absurd (other refl)

agreement_small : (a : Bool) → agreement_rank a ≤ 1
agreement_small true = omega arith
agreement_small false = omega arith

-- ---- Threads

flag_most : (x y : Bool) → agreement_rank (x || y) ≤ agreement_rank x
flag_most true y = omega arith
flag_most false true = omega arith
flag_most false false = omega arith

flag_less : (x y : Bool) → ((x || y) ≡ x) ⊎ (agreement_rank (x || y) < agreement_rank x)
flag_less true y = inl refl
flag_less false true = inr (omega arith)
flag_less false false = inl refl

pub stage_most : (a b r : Stage) → r ≡ either_stage a b → stage_rank r ≤ stage_rank a
stage_most a b r is =
    let P : Stage → Type 0 = λ o. stage_rank o ≤ stage_rank a in
    let first = flag_most a.unready b.unready in
    let second = flag_most a.unstarted b.unstarted in
    let third = flag_most a.unawaited b.unawaited in
    subst P (sym is) (omega arith)

pub stage_less : (a b r : Stage) → r ≡ either_stage a b → r ≢ a → stage_rank r < stage_rank a
stage_less a b r is other =
    let P : Stage → Type 0 = λ o. stage_rank o < stage_rank a in
    let first = flag_most a.unready b.unready in
    let second = flag_most a.unstarted b.unstarted in
    let third = flag_most a.unawaited b.unawaited in
    subst P (sym is)
    (elim (flag_less a.unready b.unready) [
      | inr less ↦ omega arith
      | inl ready ↦ elim (flag_less a.unstarted b.unstarted) [
        | inr less ↦ omega arith
        | inl started ↦ elim (flag_less a.unawaited b.unawaited) [
          | inr less ↦ omega arith
          | inl awaited ↦ absurd (other (is ∙ rw (ready, started, awaited) refl))
        ]
      ]
    ])

-- ---- Sums

pub total_most : (f g : ℕ → ℕ) (n : ℕ) → ((q : ℕ) → g q ≤ f q) → total g n ≤ total f n
unfolding total
total_most f g zero h = omega arith
total_most f g (suc n) h = let here = h n in let below = total_most f g n h in omega arith

pub total_less : (f g : ℕ → ℕ) (n q : ℕ) → ((p : ℕ) → g p ≤ f p) → q < n → g q < f q → total g n < total f n
unfolding total
total_less f g zero q h within less = absurd (omega arith)
total_less f g (suc n) q h within less =
    elim (cases_eq q n) [
      | inl e ↦ (let P : ℕ → Type 0 = λ p. g p < f p in
          let here : g n < f n = subst P e less in
          let below = total_most f g n h in
          omega arith)
      | inr other ↦ (let here = h n in let below = total_less f g n q h (omega arith) less in omega arith)
    ]

total_small : (f : ℕ → ℕ) (n : ℕ) → ((q : ℕ) → f q ≤ 5) → total f n ≤ 5 * n
unfolding total
total_small f zero h = omega arith
total_small f (suc n) h = let here = h n in let below = total_small f n h in omega arith

-- ---- Summaries

local_small : (a : Option JoinedType) → local_rank a ≤ 2
local_small None = omega arith
local_small (Some (Known t)) = omega arith
local_small (Some (Made k)) = omega arith

stage_small : (a : Stage) → stage_rank a ≤ 3
stage_small a =
    let first = agreement_small a.unready in
    let second = agreement_small a.unstarted in
    let third = agreement_small a.unawaited in
    omega arith

pub summary_small : (a : Summary) → summary_rank a < 5 * 2 ^ 32 + 3
unfolding summary_rank
summary_small a =
    let all = total_small (number_rank a) (2 ^ 32) (λ q. let l = local_small (a.local q) in let s = stage_small (a.stage q) in omega arith) in
    let stacks = agreement_small a.stacks_differ in
    let held = agreement_small a.held_differs in
    omega arith

module _ (a b c : Summary) (j : JoinsSummaries a b c) where
  number_most : (q : ℕ) → number_rank c q ≤ number_rank a q
  number_most q =
      let l = local_most (a.local q) (b.local q) (c.local q) (j.local q) in
      let s = stage_most (a.stage q) (b.stage q) (c.stage q) (j.stage q) in
      omega arith

  number_local : (q : ℕ) → c.local q ≢ a.local q → number_rank c q < number_rank a q
  number_local q other =
      let l = local_less (a.local q) (b.local q) (c.local q) (j.local q) other in
      let s = stage_most (a.stage q) (b.stage q) (c.stage q) (j.stage q) in
      omega arith

  number_stage : (q : ℕ) → c.stage q ≢ a.stage q → number_rank c q < number_rank a q
  number_stage q other =
      let l = local_most (a.local q) (b.local q) (c.local q) (j.local q) in
      let s = stage_less (a.stage q) (b.stage q) (c.stage q) (j.stage q) other in
      omega arith

  -- a join that differs from what was kept is below it
  pub joined_less : Differs c a → summary_rank c < summary_rank a
  unfolding summary_rank
  joined_less (by_local q within other) =
      let all = total_less (number_rank a) (number_rank c) (2 ^ 32) q number_most within (number_local q other) in
      let stacks = agreement_most a.stacks_differ c.stacks_differ (λ e. (j.stacks_agree e).0) in
      let held = agreement_most a.held_differs c.held_differs (λ e. (j.held_agrees e).0) in
      omega arith
  joined_less (by_stage q within other) =
      let all = total_less (number_rank a) (number_rank c) (2 ^ 32) q number_most within (number_stage q other) in
      let stacks = agreement_most a.stacks_differ c.stacks_differ (λ e. (j.stacks_agree e).0) in
      let held = agreement_most a.held_differs c.held_differs (λ e. (j.held_agrees e).0) in
      omega arith
  joined_less (by_stack other) = absurd (other j.stack)
  joined_less (by_stacks_differ other) =
      let all = total_most (number_rank a) (number_rank c) (2 ^ 32) number_most in
      let stacks = agreement_less a.stacks_differ c.stacks_differ (λ e. (j.stacks_agree e).0) other in
      let held = agreement_most a.held_differs c.held_differs (λ e. (j.held_agrees e).0) in
      omega arith
  joined_less (by_held monitor other) = absurd (other (j.held monitor))
  joined_less (by_held_differs other) =
      let all = total_most (number_rank a) (number_rank c) (2 ^ 32) number_most in
      let stacks = agreement_most a.stacks_differ c.stacks_differ (λ e. (j.stacks_agree e).0) in
      let held = agreement_less a.held_differs c.held_differs (λ e. (j.held_agrees e).0) other in
      omega arith

-- ---- Levels

-- one arrival more
pub lowered_more : (b : Bool) (changed longer : List ℕ) (first old new : ℕ) → IsLowered changed first old → LeadsDown b old new →
    (0 < length longer → (0 < length changed) ⊎ (b ≡ true)) → IsLowered longer first new
lowered_more true changed longer first old new h less some = let most = h.most in record { most = omega arith; sinks = λ _. omega arith }
lowered_more false changed longer first old new h is some = record {
  most = let most = h.most in omega (arith, is);
  sinks = λ any. elim (some any) [ inl before ↦ (let less = h.sinks before in omega (arith, is)) | inr wrong ↦ absurd (let no : false ≡ true = wrong in cc) ];
}

-- whether a level is still to come
abbrev pub left_over : List ℕ → ℕ
left_over [] = 0
left_over (q ∷ changed) = 1
