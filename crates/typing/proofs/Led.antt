-- Listings whose instructions come behind earlier ones.
use Rattle.std.proofs.Common.{◌≡◌, ◌<◌, ℕ, zero, suc, pos, Some, List, length, get_or, slice_get, arith, sym, subst, ◌∙◌}
use Rattle.std.proofs.lemmas.Option.{same_Some, slice_get-get_or}
use Rattle.opcodes.specs.Instructions.{Successor}
use Rattle.opcodes.specs.declared.listed.Listed.{Listed}
use Rattle.program.proofs.Lists.{place_of, contains_at}
use Rattle.relations.proofs.Paths.{walked}
use Rattle.relations.specs.Path.{Walk, here}
use Rattle.typing.specs.Typing.{Leads, AllReached}

-- the instruction at a place comes behind an earlier one
abbrev pub IsLed : List Listed → ℕ → Type 0
IsLed listing place =
    (from : ℕ) × (at : Listed) × (to : Listed) × (from < place) × (slice_get listing from ≡ Some at) × (slice_get listing place ≡ Some to) × Successor at.pc at.instr (pos to.pc)

module _ (listing : List Listed) (start : (l : Listed) → slice_get listing 0 ≡ Some l → l.pc ≡ 0) (led : (q : ℕ) (l : Listed) → 0 < q → slice_get listing q ≡ Some l → IsLed listing q) where
  reaches : (n q : ℕ) (l : Listed) → q < n → slice_get listing q ≡ Some l → Walk (Leads listing) 0 l.pc
  reaches zero q l below is = absurd (omega arith)
  reaches (suc n) zero l below is = subst (λ pc. Walk (Leads listing) 0 pc) (sym (start l is)) here
  reaches (suc n) (suc q) l below is = go (led (suc q) l (omega arith) is) (λ from at lt is_at. reaches n from at lt is_at)
    where
      go : IsLed listing (suc q) → ((from : ℕ) (at : Listed) → from < n → slice_get listing from ≡ Some at → Walk (Leads listing) 0 at.pc) → Walk (Leads listing) 0 l.pc
      go (from, at, to, before, is_at, is_to, successor) earlier =
          let next : Walk (Leads listing) 0 to.pc = walked (Leads listing) 0 at.pc to.pc (earlier from at (omega arith) is_at)
          (record { instr = at.instr; stands = contains_at listing from at is_at; successor = successor }) in
          subst (λ (x : Listed). Walk (Leads listing) 0 x.pc) (same_Some to l (sym is_to ∙ is)) next

  pub all_led : AllReached listing
  all_led pc instr stands =
      let at = place_of listing (record { pc = pc; instr = instr }) stands in
      reaches (suc at.0) at.0 (record { pc = pc; instr = instr }) (omega arith) at.1

pub led_at : (listing : List Listed) (from place : ℕ) (d : Listed) → from < place → place < length listing →
    Successor (get_or listing from d).pc (get_or listing from d).instr (pos (get_or listing place d).pc) → IsLed listing place
led_at listing from place d before within successor = (
  from,
  get_or listing from d,
  get_or listing place d,
  before,
  slice_get-get_or listing from d (omega arith),
  slice_get-get_or listing place d within,
  successor,
)
