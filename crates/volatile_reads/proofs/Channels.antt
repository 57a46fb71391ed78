-- The channels of volatile reads and writes.
use Rattle.std.proofs.Common.{◌≡◌, ℕ, List, Some, slice_get, refl, ◌∙◌, ap, ap₂, subst}
use Rattle.clocks.specs.declared.pass.Event.{Event}
use Rattle.program.specs.declared.kind.Kind.{Kind}
use Rattle.program.specs.declared.kind.Kind.TheVariants.{VolatileRead, VolatileWrite}
use Rattle.action_orders.specs.declared.action.Action.{Action}
use Rattle.action_orders.specs.Actions.{Of, Default, Var, Is, IsWrite, variable}
use Rattle.action_orders.specs.Actions as acts
use Rattle.action_orders.specs.WellFormed.{IsSync}
use Rattle.orders.specs.Symbols.{Symbol, OfVariable, given_by, taken_by, gives_of, takes_of}
use Rattle.orders.specs.Flat.{IsEventOf}
use Rattle.orders.proofs.Edges.{Giver, giver, unlocks, writes, starts, ends, Taker, taker, locks, reads, detects, begins, symbol_of_number, number_of_symbol}
use Rattle.orders.proofs.Said.{var}
use Rattle.volatile_reads.specs.LastWrites.{read_channel, write_channel}

reading : (k : Kind) (x : Event) (c : ℕ) → read_channel k x ≡ Some c → (k ≡ VolatileRead) × (x.takes ≡ Some c)
reading VolatileRead x c e = (refl, e)
reading _ x c e = cc

writing : (k : Kind) (x : Event) (c : ℕ) → write_channel k x ≡ Some c → (k ≡ VolatileWrite) × (x.gives ≡ Some c)
writing VolatileWrite x c e = (refl, e)
writing _ x c e = cc

-- the channel of a read is that of a variable, which it reads
pub channel_read : (names : List Symbol) (a : Action) (x : Event) (c : ℕ) → IsEventOf names a x → read_channel a.kind x ≡ Some c → (v : Var) × (slice_get names c ≡ Some (OfVariable v.class v.name)) × Is VolatileRead (variable v) (Of a)
channel_read names a x c event e =
    let (kind, takes) = reading a.kind x c e in
    let (s, is_s, at_s) = symbol_of_number names (takes_of a) x.takes c event.takes takes in
    go kind s at_s (taker a.kind a.operand a.thread s is_s)
  where
    go : a.kind ≡ VolatileRead → (s : Symbol) → slice_get names c ≡ Some s → Taker a.kind a.operand a.thread s → (v : Var) × (slice_get names c ≡ Some (OfVariable v.class v.name)) × Is VolatileRead (variable v) (Of a)
    go kind s at_s (reads class name k o is) = (var class name, at_s ∙ ap Some is, (k, o))
    go kind s at_s (locks m k o is) = let never : ⊥ = cc in absurd never
    go kind s at_s (detects u k o is) = let never : ⊥ = cc in absurd never
    go kind s at_s (begins k is) = let never : ⊥ = cc in absurd never

-- and a read has one
pub read_channelled : (names : List Symbol) (a : Action) (x : Event) (v : Var) → IsEventOf names a x → Is VolatileRead (variable v) (Of a) → (c : ℕ) × (read_channel a.kind x ≡ Some c)
read_channelled names a x v event is =
    let (c, takes, at_c) = number_of_symbol names (takes_of a) x.takes (OfVariable v.class v.name) event.takes (ap₂ (λ k o. taken_by k o a.thread) is.0 is.1) in
    (c, ap (λ (k : Kind). read_channel k x) is.0 ∙ takes)

-- the channel of a write is that of a variable, to which it writes
pub channel_written : (names : List Symbol) (a : Action) (x : Event) (c : ℕ) → IsEventOf names a x → write_channel a.kind x ≡ Some c → (v : Var) × (slice_get names c ≡ Some (OfVariable v.class v.name)) × Is VolatileWrite (variable v) (Of a)
channel_written names a x c event e =
    let (kind, gives) = writing a.kind x c e in
    let (s, is_s, at_s) = symbol_of_number names (gives_of a) x.gives c event.gives gives in
    go kind s at_s (giver a.kind a.operand a.thread s is_s)
  where
    go : a.kind ≡ VolatileWrite → (s : Symbol) → slice_get names c ≡ Some s → Giver a.kind a.operand a.thread s → (v : Var) × (slice_get names c ≡ Some (OfVariable v.class v.name)) × Is VolatileWrite (variable v) (Of a)
    go kind s at_s (writes class name k o is) = (var class name, at_s ∙ ap Some is, (k, o))
    go kind s at_s (unlocks m k o is) = let never : ⊥ = cc in absurd never
    go kind s at_s (starts u k o is) = let never : ⊥ = cc in absurd never
    go kind s at_s (ends k is) = let never : ⊥ = cc in absurd never

-- and a write that is a synchronization action has one
pub write_channelled : (names : List Symbol) (a : Action) (x : Event) (v : Var) → IsEventOf names a x → IsSync a.kind → IsWrite v (Of a) → (c : ℕ) × (write_channel a.kind x ≡ Some c) × (slice_get names c ≡ Some (OfVariable v.class v.name))
write_channelled names a x v event sync (acts.default is) = let never : ⊥ = cc in absurd never
write_channelled names a x v event sync (acts.plain is) = absurd (subst IsSync is.0 sync)
write_channelled names a x v event sync (acts.volatile is) =
    let (c, gives, at_c) = number_of_symbol names (gives_of a) x.gives (OfVariable v.class v.name) event.gives (ap₂ (λ k o. given_by k o a.thread) is.0 is.1) in
    (c, ap (λ (k : Kind). write_channel k x) is.0 ∙ gives, at_c)
