-- What stands at one place of a method's lists.
use Rattle.std.proofs.Common.{arith, ◌≤◌, ◌≡◌, ◌+◌, ℕ, zero, suc, List, [], ◌∷◌, Some, map, slice_get, refl, sym, ◌∙◌, if◌then◌else◌}
use Rattle.std.proofs.lemmas.Option.{none-some, same_Some}
use Rattle.class_format.specs.declared.record.ClassRecord.{ClassRecord}
use Rattle.class_format.specs.declared.record.PoolEntry.{PoolEntry}
use Rattle.opcodes.specs.declared.listed.Listed.{Listed}
use Rattle.program.specs.declared.method.Operand.{Operand}
use Rattle.program.specs.declared.value_type.TypedState.{TypedState}
use Rattle.resolution.specs.declared.target.Target.{Target}
use Rattle.typing.specs.declared.symbol.Symbol.{Symbol}
use Rattle.untyped_program.specs.Methods.{is_new, symbol_of, symbols_from}
use Rattle.linked_laws.proofs.Made.{made_in, made_more}
use Rattle.linking.specs.Operands.{operand_of, operands_of, top_of}

-- the instruction, its symbol and the typed state where an operand stands
pub record HasOperandAt (items : List Listed) (symbols : List Symbol) (states : List TypedState) (k : ℕ) (o : Operand) : Type 0 where
  pub item : Listed
  pub item_there : slice_get items k ≡ Some item
  pub s : Symbol
  pub s_there : slice_get symbols k ≡ Some s
  pub state : TypedState
  pub state_there : slice_get states k ≡ Some state
  pub is : operand_of item.instr s (top_of state) ≡ o

pub operand_at : (items : List Listed) (symbols : List Symbol) (states : List TypedState) (k : ℕ) (o : Operand) →
    slice_get (operands_of items symbols states) k ≡ Some o → HasOperandAt items symbols states k o
operand_at (item ∷ items) (s ∷ symbols) (state ∷ states) zero o there =
    record { item = item; item_there = refl; s = s; s_there = refl; state = state; state_there = refl; is = same_Some _ o there }
operand_at (item ∷ items) (s ∷ symbols) (state ∷ states) (suc k) o there =
    let rest = operand_at items symbols states k o there in
    record { item = rest.item; item_there = rest.item_there; s = rest.s; s_there = rest.s_there; state = rest.state; state_there = rest.state_there; is = rest.is }
operand_at [] symbols states k o there = absurd (none-some o there)
operand_at (item ∷ items) [] states k o there = absurd (none-some o there)
operand_at (item ∷ items) (s ∷ symbols) [] k o there = absurd (none-some o there)

-- the target of a symbol, and how many threads were made before
pub record HasTargetAt (classes : List ClassRecord) (number : ℕ → ℕ → ℕ) (monitors : List (List ℕ)) (pool : List PoolEntry) (start : ℕ) (targets : List Target) (k : ℕ) (s : Symbol) : Type 0 where
  pub made : ℕ
  pub t : Target
  pub there : slice_get targets k ≡ Some t
  pub is : symbol_of classes number monitors pool made t ≡ Some s
  pub few : made + (if is_new t then 1 else 0) ≤ start + made_in targets

module _ (classes : List ClassRecord) (number : ℕ → ℕ → ℕ) (monitors : List (List ℕ)) (pool : List PoolEntry) where
  pub target_at : (made : ℕ) (symbols : List Symbol) (targets : List Target) (k : ℕ) (s : Symbol) → map Some symbols ≡ symbols_from classes number monitors pool made targets →
      slice_get symbols k ≡ Some s → HasTargetAt classes number monitors pool made targets k s
  target_at made [] targets k s same there = absurd (none-some s there)
  target_at made (x ∷ symbols) [] k s same there = cc
  target_at made (x ∷ symbols) (t ∷ targets) zero s same there =
      let first : Some x ≡ symbol_of classes number monitors pool made t = cc in
      let count = made_more t targets in
      record { made = made; t = t; there = refl; is = sym first ∙ there; few = omega (arith, count) }
  target_at made (x ∷ symbols) (t ∷ targets) (suc k) s same there =
      let tails : map Some symbols ≡ symbols_from classes number monitors pool (made + (if is_new t then 1 else 0)) targets = cc in
      let rest = target_at (made + (if is_new t then 1 else 0)) symbols targets k s tails there in
      let count = made_more t targets in
      let few = rest.few in
      record { made = rest.made; t = rest.t; there = rest.there; is = rest.is; few = omega (arith, few, count) }
