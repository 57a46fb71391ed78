-- Targets that have symbols, and the numbers in them.
use Rattle.std.proofs.Common.{◌≡◌, ◌+◌, ◌++◌, ℕ, cond, List, [], ◌∷◌, Option, Some, IsSome, All, slice_get, refl, ap, ◌∙◌, subst, arith}
use Rattle.std.specs.List.{filter_map}
use Rattle.std.proofs.lemmas.List.Elements.{All-nil, All-cons, All-head, All-tail, All-weaker}
use Rattle.std.proofs.lemmas.Option.{slice_get_within}
use Rattle.class_format.specs.declared.record.ClassRecord.{ClassRecord}
use Rattle.class_format.specs.declared.record.PoolEntry.{PoolEntry}
use Rattle.program.specs.declared.method.MethodId.{MethodId}
use Rattle.reached_methods.specs.declared.method.ReachedMethod.{ReachedMethod}
use Rattle.resolution.specs.declared.target.Target.{Target}
use Rattle.resolution.specs.declared.target.Target.TheVariants as target
use Rattle.typing.specs.declared.symbol.Symbol.{Symbol}
use Rattle.typing.specs.declared.untyped.UntypedMethod.{UntypedMethod}
use Rattle.untyped_program.specs.Known.{IsKnown, HasSymbol, AreNumbered}
use Rattle.untyped_program.specs.Methods.{IsUntypedMethod, is_new, symbol_of, symbols_from}
use Rattle.untyped_program.specs.Monitors.{class_named, names_by, names_in, own_name, monitor_number}
use Rattle.untyped_program.specs.Tables.{HasNumberFor, TellsNumbers, number_in}
use Rattle.untyped_program.specs.Variables.{number_of}

all_right : (P : List ℕ → Type 0) (xs ys : List (List ℕ)) → All P (xs ++ ys) → All P ys
all_right P [] ys all = all
all_right P (x ∷ xs) ys all = all_right P xs ys (All-tail P x (xs ++ ys) all)

module _ (classes : List ClassRecord) where
  module _ (monitors : List (List ℕ)) (pool : List PoolEntry) where
    by_names : (targets : List Target) → AreNumbered monitors (filter_map (class_named pool) targets) → All (IsKnown classes) targets → All (HasSymbol classes monitors pool) targets
    by_names [] numbered known = All-nil (HasSymbol classes monitors pool)
    by_names (target.Class index ∷ targets) numbered known =
        All-cons (HasSymbol classes monitors pool) (target.Class index) targets
        (All-head (λ name. IsSome (monitor_number monitors name)) _ (filter_map (class_named pool) targets) numbered)
        (by_names targets (All-tail (λ name. IsSome (monitor_number monitors name)) _ (filter_map (class_named pool) targets) numbered) (All-tail (IsKnown classes) (target.Class index) targets known))
    by_names (target.Call id ∷ targets) numbered known =
        All-cons (HasSymbol classes monitors pool) (target.Call id) targets (All-head (IsKnown classes) (target.Call id) targets known)
        (by_names targets numbered (All-tail (IsKnown classes) (target.Call id) targets known))
    by_names (t ∷ targets) numbered known =
        All-cons (HasSymbol classes monitors pool) t targets tt (by_names targets numbered (All-tail (IsKnown classes) t targets known))

  pub have_symbols : (monitors : List (List ℕ)) (class : ClassRecord) (m : ReachedMethod) → slice_get classes m.id.class ≡ Some class → AreNumbered monitors (names_by classes m) →
      All (IsKnown classes) m.targets → All (HasSymbol classes monitors class.pool) m.targets
  have_symbols monitors class m there numbered known =
      let named = subst (λ (o : Option ClassRecord). AreNumbered monitors (names_in o m.id.method m.targets)) there numbered in
      by_names monitors class.pool m.targets
      (all_right (λ name. IsSome (monitor_number monitors name)) (own_name class (slice_get class.methods m.id.method)) (filter_map (class_named class.pool) m.targets) named) known

  -- ---- Numbers from the table

  module _ (methods : List ReachedMethod) (numbers : List (List ℕ)) (tells : TellsNumbers classes methods numbers) where
    known_number : (t : Target) → IsKnown classes t → HasNumberFor numbers t
    known_number (target.Field class_at field_at) known =
        let size = tells.size in
        let wide = tells.widths class_at known.class known.class_there in
        let a = slice_get_within classes class_at known.class known.class_there in
        let b = slice_get_within known.class.fields field_at known.field known.field_there in
        (omega (arith, size, a), omega (arith, wide, b))
    known_number t known = tt

    pub known_numbers : (targets : List Target) → All (IsKnown classes) targets → All (HasNumberFor numbers) targets
    known_numbers targets known = All-weaker (IsKnown classes) (HasNumberFor numbers) known_number targets known

    module _ (monitors : List (List ℕ)) (pool : List PoolEntry) where
      same_symbol : (made : ℕ) (t : Target) → IsKnown classes t → symbol_of classes (number_in numbers) monitors pool made t ≡ symbol_of classes (number_of classes methods) monitors pool made t
      same_symbol made (target.Field class_at field_at) known =
          ap (λ (n : ℕ). symbol_of classes (λ c f. n) monitors pool made (target.Field class_at field_at))
          (tells.told class_at field_at known.class known.class_there (slice_get_within known.class.fields field_at known.field known.field_there))
      same_symbol made t known = refl

      same_symbols : (made : ℕ) (targets : List Target) → All (IsKnown classes) targets →
          symbols_from classes (number_in numbers) monitors pool made targets ≡ symbols_from classes (number_of classes methods) monitors pool made targets
      same_symbols made [] known = refl
      same_symbols made (t ∷ targets) known =
          ap (λ (s : Option Symbol). s ∷ symbols_from classes (number_in numbers) monitors pool (made + cond (is_new t) 1 0) targets) (same_symbol made t (All-head (IsKnown classes) t targets known))
          ∙ ap (λ (ss : List (Option Symbol)). symbol_of classes (number_of classes methods) monitors pool made t ∷ ss)
          (same_symbols (made + cond (is_new t) 1 0) targets (All-tail (IsKnown classes) t targets known))

    pub with_numbers : (main : MethodId) (monitors : List (List ℕ)) (m : ReachedMethod) (u : UntypedMethod) → All (IsKnown classes) m.targets →
        IsUntypedMethod classes main (number_in numbers) monitors m u → IsUntypedMethod classes main (number_of classes methods) monitors m u
    with_numbers main monitors m u known is = record {
      class = is.class;
      method = is.method;
      there = is.there;
      body = is.body;
      code = is.code;
      signature = is.signature;
      declared = is.declared;
      id = is.id;
      entry = is.entry;
      frame = is.frame;
      listing = is.listing;
      symbols = is.symbols ∙ same_symbols monitors is.class.pool 0 m.targets known;
    }
