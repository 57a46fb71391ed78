-- The number of one more entry, and of all.
use Rattle.std.proofs.Common.{◌≡◌, ◌<◌, ◌+◌, ◌∙◌, ◌++◌, [], ◌∷◌, ℕ, suc, List, Some, sym, ap, subst, length, get_or, slice_get, arith, length-append}
use Rattle.std.specs.List.{position_or_len}
use Rattle.class_format.specs.declared.record.PoolEntry.{PoolEntry}
use Rattle.class_names.specs.Names.{text_of, text_in, same_text}
use Rattle.class_profile.proofs.Numbers.{AreNumbers, one_more, numbers_texts}
use Rattle.class_profile.proofs.Places.{stands}
use Rattle.class_profile.proofs.name_form.text_numbers.Goals as goal

-- the text of an entry is that of its index
text_there : (pool items : List PoolEntry) (i n : ℕ) (entry : PoolEntry) → items ≡ pool → i < length items → entry ≡ get_or items i entry → n ≡ i + 1 →
    text_in (Some entry) ≡ text_of pool n
text_there pool items i n entry same within is next =
    let there : slice_get pool i ≡ Some entry = subst (λ (es : List PoolEntry). slice_get es i ≡ Some entry) same (stands items i entry within is) in
    let index : suc i ≡ n = omega arith in
    ap text_in (sym there) ∙ ap (text_of pool) index

pub loop-entry-preserved : goal.loop-entry-preserved
loop-entry-preserved c =
    let pool = c.args.pool.now in
    let texts = c.loop-entry.texts in
    let numbers = c.loop-entry.numbers.items in
    let text = c.text_in.result.now in
    let told = c.in_ok-push_number-2.ensures in
    let is : text ≡ text_of pool (length numbers) = c.text_in.ensures ∙ text_there pool c.as_slice-entry-items.result.now c.loop-entry.entry-index (length numbers) c.entry-item.result
    c.as_slice-entry-items.ensures c.loop-entry-test.true c.entry-item.is c.loop-entry.invariant.size in
    record {
      size = ap length told.numbers ∙ omega (arith, length-append numbers (position_or_len (same_text text) texts ∷ []), c.loop-entry.invariant.size);
      numbers = subst (λ (ns : List ℕ). AreNumbers pool c.push_number-in-loop-entry.new.texts ns) (sym told.numbers)
          (subst (λ (ts : List (List ℕ)). AreNumbers pool ts (numbers ++ position_or_len (same_text text) texts ∷ [])) (sym told.texts)
          (one_more pool texts numbers c.loop-entry.invariant.numbers text is));
    }

pub returns-clause-numbers : goal.returns-clause-numbers
returns-clause-numbers c = numbers_texts c.args.pool.now c.loop-entry.texts c.loop-entry.numbers.items c.loop-entry.invariant.numbers
    (omega (arith, c.loop-entry.invariant.size, ap length c.as_slice-entry-items.ensures))
