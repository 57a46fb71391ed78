-- Attributes: what is read is spelled so and is valid, and what is valid and spelled so is read.
use Rattle.std.proofs.Common.{◌≡◌, ℕ, ◌+◌, ◌<◌, ◌≤◌, Bool, true, false, eqb, ltb, leb, List, ◌++◌, length, Ok, refl, sym, ap, subst, ◌∙◌, append_assoc, arith, inl, inr, Option, Some, None}
use Rattle.std.specs.Prelude.{◌&&◌, IsTrue}
use Rattle.std.proofs.lemmas.Bool.{eqb-true, eq-eqb, ltb-true, lt-ltb, leb-true, le-leb}
use Rattle.class_format.specs.declared.record.PoolEntry.{PoolEntry}
use Rattle.class_format.specs.declared.record.Attribute.{Attribute, Code, Other, out-Attribute, roll-Attribute, roll-out-Attribute, out-roll-Attribute}
use Rattle.class_format.specs.declared.record.Attribute.TheOpen.{Attribute-F}
use Rattle.class_format.specs.declared.record.Attribute.TheOpen as opened
use Rattle.class_format.specs.declared.record.CodeBody.{CodeBody}
use Rattle.class_format.specs.declared.record.PoolEntry.TheVariants.{Utf8, Integer, Float, Long, Double, Class, Text, Field, Method, InterfaceMethod, NameAndType, Gap}
use Rattle.class_format.specs.Pool.{entry_at, is_utf8, is_code_name, names_utf8, names_code}
use Rattle.class_format.specs.ClassText.{u2, u4, IsU2, IsU4, AreBytes, table, other_text, inner_of, inner_text, handler_text, code_text, attribute_of, attribute_text, IsHandler, IsOther, IsInnerOpen, IsInner, IsCode}
use Rattle.class_format.specs.Input.{Input, wrong_attribute, wrong_code_length}
use Rattle.class_format.specs.FirstFault.{AreInstructions, IsBody}
use Rattle.class_format.specs.Reading.{handler_from, other_from, inner_from, instructions_from, body_from, code_from, attribute_from}
use Rattle.class_format.proofs.Fields.{IsBytes, Spells, Spells-then, Spells-split, Reads, steps, demanded, ok_is, u2_reads, u4_reads, bytes_read}
use Rattle.class_format.proofs.Items.{each_reads}
use Rattle.class_format.proofs.Entries.{all_bytes, are_bytes, chosen, and_both}
use Rattle.class_format.proofs.Opened.{roll_other, roll_code, out_other}
use Rattle.class_format.proofs.Parts.{handler_reads, index_reads}

-- ---- Attributes inside a Code attribute

-- an attribute that was kept as bytes
record Kept (name count : ℕ) (i : Input) (x : Attribute) (j : Input) : Type 0 where
  content : List ℕ
  is : Other name content ≡ x
  count_is : length content ≡ count
  spells : Spells i content j
  bytes : IsBytes j.bytes
  are : AreBytes content

other_takes : (name count : ℕ) (i : Input) (x : Attribute) (j : Input) → IsBytes i.bytes → other_from name count i ≡ Ok (x, j) → Kept name count i x j
unfolding other_from
other_takes name count i x j bytes e =
    let a = steps (bytes_read count) _ i (x, j) bytes e in
    let p = ok_is (Other name a.item, a.rest) (x, j) a.goes in
    let left : a.rest ≡ j = ap (λ (y : Attribute × Input). y.1) p in
    record { content = a.item; is = ap (λ (y : Attribute × Input). y.0) p; count_is = a.fits.0; spells = subst (λ (m : Input). Spells i a.item m) left a.spells; bytes = subst (λ (m : Input). IsBytes m.bytes) left a.bytes; are = all_bytes a.item a.fits.1 }

other_again : (name : ℕ) (content : List ℕ) (i j : Input) → AreBytes content → Spells i content j → other_from name (length content) i ≡ Ok (Other name content, j)
unfolding other_from
other_again name content i j all s = rw ((bytes_read (length content)).again i content j s (refl, are_bytes content all)) refl

inner_takes : (pool : List PoolEntry) (i : Input) (x : Attribute) (j : Input) → IsBytes i.bytes → inner_from pool i ≡ Ok (x, j) → Spells i (inner_text x) j × IsBytes j.bytes × IsInner pool x
unfolding inner_from
inner_takes pool i x j bytes e =
    let a = steps (index_reads names_utf8 pool) _ i (x, j) bytes e in
    let b = steps u4_reads _ a.rest (x, j) a.bytes a.goes in
    let k = other_takes a.item b.item b.rest x j b.bytes b.goes in
    let fits : IsOther pool a.item k.content = record { name_fits = a.fits.0; names = a.fits.1; length_fits = rw k.count_is b.fits; are_bytes = k.are } in
    let whole : Spells i (other_text a.item k.content) j = rw k.count_is (Spells-then i b.rest j (u2 a.item ++ u4 b.item) k.content (Spells-then i a.rest b.rest (u2 a.item) (u4 b.item) a.spells b.spells) k.spells) in
    let o = out_other a.item k.content in
    let text : Spells i (inner_text (Other a.item k.content)) j = subst (λ (f : Attribute-F Attribute CodeBody). Spells i (inner_of f) j) (sym o) whole in
    let known : IsInner pool (Other a.item k.content) = subst (λ (f : Attribute-F Attribute CodeBody). IsInnerOpen pool f) (sym o) fits in
    subst (λ (y : Attribute). Spells i (inner_text y) j × IsBytes j.bytes × IsInner pool y) k.is (text, k.bytes, known)

inner_open : (pool : List PoolEntry) (i : Input) (o : Attribute-F Attribute CodeBody) (j : Input) → Spells i (inner_of o) j → IsInnerOpen pool o → inner_from pool i ≡ Ok (roll-Attribute o, j)
unfolding inner_from
inner_open pool i (opened.Code body) j s h = absurd h
inner_open pool i (opened.Other name content) j s h =
    let b = Spells-split i j (u2 name ++ u4 (length content)) content s in
    let a = Spells-split i b.middle (u2 name) (u4 (length content)) b.first in
    rw (roll_other, (index_reads names_utf8 pool).again i name a.middle a.first (h.name_fits, h.names), u4_reads.again a.middle (length content) b.middle a.second h.length_fits) (other_again name content b.middle j h.are_bytes b.second)

pub inner_reads : (pool : List PoolEntry) → Reads (inner_from pool) inner_text (IsInner pool)
inner_reads pool = record {
  takes = inner_takes pool;
  again = λ i x j s h. inner_open pool i (out-Attribute x) j s h ∙ ap (λ (y : Attribute). Ok (y, j)) (roll-out-Attribute x);
}

-- ---- The body of a Code attribute

abbrev pub instructions_text : List ℕ → List ℕ
instructions_text code = u4 (length code) ++ code

pub instructions_reads : Reads instructions_from instructions_text AreInstructions
unfolding instructions_from
instructions_reads = record {
  takes = λ i x j bytes e.
      let a = steps u4_reads _ i (x, j) bytes e in
      let b = demanded (ltb 0 a.item && leb a.item 65535) wrong_code_length i.place _ (x, j) a.goes in
      let t = and_both _ _ b.0 in
      let c = (bytes_read a.item).takes a.rest x j a.bytes b.1 in
      let len = c.2.0 in
      let some : 0 < length x = rw len (ltb-true _ _ t.0) in
      let most : length x ≤ 65535 = rw len (leb-true _ _ t.1) in
      let whole : Spells i (u4 (length x) ++ x) j = rw len (Spells-then i a.rest j (u4 a.item) x a.spells c.0) in
      (whole, c.1, record { some = some; most = most; are = all_bytes x c.2.1 });
  again = λ i x j s h.
      let a = Spells-split i j (u4 (length x)) x s in
      let fits : IsU4 (length x) = omega (arith, h.most) in
      rw (u4_reads.again i (length x) a.middle a.first fits, lt-ltb 0 (length x) h.some, le-leb (length x) 65535 h.most) ((bytes_read (length x)).again a.middle x j a.second (refl, are_bytes x h.are));
}

-- the text of a body, its number of instructions with the instructions
abbrev parted_text : CodeBody → List ℕ
parted_text body = u2 body.max_stack ++ u2 body.max_locals ++ instructions_text body.code ++ table handler_text body.handlers ++ table inner_text body.attributes

parted_is : (body : CodeBody) → code_text body ≡ parted_text body
parted_is body =
    ap (λ (t : List ℕ). t ++ table handler_text body.handlers ++ table inner_text body.attributes) (append_assoc (u2 body.max_stack ++ u2 body.max_locals) (u4 (length body.code)) body.code)

body_takes : (pool : List PoolEntry) (name : ℕ) (i : Input) (x : CodeBody) (j : Input) → IsBytes i.bytes → body_from pool name i ≡ Ok (x, j) → Spells i (parted_text x) j × IsBytes j.bytes × IsBody pool name x
unfolding body_from
body_takes pool name i x j bytes e =
    let a = steps u2_reads _ i (x, j) bytes e in
    let b = steps u2_reads _ a.rest (x, j) a.bytes a.goes in
    let c = steps instructions_reads _ b.rest (x, j) b.bytes b.goes in
    let d = steps (each_reads handler_from handler_text IsHandler handler_reads) _ c.rest (x, j) c.bytes c.goes in
    let f = steps (each_reads (inner_from pool) inner_text (IsInner pool) (inner_reads pool)) _ d.rest (x, j) d.bytes d.goes in
    let made : CodeBody = record { name = name; max_stack = a.item; max_locals = b.item; code = c.item; handlers = d.item; attributes = f.item } in
    let ab = Spells-then i a.rest b.rest (u2 a.item) (u2 b.item) a.spells b.spells in
    let abc = Spells-then i b.rest c.rest (u2 a.item ++ u2 b.item) (instructions_text c.item) ab c.spells in
    let abcd = Spells-then i c.rest d.rest (u2 a.item ++ u2 b.item ++ instructions_text c.item) (table handler_text d.item) abc d.spells in
    let whole = Spells-then i d.rest f.rest (u2 a.item ++ u2 b.item ++ instructions_text c.item ++ table handler_text d.item) (table inner_text f.item) abcd f.spells in
    subst (λ (y : CodeBody × Input). Spells i (parted_text y.0) y.1 × IsBytes y.1.bytes × IsBody pool name y.0) (ok_is (made, f.rest) (x, j) f.goes)
    (whole, f.bytes, record { named = refl; max_stack = a.fits; max_locals = b.fits; code = c.fits; handlers = d.fits; attributes = f.fits })

body_again : (pool : List PoolEntry) (name : ℕ) (i : Input) (x : CodeBody) (j : Input) → Spells i (parted_text x) j → IsBody pool name x → body_from pool name i ≡ Ok (x, j)
unfolding body_from
body_again pool name i x j s h =
    let f = Spells-split i j (u2 x.max_stack ++ u2 x.max_locals ++ instructions_text x.code ++ table handler_text x.handlers) (table inner_text x.attributes) s in
    let d = Spells-split i f.middle (u2 x.max_stack ++ u2 x.max_locals ++ instructions_text x.code) (table handler_text x.handlers) f.first in
    let c = Spells-split i d.middle (u2 x.max_stack ++ u2 x.max_locals) (instructions_text x.code) d.first in
    let a = Spells-split i c.middle (u2 x.max_stack) (u2 x.max_locals) c.first in
    rw (
      u2_reads.again i x.max_stack a.middle a.first h.max_stack,
      u2_reads.again a.middle x.max_locals c.middle a.second h.max_locals,
      instructions_reads.again c.middle x.code d.middle c.second h.code,
      (each_reads handler_from handler_text IsHandler handler_reads).again d.middle x.handlers f.middle d.second h.handlers,
      (each_reads (inner_from pool) inner_text (IsInner pool) (inner_reads pool)).again f.middle x.attributes j f.second h.attributes,
      ← h.named,
    ) refl

pub body_reads : (pool : List PoolEntry) (name : ℕ) → Reads (body_from pool name) code_text (IsBody pool name)
body_reads pool name = record {
  takes = λ i x j bytes e. let t = body_takes pool name i x j bytes e in (rw parted_is t.0, t.1, t.2);
  again = λ i x j s h. body_again pool name i x j (rw (← parted_is x) s) h;
}

-- ---- Attributes of classes, fields and methods

-- what is known of an attribute where a Code attribute is allowed or not
abbrev pub IsAllowedOpen : List PoolEntry → Bool → Attribute-F Attribute CodeBody → Type 0
IsAllowedOpen pool allowed (opened.Code body) = IsTrue allowed × IsCode pool body
IsAllowedOpen pool allowed (opened.Other name content) = IsOther pool name content × (names_code pool name ≡ false)

abbrev pub IsAllowed : List PoolEntry → Bool → Attribute → Type 0
IsAllowed pool allowed attribute = IsAllowedOpen pool allowed (out-Attribute attribute)

-- a text "Code" is a text
pub code_is_utf8 : (pool : List PoolEntry) (name : ℕ) → names_code pool name ≡ true → IsTrue (names_utf8 pool name)
code_is_utf8 pool name e = entry_code (entry_at pool name) e
  where
    entry_code : (entry : Option PoolEntry) → is_code_name entry ≡ true → IsTrue (is_utf8 entry)
    entry_code None f = absurd cc
    entry_code (Some (Utf8 b)) f = refl
    entry_code (Some (Integer b)) f = absurd cc
    entry_code (Some (Float b)) f = absurd cc
    entry_code (Some (Long b c)) f = absurd cc
    entry_code (Some (Double b c)) f = absurd cc
    entry_code (Some (Class b)) f = absurd cc
    entry_code (Some (Text b)) f = absurd cc
    entry_code (Some (Field b c)) f = absurd cc
    entry_code (Some (Method b c)) f = absurd cc
    entry_code (Some (InterfaceMethod b c)) f = absurd cc
    entry_code (Some (NameAndType b c)) f = absurd cc
    entry_code (Some Gap) f = absurd cc

-- a Code attribute behind its length
record IsCodeOf (pool : List PoolEntry) (allowed : Bool) (name count : ℕ) (i : Input) (x : Attribute) (j : Input) : Type 0 where
  body : CodeBody
  is : Code body ≡ x
  allows : IsTrue allowed
  count_is : length (code_text body) ≡ count
  spells : Spells i (code_text body) j
  bytes : IsBytes j.bytes
  fits : IsBody pool name body

code_takes : (pool : List PoolEntry) (allowed : Bool) (name place count : ℕ) (i : Input) (x : Attribute) (j : Input) → IsBytes i.bytes → code_from pool allowed name place count i ≡ Ok (x, j) → IsCodeOf pool allowed name count i x j
unfolding code_from
code_takes pool allowed name place count i x j bytes e =
    let a = demanded allowed wrong_attribute place _ (x, j) e in
    let b = steps (body_reads pool name) _ i (x, j) bytes a.1 in
    let c = demanded (eqb b.rest.place (i.place + count)) wrong_attribute place _ (x, j) b.goes in
    let p = ok_is (Code b.item, b.rest) (x, j) c.1 in
    let left : b.rest ≡ j = ap (λ (y : Attribute × Input). y.1) p in
    let end : b.rest.place ≡ i.place + count = eqb-true _ _ c.0 in
    record {
      body = b.item;
      is = ap (λ (y : Attribute × Input). y.0) p;
      allows = a.0;
      count_is = omega (arith, end, b.spells.place);
      spells = subst (λ (m : Input). Spells i (code_text b.item) m) left b.spells;
      bytes = subst (λ (m : Input). IsBytes m.bytes) left b.bytes;
      fits = b.fits;
    }

code_again : (pool : List PoolEntry) (name place : ℕ) (body : CodeBody) (i j : Input) → Spells i (code_text body) j → IsBody pool name body → code_from pool true name place (length (code_text body)) i ≡ Ok (Code body, j)
unfolding code_from
code_again pool name place body i j s h =
    rw ((body_reads pool name).again i body j s h, eq-eqb j.place (i.place + length (code_text body)) s.place) refl

code_fits : (pool : List PoolEntry) (name : ℕ) (body : CodeBody) → IsU2 name → names_code pool name ≡ true → IsBody pool name body → IsU4 (length (code_text body)) → IsCode pool body
code_fits pool name body fits named h len = record {
  name_fits = rw h.named fits;
  name = rw h.named named;
  max_stack = h.max_stack;
  max_locals = h.max_locals;
  some_code = h.code.some;
  code_length = h.code.most;
  code = h.code.are;
  handler_count = h.handlers.0;
  handlers = h.handlers.1;
  attribute_count = h.attributes.0;
  attributes = h.attributes.1;
  length_fits = len;
}

body_of_code : (pool : List PoolEntry) (body : CodeBody) → IsCode pool body → IsBody pool body.name body
body_of_code pool body h = record {
  named = refl;
  max_stack = h.max_stack;
  max_locals = h.max_locals;
  code = record { some = h.some_code; most = h.code_length; are = h.code };
  handlers = (h.handler_count, h.handlers);
  attributes = (h.attribute_count, h.attributes);
}

-- an attribute by its opened level
allowed_is : (pool : List PoolEntry) (allowed : Bool) (i j : Input) (x : Attribute) (o : Attribute-F Attribute CodeBody) → roll-Attribute o ≡ x → Spells i (attribute_of o) j → IsBytes j.bytes → IsAllowedOpen pool allowed o
    → Spells i (attribute_text x) j × IsBytes j.bytes × IsAllowed pool allowed x
allowed_is pool allowed i j x o is s bytes h =
    let out : o ≡ out-Attribute x = sym (out-roll-Attribute o) ∙ ap out-Attribute is in
    (subst (λ (f : Attribute-F Attribute CodeBody). Spells i (attribute_of f) j) out s, bytes, subst (λ (f : Attribute-F Attribute CodeBody). IsAllowedOpen pool allowed f) out h)

attribute_takes : (pool : List PoolEntry) (allowed : Bool) (i : Input) (x : Attribute) (j : Input) → IsBytes i.bytes → attribute_from pool allowed i ≡ Ok (x, j) → Spells i (attribute_text x) j × IsBytes j.bytes × IsAllowed pool allowed x
unfolding attribute_from
attribute_takes pool allowed i x j bytes e =
    let a = steps (index_reads names_utf8 pool) _ i (x, j) bytes e in
    let b = steps u4_reads _ a.rest (x, j) a.bytes a.goes in
    let heading = Spells-then i a.rest b.rest (u2 a.item) (u4 b.item) a.spells b.spells in
    elim (chosen (names_code pool a.item) _ _ _ b.goes) [
      | inl t ↦
          let k = code_takes pool allowed a.item a.rest.place b.item b.rest x j b.bytes t.1 in
          let fits = code_fits pool a.item k.body a.fits.0 t.0 k.fits (rw k.count_is b.fits) in
          let whole : Spells i (u2 a.item ++ u4 b.item ++ code_text k.body) j = Spells-then i b.rest j (u2 a.item ++ u4 b.item) (code_text k.body) heading k.spells in
          let named : Spells i (other_text k.body.name (code_text k.body)) j = rw (k.count_is, k.fits.named) whole in
          allowed_is pool allowed i j x (opened.Code k.body) (roll_code k.body ∙ k.is) named k.bytes (k.allows, fits)
      | inr t ↦
          let k = other_takes a.item b.item b.rest x j b.bytes t.1 in
          let fits : IsOther pool a.item k.content = record { name_fits = a.fits.0; names = a.fits.1; length_fits = rw k.count_is b.fits; are_bytes = k.are } in
          let whole : Spells i (other_text a.item k.content) j = rw k.count_is (Spells-then i b.rest j (u2 a.item ++ u4 b.item) k.content heading k.spells) in
          allowed_is pool allowed i j x (opened.Other a.item k.content) (roll_other a.item k.content ∙ k.is) whole k.bytes (fits, t.0)
    ]

attribute_open : (pool : List PoolEntry) (allowed : Bool) (i : Input) (o : Attribute-F Attribute CodeBody) (j : Input) → Spells i (attribute_of o) j → IsAllowedOpen pool allowed o → attribute_from pool allowed i ≡ Ok (roll-Attribute o, j)
unfolding attribute_from
attribute_open pool allowed i (opened.Code body) j s h =
    let b = Spells-split i j (u2 body.name ++ u4 (length (code_text body))) (code_text body) s in
    let a = Spells-split i b.middle (u2 body.name) (u4 (length (code_text body))) b.first in
    rw (roll_code, (index_reads names_utf8 pool).again i body.name a.middle a.first (h.1.name_fits, code_is_utf8 pool body.name h.1.name), u4_reads.again a.middle (length (code_text body)) b.middle a.second h.1.length_fits, h.1.name, h.0)
    (code_again pool body.name a.middle.place body b.middle j b.second (body_of_code pool body h.1))
attribute_open pool allowed i (opened.Other name content) j s h =
    let b = Spells-split i j (u2 name ++ u4 (length content)) content s in
    let a = Spells-split i b.middle (u2 name) (u4 (length content)) b.first in
    rw (roll_other, (index_reads names_utf8 pool).again i name a.middle a.first (h.0.name_fits, h.0.names), u4_reads.again a.middle (length content) b.middle a.second h.0.length_fits, h.1) (other_again name content b.middle j h.0.are_bytes b.second)

pub attribute_reads : (pool : List PoolEntry) (allowed : Bool) → Reads (attribute_from pool allowed) attribute_text (IsAllowed pool allowed)
attribute_reads pool allowed = record {
  takes = attribute_takes pool allowed;
  again = λ i x j s h. attribute_open pool allowed i (out-Attribute x) j s h ∙ ap (λ (y : Attribute). Ok (y, j)) (roll-out-Attribute x);
}
