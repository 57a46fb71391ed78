-- Members and class files: what is read is spelled so and is valid, and what is valid and spelled so is read.
use Rattle.std.proofs.Common.{◌≡◌, ℕ, zero, suc, ◌+◌, ◌-◌, ◌<◌, ◌≤◌, Bool, true, false, cond, eqb, ltb, List, [], ◌∷◌, ◌++◌, length, Result, Ok, Err, refl, sym, ap, subst, ◌∙◌, append_assoc, arith, ◌↔◌, inl, inr}
use Rattle.std.specs.Prelude.{◌&&◌, not, IsTrue, count_by, IfOk}
use Rattle.std.specs.List.{flat_map, AllByRecursion}
use Rattle.std.proofs.lemmas.Bool.{eqb-true, ltb-true, lt-ltb}
use Rattle.std.proofs.lemmas.Bool.Decides.{eqb_tells}
use Rattle.std.proofs.lemmas.List.Sums.{sum_by-cons}
use Rattle.std.proofs.lemmas.List.{append-nil, nil_from_length}
use Rattle.class_format.specs.declared.record.PoolEntry.{PoolEntry}
use Rattle.class_format.specs.declared.record.Attribute.{Attribute, out-Attribute}
use Rattle.class_format.specs.declared.record.Attribute.TheOpen.{Attribute-F}
use Rattle.class_format.specs.declared.record.Attribute.TheOpen as opened
use Rattle.class_format.specs.declared.record.CodeBody.{CodeBody}
use Rattle.class_format.specs.declared.record.Member.{Member}
use Rattle.class_format.specs.declared.record.ClassRecord.{ClassRecord}
use Rattle.class_format.specs.Pool.{names_utf8, names_class}
use Rattle.class_format.specs.ClassText.{u2, u4, AreBytes, IsU2, table, magic, minor_version, major_version, entry_text, attribute_text, member_text, class_text, IsPlainOpen, IsPlain, IsOfMethodOpen, IsOfMethod, is_code_open, is_code, IsMember, IsField, IsMethod, NamesClass, IsValid, ClassText}
use Rattle.class_format.specs.declared.refusal.FormatRefusal.{FormatRefusal}
use Rattle.class_format.specs.Input.{Input, Fault, Gives, ◌>>=◌, demand, wrong_magic, wrong_version, wrong_index, trailing}
use Rattle.class_format.specs.Reading.{index_from, attribute_from, attributes_from, member_from, header_from, names_from, body_of_class_from, class_from}
use Rattle.class_format.proofs.Fields.{IsBytes, Spells, Spells-then, Spells-split, Reads, steps, bind_ok, demanded, ok_is, u2_reads, u4_reads}
use Rattle.class_format.proofs.Items.{Facts, table_reads, each_reads}
use Rattle.class_format.proofs.Entries.{are_bytes, and_both}
use Rattle.class_format.proofs.Parts.{index_reads}
use Rattle.class_format.proofs.PoolTexts.{IsCheckedPool, checked_pool_reads}
use Rattle.class_format.proofs.Attributes.{IsAllowedOpen, IsAllowed, attribute_reads}

-- ---- A table of attributes

abbrev AttributeFacts : List PoolEntry → Bool → ℕ → List Attribute → Type 0
AttributeFacts pool = Facts (λ allowed n. attribute_from pool allowed) (λ attribute allowed. allowed && not (is_code attribute)) attribute_text (λ allowed n. IsAllowed pool allowed)

pub plain_open : (pool : List PoolEntry) (o : Attribute-F Attribute CodeBody) → IsAllowedOpen pool false o → IsPlainOpen pool o
plain_open pool (opened.Code body) h = absurd (let e = h.0 in cc)
plain_open pool (opened.Other name content) h = h

pub of_plain_open : (pool : List PoolEntry) (o : Attribute-F Attribute CodeBody) → IsPlainOpen pool o → IsAllowedOpen pool false o
of_plain_open pool (opened.Code body) h = absurd h
of_plain_open pool (opened.Other name content) h = h

plain_from_facts : (pool : List PoolEntry) (n : ℕ) (xs : List Attribute) → AttributeFacts pool false n xs → AllByRecursion (IsPlain pool) xs
plain_from_facts pool zero [] h = tt
plain_from_facts pool zero (x ∷ xs) h = absurd h
plain_from_facts pool (suc n) [] h = absurd h
plain_from_facts pool (suc n) (x ∷ xs) h = (plain_open pool (out-Attribute x) h.0, plain_from_facts pool n xs h.1)

facts_of_plain : (pool : List PoolEntry) (xs : List Attribute) → AllByRecursion (IsPlain pool) xs → AttributeFacts pool false (length xs) xs
facts_of_plain pool [] h = tt
facts_of_plain pool (x ∷ xs) h = (of_plain_open pool (out-Attribute x) h.0, facts_of_plain pool xs h.1)

-- how many Code attributes have been
abbrev pub used : Bool → ℕ
used true = 0
used false = 1

abbrev pub one_if : Bool → ℕ
one_if b = cond b 1 0

pub of_method_open : (pool : List PoolEntry) (allowed : Bool) (o : Attribute-F Attribute CodeBody) → IsAllowedOpen pool allowed o → IsOfMethodOpen pool o × (used (allowed && not (is_code_open o)) ≡ used allowed + one_if (is_code_open o))
of_method_open pool true (opened.Code body) h = (h.1, omega arith)
of_method_open pool false (opened.Code body) h = absurd (let e = h.0 in cc)
of_method_open pool true (opened.Other name content) h = (h, omega arith)
of_method_open pool false (opened.Other name content) h = (h, omega arith)

pub allowed_open : (pool : List PoolEntry) (allowed : Bool) (o : Attribute-F Attribute CodeBody) → IsOfMethodOpen pool o → used allowed + one_if (is_code_open o) ≤ 1 → IsAllowedOpen pool allowed o
allowed_open pool true (opened.Code body) h le = (refl, h)
allowed_open pool false (opened.Code body) h le = absurd (omega arith)
allowed_open pool true (opened.Other name content) h le = h
allowed_open pool false (opened.Other name content) h le = h

pub count_cons : (x : Attribute) (xs : List Attribute) → count_by is_code (x ∷ xs) ≡ one_if (is_code x) + count_by is_code xs
count_cons x xs = sum_by-cons (λ y. one_if (is_code y)) x xs

method_from_facts : (pool : List PoolEntry) (allowed : Bool) (n : ℕ) (xs : List Attribute) → AttributeFacts pool allowed n xs → AllByRecursion (IsOfMethod pool) xs × (used allowed + count_by is_code xs ≤ 1)
method_from_facts pool true zero [] h = (tt, omega arith)
method_from_facts pool false zero [] h = (tt, omega arith)
method_from_facts pool allowed zero (x ∷ xs) h = absurd h
method_from_facts pool allowed (suc n) [] h = absurd h
method_from_facts pool allowed (suc n) (x ∷ xs) h =
    let one = of_method_open pool allowed (out-Attribute x) h.0 in
    let more = method_from_facts pool (allowed && not (is_code x)) n xs h.1 in
    let c = count_cons x xs in
    ((one.0, more.0), omega (arith, one.1, more.1, c))

facts_of_method : (pool : List PoolEntry) (allowed : Bool) (xs : List Attribute) → AllByRecursion (IsOfMethod pool) xs → used allowed + count_by is_code xs ≤ 1 → AttributeFacts pool allowed (length xs) xs
facts_of_method pool allowed [] h le = tt
facts_of_method pool allowed (x ∷ xs) h le =
    let c = count_cons x xs in
    let one = allowed_open pool allowed (out-Attribute x) h.0 (omega (arith, c)) in
    let u = (of_method_open pool allowed (out-Attribute x) one).1 in
    (one, facts_of_method pool (allowed && not (is_code x)) xs h.1 (omega (arith, c, u)))

attributes_read : (pool : List PoolEntry) (allowed : Bool) → Reads (attributes_from pool allowed) (table attribute_text) (λ xs. IsU2 (length xs) × AttributeFacts pool allowed (length xs) xs)
attributes_read pool allowed = table_reads (λ allowed n. attribute_from pool allowed) (λ attribute allowed. allowed && not (is_code attribute)) attribute_text (λ allowed n. IsAllowed pool allowed) (λ allowed n. attribute_reads pool allowed) allowed

pub plain_reads : (pool : List PoolEntry) → Reads (attributes_from pool false) (table attribute_text) (λ xs. IsU2 (length xs) × AllByRecursion (IsPlain pool) xs)
plain_reads pool =
    let r = attributes_read pool false in
    record {
      takes = λ i xs j bytes e. let t = r.takes i xs j bytes e in (t.0, t.1, (t.2.0, plain_from_facts pool (length xs) xs t.2.1));
      again = λ i xs j s h. r.again i xs j s (h.0, facts_of_plain pool xs h.1);
    }

-- ---- Members

-- what is read of a member, whatever its attributes
record IsMemberWith (pool : List PoolEntry) (allowed : Bool) (m : Member) : Type 0 where
  flags : IsU2 m.flags
  name : IsU2 m.name × IsTrue (names_utf8 pool m.name)
  descriptor : IsU2 m.descriptor × IsTrue (names_utf8 pool m.descriptor)
  attributes : IsU2 (length m.attributes) × AttributeFacts pool allowed (length m.attributes) m.attributes

member_takes : (pool : List PoolEntry) (allowed : Bool) (i : Input) (x : Member) (j : Input) → IsBytes i.bytes → member_from pool allowed i ≡ Ok (x, j) → Spells i (member_text x) j × IsBytes j.bytes × IsMemberWith pool allowed x
unfolding member_from
member_takes pool allowed i x j bytes e =
    let a = steps u2_reads _ i (x, j) bytes e in
    let b = steps (index_reads names_utf8 pool) _ a.rest (x, j) a.bytes a.goes in
    let c = steps (index_reads names_utf8 pool) _ b.rest (x, j) b.bytes b.goes in
    let d = steps (attributes_read pool allowed) _ c.rest (x, j) c.bytes c.goes in
    let made : Member = record { flags = a.item; name = b.item; descriptor = c.item; attributes = d.item } in
    let ab = Spells-then i a.rest b.rest (u2 a.item) (u2 b.item) a.spells b.spells in
    let abc = Spells-then i b.rest c.rest (u2 a.item ++ u2 b.item) (u2 c.item) ab c.spells in
    let whole = Spells-then i c.rest d.rest (u2 a.item ++ u2 b.item ++ u2 c.item) (table attribute_text d.item) abc d.spells in
    subst (λ (y : Member × Input). Spells i (member_text y.0) y.1 × IsBytes y.1.bytes × IsMemberWith pool allowed y.0) (ok_is (made, d.rest) (x, j) d.goes)
    (whole, d.bytes, record { flags = a.fits; name = b.fits; descriptor = c.fits; attributes = d.fits })

member_again : (pool : List PoolEntry) (allowed : Bool) (i : Input) (x : Member) (j : Input) → Spells i (member_text x) j → IsMemberWith pool allowed x → member_from pool allowed i ≡ Ok (x, j)
unfolding member_from
member_again pool allowed i x j s h =
    let c = Spells-split i j (u2 x.flags ++ u2 x.name ++ u2 x.descriptor) (table attribute_text x.attributes) s in
    let b = Spells-split i c.middle (u2 x.flags ++ u2 x.name) (u2 x.descriptor) c.first in
    let a = Spells-split i b.middle (u2 x.flags) (u2 x.name) b.first in
    rw (
      u2_reads.again i x.flags a.middle a.first h.flags,
      (index_reads names_utf8 pool).again a.middle x.name b.middle a.second h.name,
      (index_reads names_utf8 pool).again b.middle x.descriptor c.middle b.second h.descriptor,
      (attributes_read pool allowed).again c.middle x.attributes j c.second h.attributes,
    ) refl

member_is : (pool : List PoolEntry) (allowed : Bool) (m : Member) → IsMemberWith pool allowed m → IsMember pool m
member_is pool allowed m h = record { flags = h.flags; name_fits = h.name.0; name = h.name.1; descriptor_fits = h.descriptor.0; descriptor = h.descriptor.1; attribute_count = h.attributes.0 }

pub field_reads : (pool : List PoolEntry) → Reads (member_from pool false) member_text (IsField pool)
field_reads pool = record {
  takes = λ i x j bytes e.
      let t = member_takes pool false i x j bytes e in
      (t.0, t.1, record { member = member_is pool false x t.2; attributes = plain_from_facts pool (length x.attributes) x.attributes t.2.attributes.1 });
  again = λ i x j s h. member_again pool false i x j s (record {
    flags = h.member.flags;
    name = (h.member.name_fits, h.member.name);
    descriptor = (h.member.descriptor_fits, h.member.descriptor);
    attributes = (h.member.attribute_count, facts_of_plain pool x.attributes h.attributes);
  });
}

pub method_reads : (pool : List PoolEntry) → Reads (member_from pool true) member_text (IsMethod pool)
method_reads pool = record {
  takes = λ i x j bytes e.
      let t = member_takes pool true i x j bytes e in
      let m = method_from_facts pool true (length x.attributes) x.attributes t.2.attributes.1 in
      (t.0, t.1, record { member = member_is pool true x t.2; attributes = m.0; one_code = omega (arith, m.1) });
  again = λ i x j s h. member_again pool true i x j s (record {
    flags = h.member.flags;
    name = (h.member.name_fits, h.member.name);
    descriptor = (h.member.descriptor_fits, h.member.descriptor);
    attributes = (h.member.attribute_count, facts_of_method pool true x.attributes h.attributes (omega (arith, h.one_code)));
  });
}

-- ---- The class file

-- the front of a class file, up to the pool's count
abbrev pub header_text : ℕ → List ℕ
header_text count = u4 magic ++ u2 minor_version ++ u2 major_version ++ u2 count

header_takes : (i : Input) (x : ℕ) (j : Input) → IsBytes i.bytes → header_from i ≡ Ok (x, j) → Spells i (header_text x) j × IsBytes j.bytes × (IsU2 x × (0 < x))
unfolding header_from
header_takes i x j bytes e =
    let a = steps u4_reads _ i (x, j) bytes e in
    let m = demanded (eqb a.item magic) wrong_magic i.place _ (x, j) a.goes in
    let b = steps u2_reads _ a.rest (x, j) a.bytes m.1 in
    let c = steps u2_reads _ b.rest (x, j) b.bytes b.goes in
    let v = demanded (eqb b.item minor_version && eqb c.item major_version) wrong_version a.rest.place _ (x, j) c.goes in
    let w = and_both _ _ v.0 in
    let d = steps u2_reads _ c.rest (x, j) c.bytes v.1 in
    let n = demanded (ltb 0 d.item) wrong_index c.rest.place _ (x, j) d.goes in
    let first : Spells i (u4 magic) a.rest = subst (λ (n : ℕ). Spells i (u4 n) a.rest) (eqb-true _ _ m.0) a.spells in
    let second : Spells a.rest (u2 minor_version) b.rest = subst (λ (n : ℕ). Spells a.rest (u2 n) b.rest) (eqb-true _ _ w.0) b.spells in
    let third : Spells b.rest (u2 major_version) c.rest = subst (λ (n : ℕ). Spells b.rest (u2 n) c.rest) (eqb-true _ _ w.1) c.spells in
    let ab = Spells-then i a.rest b.rest (u4 magic) (u2 minor_version) first second in
    let abc = Spells-then i b.rest c.rest (u4 magic ++ u2 minor_version) (u2 major_version) ab third in
    let whole = Spells-then i c.rest d.rest (u4 magic ++ u2 minor_version ++ u2 major_version) (u2 d.item) abc d.spells in
    subst (λ (y : ℕ × Input). Spells i (header_text y.0) y.1 × IsBytes y.1.bytes × (IsU2 y.0 × (0 < y.0))) (ok_is (d.item, d.rest) (x, j) n.1) (whole, d.bytes, (d.fits, ltb-true _ _ n.0))

header_again : (i : Input) (x : ℕ) (j : Input) → Spells i (header_text x) j → IsU2 x × (0 < x) → header_from i ≡ Ok (x, j)
unfolding header_from
header_again i x j s h =
    let c = Spells-split i j (u4 magic ++ u2 minor_version ++ u2 major_version) (u2 x) s in
    let b = Spells-split i c.middle (u4 magic ++ u2 minor_version) (u2 major_version) c.first in
    let a = Spells-split i b.middle (u4 magic) (u2 minor_version) b.first in
    rw (
      u4_reads.again i magic a.middle a.first (omega arith),
      u2_reads.again a.middle minor_version b.middle a.second (omega arith),
      u2_reads.again b.middle major_version c.middle b.second (omega arith),
      u2_reads.again c.middle x j c.second h.0,
      lt-ltb 0 x h.1,
    ) refl

pub header_reads : Reads header_from header_text (λ count. IsU2 count × (0 < count))
header_reads = record { takes = header_takes; again = header_again }

-- the flags and the two names
abbrev pub names_text : ℕ × ℕ × ℕ → List ℕ
names_text n = u2 n.0 ++ u2 n.1 ++ u2 n.2

abbrev pub AreNames : List PoolEntry → ℕ × ℕ × ℕ → Type 0
AreNames pool n = IsU2 n.0 × NamesClass pool n.1 × NamesClass pool n.2

pub names_reads : (pool : List PoolEntry) → Reads (names_from pool) names_text (AreNames pool)
unfolding names_from
names_reads pool = record {
  takes = λ i x j bytes e.
      let a = steps u2_reads _ i (x, j) bytes e in
      let b = steps (index_reads names_class pool) _ a.rest (x, j) a.bytes a.goes in
      let c = steps (index_reads names_class pool) _ b.rest (x, j) b.bytes b.goes in
      let ab = Spells-then i a.rest b.rest (u2 a.item) (u2 b.item) a.spells b.spells in
      let whole = Spells-then i b.rest c.rest (u2 a.item ++ u2 b.item) (u2 c.item) ab c.spells in
      subst (λ (y : (ℕ × ℕ × ℕ) × Input). Spells i (names_text y.0) y.1 × IsBytes y.1.bytes × AreNames pool y.0) (ok_is ((a.item, b.item, c.item), c.rest) (x, j) c.goes) (whole, c.bytes, (a.fits, b.fits, c.fits));
  again = λ i x j s h.
      let b = Spells-split i j (u2 x.0 ++ u2 x.1) (u2 x.2) s in
      let a = Spells-split i b.middle (u2 x.0) (u2 x.1) b.first in
      rw (
        u2_reads.again i x.0 a.middle a.first h.0,
        (index_reads names_class pool).again a.middle x.1 b.middle a.second h.1,
        (index_reads names_class pool).again b.middle x.2 j b.second h.2,
      ) refl;
}

-- what stands behind the pool
abbrev pub rest_text : ClassRecord → List ℕ
rest_text r = names_text (r.flags, r.this, r.parent) ++ table u2 r.interfaces ++ table member_text r.fields ++ table member_text r.methods ++ table attribute_text r.attributes

pub record IsRest (pool : List PoolEntry) (r : ClassRecord) : Type 0 where
  pub pool_is : r.pool ≡ pool
  pub names : AreNames pool (r.flags, r.this, r.parent)
  pub interfaces : IsU2 (length r.interfaces) × AllByRecursion (NamesClass pool) r.interfaces
  pub fields : IsU2 (length r.fields) × AllByRecursion (IsField pool) r.fields
  pub methods : IsU2 (length r.methods) × AllByRecursion (IsMethod pool) r.methods
  pub attributes : IsU2 (length r.attributes) × AllByRecursion (IsPlain pool) r.attributes

pub rest_takes : (pool : List PoolEntry) (i : Input) (x : ClassRecord) (j : Input) → IsBytes i.bytes → body_of_class_from pool i ≡ Ok (x, j) → Spells i (rest_text x) j × IsBytes j.bytes × IsRest pool x
unfolding body_of_class_from
rest_takes pool i x j bytes e =
    let a = steps (names_reads pool) _ i (x, j) bytes e in
    let b = steps (each_reads (index_from names_class pool) u2 (NamesClass pool) (index_reads names_class pool)) _ a.rest (x, j) a.bytes a.goes in
    let c = steps (each_reads (member_from pool false) member_text (IsField pool) (field_reads pool)) _ b.rest (x, j) b.bytes b.goes in
    let d = steps (each_reads (member_from pool true) member_text (IsMethod pool) (method_reads pool)) _ c.rest (x, j) c.bytes c.goes in
    let f = steps (plain_reads pool) _ d.rest (x, j) d.bytes d.goes in
    let made : ClassRecord = record { pool = pool; flags = a.item.0; this = a.item.1; parent = a.item.2; interfaces = b.item; fields = c.item; methods = d.item; attributes = f.item } in
    let ab = Spells-then i a.rest b.rest (names_text a.item) (table u2 b.item) a.spells b.spells in
    let abc = Spells-then i b.rest c.rest (names_text a.item ++ table u2 b.item) (table member_text c.item) ab c.spells in
    let abcd = Spells-then i c.rest d.rest (names_text a.item ++ table u2 b.item ++ table member_text c.item) (table member_text d.item) abc d.spells in
    let whole = Spells-then i d.rest f.rest (names_text a.item ++ table u2 b.item ++ table member_text c.item ++ table member_text d.item) (table attribute_text f.item) abcd f.spells in
    subst (λ (y : ClassRecord × Input). Spells i (rest_text y.0) y.1 × IsBytes y.1.bytes × IsRest pool y.0) (ok_is (made, f.rest) (x, j) f.goes)
    (whole, f.bytes, record { pool_is = refl; names = a.fits; interfaces = b.fits; fields = c.fits; methods = d.fits; attributes = f.fits })

pub rest_again : (i : Input) (x : ClassRecord) (j : Input) → Spells i (rest_text x) j → IsRest x.pool x → body_of_class_from x.pool i ≡ Ok (x, j)
unfolding body_of_class_from
rest_again i x j s h =
    let pool = x.pool in
    let names = names_text (x.flags, x.this, x.parent) in
    let f = Spells-split i j (names ++ table u2 x.interfaces ++ table member_text x.fields ++ table member_text x.methods) (table attribute_text x.attributes) s in
    let d = Spells-split i f.middle (names ++ table u2 x.interfaces ++ table member_text x.fields) (table member_text x.methods) f.first in
    let c = Spells-split i d.middle (names ++ table u2 x.interfaces) (table member_text x.fields) d.first in
    let b = Spells-split i c.middle names (table u2 x.interfaces) c.first in
    rw (
      (names_reads pool).again i (x.flags, x.this, x.parent) b.middle b.first h.names,
      (each_reads (index_from names_class pool) u2 (NamesClass pool) (index_reads names_class pool)).again b.middle x.interfaces c.middle b.second h.interfaces,
      (each_reads (member_from pool false) member_text (IsField pool) (field_reads pool)).again c.middle x.fields d.middle c.second h.fields,
      (each_reads (member_from pool true) member_text (IsMethod pool) (method_reads pool)).again d.middle x.methods f.middle d.second h.methods,
      (plain_reads pool).again f.middle x.attributes j f.second h.attributes,
    ) refl

-- the text of a class, by its three parts
abbrev parted_text : ClassRecord → List ℕ
parted_text r = header_text (length r.pool + 1) ++ (flat_map entry_text r.pool ++ rest_text r)

parted_is : (r : ClassRecord) → class_text r ≡ parted_text r
parted_is r = simp append_assoc

abbrev pub start : List ℕ → Input
start bytes = record { place = 0; bytes = bytes }

pub valid_of : (r : ClassRecord) (count : ℕ) → IsU2 count × (0 < count) → IsCheckedPool (count - 1) r.pool → IsRest r.pool r → IsValid r
valid_of r count c p h = record {
  pool = record { count = omega (arith, p.pool_of.count, c.0, c.1); fields = p.pool_of.fields; gaps = p.pool_of.gaps; names = p.names };
  flags = h.names.0;
  this = h.names.1;
  parent = h.names.2;
  interface_count = h.interfaces.0;
  interfaces = h.interfaces.1;
  field_count = h.fields.0;
  fields = h.fields.1;
  method_count = h.methods.0;
  methods = h.methods.1;
  attribute_count = h.attributes.0;
  attributes = h.attributes.1;
}

-- what was read up to j is the text of a valid record
pub record Stands (bytes : List ℕ) (made : ClassRecord) (j : Input) : Type 0 where
  pub valid : IsValid made
  pub text : bytes ≡ class_text made ++ j.bytes
  pub place : j.place ≡ length (class_text made)

pub class_stands : (bytes : List ℕ) (count : ℕ) (m : Input) (pool : List PoolEntry) (n : Input) (made : ClassRecord) (j : Input)
    → Spells (start bytes) (header_text count) m → IsU2 count × (0 < count) → Spells m (flat_map entry_text pool) n → IsCheckedPool (count - 1) pool → Spells n (rest_text made) j → IsRest pool made
    → Stands bytes made j
class_stands bytes count m pool n made j a count_fits b p c h =
    let count_is : count ≡ length made.pool + 1 = rw h.pool_is (omega (arith, p.pool_of.count, count_fits.1)) in
    let pooled : Spells m (flat_map entry_text made.pool) n = rw h.pool_is b in
    let counted : Spells (start bytes) (header_text (length made.pool + 1)) m = rw (← count_is) a in
    let behind = Spells-then m n j (flat_map entry_text made.pool) (rest_text made) pooled c in
    let all = Spells-then (start bytes) m j (header_text (length made.pool + 1)) (flat_map entry_text made.pool ++ rest_text made) counted behind in
    let whole : Spells (start bytes) (class_text made) j = subst (λ (t : List ℕ). Spells (start bytes) t j) (sym (parted_is made)) all in
    record { valid = valid_of made count count_fits (rw h.pool_is p) (subst (λ (q : List PoolEntry). IsRest q made) (sym h.pool_is) h); text = whole.bytes; place = omega (arith, whole.place) }

class_is : (bytes : List ℕ) (r made : ClassRecord) (j : Input) → Stands bytes made j → j.bytes ≡ [] → made ≡ r → ClassText r bytes
class_is bytes r made j h none is =
    let whole : bytes ≡ class_text made = h.text ∙ ap (λ (t : List ℕ). class_text made ++ t) none ∙ append-nil (class_text made) in
    subst (λ (q : ClassRecord). ClassText q bytes) is (record { valid = h.valid; text = whole })

pub class_takes : (bytes : List ℕ) (r : ClassRecord) → IsBytes bytes → class_from bytes ≡ Ok r → ClassText r bytes
unfolding class_from
class_takes bytes r fits e =
    let a = steps header_reads _ (start bytes) r fits e in
    let b = steps (checked_pool_reads (a.item - 1)) _ a.rest r a.bytes a.goes in
    let c = bind_ok (body_of_class_from b.item b.rest) _ r b.goes in
    let t = rest_takes b.item b.rest c.0.0 c.0.1 b.bytes c.1 in
    let d = demanded (eqb (length c.0.1.bytes) 0) trailing c.0.1.place _ r c.2 in
    class_is bytes r c.0.0 c.0.1 (class_stands bytes a.item a.rest b.item b.rest c.0.0 c.0.1 a.spells a.fits b.spells b.fits t.0 t.2) (nil_from_length c.0.1.bytes (eqb-true _ _ d.0)) (ok_is c.0.0 r d.1)

-- a text and what follows it
read_to : (bytes : List ℕ) (r : ClassRecord) (more : List ℕ) → IsValid r → bytes ≡ class_text r ++ more
    → class_from bytes ≡ (demand (eqb (length more) 0) trailing (length (class_text r)) >>= λ _. Ok r)
unfolding class_from
read_to bytes r more v is =
    let end : Input = record { place = length (class_text r); bytes = more } in
    let all : Spells (start bytes) (class_text r) end = record { bytes = is; place = omega arith } in
    let parts : Spells (start bytes) (parted_text r) end = subst (λ (t : List ℕ). Spells (start bytes) t end) (parted_is r) all in
    let a = Spells-split (start bytes) end (header_text (length r.pool + 1)) (flat_map entry_text r.pool ++ rest_text r) parts in
    let b = Spells-split a.middle end (flat_map entry_text r.pool) (rest_text r) a.second in
    let n : length r.pool + 1 - 1 ≡ length r.pool = omega arith in
    let pool : IsCheckedPool (length r.pool + 1 - 1) r.pool = record { pool_of = record { count = sym n; gaps = v.pool.gaps; fields = v.pool.fields }; names = v.pool.names } in
    let rest : IsRest r.pool r = record { pool_is = refl; names = (v.flags, v.this, v.parent); interfaces = (v.interface_count, v.interfaces); fields = (v.field_count, v.fields); methods = (v.method_count, v.methods); attributes = (v.attribute_count, v.attributes) } in
    rw (
      header_reads.again (start bytes) (length r.pool + 1) a.middle a.first (v.pool.count, omega arith),
      (checked_pool_reads (length r.pool + 1 - 1)).again a.middle r.pool b.middle b.first pool,
      rest_again b.middle r end b.second rest,
    ) refl

pub class_again : (bytes : List ℕ) (r : ClassRecord) → ClassText r bytes → class_from bytes ≡ Ok r
class_again bytes r t = read_to bytes r [] t.valid (t.text ∙ sym (append-nil (class_text r)))

pub bytes_behind : (r : ClassRecord) (text more : List ℕ) → ClassText r text → 0 < length more → class_from (text ++ more) ≡ Err (record { kind = trailing; place = length text })
bytes_behind r text more t some =
    let some_left : eqb (length more) 0 ≡ false = some_is (length more) some in
    read_to (text ++ more) r more t.valid (ap (λ (u : List ℕ). u ++ more) t.text) ∙ rw (some_left, t.text) refl
  where
    some_is : (n : ℕ) → 0 < n → eqb n 0 ≡ false
    some_is n lt = elim (eqb_tells n 0) [ inl p ↦ absurd (omega (arith, p.1)) | inr p ↦ p.0 ]

-- ---- The answers of the reader, and the laws

pub found : (bytes : List ℕ) (r : Result ClassRecord FormatRefusal) → IsBytes bytes → Gives (λ class. class) r (class_from bytes) → IfOk r (λ class. ClassText class bytes)
found bytes (Ok class) fits given = class_takes bytes class fits given
found bytes (Err e) fits given = tt

pub only : (bytes : List ℕ) (r : Result ClassRecord FormatRefusal) (class : ClassRecord) → ClassText class bytes → Gives (λ read. read) r (class_from bytes) → Gives (λ read. read) r (Ok class)
only bytes r class text given = subst (λ (read : Result ClassRecord Fault). Gives (λ (c : ClassRecord). c) r read) (class_again bytes class text) given

pub one_record : (r s : ClassRecord) (bytes : List ℕ) → ClassText r bytes → ClassText s bytes → r ≡ s
one_record r s bytes t u = ok_is r s (sym (class_again bytes r t) ∙ class_again bytes s u)

pub reads_texts : (r : ClassRecord) (bytes : List ℕ) → AreBytes bytes → (class_from bytes ≡ Ok r) ↔ ClassText r bytes
reads_texts r bytes all = (class_takes bytes r (are_bytes bytes all), class_again bytes r)
