-- Reading a class file from the front, as the functions of the code do: each function here reads one part and says what is
-- left behind it, or where it stops. That reading stops exactly at the first fault of FirstFault, and else ends exactly at
-- texts, are laws (`ReadingStops` and `ReadsTexts` of Laws).
use Rattle.std.specs.Prelude.{ℕ, ◌+◌, ◌-◌, ◌==◌, ◌&&◌, Bool, true, false, not, List, [], ◌∷◌, length, Result, Ok, Err, nat_lt, nat_le, if◌then◌else◌}
use Rattle.class_format.specs.declared.record.PoolEntry.{PoolEntry}
use Rattle.class_format.specs.declared.record.PoolEntry.TheVariants.{Utf8, Integer, Float, Long, Double, Class, Text, Field, Method, InterfaceMethod, NameAndType, Gap}
use Rattle.class_format.specs.declared.record.Handler.{Handler}
use Rattle.class_format.specs.declared.record.Attribute.{Attribute, Code, Other}
use Rattle.class_format.specs.declared.record.CodeBody.{CodeBody}
use Rattle.class_format.specs.declared.record.Member.{Member}
use Rattle.class_format.specs.declared.record.ClassRecord.{ClassRecord}
use Rattle.class_format.specs.Pool.{names_utf8, names_class, names_name_and_type, names_code, takes_two_numbers}
use Rattle.class_format.specs.ClassText.{entry_text, magic, minor_version, major_version, is_code}
use Rattle.class_format.specs.Input.{Input, Fault, wrong_magic, wrong_version, wrong_tag, wrong_index, wrong_attribute, wrong_code_length, trailing, ◌>>=◌, demand, number_from, bytes_from, items_from, table_from, each_from}

-- ---- The pool (JVMS 4.4)

-- the bytes of a text, behind their number
unfoldable pub utf8_from : Input → Result (PoolEntry × Input) Fault
utf8_from i = do
  count ← number_from 2 i
  bytes ← bytes_from count.0 count.1
  Ok (Utf8 bytes.0, bytes.1)

unfoldable pub short_from : (ℕ → PoolEntry) → Input → Result (PoolEntry × Input) Fault
short_from entry i = do
  n ← number_from 2 i
  Ok (entry n.0, n.1)

unfoldable pub word_from : (ℕ → PoolEntry) → Input → Result (PoolEntry × Input) Fault
word_from entry i = do
  n ← number_from 4 i
  Ok (entry n.0, n.1)

unfoldable pub two_shorts_from : (ℕ → ℕ → PoolEntry) → Input → Result (PoolEntry × Input) Fault
two_shorts_from entry i = do
  m ← number_from 2 i
  n ← number_from 2 m.1
  Ok (entry m.0 n.0, n.1)

unfoldable pub two_words_from : (ℕ → ℕ → PoolEntry) → Input → Result (PoolEntry × Input) Fault
two_words_from entry i = do
  m ← number_from 4 i
  n ← number_from 4 m.1
  Ok (entry m.0 n.0, n.1)

-- what a tag may begin where n numbers are left behind it; a long or a double needs one of them
unfoldable pub content_from : ℕ → ℕ → ℕ → Input → Result (PoolEntry × Input) Fault
content_from tag place n i =
    if tag == 1 then utf8_from i
    else if tag == 3 then word_from Integer i
    else if tag == 4 then word_from Float i
    else if tag == 5 && nat_lt 0 n then two_words_from Long i
    else if tag == 6 && nat_lt 0 n then two_words_from Double i
    else if tag == 7 then short_from Class i
    else if tag == 8 then short_from Text i
    else if tag == 9 then two_shorts_from Field i
    else if tag == 10 then two_shorts_from Method i
    else if tag == 11 then two_shorts_from InterfaceMethod i
    else if tag == 12 then two_shorts_from NameAndType i
    else Err (record { kind = wrong_tag; place = place })

unfoldable pub entry_from : ℕ → Input → Result (PoolEntry × Input) Fault
entry_from n i = do
  tag ← number_from 1 i
  content_from tag.0 i.place n tag.1

-- the entry of the next number: a gap behind an entry that takes two numbers
abbrev pub numbered_from : Bool → ℕ → Input → Result (PoolEntry × Input) Fault
numbered_from wide n i = if wide then Ok (Gap, i) else entry_from n i

abbrev pub pool_from : ℕ → Input → Result (List PoolEntry × Input) Fault
pool_from n i = items_from numbered_from (λ entry wide. takes_two_numbers entry) false n i

-- the indices of an entry that begins at a place, in their order
abbrev pub check_entry : List PoolEntry → PoolEntry → ℕ → Result (Unit {0}) Fault
check_entry pool (Utf8 bytes) place = Ok tt
check_entry pool (Integer bits) place = Ok tt
check_entry pool (Float bits) place = Ok tt
check_entry pool (Long high low) place = Ok tt
check_entry pool (Double high low) place = Ok tt
check_entry pool (Class name) place = demand (names_utf8 pool name) wrong_index (place + 1)
check_entry pool (Text text) place = demand (names_utf8 pool text) wrong_index (place + 1)
check_entry pool (Field class name_and_type) place =
    demand (names_class pool class) wrong_index (place + 1) >>= λ _. demand (names_name_and_type pool name_and_type) wrong_index (place + 3)
check_entry pool (Method class name_and_type) place =
    demand (names_class pool class) wrong_index (place + 1) >>= λ _. demand (names_name_and_type pool name_and_type) wrong_index (place + 3)
check_entry pool (InterfaceMethod class name_and_type) place =
    demand (names_class pool class) wrong_index (place + 1) >>= λ _. demand (names_name_and_type pool name_and_type) wrong_index (place + 3)
check_entry pool (NameAndType name descriptor) place =
    demand (names_utf8 pool name) wrong_index (place + 1) >>= λ _. demand (names_utf8 pool descriptor) wrong_index (place + 3)
check_entry pool Gap place = Ok tt

-- the indices of the entries that begin at a place, one entry after the other
unfoldable pub check_entries : List PoolEntry → List PoolEntry → ℕ → Result (Unit {0}) Fault
check_entries pool [] place = Ok tt
check_entries pool (entry ∷ entries) place = do
  _ ← check_entry pool entry place
  check_entries pool entries (place + length (entry_text entry))

-- an index of two bytes that names an entry as it has to
unfoldable pub index_from : (List PoolEntry → ℕ → Bool) → List PoolEntry → Input → Result (ℕ × Input) Fault
index_from names pool i = do
  index ← number_from 2 i
  _ ← demand (names pool index.0) wrong_index i.place
  Ok index

-- ---- Attributes (JVMS 4.7)

unfoldable pub handler_from : Input → Result (Handler × Input) Fault
handler_from i = do
  start ← number_from 2 i
  end ← number_from 2 start.1
  target ← number_from 2 end.1
  catch ← number_from 2 target.1
  Ok (record { start = start.0; end = end.0; target = target.0; catch = catch.0 }, catch.1)

-- the content of an attribute that is kept as bytes
unfoldable pub other_from : ℕ → ℕ → Input → Result (Attribute × Input) Fault
other_from name count i = do
  bytes ← bytes_from count i
  Ok (Other name bytes.0, bytes.1)

-- an attribute inside a Code attribute
unfoldable pub inner_from : List PoolEntry → Input → Result (Attribute × Input) Fault
inner_from pool i = do
  name ← index_from names_utf8 pool i
  count ← number_from 4 name.1
  other_from name.0 count.0 count.1

-- the instructions, 1 to 65535 bytes, behind their number
unfoldable pub instructions_from : Input → Result (List ℕ × Input) Fault
instructions_from i = do
  count ← number_from 4 i
  _ ← demand (nat_lt 0 count.0 && nat_le count.0 65535) wrong_code_length i.place
  bytes_from count.0 count.1

-- the parts of a Code attribute (JVMS 4.7.3)
unfoldable pub body_from : List PoolEntry → ℕ → Input → Result (CodeBody × Input) Fault
body_from pool name i = do
  max_stack ← number_from 2 i
  max_locals ← number_from 2 max_stack.1
  code ← instructions_from max_locals.1
  handlers ← each_from handler_from code.1
  attributes ← each_from (inner_from pool) handlers.1
  Ok (record { name = name; max_stack = max_stack.0; max_locals = max_locals.0; code = code.0; handlers = handlers.0; attributes = attributes.0 }, attributes.1)

-- a Code attribute behind its length, which stands at a place, where one is allowed. Its length is judged last
unfoldable pub code_from : List PoolEntry → Bool → ℕ → ℕ → ℕ → Input → Result (Attribute × Input) Fault
code_from pool allowed name place count i = do
  _ ← demand allowed wrong_attribute place
  body ← body_from pool name i
  _ ← demand (body.1.place == i.place + count) wrong_attribute place
  Ok (Code body.0, body.1)

-- an attribute of a class, a field or a method
unfoldable pub attribute_from : List PoolEntry → Bool → Input → Result (Attribute × Input) Fault
attribute_from pool allowed i = do
  name ← index_from names_utf8 pool i
  count ← number_from 4 name.1
  if names_code pool name.0 then code_from pool allowed name.0 name.1.place count.0 count.1 else other_from name.0 count.0 count.1

-- a table of attributes, of which one may be a Code attribute where that is allowed
abbrev pub attributes_from : List PoolEntry → Bool → Input → Result (List Attribute × Input) Fault
attributes_from pool allowed i = table_from (λ allowed n. attribute_from pool allowed) (λ attribute allowed. allowed && not (is_code attribute)) allowed i

-- ---- The class file (JVMS 4.1)

-- a field, or where Code attributes are allowed a method
unfoldable pub member_from : List PoolEntry → Bool → Input → Result (Member × Input) Fault
member_from pool allowed i = do
  flags ← number_from 2 i
  name ← index_from names_utf8 pool flags.1
  descriptor ← index_from names_utf8 pool name.1
  attributes ← attributes_from pool allowed descriptor.1
  Ok (record { flags = flags.0; name = name.0; descriptor = descriptor.0; attributes = attributes.0 }, attributes.1)

-- the magic number, the version and the pool's count
unfoldable pub header_from : Input → Result (ℕ × Input) Fault
header_from i = do
  first ← number_from 4 i
  _ ← demand (first.0 == magic) wrong_magic i.place
  minor ← number_from 2 first.1
  major ← number_from 2 minor.1
  _ ← demand (minor.0 == minor_version && major.0 == major_version) wrong_version first.1.place
  count ← number_from 2 major.1
  _ ← demand (nat_lt 0 count.0) wrong_index major.1.place
  Ok count

-- the pool, and then the indices in it
unfoldable pub checked_pool_from : ℕ → Input → Result (List PoolEntry × Input) Fault
checked_pool_from n i = do
  entries ← pool_from n i
  _ ← check_entries entries.0 entries.0 i.place
  Ok entries

-- the access flags, the class and its superclass
unfoldable pub names_from : List PoolEntry → Input → Result ((ℕ × ℕ × ℕ) × Input) Fault
names_from pool i = do
  flags ← number_from 2 i
  this ← index_from names_class pool flags.1
  parent ← index_from names_class pool this.1
  Ok ((flags.0, this.0, parent.0), parent.1)

-- what stands behind the pool
unfoldable pub body_of_class_from : List PoolEntry → Input → Result (ClassRecord × Input) Fault
body_of_class_from pool i = do
  names ← names_from pool i
  interfaces ← each_from (index_from names_class pool) names.1
  fields ← each_from (member_from pool false) interfaces.1
  methods ← each_from (member_from pool true) fields.1
  attributes ← attributes_from pool false methods.1
  Ok (record { pool = pool; flags = names.0.0; this = names.0.1; parent = names.0.2; interfaces = interfaces.0; fields = fields.0; methods = methods.0; attributes = attributes.0 }, attributes.1)

-- a whole class file
unfoldable pub class_from : List ℕ → Result ClassRecord Fault
class_from bytes = do
  count ← header_from (record { place = 0; bytes = bytes })
  pool ← checked_pool_from (count.0 - 1) count.1
  class ← body_of_class_from pool.0 pool.1
  _ ← demand (length class.1.bytes == 0) trailing class.1.place
  Ok class.0
