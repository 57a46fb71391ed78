-- How fields and methods are named: the class, a dot, the name, and of a method the descriptor.
use Rattle.std.specs.Prelude.{◌++◌, ℕ, List, [], codes, Option, Some, None, slice_get}
use Rattle.class_format.specs.declared.record.ClassRecord.{ClassRecord}
use Rattle.class_format.specs.declared.record.Member.{Member}
use Rattle.class_names.specs.Names.{Reference, name_of, text_of}
use Rattle.program.specs.declared.method.MethodId.{MethodId}
use Rattle.program_listing.specs.PrintableText.{printable_text}

-- a field: class, dot and name
abbrev pub field_text : List ℕ → List ℕ → List ℕ
field_text class name = printable_text class ++ codes "." ++ printable_text name

-- a method: class, dot, name and descriptor
abbrev pub method_text : Reference → List ℕ
method_text method = printable_text method.class ++ codes "." ++ printable_text method.name ++ printable_text method.descriptor

-- a method that the classes do not have: all its names are empty
abbrev pub no_method : Reference
no_method = record { class = []; name = []; descriptor = [] }

-- a method of a class, as the class spells it
abbrev pub method_of_class : ClassRecord → Option Member → Reference
method_of_class class (Some method) = record {
  class = name_of class;
  name = text_of class.pool method.name;
  descriptor = text_of class.pool method.descriptor;
}
method_of_class class None = no_method

-- the method at a place of a class
abbrev pub method_of : Option ClassRecord → ℕ → Reference
method_of (Some class) place = method_of_class class (slice_get class.methods place)
method_of None place = no_method

-- the method with this id: its class's name, its own name and its descriptor
abbrev pub method_with : List ClassRecord → MethodId → Reference
method_with classes id = method_of (slice_get classes id.class) id.method
