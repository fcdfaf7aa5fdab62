-- Class files by hand, for worked runs and attempts: of each there is what the rules look up in it. And the built-in
-- classes, with the members that are named there. Their bytes are never read.
use Rattle.std.specs.Prelude.{◌≡◌, refl, ℕ, ◌+◌, ◌++◌, List, [], ◌∷◌, length, map, Option, Some, None, codes, unwrap_or}
use Rattle.std.specs.Option.{option_map_or}
use Rattle.const_pool.specs.declared.class.Attribute.{Attribute}
use Rattle.const_pool.specs.declared.class.Attribute.TheVariants.{Code, ConstantValue}
use Rattle.const_pool.specs.declared.class.ClassFile.{ClassFile}
use Rattle.const_pool.specs.declared.class.Member.{Member}
use Rattle.const_pool.specs.declared.pool.Const.{Const}
use Rattle.const_pool.specs.declared.pool.Const.TheVariants as const
use Rattle.const_pool.specs.BuiltIn.{built_in_names}
use Rattle.const_pool.specs.References.{NameAndType}
use Prim.Native.String.{String}

-- ---- what is given by hand

-- a field or a method: its flags, its name and descriptor, and its attributes
pub record Item : Type 0 where
  pub access : ℕ
  pub member : NameAndType
  pub attributes : List Attribute

-- A class: its flags, its name, its superclass's, its interfaces', and its members. Constants have the indices of the
-- pool from 5 on.
pub record Shape : Type 0 where
  pub access : ℕ
  pub name : List ℕ
  pub above : Option (List ℕ)
  pub interfaces : List (List ℕ)
  pub constants : List Const
  pub fields : List Item
  pub methods : List Item

-- ---- its class file

-- the names and descriptors of members stand in the pool behind the class and its superclass
abbrev pub texts_of : List NameAndType → List Const
texts_of [] = []
texts_of (m ∷ more) = const.Utf8 m.name ∷ const.Utf8 m.descriptor ∷ texts_of more

abbrev pub after_texts : ℕ → List NameAndType → ℕ
after_texts at [] = at
after_texts at (m ∷ more) = after_texts (at + 2) more

-- its interfaces stand behind those
abbrev pub interface_entries : ℕ → List (List ℕ) → List Const
interface_entries at [] = []
interface_entries at (name ∷ more) = const.Class (at + 1) ∷ const.Utf8 name ∷ interface_entries (at + 2) more

abbrev pub interface_indices : ℕ → List (List ℕ) → List ℕ
interface_indices at [] = []
interface_indices at (name ∷ more) = at ∷ interface_indices (at + 2) more

abbrev pub members_of : List Item → List NameAndType
members_of items = map (λ (i : Item). i.member) items

abbrev pub items_from : ℕ → List Item → List Member
items_from at [] = []
items_from at (i ∷ more) = record { access = i.access; name = at; descriptor = at + 1; attributes = i.attributes } ∷ items_from (at + 2) more

abbrev pub first_field : Shape → ℕ
first_field s = 5 + length s.constants

abbrev pub first_method : Shape → ℕ
first_method s = after_texts (first_field s) (members_of s.fields)

abbrev pub first_interface : Shape → ℕ
first_interface s = after_texts (first_method s) (members_of s.methods)

abbrev pub pool_by : Shape → List Const
pool_by s =
    const.Gap ∷ const.Class 2 ∷ const.Utf8 s.name ∷ const.Class 4 ∷ const.Utf8 (unwrap_or s.above []) ∷ (
    s.constants ++ (texts_of (members_of s.fields) ++ (texts_of (members_of s.methods) ++ interface_entries (first_interface s) s.interfaces)))

abbrev pub file_of : Shape → ClassFile
file_of s = record {
  minor = 0;
  major = 50;
  pool = pool_by s;
  access = s.access;
  this_class = 1;
  super_class = option_map_or (λ above. 3) s.above 0;
  interfaces = interface_indices (first_interface s) s.interfaces;
  fields = items_from (first_field s) s.fields;
  methods = items_from (first_method s) s.methods;
  attributes = [];
}

-- ---- classes, fields and methods

abbrev pub member : List ℕ → List ℕ → NameAndType
member name descriptor = record { name = name; descriptor = descriptor }

abbrev pub item : ℕ → List ℕ → List ℕ → Item
item access name descriptor = record { access = access; member = member name descriptor; attributes = [] }

-- a method that has Code
abbrev pub coded : ℕ → List ℕ → List ℕ → Item
coded access name descriptor = record (item access name descriptor) {
  attributes = Code 0 (record { max_stack = 0; max_locals = 9; code = []; handlers = []; attributes = [] }) ∷ [];
}

-- a static field with the constant at this index
abbrev pub constant : List ℕ → List ℕ → ℕ → Item
constant name descriptor index = record (item 8 name descriptor) { attributes = ConstantValue 0 index ∷ [] }

abbrev pub object_name : List ℕ
object_name = codes "java/lang/Object"

abbrev pub class : List ℕ → List ℕ → List (List ℕ) → Shape
class name above interfaces = record { access = 33; name = name; above = Some above; interfaces = interfaces; constants = []; fields = []; methods = [] }

abbrev pub interface : List ℕ → List (List ℕ) → Shape
interface name interfaces = record (class name object_name interfaces) { access = 1537 }

abbrev pub with_fields : List Item → Shape → Shape
with_fields fields s = record s { fields = fields }

abbrev pub with_methods : List Item → Shape → Shape
with_methods methods s = record s { methods = methods }

-- ---- the built-in classes

-- without parameters, and native
abbrev pub plain_init : Item
plain_init = item 257 (codes "<init>") (codes "()V")

abbrev below : String → String → Shape
below name above = class (codes name) (codes above) []

abbrev system_field : String → String → Item
system_field name descriptor = item 9 (codes name) (codes descriptor)

abbrev pub library : List Shape
library = with_methods (plain_init ∷ item 257 (codes "hashCode") (codes "()I") ∷ [])
    (record (class object_name [] []) { above = None })
    ∷ interface (codes "java/lang/Cloneable") []
    ∷ interface (codes "java/io/Serializable") []
    ∷ interface (codes "java/lang/Comparable") []
    ∷ with_methods (item 1025 (codes "run") (codes "()V") ∷ []) (interface (codes "java/lang/Runnable") [])
    ∷ interface (codes "java/lang/CharSequence") []
    ∷ below "java/lang/Class" "java/lang/Object"
    ∷ with_methods (plain_init ∷ []) (below "java/lang/String" "java/lang/Object")
    ∷ below "java/lang/StringBuilder" "java/lang/Object"
    ∷ below "java/lang/StringBuffer" "java/lang/Object"
    ∷ below "java/io/InputStream" "java/lang/Object"
    ∷ with_methods (item 257 (codes "println") (codes "(I)V") ∷ item 257 (codes "flush") (codes "()V") ∷ []) (below "java/io/PrintStream" "java/lang/Object")
    ∷ with_fields (system_field "in" "Ljava/io/InputStream;" ∷ system_field "out" "Ljava/io/PrintStream;" ∷ system_field "err" "Ljava/io/PrintStream;" ∷ [])
    (below "java/lang/System" "java/lang/Object")
    ∷ below "java/lang/Number" "java/lang/Object"
    ∷ below "java/lang/Integer" "java/lang/Number"
    ∷ below "java/lang/Long" "java/lang/Number"
    ∷ below "java/lang/Character" "java/lang/Object"
    ∷ below "java/lang/Boolean" "java/lang/Object"
    ∷ below "java/lang/Math" "java/lang/Object"
    ∷ below "java/lang/Enum" "java/lang/Object"
    ∷ with_methods (plain_init ∷ [])
    (with_fields (item 2 (codes "message") (codes "Ljava/lang/String;") ∷ item 2 (codes "cause") (codes "Ljava/lang/Throwable;") ∷ [])
    (class (codes "java/lang/Throwable") object_name (codes "java/io/Serializable" ∷ [])))
    ∷ below "java/lang/Exception" "java/lang/Throwable"
    ∷ with_methods (plain_init ∷ []) (below "java/lang/Error" "java/lang/Throwable")
    ∷ below "java/lang/RuntimeException" "java/lang/Exception"
    ∷ below "java/lang/CloneNotSupportedException" "java/lang/Exception"
    ∷ below "java/lang/ClassNotFoundException" "java/lang/Exception"
    ∷ below "java/io/IOException" "java/lang/Exception"
    ∷ below "java/lang/ArithmeticException" "java/lang/RuntimeException"
    ∷ below "java/lang/ArrayStoreException" "java/lang/RuntimeException"
    ∷ below "java/lang/ClassCastException" "java/lang/RuntimeException"
    ∷ below "java/lang/IllegalArgumentException" "java/lang/RuntimeException"
    ∷ below "java/lang/IllegalStateException" "java/lang/RuntimeException"
    ∷ below "java/lang/IndexOutOfBoundsException" "java/lang/RuntimeException"
    ∷ below "java/lang/NegativeArraySizeException" "java/lang/RuntimeException"
    ∷ below "java/lang/NullPointerException" "java/lang/RuntimeException"
    ∷ below "java/lang/UnsupportedOperationException" "java/lang/RuntimeException"
    ∷ below "java/lang/NumberFormatException" "java/lang/IllegalArgumentException"
    ∷ below "java/lang/ArrayIndexOutOfBoundsException" "java/lang/IndexOutOfBoundsException"
    ∷ below "java/lang/StringIndexOutOfBoundsException" "java/lang/IndexOutOfBoundsException"
    ∷ below "java/lang/AssertionError" "java/lang/Error"
    ∷ below "java/lang/LinkageError" "java/lang/Error"
    ∷ below "java/lang/VirtualMachineError" "java/lang/Error"
    ∷ below "java/lang/NoClassDefFoundError" "java/lang/LinkageError"
    ∷ below "java/lang/ExceptionInInitializerError" "java/lang/LinkageError"
    ∷ below "java/lang/IncompatibleClassChangeError" "java/lang/LinkageError"
    ∷ below "java/lang/ClassCircularityError" "java/lang/LinkageError"
    ∷ below "java/lang/UnsatisfiedLinkError" "java/lang/LinkageError"
    ∷ below "java/lang/AbstractMethodError" "java/lang/IncompatibleClassChangeError"
    ∷ below "java/lang/InstantiationError" "java/lang/IncompatibleClassChangeError"
    ∷ below "java/lang/NoSuchFieldError" "java/lang/IncompatibleClassChangeError"
    ∷ below "java/lang/NoSuchMethodError" "java/lang/IncompatibleClassChangeError"
    ∷ below "java/lang/OutOfMemoryError" "java/lang/VirtualMachineError"
    ∷ below "java/lang/StackOverflowError" "java/lang/VirtualMachineError" ∷ []

-- all of them, in their order
pub library-names : map (λ (s : Shape). s.name) library ≡ built_in_names
library-names = refl

abbrev pub library_files : List ClassFile
library_files = map file_of library
