-- Looking up classes and methods of a program by their names and numbers (JVM Specification 4.1, 4.6, 5.4.3).
use Rattle.std.specs.Prelude.{ℕ, ◌+◌, Bool, false, List, [], ◌∷◌, ◌++◌, Option, Some, None, is_some, position, slice_get, codes, ◌==◌, ◌&&◌, if◌then◌else◌}
use Rattle.std.specs.List.{list_any}
use Rattle.std.specs.Option.{option_and_then, option_map_or}
use Rattle.const_pool.specs.declared.class.ClassFile.{ClassFile}
use Rattle.const_pool.specs.declared.class.Member.{Member}
use Rattle.const_pool.specs.declared.class.CodeAttribute.{CodeAttribute}
use Rattle.const_pool.specs.declared.descriptor.Kind.{Kind}
use Rattle.const_pool.specs.BuiltIn.{built_in_names}
use Rattle.const_pool.specs.References.{NameAndType, named_class}
use Rattle.jvm_model.specs.Basis.Data.{MethodPlace, Program, World}
use Rattle.jvm_model.specs.Basis.Descriptors.{same_text}
use Rattle.jvm_model.specs.Basis.Methods.{code_of, method_code, method_named, method_params}

-- ---- classes

abbrev pub class_at : Program → ℕ → Option ClassFile
class_at p class = slice_get p.classes class

-- a class without anything, where a program has none
abbrev pub no_class : ClassFile
no_class = record {
  minor = 0;
  major = 0;
  pool = [];
  access = 0;
  this_class = 0;
  super_class = 0;
  interfaces = [];
  fields = [];
  methods = [];
  attributes = [];
}

abbrev pub name_of : ClassFile → Option (List ℕ)
name_of c = named_class c.pool c.this_class

abbrev pub has_name : List ℕ → ClassFile → Bool
has_name name c = option_map_or (same_text name) (name_of c) false

-- the position of the class with this name
abbrev pub class_named : Program → List ℕ → Option ℕ
class_named p name = position (has_name name) p.classes

abbrev pub name_at : Program → ℕ → Option (List ℕ)
name_at p class = option_and_then name_of (class_at p class)

-- the name of a class's superclass, and its position, where it is a class of the program
abbrev pub super_name : Program → ℕ → Option (List ℕ)
super_name p class = option_and_then (λ (c : ClassFile). named_class c.pool c.super_class) (class_at p class)

abbrev pub super_of : Program → ℕ → Option ℕ
super_of p class = option_and_then (class_named p) (super_name p class)

-- the class has the name of a built-in one
abbrev pub has_built_in_name : ClassFile → Bool
has_built_in_name c = option_map_or (λ name. list_any (same_text name) built_in_names) (name_of c) false

-- ---- methods

-- the methods of a class that have Code, from this position on
abbrev pub coded_from : ℕ → ℕ → List Member → List MethodPlace
coded_from class at [] = []
coded_from class at (m ∷ rest) =
    if is_some (code_of m) then record { class = class; position = at } ∷ coded_from class (at + 1) rest else coded_from class (at + 1) rest

-- Methods that have Code are numbered over all classes.
abbrev pub numbered_from : ℕ → List ClassFile → List MethodPlace
numbered_from class [] = []
numbered_from class (c ∷ rest) = coded_from class 0 c.methods ++ numbered_from (class + 1) rest

abbrev pub methods_numbered : List ClassFile → List MethodPlace
methods_numbered classes = numbered_from 0 classes

-- where the method with this number stands
abbrev pub place_of_method : Program → ℕ → Option MethodPlace
place_of_method p method = slice_get p.methods method

abbrev pub same_place : ℕ → ℕ → MethodPlace → Bool
same_place class at place = place.class == class && place.position == at

-- the number of the method at this position of a class, counted from this number
abbrev pub number_from : ℕ → ℕ → ℕ → List MethodPlace → Option ℕ
number_from n class at [] = None
number_from n class at (place ∷ rest) = if same_place class at place then Some n else number_from (n + 1) class at rest

abbrev pub number_of_method : Program → ℕ → ℕ → Option ℕ
number_of_method p class at = number_from 0 class at p.methods

-- something that is looked up by a method's class and position, for the method with this number
abbrev pub by_number : {A : Type 0} → Program → (ClassFile → ℕ → Option A) → ℕ → Option A
by_number p look method =
    option_and_then (λ (place : MethodPlace). option_and_then (λ c. look c place.position) (class_at p place.class)) (place_of_method p method)

abbrev pub code_of_method : Program → ℕ → Option CodeAttribute
code_of_method p method = by_number p method_code method

-- the kinds of its parameters
abbrev pub params_of_method : Program → ℕ → Option (List Kind)
params_of_method p method = by_number p method_params method

-- the greatest depth of its operands, and the number of its locals (4.7.3)
abbrev pub max_stack_of : World → ℕ → ℕ
max_stack_of w method = option_map_or (λ (code : CodeAttribute). code.max_stack) (code_of_method w.program method) 0

abbrev pub max_locals_of : World → ℕ → ℕ
max_locals_of w method = option_map_or (λ (code : CodeAttribute). code.max_locals) (code_of_method w.program method) 0

-- the number of the method of this name and descriptor in the class at this position
abbrev pub declared_method : Program → NameAndType → ℕ → Option ℕ
declared_method p wanted class =
    option_and_then (λ c. option_and_then (number_of_method p class) (method_named c wanted)) (class_at p class)

abbrev pub initializer_name : NameAndType
initializer_name = record { name = codes "<clinit>"; descriptor = codes "()V" }

-- a class's static initializer (2.9)
abbrev pub initializer_of : Program → ℕ → Option ℕ
initializer_of p class = declared_method p initializer_name class

-- ---- the program of one class

-- its methods that have Code, without arguments and actions, and with the usual heap
abbrev pub alone : ClassFile → ℕ → Program
alone c main = record { classes = c ∷ []; methods = methods_numbered (c ∷ []); main = main; acts = []; args = []; heap = 4194304 }

abbrev pub world_of : ClassFile → ℕ → List ℕ → World
world_of c main input = record { program = alone c main; input = input }
