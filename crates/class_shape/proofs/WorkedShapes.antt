-- What is told of classes that differ from a class, by computing.
use Rattle.std.proofs.Common.{ℕ, List, [], ◌∷◌, codes, refl}
use Rattle.const_pool.specs.declared.class.ClassFile.{ClassFile}
use Rattle.const_pool.specs.declared.class.Member.{Member}
use Rattle.const_pool.specs.declared.pool.Const.{Const}
use Rattle.const_pool.specs.declared.pool.Const.TheVariants.{Gap, Utf8, Class}
use Rattle.class_shape.specs.ClassShapes.{HasSameShape, IsShapeFault, of_heading}
use Rattle.class_shape.proofs.ShapeLaws.{told-fault, none-same}

-- ---- a class with two fields and two methods

abbrev pool_with : List Const → List Const
pool_with more =
    Gap ∷ Utf8 (codes "Point") ∷ Class 1 ∷ Utf8 (codes "java/lang/Object") ∷ Class 3 ∷ Utf8 (codes "x") ∷ Utf8 (codes "I") ∷ Utf8 (codes "y")
    ∷ Utf8 (codes "get") ∷ Utf8 (codes "()I") ∷ Utf8 (codes "put") ∷ Utf8 (codes "(I)V") ∷ more

abbrev member : ℕ → ℕ → ℕ → Member
member access name descriptor = record { access = access; name = name; descriptor = descriptor; attributes = [] }

abbrev class_with : List Const → List Member → List Member → ClassFile
class_with pool fields methods = record {
  minor = 0;
  major = 50;
  pool = pool;
  access = 33;
  this_class = 2;
  super_class = 4;
  interfaces = [];
  fields = fields;
  methods = methods;
  attributes = [];
}

abbrev x : Member
x = member 2 5 6

abbrev y : Member
y = member 2 7 6

abbrev get : Member
get = member 1 8 9

abbrev put : Member
put = member 1 10 11

abbrev point : ClassFile
point = class_with (pool_with []) (x ∷ y ∷ []) (get ∷ put ∷ [])

-- ---- the same shape

-- a pool with more entries, a name under another index, other attributes of the class
same : HasSameShape point (class_with (pool_with (Utf8 (codes "put") ∷ [])) (x ∷ y ∷ []) (get ∷ member 1 12 11 ∷ []))
same = none-same point _ refl

-- ---- a member is another one

-- the second method has another name
renamed : IsShapeFault point (class_with (pool_with (Utf8 (codes "set") ∷ [])) (x ∷ y ∷ []) (get ∷ member 1 12 11 ∷ [])) 1
renamed = told-fault point _ 1 refl

-- the same indices name other texts
other_texts : IsShapeFault point (class_with (pool_with []) (x ∷ member 2 8 6 ∷ []) (get ∷ put ∷ [])) 1
other_texts = told-fault point _ 1 refl

-- the first field has another type
retyped : IsShapeFault point (class_with (pool_with (Utf8 (codes "J") ∷ [])) (member 2 5 12 ∷ y ∷ []) (get ∷ put ∷ [])) 0
retyped = told-fault point _ 0 refl

-- a field comes before all methods
field_first : IsShapeFault point (class_with (pool_with []) (x ∷ member 1 7 6 ∷ []) (member 9 8 9 ∷ put ∷ [])) 1
field_first = told-fault point _ 1 refl

-- methods in another order
exchanged : IsShapeFault point (class_with (pool_with []) (x ∷ y ∷ []) (put ∷ get ∷ [])) 0
exchanged = told-fault point _ 0 refl

-- ---- what stands before the members

one_interface_more : IsShapeFault point (record point { pool = pool_with (Utf8 (codes "java/lang/Runnable") ∷ Class 12 ∷ []); interfaces = 13 ∷ [] }) of_heading
one_interface_more = told-fault point _ of_heading refl

other_flags : IsShapeFault point (record point { access = 32 }) of_heading
other_flags = told-fault point _ of_heading refl

another_class : IsShapeFault point (record point { pool = pool_with (Utf8 (codes "Line") ∷ Class 12 ∷ []); this_class = 13 }) of_heading
another_class = told-fault point _ of_heading refl

no_superclass : IsShapeFault point (record point { super_class = 0 }) of_heading
no_superclass = told-fault point _ of_heading refl

-- a method less and a field less come before a member that is another one
method_less : IsShapeFault point (class_with (pool_with []) (y ∷ x ∷ []) (get ∷ [])) of_heading
method_less = told-fault point _ of_heading refl

field_less : IsShapeFault point (class_with (pool_with []) (y ∷ []) (get ∷ put ∷ [])) of_heading
field_less = told-fault point _ of_heading refl
