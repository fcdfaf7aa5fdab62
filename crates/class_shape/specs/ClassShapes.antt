-- The shape of a class: what it declares of itself, its fields and its methods, where each index stands for the text
-- that it names in the class's own constant pool (JVM Specification 4.1, 4.4, 4.5, 4.6). A class is redefined by one of
-- its shape alone.
use Rattle.std.specs.Prelude.{◌≡◌, ◌≢◌, ℕ, ◌⊎◌, List, length, map, take, slice_get, Option}
use Rattle.const_pool.specs.declared.pool.Const.{Const}
use Rattle.const_pool.specs.declared.class.ClassFile.{ClassFile}
use Rattle.const_pool.specs.declared.class.Member.{Member}
use Rattle.const_pool.specs.References.{named_text, named_class}

-- ---- what is compared

-- a field or a method: its access_flags, its name and its descriptor (4.5, 4.6)
pub record MemberShape : Type 0 where
  pub access : ℕ
  pub name : Option (List ℕ)
  pub descriptor : Option (List ℕ)

abbrev pub shape_in : List Const → Member → MemberShape
shape_in pool m = record { access = m.access; name = named_text pool m.name; descriptor = named_text pool m.descriptor }

abbrev pub fields_of : ClassFile → List MemberShape
fields_of c = map (shape_in c.pool) c.fields

abbrev pub methods_of : ClassFile → List MemberShape
methods_of c = map (shape_in c.pool) c.methods

-- what stands before the members: access_flags, the names of this_class, super_class and the interfaces in their order,
-- and the counts of fields and methods (4.1). Where super_class is 0 it names nothing.
pub record Heading : Type 0 where
  pub access : ℕ
  pub name : Option (List ℕ)
  pub superclass : Option (List ℕ)
  pub interfaces : List (Option (List ℕ))
  pub field_count : ℕ
  pub method_count : ℕ

abbrev pub heading_of : ClassFile → Heading
heading_of c = record {
  access = c.access;
  name = named_class c.pool c.this_class;
  superclass = named_class c.pool c.super_class;
  interfaces = map (named_class c.pool) c.interfaces;
  field_count = length c.fields;
  method_count = length c.methods;
}

-- ---- the same shape

pub record HasSameShape (original image : ClassFile) : Type 0 where
  pub heading : heading_of original ≡ heading_of image
  pub fields : fields_of original ≡ fields_of image
  pub methods : methods_of original ≡ methods_of image

-- ---- another shape

-- two lists of members are the same before a position, and differ there
pub record DifferAt (these those : List MemberShape) (position : ℕ) : Type 0 where
  pub before : take position these ≡ take position those
  pub there : slice_get these position ≢ slice_get those position

-- the number that is told of a heading; no field and no method has this position
abbrev pub of_heading : ℕ
of_heading = 65535

-- The headings differ. Whatever else differs, this is told.
pub record IsHeadingFault (original image : ClassFile) (told : ℕ) : Type 0 where
  pub heading : heading_of original ≢ heading_of image
  pub number : told ≡ of_heading

-- the position of the first field that differs
pub record IsFieldFault (original image : ClassFile) (told : ℕ) : Type 0 where
  pub heading : heading_of original ≡ heading_of image
  pub field : DifferAt (fields_of original) (fields_of image) told

-- the position of the first method that differs, where all fields are the same
pub record IsMethodFault (original image : ClassFile) (told : ℕ) : Type 0 where
  pub heading : heading_of original ≡ heading_of image
  pub fields : fields_of original ≡ fields_of image
  pub method : DifferAt (methods_of original) (methods_of image) told

-- The second class has not the first one's shape, and this number is told of it.
abbrev pub IsShapeFault : ClassFile → ClassFile → ℕ → Type 0
IsShapeFault original image told =
    IsHeadingFault original image told ⊎ (IsFieldFault original image told ⊎ IsMethodFault original image told)
