-- A class with a part of each kind, for the test of the bytes.
use Rattle.std.specs.Prelude.{pos, negsuc, codes, List, [], ◌∷◌}
use Rattle.const_pool.specs.declared.pool.Const.{Const}
use Rattle.const_pool.specs.declared.pool.Const.TheVariants.{Gap, Utf8, Integer, Float, Long, Double, Class, Text, Field, Method, InterfaceMethod, NameType}
use Rattle.const_pool.specs.declared.class.Attribute.TheVariants.{ConstantValue, Code, Other}
use Rattle.const_pool.specs.declared.class.CodeAttribute.{CodeAttribute}
use Rattle.const_pool.specs.declared.class.Raw.{Raw}
use Rattle.const_pool.specs.declared.class.Member.{Member}
use Rattle.const_pool.specs.declared.class.ClassFile.{ClassFile}

abbrev pub worked_pool : List Const
worked_pool =
    Gap ∷ Utf8 (codes "A") ∷ Class 1 ∷ Utf8 (codes "Code") ∷ Utf8 (codes "ConstantValue") ∷ Utf8 (codes "J") ∷ Long (pos 72623859790382856) ∷ Gap ∷ Utf8 (codes "()V") ∷ Utf8 (88 ∷ 0 ∷ 169 ∷ 8364 ∷ [])
    ∷ Integer (negsuc 1) ∷ Float 1065353216 ∷ Double 4611686018427387904 ∷ Gap ∷ Text 1 ∷ NameType 1 5 ∷ Field 2 15 ∷ NameType 1 8 ∷ Method 2 17 ∷ InterfaceMethod 2 17 ∷ []

abbrev pub worked_field : Member
worked_field = record { access = 24; name = 1; descriptor = 5; attributes = ConstantValue 4 6 ∷ [] }

abbrev pub worked_raw : Raw
worked_raw = record { name = 9; bytes = 171 ∷ [] }

abbrev pub worked_code : CodeAttribute
worked_code = record { max_stack = 2; max_locals = 4; code = 177 ∷ []; handlers = record { start = 0; «end» = 1; handler = 3; catch_class = 2 } ∷ []; attributes = worked_raw ∷ [] }

abbrev pub worked_method : Member
worked_method = record { access = 9; name = 1; descriptor = 8; attributes = Code 3 worked_code ∷ [] }

abbrev pub worked_class : ClassFile
worked_class = record {
  minor = 3;
  major = 45;
  pool = worked_pool;
  access = 33;
  this_class = 2;
  super_class = 0;
  interfaces = 2 ∷ [];
  fields = worked_field ∷ [];
  methods = worked_method ∷ [];
  attributes = Other (record { name = 9; bytes = [] }) ∷ [];
}
