-- The built-in classes, in their order, and what a list of class files is that declares them.
use Rattle.std.specs.Prelude.{◌≡◌, List, [], ◌∷◌, ◌++◌}
use Rattle.std.specs.List.{AllByRecursion}
use Rattle.const_pool.specs.declared.class.ClassFile.{ClassFile}
use Rattle.const_pool.specs.declared.class.Attribute.{Attribute}
use Rattle.const_pool.specs.declared.class.Attribute.TheVariants.{Code}
use Rattle.base_classes.specs.Declarations.{ClassDeclaration}
use Rattle.base_classes.specs.ObjectClasses.{object_classes}
use Rattle.base_classes.specs.TextClasses.{text_classes}
use Rattle.base_classes.specs.StreamClasses.{stream_classes}
use Rattle.base_classes.specs.ValueClasses.{value_classes}
use Rattle.base_classes.specs.ThrowableClasses.{throwable_classes}

unfoldable pub built_in_classes : List ClassDeclaration
built_in_classes = object_classes ++ (text_classes ++ (stream_classes ++ (value_classes ++ throwable_classes)))

-- no attribute, or one Code without handlers and attributes of its own
abbrev pub HasAtMostCode : List Attribute → Type 0
HasAtMostCode [] = Unit {0}
HasAtMostCode (Code name code ∷ []) = (code.handlers ≡ []) × (code.attributes ≡ [])
HasAtMostCode _ = ⊥

-- a class file of version 49.0 (4.1) that has nothing but what is declared
pub record IsBare (c : ClassFile) : Type 0 where
  pub minor : c.minor ≡ 0
  pub major : c.major ≡ 49
  pub fields : AllByRecursion (λ m. m.attributes ≡ []) c.fields
  pub methods : AllByRecursion (λ m. HasAtMostCode m.attributes) c.methods
  pub attributes : c.attributes ≡ []
