-- The class files of the built-in classes, in their order.
use Rattle.std.specs.Prelude.{List, map}
use Rattle.const_pool.specs.declared.class.ClassFile.{ClassFile}
use Rattle.base_classes.specs.BuiltInClasses.{built_in_classes}
use Rattle.base_classes.specs.Making.{class_file_of}

abbrev pub built_in_files : List ClassFile
built_in_files = map class_file_of built_in_classes
