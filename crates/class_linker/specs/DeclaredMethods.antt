-- Where a method stands, as the definitions have it.
use Rattle.jvm_model.specs.Classes.Lookup.{MemberPlace, place_in}
use Rattle.class_linker.specs.declared.declared_method.DeclaredMethod.{DeclaredMethod}

abbrev pub at_place : DeclaredMethod → MemberPlace
at_place m = place_in m.class m.position
