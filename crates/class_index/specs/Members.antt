-- A name and a descriptor as the definitions have them, and how many members a class file has at most.
use Rattle.std.specs.Prelude.{ℕ, ◌<◌, ◌^◌, ◌==◌, Bool, false, length}
use Rattle.std.specs.Option.{option_map_or}
use Rattle.jvm_model.specs.declared.program.Program.{Program}
use Rattle.jvm_model.specs.Classes.Lookup.{MemberPlace, method_at, place_in}
use Rattle.jvm_model.specs.Classes.Selection.{signature_of}
use Rattle.const_pool.specs.declared.class.ClassFile.{ClassFile}
use Rattle.const_pool.specs.References.{NameAndType}
use Rattle.class_index.specs.declared.wanted.Wanted.{Wanted}

abbrev pub wanted_view : Wanted → NameAndType
wanted_view w = record { name = w.name.now; descriptor = w.descriptor.now }

pub record HasFewMembers (c : ClassFile) : Type 0 where
  pub fields : length c.fields < 2 ^ 16
  pub methods : length c.methods < 2 ^ 16

-- what the first method's class has for the name and descriptor of the second is the first
abbrev pub is_declared_as : Program → MemberPlace → MemberPlace → Bool
is_declared_as p m1 m2 =
    option_map_or (λ wanted. option_map_or (λ at. at == m1.position) (method_at p wanted m1.class) false) (signature_of p m2) false

-- the position of a class and of a member there
abbrev pub place_view : ℕ × ℕ → MemberPlace
place_view m = place_in m.0 m.1
