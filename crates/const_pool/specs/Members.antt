-- A member as the code holds it, seen as its texts.
use Rattle.const_pool.specs.declared.pool.MemberRef.{MemberRef}
use Rattle.const_pool.specs.References.{Reference, name_type_of}

abbrev pub reference_view : MemberRef → Reference
reference_view m = record { class = m.class.now; member = name_type_of m.name.now m.descriptor.now }
