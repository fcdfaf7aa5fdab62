-- the kinds so far, and those of the fields that are left
use Rattle.std.proofs.Common.{◌≡◌, ◌++◌, drop, map, filter}
use Rattle.std.specs.Prelude.{not}
use Rattle.const_pool.specs.declared.class.Member.{Member}
use Rattle.jvm_model.specs.Classes.Layouts.{field_kind, own_kinds}
use Rattle.jvm_model.specs.Basis.Methods.{has_flag}
use Rattle.class_linker.proofs.loaded_classes.add_own.Given as goal

abbrev pub invariant-loop-field : goal.invariant-loop-field
invariant-loop-field l =
    l.kinds ++ map (field_kind l.file) (filter (λ (m : Member). not (has_flag 8 m.access)) (drop l.field-index l.file.fields))
    ≡ l.initial.kinds ++ own_kinds l.file
