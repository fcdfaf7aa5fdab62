-- Rules of instructions whose name was resolved, in the parts that the code does one after the other.
use Rattle.std.specs.Prelude.{ℕ, ◌+◌, List, drop, length, map}
use Rattle.const_pool.specs.declared.Kind.{Kind}
use Rattle.const_pool.specs.References.{Reference}
use Rattle.heap_objects.specs.declared.datum.Datum.{Datum}
use Rattle.heap_objects.specs.Heaps.{with_instance}
use Rattle.jvm_model.specs.declared.program.Program.{Program}
use Rattle.jvm_model.specs.declared.state.Shared.{Shared}
use Rattle.jvm_model.specs.Basis.Data.{Locals, Operands, Done}
use Rattle.jvm_model.specs.Basis.Values.{ref_of}
use Rattle.jvm_model.specs.Classes.Layouts.{layout}
use Rattle.jvm_model.specs.Classes.Lookup.{MemberPlace}
use Rattle.jvm_model.specs.Instructions.CreationRules.{allocates, zero_of}
use Rattle.jvm_model.specs.Instructions.FieldRules.{gets_of, field_held, kind_by, puts_into, putting_of, sets_static}
use Rattle.jvm_model.specs.Instructions.Rules.{class_initialized}
use Rattle.member_selection.specs.Answers.{Rule}
use Rattle.member_selection.specs.Targets.{data_in}

-- so many of the topmost operands are its arguments, the deepest first, and are taken off
abbrev pub on_arguments : ℕ → (List Datum → Shared → Locals → Operands → Done) → Shared → Rule
on_arguments count rule s l o = rule (data_in count o) s l (drop count o)

-- the class is initialized before
abbrev pub once_initialized : Program → ℕ → Shared → Rule → Rule
once_initialized p class s rule l o = class_initialized p class s (rule l o)

-- the value of a field of the object on top
abbrev pub gets_from : Program → Reference → MemberPlace → Shared → Rule
gets_from p r m s l o = gets_of p r m (ref_of o) s l o

-- the topmost operand goes into a field of the object below it
abbrev pub puts_to : Program → Reference → MemberPlace → Shared → Rule
puts_to p r m s l o = puts_into p r m (putting_of (kind_by r) o) s l o

-- the topmost operand goes into a static field of this kind
abbrev pub sets_held : MemberPlace → Kind → Shared → Rule
sets_held m kind s l o = sets_static m (field_held kind o) s l o

-- an object without anything but its fields
abbrev pub makes_fields : Program → ℕ → ℕ → Shared → Rule
makes_fields p kind class s =
    allocates (1 + length (layout p class)) (with_instance kind (map zero_of (layout p class))) 0 s
