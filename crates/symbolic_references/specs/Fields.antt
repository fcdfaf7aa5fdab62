-- Instance fields of objects, as the code finds them.
use Rattle.std.specs.Prelude.{ℕ, drop, not, Bool, Result, Ok, Err}
use Rattle.heap_objects.specs.Heaps.{with_slot_at}
use Rattle.const_pool.specs.declared.class.Member.{Member}
use Rattle.jvm_model.specs.Basis.Methods.{has_flag}
use Rattle.jvm_model.specs.declared.state.Shared.{Shared}
use Rattle.jvm_model.specs.Basis.Data.{Datum, Locals, Operands, Next, Outcome, GoesOn, Done}
use Rattle.jvm_model.specs.Instructions.FieldRules as rules
use Rattle.jvm_model.specs.Instructions.ObjectRules.{done}
use Rattle.member_selection.specs.declared.outcome.AbruptCompletion.{AbruptCompletion}
use Rattle.symbolic_references.specs.declared.owners.Owner.{Owner}
use Rattle.symbolic_references.specs.declared.owners.Putting.{Putting}
use Rattle.member_selection.specs.Answers.{abrupt_view}

-- the field is not static
abbrev pub is_of_instances : Member → Bool
is_of_instances f = not (has_flag 8 f.access)

-- the object that has a field
abbrev pub owner_found : Result Owner AbruptCompletion → Result ℕ Outcome
owner_found (Ok owner) = Ok owner.object
owner_found (Err e) = Err (abrupt_view e)

abbrev pub putting_view : Putting → rules.Putting
putting_view x = record { object = x.object; datum = x.datum }

-- a value goes into a slot of an object, both being on top
abbrev pub writes : ℕ → ℕ → Datum → Shared → Locals → Operands → Done
writes object slot d s l o = done (record s { heap = with_slot_at object slot d s.heap }) (GoesOn l (drop 2 o) Next)
