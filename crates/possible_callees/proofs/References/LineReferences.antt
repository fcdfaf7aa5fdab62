-- What a line names is what its operation names.
use Rattle.std.proofs.Common.{◌≡◌, ap, sym, refl, ◌∙◌}
use Rattle.std.specs.Prelude.{Option, Some, None}
use Rattle.std.specs.Option.{option_and_then, option_map}
use Rattle.std.proofs.lemmas.Option.{none-some, same_Some}
use Rattle.const_pool.specs.declared.class.ClassFile.{ClassFile}
use Rattle.code_model.specs.declared.instr.Instr.{Instr}
use Rattle.jvm_model.specs.Codes.Lines.{operation_of}
use Rattle.prepared_lines.specs.declared.line.Line.{Line}
use Rattle.jvm_model.specs.declared.instruction.Local.{Local}
use Rattle.jvm_model.specs.declared.instruction.SymbolicReference.TheVariants.{New, Getfield, Putfield, Getstatic, Putstatic, Invokevirtual, Invokespecial, Invokestatic, Invokeinterface, Checkcast, Instanceof, Anewarray, Multianewarray, LdcClass}
use Rattle.jvm_model.specs.declared.instruction.Operation.{Operation}
use Rattle.jvm_model.specs.declared.instruction.Operation.TheVariants.{Within, Named, Athrow, Monitor, Newarray, Arraylength, LoadElement, StoreElement, LdcString}
use Rattle.jvm_model.specs.Profiling.Revelation.{symbolic_reference_in}
use Rattle.prepared_lines.specs.Lines.{operation_kept, line_of, line_with}
use Rattle.possible_callees.specs.CodeReferences.{begins_by}

-- what a line names that can begin methods is what its operation names
pub begins_alike : (op : Operation Local) → begins_by (operation_kept op) ≡ symbolic_reference_in op
begins_alike (Named (New name)) = refl
begins_alike (Named (Getstatic r)) = refl
begins_alike (Named (Putstatic r)) = refl
begins_alike (Named (Invokestatic r)) = refl
begins_alike (Named (Invokespecial caller r interface)) = refl
begins_alike (Named (Invokevirtual r)) = refl
begins_alike (Named (Invokeinterface r)) = refl
begins_alike (Named (Getfield r)) = refl
begins_alike (Named (Putfield r)) = refl
begins_alike (Named (Checkcast name)) = refl
begins_alike (Named (Instanceof name)) = refl
begins_alike (Named (Anewarray name)) = refl
begins_alike (Named (Multianewarray name dimensions)) = refl
begins_alike (Named (LdcClass name)) = refl
begins_alike (Within i) = refl
begins_alike Athrow = refl
begins_alike Monitor = refl
begins_alike (Newarray kind) = refl
begins_alike Arraylength = refl
begins_alike (LoadElement k) = refl
begins_alike (StoreElement k) = refl
begins_alike (LdcString units) = refl

pub line-begins : (c : ClassFile) (i : Instr) (line : Line) → line_of c i ≡ Some line → begins_by line.operation ≡ option_and_then symbolic_reference_in (operation_of c i)
line-begins c i line e = by (operation_of c i) e
  where
    by : (o : Option (Operation Local)) → option_map (line_with c i) (option_map operation_kept o) ≡ Some line → begins_by line.operation ≡ option_and_then symbolic_reference_in o
    by None e = absurd (none-some line e)
    by (Some op) e = ap (λ (l : Line). begins_by l.operation) (sym (same_Some (line_with c i (operation_kept op)) line e)) ∙ begins_alike op
