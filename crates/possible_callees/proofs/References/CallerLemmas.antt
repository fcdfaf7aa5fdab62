-- The class in which an invokespecial stands is loaded where that of its method is.
use Rattle.std.proofs.Common.{◌≡◌, ℕ, zero, suc, List, [], ◌∷◌, ap, refl, ◌∙◌}
use Rattle.std.specs.Prelude.{filter_map, length, Option, Some, None, unwrap_or}
use Rattle.std.specs.List.{AllByRecursion, cons_option}
use Rattle.std.specs.Option.{IfSome, option_and_then, option_map, option_map_or}
use Rattle.const_pool.specs.declared.class.ClassFile.{ClassFile}
use Rattle.const_pool.specs.declared.class.CodeAttribute.{CodeAttribute}
use Rattle.code_model.specs.declared.instr.Instr.{Instr}
use Rattle.code_model.specs.Instructions.{end_of, instruction_at}
use Rattle.jvm_model.specs.declared.program.MethodPlace.{MethodPlace}
use Rattle.jvm_model.specs.declared.program.Program.{Program}
use Rattle.jvm_model.specs.Basis.Data.{Instruction}
use Rattle.jvm_model.specs.declared.instruction.Local.{Local}
use Rattle.jvm_model.specs.declared.instruction.Operation.{Operation}
use Rattle.jvm_model.specs.declared.instruction.Operation.TheVariants.{Within, Named, Athrow, Monitor, Newarray, Arraylength, LoadElement, StoreElement, LdcString}
use Rattle.jvm_model.specs.Codes.Lines.{code_instruction, instruction_of, method_instruction, next_of, operation_of, targets_of}
use Rattle.jvm_model.specs.Basis.Methods.{method_code}
use Rattle.jvm_model.specs.declared.instruction.SymbolicReference.{SymbolicReference}
use Rattle.jvm_model.specs.declared.instruction.SymbolicReference.TheVariants.{New, Getfield, Putfield, Getstatic, Putstatic, Invokevirtual, Invokespecial, Invokestatic, Invokeinterface, Checkcast, Instanceof, Anewarray, Multianewarray, LdcClass}
use Rattle.jvm_model.specs.Codes.Originals.{original}
use Rattle.jvm_model.specs.Codes.Places.{read_from}
use Rattle.jvm_model.specs.Basis.Programs.{class_at, place_of_method}
use Rattle.jvm_model.specs.Profiling.Revelation.{symbolic_reference_in, symbolic_references_of}
use Rattle.jvm_model.specs.Soundness.Sound.{CanAttempt, HasClass, HasLoadedCaller, IsFit}
use Rattle.jvm_model.specs.Profiling.Targets.{operations_in, operations_of}
use Rattle.jvm_model.proofs.Soundness.SoundLines.{can-attempt}

module _ (p : Program) (loaded : List ℕ) where
  fine : (op : Operation Local) → CanAttempt p loaded op → IfSome (symbolic_reference_in op) (HasLoadedCaller p loaded)
  fine (Named (New name)) can = can.0
  fine (Named (Getstatic r)) can = can.0
  fine (Named (Putstatic r)) can = can.0
  fine (Named (Invokestatic r)) can = can.0
  fine (Named (Invokespecial caller r interface)) can = can.0
  fine (Named (Invokevirtual r)) can = can.0
  fine (Named (Invokeinterface r)) can = can.0
  fine (Named (Getfield r)) can = tt
  fine (Named (Putfield r)) can = tt
  fine (Named (Checkcast name)) can = tt
  fine (Named (Instanceof name)) can = tt
  fine (Named (Anewarray name)) can = tt
  fine (Named (Multianewarray name dimensions)) can = tt
  fine (Named (LdcClass name)) can = tt
  fine (Within i) can = tt
  fine Athrow can = tt
  fine Monitor can = tt
  fine (Newarray kind) can = tt
  fine Arraylength can = tt
  fine (LoadElement k) can = tt
  fine (StoreElement k) can = tt
  fine (LdcString units) can = tt

  abbrev AreFine : List SymbolicReference → Type 0
  AreFine ns = AllByRecursion (HasLoadedCaller p loaded) ns

  one-more : (o : Option SymbolicReference) (ns : List SymbolicReference) → IfSome o (HasLoadedCaller p loaded) → AreFine ns → AreFine (cons_option o ns)
  one-more None ns first rest = rest
  one-more (Some n) ns first rest = (first, rest)

  module _ (c : ClassFile) (code : List ℕ)
      (each : (offset : ℕ) (i : Instr) (op : Operation Local) → instruction_at code offset ≡ Some i → operation_of c i ≡ Some op → CanAttempt p loaded op) where
    op-fine : (offset : ℕ) (i : Instr) (o : Option (Operation Local)) (ops : List (Operation Local)) → instruction_at code offset ≡ Some i → operation_of c i ≡ o
        → AreFine (symbolic_references_of ops) → AreFine (symbolic_references_of (cons_option o ops))
    op-fine offset i None ops there e rest = rest
    op-fine offset i (Some op) ops there e rest = one-more (symbolic_reference_in op) (symbolic_references_of ops) (fine op (each offset i op there e)) rest

    read-fine : (n at : ℕ) → AreFine (symbolic_references_of (filter_map (operation_of c) (read_from n code at)))
    read-fine zero at = tt
    read-fine (suc n) at = by (instruction_at code at) refl (λ next. read-fine n next)
      where
        by : (o : Option Instr) → instruction_at code at ≡ o → ((next : ℕ) → AreFine (symbolic_references_of (filter_map (operation_of c) (read_from n code next))))
            → AreFine (symbolic_references_of (filter_map (operation_of c) (option_map_or (λ (i : Instr). i ∷ read_from n code (end_of i)) o [])))
        by None e rest = tt
        by (Some i) e rest = op-fine at i (operation_of c i) (filter_map (operation_of c) (read_from n code (end_of i))) e refl (rest (end_of i))

  module _ (fit : IsFit p) (method : ℕ) (has : HasClass p loaded method) where
    abbrev made : Instr → Operation Local → Instruction
    made i op = record { operation = op; own = i.at; next = next_of op (end_of i); targets = targets_of i.arg }

    stands : (place : MethodPlace) (c : ClassFile) (code : CodeAttribute) (offset : ℕ) (i : Instr) (op : Operation Local)
        → place_of_method p method ≡ Some place → class_at p place.class ≡ Some c → method_code c place.position ≡ Some code
        → instruction_at code.code offset ≡ Some i → operation_of c i ≡ Some op → (original p).at method offset ≡ Some (made i op)
    stands place c code offset i op at of_class has_code there is =
        ap (λ o. option_and_then (λ (place : MethodPlace). option_and_then (λ c. method_instruction c place.position offset) (class_at p place.class)) o) at
        ∙ (ap (λ o. option_and_then (λ c. method_instruction c place.position offset) o) of_class
        ∙ (ap (λ o. option_and_then (λ (code : CodeAttribute). code_instruction c code.code offset) o) has_code
        ∙ (ap (option_and_then (instruction_of c)) there ∙ ap (option_map (made i)) is)))

    code-fine : (place : MethodPlace) (c : ClassFile) (o : Option CodeAttribute) → place_of_method p method ≡ Some place → class_at p place.class ≡ Some c
        → method_code c place.position ≡ o
        → AreFine (symbolic_references_of (filter_map (operation_of c) (option_map_or (λ (code : CodeAttribute). read_from (length code.code) code.code 0) o [])))
    code-fine place c None at of_class e = tt
    code-fine place c (Some code) at of_class e =
        read-fine c code.code
        (λ offset i op there is. can-attempt p fit loaded method offset (made i op) has (stands place c code offset i op at of_class e there is))
        (length code.code) 0

    class-fine : (place : MethodPlace) (o : Option ClassFile) → place_of_method p method ≡ Some place → class_at p place.class ≡ o
        → AreFine (symbolic_references_of (unwrap_or (option_and_then (λ c. operations_in c place.position) o) []))
    class-fine place None at e = tt
    class-fine place (Some c) at e = code-fine place c (method_code c place.position) at e refl

    pub callers-loaded : AreFine (symbolic_references_of (operations_of p method))
    callers-loaded = by (place_of_method p method) refl
      where
        by : (o : Option MethodPlace) → place_of_method p method ≡ o
            → AreFine (symbolic_references_of (unwrap_or (option_and_then (λ (place : MethodPlace). option_and_then (λ c. operations_in c place.position) (class_at p place.class)) o) []))
        by None e = tt
        by (Some place) e = class-fine place (class_at p place.class) e refl
