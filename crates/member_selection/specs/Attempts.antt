-- An attempt of an instruction that names a class or a member: what it names is loaded before (JVM Specification 5.3,
-- 5.4.3).
use Rattle.std.specs.Prelude.{◌≡◌, ℕ, Bool, true, false, List, ◌++◌, length, Option, Some, None, Result, Ok, Err, ◌==◌}
use Rattle.frame_stack.specs.FrameLists.{FramesView, top_operands}
use Rattle.jvm_model.specs.declared.program.Program.{Program}
use Rattle.jvm_model.specs.declared.state.Shared.{Shared}
use Rattle.jvm_model.specs.Basis.Data.{Operands, World}
use Rattle.jvm_model.specs.Instructions.SymbolicReference.{newly_loaded, resolved_kind, resolved_name, resolves}
use Rattle.jvm_model.specs.declared.instruction.SymbolicReference.{SymbolicReference}
use Rattle.jvm_model.specs.Instructions.ReferenceRules.{does_named}
use Rattle.class_linker.specs.Linkers.{LinkerView}
use Rattle.member_selection.specs.declared.outcome.AbruptCompletion.{AbruptCompletion}
use Rattle.member_selection.specs.Answers.{Rule, abrupt_view}
use Rattle.member_selection.specs.Objects.{IsResolved}

-- with the classes that the instruction loads
abbrev pub loaded_for : Program → SymbolicReference → Shared → FramesView → List ℕ
loaded_for p n s f = s.loaded ++ newly_loaded p s.loaded n (top_operands f.frames)

abbrev pub shared_loaded : Program → SymbolicReference → Shared → FramesView → Shared
shared_loaded p n s f = record s { loaded = loaded_for p n s f }

abbrev pub linker_with : LinkerView → List ℕ → LinkerView
linker_with l loaded = record { program = l.program; loaded = loaded }

-- with more classes
abbrev pub with_more : LinkerView → List ℕ → LinkerView
with_more l more = record l { loaded = l.loaded ++ more }

-- it loads no class
abbrev pub loads_nothing : Program → List ℕ → SymbolicReference → Operands → Bool
loads_nothing p loaded n o = length (newly_loaded p loaded n o) == 0

abbrev pub is_loaded : World → SymbolicReference → Shared → FramesView → Bool
is_loaded w n s f = loads_nothing w.program s.loaded n (top_operands f.frames)

-- the rule of the instruction, over what is loaded then
abbrev pub attempts : World → SymbolicReference → Shared → FramesView → Rule
attempts w n s f l o = does_named w n (shared_loaded w.program n s f) l o

-- what was found for the name, over what is loaded now: nothing where nothing is resolved
abbrev pub IsFound : LinkerView → SymbolicReference → Operands → Option (Result ℕ AbruptCompletion) → Type 0
IsFound l n o None = resolves n o ≡ false
IsFound l n o (Some (Err e)) = (resolves n o ≡ true) × (Err (abrupt_view e) ≡ resolved_kind l.program l.loaded (resolved_name n))
IsFound l n o (Some (Ok kind)) =
    (resolves n o ≡ true) × (Ok kind ≡ resolved_kind l.program l.loaded (resolved_name n)) × IsResolved l (resolved_name n) kind
