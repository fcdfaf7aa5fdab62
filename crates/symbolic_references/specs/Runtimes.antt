-- What all activations share, with the world that is run and the output: what clauses see of a Runtime, and what it
-- keeps to.
use Rattle.std.specs.Prelude.{ℕ, List, ◌++◌}
use Rattle.heap_objects.specs.declared.datum.Datum.{Datum}
use Rattle.heap_objects.specs.Heaps.{HeapView}
use Rattle.jvm_model.specs.declared.state.Shared.{Shared}
use Rattle.jvm_model.specs.Basis.Data.{World, Done}
use Rattle.class_linker.specs.Linkers.{LinkerView}
use Rattle.symbolic_references.specs.Natives.{HasBuiltIn}
use Rattle.member_selection.specs.Objects.{AreLoaded}
use Rattle.symbolic_references.specs.declared.program_tables.ProgramTables.{ProgramTables}
use Rattle.symbolic_references.specs.ProgramFacts.{AreTablesOf, HasExceptions}
use Rattle.member_selection.specs.Selections.{AreSelections, Slots}

pub record RuntimeView : Type 0 where
  pub world : World
  pub shared : Shared
  pub output : List ℕ

abbrev pub linker_in : RuntimeView → LinkerView
linker_in r = record { program = r.world.program; loaded = r.shared.loaded }

-- what it keeps to: the tables are the program's, the built-in classes are loaded, those of exceptions among them, the
-- class of each object is, and what was selected for receivers is what is selected for them
pub record IsRuntime (l : LinkerView) (t : ProgramTables) (kept : Slots) (h : HeapView) : Type 0 where
  pub tables : AreTablesOf l.program t
  pub built_in : HasBuiltIn l
  pub exceptions : HasExceptions l
  pub selections : AreSelections l.program kept
  pub objects : AreLoaded l h

-- what an instruction leaves and writes
abbrev pub after : Done → RuntimeView → RuntimeView
after d r = record r { shared = d.shared; output = r.output ++ d.wrote }

-- with this shared
abbrev pub with_shared : Shared → RuntimeView → RuntimeView
with_shared s r = record r { shared = s }

-- with these objects
abbrev pub with_heap : HeapView → RuntimeView → RuntimeView
with_heap heap r = record r { shared = record r.shared { heap = heap } }

-- with these objects and static fields
abbrev pub with_fields : HeapView → List (List Datum) → Shared → Shared
with_fields heap statics s = record s { heap = heap; statics = statics }

-- with these classes loaded
abbrev pub with_loaded : List ℕ → RuntimeView → RuntimeView
with_loaded loaded r = record r { shared = record r.shared { loaded = loaded } }
