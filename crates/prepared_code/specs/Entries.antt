-- What is kept of one method of a program.
use Rattle.std.specs.Prelude.{ℕ, List, [], length, map, slice_get, Option, Some, None, true, ◌==◌, if◌then◌else◌}
use Rattle.std.specs.List.{range_with_len}
use Rattle.std.specs.Option.{option_and_then, option_map, option_map_or}
use Rattle.const_pool.specs.declared.class.ClassFile.{ClassFile}
use Rattle.const_pool.specs.declared.class.Handler.{Handler}
use Rattle.const_pool.specs.declared.class.Member.{Member}
use Rattle.const_pool.specs.References.{named_class}
use Rattle.const_pool.specs.declared.descriptor.Kind.{Kind}
use Rattle.code_model.specs.Instructions.{instruction_at}
use Rattle.jvm_model.specs.declared.event.Mark.TheVariants.{Off}
use Rattle.jvm_model.specs.declared.program.MethodPlace.{MethodPlace}
use Rattle.jvm_model.specs.declared.program.Program.{Program}
use Rattle.jvm_model.specs.Basis.Methods.{code_of, member_shape}
use Rattle.jvm_model.specs.Basis.Programs.{class_at}
use Rattle.prepared_lines.specs.declared.line.Line.{Line}
use Rattle.symbolic_references.specs.declared.program_tables.Method.{Method}
use Rattle.prepared_code.specs.declared.versions.Catching.{Catching}
use Rattle.prepared_code.specs.Tables.{Version, Versions}
use Rattle.prepared_lines.specs.Lines.{line_of}

-- ---- of a method of a class

-- the kinds of its parameters
abbrev pub params_of : ClassFile → Member → Option (List Kind)
params_of c m = option_map (λ shape. shape.params) (member_shape c.pool m)

-- the line at an offset of a code, and those at all its offsets
abbrev pub code_line : ClassFile → List ℕ → ℕ → Option Line
code_line c code at = option_and_then (line_of c) (instruction_at code at)

abbrev pub lines_of : ClassFile → List ℕ → List (Option Line)
lines_of c code = map (code_line c code) (range_with_len 0 (length code))

abbrev pub entry_of : ClassFile → Member → Method
entry_of c m = record {
  params = params_of c m;
  max_stack = option_map_or (λ code. code.max_stack) (code_of m) 0;
  max_locals = option_map_or (λ code. code.max_locals) (code_of m) 0;
}

-- ---- of a method by its place; nothing where a program has none there

abbrev pub no_method : Method
no_method = record { params = None; max_stack = 0; max_locals = 0 }

abbrev pub entry_in : MethodPlace → ClassFile → Method
entry_in place c = option_map_or (entry_of c) (slice_get c.methods place.position) no_method

abbrev pub entry_at : Program → MethodPlace → Method
entry_at p place = option_map_or (entry_in place) (class_at p place.class) no_method

-- ---- the version that a method is

-- an entry of an exception table; catch_type 0 catches all
abbrev pub catching_of : ClassFile → Handler → Catching
catching_of c h = record { start = h.start; end = h.end; target = h.handler; catches = if h.catch_class == 0 then None else named_class c.pool h.catch_class }

abbrev pub version_entry : ℕ → ClassFile → Member → Version
version_entry k c m = record {
  method = k;
  prepared = record {
    has_lines = true;
    mark = Off;
    first = 0;
    lines = option_map_or (λ code. lines_of c code.code) (code_of m) [];
    handlers = option_map_or (λ code. map (catching_of c) code.handlers) (code_of m) [];
  };
}

abbrev pub no_version : ℕ → Version
no_version k = record { method = k; prepared = record { has_lines = true; mark = Off; first = 0; lines = []; handlers = [] } }

abbrev pub version_in : ℕ → MethodPlace → ClassFile → Version
version_in k place c = option_map_or (version_entry k c) (slice_get c.methods place.position) (no_version k)

abbrev pub version_of : Program → ℕ → MethodPlace → Version
version_of p k place = option_map_or (version_in k place) (class_at p place.class) (no_version k)

-- of the method with this number
abbrev pub original_version : Program → ℕ → Version
original_version p k = option_map_or (version_of p k) (slice_get p.methods k) (no_version k)

abbrev pub original_slot : Program → ℕ → Option Version
original_slot p k = Some (original_version p k)

abbrev pub own_number : ℕ → ℕ
own_number k = k

-- original code: each method is in its one version, which has its number
abbrev pub original_versions : Program → Versions
original_versions p = record {
  slots = map (original_slot p) (range_with_len 0 (length p.methods));
  current = map own_number (range_with_len 0 (length p.methods));
}
