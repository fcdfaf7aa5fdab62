-- The version that rewritten code is: at the home of each offset the line that goes with it, behind the leave probe if
-- one stands there.
use Rattle.std.specs.Prelude.{ℕ, ◌-◌, nat_lt, List, length, map, take, Option, None, true, if◌then◌else◌}
use Rattle.std.specs.List.{range_with_len}
use Rattle.std.specs.Option.{option_and_then, option_map}
use Rattle.const_pool.specs.declared.class.ClassFile.{ClassFile}
use Rattle.const_pool.specs.declared.class.CodeAttribute.{CodeAttribute}
use Rattle.code_model.specs.declared.laying.Homes.{Homes}
use Rattle.code_model.specs.Layout.{home_of, place_in}
use Rattle.prepared_lines.specs.declared.line.Line.{Line}
use Rattle.prepared_code.specs.declared.versions.Catching.{Catching}
use Rattle.prepared_code.specs.Tables.{Version}
use Rattle.prepared_code.specs.Entries.{catching_of, code_line}
use Rattle.jvm_model.specs.Codes.Homed.{start_in}
use Rattle.prepared_lines.specs.Probes.{entry_mark}

-- with the offset that it has in the original code
abbrev pub own_line : ℕ → Line → Line
own_line own line = record line { instr = record line.instr { at = own } }

-- what stands at a place, with that offset
abbrev pub placed_line : ClassFile → List ℕ → ℕ → ℕ → Option Line
placed_line image code place own = option_map (own_line own) (code_line image code place)

-- what goes with an offset of the original code, which has so many bytes
abbrev pub line_for : ClassFile → List ℕ → Homes → ℕ → ℕ → Option Line
line_for image code homes len at =
    if nat_lt at len then option_and_then (λ place. option_map (own_line at) (code_line image code place)) (place_in homes at) else None

-- at a home; elsewhere nothing
abbrev pub homed_line : ClassFile → List ℕ → Homes → ℕ → ℕ → Option Line
homed_line image code homes len home = option_and_then (line_for image code homes len) (start_in homes home)

abbrev pub homed_lines : ClassFile → List ℕ → Homes → ℕ → List (Option Line)
homed_lines image code homes len = map (homed_line image code homes len) (range_with_len 0 (length code))

-- ---- the version

-- all but the last
abbrev pub own_handlers : List Catching → List Catching
own_handlers hs = take (length hs - 1) hs

-- of the method with this number; the handler that takes what leaves the original code is none of its own
abbrev pub rewritten_version : ℕ → ClassFile → CodeAttribute → Homes → ℕ → Version
rewritten_version method image code homes len = record {
  method = method;
  prepared = record {
    has_lines = true;
    mark = entry_mark image code.code;
    first = home_of homes 0;
    lines = homed_lines image code.code homes len;
    handlers = own_handlers (map (catching_of image) code.handlers);
  };
}
