-- What a read and a print do to the input and the output.
use Rattle.std.specs.Prelude.{ℕ, ◌+◌, ◌++◌, pos, negsuc, List, Some, slice_get, is_some, if◌then◌else◌}
use Rattle.std.specs.Option.{option_map_or}
use Rattle.jf_bytes.specs.Unicode.{utf8_of}
use Rattle.heap_objects.specs.declared.datum.Datum.TheVariants.{Int}
use Rattle.native_effects.specs.declared.effects.answer.Answer.{Answer}
use Rattle.native_effects.specs.declared.effects.answer.Answer.TheVariants.{Value}

-- the byte behind those that were read, and -1 at the end
abbrev pub answer_of_read : List ℕ → ℕ → Answer
answer_of_read input read = Value (Some (Int (option_map_or pos (slice_get input read) (negsuc 0))))

-- how many bytes are read then
abbrev pub after_read : List ℕ → ℕ → ℕ
after_read input read = if is_some (slice_get input read) then read + 1 else read

-- a text in UTF-8 behind what was written
abbrev pub with_output : List ℕ → List ℕ → List ℕ
with_output units written = written ++ utf8_of units
