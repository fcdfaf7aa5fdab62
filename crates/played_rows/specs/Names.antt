-- Which classes of a program words name.
use Rattle.std.specs.Prelude.{ℕ, ◌^◌, List, Option, Some, None, nat_lt, if◌then◌else◌}
use Rattle.std.specs.Option.{option_and_then}
use Rattle.jf_bytes.specs.Unicode.{utf16_of}
use Rattle.jvm_model.specs.declared.program.Program.{Program}
use Rattle.jvm_model.specs.Basis.Programs.{class_named}
use Rattle.played_rows.specs.Words.{all_found, words_in}

-- a position that is a number of 32 bits, as classes and methods are numbered
abbrev pub in_32_bits : Option ℕ → Option ℕ
in_32_bits found = option_and_then (λ n. if nat_lt n (2 ^ 32) then Some n else None) found

-- the position of the class of this name
abbrev pub class_called : Program → List ℕ → Option ℕ
class_called p name = in_32_bits (class_named p (utf16_of name))

-- the classes that the words of a text name
abbrev pub classes_called : Program → List ℕ → Option (List ℕ)
classes_called p words = all_found (class_called p) (words_in 32 words)
