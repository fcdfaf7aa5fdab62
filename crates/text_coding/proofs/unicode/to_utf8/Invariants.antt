-- what is shown, and then what is left, is the whole text
use Rattle.std.proofs.Common.{◌≡◌, ◌++◌, length, string_bytes}
use Rattle.jf_bytes.specs.Unicode.{utf8_of}
use Rattle.text_coding.proofs.unicode.to_utf8.Given as goal

abbrev pub invariant-loop-rest : goal.invariant-loop-rest
invariant-loop-rest l = string_bytes l.shown ++ utf8_of l.rest ≡ utf8_of l.fn.text

abbrev pub decreases-loop-rest : goal.decreases-loop-rest
decreases-loop-rest l = length l.rest
