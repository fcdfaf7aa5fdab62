-- Texts of a class file as the report shows them.
use Rattle.std.specs.Prelude.{ℕ, List, [], Option, Some, None}
use Rattle.jf_bytes.specs.Unicode.{utf8_of}

-- a text that the pool may have, in UTF-8; where it has none, nothing
abbrev pub text_shown : Option (List ℕ) → List ℕ
text_shown None = []
text_shown (Some text) = utf8_of text
