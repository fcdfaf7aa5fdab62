-- Texts that were decoded.
use Rattle.std.proofs.Common.{◌≡◌, ℕ, List, Result, Ok, Err, IfOk}
use Rattle.text_coding.specs.Spelling.{IsSpelling}
use Rattle.class_reader.specs.Decoding.{text_decoded}
use Rattle.class_reader.proofs.Decoded.{spelling-decoded}

pub text_found : {E : Type 0} (bytes : List ℕ) (r : Result (List ℕ) E) → IfOk r (λ units. IsSpelling bytes units) → IfOk r (λ units. text_decoded bytes ≡ Ok units)
text_found bytes (Ok units) h = spelling-decoded bytes units h
text_found bytes (Err e) h = tt
