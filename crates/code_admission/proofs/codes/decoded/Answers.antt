use Rattle.std.proofs.Common.{List, ℕ, subst}
use Rattle.code_model.specs.declared.instr.Code.{Code}
use Rattle.code_model.specs.Reading.{Gives}
use Rattle.code_admission.specs.Codes.{instructions_of}
use Rattle.code_admission.proofs.Decoded.{answers, answers_within}
use Rattle.code_admission.proofs.codes.decoded.Goals as goal

pub returns-clause-reading : goal.returns-clause-reading
returns-clause-reading c =
    subst (λ (bytes : List ℕ). Gives (λ (code : Code). code.instrs) c.decode.result (instructions_of bytes)) c.as_slice.ensures
    (answers c.as_slice.result.now c.decode.result c.decode.ensures.found c.decode.ensures.refused)

pub returns-clause-within : goal.returns-clause-within
returns-clause-within c = answers_within c.as_slice.result.now c.decode.result c.decode.ensures.found c.decode.ensures.placed
