use Rattle.std.proofs.Common.{sym, ◌∙◌, subst}
use Rattle.class_reader.specs.Files.{IsFirstFault}
use Rattle.class_copy.specs.Copies.{IsSomeFile, IsFileTold}
use Rattle.class_copy.proofs.Fronts.{told_file, has_file, refusal}
use Rattle.class_copy.proofs.copying.copy_of.Goals as goal

pub returns-in-Ok-bytes_copied-clause-copied : goal.returns-in-Ok-bytes_copied-clause-copied
returns-in-Ok-bytes_copied-clause-copied g c =
    let files = g.F.Files.contents c.args.files.now in
    let fetched = told_file files c.args.name.now c.in-Ok.bytes.items c.in-Ok.ensures.found (subst IsSomeFile c.deref.ensures.value c.in-Ok-bytes_copied.ensures.file) in
    subst (IsFileTold files c.args.name.now) (sym (c.in-Ok-bytes_copied.ensures.same ∙ c.deref.ensures.value)) fetched

pub returns-in-Ok-bytes_copied-clause-answer : goal.returns-in-Ok-bytes_copied-clause-answer
returns-in-Ok-bytes_copied-clause-answer g c =
    let files = g.F.Files.contents c.args.files.now in
    let fetched = told_file files c.args.name.now c.in-Ok.bytes.items c.in-Ok.ensures.found (subst IsSomeFile c.deref.ensures.value c.in-Ok-bytes_copied.ensures.file) in
    has_file files c.args.name.now c.in-Ok.bytes.items fetched

pub returns-clause-answer : goal.returns-clause-answer
returns-clause-answer g c =
    refusal (g.F.Files.contents c.args.files.now) c.args.name.now c.in-Ok.bytes.items c.in-Err-bytes_copied.error c.in-Ok.ensures.found
    (λ fault e. subst (λ bytes. IsFirstFault bytes fault) c.deref.ensures.value (c.in-Err-bytes_copied.ensures.not_read fault e))
    c.in-Err-bytes_copied.ensures.not_put
