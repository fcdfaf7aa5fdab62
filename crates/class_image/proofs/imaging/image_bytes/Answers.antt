-- the class can be rewritten, and its image written
use Rattle.std.proofs.Common.{refl, ap, subst, ◌∙◌}
use Rattle.const_pool.specs.ClassFile.{class_bytes}
use Rattle.class_writer.proofs.Fitting.{fits_class}
use Rattle.inject_events.specs.declared.image.Image.{Image}
use Rattle.inject_events.specs.Answers.{MarkedHaveCode}
use Rattle.class_image.proofs.Profilable.{memory-alone}
use Rattle.class_image.proofs.imaging.image_bytes.Goals as goal

pub want_of_memory-requires : goal.want_of_memory-requires
want_of_memory-requires c =
    memory-alone c.in-Err-instrument.error (c.in-Err-instrument.ensures.profilable (subst (MarkedHaveCode c.args.marks.now) c.as_slice.ensures (c.if-not-marked_have_code.ensures.have refl)) c.in-Ok.ensures.profilable)

pub write_fitting-requires : goal.write_fitting-requires
write_fitting-requires c = fits_class c.in-Ok-instrument.image.class (c.in-Ok-instrument.ensures.formed c.in-Ok.ensures.admitted.file.spells.formed)

pub returns-in-Ok-write_fitting-clause-image : goal.returns-in-Ok-write_fitting-clause-image
returns-in-Ok-write_fitting-clause-image c =
    let answer = c.in-Ok-instrument.ensures.answer in
    record {
      class = c.in-Ok.class;
      admitted = c.in-Ok.ensures.admitted;
      counted = c.if-marks-len.false ∙ c.len.ensures;
      coded = subst (MarkedHaveCode c.args.marks.now) c.as_slice.ensures (c.if-not-marked_have_code.ensures.have refl);
      profilable = answer.0;
      image = c.in-Ok-write_fitting.ensures ∙ ap (λ (i : Image). class_bytes i.class) answer.1;
    }
