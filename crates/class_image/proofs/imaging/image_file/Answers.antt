-- the image that was made was put
use Rattle.std.proofs.Common.{sym, ◌∙◌}
use Rattle.byte_streams.specs.Streams.{PutsAll}
use Rattle.class_image.proofs.Puts.{OnOk-map, PutsImage-found}
use Rattle.class_image.proofs.imaging.image_file.Goals as goal

pub returns-in-Ok-clause-put : goal.returns-in-Ok-clause-put
returns-in-Ok-clause-put g c =
    OnOk-map c.put_image.result (λ put.
    PutsImage-found PutsAll (g.F.Files.contents c.args.files.now) c.args.name.now c.args.first.now c.args.marks.now (g.O.Sink.taken c.args.out.now) (g.O.Sink.taken c.put_image.new.out)
    c.in-Some.number c.in-Ok-Some.letters c.as_slice.result.now c.in-Ok.image.items c.deref.result.now
    c.in-Some.ensures.number (sym c.in-Ok-Some.field-0-is ∙ c.in-Ok-Some.ensures) c.as_slice.ensures c.deref.ensures.value c.in-Ok.ensures.image put)
    c.put_image.ensures.all
