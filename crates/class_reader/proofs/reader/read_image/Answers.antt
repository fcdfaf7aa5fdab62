use Rattle.std.proofs.Common.{arith}
use Rattle.const_pool.specs.ClassFile.{Spells}
use Rattle.class_reader.specs.Files.{IsImageFault}
use Rattle.class_reader.specs.Reading.{image_of}
use Rattle.class_reader.proofs.Files.{image_spells, spells_image, image_faults, faults_image, one_image_fault, no_image_fault}
use Rattle.class_reader.proofs.FileAnswers.{is_found, is_refused, gives_same}
use Rattle.class_reader.proofs.reader.read_image.Goals as goal

pub returns-clause-found : goal.returns-clause-found
returns-clause-found c =
    let bytes = c.args.bytes.now in
    is_found (Spells bytes) (IsImageFault bytes) (image_of bytes) (λ k e. image_spells bytes k (λ i. omega (arith, c.type_inv.bytes i)) e) c.image_in.result c.image_in.ensures

pub returns-clause-only : goal.returns-clause-only
returns-clause-only c = λ k h. gives_same c.image_in.result (image_of c.args.bytes.now) _ c.image_in.ensures (spells_image c.args.bytes.now k h)

pub returns-clause-refused : goal.returns-clause-refused
returns-clause-refused c =
    let bytes = c.args.bytes.now in
    is_refused (Spells bytes) (IsImageFault bytes) (image_of bytes) (λ fault e. image_faults bytes fault (λ i. omega (arith, c.type_inv.bytes i)) e) c.image_in.result c.image_in.ensures

pub returns-clause-first_fault : goal.returns-clause-first_fault
returns-clause-first_fault c = λ fault h. gives_same c.image_in.result (image_of c.args.bytes.now) _ c.image_in.ensures (faults_image c.args.bytes.now fault h)

pub returns-clause-one_fault : goal.returns-clause-one_fault
returns-clause-one_fault c = one_image_fault c.args.bytes.now

pub returns-clause-no_fault : goal.returns-clause-no_fault
returns-clause-no_fault c = no_image_fault c.args.bytes.now
