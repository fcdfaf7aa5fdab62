use Rattle.std.proofs.Common.{arith}
use Rattle.class_reader.specs.Files.{IsFile, IsFirstFault}
use Rattle.class_reader.specs.Reading.{file_of}
use Rattle.class_reader.proofs.Files.{file_spells, spells_file, file_faults, faults_file, one_class, one_fault, no_first_fault}
use Rattle.class_reader.proofs.Bridge.{class-spelled, spelled-class}
use Rattle.class_reader.proofs.FileAnswers.{is_found, is_refused, gives_same}
use Rattle.class_reader.proofs.reader.read_class.Goals as goal

pub returns-clause-found : goal.returns-clause-found
returns-clause-found c =
    let bytes = c.args.bytes.now in
    is_found (IsFile bytes) (IsFirstFault bytes) (file_of bytes) (λ k e. file_spells bytes k (λ i. omega (arith, c.type_inv.bytes i)) e) c.file_in.result c.file_in.ensures

pub returns-clause-only : goal.returns-clause-only
returns-clause-only c = λ k h. gives_same c.file_in.result (file_of c.args.bytes.now) _ c.file_in.ensures (spells_file c.args.bytes.now k h)

pub returns-clause-refused : goal.returns-clause-refused
returns-clause-refused c =
    let bytes = c.args.bytes.now in
    is_refused (IsFile bytes) (IsFirstFault bytes) (file_of bytes) (λ fault e. file_faults bytes fault (λ i. omega (arith, c.type_inv.bytes i)) e) c.file_in.result c.file_in.ensures

pub returns-clause-first_fault : goal.returns-clause-first_fault
returns-clause-first_fault c = λ fault h. gives_same c.file_in.result (file_of c.args.bytes.now) _ c.file_in.ensures (faults_file c.args.bytes.now fault h)

pub returns-clause-one_class : goal.returns-clause-one_class
returns-clause-one_class c = one_class c.args.bytes.now

pub returns-clause-one_fault : goal.returns-clause-one_fault
returns-clause-one_fault c = one_fault c.args.bytes.now

pub returns-clause-no_fault : goal.returns-clause-no_fault
returns-clause-no_fault c = no_first_fault c.args.bytes.now

pub returns-clause-same_format : goal.returns-clause-same_format
returns-clause-same_format c = λ k. (class-spelled c.args.bytes.now k, spelled-class c.args.bytes.now k)
