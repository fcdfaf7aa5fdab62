-- The bytes of the generated classes are files of them.
use Rattle.std.proofs.Common.{ℕ, ◌≤◌, List, [], ◌∷◌, map, refl}
use Rattle.std.specs.List.{AllByRecursion, AllZip}
use Rattle.const_pool.specs.ClassFile.{class_bytes}
use Rattle.class_reader.specs.Files.{IsFile}
use Rattle.program_gen.specs.declared.rows.ClassRow.{ClassRow}
use Rattle.program_gen.specs.Making.{class_file_of}
use Rattle.program_gen.specs.Programs.{program_rows}
use Rattle.generated_programs.specs.Admitted.{AreGeneratedFiles, generated_contents}
use Rattle.generated_programs.proofs.GeneratedFine.{IsFineRowClass, rows-fine}

each-file : (rows : List ClassRow) → AllByRecursion IsFineRowClass rows → AllZip IsFile (map class_bytes (map class_file_of rows)) (map class_file_of rows)
each-file [] fine = tt
each-file (row ∷ rows) fine =
    (record { short = fine.0.well.short; spells = record { spelled = refl; formed = fine.0.well.formed } }, each-file rows fine.1)

pub generated-files : (seed size : ℕ) → 1 ≤ size → size ≤ 200 → AreGeneratedFiles seed size (generated_contents seed size)
generated-files seed size some most = each-file (program_rows seed size) (rows-fine seed size some most)
