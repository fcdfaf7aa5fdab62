-- The generated classes keep to the rules of admission.
use Rattle.std.proofs.Common.{◌≡◌, ℕ, zero, suc, ◌+◌, ◌*◌, ◌<◌, ◌≤◌, ◌^◌, false, List, [], ◌∷◌, ◌++◌, length, map, None, Some, refl, arith, lit≤}
use Rattle.std.specs.Prelude.{◌≢◌}
use Rattle.std.specs.List.{AllByRecursion, AllZip}
use Rattle.jf_bytes.proofs.Lists.{each_push}
use Rattle.const_pool.specs.declared.class.ClassFile.{ClassFile}
use Rattle.const_pool.specs.declared.class.Member.{Member}
use Rattle.const_pool.specs.declared.descriptor.Kind.TheVariants as kind
use Rattle.const_pool.specs.declared.pool.Const.{Const}
use Rattle.program_gen.specs.declared.rows.Choices.{Choices}
use Rattle.program_gen.specs.declared.rows.ClassRow.{ClassRow}
use Rattle.program_gen.specs.Draws.{next_state, number_of, state_at, draw_at, choices_of}
use Rattle.program_gen.specs.Fits.{FitsClass}
use Rattle.program_gen.specs.Generated.{AreDistinct, IsOwnName, classes_generated, names_of}
use Rattle.program_gen.specs.Making.{class_file_of}
use Rattle.program_gen.specs.Members.{HasCodeOf, IsMethodOf}
use Rattle.program_gen.specs.Names.{class_text}
use Rattle.program_gen.specs.Programs.{constructor, run_method, entry_method, main_row, numbered_row, rows_below, program_rows}
use Rattle.program_gen.proofs.DistinctNames.{own-names}
use Rattle.program_gen.proofs.GeneratedFacts.{rows-fit}
use Rattle.program_gen.proofs.MadeClasses.{IsWell, class-holds}
use Rattle.admit_check.specs.Admission.{class_fault, classes_fault}
use Rattle.admit_check.specs.Shapes.{has_twins}
use Rattle.generated_programs.proofs.FewMethods.{HasFewMethods}
use Rattle.generated_programs.proofs.FineClasses.{IsFineClass, class-fine}
use Rattle.generated_programs.proofs.FineMethods.{IsFineMethod, method-fine}
use Rattle.generated_programs.proofs.FineNames.{HasOwnName, name-fine}
use Rattle.generated_programs.proofs.FineRows.{constructor-row, run-row, entry-row}

-- ---- the methods of a class

pub record AreFineMethods (pool : List Const) (ms : List Member) : Type 0 where
  pub each : AllByRecursion (IsFineMethod pool) ms
  pub twins : has_twins pool ms ≡ false
  pub few : length ms ≤ 100

main-methods : (pool : List Const) (ms : List Member) → AllZip (IsMethodOf pool) (entry_method ∷ []) ms → AllZip (HasCodeOf pool) (entry_method ∷ []) ms → AreFineMethods pool ms
main-methods pool [] of_rows codes = absurd of_rows
main-methods pool (m ∷ []) of_rows codes = record {
  each = (method-fine pool entry_method None m (entry-row pool) of_rows.0 codes.0, tt);
  twins = refl;
  few = lit≤ tt;
}
main-methods pool (m ∷ n ∷ ms) of_rows codes = absurd of_rows.1

numbered-methods : (pool : List Const) (c : Choices) (ms : List Member) → c.factor < 2 ^ 16 → c.addend < 2 ^ 16
    → AllZip (IsMethodOf pool) (constructor c.superclass ∷ run_method c ∷ []) ms → AllZip (HasCodeOf pool) (constructor c.superclass ∷ run_method c ∷ []) ms → AreFineMethods pool ms
numbered-methods pool c [] factor addend of_rows codes = absurd of_rows
numbered-methods pool c (m ∷ []) factor addend of_rows codes = absurd of_rows.1
numbered-methods pool c (m ∷ n ∷ []) factor addend of_rows codes = record {
  each = (
    method-fine pool (constructor c.superclass) None m (constructor-row pool c.superclass) of_rows.0 codes.0,
    (method-fine pool (run_method c) (Some kind.Int) n (run-row pool c factor addend) of_rows.1.0 codes.1.0, tt),
  );
  twins = rw (of_rows.0.name, of_rows.1.0.name) refl;
  few = lit≤ tt;
}
numbered-methods pool c (m ∷ n ∷ o ∷ ms) factor addend of_rows codes = absurd of_rows.1.1

-- ---- the classes

pub record IsFineRowClass (row : ClassRow) : Type 0 where
  pub well : IsWell row
  pub fine : IsFineClass (class_file_of row)
  pub few : HasFewMethods (class_file_of row)

of-methods : (row : ClassRow) → IsWell row → AreFineMethods (class_file_of row).pool (class_file_of row).methods → IsFineRowClass row
of-methods row well methods = record {
  well = well;
  fine = record {
    major = well.members.major;
    fields = well.members.fields;
    methods = methods.each;
    twins = methods.twins;
    gaps = well.gaps;
    room = well.own_pool.few;
  };
  few = methods.few;
}

main-class : FitsClass main_row → IsFineRowClass main_row
main-class fits =
    let well = class-holds main_row fits in
    of-methods main_row well (main-methods (class_file_of main_row).pool (class_file_of main_row).methods well.members.methods well.codes)

numbered-class : (number : ℕ) (c : Choices) → c.factor < 2 ^ 16 → c.addend < 2 ^ 16 → FitsClass (numbered_row number c) → IsFineRowClass (numbered_row number c)
numbered-class number c factor addend fits =
    let row = numbered_row number c in
    let well = class-holds row fits in
    of-methods row well (numbered-methods (class_file_of row).pool c (class_file_of row).methods factor addend well.members.methods well.codes)

-- a draw is a number of 15 bits
draw-short : (seed place : ℕ) → draw_at seed place < 2 ^ 16
draw-short seed place = short (state_at seed place)
  where
    short : (x : ℕ) → number_of (next_state x) < 2 ^ 16
    short x = omega arith

below-fine : (seed size n : ℕ) → AllByRecursion FitsClass (rows_below seed size n) → AllByRecursion IsFineRowClass (rows_below seed size n)
below-fine seed size zero fits = tt
below-fine seed size (suc n) fits =
    let row = numbered_row n (choices_of seed size n) in
    let parts = split (rows_below seed size n) row fits in
    each_push IsFineRowClass (rows_below seed size n) row (below-fine seed size n parts.0)
    (numbered-class n (choices_of seed size n) (draw-short seed (5 * n + 1)) (draw-short seed (5 * n + 2)) parts.1)
  where
    split : (rows : List ClassRow) (row : ClassRow) → AllByRecursion FitsClass (rows ++ row ∷ []) → AllByRecursion FitsClass rows × FitsClass row
    split [] row all = (tt, all.0)
    split (r ∷ rows) row all = let more = split rows row all.1 in ((all.0, more.0), more.1)

pub rows-fine : (seed size : ℕ) → 1 ≤ size → size ≤ 200 → AllByRecursion IsFineRowClass (program_rows seed size)
rows-fine seed size some most =
    let fits = rows-fit seed size some most in
    (main-class fits.0, below-fine seed size size fits.1)

pub generated-few : (rows : List ClassRow) → AllByRecursion IsFineRowClass rows → AllByRecursion HasFewMethods (map class_file_of rows)
generated-few [] all = tt
generated-few (row ∷ rows) all = (all.0.few, generated-few rows all.1)

-- ---- one after the other

-- each of these names differs from each of those
abbrev AreUnlike : List (List ℕ) → List (List ℕ) → Type 0
AreUnlike others names = AllByRecursion (λ name. AllByRecursion (λ other. other ≢ name) others) names

unlike-push : (others : List (List ℕ)) (first : List ℕ) (names : List (List ℕ)) → AreUnlike others names → AllByRecursion (λ other. first ≢ other) names → AreUnlike (others ++ first ∷ []) names
unlike-push others first [] each differ = tt
unlike-push others first (name ∷ names) each differ =
    (each_push (λ other. other ≢ name) others first each.0 differ.0, unlike-push others first names each.1 differ.1)

zip-push : (names : List (List ℕ)) (earlier : List ClassFile) (name : List ℕ) (c : ClassFile) → AllZip HasOwnName names earlier → HasOwnName name c
    → AllZip HasOwnName (names ++ name ∷ []) (earlier ++ c ∷ [])
zip-push [] [] name c all one = (one, tt)
zip-push [] (e ∷ earlier) name c all one = absurd all
zip-push (n ∷ names) [] name c all one = absurd all
zip-push (n ∷ names) (e ∷ earlier) name c all one = (all.0, zip-push names earlier name c all.1 one)

none-of : (rows : List ClassRow) (names : List (List ℕ)) (earlier : List ClassFile) → AllZip HasOwnName names earlier → AllByRecursion IsFineRowClass rows → AreDistinct (names_of rows)
    → AllByRecursion IsOwnName (names_of rows) → AreUnlike names (names_of rows) → classes_fault earlier (map class_file_of rows) ≡ None
none-of [] names earlier have fine distinct own unlike = refl
none-of (row ∷ rows) names earlier have fine distinct own unlike =
    let c = class_file_of row in
    let name = class_text row.name in
    let named : HasOwnName name c = fine.0.well.named.name in
    let free = name-fine earlier names (length earlier) c name have named own.0 fine.0.well.own_pool unlike.0 in
    let here : class_fault earlier (length earlier) c ≡ None = class-fine (length earlier) row c _ fine.0.well.named fine.0.fine free in
    rw here (none-of rows (names ++ name ∷ []) (earlier ++ c ∷ []) (zip-push names earlier name c have named) fine.1 distinct.1 own.1
    (unlike-push names name (names_of rows) unlike.1 distinct.0))

pub generated-fine : (seed size : ℕ) → 1 ≤ size → size ≤ 200 → classes_fault [] (classes_generated seed size) ≡ None
generated-fine seed size some most =
    let names = own-names seed size most in
    none-of (program_rows seed size) [] [] tt (rows-fine seed size some most) names.distinct names.own (none-yet (names_of (program_rows seed size)))
  where
    none-yet : (ns : List (List ℕ)) → AreUnlike [] ns
    none-yet [] = tt
    none-yet (n ∷ ns) = (tt, none-yet ns)
