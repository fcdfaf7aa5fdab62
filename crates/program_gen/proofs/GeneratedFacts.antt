-- What holds of each class of a generated program, since each of its rows fits.
use Rattle.std.proofs.Common.{◌≡◌, ℕ, zero, suc, ◌+◌, ◌*◌, ◌<◌, ◌≤◌, List, [], ◌∷◌, length, map, refl, sym, subst, length-append, arith, lit<, lit≤}
use Rattle.std.specs.Prelude.{Result, Ok, Err, IfOk}
use Rattle.std.specs.List.{AllByRecursion}
use Rattle.std.proofs.lemmas.Nat.{mod_below}
use Rattle.std.proofs.lemmas.List.{length-map}
use Rattle.jf_bytes.specs.declared.error.NoMemory.{NoMemory}
use Rattle.jf_bytes.proofs.Lists.{each_push}
use Rattle.const_pool.specs.declared.class.ClassFile.{ClassFile}
use Rattle.program_gen.specs.declared.rows.ClassName.{ClassName}
use Rattle.program_gen.specs.declared.rows.ClassRow.{ClassRow}
use Rattle.program_gen.specs.declared.rows.Choices.{Choices}
use Rattle.program_gen.specs.Draws.{draw_at, superclass_of, choices_of}
use Rattle.program_gen.specs.Fits.{FitsName, FitsMethod, FitsClass}
use Rattle.program_gen.specs.Generated.{AreNamed, HasOwnPool, IsShortFile, classes_generated}
use Rattle.program_gen.specs.Making.{class_file_of}
use Rattle.program_gen.specs.Members.{HaveCodes, HaveMembers}
use Rattle.program_gen.specs.Programs.{constructor, run_method, main_row, numbered_row, rows_below, program_rows}
use Rattle.program_gen.proofs.MadeClasses.{class-holds}

-- ---- the rows fit

constructor-fits : (above : ClassName) → FitsName above → FitsMethod (constructor above)
constructor-fits above fits = record {
  access_fits = lit< tt;
  stack = lit< tt;
  locals = lit< tt;
  some = lit< tt;
  few = lit≤ tt;
  each = (lit< tt, ((lit< tt, fits), (lit< tt, tt)));
}

run-fits : (c : Choices) → c.left < 200 → c.right < 200 → FitsMethod (run_method c)
run-fits c left right = record {
  access_fits = lit< tt;
  stack = lit< tt;
  locals = lit< tt;
  some = lit< tt;
  few = lit≤ tt;
  each = (lit< tt, (lit< tt, (lit< tt, (lit< tt, ((lit< tt, left), (lit< tt, ((lit< tt, left), (lit< tt, (lit< tt, (lit< tt, (lit< tt, (lit< tt, (lit< tt, (lit< tt, (lit< tt, ((lit< tt, lit< tt), ((lit< tt, right), (lit< tt, ((lit< tt, right), (lit< tt, (lit< tt, (lit< tt, (lit< tt, ((lit< tt, lit< tt), (lit< tt, (lit< tt, tt))))))))))))))))))))))))));
}

main-fits : FitsClass main_row
main-fits = record {
  itself = lit≤ tt;
  above = lit≤ tt;
  few = lit≤ tt;
  each = (
    record {
      access_fits = lit< tt;
      stack = lit< tt;
      locals = lit< tt;
      some = lit< tt;
      few = lit≤ tt;
      each = ((lit< tt, lit≤ tt), ((lit< tt, lit< tt), (lit< tt, ((lit< tt, lit< tt), (lit< tt, ((lit< tt, lit< tt), ((lit< tt, lit< tt), ((lit< tt, lit≤ tt), (lit< tt, tt)))))))));
    },
    tt,
  );
}

superclass-fits : (seed i : ℕ) → i < 200 → FitsName (superclass_of seed i)
superclass-fits seed zero less = lit≤ tt
superclass-fits seed (suc i) less = let below = mod_below (draw_at seed (5 * i + 4)) (suc i) (omega arith) in omega (arith, below)

numbered-fits : (seed size i : ℕ) → 1 ≤ size → size ≤ 200 → i < size → FitsClass (numbered_row i (choices_of seed size i))
numbered-fits seed size i some most less =
    let left = mod_below (draw_at seed (5 * i)) size (omega arith) in
    let right = mod_below (draw_at seed (5 * i + 3)) size (omega arith) in
    let above = superclass-fits seed i (omega arith) in
    record {
      itself = omega arith;
      above = above;
      few = lit≤ tt;
      each = (constructor-fits (superclass_of seed i) above, (run-fits (choices_of seed size i) (omega (arith, left)) (omega (arith, right)), tt));
    }

below-fit : (seed size n : ℕ) → 1 ≤ size → size ≤ 200 → n ≤ size → AllByRecursion FitsClass (rows_below seed size n)
below-fit seed size zero some most le = tt
below-fit seed size (suc n) some most le =
    each_push FitsClass (rows_below seed size n) (numbered_row n (choices_of seed size n)) (below-fit seed size n some most (omega arith)) (numbered-fits seed size n some most (omega arith))

pub rows-fit : (seed size : ℕ) → 1 ≤ size → size ≤ 200 → AllByRecursion FitsClass (program_rows seed size)
rows-fit seed size some most = (main-fits, below-fit seed size size some most (omega arith))

-- ---- so what is made of them

count-below : (seed size n : ℕ) → length (rows_below seed size n) ≡ n
count-below seed size zero = refl
count-below seed size (suc n) =
    let one = length-append (rows_below seed size n) (numbered_row n (choices_of seed size n) ∷ []) in
    let rest = count-below seed size n in
    omega (arith, one, rest)

pub generated-count : (seed size : ℕ) → length (classes_generated seed size) ≡ size + 1
generated-count seed size =
    let all = length-map (program_rows seed size) class_file_of in
    let below = count-below seed size size in
    omega (arith, all, below)

short-classes : (rows : List ClassRow) → AllByRecursion FitsClass rows → AllByRecursion IsShortFile (map class_file_of rows)
short-classes [] fits = tt
short-classes (row ∷ rows) fits = ((class-holds row fits.0).short, short-classes rows fits.1)

named-classes : (rows : List ClassRow) → AllByRecursion FitsClass rows → AreNamed rows (map class_file_of rows)
named-classes [] fits = tt
named-classes (row ∷ rows) fits = ((class-holds row fits.0).named, named-classes rows fits.1)

member-classes : (rows : List ClassRow) → AllByRecursion FitsClass rows → HaveMembers rows (map class_file_of rows)
member-classes [] fits = tt
member-classes (row ∷ rows) fits = ((class-holds row fits.0).members, member-classes rows fits.1)

code-classes : (rows : List ClassRow) → AllByRecursion FitsClass rows → HaveCodes rows (map class_file_of rows)
code-classes [] fits = tt
code-classes (row ∷ rows) fits = ((class-holds row fits.0).codes, code-classes rows fits.1)

pool-classes : (rows : List ClassRow) → AllByRecursion FitsClass rows → AllByRecursion HasOwnPool (map class_file_of rows)
pool-classes [] fits = tt
pool-classes (row ∷ rows) fits = ((class-holds row fits.0).own_pool, pool-classes rows fits.1)

pub generated-short : (seed size : ℕ) → 1 ≤ size → size ≤ 200 → AllByRecursion IsShortFile (classes_generated seed size)
generated-short seed size some most = short-classes (program_rows seed size) (rows-fit seed size some most)

pub generated-named : (seed size : ℕ) → 1 ≤ size → size ≤ 200 → AreNamed (program_rows seed size) (classes_generated seed size)
generated-named seed size some most = named-classes (program_rows seed size) (rows-fit seed size some most)

pub generated-members : (seed size : ℕ) → 1 ≤ size → size ≤ 200 → HaveMembers (program_rows seed size) (classes_generated seed size)
generated-members seed size some most = member-classes (program_rows seed size) (rows-fit seed size some most)

pub generated-codes : (seed size : ℕ) → 1 ≤ size → size ≤ 200 → HaveCodes (program_rows seed size) (classes_generated seed size)
generated-codes seed size some most = code-classes (program_rows seed size) (rows-fit seed size some most)

pub generated-pools : (seed size : ℕ) → 1 ≤ size → size ≤ 200 → AllByRecursion HasOwnPool (classes_generated seed size)
generated-pools seed size some most = pool-classes (program_rows seed size) (rows-fit seed size some most)

-- what holds of the generated classes holds of an answer that is those
pub all-of : {V : Type 0} (items : V → List ClassFile) (P : List ClassFile → Type 0) (seed size : ℕ) → P (classes_generated seed size) → (r : Result V NoMemory)
    → IfOk r (λ v. items v ≡ classes_generated seed size) → IfOk r (λ v. P (items v))
all-of items P seed size holds (Ok v) is = subst P (sym is) holds
all-of items P seed size holds (Err e) is = tt
