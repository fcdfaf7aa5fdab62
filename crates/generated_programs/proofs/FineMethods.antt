-- A method of a fine row keeps to the rules of admission.
use Rattle.std.proofs.Common.{◌≡◌, ℕ, ◌≤◌, true, false, List, [], ◌∷◌, length, Option, None, Some, Ok, refl, ap, sym, subst, ◌∙◌, length-append, arith}
use Rattle.std.specs.Prelude.{is_some, ◌||◌, not, ◌==◌, nat_lt, if◌then◌else◌, Result}
use Rattle.std.specs.Option.{option_and_then, option_map, option_map_or}
use Rattle.std.specs.List.{AllByRecursion, AllZip, flat_map}
use Rattle.const_pool.specs.declared.class.CodeAttribute.{CodeAttribute}
use Rattle.const_pool.specs.declared.class.Member.{Member}
use Rattle.const_pool.specs.declared.descriptor.Kind.{Kind}
use Rattle.const_pool.specs.declared.pool.Const.{Const}
use Rattle.const_pool.specs.declared.tail.Tail.{Tail}
use Rattle.code_model.specs.declared.error.CodeError.{CodeError}
use Rattle.code_model.specs.declared.instr.Instr.{Instr}
use Rattle.jvm_model.specs.declared.event.Mark.TheVariants as mark
use Rattle.jvm_model.specs.Basis.Methods.{has_flag, code_among, code_of}
use Rattle.inject_events.specs.Rewriting.{version_cause, cause_of_coded}
use Rattle.inject_events.proofs.InstrsIn.{instrs_in-is}
use Rattle.program_gen.specs.declared.rows.Instruction.{Instruction}
use Rattle.program_gen.specs.declared.rows.MethodRow.{MethodRow}
use Rattle.program_gen.specs.Members.{IsMethodOf, HasCodeOf, IsSpelled}
use Rattle.code_admission.specs.Checks.{first_in}
use Rattle.code_admission.specs.Codes as codes
use Rattle.code_admission.specs.Floating.{describes_floats, first_floating, floating_body, has_floats}
use Rattle.admit_check.specs.Shapes.{code_count, has_wrong_code_count, has_wrong_text}
use Rattle.code_admission.specs.Texts.{is_method_text, method_kinds}
use Rattle.code_admission.proofs.Decoded.{reading_found}
use Rattle.generated_programs.proofs.Forms.{instrs_of}
use Rattle.generated_programs.proofs.CodeRead.{IsFormed, AreRead, one-read, code-read}
use Rattle.generated_programs.proofs.FineInstructions.{IsFine}
use Rattle.generated_programs.proofs.FineRows.{IsFineRow, code_with, plain_setting}

-- what the rules of admission ask of one method
pub record IsFineMethod (pool : List Const) (m : Member) : Type 0 where
  pub described : has_wrong_text is_method_text pool m ≡ false
  pub bodied : has_wrong_code_count m ≡ false
  pub fits : (k at : ℕ) → codes.method_fault k pool at m ≡ None
  pub whole : describes_floats pool m ≡ false
  pub no_floats : (k at : ℕ) → floating_body k pool at (codes.reading_of m) ≡ None
  pub coded : is_some (code_of m) ≡ true
  pub version : (tail : Tail) (number : ℕ) → cause_of_coded (plain_setting tail) number mark.Plain (code_of m) ≡ None

-- ---- the code

each-some : (pool : List Const) (rows : List Instruction) (parts : List (List ℕ)) → AllByRecursion IsFormed rows → AllZip (IsSpelled pool) rows parts
    → length rows ≤ length (flat_map (λ part. part) parts)
each-some pool [] [] formed spelled = omega arith
each-some pool [] (part ∷ parts) formed spelled = absurd spelled
each-some pool (i ∷ rows) [] formed spelled = absurd spelled
each-some pool (i ∷ rows) (part ∷ parts) formed spelled =
    let one = (one-read pool 0 i part formed.0 spelled.0).some in
    let rest = each-some pool rows parts formed.1 spelled.1 in
    omega (arith, one, rest, length-append part (flat_map (λ part. part) parts))

whole-code : (rows : List Instruction) (pool : List Const) (parts : List (List ℕ)) (bytes : List ℕ) → AllByRecursion IsFormed rows → AllZip (IsSpelled pool) rows parts
    → bytes ≡ flat_map (λ part. part) parts → AreRead pool (length bytes) 0 rows bytes
whole-code rows pool parts bytes formed spelled joined =
    subst (λ bs. AreRead pool (length bs) 0 rows bs) (sym joined)
    (code-read rows pool (length (flat_map (λ part. part) parts)) 0 parts (each-some pool rows parts formed spelled) formed spelled)

first-fine : (m : codes.Method) (is : List Instr) → AllByRecursion (IsFine m) is → first_in (codes.instr_fault m) is ≡ None
first-fine m [] fine = refl
first-fine m (i ∷ is) fine = rw fine.0.fits (first-fine m is fine.1)

first-whole : (m : codes.Method) (is : List Instr) → AllByRecursion (IsFine m) is → first_floating m.pool is ≡ None
first-whole m [] fine = refl
first-whole m (i ∷ is) fine = rw fine.0.whole (first-whole m is fine.1)

code-fine : (pool : List Const) (result : Option Kind) (max_stack max_locals : ℕ) (bytes : List ℕ) (is : List Instr) → codes.instructions_of bytes ≡ Ok is
    → AllByRecursion (IsFine (codes.method_with pool result is max_locals)) is → codes.falls is ≡ None → codes.code_fault pool result (code_with max_stack max_locals bytes) ≡ None
code-fine pool result max_stack max_locals bytes is read fine ends =
    let m = codes.method_with pool result is max_locals in
    let code = code_with max_stack max_locals bytes in
    ap (λ (r : Result (List Instr) CodeError). codes.fault_by pool result code r) read
    ∙ (rw (first-fine m is fine, ends) refl)

-- ---- the method

module _ (pool : List Const) (row : MethodRow) (result : Option Kind) (m : Member) (fine : IsFineRow pool row result) (of_row : IsMethodOf pool row m) (code : HasCodeOf pool row m) where
  abbrev made : CodeAttribute
  made = code_with row.max_stack row.max_locals code.bytes

  coded-is : code_of m ≡ Some made
  coded-is = ap code_among code.is

  instrs-read : AreRead pool (length code.bytes) 0 row.code code.bytes
  instrs-read = whole-code row.code pool code.code.parts code.bytes fine.formed code.code.each code.code.joined

  abbrev instrs : List Instr
  instrs = instrs_of 0 row.code instrs-read.index

  is-read : codes.instructions_of code.bytes ≡ Ok instrs
  unfolding codes.instructions_of
  is-read = instrs-read.read

  result-is : codes.result_of pool m ≡ result
  result-is = ap (λ o. option_and_then (λ shape. shape.result) (option_and_then method_kinds o)) of_row.descriptor ∙ fine.gives

  each-fine : AllByRecursion (IsFine (codes.method_with pool result instrs row.max_locals)) instrs
  each-fine = fine.fine instrs-read.index instrs-read.named

  fault-none : codes.code_fault pool (codes.result_of pool m) made ≡ None
  fault-none =
      ap (λ r. codes.code_fault pool r made) result-is
      ∙ code-fine pool result row.max_stack row.max_locals code.bytes instrs is-read each-fine (fine.ends instrs-read.index)

  reading-is : codes.reading_of m ≡ Some (Ok instrs)
  reading-is = ap (λ o. option_map (λ (c : CodeAttribute). codes.instructions_of c.code) o) coded-is ∙ ap (λ r. Some r) is-read

  version-none : (tail : Tail) (number : ℕ) → version_cause (plain_setting tail) number mark.Plain made ≡ None
  version-none tail number =
      fine.version instrs-read.index tail number code.bytes
      (instrs_in-is code.bytes (record { instrs = instrs; len = length code.bytes }) (reading_found code.bytes instrs is-read))

  pub method-fine : IsFineMethod pool m
  method-fine = record {
    described = ap (λ o. not (option_map_or is_method_text o false)) of_row.descriptor ∙ ap not fine.described;
    bodied = ap (λ a. if has_flag 256 a || has_flag 1024 a then nat_lt 0 (code_count m.attributes) else not (code_count m.attributes == 1)) of_row.access
        ∙ (rw fine.bodied (ap (λ attributes. not (code_count attributes == 1)) code.is));
    fits = λ k at. ap (λ o. option_map (codes.told_in k at) (option_and_then (codes.code_fault pool (codes.result_of pool m)) o)) coded-is ∙ ap (option_map (codes.told_in k at)) fault-none;
    whole = ap (λ o. option_map_or has_floats o false) of_row.descriptor ∙ fine.whole;
    no_floats = λ k at. (rw (reading-is, first-whole (codes.method_with pool result instrs row.max_locals) instrs each-fine) refl);
    coded = ap is_some coded-is;
    version = λ tail number. ap (cause_of_coded (plain_setting tail) number mark.Plain) coded-is ∙ version-none tail number;
  }
