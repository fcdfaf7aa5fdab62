-- What is asked of the row of a method for its method to keep to the rules of admission, and that each row of a
-- generated program has it.
use Rattle.std.proofs.Common.{◌≡◌, ℕ, ◌<◌, ◌^◌, true, false, List, [], Option, None, Some, refl}
use Rattle.std.specs.Prelude.{◌||◌}
use Rattle.std.specs.Option.{option_and_then}
use Rattle.std.specs.List.{AllByRecursion}
use Rattle.const_pool.specs.declared.class.CodeAttribute.{CodeAttribute}
use Rattle.const_pool.specs.declared.descriptor.Kind.{Kind}
use Rattle.const_pool.specs.declared.descriptor.Kind.TheVariants as kind
use Rattle.const_pool.specs.declared.pool.Const.{Const}
use Rattle.const_pool.specs.declared.tail.Tail.{Tail}
use Rattle.op_table.specs.Opcodes.{row_of, groups}
use Rattle.code_model.specs.declared.instr.Instr.{Instr}
use Rattle.jvm_model.specs.declared.event.Mark.TheVariants as mark
use Rattle.jvm_model.specs.Basis.Methods.{has_flag}
use Rattle.inject_events.specs.declared.settings.Setting.{Setting}
use Rattle.inject_events.specs.Rewriting.{instrs_in, version_cause}
use Rattle.program_gen.specs.declared.rows.Choices.{Choices}
use Rattle.program_gen.specs.declared.rows.ClassName.{ClassName}
use Rattle.program_gen.specs.declared.rows.MethodRow.{MethodRow}
use Rattle.program_gen.specs.Names.{member_descriptor}
use Rattle.program_gen.specs.Programs.{constructor_code, run_code, entry_code, constructor, run_method, entry_method}
use Rattle.code_admission.specs.Codes.{method_with, falls}
use Rattle.code_admission.specs.Floating.{has_floats}
use Rattle.code_admission.specs.Texts.{is_method_text, method_kinds}
use Rattle.generated_programs.proofs.Forms.{instrs_of}
use Rattle.generated_programs.proofs.CodeRead.{IsFormed, HaveNamed}
use Rattle.generated_programs.proofs.FineInstructions.{IsFine}
use Rattle.generated_programs.proofs.MethodCodes.{constructor-formed, run-formed, entry-formed, constructor-fine, run-codes-fine, entry-fine, constructor-ends, run-ends, entry-ends}

-- a Code of these bytes, without handlers and attributes
abbrev pub code_with : ℕ → ℕ → List ℕ → CodeAttribute
code_with max_stack max_locals bytes = record { max_stack = max_stack; max_locals = max_locals; code = bytes; handlers = []; attributes = [] }

-- in a class whose frames do not count
abbrev pub plain_setting : Tail → Setting
plain_setting tail = record { framed = false; tail = tail }

abbrev pub CanBeRewritten : ℕ → ℕ → List Instr → Type 0
CanBeRewritten max_stack max_locals instrs =
    (tail : Tail) (number : ℕ) (bytes : List ℕ) → instrs_in bytes ≡ instrs → version_cause (plain_setting tail) number mark.Plain (code_with max_stack max_locals bytes) ≡ None

pub record IsFineRow (pool : List Const) (row : MethodRow) (result : Option Kind) : Type 0 where
  pub formed : AllByRecursion IsFormed row.code
  pub fine : (index : ℕ → ℕ) → HaveNamed pool row.code index → AllByRecursion (IsFine (method_with pool result (instrs_of 0 row.code index) row.max_locals)) (instrs_of 0 row.code index)
  pub ends : (index : ℕ → ℕ) → falls (instrs_of 0 row.code index) ≡ None
  pub version : (index : ℕ → ℕ) → CanBeRewritten row.max_stack row.max_locals (instrs_of 0 row.code index)
  pub gives : option_and_then (λ shape. shape.result) (method_kinds (member_descriptor row.name)) ≡ result
  pub described : is_method_text (member_descriptor row.name) ≡ true
  pub whole : has_floats (member_descriptor row.name) ≡ false
  pub bodied : (has_flag 256 row.access || has_flag 1024 row.access) ≡ false

-- ---- each can be rewritten

constructor-version : (above : ClassName) (index : ℕ → ℕ) → CanBeRewritten 1 1 (instrs_of 0 (constructor_code above) index)
unfolding row_of groups
constructor-version above index tail number bytes read = rw read refl

run-version : (c : Choices) (index : ℕ → ℕ) → CanBeRewritten 5 3 (instrs_of 0 (run_code c) index)
unfolding row_of groups
run-version c index tail number bytes read = rw read refl

entry-version : (index : ℕ → ℕ) → CanBeRewritten 4 1 (instrs_of 0 entry_code index)
unfolding row_of groups
entry-version index tail number bytes read = rw read refl

-- ---- the rows

pub constructor-row : (pool : List Const) (above : ClassName) → IsFineRow pool (constructor above) None
constructor-row pool above = record {
  formed = constructor-formed above;
  fine = constructor-fine pool above;
  ends = constructor-ends above;
  version = constructor-version above;
  gives = refl;
  described = refl;
  whole = refl;
  bodied = refl;
}

pub run-row : (pool : List Const) (c : Choices) → c.factor < 2 ^ 16 → c.addend < 2 ^ 16 → IsFineRow pool (run_method c) (Some kind.Int)
run-row pool c factor addend = record {
  formed = run-formed c factor addend;
  fine = run-codes-fine pool c;
  ends = run-ends c;
  version = run-version c;
  gives = refl;
  described = refl;
  whole = refl;
  bodied = refl;
}

pub entry-row : (pool : List Const) → IsFineRow pool entry_method None
entry-row pool = record {
  formed = entry-formed;
  fine = entry-fine pool;
  ends = entry-ends;
  version = entry-version;
  gives = refl;
  described = refl;
  whole = refl;
  bodied = refl;
}
