-- An instruction that names one of the classes, or a member of one, keeps to the rules of admission.
use Rattle.std.proofs.Common.{◌≡◌, ℕ, true, false, List, Option, Some, None, refl}
use Rattle.std.specs.Prelude.{if◌then◌else◌}
use Rattle.std.specs.Option.{option_map_or, ok_or}
use Rattle.std.specs.Result.{result_ok}
use Rattle.const_pool.specs.declared.pool.Const.{Const}
use Rattle.const_pool.specs.declared.pool.Const.TheVariants.{Gap, Utf8, Integer, Float, Long, Double, Class, Text, Field, Method, InterfaceMethod, NameType}
use Rattle.const_pool.specs.declared.pool.PoolError.TheVariants.{BadIndex}
use Rattle.const_pool.specs.Pool.{entry_at}
use Rattle.const_pool.specs.References.{◌>>=◌, Reference, class_entry, is_field, is_method, named_class, named_field, named_member, named_method}
use Rattle.op_table.specs.Opcodes.{row_of, groups}
use Rattle.code_model.specs.declared.instr.Instr.{Instr}
use Rattle.program_gen.specs.declared.rows.ClassName.{ClassName}
use Rattle.program_gen.specs.declared.rows.ClassName.TheVariants.{Object, System, PrintStream, Main, Numbered}
use Rattle.program_gen.specs.declared.rows.MemberName.TheVariants.{Initializer, Run, Out, Println}
use Rattle.program_gen.specs.declared.rows.Instruction.TheVariants.{OfClass, OfMember}
use Rattle.program_gen.specs.Names.{class_text}
use Rattle.program_gen.specs.Members.{reference_of}
use Rattle.code_admission.specs.Texts.{dimensions_of, is_class_name}
use Rattle.code_admission.specs.Codes as codes
use Rattle.code_admission.specs.Floating.{is_floating_entry, is_floating_index, is_floating_instr, is_floats_name, names_floats}
use Rattle.generated_programs.proofs.Forms.{instr_of}

-- an instruction without a fault, which uses no floats
pub record IsFine (m : codes.Method) (i : Instr) : Type 0 where
  pub fits : codes.cause_of m i ≡ None
  pub whole : is_floating_instr m.pool i ≡ false

-- ---- the names of classes

pub is-class-text : (c : ClassName) → is_class_name (class_text c) ≡ true
is-class-text Object = refl
is-class-text System = refl
is-class-text PrintStream = refl
is-class-text Main = refl
is-class-text (Numbered n) = refl

pub no-dimensions : (c : ClassName) → dimensions_of (class_text c) ≡ 0
no-dimensions Object = refl
no-dimensions System = refl
no-dimensions PrintStream = refl
no-dimensions Main = refl
no-dimensions (Numbered n) = refl

pub no-floats-text : (c : ClassName) → is_floats_name (class_text c) ≡ false
no-floats-text Object = refl
no-floats-text System = refl
no-floats-text PrintStream = refl
no-floats-text Main = refl
no-floats-text (Numbered n) = refl

-- ---- what an index names is of no floats

class-whole : (pool : List Const) (index : ℕ) (text : List ℕ) → named_class pool index ≡ Some text → is_floats_name text ≡ false → is_floating_index pool index ≡ false
class-whole pool index text named none = by (entry_at pool index) named
  where
    by : (e : Option Const) → result_ok (ok_or e BadIndex >>= class_entry pool) ≡ Some text → option_map_or (is_floating_entry pool index) e false ≡ false
    by None h = refl
    by (Some (Class i)) h = rw (named, none) refl
    by (Some Gap) h = absurd cc
    by (Some (Utf8 t)) h = absurd cc
    by (Some (Integer n)) h = absurd cc
    by (Some (Float n)) h = absurd cc
    by (Some (Long n)) h = absurd cc
    by (Some (Double n)) h = absurd cc
    by (Some (Text i)) h = absurd cc
    by (Some (Field c n)) h = absurd cc
    by (Some (Method c n)) h = absurd cc
    by (Some (InterfaceMethod c n)) h = absurd cc
    by (Some (NameType n d)) h = absurd cc

method-whole : (pool : List Const) (index : ℕ) (r : Reference) → named_method pool index ≡ Some r → names_floats r ≡ false → is_floating_index pool index ≡ false
method-whole pool index r named none = by (entry_at pool index) named
  where
    by : (e : Option Const) → (if option_map_or is_method e false then named_member pool index else None) ≡ Some r → option_map_or (is_floating_entry pool index) e false ≡ false
    by None h = refl
    by (Some (Method c n)) h = rw (h, none) refl
    by (Some Gap) h = absurd cc
    by (Some (Utf8 t)) h = absurd cc
    by (Some (Integer n)) h = absurd cc
    by (Some (Float n)) h = absurd cc
    by (Some (Long n)) h = absurd cc
    by (Some (Double n)) h = absurd cc
    by (Some (Class i)) h = absurd cc
    by (Some (Text i)) h = absurd cc
    by (Some (Field c n)) h = absurd cc
    by (Some (InterfaceMethod c n)) h = absurd cc
    by (Some (NameType n d)) h = absurd cc

field-whole : (pool : List Const) (index : ℕ) (r : Reference) → named_field pool index ≡ Some r → names_floats r ≡ false → is_floating_index pool index ≡ false
field-whole pool index r named none = by (entry_at pool index) named
  where
    by : (e : Option Const) → (if option_map_or is_field e false then named_member pool index else None) ≡ Some r → option_map_or (is_floating_entry pool index) e false ≡ false
    by None h = refl
    by (Some (Field c n)) h = rw (h, none) refl
    by (Some Gap) h = absurd cc
    by (Some (Utf8 t)) h = absurd cc
    by (Some (Integer n)) h = absurd cc
    by (Some (Float n)) h = absurd cc
    by (Some (Long n)) h = absurd cc
    by (Some (Double n)) h = absurd cc
    by (Some (Class i)) h = absurd cc
    by (Some (Text i)) h = absurd cc
    by (Some (Method c n)) h = absurd cc
    by (Some (InterfaceMethod c n)) h = absurd cc
    by (Some (NameType n d)) h = absurd cc

-- ---- the instructions

pub new-fine : (m : codes.Method) (at index : ℕ) (class : ClassName) → named_class m.pool index ≡ Some (class_text class) → IsFine m (instr_of at (OfClass 187 class) index)
unfolding row_of groups
new-fine m at index class named = record {
  fits = rw (named, is-class-text class, no-dimensions class) refl;
  whole = class-whole m.pool index (class_text class) named (no-floats-text class);
}

pub initializer-fine : (m : codes.Method) (at index : ℕ) (class : ClassName) → named_method m.pool index ≡ Some (reference_of class Initializer)
    → IsFine m (instr_of at (OfMember 183 class Initializer) index)
unfolding row_of groups
initializer-fine m at index class named = record {
  fits = rw (named, is-class-text class) refl;
  whole = method-whole m.pool index (reference_of class Initializer) named (rw (no-floats-text class) refl);
}

pub run-fine : (m : codes.Method) (at index : ℕ) (class : ClassName) → named_method m.pool index ≡ Some (reference_of class Run) → IsFine m (instr_of at (OfMember 182 class Run) index)
unfolding row_of groups
run-fine m at index class named = record {
  fits = rw (named, is-class-text class) refl;
  whole = method-whole m.pool index (reference_of class Run) named (rw (no-floats-text class) refl);
}

pub println-fine : (m : codes.Method) (at index : ℕ) (class : ClassName) → named_method m.pool index ≡ Some (reference_of class Println)
    → IsFine m (instr_of at (OfMember 182 class Println) index)
unfolding row_of groups
println-fine m at index class named = record {
  fits = rw (named, is-class-text class) refl;
  whole = method-whole m.pool index (reference_of class Println) named (rw (no-floats-text class) refl);
}

pub out-fine : (m : codes.Method) (at index : ℕ) (class : ClassName) → named_field m.pool index ≡ Some (reference_of class Out) → IsFine m (instr_of at (OfMember 178 class Out) index)
unfolding row_of groups
out-fine m at index class named = record {
  fits = rw (named, is-class-text class) refl;
  whole = field-whole m.pool index (reference_of class Out) named (rw (no-floats-text class) refl);
}
