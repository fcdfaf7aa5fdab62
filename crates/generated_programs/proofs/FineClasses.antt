-- A class of fine methods, with the names of its row, keeps to the rules of admission.
use Rattle.std.proofs.Common.{◌≡◌, ℕ, zero, suc, ◌+◌, ◌≤◌, Bool, true, false, cond, List, [], ◌∷◌, length, map, Option, None, Some, refl, ap, sym, ◌∙◌, arith}
use Rattle.std.specs.Prelude.{IsTrue, ◌||◌, ◌==◌, nat_lt, if◌then◌else◌}
use Rattle.std.specs.Option.{option_map, option_map_or}
use Rattle.std.specs.List.{AllByRecursion, list_any}
use Rattle.std.proofs.lemmas.Bool.{le-ltb, ne_eqb}
use Rattle.std.proofs.lemmas.Option.{none-some}
use Rattle.const_pool.specs.declared.class.ClassFile.{ClassFile}
use Rattle.const_pool.specs.declared.class.Member.{Member}
use Rattle.const_pool.specs.declared.pool.Const.{Const}
use Rattle.const_pool.specs.declared.pool.Const.TheVariants.{Gap, Utf8, Integer, Float, Long, Double, Class, Text, Field, Method, InterfaceMethod, NameType}
use Rattle.const_pool.specs.declared.tail.Tail.{Tail}
use Rattle.const_pool.specs.Pool.{has_gaps}
use Rattle.const_pool.specs.References.{named_class}
use Rattle.jvm_model.specs.declared.event.Mark.TheVariants as mark
use Rattle.jvm_model.specs.Rewriting.Images.{all_off, next_number}
use Rattle.inject_events.specs.declared.settings.Setting.{Setting}
use Rattle.inject_events.specs.Rewriting.{Refused, refused_from, refused_of_marked, all_plain, plain_mark, cause_of_method}
use Rattle.inject_events.specs.Settings.{setting_of}
use Rattle.program_gen.specs.declared.rows.ClassName.{ClassName}
use Rattle.program_gen.specs.declared.rows.ClassName.TheVariants.{Object, System, PrintStream, Main, Numbered}
use Rattle.program_gen.specs.declared.rows.ClassRow.{ClassRow}
use Rattle.program_gen.specs.Names.{class_text}
use Rattle.program_gen.specs.Generated.{IsNamedBy}
use Rattle.code_admission.specs.declared.error.AdmitError.{AdmitError}
use Rattle.code_admission.specs.Checks.{first_of, first_from}
use Rattle.code_admission.specs.Codes as codes
use Rattle.code_admission.specs.Floating.{floating_fault, floating_field, floating_method, floating_body}
use Rattle.code_admission.specs.FloatingFrames.{floating_frames}
use Rattle.admit_check.specs.Profiling.{profiling_fault, refusal_told}
use Rattle.admit_check.specs.Shapes.{shape_fault, has_wrong_name, has_wrong_super, has_wrong_code_count, has_wrong_constant, has_wrong_text, has_twins, is_no_super_name}
use Rattle.jvm_model.specs.Classes.Kinds.{is_array_name}
use Rattle.code_admission.specs.Texts.{is_field_text, is_method_text}
use Rattle.generated_programs.proofs.FineMethods.{IsFineMethod}
use Rattle.generated_programs.proofs.FineRows.{plain_setting}

-- a class of version 49.0 without fields, all of whose methods are fine, and no two of them the same
pub record IsFineClass (c : ClassFile) : Type 0 where
  pub major : c.major ≡ 49
  pub fields : c.fields ≡ []
  pub methods : AllByRecursion (IsFineMethod c.pool) c.methods
  pub twins : has_twins c.pool c.methods ≡ false
  pub gaps : IsTrue (has_gaps c.pool)
  pub room : length c.pool ≤ 400

-- ---- its shape

right-name : (c : ClassName) → (length (class_text c) == 0 || is_array_name (class_text c)) ≡ false
right-name Object = refl
right-name System = refl
right-name PrintStream = refl
right-name Main = refl
right-name (Numbered n) = rw (ne_eqb (length (class_text (Numbered n))) 0 (omega arith)) refl

right-super : (c : ClassName) → is_no_super_name (class_text c) ≡ false
right-super Object = refl
right-super System = refl
right-super PrintStream = refl
right-super Main = refl
right-super (Numbered n) = refl

-- the index 0 names nothing
nothing-named : (pool : List Const) → IsTrue (has_gaps pool) → named_class pool 0 ≡ None
nothing-named [] gaps = refl
nothing-named (Gap ∷ pool) gaps = refl
nothing-named (Utf8 t ∷ pool) gaps = absurd cc
nothing-named (Integer n ∷ pool) gaps = absurd cc
nothing-named (Float n ∷ pool) gaps = absurd cc
nothing-named (Long n ∷ pool) gaps = absurd cc
nothing-named (Double n ∷ pool) gaps = absurd cc
nothing-named (Class i ∷ pool) gaps = absurd cc
nothing-named (Text i ∷ pool) gaps = absurd cc
nothing-named (Field c n ∷ pool) gaps = absurd cc
nothing-named (Method c n ∷ pool) gaps = absurd cc
nothing-named (InterfaceMethod c n ∷ pool) gaps = absurd cc
nothing-named (NameType n d ∷ pool) gaps = absurd cc

is-named : (pool : List Const) (index : ℕ) (text : List ℕ) → IsTrue (has_gaps pool) → named_class pool index ≡ Some text → (index == 0) ≡ false
is-named pool zero text gaps named = absurd (none-some text (sym (nothing-named pool gaps) ∙ named))
is-named pool (suc index) text gaps named = ne_eqb (suc index) 0 (omega arith)

super-fine : (c : ClassFile) (above : ClassName) → IsTrue (has_gaps c.pool) → named_class c.pool c.super_class ≡ Some (class_text above) → has_wrong_super c ≡ false
super-fine c above gaps named = rw (is-named c.pool c.super_class (class_text above) gaps named, named, right-super above) refl

none-any : {A : Type 0} (P : A → Type 0) (test : A → Bool) → ((x : A) → P x → test x ≡ false) → (xs : List A) → AllByRecursion P xs → list_any test xs ≡ false
none-any P test each [] all = refl
none-any P test each (x ∷ xs) all = rw (each x all.0, none-any P test each xs all.1) refl

shape-fine : (k : ℕ) (row : ClassRow) (c : ClassFile) → IsNamedBy row c → IsFineClass c → shape_fault k c ≡ None
shape-fine k row c named fine =
    let name : has_wrong_name c ≡ false = ap (λ o. option_map_or (λ name. length name == 0 || is_array_name name) o false) named.name ∙ right-name row.name in
    let above : has_wrong_super c ≡ false = super-fine c row.superclass fine.gaps named.above in
    let no_fields : list_any (has_wrong_text is_field_text c.pool) c.fields ≡ false = ap (list_any (has_wrong_text is_field_text c.pool)) fine.fields in
    let described : list_any (has_wrong_text is_method_text c.pool) c.methods ≡ false =
    none-any (IsFineMethod c.pool) (has_wrong_text is_method_text c.pool) (λ m f. f.described) c.methods fine.methods in
    let field_twins : has_twins c.pool c.fields ≡ false = ap (has_twins c.pool) fine.fields in
    let bodied : list_any has_wrong_code_count c.methods ≡ false = none-any (IsFineMethod c.pool) has_wrong_code_count (λ m f. f.bodied) c.methods fine.methods in
    let constants : list_any (has_wrong_constant c.pool) c.fields ≡ false = ap (list_any (has_wrong_constant c.pool)) fine.fields in
    rw (name, above, no_fields, described, field_twins, fine.twins, bodied, constants) refl

-- ---- its codes, and floats

none-from : {A F : Type 0} (P : A → Type 0) (check : ℕ → A → Option F) → ((at : ℕ) (x : A) → P x → check at x ≡ None) → (at : ℕ) (xs : List A) → AllByRecursion P xs → first_from check at xs ≡ None
none-from P check each at [] all = refl
none-from P check each at (x ∷ xs) all = rw (each at x all.0) (none-from P check each (at + 1) xs all.1)

none-read : (k : ℕ) (pool : List Const) (at : ℕ) (ms : List Member) → AllByRecursion (IsFineMethod pool) ms → first_from (floating_body k pool) at (map codes.reading_of ms) ≡ None
none-read k pool at [] all = refl
none-read k pool at (m ∷ ms) all = rw (all.0.no_floats k at) (none-read k pool (at + 1) ms all.1)

pub codes-fine : (k : ℕ) (c : ClassFile) → IsFineClass c → codes.codes_fault k c ≡ None
codes-fine k c fine = none-from (IsFineMethod c.pool) (codes.method_fault k c.pool) (λ at m f. f.fits k at) 0 c.methods fine.methods

floats-fine : (k : ℕ) (c : ClassFile) → IsFineClass c → floating_fault k c ≡ None
floats-fine k c fine =
    let no_fields : first_from (floating_field k c.pool) 0 c.fields ≡ None = ap (first_from (floating_field k c.pool) 0) fine.fields in
    let described : first_from (floating_method k c.pool) 0 c.methods ≡ None =
    none-from (IsFineMethod c.pool) (floating_method k c.pool) (λ at m f. rw f.whole refl) 0 c.methods fine.methods in
    let bodies : first_from (floating_body k c.pool) 0 (codes.readings_of c) ≡ None = none-read k c.pool 0 c.methods fine.methods in
    let frames : floating_frames k c ≡ None = (rw fine.major refl) in
    rw (no_fields, described, bodies, frames) refl

-- ---- its versions

abbrev setting_with : Bool → Tail → Setting
setting_with framed tail = record { framed = framed; tail = tail }

none-refused : (s : Setting) (number position : ℕ) (ms : List Member) (pool : List Const) → s.framed ≡ false → AllByRecursion (IsFineMethod pool) ms
    → refused_from s number position (map plain_mark ms) ms ≡ None
none-refused s number position [] pool plain all = refl
none-refused s number position (m ∷ ms) pool plain all =
    let marked : plain_mark m ≡ mark.Plain = ap (λ b. if b then mark.Plain else mark.Off) all.0.coded in
    let setting : s ≡ plain_setting s.tail = ap (λ b. setting_with b s.tail) plain in
    let none : cause_of_method s number mark.Plain m ≡ None = ap (λ (t : Setting). cause_of_method t number mark.Plain m) setting ∙ all.0.version s.tail number in
    rw (marked, none) (none-refused s (next_number number m) (position + 1) ms pool plain all.1)

-- a pool of so few entries has room
roomy : (n : ℕ) → n ≤ 400 → nat_lt 65535 (n + 18) ≡ false
roomy n few = le-ltb 65535 (n + 18) (omega arith)

either-none : {A : Type 0} (b : Bool) (o : Option A) → o ≡ None → cond b None o ≡ None
either-none true o none = refl
either-none false o none = none

versions-fine : (k : ℕ) (c : ClassFile) → IsFineClass c → profiling_fault k c ≡ None
versions-fine k c fine =
    let plain : (setting_of c).framed ≡ false = (rw fine.major refl) in
    let marked : refused_of_marked c 0 (all_plain c) ≡ None = (rw (roomy (length c.pool) fine.room) (none-refused (setting_of c) 0 0 c.methods c.pool plain fine.methods)) in
    ap (λ (o : Option Refused). option_map (refusal_told k) o) (either-none (all_off (all_plain c)) (refused_of_marked c 0 (all_plain c)) marked)

-- ---- the class

pub class-fine : (k : ℕ) (row : ClassRow) (c : ClassFile) (named : Option AdmitError) → IsNamedBy row c → IsFineClass c → named ≡ None
    → first_of (named ∷ shape_fault k c ∷ codes.codes_fault k c ∷ floating_fault k c ∷ profiling_fault k c ∷ []) ≡ None
class-fine k row c named by_row fine none =
    rw (none, shape-fine k row c by_row fine, codes-fine k c fine, floats-fine k c fine, versions-fine k c fine) refl
