-- The worked class P1 can be rewritten.
use Rattle.std.proofs.Common.{◌≡◌, ℕ, zero, suc, ◌<◌, ◌≤◌, ◌^◌, Bool, true, false, List, [], ◌∷◌, length, drop, refl, ap, subst, inr, arith}
use Rattle.std.specs.Prelude.{nat_lt, pos, ◌&&◌, slice_get}
use Rattle.std.specs.List.{AllByRecursion, list_all}
use Rattle.std.specs.Option.{option_map_or}
use Rattle.std.proofs.lemmas.Bool.{ltb-true, and_parts, false≢true}
use Rattle.std.proofs.lemmas.Option.{same_Some, none-some}
use Rattle.jf_bytes.specs.ModifiedUtf8.{modified_utf8}
use Rattle.const_pool.specs.declared.pool.Const.{Const}
use Rattle.const_pool.specs.declared.pool.Const.TheVariants.{Gap, Utf8, Integer, Float, Long, Double, Class, Text, Field, Method, InterfaceMethod, NameType}
use Rattle.const_pool.specs.declared.class.Member.{Member}
use Rattle.const_pool.specs.Pool.{is_utf8, is_class, is_name_type, Names, IsEntry, AreEntries}
use Rattle.const_pool.specs.ClassFile.{code_bytes, class_bytes, IsByte, IsCode, IsMember, IsMethodAttribute, IsClassFile}
use Rattle.code_model.specs.declared.instr.Arg.TheVariants.{Plain as no_operand, Value, Pool as index}
use Rattle.code_model.specs.declared.instr.Code.{Code}
use Rattle.op_table.specs.Opcodes.{row_of, groups}
use Rattle.code_model.specs.Operands.{instr_with}
use Rattle.code_model.specs.Reading.{read_instruction, behind_opcode_at, operand_at, value_at, index_at, signed_at, number_at}
use Rattle.code_model.specs.Instructions.{instruction_at, IsReading}
use Rattle.jvm_model.proofs.Worked.PlainRun.{p1, p1_pool, code_with, method_with}
use Rattle.class_reader.specs.Files.{IsFile}
use Rattle.inject_events.specs.Answers.{IsReadableBody, HasReadableBody, HaveReadableBodies, IsReadableClass}

abbrev pub f_bytes : List ℕ
f_bytes = 26 ∷ 4 ∷ 96 ∷ 172 ∷ []

abbrev pub main_bytes : List ℕ
main_bytes = 178 ∷ 0 ∷ 10 ∷ 16 ∷ 41 ∷ 184 ∷ 0 ∷ 14 ∷ 182 ∷ 0 ∷ 20 ∷ 177 ∷ []

-- ---- tests that compute

all_below : (n : ℕ) (xs : List ℕ) → list_all (λ x. nat_lt x n) xs ≡ true → AllByRecursion (λ x. x < n) xs
all_below n [] e = tt
all_below n (x ∷ xs) e = let both = and_parts (nat_lt x n) (list_all (λ x. nat_lt x n) xs) e in (ltb-true x n both.0, all_below n xs both.1)

abbrev names : (Const → Bool) → List Const → ℕ → Bool
names kind pool i = nat_lt i 65536 && option_map_or kind (slice_get pool i) false

abbrev entry_fits : List Const → Const → Bool
entry_fits pool (Utf8 t) = list_all (λ x. nat_lt x 65536) t && nat_lt (length (modified_utf8 t)) 65536
entry_fits pool (Class i) = names is_utf8 pool i
entry_fits pool (Field c n) = names is_class pool c && names is_name_type pool n
entry_fits pool (Method c n) = names is_class pool c && names is_name_type pool n
entry_fits pool (NameType n d) = names is_utf8 pool n && names is_utf8 pool d
entry_fits pool _ = false

named : (kind : Const → Bool) (pool : List Const) (i : ℕ) → names kind pool i ≡ true → (i < 65536) × Names kind pool i
named kind pool i e = let both = and_parts (nat_lt i 65536) (option_map_or kind (slice_get pool i) false) e in (ltb-true i 65536 both.0, both.1)

two_named : (first second : Const → Bool) (pool : List Const) (i j : ℕ) → (names first pool i && names second pool j) ≡ true → (i < 65536) × (j < 65536) × Names first pool i × Names second pool j
two_named first second pool i j e =
    let both = and_parts (names first pool i) (names second pool j) e in
    let a = named first pool i both.0 in
    let b = named second pool j both.1 in
    (a.0, b.0, a.1, b.1)

IsEntry-fits : (pool : List Const) (c : Const) → entry_fits pool c ≡ true → IsEntry pool c
IsEntry-fits pool (Utf8 t) e = let both = and_parts (list_all (λ x. nat_lt x 65536) t) (nat_lt (length (modified_utf8 t)) 65536) e in (all_below 65536 t both.0, ltb-true (length (modified_utf8 t)) 65536 both.1)
IsEntry-fits pool (Class i) e = named is_utf8 pool i e
IsEntry-fits pool (Field c n) e = two_named is_class is_name_type pool c n e
IsEntry-fits pool (Method c n) e = two_named is_class is_name_type pool c n e
IsEntry-fits pool (NameType n d) e = two_named is_utf8 is_utf8 pool n d e
IsEntry-fits pool Gap e = absurd (false≢true e)
IsEntry-fits pool (Integer n) e = absurd (false≢true e)
IsEntry-fits pool (Float n) e = absurd (false≢true e)
IsEntry-fits pool (Long n) e = absurd (false≢true e)
IsEntry-fits pool (Double n) e = absurd (false≢true e)
IsEntry-fits pool (Text i) e = absurd (false≢true e)
IsEntry-fits pool (InterfaceMethod c n) e = absurd (false≢true e)

AreEntries-fit : (pool entries : List Const) → list_all (entry_fits pool) entries ≡ true → AreEntries pool entries
AreEntries-fit pool [] e = tt
AreEntries-fit pool (Utf8 t ∷ rest) e = let both = and_parts (entry_fits pool (Utf8 t)) (list_all (entry_fits pool) rest) e in (IsEntry-fits pool (Utf8 t) both.0, AreEntries-fit pool rest both.1)
AreEntries-fit pool (Class i ∷ rest) e = let both = and_parts (entry_fits pool (Class i)) (list_all (entry_fits pool) rest) e in (IsEntry-fits pool (Class i) both.0, AreEntries-fit pool rest both.1)
AreEntries-fit pool (Field c n ∷ rest) e = let both = and_parts (entry_fits pool (Field c n)) (list_all (entry_fits pool) rest) e in (IsEntry-fits pool (Field c n) both.0, AreEntries-fit pool rest both.1)
AreEntries-fit pool (Method c n ∷ rest) e = let both = and_parts (entry_fits pool (Method c n)) (list_all (entry_fits pool) rest) e in (IsEntry-fits pool (Method c n) both.0, AreEntries-fit pool rest both.1)
AreEntries-fit pool (NameType n d ∷ rest) e = let both = and_parts (entry_fits pool (NameType n d)) (list_all (entry_fits pool) rest) e in (IsEntry-fits pool (NameType n d) both.0, AreEntries-fit pool rest both.1)
AreEntries-fit pool (Gap ∷ rest) e = let both = and_parts (entry_fits pool (Gap)) (list_all (entry_fits pool) rest) e in (IsEntry-fits pool (Gap) both.0, AreEntries-fit pool rest both.1)
AreEntries-fit pool (Integer n ∷ rest) e = let both = and_parts (entry_fits pool (Integer n)) (list_all (entry_fits pool) rest) e in (IsEntry-fits pool (Integer n) both.0, AreEntries-fit pool rest both.1)
AreEntries-fit pool (Float n ∷ rest) e = let both = and_parts (entry_fits pool (Float n)) (list_all (entry_fits pool) rest) e in (IsEntry-fits pool (Float n) both.0, AreEntries-fit pool rest both.1)
AreEntries-fit pool (Long n ∷ rest) e = absurd (false≢true e)
AreEntries-fit pool (Double n ∷ rest) e = absurd (false≢true e)
AreEntries-fit pool (Text i ∷ rest) e = let both = and_parts (entry_fits pool (Text i)) (list_all (entry_fits pool) rest) e in (IsEntry-fits pool (Text i) both.0, AreEntries-fit pool rest both.1)
AreEntries-fit pool (InterfaceMethod c n ∷ rest) e = let both = and_parts (entry_fits pool (InterfaceMethod c n)) (list_all (entry_fits pool) rest) e in (IsEntry-fits pool (InterfaceMethod c n) both.0, AreEntries-fit pool rest both.1)

p1_entries : (rest : List Const) → p1_pool ≡ Gap ∷ rest → AreEntries p1_pool rest
p1_entries rest e = let is : drop 1 p1_pool ≡ rest = ap (drop 1) e in subst (AreEntries p1_pool) is (AreEntries-fit p1_pool (drop 1 p1_pool) refl)

-- ---- the format

formed_code : (bytes : List ℕ) → 0 < length bytes → length bytes ≤ 9000 → AllByRecursion IsByte bytes → length (code_bytes (code_with bytes)) < 2 ^ 32 → IsCode p1_pool (code_with bytes)
formed_code bytes some short each whole = record {
  max_stack = omega arith;
  max_locals = omega arith;
  some = some;
  short = omega arith;
  code = each;
  handler_count = omega arith;
  handlers = tt;
  attribute_count = omega arith;
  attributes = tt;
  whole = whole;
}

formed_method : (name descriptor : ℕ) (bytes : List ℕ) → name < 2 ^ 16 → Names is_utf8 p1_pool name → descriptor < 2 ^ 16 → Names is_utf8 p1_pool descriptor → IsCode p1_pool (code_with bytes) → IsMember IsMethodAttribute p1_pool (method_with name descriptor bytes)
formed_method name descriptor bytes small_name named small_descriptor described code = record {
  access = omega arith;
  name = small_name;
  named = named;
  descriptor = small_descriptor;
  described = described;
  count = omega arith;
  attributes = ((omega arith, refl, code), tt);
}

f_formed : IsCode p1_pool (code_with f_bytes)
f_formed = formed_code f_bytes (omega arith) (omega arith) (all_below 256 f_bytes refl) (omega arith)

main_formed : IsCode p1_pool (code_with main_bytes)
main_formed = formed_code main_bytes (omega arith) (omega arith) (all_below 256 main_bytes refl) (omega arith)

p1_formed : IsClassFile p1
p1_formed = record {
  version = record { fits = omega arith; least = omega arith; most = omega arith };
  pool = record { count = omega arith; first = refl; entries = p1_entries };
  access = omega arith;
  this_index = omega arith;
  this_class = refl;
  super_index = omega arith;
  super_class = inr refl;
  interface_count = omega arith;
  interfaces = tt;
  field_count = omega arith;
  fields = tt;
  method_count = omega arith;
  methods = (formed_method 11 12 f_bytes (omega arith) refl (omega arith) refl f_formed, (formed_method 21 22 main_bytes (omega arith) refl (omega arith) refl main_formed, tt));
  attribute_count = omega arith;
  attributes = tt;
}

pub p1_file : IsFile (class_bytes p1) p1
p1_file = record { short = omega arith; spells = record { spelled = refl; formed = p1_formed } }

-- ---- its methods

abbrev pub f_member : Member
f_member = method_with 11 12 f_bytes

abbrev pub main_member : Member
main_member = method_with 21 22 main_bytes

-- iload_0, iconst_1, iadd, ireturn
abbrev pub f_reading : Code
f_reading = record { instrs = instr_with 0 false 26 no_operand ∷ instr_with 1 false 4 no_operand ∷ instr_with 2 false 96 no_operand ∷ instr_with 3 false 172 no_operand ∷ []; len = 4 }

-- getstatic, bipush, invokestatic, invokevirtual, return
abbrev pub main_reading : Code
main_reading = record { instrs = instr_with 0 false 178 (index 10) ∷ instr_with 3 false 16 (Value (pos 41)) ∷ instr_with 5 false 184 (index 14) ∷ instr_with 8 false 182 (index 20) ∷ instr_with 11 false 177 no_operand ∷ []; len = 12 }

pub f_reads : IsReading f_bytes f_reading
unfolding instruction_at read_instruction behind_opcode_at operand_at value_at index_at signed_at number_at row_of groups
f_reads = record { instrs = (refl, (refl, (refl, (refl, refl)))); len = refl }

pub main_reads : IsReading main_bytes main_reading
unfolding instruction_at read_instruction behind_opcode_at operand_at value_at index_at signed_at number_at row_of groups
main_reads = record { instrs = (refl, (refl, (refl, (refl, (refl, refl))))); len = refl }

-- ---- it can be rewritten

readable : (bytes : List ℕ) (reading : Code) → 0 < length bytes → length bytes ≤ 9000 → IsReading bytes reading → IsReadableBody (code_with bytes)
readable bytes reading some short reads = record { readable = record { some = some; short = omega arith; reading = reading; reads = reads }; handlers = omega arith }

p1_bodies : HaveReadableBodies p1.methods
p1_bodies zero m at = subst HasReadableBody (same_Some f_member m at) (readable f_bytes f_reading (omega arith) (omega arith) f_reads)
p1_bodies (suc zero) m at = subst HasReadableBody (same_Some main_member m at) (readable main_bytes main_reading (omega arith) (omega arith) main_reads)
p1_bodies (suc (suc k)) m at = absurd (none-some m at)

pub p1_readable : IsReadableClass p1
p1_readable = record { few = omega arith; bodies = p1_bodies }
