-- The worked class is a class file.
use Rattle.std.proofs.Common.{◌≡◌, ℕ, ◌<◌, true, List, [], ◌∷◌, length, drop, refl, ap, subst, inl, inr, arith}
use Rattle.std.specs.Prelude.{nat_lt, codes}
use Rattle.std.specs.List.{AllByRecursion, list_all}
use Rattle.std.proofs.lemmas.Bool.{ltb-true, and_parts}
use Rattle.jf_bytes.specs.ModifiedUtf8.{modified_utf8}
use Rattle.const_pool.specs.declared.pool.Const.{Const}
use Rattle.const_pool.specs.declared.pool.Const.TheVariants.{Gap, Utf8}
use Rattle.const_pool.specs.Pool.{IsEntry, AreEntries}
use Rattle.const_pool.specs.ClassFile.{IsCode, IsRaw, IsMember, IsFieldAttribute, IsMethodAttribute, IsClassFile}
use Rattle.format_tests.specs.WorkedClass.{worked_pool, worked_raw, worked_code, worked_field, worked_method, worked_class}

all_below : (n : ℕ) (xs : List ℕ) → list_all (λ x. nat_lt x n) xs ≡ true → AllByRecursion (λ x. x < n) xs
all_below n [] e = tt
all_below n (x ∷ xs) e = let both = and_parts (nat_lt x n) (list_all (λ x. nat_lt x n) xs) e in (ltb-true x n both.0, all_below n xs both.1)

is_text : (t : List ℕ) → list_all (λ x. nat_lt x 65536) t ≡ true → nat_lt (length (modified_utf8 t)) 65536 ≡ true → IsEntry worked_pool (Utf8 t)
is_text t units len = (all_below 65536 t units, ltb-true (length (modified_utf8 t)) 65536 len)

last_entries : AreEntries worked_pool (drop 14 worked_pool)
last_entries = ((omega arith, refl), ((omega arith, omega arith, refl, refl), ((omega arith, omega arith, refl, refl), ((omega arith, omega arith, refl, refl), ((omega arith, omega arith, refl, refl), ((omega arith, omega arith, refl, refl), tt))))))

middle_entries : AreEntries worked_pool (drop 8 worked_pool)
middle_entries = (is_text (codes "()V") refl refl, (is_text (88 ∷ 0 ∷ 169 ∷ 8364 ∷ []) refl refl, (omega arith, (omega arith, (omega arith, last_entries)))))

worked_entries : AreEntries worked_pool (drop 1 worked_pool)
worked_entries =
    (is_text (codes "A") refl refl, ((omega arith, refl), (is_text (codes "Code") refl refl, (is_text (codes "ConstantValue") refl refl, (is_text (codes "J") refl refl, (omega arith, middle_entries))))))

entries_behind : (rest : List Const) → worked_pool ≡ Gap ∷ rest → AreEntries worked_pool rest
entries_behind rest e = let is : drop 1 worked_pool ≡ rest = ap (drop 1) e in subst (AreEntries worked_pool) is worked_entries

formed_raw : IsRaw worked_pool worked_raw
formed_raw = record { name = omega arith; named = refl; length = omega arith; bytes = (omega arith, tt) }

formed_code : IsCode worked_pool worked_code
formed_code = record {
  max_stack = omega arith;
  max_locals = omega arith;
  some = omega arith;
  short = omega arith;
  code = (omega arith, tt);
  handler_count = omega arith;
  handlers = (record { start = omega arith; «end» = omega arith; handler = omega arith; catch = omega arith; class = inr refl }, tt);
  attribute_count = omega arith;
  attributes = (formed_raw, tt);
  whole = omega arith;
}

formed_field : IsMember IsFieldAttribute worked_pool worked_field
formed_field = record {
  access = omega arith;
  name = omega arith;
  named = refl;
  descriptor = omega arith;
  described = refl;
  count = omega arith;
  attributes = ((omega arith, refl, omega arith, refl), tt);
}

formed_method : IsMember IsMethodAttribute worked_pool worked_method
formed_method = record {
  access = omega arith;
  name = omega arith;
  named = refl;
  descriptor = omega arith;
  described = refl;
  count = omega arith;
  attributes = ((omega arith, refl, formed_code), tt);
}

pub worked_formed : IsClassFile worked_class
worked_formed = record {
  version = record { fits = omega arith; least = omega arith; most = omega arith };
  pool = record { count = omega arith; first = refl; entries = entries_behind };
  access = omega arith;
  this_index = omega arith;
  this_class = refl;
  super_index = omega arith;
  super_class = inl refl;
  interface_count = omega arith;
  interfaces = ((omega arith, refl), tt);
  field_count = omega arith;
  fields = (formed_field, tt);
  method_count = omega arith;
  methods = (formed_method, tt);
  attribute_count = omega arith;
  attributes = (record { name = omega arith; named = refl; length = omega arith; bytes = tt }, tt);
}
