-- Attributes and their parts: both descriptions spell them with the same bytes, and ask the same of them.
use Rattle.std.proofs.Common.{◌≡◌, ◌≢◌, ℕ, ◌^◌, ◌<◌, ◌⊎◌, inl, inr, Bool, true, false, ◌&&◌, ◌||◌, ◌==◌, nat_lt, List, ◌++◌, length, Option, Some, None, ok_or, option_and_then, bytes_eq, slice_get, refl, sym, ap, subst, ◌∙◌, arith}
use Rattle.std.specs.List.{AllByRecursion}
use Rattle.std.specs.Option.{option_map_or}
use Rattle.std.specs.Result.{result_ok}
use Rattle.std.proofs.lemmas.Bool.{and_parts, and_from, or_cases, or_left, or_right, eqb-true, eq-eqb, ltb-true, lt-ltb, true≢false}
use Rattle.std.proofs.lemmas.Slice.Eq.{bytes_eq-Decides}
use Rattle.const_pool.specs.declared.pool.Const.{Const}
use Rattle.const_pool.specs.declared.pool.Const.TheVariants.{Gap, Utf8}
use Rattle.const_pool.specs.declared.pool.PoolError.TheVariants as walk
use Rattle.const_pool.specs.declared.class.Raw.{Raw}
use Rattle.const_pool.specs.declared.class.Handler.{Handler}
use Rattle.const_pool.specs.declared.class.CodeAttribute.{CodeAttribute}
use Rattle.const_pool.specs.declared.class.Attribute.{Attribute}
use Rattle.const_pool.specs.declared.class.Attribute.TheVariants.{ConstantValue, Code, Other}
use Rattle.const_pool.specs.Pool.{u2, u4, Names, is_utf8, is_class, is_constant, entry_of}
use Rattle.const_pool.specs.References.{◌>>=◌, text_entry, named_text}
use Rattle.const_pool.specs.ClassFile.{IsU2, IsByte, FitsCount, IsRaw, IsHandler, IsCode, IsFieldAttribute, IsMethodAttribute, IsClassAttribute, raw_bytes, handler_bytes, code_bytes, attribute_bytes, code_name, constant_value_name}
use Rattle.const_pool.specs.ClassFile as file
use Rattle.class_reader.specs.declared.error.ReadError.TheVariants.{BadRef, BadLength}
use Rattle.class_reader.specs.Formats.{Format, run, value_made, in_turn, contents_enclosed}
use Rattle.class_reader.specs.ClassFormat.{names, names_text, ref, optional_ref, raw_contents, raw, other, handler, code_length, code, field_attribute, method_attribute, class_attribute}
use Rattle.class_reader.proofs.BridgeParts.{IsSpelledBy, said_as, u2_law, u4_law, opened, closed, behind, turn, end_turn, tested_law, counted_law, either_cases, either_true, either_false, sized_bytes, FitsSized, sized_law, enclosed_law, AreBytes, bytes_then, u2_bytes, u2_then, u4_then, counted_bytes}

-- ---- indices

pub ref_law : (kind : Const → Bool) (pool : List Const) → IsSpelledBy (ref kind pool) u2 (λ i. IsU2 i × Names kind pool i)
ref_law kind pool = tested_law u2_law (names kind pool) (λ at i. BadRef at)

zero_or : (kind : Const → Bool) (pool : List Const) (i : ℕ) → ((i == 0) || names kind pool i) ≡ true → (i ≡ 0) ⊎ Names kind pool i
zero_or kind pool i e = elim (or_cases _ _ e) [ inl h ↦ inl (eqb-true _ _ h) | inr h ↦ inr h ]

zero_or_from : (kind : Const → Bool) (pool : List Const) (i : ℕ) → (i ≡ 0) ⊎ Names kind pool i → ((i == 0) || names kind pool i) ≡ true
zero_or_from kind pool i (inl h) = or_left _ _ (eq-eqb _ _ h)
zero_or_from kind pool i (inr h) = or_right _ _ h

pub optional_ref_law : (kind : Const → Bool) (pool : List Const) → IsSpelledBy (optional_ref kind pool) u2 (λ i. IsU2 i × ((i ≡ 0) ⊎ Names kind pool i))
optional_ref_law kind pool =
    said_as (λ i. IsU2 i × ((i ≡ 0) ⊎ Names kind pool i)) (tested_law u2_law (λ i. (i == 0) || names kind pool i) (λ at i. BadRef at))
    (λ i h. (h.0, zero_or kind pool i h.1)) (λ i h. (h.0, zero_or_from kind pool i h.1))

-- ---- names of attributes

pub names_text-true : (pool : List Const) (i : ℕ) (t : List ℕ) → names_text pool i t ≡ true → named_text pool i ≡ Some t
names_text-true pool i t e = same_text (named_text pool i) t e
  where
    same_text : (o : Option (List ℕ)) (t : List ℕ) → option_map_or (λ units. bytes_eq units t) o false ≡ true → o ≡ Some t
    same_text (Some units) t e = ap (λ (u : List ℕ). Some u) ((bytes_eq-Decides units t).0 e)
    same_text None t e = absurd cc

pub true_names_text : (pool : List Const) (i : ℕ) (t : List ℕ) → named_text pool i ≡ Some t → names_text pool i t ≡ true
true_names_text pool i t e = rw e ((bytes_eq-Decides t t).1 refl)

pub names_text-false : (pool : List Const) (i : ℕ) (t : List ℕ) → names_text pool i t ≡ false → named_text pool i ≢ Some t
names_text-false pool i t e h = true≢false (sym (true_names_text pool i t h) ∙ e)

pub false_names_text : (pool : List Const) (i : ℕ) (t : List ℕ) → named_text pool i ≢ Some t → names_text pool i t ≡ false
false_names_text pool i t h = known (names_text pool i t) refl
  where
    known : (b : Bool) → names_text pool i t ≡ b → b ≡ false
    known true e = absurd (h (names_text-true pool i t e))
    known false e = refl

-- an index that names a text names a Utf8
text_is_utf8 : (o : Option Const) (t : List ℕ) → result_ok (ok_or (option_and_then entry_of o) walk.BadIndex >>= text_entry) ≡ Some t → option_map_or is_utf8 o false ≡ true
text_is_utf8 None t e = absurd cc
text_is_utf8 (Some Gap) t e = absurd cc
text_is_utf8 (Some (Utf8 u)) t e = refl
text_is_utf8 (Some _) t e = absurd cc

pub text_names : (pool : List Const) (i : ℕ) (t : List ℕ) → named_text pool i ≡ Some t → Names is_utf8 pool i
text_names pool i t e = text_is_utf8 (slice_get pool i) t e

-- ---- what is kept as bytes

pub raw_contents_law : (name : ℕ) → IsSpelledBy (raw_contents name) (λ r. sized_bytes r.bytes) (λ r. (r.name ≡ name) × FitsSized r.bytes)
raw_contents_law name = record {
  «to» = λ text r s. let a = closed sized_law s in subst (λ (r : Raw). (text ≡ sized_bytes r.bytes) × ((r.name ≡ name) × FitsSized r.bytes)) a.is (a.spelled, (refl, a.fits));
  «from» = λ r h. subst (λ (n : ℕ). (raw_contents n).Spells (sized_bytes r.bytes) r) h.0 (end_turn sized_law (λ bytes. record { name = r.name; bytes = bytes }) r.bytes h.1);
}

module _ (pool : List Const) where
  is_raw : (name : ℕ) (r : Raw) → IsU2 name → Names is_utf8 pool name → r.name ≡ name → FitsSized r.bytes → IsRaw pool r
  is_raw name r fits named same h = record { name = subst IsU2 (sym same) fits; named = subst (Names is_utf8 pool) (sym same) named; length = h.0; bytes = h.1 }

  raw_to : (text : List ℕ) (r : Raw) → (raw pool).Spells text r → (text ≡ raw_bytes r) × IsRaw pool r
  raw_to text r s =
      let a = opened (ref_law is_utf8 pool) s in
      let h = (raw_contents_law a.x).to a.rest r a.second in
      (behind text (u2 r.name) a.rest (sized_bytes r.bytes) (a.parts ∙ ap (λ (n : ℕ). u2 n ++ a.rest) (sym h.1.0)) h.0, is_raw a.x r a.fits.0 a.fits.1 h.1.0 h.1.1)

  pub raw_law : IsSpelledBy (raw pool) raw_bytes (IsRaw pool)
  raw_law = record { «to» = raw_to; «from» = λ r h. turn (ref_law is_utf8 pool) raw_contents r.name (h.name, h.named) ((raw_contents_law r.name).from r (refl, (h.length, h.bytes))) }

  -- ---- the contents of a Code

  handler_to : (text : List ℕ) (h : Handler) → (handler pool).Spells text h → (text ≡ handler_bytes h) × IsHandler pool h
  handler_to text h s =
      let a = opened u2_law s in
      let b = opened u2_law a.second in
      let c = opened u2_law b.second in
      let d = closed (optional_ref_law is_class pool) c.second in
      let from_target = behind b.rest (u2 c.x) c.rest (u2 d.x) c.parts d.spelled in
      let from_stop = behind a.rest (u2 b.x) b.rest _ b.parts from_target in
      let from_start = behind text (u2 a.x) a.rest _ a.parts from_stop in
      subst (λ (h : Handler). (text ≡ handler_bytes h) × IsHandler pool h) d.is (from_start, record { start = a.fits; «end» = b.fits; handler = c.fits; catch = d.fits.0; class = d.fits.1 })

  pub handler_law : IsSpelledBy (handler pool) handler_bytes (IsHandler pool)
  handler_law = record { «to» = handler_to; «from» = λ h f. turn u2_law _ h.start f.start (turn u2_law _ h.end f.end (turn u2_law _ h.handler f.handler (end_turn (optional_ref_law is_class pool) _ h.catch_class (f.catch, f.class)))) }

-- the bytes of a code with their length
abbrev FitsRun : List ℕ → Type 0
FitsRun bytes = (0 < length bytes) × (length bytes < 2 ^ 16) × AllByRecursion IsByte bytes

code_length_law : IsSpelledBy code_length u4 (λ len. (len < 2 ^ 32) × ((nat_lt 0 len && nat_lt len 65536) ≡ true))
code_length_law = tested_law u4_law (λ len. nat_lt 0 len && nat_lt len 65536) (λ at len. BadLength at)

run_to : (text bytes : List ℕ) → (in_turn code_length run).Spells text bytes → (text ≡ sized_bytes bytes) × FitsRun bytes
run_to text bytes s =
    let a = opened code_length_law s in
    let h = a.second in
    let tests = and_parts _ _ a.fits.1 in
    let some : 0 < a.x = ltb-true _ _ tests.0 in
    let short : a.x < 2 ^ 16 = ltb-true _ _ tests.1 in (
      behind text (u4 (length bytes)) a.rest bytes (a.parts ∙ ap (λ (n : ℕ). u4 n ++ a.rest) (sym h.1)) h.0,
      (subst (λ (n : ℕ). 0 < n) (sym h.1) some, subst (λ (n : ℕ). n < 2 ^ 16) (sym h.1) short, h.2),
    )

run_from : (bytes : List ℕ) → FitsRun bytes → (in_turn code_length run).Spells (sized_bytes bytes) bytes
run_from bytes h =
    let most : length bytes < 2 ^ 16 = h.1 in
    let tests = and_from _ _ (lt-ltb 0 (length bytes) h.0) (lt-ltb (length bytes) 65536 most) in
    turn code_length_law run (length bytes) (omega (arith, most), tests) (refl, refl, h.2)

code_run_law : IsSpelledBy (in_turn code_length run) sized_bytes FitsRun
code_run_law = record { «to» = run_to; «from» = run_from }

-- what the contents of a Code are, however long
pub record FitsCode (pool : List Const) (c : CodeAttribute) : Type 0 where
  pub max_stack : IsU2 c.max_stack
  pub max_locals : IsU2 c.max_locals
  pub code : FitsRun c.code
  pub handlers : FitsCount c.handlers × AllByRecursion (IsHandler pool) c.handlers
  pub attributes : FitsCount c.attributes × AllByRecursion (IsRaw pool) c.attributes

module _ (pool : List Const) where
  code_to : (text : List ℕ) (c : CodeAttribute) → (code pool).Spells text c → (text ≡ code_bytes c) × FitsCode pool c
  code_to text c s =
      let a = opened u2_law s in
      let b = opened u2_law a.second in
      let d = opened code_run_law b.second in
      let e = opened (counted_law (handler_law pool)) d.second in
      let f = closed (counted_law (raw_law pool)) e.second in
      let from_handlers = behind d.rest (file.items_counted handler_bytes e.x) e.rest _ e.parts f.spelled in
      let from_code = behind b.rest (sized_bytes d.x) d.rest _ d.parts from_handlers in
      let from_locals = behind a.rest (u2 b.x) b.rest _ b.parts from_code in
      let from_stack = behind text (u2 a.x) a.rest _ a.parts from_locals in
      subst (λ (c : CodeAttribute). (text ≡ code_bytes c) × FitsCode pool c) f.is (from_stack, record { max_stack = a.fits; max_locals = b.fits; code = d.fits; handlers = e.fits; attributes = f.fits })

  code_from : (c : CodeAttribute) → FitsCode pool c → (code pool).Spells (code_bytes c) c
  code_from c h =
      turn u2_law _ c.max_stack h.max_stack (turn u2_law _ c.max_locals h.max_locals (turn code_run_law _ c.code h.code
      (turn (counted_law (handler_law pool)) _ c.handlers h.handlers (end_turn (counted_law (raw_law pool)) _ c.attributes h.attributes))))

  code_law : IsSpelledBy (code pool) code_bytes (FitsCode pool)
  code_law = record { «to» = code_to; «from» = code_from }

  is_code : (c : CodeAttribute) → FitsCode pool c → length (code_bytes c) < 2 ^ 32 → IsCode pool c
  is_code c h whole = record {
    max_stack = h.max_stack;
    max_locals = h.max_locals;
    some = h.code.0;
    short = h.code.1;
    code = h.code.2;
    handler_count = h.handlers.0;
    handlers = h.handlers.1;
    attribute_count = h.attributes.0;
    attributes = h.attributes.1;
    whole = whole;
  }

  code_fits : (c : CodeAttribute) → IsCode pool c → FitsCode pool c
  code_fits c h = record {
    max_stack = h.max_stack;
    max_locals = h.max_locals;
    code = (h.some, h.short, h.code);
    handlers = (h.handler_count, h.handlers);
    attributes = (h.attribute_count, h.attributes);
  }

  -- the contents of a Code are bytes
  handler_are_bytes : (h : Handler) → IsHandler pool h → AreBytes (handler_bytes h)
  handler_are_bytes h f = u2_then h.start (u2_then h.end (u2_then h.handler (u2_bytes h.catch_class)))

  raw_are_bytes : (r : Raw) → IsRaw pool r → AreBytes (raw_bytes r)
  raw_are_bytes r h = u2_then r.name (u4_then (length r.bytes) (record { each = h.bytes }))

  code_are_bytes : (c : CodeAttribute) → FitsCode pool c → AreBytes (code_bytes c)
  code_are_bytes c h =
      let handlers = counted_bytes handler_bytes (IsHandler pool) handler_are_bytes c.handlers h.handlers.1 in
      let raws = counted_bytes raw_bytes (IsRaw pool) raw_are_bytes c.attributes h.attributes.1 in
      u2_then c.max_stack (u2_then c.max_locals (u4_then (length c.code) (bytes_then c.code h.code.2 (bytes_then (file.items_counted handler_bytes c.handlers) handlers.each raws))))

-- ---- attributes by their name

-- an attribute that is kept, behind its name
record IsKept (pool : List Const) (name : ℕ) (text : List ℕ) (a : Attribute) : Type 0 where
  raw : Raw
  is : Other raw ≡ a
  named : raw.name ≡ name
  formed : IsRaw pool raw
  spelled : text ≡ raw_bytes raw

module _ (pool : List Const) where
  kept_to : (name : ℕ) (text rest : List ℕ) (a : Attribute) → text ≡ u2 name ++ rest → IsU2 name → Names is_utf8 pool name → (other name).Spells rest a → IsKept pool name text a
  kept_to name text rest a e fits named s =
      let r = closed (raw_contents_law name) s in
      record {
        raw = r.x;
        is = r.is;
        named = r.fits.0;
        formed = is_raw pool name r.x fits named r.fits.0 r.fits.1;
        spelled = behind text (u2 r.x.name) rest (sized_bytes r.x.bytes) (e ∙ ap (λ (n : ℕ). u2 n ++ rest) (sym r.fits.0)) r.spelled;
      }

  other_from : (r : Raw) → IsRaw pool r → (other r.name).Spells (sized_bytes r.bytes) (Other r)
  other_from r h = end_turn (raw_contents_law r.name) Other r (refl, (h.length, h.bytes))

  -- an attribute of the class
  class_attribute_to : (text : List ℕ) (a : Attribute) → (class_attribute pool).Spells text a → (text ≡ attribute_bytes a) × IsClassAttribute pool a
  class_attribute_to text a s =
      let n = opened (ref_law is_utf8 pool) s in
      let k = kept_to n.x text n.rest a n.parts n.fits.0 n.fits.1 n.second in
      subst (λ (a : Attribute). (text ≡ attribute_bytes a) × IsClassAttribute pool a) k.is (k.spelled, k.formed)

  class_attribute_from : (a : Attribute) → IsClassAttribute pool a → (class_attribute pool).Spells (attribute_bytes a) a
  class_attribute_from (ConstantValue name index) h = absurd h
  class_attribute_from (Code name c) h = absurd h
  class_attribute_from (Other r) h = turn (ref_law is_utf8 pool) other r.name (h.name, h.named) (other_from r h)

  pub class_attribute_law : IsSpelledBy (class_attribute pool) attribute_bytes (IsClassAttribute pool)
  class_attribute_law = record { «to» = class_attribute_to; «from» = class_attribute_from }

  -- an attribute of a field
  constant_to : (name : ℕ) (text rest : List ℕ) (a : Attribute) → text ≡ u2 name ++ rest → IsU2 name → named_text pool name ≡ Some constant_value_name
      → (in_turn (contents_enclosed (ref is_constant pool)) (λ i. value_made (ConstantValue name i))).Spells rest a → (text ≡ attribute_bytes a) × IsFieldAttribute pool a
  constant_to name text rest a e fits named s =
      let i = closed (enclosed_law (ref_law is_constant pool)) s in
      subst (λ (a : Attribute). (text ≡ attribute_bytes a) × IsFieldAttribute pool a) i.is
      (behind text (u2 name) rest (sized_bytes (u2 i.x)) e i.spelled, (fits, named, i.fits.0.0, i.fits.0.1))

  field_attribute_to : (text : List ℕ) (a : Attribute) → (field_attribute pool).Spells text a → (text ≡ attribute_bytes a) × IsFieldAttribute pool a
  field_attribute_to text a s =
      let n = opened (ref_law is_utf8 pool) s in
      let parsed : Format Attribute = in_turn (contents_enclosed (ref is_constant pool)) (λ i. value_made (ConstantValue n.x i)) in
      elim (either_cases (names_text pool n.x constant_value_name) parsed (other n.x) n.rest a n.second) as (λ _. (text ≡ attribute_bytes a) × IsFieldAttribute pool a) [
        | inl h ↦ constant_to n.x text n.rest a n.parts n.fits.0 (names_text-true pool n.x constant_value_name h.0) h.1
        | inr h ↦ (let k = kept_to n.x text n.rest a n.parts n.fits.0 n.fits.1 h.1 in
            let unnamed = subst (λ (i : ℕ). named_text pool i ≢ Some constant_value_name) (sym k.named) (names_text-false pool n.x constant_value_name h.0) in
            subst (λ (a : Attribute). (text ≡ attribute_bytes a) × IsFieldAttribute pool a) k.is (k.spelled, (k.formed, unnamed)))
      ]

  field_attribute_from : (a : Attribute) → IsFieldAttribute pool a → (field_attribute pool).Spells (attribute_bytes a) a
  field_attribute_from (Code name c) h = absurd h
  field_attribute_from (ConstantValue name i) h =
      let inner = end_turn (enclosed_law (ref_law is_constant pool)) (ConstantValue name) i ((h.2, h.3), (omega arith, (u2_bytes i).each)) in
      turn (ref_law is_utf8 pool) _ name (h.0, text_names pool name constant_value_name h.1) (either_true _ _ (other name) _ _ (true_names_text pool name constant_value_name h.1) inner)
  field_attribute_from (Other r) h =
      turn (ref_law is_utf8 pool) _ r.name (h.0.name, h.0.named) (either_false _ _ (other r.name) _ _ (false_names_text pool r.name constant_value_name h.1) (other_from r h.0))

  pub field_attribute_law : IsSpelledBy (field_attribute pool) attribute_bytes (IsFieldAttribute pool)
  field_attribute_law = record { «to» = field_attribute_to; «from» = field_attribute_from }

  -- an attribute of a method
  parsed_to : (name : ℕ) (text rest : List ℕ) (a : Attribute) → text ≡ u2 name ++ rest → IsU2 name → named_text pool name ≡ Some code_name
      → (in_turn (contents_enclosed (code pool)) (λ c. value_made (Code name c))).Spells rest a → (text ≡ attribute_bytes a) × IsMethodAttribute pool a
  parsed_to name text rest a e fits named s =
      let c = closed (enclosed_law (code_law pool)) s in
      subst (λ (a : Attribute). (text ≡ attribute_bytes a) × IsMethodAttribute pool a) c.is
      (behind text (u2 name) rest (sized_bytes (code_bytes c.x)) e c.spelled, (fits, named, is_code pool c.x c.fits.0 c.fits.1.0))

  method_attribute_to : (text : List ℕ) (a : Attribute) → (method_attribute pool).Spells text a → (text ≡ attribute_bytes a) × IsMethodAttribute pool a
  method_attribute_to text a s =
      let n = opened (ref_law is_utf8 pool) s in
      let parsed : Format Attribute = in_turn (contents_enclosed (code pool)) (λ c. value_made (Code n.x c)) in
      elim (either_cases (names_text pool n.x code_name) parsed (other n.x) n.rest a n.second) as (λ _. (text ≡ attribute_bytes a) × IsMethodAttribute pool a) [
        | inl h ↦ parsed_to n.x text n.rest a n.parts n.fits.0 (names_text-true pool n.x code_name h.0) h.1
        | inr h ↦ (let k = kept_to n.x text n.rest a n.parts n.fits.0 n.fits.1 h.1 in
            let unnamed = subst (λ (i : ℕ). named_text pool i ≢ Some code_name) (sym k.named) (names_text-false pool n.x code_name h.0) in
            subst (λ (a : Attribute). (text ≡ attribute_bytes a) × IsMethodAttribute pool a) k.is (k.spelled, (k.formed, unnamed)))
      ]

  method_attribute_from : (a : Attribute) → IsMethodAttribute pool a → (method_attribute pool).Spells (attribute_bytes a) a
  method_attribute_from (ConstantValue name i) h = absurd h
  method_attribute_from (Code name c) h =
      let fits = code_fits pool c h.2 in
      let inner = end_turn (enclosed_law (code_law pool)) (Code name) c (fits, (h.2.whole, (code_are_bytes pool c fits).each)) in
      turn (ref_law is_utf8 pool) _ name (h.0, text_names pool name code_name h.1) (either_true _ _ (other name) _ _ (true_names_text pool name code_name h.1) inner)
  method_attribute_from (Other r) h =
      turn (ref_law is_utf8 pool) _ r.name (h.0.name, h.0.named) (either_false _ _ (other r.name) _ _ (false_names_text pool r.name code_name h.1) (other_from r h.0))

  pub method_attribute_law : IsSpelledBy (method_attribute pool) attribute_bytes (IsMethodAttribute pool)
  method_attribute_law = record { «to» = method_attribute_to; «from» = method_attribute_from }
