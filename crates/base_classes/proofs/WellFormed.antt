-- A test that finds the class files of this crate well formed, and bare of what is not declared.
use Rattle.std.proofs.Common.{◌≡◌, ℕ, ◌<◌, ◌^◌, ◌⊎◌, inl, inr, Bool, true, false, List, [], ◌∷◌, length, Option, Some, None, refl, subst, ap, ⊎_elim, lit<, lit≤}
use Rattle.std.specs.Prelude.{nat_lt, ◌==◌, ◌&&◌, ◌||◌, slice_get}
use Rattle.std.specs.Option.{option_map_or}
use Rattle.std.specs.List.{list_all, AllByRecursion}
use Rattle.std.specs.Str.{bytes_eq}
use Rattle.std.proofs.lemmas.Bool.{and_parts, or_cases, ltb-true, eqb-true}
use Rattle.std.proofs.lemmas.Slice.Eq.{bytes_eq-Decides}
use Rattle.jf_bytes.specs.ModifiedUtf8.{modified_utf8}
use Rattle.const_pool.specs.declared.pool.Const.{Const}
use Rattle.const_pool.specs.declared.pool.Const.TheVariants.{Gap, Utf8, Integer, Float, Long, Double, Class, Text, Field, Method, InterfaceMethod, NameType}
use Rattle.const_pool.specs.declared.class.ClassFile.{ClassFile}
use Rattle.const_pool.specs.declared.class.Member.{Member}
use Rattle.const_pool.specs.declared.class.CodeAttribute.{CodeAttribute}
use Rattle.const_pool.specs.declared.class.Attribute.{Attribute}
use Rattle.const_pool.specs.declared.class.Attribute.TheVariants.{ConstantValue, Code, Other}
use Rattle.const_pool.specs.Pool.{IsPool, AreEntries, Names, is_utf8, is_class, is_name_type}
use Rattle.const_pool.specs.References.{named_text}
use Rattle.const_pool.specs.ClassFile.{IsU2, IsByte, FitsCount, IsCode, IsMember, IsFieldAttribute, IsMethodAttribute, IsClassFile, code_bytes, code_name}
use Rattle.base_classes.specs.BuiltInClasses.{HasAtMostCode, IsBare}

-- ---- lists

abbrev is_nil : {A : Type 0} → List A → Bool
is_nil [] = true
is_nil (x ∷ xs) = false

nil : {A : Type 0} (xs : List A) → is_nil xs ≡ true → xs ≡ []
nil [] h = refl
nil (x ∷ xs) h = absurd cc

pub each : {A : Type 0} (test : A → Bool) (P : A → Type 0) → ((x : A) → test x ≡ true → P x) → (xs : List A) → list_all test xs ≡ true → AllByRecursion P xs
each test P holds [] h = tt
each test P holds (x ∷ xs) h = let parts = and_parts _ _ h in (holds x parts.0, each test P holds xs parts.1)

-- ---- numbers and names

abbrev is_u2 : ℕ → Bool
is_u2 n = nat_lt n 65536

u2_fits : (n : ℕ) → is_u2 n ≡ true → n < 2 ^ 16
u2_fits n h = ltb-true n 65536 h

-- the index is a u2 and names an entry of the kind
abbrev names : (Const → Bool) → List Const → ℕ → Bool
names kind pool i = is_u2 i && option_map_or kind (slice_get pool i) false

named : (kind : Const → Bool) (pool : List Const) (i : ℕ) → names kind pool i ≡ true → (i < 2 ^ 16) × Names kind pool i
named kind pool i h = let parts = and_parts _ _ h in (u2_fits i parts.0, parts.1)

-- ---- the pool

abbrev is_entry : List Const → Const → Bool
is_entry pool (Utf8 t) = list_all is_u2 t && is_u2 (length (modified_utf8 t))
is_entry pool (Class i) = names is_utf8 pool i
is_entry pool (Text i) = names is_utf8 pool i
is_entry pool (Field c n) = names is_class pool c && names is_name_type pool n
is_entry pool (Method c n) = names is_class pool c && names is_name_type pool n
is_entry pool (NameType n d) = names is_utf8 pool n && names is_utf8 pool d
is_entry pool Gap = false
is_entry pool (Integer n) = false
is_entry pool (Float n) = false
is_entry pool (Long n) = false
is_entry pool (Double n) = false
is_entry pool (InterfaceMethod c n) = false

two_named : (k l : Const → Bool) (pool : List Const) (c n : ℕ) → (names k pool c && names l pool n) ≡ true
    → (c < 2 ^ 16) × (n < 2 ^ 16) × Names k pool c × Names l pool n
two_named k l pool c n h =
    let parts = and_parts _ _ h in
    let first = named k pool c parts.0 in
    let second = named l pool n parts.1 in
    (first.0, second.0, first.1, second.1)

are_entries : (pool rest : List Const) → list_all (is_entry pool) rest ≡ true → AreEntries pool rest
are_entries pool [] h = tt
are_entries pool (Utf8 t ∷ rest) h =
    let parts = and_parts _ _ h in
    let text = and_parts _ _ parts.0 in
    ((each is_u2 (λ unit. unit < 2 ^ 16) u2_fits t text.0, u2_fits _ text.1), are_entries pool rest parts.1)
are_entries pool (Class i ∷ rest) h = let parts = and_parts _ _ h in (named is_utf8 pool i parts.0, are_entries pool rest parts.1)
are_entries pool (Text i ∷ rest) h = let parts = and_parts _ _ h in (named is_utf8 pool i parts.0, are_entries pool rest parts.1)
are_entries pool (Field c n ∷ rest) h = let parts = and_parts _ _ h in (two_named is_class is_name_type pool c n parts.0, are_entries pool rest parts.1)
are_entries pool (Method c n ∷ rest) h = let parts = and_parts _ _ h in (two_named is_class is_name_type pool c n parts.0, are_entries pool rest parts.1)
are_entries pool (NameType n d ∷ rest) h = let parts = and_parts _ _ h in (two_named is_utf8 is_utf8 pool n d parts.0, are_entries pool rest parts.1)
are_entries pool (Gap ∷ rest) h = absurd cc
are_entries pool (Integer n ∷ rest) h = absurd cc
are_entries pool (Float n ∷ rest) h = absurd cc
are_entries pool (Long n ∷ rest) h = absurd cc
are_entries pool (Double n ∷ rest) h = absurd cc
are_entries pool (InterfaceMethod c n ∷ rest) h = absurd cc

-- a gap, and then entries
abbrev is_pool_of : List Const → List Const → Bool
is_pool_of all (Gap ∷ rest) = list_all (is_entry all) rest
is_pool_of all (_ ∷ rest) = false
is_pool_of all [] = false

pool_holds : (pool : List Const) → is_pool_of pool pool ≡ true → is_u2 (length pool) ≡ true → IsPool pool
pool_holds (Gap ∷ entries) h count = record {
  count = u2_fits _ count;
  first = refl;
  entries = λ rest e. subst (λ rest. AreEntries (Gap ∷ entries) rest) (tail_is entries rest e) (are_entries (Gap ∷ entries) entries h);
}
  where
    tail_is : (xs ys : List Const) → Gap ∷ xs ≡ Gap ∷ ys → xs ≡ ys
    tail_is xs ys e = cc
pool_holds [] h count = absurd cc
pool_holds (Utf8 t ∷ entries) h count = absurd cc
pool_holds (Integer n ∷ entries) h count = absurd cc
pool_holds (Float n ∷ entries) h count = absurd cc
pool_holds (Long n ∷ entries) h count = absurd cc
pool_holds (Double n ∷ entries) h count = absurd cc
pool_holds (Class i ∷ entries) h count = absurd cc
pool_holds (Text i ∷ entries) h count = absurd cc
pool_holds (Field c n ∷ entries) h count = absurd cc
pool_holds (Method c n ∷ entries) h count = absurd cc
pool_holds (InterfaceMethod c n ∷ entries) h count = absurd cc
pool_holds (NameType n d ∷ entries) h count = absurd cc

-- ---- code

-- without handlers and attributes of its own
abbrev is_bare_code : CodeAttribute → Bool
is_bare_code c = is_nil c.handlers && is_nil c.attributes

abbrev is_code : CodeAttribute → Bool
is_code c =
    (is_u2 c.max_stack && is_u2 c.max_locals)
    && ((nat_lt 0 (length c.code) && is_u2 (length c.code))
    && (list_all (λ byte. nat_lt byte 256) c.code && (is_bare_code c && nat_lt (length (code_bytes c)) 4294967296)))

bare_code : (c : CodeAttribute) → is_bare_code c ≡ true → (c.handlers ≡ []) × (c.attributes ≡ [])
bare_code c h = let parts = and_parts _ _ h in (nil _ parts.0, nil _ parts.1)

code_holds : (pool : List Const) (c : CodeAttribute) → is_code c ≡ true → IsCode pool c × ((c.handlers ≡ []) × (c.attributes ≡ []))
code_holds pool c h =
    let top = and_parts _ _ h in
    let sizes = and_parts _ _ top.0 in
    let lower = and_parts _ _ top.1 in
    let lengths = and_parts _ _ lower.0 in
    let rest = and_parts _ _ lower.1 in
    let last = and_parts _ _ rest.1 in
    let bare = bare_code c last.0 in (
      record {
        max_stack = u2_fits _ sizes.0;
        max_locals = u2_fits _ sizes.1;
        some = ltb-true _ _ lengths.0;
        short = u2_fits _ lengths.1;
        code = each (λ byte. nat_lt byte 256) IsByte (λ byte h. ltb-true byte 256 h) c.code rest.0;
        handler_count = rw bare.0 (lit< tt);
        handlers = rw bare.0 tt;
        attribute_count = rw bare.1 (lit< tt);
        attributes = rw bare.1 tt;
        whole = ltb-true _ _ last.1;
      },
      bare,
    )

-- ---- members

-- the text that the index names
abbrev is_named : List Const → ℕ → List ℕ → Bool
is_named pool i text = option_map_or (λ units. bytes_eq units text) (named_text pool i) false

same_text : (o : Option (List ℕ)) (t : List ℕ) → option_map_or (λ units. bytes_eq units t) o false ≡ true → o ≡ Some t
same_text (Some units) t e = ap (λ (u : List ℕ). Some u) ((bytes_eq-Decides units t).0 e)
same_text None t e = absurd cc

-- no attribute, or one Code
abbrev are_attributes : List Const → List Attribute → Bool
are_attributes pool [] = true
are_attributes pool (Code name code ∷ []) = (is_u2 name && is_named pool name code_name) && is_code code
are_attributes pool (Code name code ∷ (_ ∷ _)) = false
are_attributes pool (ConstantValue name index ∷ _) = false
are_attributes pool (Other raw ∷ _) = false

attributes_hold : (pool : List Const) (attributes : List Attribute) → are_attributes pool attributes ≡ true
    → FitsCount attributes × AllByRecursion (IsMethodAttribute pool) attributes × HasAtMostCode attributes
attributes_hold pool [] h = (lit< tt, tt, tt)
attributes_hold pool (Code name code ∷ []) h =
    let parts = and_parts _ _ h in
    let at = and_parts _ _ parts.0 in
    let holds = code_holds pool code parts.1 in
    (lit< tt, ((u2_fits name at.0, same_text _ _ at.1, holds.0), tt), holds.1)
attributes_hold pool (Code name code ∷ (a ∷ rest)) h = absurd cc
attributes_hold pool (ConstantValue name index ∷ rest) h = absurd cc
attributes_hold pool (Other raw ∷ rest) h = absurd cc

abbrev is_member : List Const → Member → Bool
is_member pool m = is_u2 m.access && (names is_utf8 pool m.name && names is_utf8 pool m.descriptor)

abbrev is_field : List Const → Member → Bool
is_field pool m = is_member pool m && is_nil m.attributes

abbrev is_method : List Const → Member → Bool
is_method pool m = is_member pool m && are_attributes pool m.attributes

field_holds : (pool : List Const) (m : Member) → is_field pool m ≡ true → IsMember IsFieldAttribute pool m
field_holds pool m h =
    let top = and_parts _ _ h in
    let parts = and_parts _ _ top.0 in
    let texts = and_parts _ _ parts.1 in
    let name = named is_utf8 pool m.name texts.0 in
    let descriptor = named is_utf8 pool m.descriptor texts.1 in
    let none = nil m.attributes top.1 in
    record {
      access = u2_fits _ parts.0;
      name = name.0;
      named = name.1;
      descriptor = descriptor.0;
      described = descriptor.1;
      count = rw none (lit< tt);
      attributes = rw none tt;
    }

method_holds : (pool : List Const) (m : Member) → is_method pool m ≡ true → IsMember IsMethodAttribute pool m
method_holds pool m h =
    let top = and_parts _ _ h in
    let parts = and_parts _ _ top.0 in
    let texts = and_parts _ _ parts.1 in
    let name = named is_utf8 pool m.name texts.0 in
    let descriptor = named is_utf8 pool m.descriptor texts.1 in
    let held = attributes_hold pool m.attributes top.1 in
    record {
      access = u2_fits _ parts.0;
      name = name.0;
      named = name.1;
      descriptor = descriptor.0;
      described = descriptor.1;
      count = held.0;
      attributes = held.1;
    }

-- ---- the class

abbrev is_superclass : List Const → ℕ → Bool
is_superclass pool i = (i == 0) || names is_class pool i

superclass_holds : (pool : List Const) (i : ℕ) → is_superclass pool i ≡ true → (i < 2 ^ 16) × ((i ≡ 0) ⊎ Names is_class pool i)
superclass_holds pool i h = ⊎_elim (λ zero. let e = eqb-true i 0 zero in (rw e (lit< tt), inl e)) (λ named_class. let n = named is_class pool i named_class in (n.0, inr n.1)) (or_cases (i == 0) _ h)

unfoldable pub is_made : ClassFile → Bool
is_made c =
    ((c.minor == 0) && (c.major == 49))
    && ((is_pool_of c.pool c.pool && is_u2 (length c.pool))
    && ((is_u2 c.access && names is_class c.pool c.this_class)
    && ((is_superclass c.pool c.super_class && (is_u2 (length c.interfaces) && list_all (names is_class c.pool) c.interfaces))
    && ((is_u2 (length c.fields) && list_all (is_field c.pool) c.fields)
    && ((is_u2 (length c.methods) && list_all (is_method c.pool) c.methods)
    && is_nil c.attributes)))))

pub class_holds : (c : ClassFile) → is_made c ≡ true → IsClassFile c × IsBare c
unfolding is_made
class_holds c h =
    let a = and_parts _ _ h in
    let version = and_parts _ _ a.0 in
    let minor = eqb-true c.minor 0 version.0 in
    let major = eqb-true c.major 49 version.1 in
    let b = and_parts _ _ a.1 in
    let pool = and_parts _ _ b.0 in
    let d = and_parts _ _ b.1 in
    let own = and_parts _ _ d.0 in
    let this = named is_class c.pool c.this_class own.1 in
    let e = and_parts _ _ d.1 in
    let above = and_parts _ _ e.0 in
    let super = superclass_holds c.pool c.super_class above.0 in
    let interfaces = and_parts _ _ above.1 in
    let f = and_parts _ _ e.1 in
    let fields = and_parts _ _ f.0 in
    let g = and_parts _ _ f.1 in
    let methods = and_parts _ _ g.0 in
    let none = nil c.attributes g.1 in (
      record {
        version = record { fits = rw minor (lit< tt); least = rw major (lit≤ tt); most = rw major (lit≤ tt) };
        pool = pool_holds c.pool pool.0 pool.1;
        access = u2_fits _ own.0;
        this_index = this.0;
        this_class = this.1;
        super_index = super.0;
        super_class = super.1;
        interface_count = u2_fits _ interfaces.0;
        interfaces = each (names is_class c.pool) (λ i. IsU2 i × Names is_class c.pool i) (named is_class c.pool) c.interfaces interfaces.1;
        field_count = u2_fits _ fields.0;
        fields = each (is_field c.pool) (IsMember IsFieldAttribute c.pool) (field_holds c.pool) c.fields fields.1;
        method_count = u2_fits _ methods.0;
        methods = each (is_method c.pool) (IsMember IsMethodAttribute c.pool) (method_holds c.pool) c.methods methods.1;
        attribute_count = rw none (lit< tt);
        attributes = rw none tt;
      },
      record {
        minor = minor;
        major = major;
        fields = each (is_field c.pool) (λ m. m.attributes ≡ []) (λ m h. nil m.attributes (and_parts _ _ h).1) c.fields fields.1;
        methods = each (is_method c.pool) (λ m. HasAtMostCode m.attributes) (λ m h. (attributes_hold c.pool m.attributes (and_parts _ _ h).1).2) c.methods methods.1;
        attributes = none;
      },
    )
