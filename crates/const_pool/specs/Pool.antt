-- The constant pool of a class file, as a list of its entries (JVM Specification 4.4).
use Rattle.std.specs.Prelude.{◌≡◌, ℕ, zero, suc, ◌<◌, ◌≤◌, ◌^◌, ◌⊎◌, Bool, true, false, not, ◌&&◌, List, [], ◌∷◌, ◌++◌, length, Option, Some, None, IsTrue, slice_get, FitsSigned}
use Rattle.std.specs.Bool.{beq}
use Rattle.std.specs.Option.{option_and_then, option_map_or}
use Rattle.std.specs.List.{flat_map, AllByRecursion}
use Rattle.std.specs.Int.{w16, w32, w64, to_be_bytes, cast_unsigned}
use Rattle.jf_bytes.specs.ModifiedUtf8.{modified_utf8}
use Rattle.const_pool.specs.declared.pool.Const.{Const}
use Rattle.const_pool.specs.declared.pool.Const.TheVariants.{Gap, Utf8, Integer, Float, Long, Double, Class, Text, Field, Method, InterfaceMethod, NameType}

-- numbers are big-endian (4)
abbrev pub u1 : ℕ → List ℕ
u1 n = n ∷ []

abbrev pub u2 : ℕ → List ℕ
u2 n = to_be_bytes w16 n

abbrev pub u4 : ℕ → List ℕ
u4 n = to_be_bytes w32 n

abbrev pub u8 : ℕ → List ℕ
u8 n = to_be_bytes w64 n

-- ---- looking up

-- an index names an entry, if it is neither a gap nor past the end
abbrev pub entry_of : Const → Option Const
entry_of Gap = None
entry_of c = Some c

abbrev pub entry_at : List Const → ℕ → Option Const
entry_at pool i = option_and_then entry_of (slice_get pool i)

abbrev pub is_utf8 : Const → Bool
is_utf8 (Utf8 t) = true
is_utf8 _ = false

abbrev pub is_class : Const → Bool
is_class (Class i) = true
is_class _ = false

abbrev pub is_name_type : Const → Bool
is_name_type (NameType n d) = true
is_name_type _ = false

-- what a ConstantValue may name (4.7.2)
abbrev pub is_constant : Const → Bool
is_constant (Integer n) = true
is_constant (Float n) = true
is_constant (Long n) = true
is_constant (Double n) = true
is_constant (Text i) = true
is_constant _ = false

-- the index names an entry of this kind
abbrev pub Names : (Const → Bool) → List Const → ℕ → Type 0
Names kind pool i = IsTrue (option_map_or kind (slice_get pool i) false)

-- ---- where gaps stand

abbrev pub is_gap : Const → Bool
is_gap Gap = true
is_gap _ = false

-- what takes two indices (4.4.5)
abbrev pub is_wide : Const → Bool
is_wide (Long n) = true
is_wide (Double n) = true
is_wide _ = false

-- each entry is a gap exactly where one is due: behind what takes two indices, and first where the Bool says so; none
-- is due behind the last
abbrev pub gaps_due : Bool → List Const → Bool
gaps_due due [] = not due
gaps_due due (c ∷ pool) = beq (is_gap c) due && gaps_due (is_wide c) pool

-- gaps stand exactly at index 0 and at each second index
abbrev pub has_gaps : List Const → Bool
has_gaps pool = gaps_due true pool

-- the second index of an entry
abbrev pub is_second : List Const → ℕ → Bool
is_second pool zero = false
is_second pool (suc i) = option_map_or is_wide (slice_get pool i) false

-- an index that names no entry
abbrev pub IsUnusable : List Const → ℕ → Type 0
IsUnusable pool i = (i ≡ 0) ⊎ (IsTrue (is_second pool i) ⊎ (length pool ≤ i))

-- ---- what a pool may be

-- the parts of an entry are in the range of their types, and its indices name entries of the needed kinds
abbrev pub IsEntry : List Const → Const → Type 0
IsEntry pool Gap = ⊥
IsEntry pool (Utf8 t) = AllByRecursion (λ unit. unit < 2 ^ 16) t × (length (modified_utf8 t) < 2 ^ 16)
IsEntry pool (Integer n) = FitsSigned w32 n
IsEntry pool (Float n) = n < 2 ^ 32
IsEntry pool (Long n) = FitsSigned w64 n
IsEntry pool (Double n) = n < 2 ^ 64
IsEntry pool (Class i) = (i < 2 ^ 16) × Names is_utf8 pool i
IsEntry pool (Text i) = (i < 2 ^ 16) × Names is_utf8 pool i
IsEntry pool (Field c n) = (c < 2 ^ 16) × (n < 2 ^ 16) × Names is_class pool c × Names is_name_type pool n
IsEntry pool (Method c n) = (c < 2 ^ 16) × (n < 2 ^ 16) × Names is_class pool c × Names is_name_type pool n
IsEntry pool (InterfaceMethod c n) = (c < 2 ^ 16) × (n < 2 ^ 16) × Names is_class pool c × Names is_name_type pool n
IsEntry pool (NameType n d) = (n < 2 ^ 16) × (d < 2 ^ 16) × Names is_utf8 pool n × Names is_utf8 pool d

-- Entries follow one another; a Long or a Double takes two indices, of which the second is a gap (4.4.5).
abbrev pub AreEntries : List Const → List Const → Type 0
AreEntries pool [] = Unit {0}
AreEntries pool (Long n ∷ Gap ∷ rest) = IsEntry pool (Long n) × AreEntries pool rest
AreEntries pool (Double n ∷ Gap ∷ rest) = IsEntry pool (Double n) × AreEntries pool rest
AreEntries pool (Long n ∷ rest) = ⊥
AreEntries pool (Double n ∷ rest) = ⊥
AreEntries pool (c ∷ rest) = IsEntry pool c × AreEntries pool rest

-- index 0 is a gap, and the count is a u2
pub record IsPool (pool : List Const) : Type 0 where
  pub count : length pool < 2 ^ 16
  pub first : slice_get pool 0 ≡ Some Gap
  pub entries : (rest : List Const) → pool ≡ Gap ∷ rest → AreEntries pool rest

-- ---- how it is spelled

-- a tag and the contents (4.4, tables 4.4-A and those of the structures)
abbrev pub entry_bytes : Const → List ℕ
entry_bytes Gap = []
entry_bytes (Utf8 t) = u1 1 ++ (u2 (length (modified_utf8 t)) ++ modified_utf8 t)
entry_bytes (Integer n) = u1 3 ++ u4 (cast_unsigned w32 n)
entry_bytes (Float n) = u1 4 ++ u4 n
entry_bytes (Long n) = u1 5 ++ u8 (cast_unsigned w64 n)
entry_bytes (Double n) = u1 6 ++ u8 n
entry_bytes (Class i) = u1 7 ++ u2 i
entry_bytes (Text i) = u1 8 ++ u2 i
entry_bytes (Field c n) = u1 9 ++ (u2 c ++ u2 n)
entry_bytes (Method c n) = u1 10 ++ (u2 c ++ u2 n)
entry_bytes (InterfaceMethod c n) = u1 11 ++ (u2 c ++ u2 n)
entry_bytes (NameType n d) = u1 12 ++ (u2 n ++ u2 d)

-- the count, and the entries from index 1 on: a gap has no bytes
abbrev pub pool_bytes : List Const → List ℕ
pool_bytes pool = u2 (length pool) ++ flat_map entry_bytes pool
