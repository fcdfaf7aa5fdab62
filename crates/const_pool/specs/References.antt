-- Following the pool's indices to the texts (JVM Specification 4.4.1, 4.4.2, 4.4.6). A walk goes from the index to the
-- texts, for a member to the class before the name and the descriptor, and gives the first fault on its way.
use Rattle.std.specs.Prelude.{◌≡◌, ℕ, Bool, true, false, List, Option, None, Result, Ok, Err, if◌then◌else◌}
use Rattle.std.specs.Option.{ok_or, option_map_or}
use Rattle.std.specs.Result.{result_ok}
use Rattle.std.specs.Str.{bytes_eq}
use Rattle.const_pool.specs.declared.pool.Const.{Const}
use Rattle.const_pool.specs.declared.pool.Const.TheVariants.{Utf8, Class, Field, Method, InterfaceMethod, NameType}
use Rattle.const_pool.specs.declared.pool.PoolError.{PoolError}
use Rattle.const_pool.specs.declared.pool.PoolError.TheVariants.{BadIndex, WrongKind}
use Rattle.const_pool.specs.Pool.{entry_at}

infixl 10 ◌>>=◌
abbrev pub ◌>>=◌ : {A B : Type 0} → Result A PoolError → (A → Result B PoolError) → Result B PoolError
(Ok x) >>= f = f x
(Err e) >>= f = Err e

-- what a call answered, seen by view, is what the walk gives
abbrev pub Walks : {X Y : Type 0} → (X → Y) → Result X PoolError → Result Y PoolError → Type 0
Walks view (Ok x) walk = walk ≡ Ok (view x)
Walks view (Err e) walk = walk ≡ Err e

-- the entry at an index, which is neither 0 nor a second index nor past the end
abbrev pub entry_walk : List Const → ℕ → Result Const PoolError
entry_walk pool i = ok_or (entry_at pool i) BadIndex

abbrev pub text_entry : Const → Result (List ℕ) PoolError
text_entry (Utf8 t) = Ok t
text_entry _ = Err WrongKind

abbrev pub text_walk : List Const → ℕ → Result (List ℕ) PoolError
text_walk pool i = entry_walk pool i >>= text_entry

abbrev pub class_entry : List Const → Const → Result (List ℕ) PoolError
class_entry pool (Class i) = text_walk pool i
class_entry pool _ = Err WrongKind

-- the name of a class
abbrev pub class_walk : List Const → ℕ → Result (List ℕ) PoolError
class_walk pool i = entry_walk pool i >>= class_entry pool

-- a member's name and descriptor
pub record NameAndType : Type 0 where
  pub name : List ℕ
  pub descriptor : List ℕ

abbrev pub name_type_of : List ℕ → List ℕ → NameAndType
name_type_of name descriptor = record { name = name; descriptor = descriptor }

abbrev pub name_type_entry : List Const → Const → Result NameAndType PoolError
name_type_entry pool (NameType n d) = text_walk pool n >>= λ name. text_walk pool d >>= λ descriptor. Ok (name_type_of name descriptor)
name_type_entry pool _ = Err WrongKind

abbrev pub name_type_walk : List Const → ℕ → Result NameAndType PoolError
name_type_walk pool i = entry_walk pool i >>= name_type_entry pool

-- a member as a class file names it: its class, and its name and descriptor
pub record Reference : Type 0 where
  pub class : List ℕ
  pub member : NameAndType

abbrev pub reference_walk : List Const → ℕ → ℕ → Result Reference PoolError
reference_walk pool c n = class_walk pool c >>= λ class. name_type_walk pool n >>= λ member. Ok (record { class = class; member = member })

abbrev pub member_entry : List Const → Const → Result Reference PoolError
member_entry pool (Field c n) = reference_walk pool c n
member_entry pool (Method c n) = reference_walk pool c n
member_entry pool (InterfaceMethod c n) = reference_walk pool c n
member_entry pool _ = Err WrongKind

-- what a Fieldref, a Methodref or an InterfaceMethodref names
abbrev pub member_walk : List Const → ℕ → Result Reference PoolError
member_walk pool i = entry_walk pool i >>= member_entry pool

-- ---- the same, where the fault doesn't matter

abbrev pub named_text : List Const → ℕ → Option (List ℕ)
named_text pool i = result_ok (text_walk pool i)

-- the entry is this text
abbrev pub same_text_at : List Const → ℕ → List ℕ → Bool
same_text_at pool i text = option_map_or (λ found. bytes_eq found text) (named_text pool i) false

abbrev pub named_class : List Const → ℕ → Option (List ℕ)
named_class pool i = result_ok (class_walk pool i)

abbrev pub named_member : List Const → ℕ → Option Reference
named_member pool i = result_ok (member_walk pool i)

abbrev pub is_field : Const → Bool
is_field (Field c n) = true
is_field _ = false

abbrev pub is_method : Const → Bool
is_method (Method c n) = true
is_method _ = false

-- what a Fieldref names, and what a Methodref names
abbrev pub named_field : List Const → ℕ → Option Reference
named_field pool i = if option_map_or is_field (entry_at pool i) false then named_member pool i else None

abbrev pub named_method : List Const → ℕ → Option Reference
named_method pool i = if option_map_or is_method (entry_at pool i) false then named_member pool i else None
