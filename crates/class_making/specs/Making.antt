-- What is made of a class file's parts, and the pool behind it, which grows by the entries that they need.
use Rattle.std.specs.Prelude.{◌≡◌, ℕ, List, [], ◌∷◌, min, Result, IfOk, OnOk, ◌==◌, if◌then◌else◌}
use Rattle.jf_bytes.specs.declared.error.NoMemory.{NoMemory}
use Rattle.const_pool.specs.declared.pool.Const.{Const}
use Rattle.const_pool.specs.declared.pool.Const.TheVariants.{Field, Method}
use Rattle.const_pool.specs.declared.class.Member.{Member}
use Rattle.const_pool.specs.declared.class.Attribute.{Attribute}
use Rattle.const_pool.specs.declared.class.Attribute.TheVariants.{Code}

-- the number of two bytes; no pool and no code that is made is as long
abbrev pub short_of : ℕ → ℕ
short_of n = min n 65535

-- ---- entries

pub record EntryMade : Type 0 where
  pub pool : List Const
  pub index : ℕ

-- the call gave the index of the entry, and this is the pool behind it; or memory ran out
abbrev pub GivesEntry : Result ℕ NoMemory → List Const → EntryMade → Type 0
GivesEntry result pool made = IfOk result (λ index. (index ≡ made.index) × (pool ≡ made.pool))

-- getstatic names a field, and the others a method
abbrev pub member_entry : ℕ → ℕ → ℕ → Const
member_entry op class member = if op == 178 then Field class member else Method class member

-- ---- code

pub record CodeMade : Type 0 where
  pub pool : List Const
  pub bytes : List ℕ

-- behind the call, this is the pool and these are the bytes; or memory ran out
abbrev pub AddsCode : {A : Type 0} → Result A NoMemory → List Const → List ℕ → CodeMade → Type 0
AddsCode result pool bytes made = OnOk result ((pool ≡ made.pool) × (bytes ≡ made.bytes))

-- the attributes of a method that has this code and nothing else
abbrev pub code_alone : ℕ → ℕ → ℕ → List ℕ → List Attribute
code_alone name max_stack max_locals bytes =
    Code name (record { max_stack = max_stack; max_locals = max_locals; code = bytes; handlers = []; attributes = [] }) ∷ []

-- ---- members

pub record MemberMade : Type 0 where
  pub pool : List Const
  pub member : Member

-- the call gave this member, and this is the pool behind it; or memory ran out
abbrev pub GivesMember : Result Member NoMemory → List Const → MemberMade → Type 0
GivesMember result pool made = IfOk result (λ member. (member ≡ made.member) × (pool ≡ made.pool))

pub record MembersMade : Type 0 where
  pub pool : List Const
  pub members : List Member

abbrev pub GivesMembers : Result (List Member) NoMemory → List Const → MembersMade → Type 0
GivesMembers result pool made = IfOk result (λ members. (members ≡ made.members) × (pool ≡ made.pool))
