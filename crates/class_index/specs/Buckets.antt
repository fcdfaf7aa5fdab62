-- Members by a number made of name and descriptor, so that a look-up compares few of them.
use Rattle.std.specs.Prelude.{ℕ, ◌+◌, ◌*◌, ◌%◌, Bool, false, List, [], ◌∷◌, ◌++◌, length, Option, find, replicate, slice_get, slice_set, unwrap_or}
use Rattle.std.specs.Option.{option_map_or}
use Rattle.const_pool.specs.declared.class.ClassFile.{ClassFile}
use Rattle.const_pool.specs.declared.class.Member.{Member}
use Rattle.const_pool.specs.declared.pool.Const.{Const}
use Rattle.const_pool.specs.References.{NameAndType, named_text}
use Rattle.jvm_model.specs.Basis.Methods.{is_member}
use Rattle.class_index.specs.declared.table.MemberBuckets.{MemberBuckets}

-- ---- numbers

abbrev pub text_number : ℕ → List ℕ → ℕ
text_number number [] = number
text_number number (unit ∷ rest) = text_number ((number * 31 + unit) % 65521) rest

abbrev pub number_of : NameAndType → ℕ
number_of w = text_number (text_number 0 w.name) w.descriptor

abbrev pub texts_at : List Const → Member → NameAndType
texts_at pool m = record { name = unwrap_or (named_text pool m.name) []; descriptor = unwrap_or (named_text pool m.descriptor) [] }

abbrev pub member_number : List Const → Member → ℕ
member_number pool m = number_of (texts_at pool m)

-- ---- buckets: the positions of members whose numbers have the same remainder, in order

abbrev pub bucket_at : List (List ℕ) → ℕ → List ℕ
bucket_at buckets place = unwrap_or (slice_get buckets place) []

abbrev pub with_position : List (List ℕ) → ℕ → ℕ → List (List ℕ)
with_position buckets place position = slice_set buckets place (bucket_at buckets place ++ position ∷ [])

-- with the members from this position on
abbrev pub filled_from : ℕ → List Const → ℕ → List Member → List (List ℕ) → List (List ℕ)
filled_from size pool at [] buckets = buckets
filled_from size pool at (m ∷ rest) buckets =
    filled_from size pool (at + 1) rest (with_position buckets (member_number pool m % size) at)

abbrev pub buckets_of : List Const → List Member → List (List ℕ)
buckets_of pool members = filled_from (length members + 1) pool 0 members (replicate (length members + 1) [])

abbrev pub table_of : ClassFile → MemberBuckets
table_of c = record { fields = buckets_of c.pool c.fields; methods = buckets_of c.pool c.methods }

-- ---- looking up

abbrev pub is_at : List Const → List Member → NameAndType → ℕ → Bool
is_at pool members wanted position = option_map_or (is_member pool wanted) (slice_get members position) false

-- the first position of the bucket at which the member stands
abbrev pub member_sought : List Const → List Member → List (List ℕ) → NameAndType → Option ℕ
member_sought pool members buckets wanted = find (is_at pool members wanted) (bucket_at buckets (number_of wanted % length buckets))
