-- Look-ups in a pool, with each way on which one goes wrong, and the tail behind a pool.
use Rattle.std.proofs.Common.{◌≡◌, ℕ, true, List, [], ◌∷◌, refl, codes}
use Rattle.std.specs.Prelude.{pos, map, Ok, Err, length, replicate}
use Rattle.std.specs.Result.{result_err}
use Rattle.const_pool.specs.declared.pool.Const.{Const}
use Rattle.const_pool.specs.declared.pool.Const.TheVariants.{Gap, Utf8, Integer, Long, Double, Class, Field, Method, InterfaceMethod, NameType}
use Rattle.const_pool.specs.declared.pool.PoolError.TheVariants.{BadIndex, WrongKind}
use Rattle.const_pool.specs.Pool.{has_gaps}
use Rattle.const_pool.specs.References.{text_walk, class_walk, member_walk, name_type_of}
use Rattle.const_pool.specs.Tail.{with_tail, root_index, enter_index, leave_index, unwind_index, throwable_index, frames_index}

-- the field `out` of a class `A`, of type int, at index 6
abbrev pool : List Const
pool =
    Gap ∷ Utf8 (codes "A") ∷ Class 1 ∷ Utf8 (codes "out") ∷ Utf8 (codes "I") ∷ NameType 3 4 ∷ Field 2 5 ∷ Method 1 5 ∷ Class 5 ∷ Method 8 5
    ∷ Method 2 4 ∷ NameType 2 4 ∷ Method 2 11 ∷ NameType 3 2 ∷ InterfaceMethod 2 13 ∷ Long (pos 1) ∷ Gap ∷ Field 16 5 ∷ Field 2 24
    ∷ NameType 0 2 ∷ Method 2 19 ∷ Method 24 4 ∷ Method 1 24 ∷ Double 1 ∷ Gap ∷ []

is_pool : has_gaps pool ≡ true
is_pool = refl

member : member_walk pool 6 ≡ Ok (record { class = codes "A"; member = name_type_of (codes "out") (codes "I") })
member = refl

class : class_walk pool 2 ≡ Ok (codes "A")
class = refl

text : text_walk pool 4 ≡ Ok (codes "I")
text = refl

-- no entry at this index, or at one on the way
bad_indices : map (member_walk pool) (0 ∷ 16 ∷ 17 ∷ 18 ∷ 20 ∷ 21 ∷ [])
    ≡ Err BadIndex ∷ Err BadIndex ∷ Err BadIndex ∷ Err BadIndex ∷ Err BadIndex ∷ Err BadIndex ∷ []
bad_indices = refl

-- an entry of another tag
wrong_kinds : map (member_walk pool) (1 ∷ 7 ∷ 9 ∷ 10 ∷ 12 ∷ 14 ∷ 22 ∷ [])
    ≡ Err WrongKind ∷ Err WrongKind ∷ Err WrongKind ∷ Err WrongKind ∷ Err WrongKind ∷ Err WrongKind ∷ Err WrongKind ∷ []
wrong_kinds = refl

-- ---- the tail behind 24 entries

abbrev tailed : List Const
tailed = with_tail (Gap ∷ replicate 23 (Integer (pos 7)))

texts : map (text_walk tailed) (24 ∷ 26 ∷ 27 ∷ 30 ∷ 33 ∷ 36 ∷ 39 ∷ 41 ∷ [])
    ≡ Ok (codes "jfluid/Probe") ∷ Ok (codes "(I)V") ∷ Ok (codes "root") ∷ Ok (codes "enter") ∷ Ok (codes "leave") ∷ Ok (codes "unwind")
    ∷ Ok (codes "java/lang/Throwable") ∷ Ok (codes "StackMapTable") ∷ []
texts = refl

indices : root_index 24 ∷ enter_index 24 ∷ leave_index 24 ∷ unwind_index 24 ∷ throwable_index 24 ∷ frames_index 24 ∷ []
    ≡ 29 ∷ 32 ∷ 35 ∷ 38 ∷ 40 ∷ 41 ∷ []
indices = refl

count : length tailed ≡ 42
count = refl

-- behind as many entries as it fits behind
last_index : frames_index 65517 ≡ 65534
last_index = refl
