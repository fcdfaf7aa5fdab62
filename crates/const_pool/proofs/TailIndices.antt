-- The definitions of the pool tail, computed behind 24 entries.
use Rattle.std.proofs.Common.{◌≡◌, length, codes, Some, slice_get, refl}
use Rattle.const_pool.specs.declared.pool.Const.TheVariants.{Utf8, Class, Method, NameType}
use Rattle.const_pool.specs.Tail.{tail_entries, root_index, enter_index, leave_index, unwind_index, throwable_index, frames_index}

root : root_index 24 ≡ 29
root = refl

enter : enter_index 24 ≡ 32
enter = refl

leave : leave_index 24 ≡ 35
leave = refl

unwind : unwind_index 24 ≡ 38
unwind = refl

throwable : throwable_index 24 ≡ 40
throwable = refl

frames : frames_index 24 ≡ 41
frames = refl

eighteen : length (tail_entries 24) ≡ 18
eighteen = refl

root_method : slice_get (tail_entries 24) 5 ≡ Some (Method 25 28)
root_method = refl

root_name : slice_get (tail_entries 24) 4 ≡ Some (NameType 27 26)
root_name = refl

unwind_method : slice_get (tail_entries 24) 14 ≡ Some (Method 25 37)
unwind_method = refl

throwable_class : slice_get (tail_entries 24) 16 ≡ Some (Class 39)
throwable_class = refl

frames_name : slice_get (tail_entries 24) 17 ≡ Some (Utf8 (codes "StackMapTable"))
frames_name = refl
