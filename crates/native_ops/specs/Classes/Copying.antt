-- java/lang/System: what its native methods do.
use Rattle.std.specs.Prelude.{ℕ, ◌-◌, ◌==◌, ℤ, Bool, List, [], ◌∷◌, length, Option, Some, None, nat_lt, nat_le, if◌then◌else◌, ◌&&◌, ◌||◌}
use Rattle.heap_objects.specs.declared.datum.Datum.{Datum}
use Rattle.heap_objects.specs.Heaps.{HeapView}
use Rattle.heap_objects.specs.Kept.{reference_of}
use Rattle.native_effects.specs.declared.effects.answer.Answer.TheVariants.{Value, Throws, Exit as Exits}
use Rattle.native_effects.specs.declared.effects.effect.NativeEffect.{NativeEffect}
use Rattle.native_effects.specs.declared.effects.effect.NativeEffect.TheVariants.{Answers, Stores}
use Rattle.native_ops.specs.declared.methods.method.SystemMethod.{SystemMethod}
use Rattle.native_ops.specs.declared.methods.method.SystemMethod.TheVariants.{Exit, Arraycopy, IdentityHashCode}
use Rattle.native_effects.specs.Inputs.Numbers.{array_store_exception, array_index_out_of_bounds_exception, null_pointer_exception, first_array_kind, first_reference_array_kind}
use Rattle.native_effects.specs.Inputs.Arguments.{int_in, reference_in}
use Rattle.native_effects.specs.Inputs.Objects.{kind_or_none, values_at, size_at, number_as_int}
use Rattle.native_effects.specs.Inputs.Places.{counted_range, between}
use Rattle.native_effects.specs.Inputs.KindsViews.{KindsView}
use Rattle.native_effects.specs.Effects.Answers.{gives_int, throws}

-- what arrays of a kind hold: one primitive type, told by the kind, or references
abbrev pub sort_of_array : ℕ → ℕ
sort_of_array kind = if nat_lt kind first_reference_array_kind then kind else 0

-- both are arrays, of one primitive type or of references
abbrev pub can_copy : ℕ → ℕ → Bool
can_copy from to =
    (nat_le first_array_kind from && nat_le first_array_kind to) && sort_of_array from == sort_of_array to

-- A value may stand in an array of a kind: a reference is null or of a subtype of the elements' class.
abbrev pub may_store : KindsView → ℕ → HeapView → Datum → Bool
may_store kinds kind h v =
    nat_lt kind first_reference_array_kind
    || (reference_of v == 0 || kinds.subtype (kind_or_none (reference_of v) h) (kind - first_array_kind))

-- the values before the first that may not
abbrev pub storable : KindsView → ℕ → HeapView → List Datum → List Datum
storable kinds kind h [] = []
storable kinds kind h (v ∷ values) = if may_store kinds kind h v then v ∷ storable kinds kind h values else []

-- The values are stored from a place on, up to the first that may not.
abbrev pub store : KindsView → ℕ → ℕ → List Datum → HeapView → NativeEffect
store kinds array place values h =
    let fitting = storable kinds (kind_or_none array h) h values in
    Stores array place fitting (if length fitting == length values then Value None else Throws array_store_exception)

abbrev pub copy_ranges : KindsView → ℕ → ℕ → Option (ℕ × ℕ) → Option (ℕ × ℕ) → HeapView → NativeEffect
copy_ranges kinds from to (Some source) (Some target) h =
    store kinds to target.0 (between source.0 source.1 (values_at from h)) h
copy_ranges kinds from to (Some source) None h = throws array_index_out_of_bounds_exception
copy_ranges kinds from to None target h = throws array_index_out_of_bounds_exception

abbrev pub arraycopy : KindsView → ℕ → ℤ → ℕ → ℤ → ℤ → HeapView → NativeEffect
arraycopy kinds from from_place to to_place count h =
    if from == 0 || to == 0 then throws null_pointer_exception else
    if can_copy (kind_or_none from h) (kind_or_none to h)
    then copy_ranges kinds from to (counted_range from_place count (size_at from h)) (counted_range to_place count (size_at to h)) h
    else throws array_store_exception

abbrev pub system_effect : SystemMethod → KindsView → List Datum → HeapView → NativeEffect
system_effect Exit kinds args h = Answers (Exits (int_in args 0))
system_effect Arraycopy kinds args h =
    arraycopy kinds (reference_in args 0) (int_in args 1) (reference_in args 2) (int_in args 3) (int_in args 4) h
system_effect IdentityHashCode kinds args h = gives_int (number_as_int (reference_in args 0))
