-- The rows are those of the native methods, one for each and in their order.
use Rattle.std.proofs.Common.{◌≡◌, ℕ, ◌<◌, length, map, Some, subst, refl, sym, ap, ◌∙◌}
use Rattle.std.specs.Prelude.{Option, None, IsSome, slice_get}
use Rattle.std.specs.Option.{option_map}
use Rattle.std.proofs.lemmas.Option.{slice_get_within, slice_get-map}
use Rattle.std.proofs.lemmas.Bool.{false≢true}
use Rattle.const_pool.specs.References.{Reference}
use Rattle.base_classes.specs.BuiltInClasses.{built_in_classes}
use Rattle.base_classes.specs.ObjectClasses.{object_classes}
use Rattle.base_classes.specs.TextClasses.{text_classes}
use Rattle.base_classes.specs.StreamClasses.{stream_classes}
use Rattle.base_classes.specs.ValueClasses.{value_classes}
use Rattle.base_classes.specs.ThrowableClasses.{throwable_classes}
use Rattle.base_classes.specs.Natives.{native_methods}
use Rattle.native_ops.specs.declared.methods.rows.Row.{Row}
use Rattle.native_ops.specs.Methods.Rows.{rows}
use Rattle.native_ops.specs.Methods.Signatures.{parameters_of}
use Rattle.native_ops.specs.Methods.Described.{parameters_in, is_static, native_members, is_absent}
use Rattle.native_ops.specs.Methods.Named.{reference_of}

pub rows_named : map reference_of rows ≡ native_methods
unfolding rows native_methods built_in_classes object_classes text_classes stream_classes value_classes throwable_classes
rows_named = refl

-- the parameters are those of the descriptors, and the static methods are those without a receiver
parameters_described : map (λ (r : Row). parameters_of r.parameters) rows ≡ map (λ (r : Reference). parameters_in r.member.descriptor) native_methods
unfolding rows native_methods built_in_classes object_classes text_classes stream_classes value_classes throwable_classes
parameters_described = refl

receivers_described : map (λ (r : Row). is_absent r.receiver) rows ≡ map is_static native_members
unfolding rows native_members built_in_classes object_classes text_classes stream_classes value_classes throwable_classes
receivers_described = refl

counted : length native_methods ≡ 265
unfolding native_methods built_in_classes object_classes text_classes stream_classes value_classes throwable_classes
counted = refl

below : (n : ℕ) (o : Option Reference) → slice_get native_methods n ≡ o → IsSome o → n < 265
below n None is some = absurd (false≢true some)
below n (Some r) is some = subst (λ count. n < count) counted (slice_get_within native_methods n r is)

-- the numbers of native methods
pub numbered : (n : ℕ) → IsSome (slice_get native_methods n) → n < 265
numbered n some = below n (slice_get native_methods n) refl some

-- the row of a number is of the method that has it
pub named_at : (n : ℕ) → option_map reference_of (slice_get rows n) ≡ slice_get native_methods n
named_at n = sym (slice_get-map reference_of rows n) ∙ ap (λ rs. slice_get rs n) rows_named
