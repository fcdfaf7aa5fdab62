-- What arguments a native method takes. Arguments fit where none is missing, of another sort, or not of the parameter's
-- class. A method with fields of its class looks at them in its receiver alone, so the receiver's class extends the
-- class.
use Rattle.std.specs.Prelude.{ℕ, ◌==◌, Bool, true, false, List, [], ◌∷◌, drop, slice_get, is_some, ◌&&◌, ◌||◌}
use Rattle.std.specs.Option.{option_map_or}
use Rattle.heap_objects.specs.declared.datum.Datum.{Datum}
use Rattle.heap_objects.specs.declared.datum.Datum.TheVariants as datum
use Rattle.heap_objects.specs.Heaps.{HeapView, kind_at}
use Rattle.native_ops.specs.declared.methods.signature.Parameter.{Parameter}
use Rattle.native_ops.specs.declared.methods.signature.Parameter.TheVariants as parameter
use Rattle.native_ops.specs.declared.methods.signature.Receiver.{Receiver}
use Rattle.native_ops.specs.declared.methods.signature.Receiver.TheVariants as receiver
use Rattle.native_ops.specs.declared.methods.signature.Parameters.{Parameters}
use Rattle.native_ops.specs.declared.methods.signature.Parameters.TheVariants.{Nothing, OneInt, OneLong, TwoInts, TwoLongs, OneObject, OneString, OneArray, ArrayAndRange, TwoArrays, StringAndInt, OneConstant, StringAndThrowable, OneThrowable}
use Rattle.native_effects.specs.Inputs.Numbers.{string_kind, chars_kind, enum_kind, throwable_kind}
use Rattle.native_effects.specs.Inputs.Objects.{has_kind}
use Rattle.native_effects.specs.Inputs.KindsViews.{KindsView, is_instance}

abbrev pub parameters_of : Parameters → List Parameter
parameters_of Nothing = []
parameters_of OneInt = parameter.Int ∷ []
parameters_of OneLong = parameter.Long ∷ []
parameters_of TwoInts = parameter.Int ∷ parameter.Int ∷ []
parameters_of TwoLongs = parameter.Long ∷ parameter.Long ∷ []
parameters_of OneObject = parameter.Reference ∷ []
parameters_of OneString = parameter.Exactly string_kind ∷ []
parameters_of OneArray = parameter.Exactly chars_kind ∷ []
parameters_of ArrayAndRange = parameter.Exactly chars_kind ∷ parameter.Int ∷ parameter.Int ∷ []
parameters_of TwoArrays = parameter.Reference ∷ parameter.Int ∷ parameter.Reference ∷ parameter.Int ∷ parameter.Int ∷ []
parameters_of StringAndInt = parameter.Exactly string_kind ∷ parameter.Int ∷ []
parameters_of OneConstant = parameter.Extending enum_kind ∷ []
parameters_of StringAndThrowable = parameter.Exactly string_kind ∷ parameter.Below throwable_kind ∷ []
parameters_of OneThrowable = parameter.Below throwable_kind ∷ []

-- ---- references

-- an object of what has this kind
abbrev pub is_below : KindsView → ℕ → ℕ → HeapView → Bool
is_below kinds kind object h = option_map_or (λ own. kinds.subtype own kind) (kind_at object h) false

abbrev pub fits_reference : Parameter → KindsView → ℕ → HeapView → Bool
fits_reference parameter.Int kinds r h = false
fits_reference parameter.Long kinds r h = false
fits_reference parameter.Reference kinds r h = true
fits_reference (parameter.Exactly kind) kinds r h = r == 0 || has_kind kind r h
fits_reference (parameter.Below kind) kinds r h = r == 0 || is_below kinds kind r h
fits_reference (parameter.Extending kind) kinds r h = r == 0 || is_instance kinds kind r h

abbrev pub is_int : Parameter → Bool
is_int parameter.Int = true
is_int parameter.Long = false
is_int parameter.Reference = false
is_int (parameter.Exactly kind) = false
is_int (parameter.Below kind) = false
is_int (parameter.Extending kind) = false

abbrev pub is_long : Parameter → Bool
is_long parameter.Int = false
is_long parameter.Long = true
is_long parameter.Reference = false
is_long (parameter.Exactly kind) = false
is_long (parameter.Below kind) = false
is_long (parameter.Extending kind) = false

-- ---- arguments

abbrev pub fits : Parameter → KindsView → Datum → HeapView → Bool
fits p kinds (datum.Int n) h = is_int p
fits p kinds (datum.Long n) h = is_long p
fits p kinds (datum.Ref r) h = fits_reference p kinds r h

-- each parameter has an argument that fits
abbrev pub fit_all : List Parameter → KindsView → List Datum → HeapView → Bool
fit_all [] kinds args h = true
fit_all (p ∷ parameters) kinds [] h = false
fit_all (p ∷ parameters) kinds (v ∷ args) h = fits p kinds v h && fit_all parameters kinds args h

-- an object that is a receiver; null is none
abbrev pub receives : Receiver → KindsView → ℕ → HeapView → Bool
receives receiver.Absent kinds r h = false
receives receiver.Any kinds r h = is_some (kind_at r h)
receives (receiver.Exactly kind) kinds r h = has_kind kind r h
receives (receiver.Extending kind) kinds r h = is_instance kinds kind r h

abbrev pub fits_receiver : Receiver → KindsView → Datum → HeapView → Bool
fits_receiver receiver kinds (datum.Int n) h = false
fits_receiver receiver kinds (datum.Long n) h = false
fits_receiver receiver kinds (datum.Ref r) h = receives receiver kinds r h

-- the first argument is a receiver, and the others fit
abbrev pub fit_behind : Receiver → List Parameter → KindsView → List Datum → HeapView → Bool
fit_behind receiver parameters kinds args h =
    option_map_or (λ v. fits_receiver receiver kinds v h) (slice_get args 0) false && fit_all parameters kinds (drop 1 args) h

abbrev pub fit : Receiver → List Parameter → KindsView → List Datum → HeapView → Bool
fit receiver.Absent parameters kinds args h = fit_all parameters kinds args h
fit receiver.Any parameters kinds args h = fit_behind receiver.Any parameters kinds args h
fit (receiver.Exactly kind) parameters kinds args h = fit_behind (receiver.Exactly kind) parameters kinds args h
fit (receiver.Extending kind) parameters kinds args h = fit_behind (receiver.Extending kind) parameters kinds args h
