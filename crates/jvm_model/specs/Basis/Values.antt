-- Values, locals and operands (JVM Specification 2.3, 2.6.1, 2.6.2, 2.11.1).
use Rattle.std.specs.Prelude.{ℕ, ◌+◌, ◌-◌, Bool, true, false, not, List, [], ◌∷◌, ◌++◌, length, drop, take, reverse, replicate, Option, Some, None, is_some, slice_get, nat_le, ◌&&◌, if◌then◌else◌, ℤ}
use Rattle.std.specs.Option.{option_and_then, option_map, option_flatten}
use Rattle.heap_objects.specs.declared.datum.Datum.TheVariants as datum
use Rattle.heap_objects.specs.declared.Value.TheVariants.{Int, Long, Ref, Addr}
use Rattle.const_pool.specs.declared.descriptor.Kind.{Kind}
use Rattle.const_pool.specs.declared.descriptor.Kind.TheVariants as kind
use Rattle.frame_stack.specs.Widths.{is_long, width}
use Rattle.frame_stack.specs.FrameLists.{without_long_before, with_value as with_slot}
use Rattle.jvm_model.specs.Basis.Data.{Datum, Value, Locals, Operands, StackForm}

-- ---- values

abbrev pub as_value : Datum → Value
as_value (datum.Int n) = Int n
as_value (datum.Long n) = Long n
as_value (datum.Ref r) = Ref r

-- the datum that a value is, where a descriptor of this kind may have it: boolean, byte, char and short are ints
abbrev pub datum_of : Kind → Value → Option Datum
datum_of kind.Int (Int n) = Some (datum.Int n)
datum_of kind.Bool (Int n) = Some (datum.Int n)
datum_of kind.Byte (Int n) = Some (datum.Int n)
datum_of kind.Char (Int n) = Some (datum.Int n)
datum_of kind.Short (Int n) = Some (datum.Int n)
datum_of kind.Long (Long n) = Some (datum.Long n)
datum_of kind.Ref (Ref r) = Some (datum.Ref r)
datum_of _ _ = None

-- a value that a descriptor of this kind may have
abbrev pub has_kind : Kind → Value → Bool
has_kind k v = is_some (datum_of k v)

-- ---- operands, the topmost one last

abbrev pub int_of : Operands → Option ℤ
int_of (Int n ∷ below) = Some n
int_of _ = None

abbrev pub long_of : Operands → Option ℤ
long_of (Long n ∷ below) = Some n
long_of _ = None

abbrev pub ref_of : Operands → Option ℕ
ref_of (Ref r ∷ below) = Some r
ref_of _ = None

abbrev pub ints_of : Operands → Option (ℤ × ℤ)
ints_of (Int b ∷ Int a ∷ below) = Some (a, b)
ints_of _ = None

abbrev pub longs_of : Operands → Option (ℤ × ℤ)
longs_of (Long b ∷ Long a ∷ below) = Some (a, b)
longs_of _ = None

-- a long and how far it is shifted
abbrev pub long_and_int_of : Operands → Option (ℤ × ℤ)
long_and_int_of (Int n ∷ Long a ∷ below) = Some (a, n)
long_and_int_of _ = None

abbrev pub refs_of : Operands → Option (ℕ × ℕ)
refs_of (Ref b ∷ Ref a ∷ below) = Some (a, b)
refs_of _ = None

-- ---- locals

-- the value in a local, where it is of this kind
abbrev pub local_loaded : Kind → Option (Option Value) → Option Value
local_loaded k (Some (Some v)) = if has_kind k v then Some v else None
local_loaded k _ = None

-- astore also takes a return address, which aload does not give back
abbrev pub is_storable : Kind → Value → Bool
is_storable kind.Ref (Addr t) = true
is_storable k v = has_kind k v

-- what can be read from a local
abbrev pub local_in : Locals → ℕ → Option Value
local_in l slot = option_flatten (slice_get l slot)

-- the frame has the slots that the value takes
abbrev pub has_slots : Locals → ℕ → Value → Bool
has_slots l slot v = nat_le (slot + width v) (length l)

-- A long takes the next slot too. A long whose second slot is written can no longer be read.
abbrev pub local_stored : Locals → ℕ → Value → Locals
local_stored l slot v = with_slot slot v (without_long_before slot l)

-- arguments from slot 0 on, a long in two
abbrev pub arguments_spread : List Datum → Locals
arguments_spread [] = []
arguments_spread (datum.Long n ∷ args) = Some (Long n) ∷ None ∷ arguments_spread args
arguments_spread (datum.Int n ∷ args) = Some (Int n) ∷ arguments_spread args
arguments_spread (datum.Ref r ∷ args) = Some (Ref r) ∷ arguments_spread args

-- and the others unwritten
abbrev pub locals_with : List Datum → ℕ → Locals
locals_with args most = arguments_spread args ++ replicate (most - length (arguments_spread args)) None

-- ---- arguments and stack instructions

-- each value is of its parameter's kind
abbrev pub data_of : List Kind → List Value → Option (List Datum)
data_of [] [] = Some []
data_of (k ∷ ks) (v ∷ vs) = option_and_then (λ d. option_map (λ ds. d ∷ ds) (data_of ks vs)) (datum_of k v)
data_of _ _ = None

-- as many of the topmost operands as there are parameters, the first argument first
abbrev pub arguments : List Kind → Operands → Option (List Datum)
arguments params o = data_of params (reverse (take (length params) o))

abbrev pub with_value : Option Value → Operands → Operands
with_value None o = o
with_value (Some v) o = v ∷ o

-- the topmost operands are long where the form says so, and only there
abbrev pub same_width : Bool → Bool → Bool
same_width true long = long
same_width false long = not long

abbrev pub has_form : List Bool → Operands → Bool
has_form [] o = true
has_form (long ∷ more) [] = false
has_form (long ∷ more) (v ∷ below) = same_width long (is_long v) && has_form more below

abbrev pub puts_on : List ℕ → Operands → Operands → Operands
puts_on [] o below = below
puts_on (i ∷ is) o below = with_value (slice_get o i) (puts_on is o below)

-- by the first form that fits
abbrev pub managed_stack : List StackForm → Operands → Option Operands
managed_stack [] o = None
managed_stack (form ∷ more) o =
    if has_form form.takes o then Some (puts_on form.puts o (drop (length form.takes) o)) else managed_stack more o
