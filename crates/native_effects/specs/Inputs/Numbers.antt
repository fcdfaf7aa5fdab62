-- The numbers of the built-in classes that rules speak of: their places in the list of built-in classes, and their
-- kinds.
use Rattle.std.specs.Prelude.{ℕ}

-- ---- what is thrown, by its place

abbrev pub clone_not_supported_exception : ℕ
clone_not_supported_exception = 24

abbrev pub array_store_exception : ℕ
array_store_exception = 28

abbrev pub class_cast_exception : ℕ
class_cast_exception = 29

abbrev pub negative_array_size_exception : ℕ
negative_array_size_exception = 33

abbrev pub null_pointer_exception : ℕ
null_pointer_exception = 34

abbrev pub number_format_exception : ℕ
number_format_exception = 36

abbrev pub array_index_out_of_bounds_exception : ℕ
array_index_out_of_bounds_exception = 37

abbrev pub string_index_out_of_bounds_exception : ℕ
string_index_out_of_bounds_exception = 38

abbrev pub out_of_memory_error : ℕ
out_of_memory_error = 51

-- ---- kinds: 16 and the place

abbrev pub cloneable_kind : ℕ
cloneable_kind = 17

abbrev pub class_kind : ℕ
class_kind = 22

abbrev pub string_kind : ℕ
string_kind = 23

abbrev pub integer_kind : ℕ
integer_kind = 30

abbrev pub long_kind : ℕ
long_kind = 31

abbrev pub character_kind : ℕ
character_kind = 32

abbrev pub boolean_kind : ℕ
boolean_kind = 33

abbrev pub enum_kind : ℕ
enum_kind = 35

abbrev pub throwable_kind : ℕ
throwable_kind = 36

-- one dimension of char
abbrev pub chars_kind : ℕ
chars_kind = 16777221

-- the kinds from here on are arrays'
abbrev pub first_array_kind : ℕ
first_array_kind = 16777216

-- arrays of one dimension of a primitive type have the kinds up to here, and arrays of references those from here on
abbrev pub first_reference_array_kind : ℕ
first_reference_array_kind = 16777232
