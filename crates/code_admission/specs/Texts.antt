-- Names and descriptors (JVM Specification 4.2, 4.3) as tests.
use Rattle.std.specs.Prelude.{ℕ, ◌+◌, Bool, not, List, [], ◌∷◌, Option, is_some, ◌==◌, ◌||◌, if◌then◌else◌}
use Rattle.std.specs.Result.{result_ok}
use Rattle.const_pool.specs.declared.descriptor.Kind.{Kind}
use Rattle.const_pool.specs.declared.descriptor.Shape.{Shape}
use Rattle.const_pool.specs.Stages.{field_answer, method_answer}
use Rattle.jvm_model.specs.Classes.Kinds.{is_array_name}

-- what a field descriptor stands for; another text is none (proofs/Grammar: exactly what const_pool's `IsField` says)
abbrev pub field_kind : List ℕ → Option Kind
field_kind text = result_ok (field_answer text)

-- the same of a method descriptor and `IsMethod`
abbrev pub method_kinds : List ℕ → Option Shape
method_kinds text = result_ok (method_answer text)

abbrev pub is_field_text : List ℕ → Bool
is_field_text text = is_some (field_kind text)

abbrev pub is_method_text : List ℕ → Bool
is_method_text text = is_some (method_kinds text)

-- the number of `[` in front
abbrev pub dimensions_of : List ℕ → ℕ
dimensions_of [] = 0
dimensions_of (unit ∷ rest) = if unit == 91 then dimensions_of rest + 1 else 0

-- a name by which code may refer to a class: that of an array is its descriptor (4.4.1)
abbrev pub is_class_name : List ℕ → Bool
is_class_name name = not (is_array_name name) || is_field_text name
