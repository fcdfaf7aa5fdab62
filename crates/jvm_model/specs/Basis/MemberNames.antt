-- The names that an instruction gives, as they are kept.
use Rattle.std.specs.Prelude.{ℕ, List, Option}
use Rattle.std.specs.Option.{option_map}
use Rattle.const_pool.specs.declared.descriptor.Kind.{Kind}
use Rattle.const_pool.specs.declared.descriptor.Shape.{Shape}
use Rattle.const_pool.specs.References.{Reference, name_type_of}
use Rattle.jvm_model.specs.Basis.Descriptors.{shape_of}

abbrev pub reference_to : List ℕ → List ℕ → List ℕ → Reference
reference_to class name descriptor = record { class = class; member = name_type_of name descriptor }

-- the kinds of the parameters that a method's descriptor tells
abbrev pub descriptor_params : List ℕ → Option (List Kind)
descriptor_params descriptor = option_map (λ (shape : Shape). shape.params) (shape_of descriptor)
