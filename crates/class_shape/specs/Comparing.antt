-- Shapes of classes compared by computing.
use Rattle.std.specs.Prelude.{ℕ, ◌+◌, Bool, true, false, List, [], ◌∷◌, Option, Some, None, ◌==◌, ◌&&◌, if◌then◌else◌}
use Rattle.std.specs.Str.{bytes_eq}
use Rattle.const_pool.specs.declared.class.ClassFile.{ClassFile}
use Rattle.class_shape.specs.ClassShapes.{MemberShape, Heading, heading_of, fields_of, methods_of, of_heading}

abbrev pub same_name : Option (List ℕ) → Option (List ℕ) → Bool
same_name (Some these) (Some those) = bytes_eq these those
same_name (Some these) None = false
same_name None (Some those) = false
same_name None None = true

abbrev pub same_names : List (Option (List ℕ)) → List (Option (List ℕ)) → Bool
same_names [] [] = true
same_names [] (y ∷ ys) = false
same_names (x ∷ xs) [] = false
same_names (x ∷ xs) (y ∷ ys) = same_name x y && same_names xs ys

abbrev pub same_member : MemberShape → MemberShape → Bool
same_member x y = x.access == y.access && same_name x.name y.name && same_name x.descriptor y.descriptor

-- the first position, counted from this number, at which members differ
abbrev pub first_other : ℕ → List MemberShape → List MemberShape → Option ℕ
first_other at xs [] = None
first_other at [] (y ∷ ys) = None
first_other at (x ∷ xs) (y ∷ ys) = if same_member x y then first_other (at + 1) xs ys else Some at

abbrev pub same_declared : Heading → Heading → Bool
same_declared x y =
    x.access == y.access && same_name x.name y.name && same_name x.superclass y.superclass && same_names x.interfaces y.interfaces

abbrev pub same_counts : Heading → Heading → Bool
same_counts x y = x.field_count == y.field_count && x.method_count == y.method_count

abbrev pub same_heading : Heading → Heading → Bool
same_heading x y = same_declared x y && same_counts x y

abbrev pub else_of : Option ℕ → Option ℕ → Option ℕ
else_of (Some at) other = Some at
else_of None other = other

-- the number that is told of two classes
abbrev pub number_of : ClassFile → ClassFile → Option ℕ
number_of c d =
    if same_heading (heading_of c) (heading_of d) then else_of (first_other 0 (fields_of c) (fields_of d)) (first_other 0 (methods_of c) (methods_of d))
    else Some of_heading
