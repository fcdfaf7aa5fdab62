-- The first part of a class's initialization (JVM Specification 4.7.2, 5.5): its static fields that have a
-- ConstantValue are set, in the order of the class file.
use Rattle.std.specs.Prelude.{ℕ, ◌+◌, Bool, List, [], ◌∷◌, length, Option, Some, None, is_some, nat_le, ◌||◌, if◌then◌else◌}
use Rattle.std.specs.Option.{option_and_then, option_map, option_map_or}
use Rattle.heap_objects.specs.declared.datum.Datum.TheVariants as datum
use Rattle.heap_objects.specs.Heaps.{HeapView, interned_number, with_interned}
use Rattle.heap_objects.specs.Interning.{number_of}
use Rattle.const_pool.specs.declared.class.Attribute.{Attribute}
use Rattle.const_pool.specs.declared.class.Attribute.TheVariants as attribute
use Rattle.const_pool.specs.declared.class.ClassFile.{ClassFile}
use Rattle.const_pool.specs.declared.class.Member.{Member}
use Rattle.const_pool.specs.declared.descriptor.Kind.{Kind}
use Rattle.const_pool.specs.declared.pool.Const.{Const}
use Rattle.const_pool.specs.declared.pool.Const.TheVariants as const
use Rattle.const_pool.specs.Pool.{entry_at}
use Rattle.const_pool.specs.References.{named_text}
use Rattle.jvm_model.specs.Basis.Data.{Datum, Program, Shared}
use Rattle.jvm_model.specs.Instructions.FieldRules.{field_narrowed}
use Rattle.jvm_model.specs.Classes.Layouts.{field_kind}
use Rattle.jvm_model.specs.Basis.Methods.{has_flag}
use Rattle.jvm_model.specs.Basis.Programs.{class_at}
use Rattle.jvm_model.specs.Basis.SharedState.{Field, kind_for, string, with_static}

-- ---- the constant of a field

-- a number, or a String of these units
pub data FieldConstant : Type 0 where
  Number : Datum → FieldConstant
  Units : List ℕ → FieldConstant

-- the index that the attribute has
abbrev pub constant_among : List Attribute → Option ℕ
constant_among [] = None
constant_among (attribute.ConstantValue name value ∷ rest) = Some value
constant_among (_ ∷ rest) = constant_among rest

-- of an int as much as a field of this kind holds
abbrev pub constant_of : List Const → Kind → Const → Option FieldConstant
constant_of pool k (const.Integer n) = Some (Number (field_narrowed k (datum.Int n)))
constant_of pool k (const.Long n) = Some (Number (datum.Long n))
constant_of pool k (const.Text i) = option_map Units (named_text pool i)
constant_of pool k _ = None

abbrev pub constant_at : ClassFile → Member → ℕ → Option FieldConstant
constant_at c f index = option_and_then (constant_of c.pool (field_kind c f)) (entry_at c.pool index)

-- that of a static field; of other fields the attribute is ignored (4.7.2)
abbrev pub constant_for : ClassFile → Member → Option FieldConstant
constant_for c f = if has_flag 8 f.access then option_and_then (constant_at c f) (constant_among f.attributes) else None

-- ---- setting

-- what is shared then, and the object that is thrown, if one is
pub record Setting : Type 0 where
  pub shared : Shared
  pub thrown : Option ℕ

abbrev pub constant_set : Shared → Setting
constant_set s = record { shared = s; thrown = None }

-- the text is there, or there is room for it
abbrev pub can_intern : List ℕ → HeapView → Bool
can_intern units h = is_some (number_of units h.interned) || nat_le (h.used + (1 + length units)) h.limit

-- a String is made once for equal units; where it does not fit, object 1 is thrown
abbrev pub sets_string : Program → Field → List ℕ → Shared → Setting
sets_string p f units s =
    if can_intern units s.heap
    then constant_set (with_static (record s { heap = with_interned (kind_for p string) units s.heap }) f (datum.Ref (interned_number units s.heap)))
    else record { shared = s; thrown = Some 1 }

abbrev pub sets_field : Program → Field → Option FieldConstant → Shared → Setting
sets_field p f None s = constant_set s
sets_field p f (Some (Number d)) s = constant_set (with_static s f d)
sets_field p f (Some (Units units)) s = sets_string p f units s

-- unless something was thrown, the next one is set; what was set before stays
abbrev pub goes_on : Option ℕ → Shared → (Shared → Setting) → Setting
goes_on (Some object) s next = record { shared = s; thrown = Some object }
goes_on None s next = next s

abbrev pub then_sets : Setting → (Shared → Setting) → Setting
then_sets before next = goes_on before.thrown before.shared next

-- the fields from a position on
abbrev pub sets_fields : Program → ClassFile → ℕ → ℕ → List Member → Shared → Setting
sets_fields p c class position [] s = constant_set s
sets_fields p c class position (f ∷ rest) s =
    then_sets (sets_field p (record { class = class; position = position }) (constant_for c f) s)
    (sets_fields p c class (position + 1) rest)

abbrev pub sets_constants : Program → ℕ → Shared → Setting
sets_constants p class s = option_map_or (λ (c : ClassFile). sets_fields p c class 0 c.fields s) (class_at p class) (constant_set s)
