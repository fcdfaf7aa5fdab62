-- What is asked of a class before its code is read: its name, and its shape (JVM Specification 4.1, 4.5, 4.6, 4.7.2,
-- 4.7.3).
use Rattle.std.specs.Prelude.{ℕ, Bool, true, false, not, List, [], ◌∷◌, ◌++◌, length, Option, Some, codes, count_by, nat_lt, ◌==◌, ◌&&◌, ◌||◌, if◌then◌else◌}
use Rattle.std.specs.Option.{option_map_or}
use Rattle.std.specs.List.{list_any}
use Rattle.const_pool.specs.declared.pool.Const.{Const}
use Rattle.const_pool.specs.declared.pool.Const.TheVariants.{Class, Integer, Float, Long, Double, Text}
use Rattle.const_pool.specs.declared.class.ClassFile.{ClassFile}
use Rattle.const_pool.specs.declared.class.Member.{Member}
use Rattle.const_pool.specs.declared.class.Attribute.{Attribute}
use Rattle.const_pool.specs.declared.class.Attribute.TheVariants.{ConstantValue, Code}
use Rattle.const_pool.specs.declared.descriptor.Kind.{Kind}
use Rattle.const_pool.specs.declared.descriptor.Kind.TheVariants as kind
use Rattle.const_pool.specs.Pool.{entry_at}
use Rattle.const_pool.specs.References.{named_class, named_text}
use Rattle.const_pool.specs.BuiltIn.{probe_class, built_in_names}
use Rattle.jvm_model.specs.Basis.Descriptors.{same_text}
use Rattle.jvm_model.specs.Basis.Methods.{has_flag}
use Rattle.code_admission.specs.declared.error.AdmitError.{AdmitError}
use Rattle.code_admission.specs.declared.error.AdmitError.TheVariants.{ReservedName, Duplicate, BadShape}
use Rattle.code_admission.specs.declared.error.ShapeCause.TheVariants as cause
use Rattle.code_admission.specs.Checks.{fault_if, first_of}
use Rattle.jvm_model.specs.Classes.Kinds.{is_array_name}
use Rattle.code_admission.specs.Texts.{field_kind, is_field_text, is_method_text}

-- ---- names of classes

abbrev pub own_name : ClassFile → Option (List ℕ)
own_name c = named_class c.pool c.this_class

-- two texts that are there and are the same
abbrev pub same_named : Option (List ℕ) → Option (List ℕ) → Bool
same_named (Some a) (Some b) = same_text a b
same_named _ _ = false

-- the names that no class of a program may have
abbrev pub is_taken_name : List ℕ → Bool
is_taken_name name = same_text name probe_class || list_any (same_text name) built_in_names

-- an entry that names the class of the probes
abbrev pub is_probe_entry : List Const → Const → Bool
is_probe_entry pool (Class i) = option_map_or (λ name. same_text name probe_class) (named_text pool i) false
is_probe_entry pool _ = false

abbrev pub is_reserved : ClassFile → Bool
is_reserved c = option_map_or is_taken_name (own_name c) false || list_any (is_probe_entry c.pool) c.pool

abbrev pub has_same_name : ClassFile → ClassFile → Bool
has_same_name c other = same_named (own_name c) (own_name other)

-- ---- its name and superclass

abbrev pub has_wrong_name : ClassFile → Bool
has_wrong_name c = option_map_or (λ name. length name == 0 || is_array_name name) (own_name c) false

-- the built-in classes that are final
abbrev pub final_names : List (List ℕ)
final_names = codes "java/lang/String" ∷ codes "java/lang/StringBuilder" ∷ codes "java/lang/StringBuffer" ∷ codes "java/lang/Class" ∷ []

abbrev pub is_no_super_name : List ℕ → Bool
is_no_super_name name = is_array_name name || list_any (same_text name) final_names

abbrev pub has_wrong_super : ClassFile → Bool
has_wrong_super c = c.super_class == 0 || option_map_or is_no_super_name (named_class c.pool c.super_class) false

-- ---- its members

abbrev pub has_wrong_text : (List ℕ → Bool) → List Const → Member → Bool
has_wrong_text is_right pool m = not (option_map_or is_right (named_text pool m.descriptor) false)

abbrev pub has_wrong_descriptor : ClassFile → Bool
has_wrong_descriptor c =
    list_any (has_wrong_text is_field_text c.pool) c.fields || list_any (has_wrong_text is_method_text c.pool) c.methods

-- two members that agree in name and descriptor
abbrev pub is_same_member : List Const → Member → Member → Bool
is_same_member pool a b =
    same_named (named_text pool a.name) (named_text pool b.name) && same_named (named_text pool a.descriptor) (named_text pool b.descriptor)

-- a member agrees with one before it
abbrev pub has_twin_behind : List Const → List Member → List Member → Bool
has_twin_behind pool before [] = false
has_twin_behind pool before (m ∷ rest) = list_any (is_same_member pool m) before || has_twin_behind pool (before ++ m ∷ []) rest

abbrev pub has_twins : List Const → List Member → Bool
has_twins pool members = has_twin_behind pool [] members

abbrev pub has_member_twice : ClassFile → Bool
has_member_twice c = has_twins c.pool c.fields || has_twins c.pool c.methods

-- ---- Code, which a method has unless it is native or abstract

abbrev pub has_no_body : Member → Bool
has_no_body m = has_flag 256 m.access || has_flag 1024 m.access

abbrev pub is_code : Attribute → Bool
is_code (Code name code) = true
is_code _ = false

abbrev pub code_count : List Attribute → ℕ
code_count attributes = count_by is_code attributes

abbrev pub has_wrong_code_count : Member → Bool
has_wrong_code_count m = if has_no_body m then nat_lt 0 (code_count m.attributes) else not (code_count m.attributes == 1)

-- ---- ConstantValue, of static fields

-- an entry that a field of this kind may begin with; a reference is one to a String
abbrev pub fits_kind : Kind → Const → Bool
fits_kind kind.Int (Integer n) = true
fits_kind kind.Short (Integer n) = true
fits_kind kind.Char (Integer n) = true
fits_kind kind.Byte (Integer n) = true
fits_kind kind.Bool (Integer n) = true
fits_kind kind.Long (Long n) = true
fits_kind kind.Float (Float n) = true
fits_kind kind.Double (Double n) = true
fits_kind kind.Ref (Text i) = true
fits_kind _ _ = false

abbrev pub string_descriptor : List ℕ
string_descriptor = codes "Ljava/lang/String;"

-- a reference's field is one to String by its descriptor
abbrev pub takes_kind : List ℕ → Kind → Bool
takes_kind descriptor kind.Ref = same_text descriptor string_descriptor
takes_kind descriptor _ = true

abbrev pub fits_descriptor : Const → List ℕ → Bool
fits_descriptor entry descriptor =
    option_map_or (λ k. takes_kind descriptor k && fits_kind k entry) (field_kind descriptor) false

-- the indices of the constants
abbrev pub constants_of : List Attribute → List ℕ
constants_of [] = []
constants_of (ConstantValue name index ∷ rest) = index ∷ constants_of rest
constants_of (_ ∷ rest) = constants_of rest

abbrev pub fits_constant : List Const → Member → ℕ → Bool
fits_constant pool m index =
    option_map_or (λ entry. option_map_or (fits_descriptor entry) (named_text pool m.descriptor) false) (entry_at pool index) false

-- no constant, or one that fits
abbrev pub has_right_constants : List Const → Member → List ℕ → Bool
has_right_constants pool m [] = true
has_right_constants pool m (index ∷ []) = fits_constant pool m index
has_right_constants pool m (index ∷ more ∷ rest) = false

abbrev pub has_wrong_constant : List Const → Member → Bool
has_wrong_constant pool m = has_flag 8 m.access && not (has_right_constants pool m (constants_of m.attributes))

-- ---- in order

abbrev pub shape_fault : ℕ → ClassFile → Option AdmitError
shape_fault k c = first_of (
    fault_if (has_wrong_name c) (BadShape k cause.Name)
    ∷ fault_if (has_wrong_super c) (BadShape k cause.Super)
    ∷ fault_if (has_wrong_descriptor c) (BadShape k cause.Descriptor)
    ∷ fault_if (has_member_twice c) (BadShape k cause.Twice)
    ∷ fault_if (list_any has_wrong_code_count c.methods) (BadShape k cause.Code)
    ∷ fault_if (list_any (has_wrong_constant c.pool) c.fields) (BadShape k cause.Constant)
    ∷ [])

-- of a class with these before it
abbrev pub name_fault : List ClassFile → ℕ → ClassFile → Option AdmitError
name_fault earlier k c = first_of (fault_if (is_reserved c) (ReservedName k) ∷ fault_if (list_any (has_same_name c) earlier) (Duplicate k) ∷ [])
