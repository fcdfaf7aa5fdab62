-- Worked attempts of native methods, and of ldc of a String and of a Class, over a small program (JVM Specification
-- 5.1, 6.5).
use Rattle.std.specs.Prelude.{◌≡◌, refl, ℕ, List, [], ◌∷◌, Some, false, pos, negsuc, codes}
use Rattle.std.specs.Fmt.{digits}
use Rattle.heap_objects.specs.declared.Value.TheVariants.{Int, Ref}
use Rattle.heap_objects.specs.declared.datum.Datum.TheVariants as datum
use Rattle.heap_objects.specs.Heaps.{kind_at, units_at}
use Rattle.const_pool.specs.References.{Reference}
use Rattle.base_classes.specs.BuiltInClasses.{built_in_classes}
use Rattle.base_classes.specs.ObjectClasses.{object_classes}
use Rattle.base_classes.specs.TextClasses.{text_classes}
use Rattle.base_classes.specs.StreamClasses.{stream_classes}
use Rattle.base_classes.specs.ValueClasses.{value_classes}
use Rattle.base_classes.specs.ThrowableClasses.{throwable_classes}
use Rattle.base_classes.specs.Natives.{native_methods}
use Rattle.native_effects.specs.Inputs.KindsViews.{is_among}
use Rattle.native_ops.specs.Methods.Rows.{rows}
use Rattle.jvm_model.specs.Instructions.ConstantRules.{pushes_string}
use Rattle.jvm_model.specs.Basis.Data.{Datum, Shared, Throws, Exits, Breaks, Done}
use Rattle.jvm_model.specs.Instructions.SymbolicReference.{SymbolicReference, LdcClass}
use Rattle.jvm_model.specs.Instructions.NativeRules.{runs_native}
use Rattle.jvm_model.proofs.Worked.WorkedPrograms.{reference}
use Rattle.jvm_model.proofs.Worked.WorkedClasses.{asked, raises, ref, shared_by, with_objects, with_operands}
use Rattle.jvm_model.proofs.Worked.WorkedInvocations.{callable, calling}

-- a native method on these arguments, where the program reads these bytes
abbrev pub native : List ℕ → Shared → Reference → List Datum → Done
native input s r args = runs_native (record { program = calling; input = input }) (Some r) args s [] []

abbrev pub read_byte : Reference
read_byte = reference (codes "java/io/InputStream") (codes "read") (codes "()I")

abbrev pub of_read : List ℕ → Shared → Done
of_read input s = native input s read_byte (ref 2 ∷ [])

-- a byte of the input, and -1 behind its last one
pub read-gives_a_byte : (of_read (200 ∷ 7 ∷ []) callable).outcome ≡ with_operands (Int (pos 200) ∷ [])
unfolding native_methods rows built_in_classes object_classes text_classes stream_classes value_classes throwable_classes is_among
read-gives_a_byte = refl

pub read-counts : (of_read (200 ∷ 7 ∷ []) callable).shared.read ≡ 1
unfolding native_methods rows built_in_classes object_classes text_classes stream_classes value_classes throwable_classes is_among
read-counts = refl

pub read-goes_on : (of_read (200 ∷ 7 ∷ []) (record callable { read = 1 })).outcome ≡ with_operands (Int (pos 7) ∷ [])
unfolding native_methods rows built_in_classes object_classes text_classes stream_classes value_classes throwable_classes is_among
read-goes_on = refl

pub read-ends : (of_read [] callable).outcome ≡ with_operands (Int (negsuc 0) ∷ [])
unfolding native_methods rows built_in_classes object_classes text_classes stream_classes value_classes throwable_classes is_among
read-ends = refl

-- System.exit
pub exit-ends : (native [] callable (reference (codes "java/lang/System") (codes "exit") (codes "(I)V")) (datum.Int (pos 3) ∷ [])).outcome ≡ Exits (pos 3)
unfolding native_methods rows built_in_classes object_classes text_classes stream_classes value_classes throwable_classes is_among
exit-ends = refl

-- what a native method throws is made by the machine, but for a full heap
abbrev pub parse_int : Reference
parse_int = reference (codes "java/lang/Integer") (codes "parseInt") (codes "(Ljava/lang/String;)I")

pub parse_int-raises : (native [] callable parse_int (ref 10 ∷ [])).outcome ≡ raises (codes "java/lang/NumberFormatException")
unfolding native_methods rows built_in_classes object_classes text_classes stream_classes value_classes throwable_classes is_among
parse_int-raises = refl

abbrev pub text_of_int : Reference
text_of_int = reference (codes "java/lang/String") (codes "valueOf") (codes "(I)Ljava/lang/String;")

abbrev pub full : Shared
full = with_objects (λ h. record h { used = h.limit }) callable

pub value_of-without_room : (native [] full text_of_int (datum.Int (pos 7) ∷ [])).outcome ≡ Throws 1
unfolding digits native_methods rows built_in_classes object_classes text_classes stream_classes value_classes throwable_classes is_among
value_of-without_room = refl

pub value_of-makes : units_at 11 (native [] callable text_of_int (datum.Int (pos 7) ∷ [])).shared.heap ≡ Some (codes "7")
unfolding digits native_methods rows built_in_classes object_classes text_classes stream_classes value_classes throwable_classes is_among
value_of-makes = refl

-- an argument of another class, and a method that no built-in class has
pub concat-of_an_array : (native [] callable (reference (codes "java/lang/String") (codes "concat") (codes "(Ljava/lang/String;)Ljava/lang/String;")) (ref 10 ∷ ref 8 ∷ [])).outcome ≡ Breaks false
unfolding native_methods rows built_in_classes object_classes text_classes stream_classes value_classes throwable_classes is_among
concat-of_an_array = refl

pub no_such_method-breaks : (native [] callable (reference (codes "java/lang/String") (codes "trim") (codes "()Ljava/lang/String;")) (ref 10 ∷ [])).outcome ≡ Breaks false
unfolding native_methods rows built_in_classes object_classes text_classes stream_classes value_classes throwable_classes is_among
no_such_method-breaks = refl

-- ======== ldc

pub string-is_made : kind_at 11 (pushes_string calling (codes "hi") callable [] []).shared.heap ≡ Some 23
string-is_made = refl

pub string-is_found : (pushes_string calling (codes "hi") (pushes_string calling (codes "hi") callable [] []).shared [] []).outcome ≡ with_operands (Ref 11 ∷ [])
string-is_found = refl

pub string-without_room : (pushes_string calling (codes "hi") full [] []).outcome ≡ Throws 1
string-without_room = refl

abbrev pub class_b : SymbolicReference
class_b = LdcClass (codes "B")

pub class-is_made : asked calling class_b callable [] ≡ with_operands (Ref 11 ∷ [])
class-is_made = refl

-- getClass of an object of B gives the same object
pub class-is_found : (native [] (shared_by calling class_b callable []) (reference (codes "java/lang/Object") (codes "getClass") (codes "()Ljava/lang/Class;")) (ref 5 ∷ [])).outcome
    ≡ with_operands (Ref 11 ∷ [])
unfolding native_methods rows built_in_classes object_classes text_classes stream_classes value_classes throwable_classes is_among
class-is_found = refl

pub class-without_room : asked calling class_b full [] ≡ Throws 1
class-without_room = refl
