-- Worked attempts of the instructions that invoke methods, over small programs, and the constants of a class's static
-- fields.
use Rattle.std.specs.Prelude.{◌≡◌, refl, ℕ, true, false, List, [], ◌∷◌, Option, Some, None, pos, negsuc, codes, slice_get, unwrap_or, Ok}
use Rattle.std.specs.Fmt.{digits}
use Rattle.std.specs.Int.{int_wrap}
use Rattle.std.specs.Option.{option_and_then}
use Rattle.heap_objects.specs.declared.Value.TheVariants.{Int, Long, Ref}
use Rattle.heap_objects.specs.Heaps.{HeapView, slot_at, units_at, with_array, with_instance, with_text}
use Rattle.const_pool.specs.declared.pool.Const.TheVariants as const
use Rattle.jf_bytes.specs.Unicode.{utf8_of}
use Rattle.base_classes.specs.BuiltInClasses.{built_in_classes}
use Rattle.base_classes.specs.ObjectClasses.{object_classes}
use Rattle.base_classes.specs.TextClasses.{text_classes}
use Rattle.base_classes.specs.StreamClasses.{stream_classes}
use Rattle.base_classes.specs.ValueClasses.{value_classes}
use Rattle.base_classes.specs.ThrowableClasses.{throwable_classes}
use Rattle.base_classes.specs.Natives.{native_methods}
use Rattle.native_effects.specs.Inputs.KindsViews.{is_among}
use Rattle.native_ops.specs.Methods.Rows.{rows}
use Rattle.jvm_model.specs.Running.Constants.{Setting, sets_constants}
use Rattle.jvm_model.specs.Basis.Data.{Datum, Operands, Program, Shared, Outcome, Invokes, Initializes, Breaks}
use Rattle.jvm_model.specs.Instructions.InvocationRules.{abstract_method, named_method, unsatisfied_link}
use Rattle.jvm_model.specs.Classes.Lookup.{incompatible_change, place_in}
use Rattle.jvm_model.specs.Instructions.SymbolicReference.{SymbolicReference, Invokevirtual, Invokespecial, Invokestatic, Invokeinterface}
use Rattle.jvm_model.specs.Instructions.ReferenceRules.{does_named}
use Rattle.jvm_model.specs.Instructions.ObjectRules.{array_kind}
use Rattle.jvm_model.specs.Basis.Programs.{class_named}
use Rattle.jvm_model.specs.Basis.SharedState.{kind_for, no_such_method, null_pointer, shared_before, string, system, throwable}
use Rattle.jvm_model.proofs.Worked.WorkedLibrary.{class, coded, constant, interface, item, object_name, with_fields, with_methods}
use Rattle.jvm_model.proofs.Worked.WorkedPrograms.{reference}
use Rattle.jvm_model.proofs.Worked.WorkedClasses.{a, b, asked, fresh, long, number, program_of, raises, ready, ref, shared_by, with_objects, with_operands, world_with}

-- ======== methods

abbrev pub to_int : List ℕ
to_int = codes "()I"

-- C extends B, and B extends A. A's x is private and its w abstract; n and the static sn are native. J and M implement
-- I, and M has no i. Of the methods that have Code, A's are 0 to 3, B's 4 and 5, and J's 6.
abbrev pub calling : Program
calling = program_of (
    with_methods (
    coded 1 (codes "<init>") (codes "()V") ∷ coded 1 (codes "v") (codes "(I)I") ∷ coded 2 (codes "x") to_int
    ∷ coded 9 (codes "s") (codes "(IJ)I") ∷ item 1025 (codes "w") to_int ∷ item 257 (codes "n") to_int ∷ item 265 (codes "sn") to_int ∷ [])
    (class a object_name [])
    ∷ with_methods (coded 1 (codes "v") (codes "(I)I") ∷ coded 1 (codes "x") to_int ∷ []) (class b a [])
    ∷ class (codes "C") b []
    ∷ with_methods (item 1025 (codes "i") to_int ∷ []) (interface (codes "I") [])
    ∷ with_methods (coded 1 (codes "i") to_int ∷ []) (class (codes "J") object_name (codes "I" ∷ []))
    ∷ class (codes "M") object_name (codes "I" ∷ [])
    ∷ class (codes "T") (codes "java/lang/Error") []
    ∷ [])

abbrev pub method_classes : List ℕ
method_classes = 0 ∷ 1 ∷ 2 ∷ 3 ∷ 4 ∷ 5 ∷ 6 ∷ []

-- object 5 is of B, 6 of J, 7 of M, 8 an array of ints, 9 of T, and 10 a text
abbrev pub call_objects : HeapView → HeapView
call_objects h =
    with_text (kind_for calling string) (codes "ab")
    (with_instance (kind_for calling (codes "T")) (ref 10 ∷ ref 9 ∷ [])
    (with_array (array_kind 10) (number 0) 0
    (with_instance (kind_for calling (codes "M")) []
    (with_instance (kind_for calling (codes "J")) []
    (with_instance (kind_for calling b) [] h)))))

abbrev pub callable : Shared
callable = with_objects call_objects (ready calling method_classes)

abbrev pub of_call : SymbolicReference → Operands → Outcome
of_call n o = asked calling n callable o

-- ---- invokestatic

abbrev pub call_s : SymbolicReference
call_s = Invokestatic (reference b (codes "s") (codes "(IJ)I"))

-- the class that declares the method is initialized, before the operands are looked at
pub invokestatic-initializes : asked calling call_s (fresh calling method_classes) [] ≡ Initializes 0
invokestatic-initializes = refl

pub invokestatic-invokes : of_call call_s (Long (pos 8) ∷ Int (pos 7) ∷ Ref 2 ∷ []) ≡ Invokes 3 (number 7 ∷ long 8 ∷ []) (Ref 2 ∷ [])
invokestatic-invokes = refl

pub invokestatic-of_one : of_call call_s (Long (pos 8) ∷ []) ≡ Breaks false
invokestatic-of_one = refl

pub invokestatic-of_another_kind : of_call call_s (Int (pos 8) ∷ Int (pos 7) ∷ []) ≡ Breaks false
invokestatic-of_another_kind = refl

pub invokestatic-of_instance_method : asked calling (Invokestatic (reference a (codes "x") to_int)) (fresh calling method_classes) [] ≡ raises incompatible_change
invokestatic-of_instance_method = refl

pub invokestatic-of_no_method : of_call (Invokestatic (reference b (codes "s") to_int)) [] ≡ raises no_such_method
invokestatic-of_no_method = refl

pub invokestatic-of_native : of_call (Invokestatic (reference a (codes "sn") to_int)) [] ≡ raises unsatisfied_link
invokestatic-of_native = refl

-- ---- invokevirtual

abbrev pub call_v : SymbolicReference
call_v = Invokevirtual (reference a (codes "v") (codes "(I)I"))

pub invokevirtual-of_override : of_call call_v (Int (pos 7) ∷ Ref 5 ∷ Ref 2 ∷ []) ≡ Invokes 4 (ref 5 ∷ number 7 ∷ []) (Ref 2 ∷ [])
invokevirtual-of_override = refl

-- B's x does not override A's, which is private
pub invokevirtual-of_private : of_call (Invokevirtual (reference a (codes "x") to_int)) (Ref 5 ∷ []) ≡ Invokes 2 (ref 5 ∷ []) []
invokevirtual-of_private = refl

pub invokevirtual-of_interface : of_call (Invokevirtual (reference (codes "I") (codes "i") to_int)) [] ≡ raises incompatible_change
invokevirtual-of_interface = refl

pub invokevirtual-of_static_method : of_call (Invokevirtual (reference a (codes "s") (codes "(IJ)I"))) [] ≡ raises incompatible_change
invokevirtual-of_static_method = refl

pub invokevirtual-of_no_method : of_call (Invokevirtual (reference a (codes "u") to_int)) [] ≡ raises no_such_method
invokevirtual-of_no_method = refl

pub invokevirtual-without_receiver : of_call call_v (Int (pos 7) ∷ []) ≡ Breaks false
invokevirtual-without_receiver = refl

-- the arguments' kinds are looked at before null
pub invokevirtual-of_another_kind : of_call call_v (Long (pos 7) ∷ Ref 0 ∷ []) ≡ Breaks false
invokevirtual-of_another_kind = refl

pub invokevirtual-of_null : of_call call_v (Int (pos 7) ∷ Ref 0 ∷ []) ≡ raises null_pointer
invokevirtual-of_null = refl

pub invokevirtual-of_another_class : of_call call_v (Int (pos 7) ∷ Ref 6 ∷ []) ≡ Breaks false
invokevirtual-of_another_class = refl

-- the class is looked at before what is selected
pub invokevirtual-of_abstract-another_class : of_call (Invokevirtual (reference a (codes "w") to_int)) (Ref 6 ∷ []) ≡ Breaks false
invokevirtual-of_abstract-another_class = refl

pub invokevirtual-of_abstract : of_call (Invokevirtual (reference a (codes "w") to_int)) (Ref 5 ∷ []) ≡ raises abstract_method
invokevirtual-of_abstract = refl

pub invokevirtual-of_native : of_call (Invokevirtual (reference a (codes "n") to_int)) (Ref 5 ∷ []) ≡ raises unsatisfied_link
invokevirtual-of_native = refl

-- ---- invokevirtual across packages: q/B's v does not override p/A's, which is package-private, and p/C's does

abbrev pub packages : Program
packages = program_of (
    with_methods (coded 0 (codes "v") to_int ∷ []) (class (codes "p/A") object_name [])
    ∷ with_methods (coded 1 (codes "v") to_int ∷ []) (class (codes "q/B") (codes "p/A") [])
    ∷ with_methods (coded 0 (codes "v") to_int ∷ []) (class (codes "p/C") (codes "q/B") [])
    ∷ [])

-- object 5 is of q/B, and 6 of p/C
abbrev pub package_objects : HeapView → HeapView
package_objects h = with_instance (kind_for packages (codes "p/C")) [] (with_instance (kind_for packages (codes "q/B")) [] h)

abbrev pub call_package : ℕ → Outcome
call_package object =
    asked packages (Invokevirtual (reference (codes "p/A") (codes "v") to_int)) (with_objects package_objects (ready packages (0 ∷ 1 ∷ 2 ∷ []))) (Ref object ∷ [])

pub package_private-other_package : call_package 5 ≡ Invokes 0 (ref 5 ∷ []) []
package_private-other_package = refl

pub package_private-own_package : call_package 6 ≡ Invokes 2 (ref 6 ∷ []) []
package_private-own_package = refl

-- ---- invokespecial: from the class in which it stands

abbrev pub special : List ℕ → List ℕ → List ℕ → SymbolicReference
special caller name descriptor = Invokespecial caller (reference a name descriptor) false

pub invokespecial-of_superclass : of_call (special (codes "C") (codes "v") (codes "(I)I")) (Int (pos 7) ∷ Ref 5 ∷ []) ≡ Invokes 4 (ref 5 ∷ number 7 ∷ []) []
invokespecial-of_superclass = refl

pub invokespecial-of_next_superclass : of_call (special b (codes "v") (codes "(I)I")) (Int (pos 7) ∷ Ref 5 ∷ []) ≡ Invokes 1 (ref 5 ∷ number 7 ∷ []) []
invokespecial-of_next_superclass = refl

-- a private method of a superclass is sought as any other
pub invokespecial-of_private : of_call (special b (codes "x") to_int) (Ref 5 ∷ []) ≡ Invokes 2 (ref 5 ∷ []) []
invokespecial-of_private = refl

pub invokespecial-of_private_above : of_call (special (codes "C") (codes "x") to_int) (Ref 5 ∷ []) ≡ Invokes 5 (ref 5 ∷ []) []
invokespecial-of_private_above = refl

pub invokespecial-of_own_private : of_call (special a (codes "x") to_int) (Ref 5 ∷ []) ≡ Invokes 2 (ref 5 ∷ []) []
invokespecial-of_own_private = refl

pub invokespecial-of_initializer : of_call (special b (codes "<init>") (codes "()V")) (Ref 5 ∷ []) ≡ Invokes 0 (ref 5 ∷ []) []
invokespecial-of_initializer = refl

pub invokespecial-of_abstract : of_call (special b (codes "w") to_int) (Ref 5 ∷ []) ≡ raises abstract_method
invokespecial-of_abstract = refl

pub invokespecial-of_static_method : of_call (special b (codes "s") (codes "(IJ)I")) [] ≡ raises incompatible_change
invokespecial-of_static_method = refl

pub invokespecial-of_nothing : of_call (special b (codes "x") to_int) [] ≡ Breaks false
invokespecial-of_nothing = refl

pub invokespecial-of_null : of_call (special b (codes "x") to_int) (Ref 0 ∷ []) ≡ raises null_pointer
invokespecial-of_null = refl

pub invokespecial-of_another_class : of_call (special b (codes "x") to_int) (Ref 6 ∷ []) ≡ Breaks false
invokespecial-of_another_class = refl

-- ---- invokeinterface

abbrev pub call_i : SymbolicReference
call_i = Invokeinterface (reference (codes "I") (codes "i") to_int)

pub invokeinterface-invokes : of_call call_i (Ref 6 ∷ Ref 2 ∷ []) ≡ Invokes 6 (ref 6 ∷ []) (Ref 2 ∷ [])
invokeinterface-invokes = refl

pub invokeinterface-of_nothing : of_call call_i [] ≡ Breaks false
invokeinterface-of_nothing = refl

pub invokeinterface-of_null : of_call call_i (Ref 0 ∷ []) ≡ raises null_pointer
invokeinterface-of_null = refl

pub invokeinterface-of_another_class : of_call call_i (Ref 5 ∷ []) ≡ raises incompatible_change
invokeinterface-of_another_class = refl

pub invokeinterface-of_array : of_call call_i (Ref 8 ∷ []) ≡ raises incompatible_change
invokeinterface-of_array = refl

pub invokeinterface-not_implemented : of_call call_i (Ref 7 ∷ []) ≡ raises abstract_method
invokeinterface-not_implemented = refl

pub invokeinterface-of_class : of_call (Invokeinterface (reference a (codes "v") (codes "(I)I"))) [] ≡ raises incompatible_change
invokeinterface-of_class = refl

pub invokeinterface-of_no_method : of_call (Invokeinterface (reference (codes "I") (codes "v") to_int)) [] ≡ raises no_such_method
invokeinterface-of_no_method = refl

-- ---- methods of java/lang/Object, of an interface and of an array

abbrev pub object_class : ℕ
object_class = unwrap_or (class_named calling object_name) 0

pub method_of_interface : named_method calling callable.loaded true false (reference (codes "I") (codes "hashCode") to_int) ≡ Ok (place_in object_class 1)
method_of_interface = refl

pub method_of_array : named_method calling callable.loaded false false (reference (codes "[LA;") (codes "hashCode") to_int) ≡ Ok (place_in object_class 1)
method_of_array = refl

-- ---- built-in methods without Code

abbrev pub init_of : List ℕ → SymbolicReference
init_of name = Invokespecial a (reference name (codes "<init>") (codes "()V")) false

pub init-of_object : does_named (world_with calling) (init_of object_name) callable [] (Ref 5 ∷ Ref 2 ∷ []) ≡ record { shared = callable; wrote = []; outcome = with_operands (Ref 2 ∷ []) }
unfolding native_methods rows built_in_classes object_classes text_classes stream_classes value_classes throwable_classes is_among
init-of_object = refl

pub init-of_array : of_call (init_of object_name) (Ref 8 ∷ []) ≡ with_operands []
unfolding native_methods rows built_in_classes object_classes text_classes stream_classes value_classes throwable_classes is_among
init-of_array = refl

pub init-of_null : of_call (init_of object_name) (Ref 0 ∷ []) ≡ raises null_pointer
init-of_null = refl

-- a throwable has neither message nor cause then, and a text no units
pub init-of_throwable : of_call (init_of throwable) (Ref 9 ∷ []) ≡ with_operands []
unfolding native_methods rows built_in_classes object_classes text_classes stream_classes value_classes throwable_classes is_among
init-of_throwable = refl

pub init-of_throwable-message : slot_at 9 0 (shared_by calling (init_of throwable) callable (Ref 9 ∷ [])).heap ≡ Some (ref 0)
unfolding native_methods rows built_in_classes object_classes text_classes stream_classes value_classes throwable_classes is_among
init-of_throwable-message = refl

pub init-of_throwable-cause : slot_at 9 1 (shared_by calling (init_of throwable) callable (Ref 9 ∷ [])).heap ≡ Some (ref 0)
unfolding native_methods rows built_in_classes object_classes text_classes stream_classes value_classes throwable_classes is_among
init-of_throwable-cause = refl

pub init-of_text : units_at 10 (shared_by calling (init_of string) callable (Ref 10 ∷ [])).heap ≡ Some []
unfolding native_methods rows built_in_classes object_classes text_classes stream_classes value_classes throwable_classes is_among
init-of_text = refl

abbrev pub call_println : SymbolicReference
call_println = Invokevirtual (reference (codes "java/io/PrintStream") (codes "println") (codes "(I)V"))

pub println-prints : does_named (world_with calling) call_println callable [] (Int (pos 42) ∷ Ref 4 ∷ Ref 2 ∷ []) ≡ record { shared = callable; wrote = utf8_of (codes "42\n"); outcome = with_operands (Ref 2 ∷ []) }
unfolding digits native_methods rows built_in_classes object_classes text_classes stream_classes value_classes throwable_classes is_among
println-prints = refl

pub println-of_another_class : of_call call_println (Int (pos 42) ∷ Ref 5 ∷ []) ≡ Breaks false
unfolding native_methods rows built_in_classes object_classes text_classes stream_classes value_classes throwable_classes is_among
println-of_another_class = refl

-- the number of the object
pub hash_code-of_object : of_call (Invokevirtual (reference a (codes "hashCode") to_int)) (Ref 5 ∷ []) ≡ with_operands (Int (pos 5) ∷ [])
unfolding native_methods rows built_in_classes object_classes text_classes stream_classes value_classes throwable_classes is_among
hash_code-of_object = refl

-- ======== constants of static fields: of a boolean the lowest bit, of a byte and a char the low bits, and one String
-- for equal units

abbrev pub constants : Program
constants = program_of (record (with_fields (
    constant (codes "z") (codes "Z") 5 ∷ constant (codes "b") (codes "B") 6 ∷ constant (codes "i") (codes "I") 6
    ∷ record (constant (codes "e") (codes "I") 6) { access = 0 }
    ∷ constant (codes "s") (codes "Ljava/lang/String;") 9 ∷ constant (codes "t") (codes "Ljava/lang/String;") 12
    ∷ item 8 (codes "n") (codes "I") ∷ constant (codes "j") (codes "J") 7 ∷ constant (codes "c") (codes "C") 11 ∷ [])
    (class a object_name [])) {
      constants = const.Integer (pos 2) ∷ const.Integer (pos 300) ∷ const.Long (pos 9) ∷ const.Gap
          ∷ const.Text 10 ∷ const.Utf8 (codes "hi") ∷ const.Integer (negsuc 0) ∷ const.Text 13 ∷ const.Utf8 (codes "hi") ∷ [];
    } ∷ [])

-- so many of the 40 slots were used
abbrev pub with_used : ℕ → Shared
with_used n = with_objects (λ h. record h { used = n }) (fresh constants (0 ∷ []))

abbrev pub settled : ℕ → Setting
settled n = sets_constants constants 0 (with_used n)

abbrev pub first_fields : List Datum → List Datum
first_fields rest = number 0 ∷ number 44 ∷ number 300 ∷ number 0 ∷ rest

pub constants-set : slice_get (settled 6).shared.statics 0
    ≡ Some (first_fields (ref 5 ∷ ref 5 ∷ number 0 ∷ long 9 ∷ number 65535 ∷ []))
unfolding int_wrap
constants-set = refl

pub constants-throw_nothing : (settled 6).thrown ≡ None
constants-throw_nothing = refl

pub constants-text : units_at 5 (settled 6).shared.heap ≡ Some (codes "hi")
constants-text = refl

pub constants-slots : (settled 6).shared.heap.used ≡ 9
constants-slots = refl

pub constants-fit : (settled 37).thrown ≡ None
constants-fit = refl

-- where the String does not fit object 1 is thrown, and what was set before stays
pub constants-without_room : (settled 38).thrown ≡ Some 1
constants-without_room = refl

pub constants-without_room-set : slice_get (settled 38).shared.statics 0
    ≡ Some (first_fields (ref 0 ∷ ref 0 ∷ number 0 ∷ long 0 ∷ number 0 ∷ []))
unfolding int_wrap
constants-without_room-set = refl

-- ---- before the start System's fields hold its streams, and all others zeros

abbrev pub statics_before : ℕ → Option (List Datum)
statics_before class = slice_get (shared_before constants).statics class

pub statics-of_system : option_and_then statics_before (class_named constants system) ≡ Some (ref 2 ∷ ref 3 ∷ ref 4 ∷ [])
statics-of_system = refl

pub statics-of_class : statics_before 0 ≡ Some (number 0 ∷ number 0 ∷ number 0 ∷ number 0 ∷ ref 0 ∷ ref 0 ∷ number 0 ∷ long 0 ∷ number 0 ∷ [])
statics-of_class = refl
