-- Every instruction that names a class, a field or a method, and ldc of a Class (JVM Specification 6.5), once what it
-- names is loaded.
use Rattle.jvm_model.specs.Instructions.ConstantRules.{pushes_class}
use Rattle.jvm_model.specs.Instructions.CreationRules.{casts, makes_array_of, makes_multi, makes_new, tells_instance}
use Rattle.jvm_model.specs.Basis.Data.{Locals, Operands, Shared, World, Done, SymbolicReference, New, Getfield, Putfield, Getstatic, Putstatic, Invokevirtual, Invokespecial, Invokestatic, Invokeinterface, Checkcast, Instanceof, Anewarray, Multianewarray, LdcClass}
use Rattle.jvm_model.specs.Instructions.FieldRules.{gets_instance, gets_static, puts_instance, puts_static}
use Rattle.jvm_model.specs.Instructions.InvocationRules.{Virtual, OfInterface, Special, invokes_instance, invokes_static_method}

abbrev pub does_named : World → SymbolicReference → Shared → Locals → Operands → Done
does_named w (New name) s l o = makes_new w.program name s l o
does_named w (Getfield r) s l o = gets_instance w.program r s l o
does_named w (Putfield r) s l o = puts_instance w.program r s l o
does_named w (Getstatic r) s l o = gets_static w.program r s l o
does_named w (Putstatic r) s l o = puts_static w.program r s l o
does_named w (Invokevirtual r) s l o = invokes_instance w Virtual r s l o
does_named w (Invokespecial caller r interface) s l o = invokes_instance w (Special caller interface) r s l o
does_named w (Invokestatic r) s l o = invokes_static_method w r s l o
does_named w (Invokeinterface r) s l o = invokes_instance w OfInterface r s l o
does_named w (Checkcast name) s l o = casts w.program name s l o
does_named w (Instanceof name) s l o = tells_instance w.program name s l o
does_named w (Anewarray name) s l o = makes_array_of w.program name s l o
does_named w (Multianewarray name dimensions) s l o = makes_multi w.program name dimensions s l o
does_named w (LdcClass name) s l o = pushes_class w.program name s l o
