-- java/lang/Throwable and the classes below it.
use Rattle.std.specs.Prelude.{List, [], ◌∷◌, ◌++◌}
use Rattle.base_classes.specs.Declarations.{CodeDeclaration, ClassDeclaration}
use Rattle.base_classes.specs.Notation.{aload_0, aload_1, aload_2, astore_1, astore_2, areturn, return, ifnonnull, ldc, getstatic, invokevirtual, private_field, native, code, method, class, constructors, throwable}

abbrev pub throwable_to_string : CodeDeclaration
throwable_to_string = code 2 3 (
    aload_0 ∷
    invokevirtual "java/lang/Object" "getClass" "()Ljava/lang/Class;" ∷
    invokevirtual "java/lang/Class" "getName" "()Ljava/lang/String;" ∷
    astore_1 ∷
    aload_0 ∷
    invokevirtual "java/lang/Throwable" "getMessage" "()Ljava/lang/String;" ∷
    astore_2 ∷
    aload_2 ∷
    ifnonnull 19 ∷
    aload_1 ∷
    areturn ∷
    aload_1 ∷
    ldc ": " ∷
    invokevirtual "java/lang/String" "concat" "(Ljava/lang/String;)Ljava/lang/String;" ∷
    aload_2 ∷
    invokevirtual "java/lang/String" "concat" "(Ljava/lang/String;)Ljava/lang/String;" ∷
    areturn ∷ [])

abbrev pub print_stack_trace : CodeDeclaration
print_stack_trace = code 2 1 (
    getstatic "java/lang/System" "err" "Ljava/io/PrintStream;" ∷
    aload_0 ∷
    invokevirtual "java/io/PrintStream" "println" "(Ljava/lang/Object;)V" ∷
    return ∷ [])

unfoldable pub throwable_classes : List ClassDeclaration
throwable_classes =
    class "java/lang/Throwable" "java/lang/Object" ("java/io/Serializable" ∷ []) (private_field "message" "Ljava/lang/String;" ∷ private_field "cause" "Ljava/lang/Throwable;" ∷ []) (constructors ++ (
    native "getMessage" "()Ljava/lang/String;" ∷
    native "getCause" "()Ljava/lang/Throwable;" ∷
    method "toString" "()Ljava/lang/String;" throwable_to_string ∷
    method "printStackTrace" "()V" print_stack_trace ∷ [])) ∷
    throwable "java/lang/Exception" "java/lang/Throwable" ∷
    throwable "java/lang/Error" "java/lang/Throwable" ∷
    throwable "java/lang/RuntimeException" "java/lang/Exception" ∷
    throwable "java/lang/CloneNotSupportedException" "java/lang/Exception" ∷
    throwable "java/lang/ClassNotFoundException" "java/lang/Exception" ∷
    throwable "java/io/IOException" "java/lang/Exception" ∷
    throwable "java/lang/ArithmeticException" "java/lang/RuntimeException" ∷
    throwable "java/lang/ArrayStoreException" "java/lang/RuntimeException" ∷
    throwable "java/lang/ClassCastException" "java/lang/RuntimeException" ∷
    throwable "java/lang/IllegalArgumentException" "java/lang/RuntimeException" ∷
    throwable "java/lang/IllegalStateException" "java/lang/RuntimeException" ∷
    throwable "java/lang/IndexOutOfBoundsException" "java/lang/RuntimeException" ∷
    throwable "java/lang/NegativeArraySizeException" "java/lang/RuntimeException" ∷
    throwable "java/lang/NullPointerException" "java/lang/RuntimeException" ∷
    throwable "java/lang/UnsupportedOperationException" "java/lang/RuntimeException" ∷
    throwable "java/lang/NumberFormatException" "java/lang/IllegalArgumentException" ∷
    throwable "java/lang/ArrayIndexOutOfBoundsException" "java/lang/IndexOutOfBoundsException" ∷
    throwable "java/lang/StringIndexOutOfBoundsException" "java/lang/IndexOutOfBoundsException" ∷
    class "java/lang/AssertionError" "java/lang/Error" [] [] (constructors ++ (
    native "<init>" "(Ljava/lang/Object;)V" ∷ [])) ∷
    throwable "java/lang/LinkageError" "java/lang/Error" ∷
    throwable "java/lang/VirtualMachineError" "java/lang/Error" ∷
    throwable "java/lang/NoClassDefFoundError" "java/lang/LinkageError" ∷
    throwable "java/lang/ExceptionInInitializerError" "java/lang/LinkageError" ∷
    throwable "java/lang/IncompatibleClassChangeError" "java/lang/LinkageError" ∷
    throwable "java/lang/ClassCircularityError" "java/lang/LinkageError" ∷
    throwable "java/lang/UnsatisfiedLinkError" "java/lang/LinkageError" ∷
    throwable "java/lang/AbstractMethodError" "java/lang/IncompatibleClassChangeError" ∷
    throwable "java/lang/InstantiationError" "java/lang/IncompatibleClassChangeError" ∷
    throwable "java/lang/NoSuchFieldError" "java/lang/IncompatibleClassChangeError" ∷
    throwable "java/lang/NoSuchMethodError" "java/lang/IncompatibleClassChangeError" ∷
    throwable "java/lang/OutOfMemoryError" "java/lang/VirtualMachineError" ∷
    throwable "java/lang/StackOverflowError" "java/lang/VirtualMachineError" ∷ []
