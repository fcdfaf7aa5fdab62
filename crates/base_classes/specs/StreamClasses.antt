-- The streams, and java/lang/System, which has them.
use Rattle.std.specs.Prelude.{List, [], ◌∷◌}
use Rattle.base_classes.specs.Declarations.{CodeDeclaration, ClassDeclaration}
use Rattle.base_classes.specs.Notation.{aload_0, aload_1, return, invokevirtual, invokestatic, static_field, native, static_native, code, method, class}

abbrev pub print : CodeDeclaration
print = code 2 2 (
    aload_0 ∷
    aload_1 ∷
    invokestatic "java/lang/String" "valueOf" "(Ljava/lang/Object;)Ljava/lang/String;" ∷
    invokevirtual "java/io/PrintStream" "print" "(Ljava/lang/String;)V" ∷
    return ∷ [])

abbrev pub println : CodeDeclaration
println = code 2 2 (
    aload_0 ∷
    aload_1 ∷
    invokestatic "java/lang/String" "valueOf" "(Ljava/lang/Object;)Ljava/lang/String;" ∷
    invokevirtual "java/io/PrintStream" "println" "(Ljava/lang/String;)V" ∷
    return ∷ [])

unfoldable pub stream_classes : List ClassDeclaration
stream_classes =
    class "java/io/InputStream" "java/lang/Object" [] [] (
    native "read" "()I" ∷
    native "close" "()V" ∷ []) ∷
    class "java/io/PrintStream" "java/lang/Object" [] [] (
    native "print" "(Z)V" ∷
    native "print" "(C)V" ∷
    native "print" "(I)V" ∷
    native "print" "(J)V" ∷
    native "print" "(Ljava/lang/String;)V" ∷
    native "print" "([C)V" ∷
    method "print" "(Ljava/lang/Object;)V" print ∷
    native "println" "(Z)V" ∷
    native "println" "(C)V" ∷
    native "println" "(I)V" ∷
    native "println" "(J)V" ∷
    native "println" "(Ljava/lang/String;)V" ∷
    native "println" "([C)V" ∷
    method "println" "(Ljava/lang/Object;)V" println ∷
    native "println" "()V" ∷
    native "flush" "()V" ∷ []) ∷
    class "java/lang/System" "java/lang/Object" [] (static_field "in" "Ljava/io/InputStream;" ∷ static_field "out" "Ljava/io/PrintStream;" ∷ static_field "err" "Ljava/io/PrintStream;" ∷ []) (
    static_native "exit" "(I)V" ∷
    static_native "arraycopy" "(Ljava/lang/Object;ILjava/lang/Object;II)V" ∷
    static_native "identityHashCode" "(Ljava/lang/Object;)I" ∷ []) ∷ []
