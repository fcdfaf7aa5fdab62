-- The root of all classes, the interfaces, and java/lang/Class.
use Rattle.std.specs.Prelude.{List, [], ◌∷◌, None}
use Rattle.base_classes.specs.Declarations.{ClassDeclaration}
use Rattle.base_classes.specs.Notation.{native, protected_native, abstract_method, declaration, final_class, interface}

unfoldable pub object_classes : List ClassDeclaration
object_classes =
    declaration 0x0021 "java/lang/Object" None [] [] (
    native "<init>" "()V" ∷
    native "equals" "(Ljava/lang/Object;)Z" ∷
    native "hashCode" "()I" ∷
    native "toString" "()Ljava/lang/String;" ∷
    native "getClass" "()Ljava/lang/Class;" ∷
    protected_native "clone" "()Ljava/lang/Object;" ∷ []) ∷
    interface "java/lang/Cloneable" [] ∷
    interface "java/io/Serializable" [] ∷
    interface "java/lang/Comparable" (
    abstract_method "compareTo" "(Ljava/lang/Object;)I" ∷ []) ∷
    interface "java/lang/Runnable" (
    abstract_method "run" "()V" ∷ []) ∷
    interface "java/lang/CharSequence" (
    abstract_method "length" "()I" ∷
    abstract_method "charAt" "(I)C" ∷
    abstract_method "toString" "()Ljava/lang/String;" ∷ []) ∷
    final_class "java/lang/Class" "java/lang/Object" [] [] (
    native "getName" "()Ljava/lang/String;" ∷
    native "desiredAssertionStatus" "()Z" ∷ []) ∷ []
