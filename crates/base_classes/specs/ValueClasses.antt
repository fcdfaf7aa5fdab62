-- The classes of numbers and other values, java/lang/Math, and java/lang/Enum.
use Rattle.std.specs.Prelude.{List, [], ◌∷◌}
use Rattle.base_classes.specs.Declarations.{ClassDeclaration}
use Rattle.base_classes.specs.Notation.{private_field, native, static_native, protected_native, abstract_method, class, abstract_class}

unfoldable pub value_classes : List ClassDeclaration
value_classes =
    abstract_class "java/lang/Number" "java/lang/Object" [] [] (
    native "<init>" "()V" ∷
    abstract_method "intValue" "()I" ∷
    abstract_method "longValue" "()J" ∷ []) ∷
    class "java/lang/Integer" "java/lang/Number" ("java/lang/Comparable" ∷ []) (private_field "value" "I" ∷ []) (
    static_native "valueOf" "(I)Ljava/lang/Integer;" ∷
    static_native "parseInt" "(Ljava/lang/String;)I" ∷
    static_native "toString" "(I)Ljava/lang/String;" ∷
    static_native "toHexString" "(I)Ljava/lang/String;" ∷
    native "intValue" "()I" ∷
    native "longValue" "()J" ∷
    native "equals" "(Ljava/lang/Object;)Z" ∷
    native "hashCode" "()I" ∷
    native "toString" "()Ljava/lang/String;" ∷
    native "compareTo" "(Ljava/lang/Object;)I" ∷ []) ∷
    class "java/lang/Long" "java/lang/Number" ("java/lang/Comparable" ∷ []) (private_field "value" "J" ∷ []) (
    static_native "valueOf" "(J)Ljava/lang/Long;" ∷
    static_native "parseLong" "(Ljava/lang/String;)J" ∷
    static_native "toString" "(J)Ljava/lang/String;" ∷
    native "intValue" "()I" ∷
    native "longValue" "()J" ∷
    native "equals" "(Ljava/lang/Object;)Z" ∷
    native "hashCode" "()I" ∷
    native "toString" "()Ljava/lang/String;" ∷
    native "compareTo" "(Ljava/lang/Object;)I" ∷ []) ∷
    class "java/lang/Character" "java/lang/Object" [] (private_field "value" "C" ∷ []) (
    static_native "valueOf" "(C)Ljava/lang/Character;" ∷
    static_native "toString" "(C)Ljava/lang/String;" ∷
    static_native "isDigit" "(C)Z" ∷
    static_native "isLetter" "(C)Z" ∷
    static_native "isWhitespace" "(C)Z" ∷
    native "charValue" "()C" ∷
    native "equals" "(Ljava/lang/Object;)Z" ∷
    native "hashCode" "()I" ∷
    native "toString" "()Ljava/lang/String;" ∷ []) ∷
    class "java/lang/Boolean" "java/lang/Object" [] (private_field "value" "Z" ∷ []) (
    static_native "valueOf" "(Z)Ljava/lang/Boolean;" ∷
    static_native "parseBoolean" "(Ljava/lang/String;)Z" ∷
    native "booleanValue" "()Z" ∷
    native "equals" "(Ljava/lang/Object;)Z" ∷
    native "hashCode" "()I" ∷
    native "toString" "()Ljava/lang/String;" ∷ []) ∷
    class "java/lang/Math" "java/lang/Object" [] [] (
    static_native "abs" "(I)I" ∷
    static_native "max" "(II)I" ∷
    static_native "min" "(II)I" ∷
    static_native "abs" "(J)J" ∷
    static_native "max" "(JJ)J" ∷
    static_native "min" "(JJ)J" ∷ []) ∷
    abstract_class "java/lang/Enum" "java/lang/Object" ("java/lang/Comparable" ∷ "java/io/Serializable" ∷ []) (private_field "name" "Ljava/lang/String;" ∷ private_field "ordinal" "I" ∷ []) (
    protected_native "<init>" "(Ljava/lang/String;I)V" ∷
    native "name" "()Ljava/lang/String;" ∷
    native "ordinal" "()I" ∷
    native "toString" "()Ljava/lang/String;" ∷
    native "equals" "(Ljava/lang/Object;)Z" ∷
    native "hashCode" "()I" ∷
    native "compareTo" "(Ljava/lang/Enum;)I" ∷
    native "compareTo" "(Ljava/lang/Object;)I" ∷ []) ∷ []
