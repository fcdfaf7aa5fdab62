-- The classes of texts.
use Rattle.std.specs.Prelude.{List, [], ◌∷◌}
use Rattle.base_classes.specs.Declarations.{CodeDeclaration, ClassDeclaration}
use Rattle.base_classes.specs.Notation.{aload_0, aload_1, areturn, ifnonnull, ldc, invokevirtual, invokestatic, native, static_native, code, method, static_method, final_class}

abbrev pub string_of : CodeDeclaration
string_of = code 1 1 (
    aload_0 ∷
    ifnonnull 7 ∷
    ldc "null" ∷
    areturn ∷
    aload_0 ∷
    invokevirtual "java/lang/Object" "toString" "()Ljava/lang/String;" ∷
    areturn ∷ [])

abbrev pub builder_append : CodeDeclaration
builder_append = code 2 2 (
    aload_0 ∷
    aload_1 ∷
    invokestatic "java/lang/String" "valueOf" "(Ljava/lang/Object;)Ljava/lang/String;" ∷
    invokevirtual "java/lang/StringBuilder" "append" "(Ljava/lang/String;)Ljava/lang/StringBuilder;" ∷
    areturn ∷ [])

abbrev pub buffer_append : CodeDeclaration
buffer_append = code 2 2 (
    aload_0 ∷
    aload_1 ∷
    invokestatic "java/lang/String" "valueOf" "(Ljava/lang/Object;)Ljava/lang/String;" ∷
    invokevirtual "java/lang/StringBuffer" "append" "(Ljava/lang/String;)Ljava/lang/StringBuffer;" ∷
    areturn ∷ [])

unfoldable pub text_classes : List ClassDeclaration
text_classes =
    final_class "java/lang/String" "java/lang/Object" ("java/lang/Comparable" ∷ "java/lang/CharSequence" ∷ "java/io/Serializable" ∷ []) [] (
    native "<init>" "()V" ∷
    native "<init>" "(Ljava/lang/String;)V" ∷
    native "<init>" "([C)V" ∷
    native "<init>" "([CII)V" ∷
    native "length" "()I" ∷
    native "charAt" "(I)C" ∷
    native "isEmpty" "()Z" ∷
    native "equals" "(Ljava/lang/Object;)Z" ∷
    native "hashCode" "()I" ∷
    native "toString" "()Ljava/lang/String;" ∷
    native "compareTo" "(Ljava/lang/String;)I" ∷
    native "compareTo" "(Ljava/lang/Object;)I" ∷
    native "concat" "(Ljava/lang/String;)Ljava/lang/String;" ∷
    native "substring" "(I)Ljava/lang/String;" ∷
    native "substring" "(II)Ljava/lang/String;" ∷
    native "indexOf" "(I)I" ∷
    native "startsWith" "(Ljava/lang/String;)Z" ∷
    native "intern" "()Ljava/lang/String;" ∷
    native "toCharArray" "()[C" ∷
    static_native "valueOf" "(I)Ljava/lang/String;" ∷
    static_native "valueOf" "(J)Ljava/lang/String;" ∷
    static_native "valueOf" "(C)Ljava/lang/String;" ∷
    static_native "valueOf" "(Z)Ljava/lang/String;" ∷
    static_native "valueOf" "([C)Ljava/lang/String;" ∷
    static_method "valueOf" "(Ljava/lang/Object;)Ljava/lang/String;" string_of ∷ []) ∷
    final_class "java/lang/StringBuilder" "java/lang/Object" ("java/lang/CharSequence" ∷ []) [] (
    native "<init>" "()V" ∷
    native "<init>" "(I)V" ∷
    native "<init>" "(Ljava/lang/String;)V" ∷
    native "append" "(Ljava/lang/String;)Ljava/lang/StringBuilder;" ∷
    native "append" "(I)Ljava/lang/StringBuilder;" ∷
    native "append" "(J)Ljava/lang/StringBuilder;" ∷
    native "append" "(C)Ljava/lang/StringBuilder;" ∷
    native "append" "(Z)Ljava/lang/StringBuilder;" ∷
    native "append" "([C)Ljava/lang/StringBuilder;" ∷
    method "append" "(Ljava/lang/Object;)Ljava/lang/StringBuilder;" builder_append ∷
    native "length" "()I" ∷
    native "charAt" "(I)C" ∷
    native "setCharAt" "(IC)V" ∷
    native "setLength" "(I)V" ∷
    native "deleteCharAt" "(I)Ljava/lang/StringBuilder;" ∷
    native "toString" "()Ljava/lang/String;" ∷ []) ∷
    final_class "java/lang/StringBuffer" "java/lang/Object" ("java/lang/CharSequence" ∷ []) [] (
    native "<init>" "()V" ∷
    native "<init>" "(I)V" ∷
    native "<init>" "(Ljava/lang/String;)V" ∷
    native "append" "(Ljava/lang/String;)Ljava/lang/StringBuffer;" ∷
    native "append" "(I)Ljava/lang/StringBuffer;" ∷
    native "append" "(J)Ljava/lang/StringBuffer;" ∷
    native "append" "(C)Ljava/lang/StringBuffer;" ∷
    native "append" "(Z)Ljava/lang/StringBuffer;" ∷
    native "append" "([C)Ljava/lang/StringBuffer;" ∷
    method "append" "(Ljava/lang/Object;)Ljava/lang/StringBuffer;" buffer_append ∷
    native "length" "()I" ∷
    native "charAt" "(I)C" ∷
    native "setCharAt" "(IC)V" ∷
    native "setLength" "(I)V" ∷
    native "deleteCharAt" "(I)Ljava/lang/StringBuffer;" ∷
    native "toString" "()Ljava/lang/String;" ∷ []) ∷ []
