-- The names of the built-in classes, in their order. No class of a program may have one of them.
use Rattle.std.specs.Prelude.{ℕ, List, [], ◌∷◌, codes}

-- the class whose static methods are the probes
abbrev pub probe_class : List ℕ
probe_class = codes "jfluid/Probe"

abbrev pub built_in_names : List (List ℕ)
built_in_names =
    codes "java/lang/Object" ∷
    codes "java/lang/Cloneable" ∷
    codes "java/io/Serializable" ∷
    codes "java/lang/Comparable" ∷
    codes "java/lang/Runnable" ∷
    codes "java/lang/CharSequence" ∷
    codes "java/lang/Class" ∷
    codes "java/lang/String" ∷
    codes "java/lang/StringBuilder" ∷
    codes "java/lang/StringBuffer" ∷
    codes "java/io/InputStream" ∷
    codes "java/io/PrintStream" ∷
    codes "java/lang/System" ∷
    codes "java/lang/Number" ∷
    codes "java/lang/Integer" ∷
    codes "java/lang/Long" ∷
    codes "java/lang/Character" ∷
    codes "java/lang/Boolean" ∷
    codes "java/lang/Math" ∷
    codes "java/lang/Enum" ∷
    codes "java/lang/Throwable" ∷
    codes "java/lang/Exception" ∷
    codes "java/lang/Error" ∷
    codes "java/lang/RuntimeException" ∷
    codes "java/lang/CloneNotSupportedException" ∷
    codes "java/lang/ClassNotFoundException" ∷
    codes "java/io/IOException" ∷
    codes "java/lang/ArithmeticException" ∷
    codes "java/lang/ArrayStoreException" ∷
    codes "java/lang/ClassCastException" ∷
    codes "java/lang/IllegalArgumentException" ∷
    codes "java/lang/IllegalStateException" ∷
    codes "java/lang/IndexOutOfBoundsException" ∷
    codes "java/lang/NegativeArraySizeException" ∷
    codes "java/lang/NullPointerException" ∷
    codes "java/lang/UnsupportedOperationException" ∷
    codes "java/lang/NumberFormatException" ∷
    codes "java/lang/ArrayIndexOutOfBoundsException" ∷
    codes "java/lang/StringIndexOutOfBoundsException" ∷
    codes "java/lang/AssertionError" ∷
    codes "java/lang/LinkageError" ∷
    codes "java/lang/VirtualMachineError" ∷
    codes "java/lang/NoClassDefFoundError" ∷
    codes "java/lang/ExceptionInInitializerError" ∷
    codes "java/lang/IncompatibleClassChangeError" ∷
    codes "java/lang/ClassCircularityError" ∷
    codes "java/lang/UnsatisfiedLinkError" ∷
    codes "java/lang/AbstractMethodError" ∷
    codes "java/lang/InstantiationError" ∷
    codes "java/lang/NoSuchFieldError" ∷
    codes "java/lang/NoSuchMethodError" ∷
    codes "java/lang/OutOfMemoryError" ∷
    codes "java/lang/StackOverflowError" ∷
    []
