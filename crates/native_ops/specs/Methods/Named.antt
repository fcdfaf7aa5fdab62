-- Which method each row is of: its class, its name and its descriptor. The rows are the native methods of the built-in
-- classes.
use Rattle.std.specs.Prelude.{ℕ, ◌-◌, List, [], ◌++◌, slice_get, unwrap_or, codes}
use Rattle.const_pool.specs.References.{Reference}
use Rattle.const_pool.specs.BuiltIn.{built_in_names}
use Rattle.base_classes.specs.Natives.{method_named}
use Rattle.native_ops.specs.declared.methods.rows.Row.{Row}
use Rattle.native_ops.specs.declared.methods.method.Method.{Method}
use Rattle.native_ops.specs.declared.methods.method.Method.TheVariants as method
use Rattle.native_effects.specs.declared.inputs.printable.Printable.{Printable}
use Rattle.native_effects.specs.declared.inputs.printable.Printable.TheVariants as printable
use Rattle.native_ops.specs.declared.methods.method.ObjectMethod.{ObjectMethod}
use Rattle.native_ops.specs.declared.methods.method.ObjectMethod.TheVariants as object
use Rattle.native_ops.specs.declared.methods.method.ClassMethod.{ClassMethod}
use Rattle.native_ops.specs.declared.methods.method.ClassMethod.TheVariants as class_object
use Rattle.native_ops.specs.declared.methods.method.StringMethod.{StringMethod}
use Rattle.native_ops.specs.declared.methods.method.StringMethod.TheVariants as string
use Rattle.native_ops.specs.declared.methods.method.BuilderMethod.{BuilderMethod}
use Rattle.native_ops.specs.declared.methods.method.BuilderMethod.TheVariants as builder
use Rattle.native_ops.specs.declared.methods.method.InputMethod.{InputMethod}
use Rattle.native_ops.specs.declared.methods.method.InputMethod.TheVariants as input
use Rattle.native_ops.specs.declared.methods.method.PrintMethod.{PrintMethod}
use Rattle.native_ops.specs.declared.methods.method.PrintMethod.TheVariants as output
use Rattle.native_ops.specs.declared.methods.method.SystemMethod.{SystemMethod}
use Rattle.native_ops.specs.declared.methods.method.SystemMethod.TheVariants as system
use Rattle.native_ops.specs.declared.methods.method.IntegerMethod.{IntegerMethod}
use Rattle.native_ops.specs.declared.methods.method.IntegerMethod.TheVariants as integer
use Rattle.native_ops.specs.declared.methods.method.LongMethod.{LongMethod}
use Rattle.native_ops.specs.declared.methods.method.LongMethod.TheVariants as long
use Rattle.native_ops.specs.declared.methods.method.CharacterMethod.{CharacterMethod}
use Rattle.native_ops.specs.declared.methods.method.CharacterMethod.TheVariants as character
use Rattle.native_ops.specs.declared.methods.method.BooleanMethod.{BooleanMethod}
use Rattle.native_ops.specs.declared.methods.method.BooleanMethod.TheVariants as boolean
use Rattle.native_ops.specs.declared.methods.method.MathMethod.{MathMethod}
use Rattle.native_ops.specs.declared.methods.method.MathMethod.TheVariants as math
use Rattle.native_ops.specs.declared.methods.method.EnumMethod.{EnumMethod}
use Rattle.native_ops.specs.declared.methods.method.EnumMethod.TheVariants as enum
use Rattle.native_ops.specs.declared.methods.method.ThrowableMethod.{ThrowableMethod}
use Rattle.native_ops.specs.declared.methods.method.ThrowableMethod.TheVariants as throwable
use Rattle.native_ops.specs.declared.methods.signature.Receiver.{Receiver}
use Rattle.native_ops.specs.declared.methods.signature.Receiver.TheVariants as receiver
use Prim.Native.String.{String}

abbrev pub of_class : List ℕ → String → String → Reference
of_class class name descriptor = method_named class (codes name) (codes descriptor)

-- ---- classes

-- the built-in class of a kind
abbrev pub class_of_kind : ℕ → List ℕ
class_of_kind kind = unwrap_or (slice_get built_in_names (kind - 16)) []

-- of a static method, by what it does
abbrev pub class_of_static : Method → List ℕ
class_of_static (method.Object m) = codes "java/lang/Object"
class_of_static (method.Class m) = codes "java/lang/Class"
class_of_static (method.Text m) = codes "java/lang/String"
class_of_static (method.Builder m) = codes "java/lang/StringBuilder"
class_of_static (method.Input m) = codes "java/io/InputStream"
class_of_static (method.Output m) = codes "java/io/PrintStream"
class_of_static (method.System m) = codes "java/lang/System"
class_of_static (method.Integer m) = codes "java/lang/Integer"
class_of_static (method.Long m) = codes "java/lang/Long"
class_of_static (method.Character m) = codes "java/lang/Character"
class_of_static (method.Boolean m) = codes "java/lang/Boolean"
class_of_static (method.Math m) = codes "java/lang/Math"
class_of_static (method.Enum m) = codes "java/lang/Enum"
class_of_static (method.Throwable m) = codes "java/lang/Throwable"

abbrev pub class_of_receiver : Receiver → Method → List ℕ
class_of_receiver receiver.Absent m = class_of_static m
class_of_receiver receiver.Any m = codes "java/lang/Object"
class_of_receiver (receiver.Exactly kind) m = class_of_kind kind
class_of_receiver (receiver.Extending kind) m = class_of_kind kind

-- ---- names and descriptors

abbrev pub descriptor_of : Printable → List ℕ
descriptor_of printable.Boolean = codes "Z"
descriptor_of printable.Char = codes "C"
descriptor_of printable.Int = codes "I"
descriptor_of printable.Long = codes "J"
descriptor_of printable.Text = codes "Ljava/lang/String;"
descriptor_of printable.Chars = codes "[C"

-- a method of one argument
abbrev pub of_one : List ℕ → String → Printable → List ℕ → Reference
of_one class name what result = method_named class (codes name) (codes "(" ++ (descriptor_of what ++ (codes ")" ++ result)))

-- the type of a class
abbrev pub own_type : List ℕ → List ℕ
own_type class = codes "L" ++ (class ++ codes ";")

abbrev pub object_method : List ℕ → ObjectMethod → Reference
object_method class object.Init = of_class class "<init>" "()V"
object_method class object.Equals = of_class class "equals" "(Ljava/lang/Object;)Z"
object_method class object.HashCode = of_class class "hashCode" "()I"
object_method class object.ToText = of_class class "toString" "()Ljava/lang/String;"
object_method class object.GetClass = of_class class "getClass" "()Ljava/lang/Class;"
object_method class object.Clone = of_class class "clone" "()Ljava/lang/Object;"

abbrev pub class_method : List ℕ → ClassMethod → Reference
class_method class class_object.GetName = of_class class "getName" "()Ljava/lang/String;"
class_method class class_object.DesiredAssertionStatus = of_class class "desiredAssertionStatus" "()Z"

abbrev pub string_method : List ℕ → StringMethod → Reference
string_method class string.Init = of_class class "<init>" "()V"
string_method class string.InitText = of_class class "<init>" "(Ljava/lang/String;)V"
string_method class string.InitChars = of_class class "<init>" "([C)V"
string_method class string.InitPart = of_class class "<init>" "([CII)V"
string_method class string.Length = of_class class "length" "()I"
string_method class string.CharAt = of_class class "charAt" "(I)C"
string_method class string.IsEmpty = of_class class "isEmpty" "()Z"
string_method class string.Equals = of_class class "equals" "(Ljava/lang/Object;)Z"
string_method class string.HashCode = of_class class "hashCode" "()I"
string_method class string.Same = of_class class "toString" "()Ljava/lang/String;"
string_method class string.CompareTo = of_class class "compareTo" "(Ljava/lang/String;)I"
string_method class string.CompareToObject = of_class class "compareTo" "(Ljava/lang/Object;)I"
string_method class string.Concat = of_class class "concat" "(Ljava/lang/String;)Ljava/lang/String;"
string_method class string.SubstringFrom = of_class class "substring" "(I)Ljava/lang/String;"
string_method class string.Substring = of_class class "substring" "(II)Ljava/lang/String;"
string_method class string.IndexOf = of_class class "indexOf" "(I)I"
string_method class string.StartsWith = of_class class "startsWith" "(Ljava/lang/String;)Z"
string_method class string.Intern = of_class class "intern" "()Ljava/lang/String;"
string_method class string.ToCharArray = of_class class "toCharArray" "()[C"
string_method class (string.ValueOf what) = of_one class "valueOf" what (own_type class)

abbrev pub builder_method : List ℕ → BuilderMethod → Reference
builder_method class builder.Init = of_class class "<init>" "()V"
builder_method class builder.InitCapacity = of_class class "<init>" "(I)V"
builder_method class builder.InitText = of_class class "<init>" "(Ljava/lang/String;)V"
builder_method class builder.Length = of_class class "length" "()I"
builder_method class builder.CharAt = of_class class "charAt" "(I)C"
builder_method class builder.SetCharAt = of_class class "setCharAt" "(IC)V"
builder_method class builder.SetLength = of_class class "setLength" "(I)V"
builder_method class builder.ToText = of_class class "toString" "()Ljava/lang/String;"
builder_method class (builder.Append what) = of_one class "append" what (own_type class)
builder_method class builder.DeleteCharAt = method_named class (codes "deleteCharAt") (codes "(I)" ++ own_type class)

abbrev pub input_method : List ℕ → InputMethod → Reference
input_method class input.Read = of_class class "read" "()I"
input_method class input.Close = of_class class "close" "()V"

abbrev pub print_method : List ℕ → PrintMethod → Reference
print_method class output.EndLine = of_class class "println" "()V"
print_method class output.Flush = of_class class "flush" "()V"
print_method class (output.Print what) = of_one class "print" what (codes "V")
print_method class (output.Println what) = of_one class "println" what (codes "V")

abbrev pub system_method : List ℕ → SystemMethod → Reference
system_method class system.Exit = of_class class "exit" "(I)V"
system_method class system.Arraycopy = of_class class "arraycopy" "(Ljava/lang/Object;ILjava/lang/Object;II)V"
system_method class system.IdentityHashCode = of_class class "identityHashCode" "(Ljava/lang/Object;)I"

abbrev pub integer_method : List ℕ → IntegerMethod → Reference
integer_method class integer.ValueOf = of_class class "valueOf" "(I)Ljava/lang/Integer;"
integer_method class integer.Parse = of_class class "parseInt" "(Ljava/lang/String;)I"
integer_method class integer.TextOf = of_class class "toString" "(I)Ljava/lang/String;"
integer_method class integer.HexOf = of_class class "toHexString" "(I)Ljava/lang/String;"
integer_method class integer.IntValue = of_class class "intValue" "()I"
integer_method class integer.LongValue = of_class class "longValue" "()J"
integer_method class integer.Equals = of_class class "equals" "(Ljava/lang/Object;)Z"
integer_method class integer.HashCode = of_class class "hashCode" "()I"
integer_method class integer.ToText = of_class class "toString" "()Ljava/lang/String;"
integer_method class integer.CompareTo = of_class class "compareTo" "(Ljava/lang/Object;)I"

abbrev pub long_method : List ℕ → LongMethod → Reference
long_method class long.ValueOf = of_class class "valueOf" "(J)Ljava/lang/Long;"
long_method class long.Parse = of_class class "parseLong" "(Ljava/lang/String;)J"
long_method class long.TextOf = of_class class "toString" "(J)Ljava/lang/String;"
long_method class long.IntValue = of_class class "intValue" "()I"
long_method class long.LongValue = of_class class "longValue" "()J"
long_method class long.Equals = of_class class "equals" "(Ljava/lang/Object;)Z"
long_method class long.HashCode = of_class class "hashCode" "()I"
long_method class long.ToText = of_class class "toString" "()Ljava/lang/String;"
long_method class long.CompareTo = of_class class "compareTo" "(Ljava/lang/Object;)I"

abbrev pub character_method : List ℕ → CharacterMethod → Reference
character_method class character.ValueOf = of_class class "valueOf" "(C)Ljava/lang/Character;"
character_method class character.TextOf = of_class class "toString" "(C)Ljava/lang/String;"
character_method class character.IsDigit = of_class class "isDigit" "(C)Z"
character_method class character.IsLetter = of_class class "isLetter" "(C)Z"
character_method class character.IsWhitespace = of_class class "isWhitespace" "(C)Z"
character_method class character.CharValue = of_class class "charValue" "()C"
character_method class character.Equals = of_class class "equals" "(Ljava/lang/Object;)Z"
character_method class character.HashCode = of_class class "hashCode" "()I"
character_method class character.ToText = of_class class "toString" "()Ljava/lang/String;"

abbrev pub boolean_method : List ℕ → BooleanMethod → Reference
boolean_method class boolean.ValueOf = of_class class "valueOf" "(Z)Ljava/lang/Boolean;"
boolean_method class boolean.Parse = of_class class "parseBoolean" "(Ljava/lang/String;)Z"
boolean_method class boolean.BooleanValue = of_class class "booleanValue" "()Z"
boolean_method class boolean.Equals = of_class class "equals" "(Ljava/lang/Object;)Z"
boolean_method class boolean.HashCode = of_class class "hashCode" "()I"
boolean_method class boolean.ToText = of_class class "toString" "()Ljava/lang/String;"

abbrev pub math_method : List ℕ → MathMethod → Reference
math_method class math.AbsInt = of_class class "abs" "(I)I"
math_method class math.MaxInt = of_class class "max" "(II)I"
math_method class math.MinInt = of_class class "min" "(II)I"
math_method class math.AbsLong = of_class class "abs" "(J)J"
math_method class math.MaxLong = of_class class "max" "(JJ)J"
math_method class math.MinLong = of_class class "min" "(JJ)J"

abbrev pub enum_method : List ℕ → EnumMethod → Reference
enum_method class enum.Init = of_class class "<init>" "(Ljava/lang/String;I)V"
enum_method class enum.Name = of_class class "name" "()Ljava/lang/String;"
enum_method class enum.Ordinal = of_class class "ordinal" "()I"
enum_method class enum.TextOf = of_class class "toString" "()Ljava/lang/String;"
enum_method class enum.Equals = of_class class "equals" "(Ljava/lang/Object;)Z"
enum_method class enum.HashCode = of_class class "hashCode" "()I"
enum_method class enum.CompareTo = of_class class "compareTo" "(Ljava/lang/Enum;)I"
enum_method class enum.CompareToObject = of_class class "compareTo" "(Ljava/lang/Object;)I"

abbrev pub throwable_method : List ℕ → ThrowableMethod → Reference
throwable_method class throwable.Init = of_class class "<init>" "()V"
throwable_method class throwable.InitMessage = of_class class "<init>" "(Ljava/lang/String;)V"
throwable_method class throwable.InitMessageCause = of_class class "<init>" "(Ljava/lang/String;Ljava/lang/Throwable;)V"
throwable_method class throwable.InitCause = of_class class "<init>" "(Ljava/lang/Throwable;)V"
throwable_method class throwable.InitDetail = of_class class "<init>" "(Ljava/lang/Object;)V"
throwable_method class throwable.GetMessage = of_class class "getMessage" "()Ljava/lang/String;"
throwable_method class throwable.GetCause = of_class class "getCause" "()Ljava/lang/Throwable;"

abbrev pub method_of_class : List ℕ → Method → Reference
method_of_class class (method.Object m) = object_method class m
method_of_class class (method.Class m) = class_method class m
method_of_class class (method.Text m) = string_method class m
method_of_class class (method.Builder m) = builder_method class m
method_of_class class (method.Input m) = input_method class m
method_of_class class (method.Output m) = print_method class m
method_of_class class (method.System m) = system_method class m
method_of_class class (method.Integer m) = integer_method class m
method_of_class class (method.Long m) = long_method class m
method_of_class class (method.Character m) = character_method class m
method_of_class class (method.Boolean m) = boolean_method class m
method_of_class class (method.Math m) = math_method class m
method_of_class class (method.Enum m) = enum_method class m
method_of_class class (method.Throwable m) = throwable_method class m

-- the method that a row is of
abbrev pub reference_of : Row → Reference
reference_of row = method_of_class (class_of_receiver row.receiver row.method) row.method
