-- The native methods by number: what each does, and what it takes. The order is that of the classes and of each class's
-- methods.
use Rattle.std.specs.Prelude.{ℕ, zero, suc, ◌+◌, List, [], ◌∷◌, ◌++◌}
use Rattle.native_ops.specs.declared.methods.rows.Row.{Row}
use Rattle.native_ops.specs.declared.methods.method.Method.{Method}
use Rattle.native_ops.specs.declared.methods.method.Method.TheVariants as method
use Rattle.native_effects.specs.declared.inputs.printable.Printable.TheVariants as printable
use Rattle.native_ops.specs.declared.methods.method.ObjectMethod.TheVariants as object
use Rattle.native_ops.specs.declared.methods.method.ClassMethod.TheVariants as class
use Rattle.native_ops.specs.declared.methods.method.StringMethod.TheVariants as string
use Rattle.native_ops.specs.declared.methods.method.BuilderMethod.TheVariants as builder
use Rattle.native_ops.specs.declared.methods.method.InputMethod.TheVariants as input
use Rattle.native_ops.specs.declared.methods.method.PrintMethod.TheVariants as output
use Rattle.native_ops.specs.declared.methods.method.SystemMethod.TheVariants as system
use Rattle.native_ops.specs.declared.methods.method.IntegerMethod.TheVariants as integer
use Rattle.native_ops.specs.declared.methods.method.LongMethod.TheVariants as long
use Rattle.native_ops.specs.declared.methods.method.CharacterMethod.TheVariants as character
use Rattle.native_ops.specs.declared.methods.method.BooleanMethod.TheVariants as boolean
use Rattle.native_ops.specs.declared.methods.method.MathMethod.TheVariants as math
use Rattle.native_ops.specs.declared.methods.method.EnumMethod.TheVariants as enum
use Rattle.native_ops.specs.declared.methods.method.ThrowableMethod.TheVariants as throwable
use Rattle.native_ops.specs.declared.methods.signature.Receiver.{Receiver}
use Rattle.native_ops.specs.declared.methods.signature.Receiver.TheVariants as receiver
use Rattle.native_ops.specs.declared.methods.signature.Parameters.{Parameters}
use Rattle.native_ops.specs.declared.methods.signature.Parameters.TheVariants.{Nothing, OneInt, OneLong, TwoInts, TwoLongs, OneObject, OneString, OneArray, ArrayAndRange, TwoArrays, StringAndInt, OneConstant, StringAndThrowable, OneThrowable}

abbrev pub takes : Receiver → Method → Parameters → Row
takes receiver method parameters = record { method = method; receiver = receiver; parameters = parameters }

-- the four constructors of java/lang/Throwable, for the class of this kind
abbrev pub constructors : ℕ → List Row
constructors kind =
    takes (receiver.Extending kind) (method.Throwable throwable.Init) Nothing ∷
    takes (receiver.Extending kind) (method.Throwable throwable.InitMessage) OneString ∷
    takes (receiver.Extending kind) (method.Throwable throwable.InitMessageCause) StringAndThrowable ∷
    takes (receiver.Extending kind) (method.Throwable throwable.InitCause) OneThrowable ∷ []

-- those of so many classes, from the one of this kind on
abbrev pub constructors_of : ℕ → ℕ → List Row
constructors_of kind zero = []
constructors_of kind (suc n) = constructors kind ++ constructors_of (kind + 1) n

unfoldable pub rows : List Row
rows =
    takes receiver.Any (method.Object object.Init) Nothing ∷
    takes receiver.Any (method.Object object.Equals) OneObject ∷
    takes receiver.Any (method.Object object.HashCode) Nothing ∷
    takes receiver.Any (method.Object object.ToText) Nothing ∷
    takes receiver.Any (method.Object object.GetClass) Nothing ∷
    takes receiver.Any (method.Object object.Clone) Nothing ∷
    takes (receiver.Exactly 22) (method.Class class.GetName) Nothing ∷
    takes (receiver.Exactly 22) (method.Class class.DesiredAssertionStatus) Nothing ∷
    takes (receiver.Exactly 23) (method.Text string.Init) Nothing ∷
    takes (receiver.Exactly 23) (method.Text string.InitText) OneString ∷
    takes (receiver.Exactly 23) (method.Text string.InitChars) OneArray ∷
    takes (receiver.Exactly 23) (method.Text string.InitPart) ArrayAndRange ∷
    takes (receiver.Exactly 23) (method.Text string.Length) Nothing ∷
    takes (receiver.Exactly 23) (method.Text string.CharAt) OneInt ∷
    takes (receiver.Exactly 23) (method.Text string.IsEmpty) Nothing ∷
    takes (receiver.Exactly 23) (method.Text string.Equals) OneObject ∷
    takes (receiver.Exactly 23) (method.Text string.HashCode) Nothing ∷
    takes (receiver.Exactly 23) (method.Text string.Same) Nothing ∷
    takes (receiver.Exactly 23) (method.Text string.CompareTo) OneString ∷
    takes (receiver.Exactly 23) (method.Text string.CompareToObject) OneObject ∷
    takes (receiver.Exactly 23) (method.Text string.Concat) OneString ∷
    takes (receiver.Exactly 23) (method.Text string.SubstringFrom) OneInt ∷
    takes (receiver.Exactly 23) (method.Text string.Substring) TwoInts ∷
    takes (receiver.Exactly 23) (method.Text string.IndexOf) OneInt ∷
    takes (receiver.Exactly 23) (method.Text string.StartsWith) OneString ∷
    takes (receiver.Exactly 23) (method.Text string.Intern) Nothing ∷
    takes (receiver.Exactly 23) (method.Text string.ToCharArray) Nothing ∷
    takes receiver.Absent (method.Text (string.ValueOf printable.Int)) OneInt ∷
    takes receiver.Absent (method.Text (string.ValueOf printable.Long)) OneLong ∷
    takes receiver.Absent (method.Text (string.ValueOf printable.Char)) OneInt ∷
    takes receiver.Absent (method.Text (string.ValueOf printable.Boolean)) OneInt ∷
    takes receiver.Absent (method.Text (string.ValueOf printable.Chars)) OneArray ∷
    takes (receiver.Exactly 24) (method.Builder builder.Init) Nothing ∷
    takes (receiver.Exactly 24) (method.Builder builder.InitCapacity) OneInt ∷
    takes (receiver.Exactly 24) (method.Builder builder.InitText) OneString ∷
    takes (receiver.Exactly 24) (method.Builder (builder.Append printable.Text)) OneString ∷
    takes (receiver.Exactly 24) (method.Builder (builder.Append printable.Int)) OneInt ∷
    takes (receiver.Exactly 24) (method.Builder (builder.Append printable.Long)) OneLong ∷
    takes (receiver.Exactly 24) (method.Builder (builder.Append printable.Char)) OneInt ∷
    takes (receiver.Exactly 24) (method.Builder (builder.Append printable.Boolean)) OneInt ∷
    takes (receiver.Exactly 24) (method.Builder (builder.Append printable.Chars)) OneArray ∷
    takes (receiver.Exactly 24) (method.Builder builder.Length) Nothing ∷
    takes (receiver.Exactly 24) (method.Builder builder.CharAt) OneInt ∷
    takes (receiver.Exactly 24) (method.Builder builder.SetCharAt) TwoInts ∷
    takes (receiver.Exactly 24) (method.Builder builder.SetLength) OneInt ∷
    takes (receiver.Exactly 24) (method.Builder builder.DeleteCharAt) OneInt ∷
    takes (receiver.Exactly 24) (method.Builder builder.ToText) Nothing ∷
    takes (receiver.Exactly 25) (method.Builder builder.Init) Nothing ∷
    takes (receiver.Exactly 25) (method.Builder builder.InitCapacity) OneInt ∷
    takes (receiver.Exactly 25) (method.Builder builder.InitText) OneString ∷
    takes (receiver.Exactly 25) (method.Builder (builder.Append printable.Text)) OneString ∷
    takes (receiver.Exactly 25) (method.Builder (builder.Append printable.Int)) OneInt ∷
    takes (receiver.Exactly 25) (method.Builder (builder.Append printable.Long)) OneLong ∷
    takes (receiver.Exactly 25) (method.Builder (builder.Append printable.Char)) OneInt ∷
    takes (receiver.Exactly 25) (method.Builder (builder.Append printable.Boolean)) OneInt ∷
    takes (receiver.Exactly 25) (method.Builder (builder.Append printable.Chars)) OneArray ∷
    takes (receiver.Exactly 25) (method.Builder builder.Length) Nothing ∷
    takes (receiver.Exactly 25) (method.Builder builder.CharAt) OneInt ∷
    takes (receiver.Exactly 25) (method.Builder builder.SetCharAt) TwoInts ∷
    takes (receiver.Exactly 25) (method.Builder builder.SetLength) OneInt ∷
    takes (receiver.Exactly 25) (method.Builder builder.DeleteCharAt) OneInt ∷
    takes (receiver.Exactly 25) (method.Builder builder.ToText) Nothing ∷
    takes (receiver.Extending 26) (method.Input input.Read) Nothing ∷
    takes (receiver.Extending 26) (method.Input input.Close) Nothing ∷
    takes (receiver.Extending 27) (method.Output (output.Print printable.Boolean)) OneInt ∷
    takes (receiver.Extending 27) (method.Output (output.Print printable.Char)) OneInt ∷
    takes (receiver.Extending 27) (method.Output (output.Print printable.Int)) OneInt ∷
    takes (receiver.Extending 27) (method.Output (output.Print printable.Long)) OneLong ∷
    takes (receiver.Extending 27) (method.Output (output.Print printable.Text)) OneString ∷
    takes (receiver.Extending 27) (method.Output (output.Print printable.Chars)) OneArray ∷
    takes (receiver.Extending 27) (method.Output (output.Println printable.Boolean)) OneInt ∷
    takes (receiver.Extending 27) (method.Output (output.Println printable.Char)) OneInt ∷
    takes (receiver.Extending 27) (method.Output (output.Println printable.Int)) OneInt ∷
    takes (receiver.Extending 27) (method.Output (output.Println printable.Long)) OneLong ∷
    takes (receiver.Extending 27) (method.Output (output.Println printable.Text)) OneString ∷
    takes (receiver.Extending 27) (method.Output (output.Println printable.Chars)) OneArray ∷
    takes (receiver.Extending 27) (method.Output output.EndLine) Nothing ∷
    takes (receiver.Extending 27) (method.Output output.Flush) Nothing ∷
    takes receiver.Absent (method.System system.Exit) OneInt ∷
    takes receiver.Absent (method.System system.Arraycopy) TwoArrays ∷
    takes receiver.Absent (method.System system.IdentityHashCode) OneObject ∷
    takes (receiver.Extending 29) (method.Object object.Init) Nothing ∷
    takes receiver.Absent (method.Integer integer.ValueOf) OneInt ∷
    takes receiver.Absent (method.Integer integer.Parse) OneString ∷
    takes receiver.Absent (method.Integer integer.TextOf) OneInt ∷
    takes receiver.Absent (method.Integer integer.HexOf) OneInt ∷
    takes (receiver.Extending 30) (method.Integer integer.IntValue) Nothing ∷
    takes (receiver.Extending 30) (method.Integer integer.LongValue) Nothing ∷
    takes (receiver.Extending 30) (method.Integer integer.Equals) OneObject ∷
    takes (receiver.Extending 30) (method.Integer integer.HashCode) Nothing ∷
    takes (receiver.Extending 30) (method.Integer integer.ToText) Nothing ∷
    takes (receiver.Extending 30) (method.Integer integer.CompareTo) OneObject ∷
    takes receiver.Absent (method.Long long.ValueOf) OneLong ∷
    takes receiver.Absent (method.Long long.Parse) OneString ∷
    takes receiver.Absent (method.Long long.TextOf) OneLong ∷
    takes (receiver.Extending 31) (method.Long long.IntValue) Nothing ∷
    takes (receiver.Extending 31) (method.Long long.LongValue) Nothing ∷
    takes (receiver.Extending 31) (method.Long long.Equals) OneObject ∷
    takes (receiver.Extending 31) (method.Long long.HashCode) Nothing ∷
    takes (receiver.Extending 31) (method.Long long.ToText) Nothing ∷
    takes (receiver.Extending 31) (method.Long long.CompareTo) OneObject ∷
    takes receiver.Absent (method.Character character.ValueOf) OneInt ∷
    takes receiver.Absent (method.Character character.TextOf) OneInt ∷
    takes receiver.Absent (method.Character character.IsDigit) OneInt ∷
    takes receiver.Absent (method.Character character.IsLetter) OneInt ∷
    takes receiver.Absent (method.Character character.IsWhitespace) OneInt ∷
    takes (receiver.Extending 32) (method.Character character.CharValue) Nothing ∷
    takes (receiver.Extending 32) (method.Character character.Equals) OneObject ∷
    takes (receiver.Extending 32) (method.Character character.HashCode) Nothing ∷
    takes (receiver.Extending 32) (method.Character character.ToText) Nothing ∷
    takes receiver.Absent (method.Boolean boolean.ValueOf) OneInt ∷
    takes receiver.Absent (method.Boolean boolean.Parse) OneString ∷
    takes (receiver.Extending 33) (method.Boolean boolean.BooleanValue) Nothing ∷
    takes (receiver.Extending 33) (method.Boolean boolean.Equals) OneObject ∷
    takes (receiver.Extending 33) (method.Boolean boolean.HashCode) Nothing ∷
    takes (receiver.Extending 33) (method.Boolean boolean.ToText) Nothing ∷
    takes receiver.Absent (method.Math math.AbsInt) OneInt ∷
    takes receiver.Absent (method.Math math.MaxInt) TwoInts ∷
    takes receiver.Absent (method.Math math.MinInt) TwoInts ∷
    takes receiver.Absent (method.Math math.AbsLong) OneLong ∷
    takes receiver.Absent (method.Math math.MaxLong) TwoLongs ∷
    takes receiver.Absent (method.Math math.MinLong) TwoLongs ∷
    takes (receiver.Extending 35) (method.Enum enum.Init) StringAndInt ∷
    takes (receiver.Extending 35) (method.Enum enum.Name) Nothing ∷
    takes (receiver.Extending 35) (method.Enum enum.Ordinal) Nothing ∷
    takes (receiver.Extending 35) (method.Enum enum.TextOf) Nothing ∷
    takes (receiver.Extending 35) (method.Enum enum.Equals) OneObject ∷
    takes (receiver.Extending 35) (method.Enum enum.HashCode) Nothing ∷
    takes (receiver.Extending 35) (method.Enum enum.CompareTo) OneConstant ∷
    takes (receiver.Extending 35) (method.Enum enum.CompareToObject) OneObject ∷
    (constructors 36 ++
    (takes (receiver.Extending 36) (method.Throwable throwable.GetMessage) Nothing ∷
    takes (receiver.Extending 36) (method.Throwable throwable.GetCause) Nothing ∷
    (constructors_of 37 19 ++
    (takes (receiver.Extending 55) (method.Throwable throwable.InitDetail) OneObject ∷
    constructors_of 56 13))))
