-- What the names stand for.
use Rattle.std.specs.Prelude.{ℕ, List, ◌++◌, codes}
use Rattle.std.specs.Fmt.{decimal}
use Rattle.program_gen.specs.declared.rows.ClassName.{ClassName}
use Rattle.program_gen.specs.declared.rows.ClassName.TheVariants.{Object, System, PrintStream, Main, Numbered}
use Rattle.program_gen.specs.declared.rows.MemberName.{MemberName}
use Rattle.program_gen.specs.declared.rows.MemberName.TheVariants.{Initializer, Entry, Run, Out, Println}

abbrev pub class_text : ClassName → List ℕ
class_text Object = codes "java/lang/Object"
class_text System = codes "java/lang/System"
class_text PrintStream = codes "java/io/PrintStream"
class_text Main = codes "GenMain"
class_text (Numbered number) = codes "Gen" ++ decimal number

abbrev pub member_text : MemberName → List ℕ
member_text Initializer = codes "<init>"
member_text Entry = codes "main"
member_text Run = codes "run"
member_text Out = codes "out"
member_text Println = codes "println"

abbrev pub member_descriptor : MemberName → List ℕ
member_descriptor Initializer = codes "()V"
member_descriptor Entry = codes "([Ljava/lang/String;)V"
member_descriptor Run = codes "(II)I"
member_descriptor Out = codes "Ljava/io/PrintStream;"
member_descriptor Println = codes "(I)V"
