-- The refusals of the program: their statuses, and the line that is put to the report.
use Rattle.std.specs.Prelude.{◌≡◌, ℕ, Bool, true, false, List, [], ◌++◌, Option, Some, None, codes, unwrap_or, if◌then◌else◌}
use Rattle.std.specs.String.{string_bytes}
use Rattle.std.specs.Fmt.{decimal}
use Rattle.class_reader.specs.declared.error.ReadError.{ReadError}
use Rattle.class_reader.specs.declared.error.ReadError.TheVariants as fault
use Rattle.code_admission.specs.declared.error.AdmitError.{AdmitError}
use Rattle.code_admission.specs.declared.error.AdmitError.TheVariants as admit
use Rattle.code_admission.specs.declared.error.CodeCause.{CodeCause}
use Rattle.code_admission.specs.declared.error.CodeCause.TheVariants as code
use Rattle.code_admission.specs.declared.error.FloatingPointUse.{FloatingPointUse}
use Rattle.code_admission.specs.declared.error.FloatingPointUse.TheVariants as place
use Rattle.code_admission.specs.declared.error.ShapeCause.{ShapeCause}
use Rattle.code_admission.specs.declared.error.ShapeCause.TheVariants as shape
use Rattle.inject_events.specs.declared.error.Cause.{Cause}
use Rattle.inject_events.specs.declared.error.Cause.TheVariants as limit
use Rattle.plan_text.specs.declared.plan.LineCause.{LineCause}
use Rattle.plan_text.specs.declared.plan.LineCause.TheVariants as line
use Rattle.plan_text.specs.declared.plan.PlanError.{PlanError}
use Rattle.plan_text.specs.declared.plan.PlanError.TheVariants as plan
use Rattle.jfluid_cli.specs.Contents.{word_at}
use Rattle.jfluid_cli.specs.declared.refusal.Refusal.{Refusal}
use Rattle.jfluid_cli.specs.declared.refusal.Refusal.TheVariants.{Clap, Words, Plan, NotRead, NotAdmitted, InputFailed, OutFailed, PlanNotFetched, NotFetched, NoMemory, InputTooLong}

abbrev pub status_of : Refusal → ℕ
status_of (Clap text) = 2
status_of Words = 2
status_of (Plan why) = 2
status_of (NotRead at why) = 3
status_of (NotAdmitted why) = 3
status_of InputFailed = 5
status_of OutFailed = 6
status_of PlanNotFetched = 7
status_of (NotFetched at) = 7
status_of NoMemory = 9
status_of InputTooLong = 11

-- why there is no plan; want of memory is no fault of it
abbrev pub refusal_of : PlanError → Refusal
refusal_of plan.TooLong = Plan plan.TooLong
refusal_of (plan.BadLine number cause) = Plan (plan.BadLine number cause)
refusal_of (plan.Backwards number) = Plan (plan.Backwards number)
refusal_of (plan.AlreadySelected number) = Plan (plan.AlreadySelected number)
refusal_of (plan.NotSelected number) = Plan (plan.NotSelected number)
refusal_of (plan.TooMany number) = Plan (plan.TooMany number)
refusal_of plan.NoMemory = NoMemory

-- why classes with this fault are no program; want of memory is no fault of them
abbrev pub is_memory : AdmitError → Bool
is_memory admit.NoMemory = true
is_memory (admit.ReservedName class) = false
is_memory (admit.Duplicate class) = false
is_memory (admit.BadShape class why) = false
is_memory (admit.BadCode class method at why) = false
is_memory (admit.FloatingPoint class at) = false
is_memory (admit.NotProfilable class method why) = false
is_memory (admit.TooManyMethods count) = false
is_memory admit.NoMain = false
is_memory (admit.NoSuchRoot action) = false

abbrev pub refusal_for : AdmitError → Refusal
refusal_for why = if is_memory why then NoMemory else NotAdmitted why

-- what is told of a fault: its name and its number
abbrev pub cause_of : ReadError → List ℕ
cause_of fault.TooLong = codes "TooLong"
cause_of (fault.Truncated at) = codes "Truncated " ++ decimal at
cause_of fault.BadMagic = codes "BadMagic"
cause_of (fault.BadVersion major) = codes "BadVersion " ++ decimal major
cause_of (fault.BadTag at) = codes "BadTag " ++ decimal at
cause_of (fault.BadUtf8 at) = codes "BadUtf8 " ++ decimal at
cause_of (fault.BadIndex entry) = codes "BadIndex " ++ decimal entry
cause_of (fault.BadRef at) = codes "BadRef " ++ decimal at
cause_of (fault.BadLength at) = codes "BadLength " ++ decimal at
cause_of (fault.Trailing at) = codes "Trailing " ++ decimal at
cause_of fault.NoMemory = codes "NoMemory"

-- what is told of a plan: the name of the fault, and its line
abbrev pub line_word : LineCause → List ℕ
line_word line.Utf8 = codes "Utf8"
line_word line.Unknown = codes "Unknown"
line_word line.Number = codes "Number"
line_word line.Name = codes "Name"
line_word line.Root = codes "Root"
line_word line.Twice = codes "Twice"

abbrev pub plan_cause : PlanError → List ℕ
plan_cause plan.TooLong = codes "TooLong"
plan_cause (plan.BadLine number why) =
    codes "BadLine " ++ (decimal number ++ (codes " " ++ line_word why))
plan_cause (plan.Backwards number) = codes "Backwards " ++ decimal number
plan_cause (plan.AlreadySelected number) = codes "AlreadySelected " ++ decimal number
plan_cause (plan.NotSelected number) = codes "NotSelected " ++ decimal number
plan_cause (plan.TooMany number) = codes "TooMany " ++ decimal number
plan_cause plan.NoMemory = codes "NoMemory"

-- what is told of what is not admitted: the name of the fault, and its numbers behind the class's
abbrev pub shape_word : ShapeCause → List ℕ
shape_word shape.Name = codes "Name"
shape_word shape.Super = codes "Super"
shape_word shape.Descriptor = codes "Descriptor"
shape_word shape.Twice = codes "Twice"
shape_word shape.Code = codes "Code"
shape_word shape.Constant = codes "Constant"

abbrev pub code_word : CodeCause → List ℕ
code_word code.Opcode = codes "Opcode"
code_word code.Cut = codes "Cut"
code_word code.Switch = codes "Switch"
code_word code.Pool = codes "Pool"
code_word code.Local = codes "Local"
code_word code.Target = codes "Target"
code_word code.Return = codes "Return"
code_word code.Operand = codes "Operand"
code_word code.Falls = codes "Falls"
code_word code.Handler = codes "Handler"
code_word code.Table = codes "Table"

abbrev pub limit_word : Cause → List ℕ
limit_word limit.Pool = codes "Pool"
limit_word limit.Stack = codes "Stack"
limit_word limit.Handlers = codes "Handlers"
limit_word limit.Frames = codes "Frames"
limit_word limit.Length = codes "Length"
limit_word limit.Branch = codes "Branch"

abbrev pub place_text : FloatingPointUse → List ℕ
place_text (place.Field n) = codes "Field " ++ decimal n
place_text (place.Method n) = codes "Method " ++ decimal n
place_text (place.Code n at) = codes "Code " ++ (decimal n ++ (codes " " ++ decimal at))
place_text (place.Frame n at) = codes "Frame " ++ (decimal n ++ (codes " " ++ decimal at))

abbrev pub admission_cause : AdmitError → List ℕ
admission_cause (admit.ReservedName class) = codes "ReservedName"
admission_cause (admit.Duplicate class) = codes "Duplicate"
admission_cause (admit.BadShape class why) = codes "BadShape " ++ shape_word why
admission_cause (admit.BadCode class method at why) =
    codes "BadCode " ++ (decimal method ++ (codes " " ++ (decimal at ++ (codes " " ++ code_word why))))
admission_cause (admit.FloatingPoint class at) = codes "FloatingPoint " ++ place_text at
admission_cause (admit.NotProfilable class method why) =
    codes "NotProfilable " ++ (decimal method ++ (codes " " ++ limit_word why))
admission_cause (admit.TooManyMethods count) = codes "TooManyMethods " ++ decimal count
admission_cause admit.NoMain = codes "NoMain"
admission_cause (admit.NoSuchRoot action) = codes "NoSuchRoot " ++ decimal action
admission_cause admit.NoMemory = codes "NoMemory"

-- what is told of a file, which is called by its word
abbrev pub told_of_file : List ℕ → List ℕ → List ℕ
told_of_file file cause = codes "jfluid: " ++ (file ++ (codes ": " ++ (cause ++ codes "\n")))

-- the position of the class that has the fault; what is looked at behind the last class is none of
-- a class
abbrev pub class_in : AdmitError → Option ℕ
class_in (admit.ReservedName class) = Some class
class_in (admit.Duplicate class) = Some class
class_in (admit.BadShape class why) = Some class
class_in (admit.BadCode class method at why) = Some class
class_in (admit.FloatingPoint class at) = Some class
class_in (admit.NotProfilable class method why) = Some class
class_in (admit.TooManyMethods count) = None
class_in admit.NoMain = None
class_in (admit.NoSuchRoot action) = None
class_in admit.NoMemory = None

-- a fault of a class is told of its file
abbrev pub told_of : List (List ℕ) → Option ℕ → List ℕ → List ℕ
told_of files (Some at) cause = told_of_file (word_at files at) cause
told_of files None cause = codes "jfluid: " ++ (cause ++ codes "\n")

-- a fetch failed, of what is called by its word
abbrev pub told_of_fetch : List ℕ → List ℕ
told_of_fetch word = codes "jfluid: " ++ (word ++ codes ": fetch failed\n")

-- the line, with its end; a plan's file and a class file are called by their words
abbrev pub refusal_line : Refusal → Option (List ℕ) → List (List ℕ) → List ℕ
refusal_line (Clap text) named files = string_bytes text
refusal_line Words named files = codes "jfluid: words refused\n"
refusal_line (Plan why) named files = codes "jfluid: plan: " ++ (plan_cause why ++ codes "\n")
refusal_line (NotRead at why) named files = told_of_file (word_at files at) (cause_of why)
refusal_line (NotAdmitted why) named files = told_of files (class_in why) (admission_cause why)
refusal_line InputFailed named files = codes "jfluid: input failed\n"
refusal_line OutFailed named files = codes "jfluid: output failed\n"
refusal_line PlanNotFetched named files = told_of_fetch (unwrap_or named [])
refusal_line (NotFetched at) named files = told_of_fetch (word_at files at)
refusal_line NoMemory named files = codes "jfluid: no memory\n"
refusal_line InputTooLong named files = codes "jfluid: input too long\n"

-- the line calls nothing by its word
abbrev pub IsNameless : Refusal → Type 0
IsNameless r =
    (a b : Option (List ℕ)) (xs ys : List (List ℕ)) → refusal_line r a xs ≡ refusal_line r b ys
