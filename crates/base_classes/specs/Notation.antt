-- How the table of the built-in classes is written: flags by words, names as text.
use Rattle.std.specs.Prelude.{ℕ, List, [], ◌∷◌, map, Option, Some, None, codes}
use Rattle.const_pool.specs.References.{Reference}
use Rattle.base_classes.specs.Declarations.{NamedInstruction, CodeDeclaration, MemberDeclaration, ClassDeclaration}
use Rattle.base_classes.specs.Declarations.NamedInstruction.{plain, jump, load_text, on_member}
use Prim.Native.String.{String}

-- ---- instructions (6.5)

abbrev pub aload_0 : NamedInstruction
aload_0 = plain 42

abbrev pub aload_1 : NamedInstruction
aload_1 = plain 43

abbrev pub aload_2 : NamedInstruction
aload_2 = plain 44

abbrev pub astore_1 : NamedInstruction
astore_1 = plain 76

abbrev pub astore_2 : NamedInstruction
astore_2 = plain 77

abbrev pub areturn : NamedInstruction
areturn = plain 176

abbrev pub return : NamedInstruction
return = plain 177

abbrev pub ifnonnull : ℕ → NamedInstruction
ifnonnull target = jump 199 target

abbrev pub ldc : String → NamedInstruction
ldc text = load_text (codes text)

abbrev pub reference : String → String → String → Reference
reference class name descriptor = record { class = codes class; member = record { name = codes name; descriptor = codes descriptor } }

abbrev pub getstatic : String → String → String → NamedInstruction
getstatic class name descriptor = on_member 178 (reference class name descriptor)

abbrev pub invokevirtual : String → String → String → NamedInstruction
invokevirtual class name descriptor = on_member 182 (reference class name descriptor)

abbrev pub invokestatic : String → String → String → NamedInstruction
invokestatic class name descriptor = on_member 184 (reference class name descriptor)

-- ---- members, by their access flags (4.5, 4.6)

abbrev pub member : ℕ → String → String → Option CodeDeclaration → MemberDeclaration
member access name descriptor code = record { access = access; name = codes name; descriptor = codes descriptor; code = code }

abbrev pub private_field : String → String → MemberDeclaration
private_field name descriptor = member 0x0002 name descriptor None

abbrev pub static_field : String → String → MemberDeclaration
static_field name descriptor = member 0x0009 name descriptor None

-- methods are public, but for those that say protected
abbrev pub native : String → String → MemberDeclaration
native name descriptor = member 0x0101 name descriptor None

abbrev pub static_native : String → String → MemberDeclaration
static_native name descriptor = member 0x0109 name descriptor None

abbrev pub protected_native : String → String → MemberDeclaration
protected_native name descriptor = member 0x0104 name descriptor None

abbrev pub abstract_method : String → String → MemberDeclaration
abstract_method name descriptor = member 0x0401 name descriptor None

abbrev pub code : ℕ → ℕ → List NamedInstruction → CodeDeclaration
code max_stack max_locals instructions = record { max_stack = max_stack; max_locals = max_locals; instructions = instructions }

abbrev pub method : String → String → CodeDeclaration → MemberDeclaration
method name descriptor body = member 0x0001 name descriptor (Some body)

abbrev pub static_method : String → String → CodeDeclaration → MemberDeclaration
static_method name descriptor body = member 0x0009 name descriptor (Some body)

-- ---- classes, by their access flags (4.1): all are public

abbrev pub declaration : ℕ → String → Option (List ℕ) → List String → List MemberDeclaration → List MemberDeclaration → ClassDeclaration
declaration access name superclass interfaces fields methods =
    record { access = access; name = codes name; superclass = superclass; interfaces = map codes interfaces; fields = fields; methods = methods }

abbrev pub class : String → String → List String → List MemberDeclaration → List MemberDeclaration → ClassDeclaration
class name superclass = declaration 0x0021 name (Some (codes superclass))

abbrev pub final_class : String → String → List String → List MemberDeclaration → List MemberDeclaration → ClassDeclaration
final_class name superclass = declaration 0x0031 name (Some (codes superclass))

abbrev pub abstract_class : String → String → List String → List MemberDeclaration → List MemberDeclaration → ClassDeclaration
abstract_class name superclass = declaration 0x0421 name (Some (codes superclass))

-- an interface has no fields here
abbrev pub interface : String → List MemberDeclaration → ClassDeclaration
interface name methods = declaration 0x0601 name (Some (codes "java/lang/Object")) [] [] methods

-- the four constructors of java/lang/Throwable
abbrev pub constructors : List MemberDeclaration
constructors =
    native "<init>" "()V" ∷
    native "<init>" "(Ljava/lang/String;)V" ∷
    native "<init>" "(Ljava/lang/String;Ljava/lang/Throwable;)V" ∷
    native "<init>" "(Ljava/lang/Throwable;)V" ∷ []

-- a class of java/lang/Throwable's with these constructors and nothing else
abbrev pub throwable : String → String → ClassDeclaration
throwable name superclass = class name superclass [] [] constructors
