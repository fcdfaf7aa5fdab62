-- What a class file declares: each index followed to its text. An index that names no text gives an empty one, which no
-- class and no member has for a name.
use Rattle.std.specs.Prelude.{ℕ, zero, suc, ◌+◌, List, [], ◌∷◌, map, Option, Some, None, slice_get, unwrap_or, ◌==◌, if◌then◌else◌}
use Rattle.std.specs.Option.{option_and_then, option_map}
use Rattle.std.specs.Int.{w16, from_be_bytes}
use Rattle.std.specs.List.{list_any}
use Rattle.const_pool.specs.declared.pool.Const.{Const}
use Rattle.const_pool.specs.declared.pool.Const.TheVariants.{Text}
use Rattle.const_pool.specs.declared.class.ClassFile.{ClassFile}
use Rattle.const_pool.specs.declared.class.Member.{Member}
use Rattle.const_pool.specs.declared.class.CodeAttribute.{CodeAttribute}
use Rattle.const_pool.specs.declared.class.Attribute.{Attribute}
use Rattle.const_pool.specs.declared.class.Attribute.TheVariants.{Code}
use Rattle.const_pool.specs.Pool.{entry_at}
use Rattle.const_pool.specs.References.{named_text, named_class, named_field, named_method}
use Rattle.base_classes.specs.Declarations.{NamedInstruction, CodeDeclaration, MemberDeclaration, ClassDeclaration}
use Rattle.base_classes.specs.Declarations.NamedInstruction.{plain, jump, load_text, on_member}

-- the text of a Utf8 entry, and the name of a class entry
abbrev pub text_at : List Const → ℕ → List ℕ
text_at pool i = unwrap_or (named_text pool i) []

abbrev pub class_at : List Const → ℕ → List ℕ
class_at pool i = unwrap_or (named_class pool i) []

-- ---- code (4.7.3): instructions one after the other, as far as the twelve opcodes that the built-in classes have

-- the text of a string entry (4.4.3)
abbrev pub string_entry : List Const → Const → Option (List ℕ)
string_entry pool (Text i) = named_text pool i
string_entry pool _ = None

abbrev pub string_at : List Const → ℕ → Option (List ℕ)
string_at pool i = option_and_then (string_entry pool) (entry_at pool i)

-- a number of two bytes at the front
abbrev pub front_short : List ℕ → Option ℕ
front_short (high ∷ low ∷ rest) = Some (from_be_bytes w16 (high ∷ low ∷ []))
front_short (high ∷ []) = None
front_short [] = None

-- ldc; ifnonnull; getstatic; invokevirtual and invokestatic; the others have no operand
abbrev pub operand_bytes : ℕ → ℕ
operand_bytes op =
    if op == 18 then 1
    else if list_any (λ n. n == op) (178 ∷ 182 ∷ 184 ∷ 199 ∷ []) then 2
    else 0

-- the instruction with this opcode at this offset, and with these bytes behind the opcode; a jump here goes forward
abbrev pub instruction_with : List Const → ℕ → ℕ → List ℕ → Option NamedInstruction
instruction_with pool at op operands =
    if op == 18 then option_map load_text (option_and_then (string_at pool) (slice_get operands 0))
    else if op == 178 then option_map (on_member op) (option_and_then (named_field pool) (front_short operands))
    else if list_any (λ n. n == op) (182 ∷ 184 ∷ []) then option_map (on_member op) (option_and_then (named_method pool) (front_short operands))
    else if op == 199 then option_map (λ offset. jump op (at + offset)) (front_short operands)
    else Some (plain op)

abbrev pub before : Option NamedInstruction → Option (List NamedInstruction) → Option (List NamedInstruction)
before (Some i) (Some rest) = Some (i ∷ rest)
before (Some i) None = None
before None rest = None

-- the instructions of the bytes from this offset on, behind so many bytes of operands
abbrev pub instructions_from : List Const → ℕ → ℕ → List ℕ → Option (List NamedInstruction)
instructions_from pool at zero [] = Some []
instructions_from pool at (suc skip) [] = None
instructions_from pool at zero (op ∷ bytes) = before (instruction_with pool at op bytes) (instructions_from pool (at + 1) (operand_bytes op) bytes)
instructions_from pool at (suc skip) (byte ∷ bytes) = instructions_from pool (at + 1) skip bytes

abbrev pub code_declaration : List Const → CodeAttribute → CodeDeclaration
code_declaration pool c = record {
  max_stack = c.max_stack;
  max_locals = c.max_locals;
  instructions = unwrap_or (instructions_from pool 0 0 c.code) [];
}

-- ---- members and classes

-- the first Code attribute
abbrev pub code_among : List Const → List Attribute → Option CodeDeclaration
code_among pool [] = None
code_among pool (Code name code ∷ rest) = Some (code_declaration pool code)
code_among pool (_ ∷ rest) = code_among pool rest

abbrev pub member_declaration : List Const → Member → MemberDeclaration
member_declaration pool m = record {
  access = m.access;
  name = text_at pool m.name;
  descriptor = text_at pool m.descriptor;
  code = code_among pool m.attributes;
}

-- super_class is 0 where there is no superclass
abbrev pub declaration_of : ClassFile → ClassDeclaration
declaration_of c = record {
  access = c.access;
  name = class_at c.pool c.this_class;
  superclass = named_class c.pool c.super_class;
  interfaces = map (class_at c.pool) c.interfaces;
  fields = map (member_declaration c.pool) c.fields;
  methods = map (member_declaration c.pool) c.methods;
}
