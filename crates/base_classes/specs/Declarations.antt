-- What a class file declares, with its indices followed to the texts that they name (JVM Specification 4.1, 4.5 to
-- 4.7).
use Rattle.std.specs.Prelude.{ℕ, List, Option}
use Rattle.const_pool.specs.References.{Reference}

-- an instruction of the twelve that the codes of the built-in classes have (6.5)
pub data NamedInstruction : Type 0 where
  -- by its opcode, without an operand
  plain : ℕ → NamedInstruction
  -- by its opcode, and the offset to which it jumps
  jump : ℕ → ℕ → NamedInstruction
  -- ldc of a string
  load_text : List ℕ → NamedInstruction
  -- by its opcode, and the field or method that it names
  on_member : ℕ → Reference → NamedInstruction

-- a Code attribute without handlers and attributes of its own (4.7.3)
pub record CodeDeclaration : Type 0 where
  pub max_stack : ℕ
  pub max_locals : ℕ
  pub instructions : List NamedInstruction

-- a field or a method, with the code that it has
pub record MemberDeclaration : Type 0 where
  pub access : ℕ
  pub name : List ℕ
  pub descriptor : List ℕ
  pub code : Option CodeDeclaration

-- a class; java/lang/Object alone has no superclass
pub record ClassDeclaration : Type 0 where
  pub access : ℕ
  pub name : List ℕ
  pub superclass : Option (List ℕ)
  pub interfaces : List (List ℕ)
  pub fields : List MemberDeclaration
  pub methods : List MemberDeclaration
