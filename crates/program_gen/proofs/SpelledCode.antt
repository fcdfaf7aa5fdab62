-- The bytes of a code are its instructions, and their indices name what the row names.
use Rattle.std.proofs.Common.{◌≡◌, ℕ, ◌+◌, ◌*◌, ◌<◌, ◌^◌, Bool, true, false, List, [], ◌∷◌, ◌++◌, length, Option, Some, slice_get, refl, ap, sym, ◌∙◌, append_assoc, arith}
use Rattle.std.specs.Prelude.{◌==◌, if◌then◌else◌}
use Rattle.std.specs.Int.{w16, to_be_bytes}
use Rattle.std.specs.Option.{option_and_then, ok_or}
use Rattle.std.specs.Result.{result_ok}
use Rattle.std.specs.List.{AllByRecursion, AllZip, flat_map}
use Rattle.std.proofs.lemmas.List.{append-nil}
use Rattle.const_pool.specs.declared.pool.Const.{Const}
use Rattle.const_pool.specs.declared.pool.Const.TheVariants.{Utf8, Class, Field, Method}
use Rattle.const_pool.specs.declared.pool.PoolError.TheVariants.{BadIndex}
use Rattle.const_pool.specs.Pool.{entry_of}
use Rattle.const_pool.specs.ClassFile.{IsByte}
use Rattle.const_pool.specs.References.{◌>>=◌, class_entry, text_entry, named_class}
use Rattle.program_gen.specs.declared.rows.ClassName.{ClassName}
use Rattle.program_gen.specs.declared.rows.MemberName.{MemberName}
use Rattle.program_gen.specs.declared.rows.Instruction.{Instruction}
use Rattle.program_gen.specs.declared.rows.Instruction.TheVariants.{Plain, Byte, Short, OfClass, OfMember}
use Rattle.program_gen.specs.Names.{class_text}
use Rattle.class_making.specs.Making.{CodeMade}
use Rattle.program_gen.specs.Making.{class_shared, member_shared, instruction_added, code_from}
use Rattle.program_gen.specs.Fits.{FitsInstruction}
use Rattle.program_gen.specs.Members.{IsCodeOf, IsSpelled, named_by, reference_of}
use Rattle.program_gen.proofs.Pools.{IsGood, zip-by}
use Rattle.program_gen.proofs.SharedNames.{Grows, at-grown, class-added, member-added, StandsMember}
use Rattle.program_gen.proofs.MadeCode.{code-grows, instruction-grows}

-- ---- an instruction, by the entries that it stands on

pub record IsClassPart (pool : List Const) (op : ℕ) (class : ClassName) (bytes : List ℕ) : Type 0 where
  pub index : ℕ
  pub small : index < 2 ^ 16
  pub spelled : bytes ≡ op ∷ to_be_bytes w16 index
  pub name : ℕ
  pub at : slice_get pool index ≡ Some (Class name)
  pub named : slice_get pool name ≡ Some (Utf8 (class_text class))

pub record IsMemberPart (pool : List Const) (op : ℕ) (class : ClassName) (member : MemberName) (bytes : List ℕ) : Type 0 where
  pub index : ℕ
  pub small : index < 2 ^ 16
  pub spelled : bytes ≡ op ∷ to_be_bytes w16 index
  pub stands : StandsMember pool op class member index

abbrev pub IsPart : List Const → Instruction → List ℕ → Type 0
IsPart pool (Plain op) bytes = bytes ≡ op ∷ []
IsPart pool (Byte op operand) bytes = bytes ≡ op ∷ operand ∷ []
IsPart pool (Short op operand) bytes = bytes ≡ op ∷ to_be_bytes w16 operand
IsPart pool (OfClass op class) bytes = IsClassPart pool op class bytes
IsPart pool (OfMember op class member) bytes = IsMemberPart pool op class member bytes

stands-more : (n a : ℕ) (p q : List Const) → Grows n a p q → (op : ℕ) (class : ClassName) (member : MemberName) (index : ℕ) → StandsMember p op class member index
    → StandsMember q op class member index
stands-more n a p q g op class member index h = record {
  class_index = h.class_index;
  class_name = h.class_name;
  name_type = h.name_type;
  name = h.name;
  descriptor = h.descriptor;
  at = at-grown n a p q index _ g h.at;
  class_at = at-grown n a p q h.class_index _ g h.class_at;
  class_named = at-grown n a p q h.class_name _ g h.class_named;
  name_type_at = at-grown n a p q h.name_type _ g h.name_type_at;
  named = at-grown n a p q h.name _ g h.named;
  described = at-grown n a p q h.descriptor _ g h.described;
}

pub part-more : (n a : ℕ) (p q : List Const) → Grows n a p q → (i : Instruction) (bytes : List ℕ) → IsPart p i bytes → IsPart q i bytes
part-more n a p q g (Plain op) bytes h = h
part-more n a p q g (Byte op operand) bytes h = h
part-more n a p q g (Short op operand) bytes h = h
part-more n a p q g (OfClass op class) bytes h = record {
  index = h.index;
  small = h.small;
  spelled = h.spelled;
  name = h.name;
  at = at-grown n a p q h.index _ g h.at;
  named = at-grown n a p q h.name _ g h.named;
}
part-more n a p q g (OfMember op class member) bytes h = record {
  index = h.index;
  small = h.small;
  spelled = h.spelled;
  stands = stands-more n a p q g op class member h.index h.stands;
}

-- ---- what its index names

pub class-named : (pool : List Const) (i name : ℕ) (text : List ℕ) → slice_get pool i ≡ Some (Class name) → slice_get pool name ≡ Some (Utf8 text) → named_class pool i ≡ Some text
class-named pool i name text at there =
    ap (λ (o : Option Const). result_ok (ok_or (option_and_then entry_of o) BadIndex >>= class_entry pool)) at
    ∙ ap (λ (o : Option Const). result_ok (ok_or (option_and_then entry_of o) BadIndex >>= text_entry)) there

stands-named : (pool : List Const) (op : ℕ) (class : ClassName) (member : MemberName) (index : ℕ) → StandsMember pool op class member index
    → named_by op pool index ≡ Some (reference_of class member)
stands-named pool op class member index h = by (op == 178) refl
  where
    by : (b : Bool) → (op == 178) ≡ b → named_by op pool index ≡ Some (reference_of class member)
    by true e =
        rw e (rw (h.at ∙ ap (λ (b : Bool). Some (if b then Field h.class_index h.name_type else Method h.class_index h.name_type)) e)
        (rw h.class_at (rw h.class_named (rw h.name_type_at (rw h.named (rw h.described refl))))))
    by false e =
        rw e (rw (h.at ∙ ap (λ (b : Bool). Some (if b then Field h.class_index h.name_type else Method h.class_index h.name_type)) e)
        (rw h.class_at (rw h.class_named (rw h.name_type_at (rw h.named (rw h.described refl))))))

part-spelled : (pool : List Const) (i : Instruction) (bytes : List ℕ) → IsPart pool i bytes → IsSpelled pool i bytes
part-spelled pool (Plain op) bytes h = h
part-spelled pool (Byte op operand) bytes h = h
part-spelled pool (Short op operand) bytes h = h
part-spelled pool (OfClass op class) bytes h = record {
  index = h.index;
  small = h.small;
  spelled = h.spelled;
  names = class-named pool h.index h.name (class_text class) h.at h.named;
}
part-spelled pool (OfMember op class member) bytes h = record {
  index = h.index;
  small = h.small;
  spelled = h.spelled;
  names = stands-named pool op class member h.index h.stands;
}

-- ---- as they are made

record HasPart (pool : List Const) (i : Instruction) (bytes : List ℕ) (made : CodeMade) : Type 0 where
  pub part : List ℕ
  pub is : IsPart made.pool i part
  pub joined : made.bytes ≡ bytes ++ part

instruction-part : (n : ℕ) (pool : List Const) (bytes : List ℕ) (i : Instruction) → IsGood n pool → n < 64000 → FitsInstruction i
    → HasPart pool i bytes (instruction_added pool bytes i)
unfolding instruction_added
instruction-part n pool bytes (Plain op) g h fits = record { part = op ∷ []; is = refl; joined = refl }
instruction-part n pool bytes (Byte op operand) g h fits = record { part = op ∷ operand ∷ []; is = refl; joined = refl }
instruction-part n pool bytes (Short op operand) g h fits = record { part = op ∷ to_be_bytes w16 operand; is = refl; joined = refl }
instruction-part n pool bytes (OfClass op class) g h fits =
    let c = class_shared pool class in
    let a = class-added n pool class g (omega arith) fits.1 in
    record {
      part = op ∷ to_be_bytes w16 c.index;
      is = record { index = c.index; small = a.added.small; spelled = refl; name = a.name; at = a.added.at; named = a.named };
      joined = refl;
    }
instruction-part n pool bytes (OfMember op class member) g h fits =
    let m = member_shared pool op class member in
    let a = member-added n pool op class member g h fits.1 in
    record {
      part = op ∷ to_be_bytes w16 m.index;
      is = record { index = m.index; small = a.added.small; spelled = refl; stands = a.stands };
      joined = refl;
    }

-- the bytes behind these are the instructions
pub record HasParts (instructions : List Instruction) (bytes : List ℕ) (made : CodeMade) : Type 0 where
  pub parts : List (List ℕ)
  pub each : AllZip (IsPart made.pool) instructions parts
  pub joined : made.bytes ≡ bytes ++ flat_map (λ part. part) parts

pub code-parts : (instructions : List Instruction) (n : ℕ) (pool : List Const) (bytes : List ℕ) → IsGood n pool → n + 6 * length instructions < 64000
    → AllByRecursion IsByte bytes → AllByRecursion FitsInstruction instructions → HasParts instructions bytes (code_from pool bytes instructions)
unfolding code_from
code-parts [] n pool bytes g h each fits = record { parts = []; each = tt; joined = sym (append-nil bytes) }
code-parts (i ∷ rest) n pool bytes g h each fits =
    let first = instruction-grows n pool bytes i g (omega arith) each fits.0 in
    let here = instruction-part n pool bytes i g (omega arith) fits.0 in
    let made = instruction_added pool bytes i in
    let grown = code-grows rest (n + 6) made.pool made.bytes first.grows.good (omega arith) first.each fits.1 in
    let later = code-parts rest (n + 6) made.pool made.bytes first.grows.good (omega arith) first.each fits.1 in
    record {
      parts = here.part ∷ later.parts;
      each = (part-more (n + 6) (6 * length rest) _ _ grown.grows i here.part here.is, later.each);
      joined = later.joined ∙ ap (λ (front : List ℕ). front ++ flat_map (λ part. part) later.parts) here.joined ∙ append_assoc bytes here.part (flat_map (λ part. part) later.parts);
    }

pub parts-more : (n a : ℕ) (p q : List Const) → Grows n a p q → (instructions : List Instruction) (parts : List (List ℕ)) → AllZip (IsPart p) instructions parts
    → AllZip (IsPart q) instructions parts
parts-more n a p q g instructions parts h = zip-by (IsPart p) (IsPart q) (part-more n a p q g) instructions parts h

pub parts-spelled : (pool : List Const) (instructions : List Instruction) (parts : List (List ℕ)) (bytes : List ℕ) → AllZip (IsPart pool) instructions parts
    → bytes ≡ flat_map (λ part. part) parts → IsCodeOf pool instructions bytes
parts-spelled pool instructions parts bytes h e =
    record { parts = parts; each = zip-by (IsPart pool) (IsSpelled pool) (part-spelled pool) instructions parts h; joined = e }
