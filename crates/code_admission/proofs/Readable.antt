-- The codes of a class that admission takes can be read.
use Rattle.std.proofs.Common.{◌≡◌, ℕ, List, length, Option, Some, None, refl, arith}
use Rattle.std.specs.Prelude.{slice_get, IfSome}
use Rattle.jf_bytes.proofs.Lists.{each_at}
use Rattle.const_pool.specs.declared.pool.Const.{Const}
use Rattle.const_pool.specs.declared.class.ClassFile.{ClassFile}
use Rattle.const_pool.specs.declared.class.Member.{Member}
use Rattle.const_pool.specs.declared.class.CodeAttribute.{CodeAttribute}
use Rattle.const_pool.specs.ClassFile.{IsCode, IsMember, IsMethodAttribute, IsClassFile}
use Rattle.jvm_model.specs.Basis.Methods.{code_of}
use Rattle.jvm_model.proofs.Running.FormedCodes.{code-among}
use Rattle.code_admission.specs.Codes.{IsRead, AreRead}
use Rattle.code_admission.proofs.Decoded.{reading_found}
use Rattle.inject_events.specs.Answers.{IsReadableBody, IsReadableClass}

body-readable : (pool : List Const) (code : CodeAttribute) → IsCode pool code → IsRead code.code → IsReadableBody code
body-readable pool code formed read = record {
  readable = record { some = formed.some; short = omega (arith, formed.short); reading = record { instrs = read.instrs; len = length code.code }; reads = reading_found code.code read.instrs read.read };
  handlers = omega (arith, formed.handler_count);
}

bodies-readable : (c : ClassFile) (k : ℕ) (m : Member) (code : Option CodeAttribute) → IsClassFile c → AreRead c.methods → slice_get c.methods k ≡ Some m → code_of m ≡ code → IfSome code IsReadableBody
bodies-readable c k m None formed read at coded = tt
bodies-readable c k m (Some code) formed read at coded =
    let member = each_at (IsMember IsMethodAttribute c.pool) c.methods k m formed.methods at in
    body-readable c.pool code (code-among c.pool m.attributes code member.attributes coded) (read k m code at coded)

pub IsReadableClass-read : (c : ClassFile) → IsClassFile c → AreRead c.methods → IsReadableClass c
IsReadableClass-read c formed read = record {
  few = omega (arith, formed.method_count);
  bodies = λ k m at. bodies-readable c k m (code_of m) formed read at refl;
}
