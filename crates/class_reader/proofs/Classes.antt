-- Reading fields, methods and the class.
use Rattle.std.proofs.Common.{ℕ, ◌&&◌, eqb, leb, List}
use Rattle.std.specs.Int.{w16, w32}
use Rattle.const_pool.specs.declared.pool.Const.{Const}
use Rattle.const_pool.specs.declared.class.Attribute.{Attribute}
use Rattle.const_pool.specs.Pool.{is_utf8, is_class}
use Rattle.class_reader.specs.declared.error.ReadError.TheVariants.{BadMagic, BadVersion}
use Rattle.class_reader.specs.Formats.{Format}
use Rattle.class_reader.specs.ClassFormat.{class_with}
use Rattle.class_reader.specs.ClassFormat as format
use Rattle.class_reader.specs.Reading.{Read, member_at, magic_at, major_at, body_at, class_at}
use Rattle.class_reader.proofs.Items.{IsRead}
use Rattle.byte_formats.proofs.Turns.{made_is_read, in_turn_is_read}
use Rattle.class_reader.proofs.Widths.{u2_is_read, u4_is_read}
use Rattle.class_reader.proofs.Conditions.{tested_is_read}
use Rattle.class_reader.proofs.Entries.{pool_is_read}
use Rattle.class_reader.proofs.AttributeLaws.{counted_is_read, ref_is_read, optional_ref_is_read, field_attribute_is_read, method_attribute_is_read, class_attribute_is_read}

member_is_read : {attribute : ℕ → List ℕ → Read Attribute} {P : Format Attribute}
    → IsRead attribute P → (pool : List Const)
    → IsRead (member_at attribute pool) (format.member P pool)
unfolding member_at
member_is_read law pool =
    in_turn_is_read u2_is_read (λ access. in_turn_is_read (ref_is_read is_utf8 pool) (λ name.
    in_turn_is_read (ref_is_read is_utf8 pool) (λ descriptor.
    in_turn_is_read (counted_is_read law) (λ attributes.
    made_is_read (record {
      access = access;
      name = name;
      descriptor = descriptor;
      attributes = attributes;
    })))))

magic_is_read : IsRead magic_at format.magic
unfolding magic_at
magic_is_read = tested_is_read w32 (λ n. eqb n 0xCAFEBABE) (λ at n. BadMagic) u4_is_read

major_is_read : IsRead major_at format.major_version
unfolding major_at
major_is_read = tested_is_read w16 (λ n. leb 45 n && leb n 50) (λ at n. BadVersion n) u2_is_read

body_is_read : (pool : List Const) → IsRead (body_at pool) (format.body pool)
unfolding body_at
body_is_read pool =
    let field_is_read = member_is_read (field_attribute_is_read pool) pool in
    let method_is_read = member_is_read (method_attribute_is_read pool) pool in
    in_turn_is_read u2_is_read (λ access. in_turn_is_read (ref_is_read is_class pool) (λ this.
    in_turn_is_read (optional_ref_is_read is_class pool) (λ super.
    in_turn_is_read (counted_is_read (ref_is_read is_class pool)) (λ interfaces.
    in_turn_is_read (counted_is_read field_is_read) (λ fields.
    in_turn_is_read (counted_is_read method_is_read) (λ methods.
    in_turn_is_read (counted_is_read (class_attribute_is_read pool)) (λ attributes.
    made_is_read (record {
      access = access;
      this_class = this;
      super_class = super;
      interfaces = interfaces;
      fields = fields;
      methods = methods;
      attributes = attributes;
    }))))))))

pub class_is_read : IsRead class_at format.class
unfolding class_at format.class
class_is_read =
    in_turn_is_read magic_is_read (λ magic. in_turn_is_read u2_is_read (λ minor.
    in_turn_is_read major_is_read (λ major. in_turn_is_read pool_is_read (λ pool.
    in_turn_is_read (body_is_read pool) (λ body.
    made_is_read (class_with minor major pool body))))))
