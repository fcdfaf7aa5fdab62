-- Reading indices behind the constant pool, and attributes.
use Rattle.std.proofs.Common.{ℕ, ◌&&◌, ◌||◌, eqb, ltb, Bool, List}
use Rattle.std.specs.Int.{w16, w32}
use Rattle.const_pool.specs.declared.pool.Const.{Const}
use Rattle.const_pool.specs.declared.class.Attribute.TheVariants.{ConstantValue, Code, Other}
use Rattle.const_pool.specs.Pool.{is_utf8, is_class, is_constant}
use Rattle.const_pool.specs.ClassFile.{code_name, constant_value_name}
use Rattle.class_reader.specs.declared.error.ReadError.TheVariants.{BadRef, BadLength}
use Rattle.class_reader.specs.Formats.{Format, in_turn, run}
use Rattle.class_reader.specs.ClassFormat.{names, names_text}
use Rattle.class_reader.specs.ClassFormat as format
use Rattle.class_reader.specs.Reading.{Read, counted_at, ref_at, optional_ref_at, raw_contents_at, raw_at, other_at, handler_at, code_bytes_at, code_at, constant_value_at, code_attribute_at, field_attribute_at, method_attribute_at, class_attribute_at}
use Rattle.class_reader.proofs.Items.{IsRead}
use Rattle.byte_formats.proofs.Turns.{made_is_read, in_turn_is_read, many_is_read}
use Rattle.class_reader.proofs.Widths.{u2_is_read, u4_is_read, run_is_read}
use Rattle.byte_formats.proofs.Conditions.{either_is_read}
use Rattle.class_reader.proofs.Conditions.{tested_is_read}
use Rattle.class_reader.proofs.Enclosed.{sized_is_read, enclosed_is_read}

pub counted_is_read : {A : Type 0} {item : ℕ → List ℕ → Read A} {P : Format A} → IsRead item P
    → IsRead (counted_at item) (format.items_counted P)
unfolding counted_at
counted_is_read law = in_turn_is_read u2_is_read (many_is_read law)

module _ (kind : Const → Bool) (pool : List Const) where
  pub ref_is_read : IsRead (ref_at kind pool) (format.ref kind pool)
  ref_is_read = tested_is_read w16 (names kind pool) (λ at i. BadRef at) u2_is_read

  pub optional_ref_is_read : IsRead (optional_ref_at kind pool) (format.optional_ref kind pool)
  optional_ref_is_read =
      tested_is_read w16 (λ i. eqb i 0 || names kind pool i) (λ at i. BadRef at) u2_is_read

pub raw_contents_is_read : (name : ℕ) → IsRead (raw_contents_at name) (format.raw_contents name)
unfolding raw_contents_at
raw_contents_is_read name =
    in_turn_is_read sized_is_read (λ bytes. made_is_read (record { name = name; bytes = bytes }))

other_is_read : (name : ℕ) → IsRead (other_at name) (format.other name)
unfolding other_at
other_is_read name = in_turn_is_read (raw_contents_is_read name) (λ raw. made_is_read (Other raw))

code_bytes_is_read : IsRead code_bytes_at (in_turn format.code_length run)
unfolding code_bytes_at
code_bytes_is_read =
    in_turn_is_read
    (tested_is_read w32 (λ n. ltb 0 n && ltb n 65536) (λ at n. BadLength at) u4_is_read)
    run_is_read

module _ (pool : List Const) where
  pub raw_is_read : IsRead (raw_at pool) (format.raw pool)
  unfolding raw_at
  raw_is_read = in_turn_is_read (ref_is_read is_utf8 pool) raw_contents_is_read

  pub handler_is_read : IsRead (handler_at pool) (format.handler pool)
  unfolding handler_at
  handler_is_read =
      in_turn_is_read u2_is_read (λ start. in_turn_is_read u2_is_read (λ stop.
      in_turn_is_read u2_is_read (λ target.
      in_turn_is_read (optional_ref_is_read is_class pool) (λ catch.
      made_is_read (record {
        start = start;
        «end» = stop;
        handler = target;
        catch_class = catch;
      })))))

  pub code_is_read : IsRead (code_at pool) (format.code pool)
  unfolding code_at
  code_is_read =
      in_turn_is_read u2_is_read (λ stack. in_turn_is_read u2_is_read (λ locals.
      in_turn_is_read code_bytes_is_read (λ bytes.
      in_turn_is_read (counted_is_read handler_is_read) (λ handlers.
      in_turn_is_read (counted_is_read raw_is_read) (λ raws.
      made_is_read (record {
        max_stack = stack;
        max_locals = locals;
        code = bytes;
        handlers = handlers;
        attributes = raws;
      }))))))

  pub field_attribute_is_read : IsRead (field_attribute_at pool) (format.field_attribute pool)
  unfolding field_attribute_at constant_value_at
  field_attribute_is_read =
      in_turn_is_read (ref_is_read is_utf8 pool) (λ name.
      either_is_read (names_text pool name constant_value_name)
      (in_turn_is_read (enclosed_is_read (ref_is_read is_constant pool)) (λ i.
      made_is_read (ConstantValue name i)))
      (other_is_read name))

  pub method_attribute_is_read : IsRead (method_attribute_at pool) (format.method_attribute pool)
  unfolding method_attribute_at code_attribute_at
  method_attribute_is_read =
      in_turn_is_read (ref_is_read is_utf8 pool) (λ name.
      either_is_read (names_text pool name code_name)
      (in_turn_is_read (enclosed_is_read code_is_read) (λ c. made_is_read (Code name c)))
      (other_is_read name))

  pub class_attribute_is_read : IsRead (class_attribute_at pool) (format.class_attribute pool)
  unfolding class_attribute_at
  class_attribute_is_read = in_turn_is_read (ref_is_read is_utf8 pool) other_is_read
