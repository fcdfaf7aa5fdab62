-- The bytes of the worked class by the tables of the JVM Specification, a line for each part: it is written so, and read
-- back.
use Rattle.std.proofs.Common.{◌≡◌, ℕ, zero, suc, Bool, true, false, List, [], ◌∷◌, refl}
use Rattle.std.specs.Prelude.{Result, Ok, Err, take, nat_le, length}
use Rattle.std.specs.List.{list_all}
use Rattle.const_pool.specs.declared.class.ClassFile.{ClassFile}
use Rattle.const_pool.specs.ClassFile.{class_bytes}
use Rattle.class_reader.specs.declared.error.ReadError.{ReadError}
use Rattle.class_reader.specs.declared.error.ReadError.TheVariants.{Truncated}
use Rattle.class_reader.specs.Reading.{image_of, class_at, magic_at, major_at, tested_at, number_at, body_at, pool_at, all_entries_at, entries_at, entry_at, tag_at, utf8_at, text_at, pair_at, single_at, many_at, counted_at, member_at, method_attribute_at, field_attribute_at, class_attribute_at, run_at, sized_at, enclosed_at, contents_at, raw_contents_at, raw_at, other_at, handler_at, code_bytes_at, code_at, constant_value_at, code_attribute_at}
use Rattle.class_reader.specs.Decoding.{text_decoded, decoded_from}
use Rattle.format_tests.specs.WorkedClass.{worked_class}

abbrev bytes : List ℕ
bytes =
    0xCA ∷ 0xFE ∷ 0xBA ∷ 0xBE ∷
    0x00 ∷ 0x03 ∷ 0x00 ∷ 0x2D ∷
    0x00 ∷ 0x14 ∷
    0x01 ∷ 0x00 ∷ 0x01 ∷ 0x41 ∷
    0x07 ∷ 0x00 ∷ 0x01 ∷
    0x01 ∷ 0x00 ∷ 0x04 ∷ 0x43 ∷ 0x6F ∷ 0x64 ∷ 0x65 ∷
    0x01 ∷ 0x00 ∷ 0x0D ∷ 0x43 ∷ 0x6F ∷ 0x6E ∷ 0x73 ∷ 0x74 ∷ 0x61 ∷ 0x6E ∷ 0x74 ∷ 0x56 ∷ 0x61 ∷ 0x6C ∷ 0x75 ∷ 0x65 ∷
    0x01 ∷ 0x00 ∷ 0x01 ∷ 0x4A ∷
    0x05 ∷ 0x01 ∷ 0x02 ∷ 0x03 ∷ 0x04 ∷ 0x05 ∷ 0x06 ∷ 0x07 ∷ 0x08 ∷
    0x01 ∷ 0x00 ∷ 0x03 ∷ 0x28 ∷ 0x29 ∷ 0x56 ∷
    0x01 ∷ 0x00 ∷ 0x08 ∷ 0x58 ∷ 0xC0 ∷ 0x80 ∷ 0xC2 ∷ 0xA9 ∷ 0xE2 ∷ 0x82 ∷ 0xAC ∷
    0x03 ∷ 0xFF ∷ 0xFF ∷ 0xFF ∷ 0xFE ∷
    0x04 ∷ 0x3F ∷ 0x80 ∷ 0x00 ∷ 0x00 ∷
    0x06 ∷ 0x40 ∷ 0x00 ∷ 0x00 ∷ 0x00 ∷ 0x00 ∷ 0x00 ∷ 0x00 ∷ 0x00 ∷
    0x08 ∷ 0x00 ∷ 0x01 ∷
    0x0C ∷ 0x00 ∷ 0x01 ∷ 0x00 ∷ 0x05 ∷
    0x09 ∷ 0x00 ∷ 0x02 ∷ 0x00 ∷ 0x0F ∷
    0x0C ∷ 0x00 ∷ 0x01 ∷ 0x00 ∷ 0x08 ∷
    0x0A ∷ 0x00 ∷ 0x02 ∷ 0x00 ∷ 0x11 ∷
    0x0B ∷ 0x00 ∷ 0x02 ∷ 0x00 ∷ 0x11 ∷
    0x00 ∷ 0x21 ∷ 0x00 ∷ 0x02 ∷ 0x00 ∷ 0x00 ∷
    0x00 ∷ 0x01 ∷ 0x00 ∷ 0x02 ∷
    0x00 ∷ 0x01 ∷ 0x00 ∷ 0x18 ∷ 0x00 ∷ 0x01 ∷ 0x00 ∷ 0x05 ∷
    0x00 ∷ 0x01 ∷ 0x00 ∷ 0x04 ∷ 0x00 ∷ 0x00 ∷ 0x00 ∷ 0x02 ∷ 0x00 ∷ 0x06 ∷
    0x00 ∷ 0x01 ∷ 0x00 ∷ 0x09 ∷ 0x00 ∷ 0x01 ∷ 0x00 ∷ 0x08 ∷
    0x00 ∷ 0x01 ∷ 0x00 ∷ 0x03 ∷ 0x00 ∷ 0x00 ∷ 0x00 ∷ 0x1C ∷
    0x00 ∷ 0x02 ∷ 0x00 ∷ 0x04 ∷ 0x00 ∷ 0x00 ∷ 0x00 ∷ 0x01 ∷ 0xB1 ∷
    0x00 ∷ 0x01 ∷ 0x00 ∷ 0x00 ∷ 0x00 ∷ 0x01 ∷ 0x00 ∷ 0x03 ∷ 0x00 ∷ 0x02 ∷
    0x00 ∷ 0x01 ∷ 0x00 ∷ 0x09 ∷ 0x00 ∷ 0x00 ∷ 0x00 ∷ 0x01 ∷ 0xAB ∷
    0x00 ∷ 0x01 ∷ 0x00 ∷ 0x09 ∷ 0x00 ∷ 0x00 ∷ 0x00 ∷ 0x00 ∷ []

are_written : class_bytes worked_class ≡ bytes
are_written = refl

are_read : image_of bytes ≡ Ok worked_class
unfolding image_of class_at magic_at major_at tested_at number_at body_at pool_at all_entries_at entries_at entry_at tag_at utf8_at text_at pair_at single_at many_at counted_at member_at method_attribute_at field_attribute_at class_attribute_at run_at text_decoded decoded_from sized_at enclosed_at contents_at raw_contents_at raw_at other_at handler_at code_bytes_at code_at constant_value_at code_attribute_at
are_read = refl

-- ---- cut files

-- cut within so many bytes
abbrev is_cut : ℕ → Result ClassFile ReadError → Bool
is_cut len (Err (Truncated at)) = nat_le at len
is_cut len _ = false

abbrev fronts : ℕ → List ℕ
fronts zero = []
fronts (suc len) = len ∷ fronts len

each_front : list_all (λ len. is_cut len (image_of (take len bytes))) (fronts 197) ≡ true
unfolding image_of class_at magic_at major_at tested_at number_at body_at pool_at all_entries_at entries_at entry_at tag_at utf8_at text_at pair_at single_at many_at counted_at member_at method_attribute_at field_attribute_at class_attribute_at run_at text_decoded decoded_from sized_at enclosed_at contents_at raw_contents_at raw_at other_at handler_at code_bytes_at code_at constant_value_at code_attribute_at
each_front = refl
