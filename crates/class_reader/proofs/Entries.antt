-- Reading the constant pool.
use Rattle.std.proofs.Common.{◌≡◌, ℕ, zero, suc, ◌-◌, Bool, cond, not, eqb, List, [], ◌∷◌, Option, Some, None, is_none, unwrap_or, Ok, Err, refl}
use Rattle.std.specs.Int.{Width, w8, w16, w32, w64, cast_signed}
use Rattle.const_pool.specs.declared.pool.Const.{Const}
use Rattle.const_pool.specs.declared.pool.Const.TheVariants.{Gap, Utf8, Integer, Float, Long, Double, Class, Text, Field, Method, InterfaceMethod, NameType}
use Rattle.const_pool.specs.Pool.{is_wide}
use Rattle.class_reader.specs.declared.tags.Tag.{Tag}
use Rattle.class_reader.specs.declared.tags.Tag.TheVariants as tag
use Rattle.class_reader.specs.declared.error.ReadError.{ReadError}
use Rattle.class_reader.specs.declared.error.ReadError.TheVariants.{BadTag, BadIndex}
use Rattle.class_reader.specs.Formats.{place, number, value_made, in_turn, kept_where, value_converted}
use Rattle.class_reader.specs.ClassFormat.{tag_of, lowest_bad}
use Rattle.class_reader.specs.ClassFormat as format
use Rattle.class_reader.specs.Reading.{◌>>=◌, Read, number_at, known_tag, tag_at, pair_at, single_at, utf8_at, contents_at, entry_at, entries_at, all_entries_at, sound_pool, pool_at}
use Rattle.class_reader.proofs.Items.{IsRead, same_read}
use Rattle.byte_formats.proofs.Turns.{made_is_read, in_turn_is_read}
use Rattle.class_reader.proofs.Widths.{u1_is_read, u2_is_read, u4_is_read, u8_is_read}
use Rattle.class_reader.proofs.Texts.{text_is_read}
use Rattle.byte_formats.proofs.Conditions.{made_or, then_made, converted_at, converted_is_read, either_is_read}
use Rattle.class_reader.proofs.Conditions.{tested_is_read}

-- ---- tags

abbrev bad_tag : ℕ → ℕ → ReadError
bad_tag at n = BadTag at

as_known : (limit at : ℕ) (rest : List ℕ) (found : Option Tag)
    → known_tag limit at rest found ≡ made_or (BadTag at) rest found
as_known limit at rest (Some t) = refl
as_known limit at rest None = refl

behind_tag : (limit at : ℕ) (read : Read ℕ)
    → (read >>= λ n. known_tag limit at n.1 (tag_of n.0)) ≡ then_made tag_of bad_tag at read
behind_tag limit at (Ok n) = as_known limit at n.1 (tag_of n.0)
behind_tag limit at (Err fault) = refl

tag_is_converted : (limit : ℕ) (bytes : List ℕ)
    → tag_at limit bytes ≡ converted_at (number_at w8) tag_of bad_tag limit bytes
unfolding tag_at
tag_is_converted limit bytes = behind_tag limit (place limit bytes) (number_at w8 limit bytes)

tag_is_read : IsRead tag_at (value_converted (number w8) tag_of bad_tag)
tag_is_read =
    let read = converted_is_read (number_at w8) (number w8) tag_of bad_tag u1_is_read in
    same_read _ _ _ tag_is_converted read

-- ---- entries

single_is_read : (w : Width) (make : ℕ → Const) → IsRead (number_at w) (number w)
    → IsRead (single_at w make) (in_turn (number w) (λ n. value_made (make n)))
unfolding single_at
single_is_read w make law = in_turn_is_read law (λ n. made_is_read (make n))

pair_is_read : (make : ℕ → ℕ → Const) → IsRead (pair_at make) (format.pair make)
unfolding pair_at
pair_is_read make =
    in_turn_is_read u2_is_read (λ a. in_turn_is_read u2_is_read (λ b. made_is_read (make a b)))

utf8_is_read : IsRead utf8_at (format.contents tag.Utf8)
unfolding utf8_at
utf8_is_read =
    in_turn_is_read u2_is_read (λ len. in_turn_is_read (text_is_read len) (λ units.
    made_is_read (Utf8 units)))

contents_is_read : (t : Tag) → IsRead (contents_at t) (format.contents t)
unfolding contents_at
contents_is_read tag.Utf8 = utf8_is_read
contents_is_read tag.Integer = single_is_read w32 (λ n. Integer (cast_signed w32 n)) u4_is_read
contents_is_read tag.Float = single_is_read w32 Float u4_is_read
contents_is_read tag.Long = single_is_read w64 (λ n. Long (cast_signed w64 n)) u8_is_read
contents_is_read tag.Double = single_is_read w64 Double u8_is_read
contents_is_read tag.Class = single_is_read w16 Class u2_is_read
contents_is_read tag.Text = single_is_read w16 Text u2_is_read
contents_is_read tag.Field = pair_is_read Field
contents_is_read tag.Method = pair_is_read Method
contents_is_read tag.InterfaceMethod = pair_is_read InterfaceMethod
contents_is_read tag.NameType = pair_is_read NameType

pub entry_is_read : IsRead entry_at format.entry
unfolding entry_at
entry_is_read = in_turn_is_read tag_is_read contents_is_read

pub entries_is_read : (n : ℕ) → IsRead (entries_at n) (format.entries n)
unfolding entries_at
entries_is_read zero = made_is_read []
entries_is_read (suc zero) = in_turn_is_read entry_is_read (λ c. made_is_read (c ∷ []))
entries_is_read (suc (suc n)) = in_turn_is_read entry_is_read (λ c. either_is_read (is_wide c)
    (in_turn_is_read (entries_is_read n) (λ cs. made_is_read (c ∷ Gap ∷ cs)))
    (in_turn_is_read (entries_is_read (suc n)) (λ cs. made_is_read (c ∷ cs))))

-- ---- the pool

pub all_entries_is_read : IsRead all_entries_at format.all_entries
unfolding all_entries_at
all_entries_is_read =
    in_turn_is_read (tested_is_read w16 (λ n. not (eqb n 0)) (λ at n. BadIndex 0) u2_is_read)
    (λ count. in_turn_is_read (entries_is_read (count - 1)) (λ cs. made_is_read (Gap ∷ cs)))

abbrev is_sound : List Const → Bool
is_sound pool = is_none (lowest_bad pool)

abbrev bad_pool : ℕ → List Const → ReadError
bad_pool at pool = BadIndex (unwrap_or (lowest_bad pool) 0)

as_sound : (rest : List ℕ) (pool : List Const) (bad : Option ℕ)
    → sound_pool rest pool bad
    ≡ made_or (BadIndex (unwrap_or bad 0)) rest (cond (is_none bad) (Some pool) None)
as_sound rest pool None = refl
as_sound rest pool (Some i) = refl

behind_pool : (at : ℕ) (read : Read (List Const))
    → (read >>= λ p. sound_pool p.1 p.0 (lowest_bad p.0))
    ≡ then_made (kept_where is_sound) bad_pool at read
behind_pool at (Ok p) = as_sound p.1 p.0 (lowest_bad p.0)
behind_pool at (Err fault) = refl

pool_is_tested : (limit : ℕ) (bytes : List ℕ)
    → pool_at limit bytes ≡ converted_at all_entries_at (kept_where is_sound) bad_pool limit bytes
unfolding pool_at
pool_is_tested limit bytes = behind_pool (place limit bytes) (all_entries_at limit bytes)

pub pool_is_read : IsRead pool_at format.constant_pool
pool_is_read =
    same_read _ _ _ pool_is_tested
    (converted_is_read all_entries_at format.all_entries (kept_where is_sound) bad_pool
    all_entries_is_read)
