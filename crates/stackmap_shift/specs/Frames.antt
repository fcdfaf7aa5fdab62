-- The grammar of a StackMapTable (JVM Specification 4.7.4).
use Rattle.std.specs.Prelude.{ℕ, zero, suc, ◌+◌, ◌-◌, List, [], ◌∷◌, Option, Some, None, Ok, Err, Result, nat_lt, ◌==◌, if◌then◌else◌}
use Rattle.std.specs.Int.{w8, w16}
use Rattle.stackmap_shift.specs.declared.error.FrameError.{FrameError}
use Rattle.stackmap_shift.specs.declared.error.FrameError.TheVariants.{BadFrame}
use Rattle.stackmap_shift.specs.declared.forms.Form.{Form}
use Rattle.stackmap_shift.specs.declared.forms.Form.TheVariants as form
use Rattle.stackmap_shift.specs.declared.frames.VType.{VType}
use Rattle.stackmap_shift.specs.declared.frames.VType.TheVariants.{Top, Integer, Float, Double, Long, Null, UninitThis, Object, Uninit}
use Rattle.stackmap_shift.specs.declared.frames.FrameKind.{FrameKind}
use Rattle.stackmap_shift.specs.declared.frames.FrameKind.TheVariants.{Same, OneItem, Chop, Append, Full}
use Rattle.stackmap_shift.specs.declared.frames.Frame.{Frame}
use Rattle.stackmap_shift.specs.Tables.{◌>>=◌, Read, place, number_at, many_at, counted_at, whole_of}

-- ---- verification types

-- the types that are a tag alone
abbrev pub plain_type : ℕ → Option VType
plain_type tag =
    if tag == 0 then Some Top
    else if tag == 1 then Some Integer
    else if tag == 2 then Some Float
    else if tag == 3 then Some Double
    else if tag == 4 then Some Long
    else if tag == 5 then Some Null
    else if tag == 6 then Some UninitThis
    else None

-- the type of a tag that stands at this offset, or no type
abbrev pub known_type : ℕ → List ℕ → Option VType → Read VType
known_type start bytes (Some t) = Ok (t, bytes)
known_type start bytes None = Err (BadFrame start)

unfoldable pub object_at : ℕ → List ℕ → Read VType
object_at limit bytes = do
  index ← number_at w16 limit bytes
  Ok (Object index.0, index.1)

unfoldable pub uninit_at : ℕ → List ℕ → Read VType
uninit_at limit bytes = do
  offset ← number_at w16 limit bytes
  Ok (Uninit offset.0, offset.1)

-- what follows a tag that stands at the offset `start`: the class of an object, or the offset of a `new`
unfoldable pub behind_tag : ℕ → ℕ → ℕ → List ℕ → Read VType
behind_tag start tag limit bytes =
    if tag == 7 then object_at limit bytes
    else if tag == 8 then uninit_at limit bytes
    else known_type start bytes (plain_type tag)

unfoldable pub type_at : ℕ → List ℕ → Read VType
type_at limit bytes = do
  tag ← number_at w8 limit bytes
  behind_tag (place limit bytes) tag.0 limit tag.1

-- ---- the types of frames

-- what a frame of this type has behind its delta; the types 128 to 246 are none
abbrev pub form_of : ℕ → Option Form
form_of kind =
    if nat_lt kind 64 then Some form.Same
    else if nat_lt kind 128 then Some form.OneItem
    else if nat_lt kind 247 then None
    else if kind == 247 then Some form.OneItem
    else if nat_lt kind 251 then Some (form.Chop (251 - kind))
    else if kind == 251 then Some form.Same
    else if nat_lt kind 255 then Some (form.Append (kind - 251))
    else Some form.Full

-- the delta that the short types have in themselves
abbrev pub short_delta : ℕ → Option ℕ
short_delta kind = if nat_lt kind 64 then Some kind else if nat_lt kind 128 then Some (kind - 64) else None

-- the delta of a frame, in its type or behind it
abbrev pub delta_by : ℕ → List ℕ → Option ℕ → Read ℕ
delta_by limit bytes (Some delta) = Ok (delta, bytes)
delta_by limit bytes None = number_at w16 limit bytes

abbrev pub delta_at : ℕ → ℕ → List ℕ → Read ℕ
delta_at kind limit bytes = delta_by limit bytes (short_delta kind)

-- where a frame stands: the first one at its delta, each later one at the offset of the one before plus delta plus 1
abbrev pub offset_behind : Option ℕ → ℕ → ℕ
offset_behind None delta = delta
offset_behind (Some before) delta = before + delta + 1

-- An offset is at most 65535. The fault of a greater one is told at the frame's first byte.
abbrev pub offset_at : ℕ → Option ℕ → ℕ → Result ℕ FrameError
offset_at start before delta = if nat_lt 65535 (offset_behind before delta) then Err (BadFrame start) else Ok (offset_behind before delta)

-- ---- frames

abbrev pub known_form : ℕ → Option Form → Result Form FrameError
known_form start (Some form) = Ok form
known_form start None = Err (BadFrame start)

unfoldable pub one_item_at : ℕ → List ℕ → Read FrameKind
one_item_at limit bytes = do
  item ← type_at limit bytes
  Ok (OneItem item.0, item.1)

unfoldable pub append_at : ℕ → ℕ → List ℕ → Read FrameKind
append_at count limit bytes = do
  locals ← many_at (type_at limit) count bytes
  Ok (Append locals.0, locals.1)

unfoldable pub full_at : ℕ → List ℕ → Read FrameKind
full_at limit bytes = do
  locals ← counted_at type_at limit bytes
  operands ← counted_at type_at limit locals.1
  Ok (Full locals.0 operands.0, operands.1)

-- what stands behind the delta
unfoldable pub kind_at : Form → ℕ → List ℕ → Read FrameKind
kind_at form.Same limit bytes = Ok (Same, bytes)
kind_at form.OneItem limit bytes = one_item_at limit bytes
kind_at (form.Chop count) limit bytes = Ok (Chop count, bytes)
kind_at (form.Append count) limit bytes = append_at count limit bytes
kind_at form.Full limit bytes = full_at limit bytes

-- a frame behind one at the offset `before`, or the first one
unfoldable pub frame_at : Option ℕ → ℕ → List ℕ → Read Frame
frame_at before limit bytes = do
  kind ← number_at w8 limit bytes
  form ← known_form (place limit bytes) (form_of kind.0)
  delta ← delta_at kind.0 limit kind.1
  offset ← offset_at (place limit bytes) before delta.0
  contents ← kind_at form limit delta.1
  Ok (record { at = offset; kind = contents.0 }, contents.1)

-- so many frames behind one at the offset `before`, or from the first one on
unfoldable pub frames_at : ℕ → Option ℕ → ℕ → List ℕ → Read (List Frame)
frames_at zero before limit bytes = Ok ([], bytes)
frames_at (suc n) before limit bytes = do
  first ← frame_at before limit bytes
  others ← frames_at n (Some first.0.at) limit first.1
  Ok (first.0 ∷ others.0, others.1)

-- the count, and the frames
unfoldable pub table_at : ℕ → List ℕ → Read (List Frame)
table_at limit bytes = do
  count ← number_at w16 limit bytes
  frames_at count.0 None limit count.1

-- the frames that a table spells, or the first byte that breaks the grammar
unfoldable pub frames_of : List ℕ → Result (List Frame) FrameError
frames_of bytes = whole_of table_at bytes
