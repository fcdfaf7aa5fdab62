-- The image of a class file is a class file.
use Rattle.std.proofs.Common.{◌≡◌, ◌≢◌, ℕ, zero, suc, ◌+◌, ◌<◌, ◌≤◌, ◌^◌, ◌⊎◌, inl, inr, Bool, true, false, cond, ltb, get_or, List, [], ◌∷◌, ◌++◌, length, Option, Some, None, slice_get, refl, sym, ap, subst, ◌∙◌, arith}
use Rattle.std.specs.Prelude.{map, max, ◌==◌, ◌&&◌, Result, Ok, Err, IfOk, IfSome}
use Rattle.std.specs.List.{AllByRecursion, flat_map}
use Rattle.std.specs.Option.{option_map_or, option_and_then, ok_or}
use Rattle.std.specs.Result.{result_ok}
use Rattle.std.proofs.lemmas.Bool.{eqb-false, ltb-false}
use Rattle.std.proofs.lemmas.List.{length-append, length-map}
use Rattle.jf_bytes.proofs.Lists.{each_weaker}
use Rattle.const_pool.specs.declared.class.ClassFile.{ClassFile}
use Rattle.const_pool.specs.declared.class.Member.{Member}
use Rattle.const_pool.specs.declared.class.CodeAttribute.{CodeAttribute}
use Rattle.const_pool.specs.declared.class.Handler.{Handler}
use Rattle.const_pool.specs.declared.class.Raw.{Raw}
use Rattle.const_pool.specs.declared.class.Attribute.{Attribute}
use Rattle.const_pool.specs.declared.class.Attribute.TheVariants.{ConstantValue, Code, Other}
use Rattle.const_pool.specs.declared.pool.Const.{Const}
use Rattle.const_pool.specs.declared.pool.Const.TheVariants.{Gap, Utf8, Integer, Float, Long, Double, Class, Text, Field, Method, InterfaceMethod, NameType}
use Rattle.const_pool.specs.declared.pool.PoolError.TheVariants.{BadIndex}
use Rattle.const_pool.specs.ClassFile.{raw_bytes, code_name, constant_value_name, IsU2, IsRaw, IsHandler, IsCode, IsFieldAttribute, IsMethodAttribute, IsClassAttribute, IsMember, IsClassFile}
use Rattle.const_pool.specs.Pool.{Names, entry_of, is_utf8, is_class, is_constant}
use Rattle.const_pool.specs.References.{◌>>=◌, text_entry, named_text}
use Rattle.const_pool.specs.Tail.{tail_entries, with_tail}
use Rattle.code_model.specs.declared.instr.Instr.{Instr}
use Rattle.code_model.specs.declared.laying.Group.{Group}
use Rattle.code_model.specs.declared.laying.Homes.{Homes}
use Rattle.code_model.specs.declared.laying.Laid.{Laid}
use Rattle.code_model.specs.Groups.{IsBytes}
use Rattle.code_model.specs.Instructions.{Reads}
use Rattle.code_model.specs.Layout.{home_of, first_far}
use Rattle.code_model.proofs.CodeLayouts.Walks.{length-laid_of}
use Rattle.jvm_model.specs.declared.event.Mark.{Mark}
use Rattle.jvm_model.specs.declared.event.Mark.TheVariants.{Off, Plain, Root}
use Rattle.jvm_model.specs.Rewriting.Images.{all_off, next_number, with_code_among}
use Rattle.jvm_model.specs.Basis.Methods.{code_of}
use Rattle.jvm_model.specs.Rewriting.Versions.{probe_bytes, group_of, moved_handler, catch_all}
use Rattle.jvm_model.proofs.Images.ImagePools.{named_text-more}
use Rattle.jvm_model.proofs.Running.FormedCodes.{code-among}
use Rattle.stackmap_shift.specs.declared.error.FrameError.{FrameError}
use Rattle.stackmap_shift.specs.declared.frames.Frame.{Frame}
use Rattle.stackmap_shift.specs.Frames.{frames_of}
use Rattle.stackmap_shift.specs.Spelling.{table_bytes}
use Rattle.inject_events.specs.declared.error.Cause.TheVariants as cause
use Rattle.inject_events.specs.declared.error.InjectError.{InjectError}
use Rattle.inject_events.specs.declared.image.Image.{Image}
use Rattle.inject_events.specs.declared.methods.MethodImage.{MethodImage}
use Rattle.inject_events.specs.declared.probes.Probes.{Probes}
use Rattle.inject_events.specs.declared.settings.Setting.{Setting}
use Rattle.inject_events.specs.declared.settings.Table.{Table}
use Rattle.inject_events.specs.declared.settings.Table.TheVariants as table
use Rattle.inject_events.specs.Answers.{IsReadableCode, IsReadableBody, HasReadableBody, HaveReadableBodies, IsReadableClass, IsImageAnswer}
use Rattle.inject_events.specs.Probing.{first_marked}
use Rattle.inject_events.specs.Rewriting.{instrs_in, laid_version_of, version_of, version_cause, far_cause, cause_of_coded, cause_of_method, image_of_coded, image_of_method, images_from, refused_from, is_full_pool, refused_of_marked, refused_of, original_of, image_of_marked, image_of}
use Rattle.inject_events.specs.Settings.{setting_of, probes_in, entry_in}
use Rattle.jvm_model.specs.Rewriting.ImageTables.{last_frame, is_writable}
use Rattle.inject_events.specs.Tables.{table_of, version_frames, framed_or_kept, moved_table, moved_raw, lacks_frames, added_table, added_tables}
use Rattle.inject_events.proofs.InstrsIn.{instrs_in-is}
use Rattle.inject_events.proofs.LaidBytes.{AreBytes, both, probe, laid, home-le, table, moved-lines, moved-variables}
use Rattle.inject_events.proofs.Rooms.{IsMadeWhole-none, none_of}
use Rattle.inject_events.proofs.Tabling.{length-code_bytes}
use Rattle.inject_events.proofs.TailPools.{names-more, names-tail, IsPool-with_tail}
use Rattle.inject_events.proofs.Refusals.{here-none}

-- ---- parts of a class file, with more entries in the pool

-- an index that names a text has one
text-named : (o : Option Const) → option_map_or is_utf8 o false ≡ true → (t : List ℕ) × (result_ok (ok_or (option_and_then entry_of o) BadIndex >>= text_entry) ≡ Some t)
text-named None named = absurd cc
text-named (Some (Utf8 t)) named = (t, refl)
text-named (Some Gap) named = absurd cc
text-named (Some (Integer n)) named = absurd cc
text-named (Some (Float n)) named = absurd cc
text-named (Some (Long n)) named = absurd cc
text-named (Some (Double n)) named = absurd cc
text-named (Some (Class i)) named = absurd cc
text-named (Some (Text i)) named = absurd cc
text-named (Some (Field c n)) named = absurd cc
text-named (Some (Method c n)) named = absurd cc
text-named (Some (InterfaceMethod c n)) named = absurd cc
text-named (Some (NameType n d)) named = absurd cc

not-more : (pool more : List Const) (i : ℕ) (text : List ℕ) → Names is_utf8 pool i → named_text pool i ≢ Some text → named_text (pool ++ more) i ≢ Some text
not-more pool more i text named other =
    let found = text-named (slice_get pool i) named in
    λ same. other (found.1 ∙ (sym (named_text-more pool more i found.0 found.1) ∙ same))

none-more : (kind : Const → Bool) (pool more : List Const) (i : ℕ) → (i ≡ 0) ⊎ Names kind pool i → (i ≡ 0) ⊎ Names kind (pool ++ more) i
none-more kind pool more i (inl none) = inl none
none-more kind pool more i (inr named) = inr (names-more kind pool more i named)

raw-more : (pool more : List Const) (raw : Raw) → IsRaw pool raw → IsRaw (pool ++ more) raw
raw-more pool more raw is = record { name = is.name; named = names-more is_utf8 pool more raw.name is.named; length = is.length; bytes = is.bytes }

handler-more : (pool more : List Const) (h : Handler) → IsHandler pool h → IsHandler (pool ++ more) h
handler-more pool more h is = record { start = is.start; «end» = is.end; handler = is.handler; catch = is.catch; class = none-more is_class pool more h.catch_class is.class }

code-more : (pool more : List Const) (c : CodeAttribute) → IsCode pool c → IsCode (pool ++ more) c
code-more pool more c is = record {
  max_stack = is.max_stack;
  max_locals = is.max_locals;
  some = is.some;
  short = is.short;
  code = is.code;
  handler_count = is.handler_count;
  handlers = each_weaker (IsHandler pool) (IsHandler (pool ++ more)) c.handlers (handler-more pool more) is.handlers;
  attribute_count = is.attribute_count;
  attributes = each_weaker (IsRaw pool) (IsRaw (pool ++ more)) c.attributes (raw-more pool more) is.attributes;
  whole = is.whole;
}

field-more : (pool more : List Const) (a : Attribute) → IsFieldAttribute pool a → IsFieldAttribute (pool ++ more) a
field-more pool more (ConstantValue name index) is = (is.0, named_text-more pool more name constant_value_name is.1, is.2, names-more is_constant pool more index is.3)
field-more pool more (Code name code) is = is
field-more pool more (Other raw) is = (raw-more pool more raw is.0, not-more pool more raw.name constant_value_name is.0.named is.1)

method-more : (pool more : List Const) (a : Attribute) → IsMethodAttribute pool a → IsMethodAttribute (pool ++ more) a
method-more pool more (ConstantValue name index) is = is
method-more pool more (Code name code) is = (is.0, named_text-more pool more name code_name is.1, code-more pool more code is.2)
method-more pool more (Other raw) is = (raw-more pool more raw is.0, not-more pool more raw.name code_name is.0.named is.1)

class-more : (pool more : List Const) (a : Attribute) → IsClassAttribute pool a → IsClassAttribute (pool ++ more) a
class-more pool more (ConstantValue name index) is = is
class-more pool more (Code name code) is = is
class-more pool more (Other raw) is = raw-more pool more raw is

member-more : (IsAttribute : List Const → Attribute → Type 0) (pool more : List Const) (m : Member) → ((a : Attribute) → IsAttribute pool a → IsAttribute (pool ++ more) a)
    → IsMember IsAttribute pool m → IsMember IsAttribute (pool ++ more) m
member-more IsAttribute pool more m weaker is = record {
  access = is.access;
  name = is.name;
  named = names-more is_utf8 pool more m.name is.named;
  descriptor = is.descriptor;
  described = names-more is_utf8 pool more m.descriptor is.described;
  count = is.count;
  attributes = each_weaker (IsAttribute pool) (IsAttribute (pool ++ more)) m.attributes weaker is.attributes;
}

-- ---- the tables of a version

-- what is asked of an attribute but for its length
record IsTable (pool : List Const) (raw : Raw) : Type 0 where
  name : IsU2 raw.name
  named : Names is_utf8 pool raw.name
  bytes : AreBytes raw.bytes

written : (b : Bool) (bytes : List ℕ) (frames : List Frame) → AreBytes bytes → AreBytes (cond b (table_bytes frames) bytes)
written true bytes frames old = table frames
written false bytes frames old = old

framed : (s : Setting) (homes : Homes) (end : ℕ) (bytes : List ℕ) (found : Result (List Frame) FrameError) → AreBytes bytes → AreBytes (framed_or_kept s homes end bytes found)
framed s homes end bytes (Ok frames) old = written (is_writable (version_frames s homes end frames)) bytes (version_frames s homes end frames) old
framed s homes end bytes (Err fault) old = old

moved : (s : Setting) (homes : Homes) (end : ℕ) (t : Table) (bytes : List ℕ) → AreBytes bytes → AreBytes (moved_table s homes end t bytes)
moved s homes end table.Lines bytes old = moved-lines homes bytes old
moved s homes end table.Variables bytes old = moved-variables homes bytes old
moved s homes end table.Frames bytes old = framed s homes end bytes (frames_of bytes) old
moved s homes end table.Other bytes old = old

raws-moved : (s : Setting) (pool more : List Const) (homes : Homes) (end : ℕ) (raws rest : List Raw) → AllByRecursion (IsRaw pool) raws → AllByRecursion (IsTable (pool ++ more)) rest
    → AllByRecursion (IsTable (pool ++ more)) (map (moved_raw s homes end) raws ++ rest)
raws-moved s pool more homes end [] rest are behind = behind
raws-moved s pool more homes end (raw ∷ raws) rest are behind = (
  record { name = are.0.name; named = names-more is_utf8 pool more raw.name are.0.named; bytes = moved s homes end (table_of s raw.name) raw.bytes are.0.bytes },
  raws-moved s pool more homes end raws rest are.1 behind,
)

added : (pool : List Const) (b : Bool) (raw : Raw) → IsTable pool raw → AllByRecursion (IsTable pool) (cond b (raw ∷ []) [])
added pool true raw is = (is, tt)
added pool false raw is = tt

with-lengths : (pool : List Const) (raws : List Raw) → AllByRecursion (IsTable pool) raws → length (flat_map raw_bytes raws) < 2 ^ 32 → AllByRecursion (IsRaw pool) raws
with-lengths pool [] are short = tt
with-lengths pool (raw ∷ raws) are short =
    let whole = length-append (raw_bytes raw) (flat_map raw_bytes raws) in
    (record { name = are.0.name; named = are.0.named; length = omega arith; bytes = are.0.bytes }, with-lengths pool raws are.1 (omega arith))

-- ---- its exception table

handlers-moved : (pool more : List Const) (homes : Homes) (hs rest : List Handler) → ((at : ℕ) → home_of homes at < 2 ^ 16) → AllByRecursion (IsHandler pool) hs → AllByRecursion (IsHandler (pool ++ more)) rest
    → AllByRecursion (IsHandler (pool ++ more)) (map (moved_handler homes) hs ++ rest)
handlers-moved pool more homes [] rest near are behind = behind
handlers-moved pool more homes (h ∷ hs) rest near are behind = (
  record { start = near h.start; «end» = near h.end; handler = near h.handler; catch = are.0.catch; class = none-more is_class pool more h.catch_class are.0.class },
  handlers-moved pool more homes hs rest near are.1 behind,
)

-- ---- a version

none-bytes : (k : ℕ) → get_or [] k 0 < 256
none-bytes zero = omega arith
none-bytes (suc k) = omega arith

first-byte : (b : ℕ) (bytes : List ℕ) (k : ℕ) → b < 2 ^ 8 → IsBytes bytes → get_or (b ∷ bytes) k 0 < 256
first-byte b bytes zero here rest = omega (arith, here)
first-byte b bytes (suc k) here rest = rest k

is-bytes : (bytes : List ℕ) → AreBytes bytes → IsBytes bytes
is-bytes [] are = none-bytes
is-bytes (b ∷ bytes) are = λ k. first-byte b bytes k are.0 (is-bytes bytes are.1)

stack-fits : (n : ℕ) → n < 2 ^ 16 → n ≢ 65535 → max (n + 1) 2 < 2 ^ 16
stack-fits n below other = omega (arith, below, other)

added-count : (b : Bool) (raw : Raw) (count : ℕ) → (b && (count == 65535)) ≡ false → count < 2 ^ 16 → count + length (cond b (raw ∷ []) []) < 2 ^ 16
added-count false raw count room few = omega arith
added-count true raw count room few = let other = eqb-false count 65535 room in omega (arith, other)

version-formed : (c : ClassFile) (number : ℕ) (mark : Mark) (old : CodeAttribute) → length c.pool + 18 ≤ 65535 → IsCode c.pool old → IsReadableCode old.code → (let s : Setting = setting_of c in version_cause s number mark old ≡ None)
    → IsCode (with_tail c.pool) (version_of (setting_of c) number mark old).code
version-formed c number mark old room is readable none =
    let s : Setting = setting_of c in
    let pool : List Const = c.pool in
    let more : List Const = tail_entries (length pool) in
    let whole = IsMadeWhole-none s number mark old none in
    let p : Probes = probes_in s.tail number mark in
    let instrs : List Instr = instrs_in old.code in
    let gs : List Group = map (group_of p.leave) instrs in
    let made : Laid = laid_version_of s number mark old in
    let homes : Homes = made.homes in
    let end : ℕ = length old.code in
    let new : CodeAttribute = (version_of s number mark old).code in
    let reads : Reads old.code 0 instrs = subst (Reads old.code 0) (sym (instrs_in-is old.code readable.reading readable.reads)) readable.reads.instrs in
    let len = length-laid_of p.entry gs p.unwind in
    let short = ltb-false 65535 (length made.code) (none_of (ltb 65535 (length made.code)) cause.Length (far_cause (first_far p.entry gs)) whole.layout).0 in
    let near : (at : ℕ) → home_of homes at < 2 ^ 16 = λ at. (let le = home-le p.entry gs at in omega (arith, le, len, short)) in
    let frames : Raw = added_table s homes end in
    let tables : List Raw = added_tables s homes end old.attributes in
    let is_frames : IsTable (pool ++ more) frames = record { name = omega arith; named = names-tail is_utf8 pool 17 (Utf8 _) refl refl; bytes = table (last_frame (home_of homes end) s.tail.throwable ∷ []) } in
    let long = length-code_bytes new in
    let size = whole.size in
    let moved_handlers : List Handler = map (moved_handler homes) old.handlers in
    let other = eqb-false (length old.handlers) 65535 whole.room.handlers in
    let stack = eqb-false old.max_stack 65535 whole.room.stack in
    let counted : length new.handlers ≡ length old.handlers + 1 = length-append moved_handlers (catch_all homes end ∷ []) ∙ ap (λ n. n + 1) (length-map old.handlers (moved_handler homes)) in
    let raws : List Raw = map (moved_raw s homes end) old.attributes in
    let tabled : length new.attributes ≡ length old.attributes + length tables = length-append raws tables ∙ ap (λ n. n + length tables) (length-map old.attributes (moved_raw s homes end)) in
    let few = added-count (lacks_frames s old.attributes) frames (length old.attributes) whole.room.added is.attribute_count in
    record {
      max_stack = stack-fits old.max_stack is.max_stack stack;
      max_locals = is.max_locals;
      some = omega (arith, len);
      short = omega (arith, short);
      code = laid p.entry p.leave p.unwind old.code instrs (probe number (entry_in s.tail mark)) (probe number s.tail.leave) (both (probe_bytes number s.tail.unwind) (191 ∷ []) (probe number s.tail.unwind) (omega arith, tt)) (is-bytes old.code is.code) reads;
      handler_count = omega (arith, counted, other, is.handler_count);
      handlers = handlers-moved pool more homes old.handlers (catch_all homes end ∷ []) near is.handlers (record { start = near 0; «end» = near end; handler = near end; catch = omega arith; class = inl refl }, tt);
      attribute_count = omega (arith, tabled, few);
      attributes = with-lengths (pool ++ more) new.attributes
          (raws-moved s pool more homes end old.attributes tables is.attributes (added (pool ++ more) (lacks_frames s old.attributes) frames is_frames)) (omega (arith, long, size));
      whole = omega (arith, size);
    }

-- ---- a method

with-version : (pool more : List Const) (new : CodeAttribute) (attributes : List Attribute) → IsCode (pool ++ more) new → AllByRecursion (IsMethodAttribute pool) attributes
    → AllByRecursion (IsMethodAttribute (pool ++ more)) (with_code_among new attributes)
with-version pool more new [] is are = tt
with-version pool more new (ConstantValue name index ∷ rest) is are = absurd are.0
with-version pool more new (Code name old ∷ rest) is are =
    ((are.0.0, named_text-more pool more name code_name are.0.1, is), each_weaker (IsMethodAttribute pool) (IsMethodAttribute (pool ++ more)) rest (method-more pool more) are.1)
with-version pool more new (Other raw ∷ rest) is are = (method-more pool more (Other raw) are.0, with-version pool more new rest is are.1)

-- as many attributes as before
with-count : (new : CodeAttribute) (attributes : List Attribute) → length (with_code_among new attributes) ≡ length attributes
with-count new [] = refl
with-count new (ConstantValue name index ∷ rest) = ap suc (with-count new rest)
with-count new (Code name old ∷ rest) = refl
with-count new (Other raw ∷ rest) = ap suc (with-count new rest)

coded-formed : (c : ClassFile) (number : ℕ) (mark : Mark) (m : Member) (code : Option CodeAttribute) → length c.pool + 18 ≤ 65535 → code_of m ≡ code → IsMember IsMethodAttribute c.pool m → IfSome code (λ k. IsReadableCode k.code)
    → cause_of_coded (setting_of c) number mark code ≡ None → IsMember IsMethodAttribute (with_tail c.pool) (image_of_coded (setting_of c) number mark m code).member
coded-formed c number mark m None room coded is body none = member-more IsMethodAttribute c.pool (tail_entries (length c.pool)) m (method-more c.pool (tail_entries (length c.pool))) is
coded-formed c number mark m (Some old) room coded is body none =
    let more : List Const = tail_entries (length c.pool) in
    let new : CodeAttribute = (version_of (setting_of c) number mark old).code in
    let formed = version-formed c number mark old room (code-among c.pool m.attributes old is.attributes coded) body none in
    let same = with-count new m.attributes in
    record {
      access = is.access;
      name = is.name;
      named = names-more is_utf8 c.pool more m.name is.named;
      descriptor = is.descriptor;
      described = names-more is_utf8 c.pool more m.descriptor is.described;
      count = omega (arith, same, is.count);
      attributes = with-version c.pool more new m.attributes formed is.attributes;
    }

readable-code : (code : Option CodeAttribute) → IfSome code IsReadableBody → IfSome code (λ k. IsReadableCode k.code)
readable-code None body = tt
readable-code (Some code) body = body.readable

method-formed : (c : ClassFile) (number : ℕ) (mark : Mark) (m : Member) → length c.pool + 18 ≤ 65535 → IsMember IsMethodAttribute c.pool m → HasReadableBody m
    → cause_of_method (setting_of c) number mark m ≡ None → IsMember IsMethodAttribute (with_tail c.pool) (image_of_method (setting_of c) number mark m).member
method-formed c number Off m room is body none = member-more IsMethodAttribute c.pool (tail_entries (length c.pool)) m (method-more c.pool (tail_entries (length c.pool))) is
method-formed c number Plain m room is body none = coded-formed c number Plain m (code_of m) room refl is (readable-code (code_of m) body) none
method-formed c number Root m room is body none = coded-formed c number Root m (code_of m) room refl is (readable-code (code_of m) body) none

-- ---- all methods

abbrev members_of : List MethodImage → List Member
members_of images = map (λ (i : MethodImage). i.member) images

methods-formed : (c : ClassFile) (number position : ℕ) (marks : List Mark) (methods : List Member) → length c.pool + 18 ≤ 65535 → AllByRecursion (IsMember IsMethodAttribute c.pool) methods → HaveReadableBodies methods
    → refused_from (setting_of c) number position marks methods ≡ None → AllByRecursion (IsMember IsMethodAttribute (with_tail c.pool)) (members_of (images_from (setting_of c) number marks methods))
methods-formed c number position [] methods room are bodies none = tt
methods-formed c number position (mark ∷ marks) [] room are bodies none = tt
methods-formed c number position (mark ∷ marks) (m ∷ methods) room are bodies none =
    let parts = here-none position (cause_of_method (setting_of c) number mark m) (refused_from (setting_of c) (next_number number m) (position + 1) marks methods) none in
    (method-formed c number mark m room are.0 (bodies 0 m refl) parts.0, methods-formed c (next_number number m) (position + 1) marks methods room are.1 (λ k n at. bodies (suc k) n at) parts.1)

methods-few : (s : Setting) (number : ℕ) (marks : List Mark) (methods : List Member) → length (members_of (images_from s number marks methods)) ≤ length methods
methods-few s number [] methods = omega arith
methods-few s number (mark ∷ marks) [] = omega arith
methods-few s number (mark ∷ marks) (m ∷ methods) = let rest = methods-few s (next_number number m) marks methods in omega (arith, rest)

-- ---- the class

index-more : (pool more : List Const) (i : ℕ) → IsU2 i × Names is_class pool i → IsU2 i × Names is_class (pool ++ more) i
index-more pool more i is = (is.0, names-more is_class pool more i is.1)

marked-formed : (c : ClassFile) (first : ℕ) (marks : List Mark) → IsClassFile c → IsReadableClass c → length c.pool + 18 ≤ 65535 → refused_from (setting_of c) first 0 marks c.methods ≡ None → IsClassFile (image_of_marked c first marks).class
marked-formed c first marks is readable room none =
    let pool : List Const = c.pool in
    let more : List Const = tail_entries (length pool) in
    let few = methods-few (setting_of c) first marks c.methods in
    record {
      version = is.version;
      pool = IsPool-with_tail pool is.pool room;
      access = is.access;
      this_index = is.this_index;
      this_class = names-more is_class pool more c.this_class is.this_class;
      super_index = is.super_index;
      super_class = none-more is_class pool more c.super_class is.super_class;
      interface_count = is.interface_count;
      interfaces = each_weaker (λ i. IsU2 i × Names is_class pool i) (λ i. IsU2 i × Names is_class (pool ++ more) i) c.interfaces (index-more pool more) is.interfaces;
      field_count = is.field_count;
      fields = each_weaker (IsMember IsFieldAttribute pool) (IsMember IsFieldAttribute (pool ++ more)) c.fields (λ m. member-more IsFieldAttribute pool more m (field-more pool more)) is.fields;
      method_count = omega (arith, few, is.method_count);
      methods = methods-formed c first 0 marks c.methods room is.methods readable.bodies none;
      attribute_count = is.attribute_count;
      attributes = each_weaker (IsClassAttribute pool) (IsClassAttribute (pool ++ more)) c.attributes (class-more pool more) is.attributes;
    }

pub IsClassFile-image : (c : ClassFile) (first : ℕ) (marks : List Mark) → IsClassFile c → IsReadableClass c → refused_of c first marks ≡ None → IsClassFile (image_of c first marks).class
IsClassFile-image c first marks is readable none = by_off (all_off marks) none
  where
    by_off : (off : Bool) → cond off None (refused_of_marked c first marks) ≡ None → IsClassFile (cond off (original_of c) (image_of_marked c first marks)).class
    by_off true none = is
    by_off false none =
        let parts = none_of (is_full_pool c) (first_marked marks, cause.Pool) (refused_from (setting_of c) first 0 marks c.methods) none in
        marked-formed c first marks is readable (ltb-false 65535 (length c.pool + 18) parts.0) parts.1

pub IsClassFile-answer : (c : ClassFile) (first : ℕ) (marks : List Mark) (answer : Result Image InjectError) → IsReadableClass c → IsImageAnswer answer (refused_of c first marks) (image_of c first marks)
    → IfOk answer (λ (image : Image). IsClassFile c → IsClassFile image.class)
IsClassFile-answer c first marks (Ok image) readable is = λ formed. subst (λ (i : Image). IsClassFile i.class) (sym is.1) (IsClassFile-image c first marks formed readable is.0)
IsClassFile-answer c first marks (Err error) readable is = tt
