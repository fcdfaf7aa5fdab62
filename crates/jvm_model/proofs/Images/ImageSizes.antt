-- How many bytes an image has: at most seven times as many as its class, and the tail. A return gets six bytes in front
-- of it, which is the most that one byte comes to.
use Rattle.std.proofs.Common.{◌≡◌, ℕ, ◌+◌, ◌*◌, ◌≤◌, Bool, true, false, cond, List, [], ◌∷◌, ◌++◌, length, Option, Some, refl, sym, ap, arith}
use Rattle.std.specs.Prelude.{map, MatchBool, Result, Ok, Err}
use Rattle.std.specs.List.{flat_map}
use Rattle.std.proofs.lemmas.Grind.{flat_map-append}
use Rattle.std.proofs.lemmas.List.{length-append, length-map}
use Rattle.std.proofs.lemmas.Option.{same_Some, none-some}
use Rattle.const_pool.specs.declared.class.ClassFile.{ClassFile}
use Rattle.const_pool.specs.declared.class.CodeAttribute.{CodeAttribute}
use Rattle.const_pool.specs.declared.class.Handler.{Handler}
use Rattle.const_pool.specs.declared.class.Member.{Member}
use Rattle.const_pool.specs.declared.class.Attribute.{Attribute}
use Rattle.const_pool.specs.declared.class.Attribute.TheVariants.{ConstantValue, Code, Other}
use Rattle.const_pool.specs.declared.class.Raw.{Raw}
use Rattle.const_pool.specs.declared.pool.Const.{Const}
use Rattle.const_pool.specs.ClassFile.{items_counted, raw_bytes, handler_bytes, code_bytes, attribute_bytes, member_bytes, class_bytes}
use Rattle.const_pool.specs.Pool.{u2, entry_bytes, pool_bytes}
use Rattle.const_pool.specs.Tail.{tail_entries, with_tail, throwable_index}
use Rattle.code_model.specs.declared.laying.Homes.{Homes}
use Rattle.code_model.specs.Layout.{home_of}
use Rattle.stackmap_shift.specs.declared.error.FrameError.{FrameError}
use Rattle.stackmap_shift.specs.declared.frames.Frame.{Frame}
use Rattle.stackmap_shift.specs.DebugTables.{shifted_lines, shifted_variables}
use Rattle.stackmap_shift.specs.Frames.{frames_of}
use Rattle.stackmap_shift.specs.Spelling.{table_bytes}
use Rattle.stackmap_shift.proofs.Sizes.{length-table, length-moved_frames, length-shifted_lines, length-shifted_variables}
use Rattle.jvm_model.specs.declared.event.Mark.{Mark}
use Rattle.jvm_model.specs.declared.event.Mark.TheVariants.{Off, Plain, Root}
use Rattle.jvm_model.specs.Rewriting.ImageTables.{moved_or_kept, moved_lines, moved_variables, last_frame, is_writable, frames_with_last, framed_by, moved_frames_of, is_line_table, is_variable_table, is_stack_map_table, image_table, image_attribute, lacks_stack_map_table, added_stack_map_table, image_attributes}
use Rattle.jvm_model.specs.Rewriting.Images.{all_off, with_code_among, IsMarkedMember, IsMemberImage, next_number, AreMemberImages, IsOriginal, IsRewritten, IsImage}
use Rattle.jvm_model.specs.Basis.Methods.{code_among}
use Rattle.jvm_model.specs.Rewriting.Versions.{entry_probe, leave_probe, unwind_code, moved_handler, catch_all, IsVersion}
use Rattle.jvm_model.proofs.Images.LaidLengths.{length-laid_of-le}

-- ---- the tables of a Code

kept-le : (bytes : List ℕ) (r : Result (List ℕ) FrameError) → ((new : List ℕ) → r ≡ Ok new → length new ≤ length bytes) → length (moved_or_kept bytes r) ≤ length bytes
kept-le bytes (Ok new) short = short new refl
kept-le bytes (Err fault) short = omega arith

lines-le : (homes : Homes) (bytes : List ℕ) → length (moved_lines homes bytes) ≤ length bytes
lines-le homes bytes = kept-le bytes (shifted_lines homes bytes) (length-shifted_lines homes bytes)

variables-le : (homes : Homes) (bytes : List ℕ) → length (moved_variables homes bytes) ≤ length bytes
variables-le homes bytes = kept-le bytes (shifted_variables homes bytes) (length-shifted_variables homes bytes)

written-le : (b : Bool) (bytes table : List ℕ) → length table ≤ 3 * length bytes + 10 → length (cond b table bytes) ≤ 3 * length bytes + 10
written-le true bytes table short = short
written-le false bytes table short = omega arith

framed-le : (throwable : ℕ) (homes : Homes) (end : ℕ) (bytes : List ℕ) (r : Result (List Frame) FrameError) → frames_of bytes ≡ r → length (framed_by throwable homes end bytes r) ≤ 3 * length bytes + 10
framed-le throwable homes end bytes (Ok frames) read =
    written-le (is_writable (frames_with_last throwable homes end frames)) bytes (table_bytes (frames_with_last throwable homes end frames))
    (length-moved_frames homes bytes frames (last_frame (home_of homes end) throwable ∷ []) read)
framed-le throwable homes end bytes (Err fault) read = omega arith

table-le : (c : ClassFile) (homes : Homes) (end : ℕ) (raw : Raw) → length (image_table c homes end raw) ≤ 3 * length raw.bytes + 10
table-le c homes end raw = by_lines (is_line_table (with_tail c.pool) raw.name)
  where
    by_frames : (f : Bool) → length (cond f (moved_frames_of (throwable_index (length c.pool)) homes end raw.bytes) raw.bytes) ≤ 3 * length raw.bytes + 10
    by_frames true = framed-le (throwable_index (length c.pool)) homes end raw.bytes (frames_of raw.bytes) refl
    by_frames false = omega arith

    by_variables : (v : Bool) → length (cond v (moved_variables homes raw.bytes) (cond (is_stack_map_table c raw.name) (moved_frames_of (throwable_index (length c.pool)) homes end raw.bytes) raw.bytes)) ≤ 3 * length raw.bytes + 10
    by_variables true = let short = variables-le homes raw.bytes in omega arith
    by_variables false = by_frames (is_stack_map_table c raw.name)

    by_lines : (l : Bool) → length (cond l (moved_lines homes raw.bytes) (cond (is_variable_table (with_tail c.pool) raw.name) (moved_variables homes raw.bytes)
        (cond (is_stack_map_table c raw.name) (moved_frames_of (throwable_index (length c.pool)) homes end raw.bytes) raw.bytes))) ≤ 3 * length raw.bytes + 10
    by_lines true = let short = lines-le homes raw.bytes in omega arith
    by_lines false = by_variables (is_variable_table (with_tail c.pool) raw.name)

abbrev all_raws : List Raw → List ℕ
all_raws raws = flat_map raw_bytes raws

raws-le : (c : ClassFile) (homes : Homes) (end : ℕ) (raws : List Raw) → length (all_raws (map (image_attribute c homes end) raws)) ≤ 3 * length (all_raws raws)
raws-le c homes end [] = omega arith
raws-le c homes end (raw ∷ rest) =
    let new = length-append (raw_bytes (image_attribute c homes end raw)) (all_raws (map (image_attribute c homes end) rest)) in
    let old = length-append (raw_bytes raw) (all_raws rest) in
    let here = table-le c homes end raw in
    let behind = raws-le c homes end rest in
    omega arith

added-le : (c : ClassFile) (homes : Homes) (end : ℕ) (b : Bool) → length (all_raws (cond b (added_stack_map_table c homes end ∷ []) [])) ≤ 18
added-le c homes end true = let short = length-table (last_frame (home_of homes end) (throwable_index (length c.pool)) ∷ []) in omega arith
added-le c homes end false = omega arith

attributes-le : (c : ClassFile) (homes : Homes) (end : ℕ) (raws : List Raw) → length (all_raws (image_attributes c homes end raws)) ≤ 3 * length (all_raws raws) + 18
attributes-le c homes end raws =
    let tables : List Raw = map (image_attribute c homes end) raws in
    let added : List Raw = cond (lacks_stack_map_table c raws) (added_stack_map_table c homes end ∷ []) [] in
    let parts : length (all_raws (image_attributes c homes end raws)) ≡ length (all_raws tables ++ all_raws added) = ap length (flat_map-append raw_bytes tables added) in
    let sums = length-append (all_raws tables) (all_raws added) in
    let old = raws-le c homes end raws in
    let last = added-le c homes end (lacks_stack_map_table c raws) in
    omega (arith, parts)

-- ---- a Code

length-handlers : (hs : List Handler) → length (flat_map handler_bytes hs) ≡ 8 * length hs
length-handlers [] = refl
length-handlers (h ∷ hs) =
    let whole = length-append (handler_bytes h) (flat_map handler_bytes hs) in
    let others = length-handlers hs in
    omega arith

length-code : (k : CodeAttribute) → length (code_bytes k) ≡ 12 + length k.code + 8 * length k.handlers + length (all_raws k.attributes)
length-code k =
    let tables = items_counted raw_bytes k.attributes in
    let behind = items_counted handler_bytes k.handlers ++ tables in
    let whole = length-append k.code behind in
    let handlers = length-append (flat_map handler_bytes k.handlers) tables in
    let eight = length-handlers k.handlers in
    omega arith

version-le : (c : ClassFile) (number : ℕ) (mark : Mark) (old new : CodeAttribute) (homes : Homes) → IsVersion (length c.pool) number mark old new homes
    → new.attributes ≡ image_attributes c homes (length old.code) old.attributes → length (code_bytes new) ≤ 7 * length (code_bytes old)
version-le c number mark old new homes is tables =
    let count : ℕ = length c.pool in
    let laid = length-laid_of-le (entry_probe count number mark) (leave_probe count number) (unwind_code count number) old.code is.reading is.reads (omega arith) (omega arith) (omega arith) in
    let code = ap (λ (k : CodeAttribute). length k.code) is.code in
    let handled = ap (λ (k : CodeAttribute). length k.handlers) is.code in
    let moved : List Handler = map (moved_handler homes) old.handlers in
    let more = ap (λ (h : Homes). length (map (moved_handler h) old.handlers ++ catch_all h (length old.code) ∷ [])) (sym is.moved) in
    let count_of = length-append moved (catch_all homes (length old.code) ∷ []) in
    let same = length-map old.handlers (moved_handler homes) in
    let tabled = ap (λ (rs : List Raw). length (all_raws rs)) tables in
    let most = attributes-le c homes (length old.code) old.attributes in
    let before = length-code old in
    let after = length-code new in
    omega (arith, code, handled, more, count_of, same, tabled)

-- ---- a method

abbrev all_attributes : List Attribute → List ℕ
all_attributes attributes = flat_map attribute_bytes attributes

coded-le : (before after : CodeAttribute) (attributes : List Attribute) → code_among attributes ≡ Some before → length (code_bytes after) ≤ 7 * length (code_bytes before)
    → length (all_attributes (with_code_among after attributes)) ≤ 7 * length (all_attributes attributes)
coded-le before after [] coded le = absurd (none-some before coded)
coded-le before after (Code name code ∷ rest) coded le =
    let new = length-append (attribute_bytes (Code name after)) (all_attributes rest) in
    let old = length-append (attribute_bytes (Code name code)) (all_attributes rest) in
    let same = ap (λ (k : CodeAttribute). length (code_bytes k)) (same_Some code before coded) in
    omega (arith, same)
coded-le before after (ConstantValue name index ∷ rest) coded le =
    let new = length-append (attribute_bytes (ConstantValue name index)) (all_attributes (with_code_among after rest)) in
    let old = length-append (attribute_bytes (ConstantValue name index)) (all_attributes rest) in
    let behind = coded-le before after rest coded le in
    omega arith
coded-le before after (Other raw ∷ rest) coded le =
    let new = length-append (attribute_bytes (Other raw)) (all_attributes (with_code_among after rest)) in
    let old = length-append (attribute_bytes (Other raw)) (all_attributes rest) in
    let behind = coded-le before after rest coded le in
    omega arith

marked-le : (c : ClassFile) (number : ℕ) (mark : Mark) (old new : Member) (homes : Homes) → IsMarkedMember c number mark old new homes → length (member_bytes new) ≤ 7 * length (member_bytes old)
marked-le c number mark old new homes is =
    let code = version-le c number mark is.before is.after homes is.version is.tables in
    let attributes = coded-le is.before is.after old.attributes is.coded code in
    let same = ap (λ (m : Member). length (all_attributes m.attributes)) is.replaced in
    omega (arith, same)

member-le : (c : ClassFile) (number : ℕ) (mark : Mark) (old new : Member) (home : Option Homes) → IsMemberImage c number mark old new home → length (member_bytes new) ≤ 7 * length (member_bytes old)
member-le c number Off old new home is = let same = ap (λ (m : Member). length (member_bytes m)) is.0 in omega (arith, same)
member-le c number Plain old new home is = marked-le c number Plain old new is.0 is.1
member-le c number Root old new home is = marked-le c number Root old new is.0 is.1

-- ---- the class

abbrev all_members : List Member → List ℕ
all_members ms = flat_map member_bytes ms

members-le : (c : ClassFile) (number : ℕ) (marks : List Mark) (olds news : List Member) (homes : List (Option Homes)) → AreMemberImages c number marks olds news homes
    → length (all_members news) ≤ 7 * length (all_members olds)
members-le c number [] [] [] [] are = omega arith
members-le c number (mark ∷ marks) (o ∷ olds) (n ∷ news) (h ∷ homes) are =
    let new = length-append (member_bytes n) (all_members news) in
    let old = length-append (member_bytes o) (all_members olds) in
    let here = member-le c number mark o n h are.0 in
    let behind = members-le c (next_number number o) marks olds news homes are.1 in
    omega arith
members-le c number [] (o ∷ olds) news homes are = absurd are
members-le c number (mark ∷ marks) (o ∷ olds) [] homes are = absurd are
members-le c number (mark ∷ marks) (o ∷ olds) (n ∷ news) [] are = absurd are
members-le c number (mark ∷ marks) [] news homes are = absurd are
members-le c number [] [] (n ∷ news) homes are = absurd are
members-le c number [] [] [] (h ∷ homes) are = absurd are

-- the tail
tail-length : (n : ℕ) → length (flat_map entry_bytes (tail_entries n)) ≤ 138
tail-length n = omega arith

length-pool : (pool : List Const) → length (pool_bytes pool) ≡ 2 + length (flat_map entry_bytes pool)
length-pool pool = omega arith

pool-le : (pool : List Const) → length (pool_bytes (with_tail pool)) ≤ length (pool_bytes pool) + 138
pool-le pool =
    let tail : List Const = tail_entries (length pool) in
    let parts : length (flat_map entry_bytes (with_tail pool)) ≡ length (flat_map entry_bytes pool ++ flat_map entry_bytes tail) = ap length (flat_map-append entry_bytes pool tail) in
    let sums = length-append (flat_map entry_bytes pool) (flat_map entry_bytes tail) in
    let last = tail-length (length pool) in
    let new = length-pool (with_tail pool) in
    let old = length-pool pool in
    omega (arith, parts)

-- what a class has beside its pool and its methods
abbrev rest_of : ClassFile → ℕ
rest_of c = length (items_counted u2 c.interfaces) + length (items_counted member_bytes c.fields) + length (items_counted attribute_bytes c.attributes)

length-class : (c : ClassFile) → length (class_bytes c) ≡ 16 + length (pool_bytes c.pool) + length (all_members c.methods) + rest_of c
length-class c =
    let last = items_counted attribute_bytes c.attributes in
    let methods = items_counted member_bytes c.methods ++ last in
    let fields = items_counted member_bytes c.fields ++ methods in
    let interfaces = items_counted u2 c.interfaces ++ fields in
    let a = length-append (items_counted member_bytes c.methods) last in
    let b = length-append (items_counted member_bytes c.fields) methods in
    let d = length-append (items_counted u2 c.interfaces) fields in
    let e = length-append (pool_bytes c.pool) (u2 c.access ++ (u2 c.this_class ++ (u2 c.super_class ++ interfaces))) in
    omega arith

rewritten-le : (c : ClassFile) (first : ℕ) (marks : List Mark) (image : ClassFile) (homes : List (Option Homes)) → IsRewritten c first marks image homes
    → length (class_bytes image) ≤ 7 * length (class_bytes c) + 138
rewritten-le c first marks image homes is =
    let pool = ap (λ (x : ClassFile). length (pool_bytes x.pool)) is.rest in
    let rest = ap (λ (x : ClassFile). rest_of x) is.rest in
    let most = pool-le c.pool in
    let methods = members-le c first marks c.methods image.methods homes is.methods in
    let new = length-class image in
    let old = length-class c in
    omega (arith, pool, rest)

-- an image has few bytes more than its class
pub image-le : (c : ClassFile) (first : ℕ) (marks : List Mark) (image : ClassFile) (homes : List (Option Homes)) → IsImage c first marks image homes
    → length (class_bytes image) ≤ 7 * length (class_bytes c) + 138
image-le c first marks image homes is = by_test (all_off marks) is
  where
    by_test : (b : Bool) → MatchBool b (IsOriginal c image homes) (IsRewritten c first marks image homes) → length (class_bytes image) ≤ 7 * length (class_bytes c) + 138
    by_test true original = let same = ap (λ (x : ClassFile). length (class_bytes x)) original.class_stays in omega (arith, same)
    by_test false rewritten = rewritten-le c first marks image homes rewritten
