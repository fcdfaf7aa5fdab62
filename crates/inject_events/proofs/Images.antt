-- An image by its function is an image as the machine takes it.
use Rattle.std.proofs.Common.{◌≡◌, ℕ, suc, ◌+◌, ◌<◌, ◌≤◌, ◌^◌, false, true, Bool, cond, ltb, List, [], ◌∷◌, ◌++◌, length, Option, Some, None, refl, sym, ap, subst, ◌∙◌, arith}
use Rattle.std.specs.Prelude.{map, is_some, not, codes, ◌&&◌, ◌||◌, ◌==◌, IfSome, MatchBool, Result, Ok, Err, IfOk}
use Rattle.std.specs.List.{list_any}
use Rattle.std.specs.Option.{option_map_or}
use Rattle.std.proofs.lemmas.Bool.{ltb-false, and_right}
use Rattle.std.proofs.lemmas.Slice.Eq.{bytes_eq-Decides}
use Rattle.const_pool.specs.declared.class.ClassFile.{ClassFile}
use Rattle.const_pool.specs.declared.class.Member.{Member}
use Rattle.const_pool.specs.declared.class.CodeAttribute.{CodeAttribute}
use Rattle.const_pool.specs.declared.class.Raw.{Raw}
use Rattle.const_pool.specs.declared.pool.Const.{Const}
use Rattle.const_pool.specs.ClassFile.{class_bytes}
use Rattle.const_pool.specs.References.{named_text, same_text_at}
use Rattle.const_pool.specs.Tail.{with_tail}
use Rattle.code_model.specs.declared.instr.Code.{Code}
use Rattle.code_model.specs.declared.instr.Instr.{Instr}
use Rattle.code_model.specs.declared.laying.Homes.{Homes}
use Rattle.code_model.specs.declared.laying.Laid.{Laid}
use Rattle.code_model.specs.Layout.{first_far}
use Rattle.jvm_model.specs.declared.event.Mark.{Mark}
use Rattle.jvm_model.specs.declared.event.Mark.TheVariants.{Off, Plain, Root}
use Rattle.jvm_model.specs.Basis.Descriptors.{same_text}
use Rattle.jvm_model.specs.Basis.Methods.{code_of}
use Rattle.jvm_model.specs.Rewriting.Images.{is_off, all_off, IsMarkedMember, IsMemberImage, AreMemberImages, IsOriginal, IsRewritten, IsImage, next_number}
use Rattle.jvm_model.specs.Rewriting.ImageTables.{moved_lines, moved_variables, moved_frames_of, is_stack_map_table, image_attribute, added_stack_map_table, image_attributes}
use Rattle.jvm_model.specs.Rewriting.Versions.{IsVersion, entry_probe, leave_probe, unwind_code, group_of, laid_version, code_with}
use Rattle.jvm_model.proofs.Images.ImageSizes.{image-le}
use Rattle.inject_events.specs.declared.error.Cause.TheVariants as cause
use Rattle.inject_events.specs.declared.error.InjectError.{InjectError}
use Rattle.inject_events.specs.declared.image.Image.{Image}
use Rattle.inject_events.specs.declared.methods.MethodImage.{MethodImage}
use Rattle.inject_events.specs.declared.probes.Probes.{Probes}
use Rattle.inject_events.specs.declared.settings.Setting.{Setting}
use Rattle.inject_events.specs.declared.settings.Table.{Table}
use Rattle.inject_events.specs.declared.settings.Table.TheVariants as table
use Rattle.inject_events.specs.Answers.{IsReadableBody, HasReadableBody, HaveReadableBodies, IsReadableClass, MarkedHaveCode, IsImageAnswer}
use Rattle.inject_events.specs.Settings.{tail_of, setting_of, probes_in}
use Rattle.inject_events.specs.Probing.{laid_with, first_marked}
use Rattle.inject_events.specs.Rewriting.{instrs_in, version_of, far_cause, version_cause, cause_of_coded, cause_of_method, image_of_coded, image_of_method, images_from, original_of, image_of_marked, image_of, refused_from, is_full_pool, refused_of_marked, refused_of}
use Rattle.inject_events.specs.Tables.{moved_table, moved_raw, is_frame_table, has_frames, added_tables, version_tables}
use Rattle.inject_events.proofs.InstrsIn.{instrs_in-is}
use Rattle.inject_events.proofs.Rooms.{IsMadeWhole-none, none_of}
use Rattle.inject_events.proofs.Refusals.{here-none}

-- ---- the tables of a Code

-- a text is not two texts
two-texts : (text a b : List ℕ) → same_text a b ≡ false → same_text text a ≡ true → same_text text b ≡ false
two-texts text a b differ is = subst (λ (t : List ℕ). same_text t b ≡ false) (sym ((bytes_eq-Decides text a).0 is)) differ

abbrev lines : List ℕ
lines = codes "LineNumberTable"

abbrev variables : List ℕ
variables = codes "LocalVariableTable"

abbrev types : List ℕ
types = codes "LocalVariableTypeTable"

abbrev frames : List ℕ
frames = codes "StackMapTable"

-- which table an attribute is, by four tests of its name
abbrev table_by : Bool → Bool → Bool → Bool → Table
table_by a b t f = cond a table.Lines (cond b table.Variables (cond t table.Variables (cond f table.Frames table.Other)))

table-moved : (s : Setting) (homes : Homes) (end : ℕ) (bytes : List ℕ) (a b t f : Bool) → moved_table s homes end (table_by a b t f) bytes
    ≡ cond a (moved_lines homes bytes) (cond (b || t) (moved_variables homes bytes) (cond f (moved_frames_of s.tail.throwable homes end bytes) bytes))
table-moved s homes end bytes true b t f = refl
table-moved s homes end bytes false true t f = refl
table-moved s homes end bytes false false true f = refl
table-moved s homes end bytes false false false true = refl
table-moved s homes end bytes false false false false = refl

raw-is : (c : ClassFile) (homes : Homes) (end : ℕ) (raw : Raw) → moved_raw (setting_of c) homes end raw ≡ image_attribute c homes end raw
raw-is c homes end raw =
    let s : Setting = setting_of c in
    let pool : List Const = with_tail c.pool in
    ap (λ (bytes : List ℕ). let r : Raw = record { name = raw.name; bytes = bytes } in r)
    (table-moved s homes end raw.bytes (same_text_at pool raw.name lines) (same_text_at pool raw.name variables) (same_text_at pool raw.name types) (s.framed && same_text_at pool raw.name frames))

raws-are : (c : ClassFile) (homes : Homes) (end : ℕ) (raws : List Raw) → map (moved_raw (setting_of c) homes end) raws ≡ map (image_attribute c homes end) raws
raws-are c homes end [] = refl
raws-are c homes end (raw ∷ rest) =
    ap (λ (r : Raw). r ∷ map (moved_raw (setting_of c) homes end) rest) (raw-is c homes end raw)
    ∙ ap (λ (rs : List Raw). image_attribute c homes end raw ∷ rs) (raws-are c homes end rest)

frames-alone : (a b t f : Bool) → (a ≡ true → f ≡ false) → (b ≡ true → f ≡ false) → (t ≡ true → f ≡ false) → is_frame_table (table_by a b t f) ≡ f
frames-alone true b t f na nb nt = sym (na refl)
frames-alone false true t f na nb nt = sym (nb refl)
frames-alone false false true f na nb nt = sym (nt refl)
frames-alone false false false true na nb nt = refl
frames-alone false false false false na nb nt = refl

table-of-frames : (framed : Bool) (found : Option (List ℕ))
    → (let is : List ℕ → Bool = λ text. option_map_or (λ (t : List ℕ). same_text t text) found false in
    is_frame_table (table_by (is lines) (is variables) (is types) (framed && is frames)) ≡ (framed && is frames))
table-of-frames true None = refl
table-of-frames false None = refl
table-of-frames framed (Some text) =
    frames-alone (same_text text lines) (same_text text variables) (same_text text types) (framed && same_text text frames)
    (λ is. and_right framed (same_text text frames) (two-texts text lines frames refl is))
    (λ is. and_right framed (same_text text frames) (two-texts text variables frames refl is))
    (λ is. and_right framed (same_text text frames) (two-texts text types frames refl is))

frames-there : (c : ClassFile) (raws : List Raw) → has_frames (setting_of c) raws ≡ list_any (λ (raw : Raw). is_stack_map_table c raw.name) raws
frames-there c [] = refl
frames-there c (raw ∷ rest) =
    ap (λ (b : Bool). b || has_frames (setting_of c) rest) (table-of-frames (c.major == 50) (named_text (with_tail c.pool) raw.name))
    ∙ ap (λ (b : Bool). is_stack_map_table c raw.name || b) (frames-there c rest)

tables-are : (c : ClassFile) (homes : Homes) (end : ℕ) (raws : List Raw) → version_tables (setting_of c) homes end raws ≡ image_attributes c homes end raws
tables-are c homes end raws =
    ap (λ (rs : List Raw). rs ++ added_tables (setting_of c) homes end raws) (raws-are c homes end raws)
    ∙ ap (λ (b : Bool). map (image_attribute c homes end) raws ++ cond ((c.major == 50) && not b) (added_stack_map_table c homes end ∷ []) []) (frames-there c raws)

-- ---- one method

-- the probes of a version
abbrev version_probes : ℕ → ℕ → Mark → Probes
version_probes count number mark = record { entry = entry_probe count number mark; leave = leave_probe count number; unwind = unwind_code count number }

none-far : (far : Option ℕ) → far_cause far ≡ None → far ≡ None
none-far None none = refl
none-far (Some at) none = absurd cc

-- a version, whichever mark the method has
version-is : (c : ClassFile) (number : ℕ) (mark : Mark) (old : CodeAttribute) → IsReadableBody old → (let s : Setting = setting_of c in version_cause s number mark old ≡ None)
    → probes_in (tail_of c.pool) number mark ≡ version_probes (length c.pool) number mark
    → IsVersion (length c.pool) number mark old (version_of (setting_of c) number mark old).code (version_of (setting_of c) number mark old).homes
version-is c number mark old body none alike =
    let s : Setting = setting_of c in
    let reading : Code = body.readable.reading in
    let is : instrs_in old.code ≡ reading.instrs = instrs_in-is old.code reading body.readable.reads in
    let probes : Probes = probes_in s.tail number mark in
    let same : laid_with probes (instrs_in old.code) ≡ laid_version (length c.pool) number mark reading.instrs =
    ap (laid_with probes) is ∙ ap (λ (p : Probes). laid_with p reading.instrs) alike in
    let whole = (IsMadeWhole-none s number mark old none).layout in
    let parts = none_of (ltb 65535 (length (laid_with probes (instrs_in old.code)).code)) cause.Length (far_cause (first_far probes.entry (map (group_of probes.leave) (instrs_in old.code)))) whole in
    let far : first_far probes.entry (map (group_of probes.leave) (instrs_in old.code)) ≡ None = none-far _ parts.1 in
    record {
      reading = reading;
      reads = body.readable.reads;
      moved = ap (λ l. l.homes) same;
      code = ap (code_with old) same;
      short = subst (λ (l : Laid). length l.code ≤ 65535) same (ltb-false 65535 (length (laid_with probes (instrs_in old.code)).code) parts.0);
      near = subst (λ (p : Probes). first_far p.entry (map (group_of p.leave) reading.instrs) ≡ None) alike
          (subst (λ (is : List Instr). first_far probes.entry (map (group_of probes.leave) is) ≡ None) is far);
    }

marked-coded : (c : ClassFile) (number : ℕ) (mark : Mark) (m : Member) (code : Option CodeAttribute) → code_of m ≡ code → IfSome code IsReadableBody → is_some code ≡ true
    → cause_of_coded (setting_of c) number mark code ≡ None → probes_in (tail_of c.pool) number mark ≡ version_probes (length c.pool) number mark
    → (let image : MethodImage = image_of_coded (setting_of c) number mark m code in (moved : Homes) × IsMarkedMember c number mark m image.member moved × (image.homes ≡ Some moved))
marked-coded c number mark m None coded body has none alike = absurd cc
marked-coded c number mark m (Some old) coded body has none alike =
    let version = version_of (setting_of c) number mark old in (
      version.homes,
      record {
        before = old;
        after = version.code;
        coded = coded;
        version = version-is c number mark old body none alike;
        tables = tables-are c version.homes (length old.code) old.attributes;
        replaced = refl;
      },
      refl,
    )

member-image : (c : ClassFile) (number : ℕ) (mark : Mark) (m : Member) → HasReadableBody m → (is_off mark ≡ false → is_some (code_of m) ≡ true) → cause_of_method (setting_of c) number mark m ≡ None
    → (let image : MethodImage = image_of_method (setting_of c) number mark m in IsMemberImage c number mark m image.member image.homes)
member-image c number Off m body has none = (refl, refl)
member-image c number Plain m body has none = marked-coded c number Plain m (code_of m) refl body (has refl) none refl
member-image c number Root m body has none = marked-coded c number Root m (code_of m) refl body (has refl) none refl

-- ---- all methods

member-images : (c : ClassFile) (number position : ℕ) (marks : List Mark) (methods : List Member) → length marks ≡ length methods → HaveReadableBodies methods → MarkedHaveCode marks methods
    → refused_from (setting_of c) number position marks methods ≡ None
    → (let images : List MethodImage = images_from (setting_of c) number marks methods in
    AreMemberImages c number marks methods (map (λ (i : MethodImage). i.member) images) (map (λ (i : MethodImage). i.homes) images))
member-images c number position [] [] counted bodies have none = tt
member-images c number position (mark ∷ marks) (m ∷ methods) counted bodies have none =
    let parts = here-none position (cause_of_method (setting_of c) number mark m) (refused_from (setting_of c) (next_number number m) (position + 1) marks methods) none in (
      member-image c number mark m (bodies 0 m refl) have.0 parts.0,
      member-images c (next_number number m) (position + 1) marks methods (omega (arith, counted)) (λ k n at. bodies (suc k) n at) have.1 parts.1,
    )
member-images c number position [] (m ∷ methods) counted bodies have none = absurd (omega (arith, counted))
member-images c number position (mark ∷ marks) [] counted bodies have none = absurd (omega (arith, counted))

-- ---- the class

image-is : (c : ClassFile) (first : ℕ) (marks : List Mark) → IsReadableClass c → length marks ≡ length c.methods → MarkedHaveCode marks c.methods → refused_of c first marks ≡ None
    → IsImage c first marks (image_of c first marks).class (image_of c first marks).homes
image-is c first marks readable counted have none = by_off (all_off marks) none
  where
    by_off : (off : Bool) → cond off None (refused_of_marked c first marks) ≡ None
        → (let image : Image = cond off (original_of c) (image_of_marked c first marks) in MatchBool off (IsOriginal c image.class image.homes) (IsRewritten c first marks image.class image.homes))
    by_off true none = record { class_stays = refl; unmoved = refl }
    by_off false none =
        let parts = none_of (is_full_pool c) (first_marked marks, cause.Pool) (refused_from (setting_of c) first 0 marks c.methods) none in
        record { methods = member-images c first 0 marks c.methods counted readable.bodies have parts.1; rest = refl }

pub IsImage-answer : (c : ClassFile) (first : ℕ) (marks : List Mark) (answer : Result Image InjectError) → IsReadableClass c → length marks ≡ length c.methods
    → IsImageAnswer answer (refused_of c first marks) (image_of c first marks) → IfOk answer (λ (image : Image). MarkedHaveCode marks c.methods → IsImage c first marks image.class image.homes)
IsImage-answer c first marks (Ok image) readable counted is =
    λ have. subst (λ (i : Image). IsImage c first marks i.class i.homes) (sym is.1) (image-is c first marks readable counted have is.0)
IsImage-answer c first marks (Err error) readable counted is = tt

-- its bytes can be counted where those of the class are as many as a class file may have
pub small-answer : (c : ClassFile) (first : ℕ) (marks : List Mark) (answer : Result Image InjectError) → IfOk answer (λ (image : Image). MarkedHaveCode marks c.methods → IsImage c first marks image.class image.homes)
    → IfOk answer (λ (image : Image). MarkedHaveCode marks c.methods → length (class_bytes c) ≤ 4194304 → length (class_bytes image.class) < 2 ^ 32)
small-answer c first marks (Ok image) is = λ have few. let most = image-le c first marks image.class image.homes (is have) in omega arith
small-answer c first marks (Err error) is = tt
