-- The tables of a code that has no fault are such as rewriting moves.
use Rattle.std.proofs.Common.{◌≡◌, ℕ, zero, suc, ◌+◌, Bool, true, false, cond, List, [], ◌∷◌, length, Option, Some, None, refl, sym, ap, subst, ◌∙◌, eqb-true, arith}
use Rattle.std.specs.Prelude.{Result, Ok, Err, Contains, IfSome, codes, is_ok, not, slice_get, ◌&&◌, ◌==◌, ◌||◌}
use Rattle.std.specs.List.{AllByRecursion, list_all}
use Rattle.std.specs.Option.{ok_or, option_and_then, option_map, option_map_or, option_or}
use Rattle.std.specs.Result.{result_ok}
use Rattle.std.proofs.lemmas.Bool.{and_parts}
use Rattle.std.proofs.lemmas.List.Elements.{All-contains_itself, All-from_recursion, Contains-append_right}
use Rattle.std.proofs.lemmas.Option.{same_Some, none-some}
use Rattle.jf_bytes.proofs.Lists.{each_at}
use Rattle.const_pool.specs.declared.pool.Const.{Const}
use Rattle.const_pool.specs.declared.pool.Const.TheVariants.{Utf8}
use Rattle.const_pool.specs.declared.pool.PoolError.TheVariants.{BadIndex}
use Rattle.const_pool.specs.declared.class.ClassFile.{ClassFile}
use Rattle.const_pool.specs.declared.class.CodeAttribute.{CodeAttribute}
use Rattle.const_pool.specs.declared.class.Member.{Member}
use Rattle.const_pool.specs.declared.class.Raw.{Raw}
use Rattle.const_pool.specs.declared.descriptor.Kind.{Kind}
use Rattle.const_pool.specs.ClassFile.{IsByte, IsClassFile, IsCode, IsMember, IsMethodAttribute, IsRaw}
use Rattle.const_pool.specs.Pool.{entry_of, is_utf8}
use Rattle.const_pool.specs.References.{◌>>=◌, named_text, same_text_at, text_entry}
use Rattle.const_pool.specs.Tail.{tail_entries, with_tail}
use Rattle.code_model.specs.declared.error.CodeError.{CodeError}
use Rattle.code_model.specs.declared.instr.Instr.{Instr}
use Rattle.jvm_model.specs.Basis.Descriptors.{same_text}
use Rattle.jvm_model.specs.Basis.Methods.{code_of}
use Rattle.jvm_model.proofs.Images.ImagePools.{named_text-more}
use Rattle.stackmap_shift.specs.declared.error.FrameError.{FrameError}
use Rattle.stackmap_shift.specs.declared.frames.Frame.{Frame}
use Rattle.stackmap_shift.specs.DebugTables.{lines_of, variables_of}
use Rattle.stackmap_shift.specs.Frames.{frames_of}
use Rattle.inject_events.specs.declared.settings.Setting.{Setting}
use Rattle.inject_events.specs.declared.settings.Table.TheVariants as table
use Rattle.inject_events.specs.Answers.{IsReadableBody, IsReadableClass}
use Rattle.inject_events.specs.Settings.{setting_of}
use Rattle.inject_events.specs.SoundTables.{starts_of, HasSoundFrames, IsSoundTable, HasSoundTables}
use Rattle.inject_events.specs.Tables.{table_of}
use Rattle.inject_events.proofs.InstrsIn.{instrs_in-is}
use Rattle.inject_events.proofs.Rooms.{neither}
use Rattle.code_admission.specs.declared.codes.CodeFault.{CodeFault}
use Rattle.code_admission.specs.declared.error.AdmitError.{AdmitError}
use Rattle.code_admission.specs.declared.error.CodeCause.TheVariants as cause
use Rattle.code_admission.specs.Checks.{fault_if, first_of, first_in, first_from}
use Rattle.code_admission.specs.Codes.{instr_fault, falls, handler_fault, table_fault, read_fault, fault_by, code_fault, fault_at, method_with, result_of, told_in, method_fault, codes_fault}
use Rattle.code_admission.specs.CodeTables.{fits_frame, fits_frame_kind, fits_frames, fits_raw, is_frame_name}
use Rattle.code_admission.specs.Floating.{floating_fault}
use Rattle.admit_check.specs.Profiling.{HaveSoundTables, profiling_fault}
use Rattle.admit_check.specs.Shapes.{shape_fault}
use Rattle.code_model.specs.Groups.{is_start}
use Rattle.code_admission.proofs.Decoded.{reading_is_read}
use Rattle.stackmap_shift.proofs.FramesRead.{frames_of-writable}
use Rattle.jvm_model.proofs.Running.FormedCodes.{code-among}

-- ---- starts

start-contained : (instrs : List Instr) (at : ℕ) → is_start instrs at ≡ true → Contains (starts_of instrs) at
start-contained [] at is = absurd cc
start-contained (i ∷ rest) at is = by_here (i.at == at) refl is (λ later. start-contained rest at later)
  where
    by_here : (here : Bool) → (i.at == at) ≡ here → (here || is_start rest at) ≡ true → (is_start rest at ≡ true → Contains (starts_of rest) at) → Contains (starts_of (i ∷ rest)) at
    by_here true same is later = subst (Contains (starts_of (i ∷ rest))) (eqb-true i.at at same) (All-contains_itself (starts_of (i ∷ rest)) 0 i.at (omega arith))
    by_here false same is later = Contains-append_right (i.at ∷ []) (starts_of rest) at (later is)

frames-stand : (instrs : List Instr) (frames : List Frame) → list_all (fits_frame instrs) frames ≡ true → AllByRecursion (λ (f : Frame). Contains (starts_of instrs) f.at) frames
frames-stand instrs [] fit = tt
frames-stand instrs (f ∷ rest) fit =
    let parts = and_parts (fits_frame instrs f) (list_all (fits_frame instrs) rest) fit in
    (start-contained instrs f.at (and_parts (is_start instrs f.at) (fits_frame_kind instrs f.kind) parts.0).0, frames-stand instrs rest parts.1)

-- ---- a table

module _ (instrs : List Instr) (bytes : List ℕ) (formed : AllByRecursion IsByte bytes) where
  frames-sound : (read : Result (List Frame) FrameError) → frames_of bytes ≡ read → fits_frames instrs read ≡ true → HasSoundFrames (starts_of instrs) bytes
  frames-sound (Err fault) is fit = absurd cc
  frames-sound (Ok frames) is fit = record {
    frames = frames;
    read = is;
    writable = frames_of-writable bytes frames formed is;
    stand = All-from_recursion (λ (f : Frame). Contains (starts_of instrs) f.at) frames (frames-stand instrs frames fit);
  }

  frames-by : (framed is_frames : Bool) → cond is_frames (fits_frames instrs (frames_of bytes)) true ≡ true
      → IsSoundTable (starts_of instrs) (cond (framed && is_frames) table.Frames table.Other) bytes
  frames-by true true fit = frames-sound (frames_of bytes) refl fit
  frames-by true false fit = tt
  frames-by false is_frames fit = tt

  table-by : (lines variables types framed is_frames : Bool)
      → cond lines (is_ok (lines_of bytes)) (cond variables (is_ok (variables_of bytes)) (cond types (is_ok (variables_of bytes)) (cond is_frames (fits_frames instrs (frames_of bytes)) true))) ≡ true
      → IsSoundTable (starts_of instrs) (cond lines table.Lines (cond variables table.Variables (cond types table.Variables (cond (framed && is_frames) table.Frames table.Other)))) bytes
  table-by true variables types framed is_frames fit = fit
  table-by false true types framed is_frames fit = fit
  table-by false false true framed is_frames fit = fit
  table-by false false false framed is_frames fit = frames-by framed is_frames fit

-- a name that the pool has is the same with the tail behind it
utf8-named : (found : Option Const) → option_map_or is_utf8 found false ≡ true → (t : List ℕ) × (result_ok (ok_or (option_and_then entry_of found) BadIndex >>= text_entry) ≡ Some t)
utf8-named (Some (Utf8 t)) is = (t, refl)
utf8-named (Some _) is = absurd cc
utf8-named None is = absurd cc

same-name : (pool : List Const) (name : ℕ) → option_map_or is_utf8 (slice_get pool name) false ≡ true → named_text (with_tail pool) name ≡ named_text pool name
same-name pool name is =
    let text = utf8-named (slice_get pool name) is in
    named_text-more pool (tail_entries (length pool)) name text.0 text.1 ∙ sym text.1

raw-sound : (pool : List Const) (s : Setting) (instrs : List Instr) (raw : Raw) → s.tail.pool ≡ with_tail pool → IsRaw pool raw → fits_raw pool instrs raw ≡ true
    → IsSoundTable (starts_of instrs) (table_of s raw.name) raw.bytes
raw-sound pool s instrs raw tailed formed fit =
    let same : named_text s.tail.pool raw.name ≡ named_text pool raw.name = ap (λ (p : List Const). named_text p raw.name) tailed ∙ same-name pool raw.name formed.named in
    let is : (found : Option (List ℕ)) → List ℕ → Bool = λ found text. option_map_or (λ (t : List ℕ). same_text t text) found false in
    subst (λ (found : Option (List ℕ)). IsSoundTable (starts_of instrs)
    (cond (is found (codes "LineNumberTable")) table.Lines (cond (is found (codes "LocalVariableTable")) table.Variables (cond (is found (codes "LocalVariableTypeTable")) table.Variables
    (cond (s.framed && is found (codes "StackMapTable")) table.Frames table.Other)))) raw.bytes) (sym same)
    (table-by instrs raw.bytes formed.bytes (same_text_at pool raw.name (codes "LineNumberTable")) (same_text_at pool raw.name (codes "LocalVariableTable")) (same_text_at pool raw.name (codes "LocalVariableTypeTable"))
    s.framed (is_frame_name pool raw.name) fit)

-- ---- all tables of a code

fits-none : (fits : Bool) (fault : CodeFault) → fault_if (not fits) fault ≡ None → fits ≡ true
fits-none true fault none = refl
fits-none false fault none = absurd cc

raws-sound : (pool : List Const) (s : Setting) (instrs : List Instr) (raws : List Raw) → s.tail.pool ≡ with_tail pool → AllByRecursion (IsRaw pool) raws
    → first_in (table_fault pool instrs) raws ≡ None → AllByRecursion (λ (raw : Raw). IsSoundTable (starts_of instrs) (table_of s raw.name) raw.bytes) raws
raws-sound pool s instrs [] tailed formed none = tt
raws-sound pool s instrs (raw ∷ rest) tailed formed none =
    let parts = neither (table_fault pool instrs raw) (first_in (table_fault pool instrs) rest) none in
    (raw-sound pool s instrs raw tailed formed.0 (fits-none (fits_raw pool instrs raw) (fault_at 0 cause.Table) parts.0), raws-sound pool s instrs rest tailed formed.1 parts.1)

tables-none : (pool : List Const) (result : Option Kind) (code : CodeAttribute) (instrs : List Instr) → read_fault (method_with pool result instrs code.max_locals) code ≡ None
    → first_in (table_fault pool instrs) code.attributes ≡ None
tables-none pool result code instrs none =
    let tables : Option CodeFault = first_in (table_fault pool instrs) code.attributes in
    let handlers : Option CodeFault = first_in (handler_fault instrs (length code.code)) code.handlers in
    let each : Option CodeFault = first_in (instr_fault (method_with pool result instrs code.max_locals)) instrs in
    let a = neither each (option_or (falls instrs) (option_or handlers (option_or tables None))) none in
    let b = neither (falls instrs) (option_or handlers (option_or tables None)) a.1 in
    let d = neither handlers (option_or tables None) b.1 in
    (neither tables None d.1).0

code-sound : (pool : List Const) (s : Setting) (result : Option Kind) (code : CodeAttribute) → s.tail.pool ≡ with_tail pool → IsCode pool code → IsReadableBody code
    → code_fault pool result code ≡ None → HasSoundTables s code
code-sound pool s result code tailed formed readable none =
    let reading = readable.readable.reading in
    let reads = readable.readable.reads in
    let read : fault_by pool result code (Ok reading.instrs) ≡ None = subst (λ (r : Result (List Instr) CodeError). fault_by pool result code r ≡ None) (reading_is_read code.code reading reads) none in
    subst (λ (instrs : List Instr). AllByRecursion (λ (raw : Raw). IsSoundTable (starts_of instrs) (table_of s raw.name) raw.bytes) code.attributes) (sym (instrs_in-is code.code reading reads))
    (raws-sound pool s reading.instrs code.attributes tailed formed.attributes (tables-none pool result code reading.instrs read))

-- ---- the methods of a class

told-none : (k at : ℕ) (fault : Option CodeFault) → option_map (told_in k at) fault ≡ None → fault ≡ None
told-none k at None none = refl
told-none k at (Some fault) none = absurd cc

-- no method at a place has a fault
each-none : (k : ℕ) (pool : List Const) (first : ℕ) (methods : List Member) (n : ℕ) (m : Member) → first_from (method_fault k pool) first methods ≡ None → slice_get methods n ≡ Some m
    → (at : ℕ) × (method_fault k pool at m ≡ None)
each-none k pool first [] n m none at = absurd (none-some m at)
each-none k pool first (x ∷ rest) zero m none at =
    (first, subst (λ (y : Member). method_fault k pool first y ≡ None) (same_Some x m at) (neither (method_fault k pool first x) (first_from (method_fault k pool) (first + 1) rest) none).0)
each-none k pool first (x ∷ rest) (suc n) m none at =
    each-none k pool (first + 1) rest n m (neither (method_fault k pool first x) (first_from (method_fault k pool) (first + 1) rest) none).1 at

method-sound : (k at : ℕ) (pool : List Const) (s : Setting) (m : Member) (code : CodeAttribute) → s.tail.pool ≡ with_tail pool → IsMember IsMethodAttribute pool m → IfSome (code_of m) IsReadableBody
    → code_of m ≡ Some code → method_fault k pool at m ≡ None → HasSoundTables s code
method-sound k at pool s m code tailed formed readable coded none =
    let fine : code_fault pool (result_of pool m) code ≡ None =
    told-none k at (code_fault pool (result_of pool m) code) (subst (λ (o : Option CodeAttribute). option_map (told_in k at) (option_and_then (code_fault pool (result_of pool m)) o) ≡ None) coded none) in
    code-sound pool s (result_of pool m) code tailed (code-among pool m.attributes code formed.attributes coded) (subst (λ (o : Option CodeAttribute). IfSome o IsReadableBody) coded readable) fine

pub tables-sound : (k : ℕ) (c : ClassFile) → IsClassFile c → IsReadableClass c → codes_fault k c ≡ None → HaveSoundTables c
tables-sound k c formed readable none = λ n m code at coded.
    let fine = each-none k c.pool 0 c.methods n m none at in
    method-sound k fine.0 c.pool (setting_of c) m code refl (each_at (IsMember IsMethodAttribute c.pool) c.methods n m formed.methods at) (readable.bodies n m at) coded fine.1

-- ---- a class without a fault

codes-none : (named : Option AdmitError) (k : ℕ) (c : ClassFile) → first_of (named ∷ shape_fault k c ∷ codes_fault k c ∷ floating_fault k c ∷ profiling_fault k c ∷ []) ≡ None → codes_fault k c ≡ None
codes-none named k c fine =
    let behind_codes : Option AdmitError = option_or (floating_fault k c) (option_or (profiling_fault k c) None) in
    let behind_shape : Option AdmitError = option_or (codes_fault k c) behind_codes in
    let a = neither named (option_or (shape_fault k c) behind_shape) fine in
    let b = neither (shape_fault k c) behind_shape a.1 in
    (neither (codes_fault k c) behind_codes b.1).0

pub tables-class : (named : Option AdmitError) (k : ℕ) (c : ClassFile) → IsClassFile c → IsReadableClass c
    → first_of (named ∷ shape_fault k c ∷ codes_fault k c ∷ floating_fault k c ∷ profiling_fault k c ∷ []) ≡ None → HaveSoundTables c
tables-class named k c formed readable fine = tables-sound k c formed readable (codes-none named k c fine)
