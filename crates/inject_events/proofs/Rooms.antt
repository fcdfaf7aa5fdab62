-- What it means that a version passes no limit.
use Rattle.std.proofs.Common.{◌≡◌, ℕ, ◌≤◌, Bool, true, false, cond, eqb, length, Option, Some, None, refl}
use Rattle.std.specs.Prelude.{◌&&◌, ◌==◌}
use Rattle.std.specs.Option.{option_or}
use Rattle.std.proofs.lemmas.Bool.{ltb-false, or_parts}
use Rattle.const_pool.specs.declared.class.CodeAttribute.{CodeAttribute}
use Rattle.const_pool.specs.ClassFile.{code_bytes}
use Rattle.jvm_model.specs.declared.event.Mark.{Mark}
use Rattle.inject_events.specs.declared.error.Cause.{Cause}
use Rattle.inject_events.specs.declared.error.Cause.TheVariants as cause
use Rattle.inject_events.specs.declared.settings.Setting.{Setting}
use Rattle.inject_events.specs.Settings.{probes_in}
use Rattle.inject_events.specs.Tables.{has_full_table, lacks_frames, are_frames_full}
use Rattle.inject_events.specs.Rewriting.{instrs_in, room_cause, layout_cause, size_cause, is_too_large, code_cause, version_cause, version_of}

-- ---- options and tests

pub neither : {A : Type 0} (a b : Option A) → option_or a b ≡ None → (a ≡ None) × (b ≡ None)
neither None b none = (refl, none)
neither (Some x) b none = absurd cc

pub none_of : {A : Type 0} (b : Bool) (x : A) (rest : Option A) → cond b (Some x) rest ≡ None → (b ≡ false) × (rest ≡ None)
none_of false x rest none = (refl, none)
none_of true x rest none = absurd cc

pub and_fails : (a b : Bool) → (a && b) ≡ false → a ≡ true → b ≡ false
and_fails true b none is = none
and_fails false b none is = absurd cc

-- ---- a version

pub record HasRoom (s : Setting) (old : CodeAttribute) : Type 0 where
  pub stack : (old.max_stack == 65535) ≡ false
  pub handlers : (length old.handlers == 65535) ≡ false
  pub full : has_full_table s old.attributes ≡ false
  pub added : (lacks_frames s old.attributes && (length old.attributes == 65535)) ≡ false

pub HasRoom-none : (s : Setting) (old : CodeAttribute) → room_cause s old ≡ None → HasRoom s old
HasRoom-none s old none =
    let frames : Option Cause = cond (are_frames_full s old.attributes) (Some cause.Frames) None in
    let a = none_of (eqb old.max_stack 65535) cause.Stack (cond (eqb (length old.handlers) 65535) (Some cause.Handlers) frames) none in
    let b = none_of (eqb (length old.handlers) 65535) cause.Handlers frames a.1 in
    let c = none_of (are_frames_full s old.attributes) cause.Frames None b.1 in
    let d = or_parts (has_full_table s old.attributes) (lacks_frames s old.attributes && eqb (length old.attributes) 65535) c.0 in
    record { stack = a.0; handlers = b.0; full = d.0; added = d.1 }

pub record IsMadeWhole (s : Setting) (number : ℕ) (mark : Mark) (old : CodeAttribute) : Type 0 where
  pub room : HasRoom s old
  pub layout : layout_cause (probes_in s.tail number mark) (instrs_in old.code) ≡ None
  pub size : length (code_bytes (version_of s number mark old).code) ≤ 4294967295

pub IsMadeWhole-none : (s : Setting) (number : ℕ) (mark : Mark) (old : CodeAttribute) → version_cause s number mark old ≡ None → IsMadeWhole s number mark old
IsMadeWhole-none s number mark old none =
    let a = neither (room_cause s old) (code_cause s number mark old) none in
    let b = neither (layout_cause (probes_in s.tail number mark) (instrs_in old.code)) (size_cause (version_of s number mark old).code) a.1 in
    let c = none_of (is_too_large (version_of s number mark old).code) cause.Length None b.1 in
    record { room = HasRoom-none s old a.0; layout = b.0; size = ltb-false 4294967295 (length (code_bytes (version_of s number mark old).code)) c.0 }
