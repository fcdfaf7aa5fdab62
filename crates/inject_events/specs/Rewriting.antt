-- Versions and images of any class, as functions: what becomes of a method's Code, of a method and of the class, and
-- the first limit that is passed (JVM Specification 4.1, 4.7.3).
use Rattle.std.specs.Prelude.{ℕ, zero, suc, ◌+◌, Bool, List, [], ◌∷◌, length, map, max, Option, Some, None, is_some, nat_lt, ◌==◌, if◌then◌else◌}
use Rattle.std.specs.Option.{option_map_or, option_or}
use Rattle.const_pool.specs.declared.class.ClassFile.{ClassFile}
use Rattle.const_pool.specs.declared.class.CodeAttribute.{CodeAttribute}
use Rattle.const_pool.specs.declared.class.Member.{Member}
use Rattle.const_pool.specs.ClassFile.{code_bytes}
use Rattle.code_model.specs.declared.instr.Instr.{Instr}
use Rattle.code_model.specs.declared.laying.Homes.{Homes}
use Rattle.code_model.specs.declared.laying.Laid.{Laid}
use Rattle.code_model.specs.Instructions.{instruction_at, end_of}
use Rattle.code_model.specs.Layout.{first_far}
use Rattle.jvm_model.specs.declared.event.Mark.{Mark}
use Rattle.jvm_model.specs.declared.event.Mark.TheVariants.{Off, Plain, Root}
use Rattle.jvm_model.specs.Rewriting.Images.{all_off, next_number}
use Rattle.jvm_model.specs.Basis.Methods.{code_of}
use Rattle.jvm_model.specs.Rewriting.Versions.{group_of}
use Rattle.inject_events.specs.declared.error.Cause.{Cause}
use Rattle.inject_events.specs.declared.error.Cause.TheVariants as cause
use Rattle.inject_events.specs.declared.image.Image.{Image}
use Rattle.inject_events.specs.declared.methods.MethodImage.{MethodImage}
use Rattle.inject_events.specs.declared.methods.Methods.{Methods}
use Rattle.inject_events.specs.declared.probes.Probes.{Probes}
use Rattle.inject_events.specs.declared.settings.Setting.{Setting}
use Rattle.inject_events.specs.declared.versions.Version.{Version}
use Rattle.inject_events.specs.Probing.{laid_with, handlers_by, image_with, first_marked}
use Rattle.inject_events.specs.Settings.{setting_of, probes_in}
use Rattle.inject_events.specs.Tables.{version_tables, are_frames_full}

-- ---- the instructions of a code, one after the other from this offset on, and so many at most

unfoldable pub instrs_from : ℕ → List ℕ → ℕ → List Instr
instrs_from zero bytes at = []
instrs_from (suc n) bytes at = if nat_lt at (length bytes) then option_map_or (λ (i : Instr). i ∷ instrs_from n bytes (end_of i)) (instruction_at bytes at) [] else []

abbrev pub instrs_in : List ℕ → List Instr
instrs_in bytes = instrs_from (length bytes) bytes 0

-- ---- the version of a Code

-- The Code around code that was laid out with these homes. Its handlers are the old ones by homes, and then the one
-- that takes what leaves the old code.
abbrev pub code_around : Setting → CodeAttribute → List ℕ → Homes → CodeAttribute
code_around s old code homes = record old {
  max_stack = max (old.max_stack + 1) 2;
  code = code;
  handlers = handlers_by homes old.handlers (length old.code);
  attributes = version_tables s homes (length old.code) old.attributes;
}

abbrev pub version_around : Setting → CodeAttribute → Laid → Version
version_around s old laid = record { code = code_around s old laid.code laid.homes; homes = laid.homes }

abbrev pub laid_version_of : Setting → ℕ → Mark → CodeAttribute → Laid
laid_version_of s number mark old = laid_with (probes_in s.tail number mark) (instrs_in old.code)

abbrev pub version_of : Setting → ℕ → Mark → CodeAttribute → Version
version_of s number mark old = version_around s old (laid_version_of s number mark old)

-- ---- the first limit that it would pass

-- of the max_stack, the exception table and the frames
abbrev pub room_cause : Setting → CodeAttribute → Option Cause
room_cause s old =
    if old.max_stack == 65535 then Some cause.Stack
    else if length old.handlers == 65535 then Some cause.Handlers
    else if are_frames_full s old.attributes then Some cause.Frames
    else None

-- of the code, and of its branches
abbrev pub far_cause : Option ℕ → Option Cause
far_cause (Some at) = Some cause.Branch
far_cause None = None

abbrev pub layout_cause : Probes → List Instr → Option Cause
layout_cause probes instrs =
    if nat_lt 65535 (length (laid_with probes instrs).code) then Some cause.Length
    else far_cause (first_far probes.entry (map (group_of probes.leave) instrs))

-- of the Code attribute, whose length is a u4
abbrev pub is_too_large : CodeAttribute → Bool
is_too_large code = nat_lt 4294967295 (length (code_bytes code))

abbrev pub size_cause : CodeAttribute → Option Cause
size_cause code = if is_too_large code then Some cause.Length else None

-- of the code and of the whole
abbrev pub code_cause : Setting → ℕ → Mark → CodeAttribute → Option Cause
code_cause s number mark old =
    option_or (layout_cause (probes_in s.tail number mark) (instrs_in old.code)) (size_cause (version_of s number mark old).code)

abbrev pub version_cause : Setting → ℕ → Mark → CodeAttribute → Option Cause
version_cause s number mark old = option_or (room_cause s old) (code_cause s number mark old)

-- ---- a method

abbrev pub unmarked_image : Member → MethodImage
unmarked_image m = record { member = m; homes = None }

abbrev pub image_of_coded : Setting → ℕ → Mark → Member → Option CodeAttribute → MethodImage
image_of_coded s number mark m (Some old) = image_with (version_of s number mark old) m
image_of_coded s number mark m None = unmarked_image m

-- the method itself where its mark is Off, or where it has no Code
abbrev pub image_of_method : Setting → ℕ → Mark → Member → MethodImage
image_of_method s number Off m = unmarked_image m
image_of_method s number Plain m = image_of_coded s number Plain m (code_of m)
image_of_method s number Root m = image_of_coded s number Root m (code_of m)

abbrev pub cause_of_coded : Setting → ℕ → Mark → Option CodeAttribute → Option Cause
cause_of_coded s number mark (Some old) = version_cause s number mark old
cause_of_coded s number mark None = None

abbrev pub cause_of_method : Setting → ℕ → Mark → Member → Option Cause
cause_of_method s number Off m = None
cause_of_method s number Plain m = cause_of_coded s number Plain (code_of m)
cause_of_method s number Root m = cause_of_coded s number Root (code_of m)

-- ---- all methods, those with Code numbered from here on

abbrev pub images_from : Setting → ℕ → List Mark → List Member → List MethodImage
images_from s number [] methods = []
images_from s number (mark ∷ marks) [] = []
images_from s number (mark ∷ marks) (m ∷ methods) = image_of_method s number mark m ∷ images_from s (next_number number m) marks methods

-- a method's position and its cause
abbrev pub Refused : Type 0
Refused = ℕ × Cause

abbrev pub refused_here : ℕ → Option Cause → Option Refused → Option Refused
refused_here position (Some why) later = Some (position, why)
refused_here position None later = later

-- the first method that has a cause, the positions counted from here on
abbrev pub refused_from : Setting → ℕ → ℕ → List Mark → List Member → Option Refused
refused_from s number position [] methods = None
refused_from s number position (mark ∷ marks) [] = None
refused_from s number position (mark ∷ marks) (m ∷ methods) =
    refused_here position (cause_of_method s number mark m) (refused_from s (next_number number m) (position + 1) marks methods)

-- ---- the class

abbrev pub methods_of_images : List MethodImage → Methods
methods_of_images images = record { members = map (λ (i : MethodImage). i.member) images; homes = map (λ (i : MethodImage). i.homes) images }

-- the class with these methods in place of its own
abbrev pub image_with_methods : ClassFile → Setting → Methods → Image
image_with_methods c s methods = record { class = record c { pool = s.tail.pool; methods = methods.members }; homes = methods.homes }

abbrev pub image_of_marked : ClassFile → ℕ → List Mark → Image
image_of_marked c first marks = image_with_methods c (setting_of c) (methods_of_images (images_from (setting_of c) first marks c.methods))

abbrev pub original_of : ClassFile → Image
original_of c = record { class = c; homes = map (λ m. None) c.methods }

-- The image of a class for these marks, whose first method with Code has this number: the class itself where no method
-- is marked.
abbrev pub image_of : ClassFile → ℕ → List Mark → Image
image_of c first marks = if all_off marks then original_of c else image_of_marked c first marks

-- a pool without room for the tail
abbrev pub is_full_pool : ClassFile → Bool
is_full_pool c = nat_lt 65535 (length c.pool + 18)

abbrev pub refused_of_marked : ClassFile → ℕ → List Mark → Option Refused
refused_of_marked c first marks = if is_full_pool c then Some (first_marked marks, cause.Pool) else refused_from (setting_of c) first 0 marks c.methods

-- The first marked method that has a cause, and its first cause. A pool without room for its tail is a cause of each.
abbrev pub refused_of : ClassFile → ℕ → List Mark → Option Refused
refused_of c first marks = if all_off marks then None else refused_of_marked c first marks

-- the mark with which admission tries a method: one without Code is never rewritten
abbrev pub plain_mark : Member → Mark
plain_mark m = if is_some (code_of m) then Plain else Off

-- a mark for each method: Plain for those that have Code, and Off for the others
abbrev pub all_plain : ClassFile → List Mark
all_plain c = map plain_mark c.methods
