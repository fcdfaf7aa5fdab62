-- Parts of a version: the code with its probes, its exception table, and what is told where there is none.
use Rattle.std.specs.Prelude.{ℕ, ◌+◌, Bool, true, false, List, [], ◌∷◌, ◌++◌, map, Some, if◌then◌else◌}
use Rattle.const_pool.specs.declared.class.Attribute.{Attribute}
use Rattle.const_pool.specs.declared.class.Attribute.TheVariants.{ConstantValue, Code, Other}
use Rattle.const_pool.specs.declared.class.CodeAttribute.{CodeAttribute}
use Rattle.const_pool.specs.declared.class.Handler.{Handler}
use Rattle.const_pool.specs.declared.class.Member.{Member}
use Rattle.code_model.specs.declared.instr.Instr.{Instr}
use Rattle.code_model.specs.declared.laying.Homes.{Homes}
use Rattle.code_model.specs.declared.laying.Laid.{Laid}
use Rattle.code_model.specs.declared.laying.LayError.{LayError}
use Rattle.code_model.specs.declared.laying.LayError.TheVariants as lay
use Rattle.code_model.specs.Layout.{laid_of}
use Rattle.jvm_model.specs.declared.event.Mark.{Mark}
use Rattle.jvm_model.specs.Rewriting.Versions.{group_of, moved_handler, catch_all}
use Rattle.jvm_model.specs.Rewriting.Images.{is_off, with_code_among, with_code}
use Rattle.inject_events.specs.declared.error.Cause.TheVariants.{Length, Branch}
use Rattle.inject_events.specs.declared.error.InjectError.{InjectError}
use Rattle.inject_events.specs.declared.error.InjectError.TheVariants as inject
use Rattle.inject_events.specs.declared.error.NoVersion.{NoVersion}
use Rattle.inject_events.specs.declared.error.NoVersion.TheVariants.{Limit, NoMemory}
use Rattle.inject_events.specs.declared.methods.MethodImage.{MethodImage}
use Rattle.inject_events.specs.declared.probes.Probes.{Probes}
use Rattle.inject_events.specs.declared.versions.Version.{Version}

-- the code with these probes
abbrev pub laid_with : Probes → List Instr → Laid
laid_with probes instrs = laid_of probes.entry (map (group_of probes.leave) instrs) probes.unwind

-- an attribute of a method that gets this code
abbrev pub with_code_at : CodeAttribute → Attribute → Attribute
with_code_at code (Code name old) = Code name code
with_code_at code (ConstantValue name index) = ConstantValue name index
with_code_at code (Other raw) = Other raw

-- the same where one in front of it may have got the code
abbrev pub coded_at : Bool → CodeAttribute → Attribute → Attribute
coded_at placed code attribute = if placed then attribute else with_code_at code attribute

abbrev pub is_code : Attribute → Bool
is_code (Code name code) = true
is_code (ConstantValue name index) = false
is_code (Other raw) = false

abbrev pub coded_among : Bool → CodeAttribute → List Attribute → List Attribute
coded_among placed code attributes = if placed then attributes else with_code_among code attributes

-- a method with this version of its code
abbrev pub image_with : Version → Member → MethodImage
image_with version m = record { member = with_code version.code m; homes = Some version.homes }

-- the exception table by homes, and the entry for what leaves the original code, which ends here
abbrev pub handlers_by : Homes → List Handler → ℕ → List Handler
handlers_by homes handlers end = map (moved_handler homes) handlers ++ catch_all homes end ∷ []

-- why there is no version, where there is no layout
abbrev pub no_version : LayError → NoVersion
no_version (lay.TooLong len) = Limit Length
no_version (lay.Far at) = Limit Branch
no_version lay.NoMemory = NoMemory

-- what is told where the method at this position has none
abbrev pub refusal : ℕ → NoVersion → InjectError
refusal position (Limit cause) = inject.NotProfilable position cause
refusal position NoMemory = inject.NoMemory

-- the position of the first marked method: the marks in front of it are off
abbrev pub first_marked : List Mark → ℕ
first_marked [] = 0
first_marked (mark ∷ marks) = if is_off mark then first_marked marks + 1 else 0
