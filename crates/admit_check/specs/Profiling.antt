-- Classes of which each method with Code can be rewritten with probes: admission asks it of all of them at once. It
-- then holds of every choice of such methods and of every number from which they are counted (inject_events, clause
-- `profilable` of `instrument`).
use Rattle.std.specs.Prelude.{◌≡◌, ℕ, Option, Some, slice_get}
use Rattle.std.specs.Option.{option_map}
use Rattle.const_pool.specs.declared.class.ClassFile.{ClassFile}
use Rattle.const_pool.specs.declared.class.CodeAttribute.{CodeAttribute}
use Rattle.const_pool.specs.declared.class.Member.{Member}
use Rattle.jvm_model.specs.Basis.Methods.{code_of}
use Rattle.inject_events.specs.Rewriting.{Refused, refused_of, all_plain}
use Rattle.inject_events.specs.Settings.{setting_of}
use Rattle.inject_events.specs.SoundTables.{HasSoundTables}
use Rattle.code_admission.specs.declared.error.AdmitError.{AdmitError}
use Rattle.code_admission.specs.declared.error.AdmitError.TheVariants.{NotProfilable}

abbrev pub refusal_told : ℕ → Refused → AdmitError
refusal_told k refused = NotProfilable k refused.0 refused.1

-- the first method that cannot be rewritten, and why
abbrev pub profiling_fault : ℕ → ClassFile → Option AdmitError
profiling_fault k c = option_map (refusal_told k) (refused_of c 0 (all_plain c))

-- the tables of each code are such as are moved where it is rewritten (proofs/SoundCodes)
abbrev pub HaveSoundTables : ClassFile → Type 0
HaveSoundTables c = (k : ℕ) (m : Member) (code : CodeAttribute) → slice_get c.methods k ≡ Some m → code_of m ≡ Some code → HasSoundTables (setting_of c) code
